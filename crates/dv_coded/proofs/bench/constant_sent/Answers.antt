use Rattle.std.proofs.Common.{◌≡◌, ◌<◌, ℕ, [], Result, Ok, replicate, refl, ap, sym, ◌∙◌, arith}
use Rattle.std.specs.Prelude.{slice_set}
use Rattle.std.proofs.lemmas.Int.{to_z-of_z}
use Rattle.std.proofs.lemmas.List.{get_or-replicate}
use Rattle.dv_bag.specs.Arrivals.{nothing_arrived}
use Rattle.dv_bag.specs.Bag.{Counts, bag_at, with_copies}
use Rattle.dv_bag.specs.Outcome.{◌>>=◌}
use Rattle.dv_bag.specs.declared.fault.Fault.{Fault}
use Rattle.dv_bag.specs.declared.state.Effect.{Effect}
use Rattle.dv_code.specs.Shape.{Shape}
use Rattle.dv_code.proofs.ShortPrograms.{sent_given, sent_port}
use Rattle.dv_code.specs.declared.instruction.Leaf.TheVariants.{Number}
use mir.Syntax.{w64}
use mir.Val.{of_z, to_z}
use Rattle.dv_coded.proofs.bench.constant_sent.Goals as goal

pub of_one-requires : goal.of_one-requires
of_one-requires c =
    let within =
    sent_port c.args.program.now c.code-code.ensures.program c.args.state.now c.requires.fits (Number c.args.number) nothing_arrived
    refl c.args.port c.requires.short c.args.number refl in
    let ports : c.outputs.result ≡ c.args.program.now.shape.outputs =
    c.outputs.ensures ∙ ap (λ (shape : Shape). shape.outputs) c.shape.ensures in
    omega (arith, within, ports, c.from.ensures)

pub returns : goal.returns
returns c =
    let ports : c.outputs.result ≡ c.args.program.now.shape.outputs =
    c.outputs.ensures ∙ ap (λ (shape : Shape). shape.outputs) c.shape.ensures in
    let blank = replicate {A = Counts} c.outputs.result [] in
    let within =
    sent_port c.args.program.now c.code-code.ensures.program c.args.state.now c.requires.fits (Number c.args.number) nothing_arrived
    refl c.args.port c.requires.short c.args.number refl in
    let same = to_z-of_z w64 c.args.number c.ranges.number in
    let early : c.from.result < c.outputs.result = omega (arith, within, ports, c.from.ensures) in
    let none : bag_at blank c.from.result ≡ [] = get_or-replicate c.outputs.result c.from.result [] [] early in
    ap (λ (q : Result Effect Fault). q >>= λ x. Ok x.sent)
    (sent_given c.args.program.now c.code-code.ensures.program c.args.state.now c.requires.fits (Number c.args.number) nothing_arrived
    refl c.args.port c.requires.short c.args.number refl blank _
    (ap (λ (n : ℕ). replicate {A = Counts} n []) ports)
    (c.of_one.ensures
    ∙ ap (λ (b : Counts). slice_set blank c.from.result (with_copies (to_z w64 (of_z w64 c.args.number)) 1 b)) (sym none)
    ∙ (λ i. slice_set blank (c.from.ensures i) (with_copies (same i) 1 (bag_at blank (c.from.ensures i))))))
