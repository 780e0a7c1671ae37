use Rattle.std.proofs.Common.{◌≡◌, ℕ, List, [], length, Result, Ok, replicate, ap, sym, ◌∙◌}
use Rattle.std.proofs.lemmas.Bool.{eqb-true}
use Rattle.std.proofs.lemmas.List.{nil_from_length}
use Rattle.dv_bag.specs.Arrivals.{nothing_arrived}
use Rattle.dv_bag.specs.Bag.{Counts}
use Rattle.dv_bag.specs.Outcome.{◌>>=◌}
use Rattle.dv_bag.specs.Sent.{by_port}
use Rattle.dv_bag.specs.declared.fault.Fault.{Fault}
use Rattle.dv_bag.specs.declared.sent.Sending.{Sending}
use Rattle.dv_bag.specs.declared.state.Effect.{Effect}
use Rattle.dv_bag.proofs.Sendings.{nothing_by_port}
use Rattle.dv_code.specs.Shape.{Shape}
use Rattle.dv_code.specs.Valid.{IsSafe}
use Rattle.dv_coded.proofs.Machines.{nothing-few}
use Rattle.dv_coded.proofs.bench.send_nothing.Goals as goal

-- it is there already
pub returns-else-len-ports : goal.returns-else-len-ports
returns-else-len-ports c =
    let p = c.args.program.now in
    let into = c.args.into.now in
    let safe : IsSafe p = (c.code-code.ensures.program.valid, c.code-code.ensures.program.small) in
    let none : c.as_slice.result.now ≡ [] =
    nil_from_length c.as_slice.result.now (eqb-true (length c.as_slice.result.now) 0 (sym c.is_empty.ensures ∙ c.if-not-is_empty.false)) in
    let ports : length into ≡ p.shape.outputs =
    sym c.len.ensures ∙ c.if-len-ports.false ∙ c.outputs-ports.ensures ∙ ap (λ (shape : Shape). shape.outputs) c.shape.ensures in
    let empty : into ≡ replicate {A = Counts} p.shape.outputs [] =
    sym c.as_slice.ensures.all ∙ ap (λ (ss : List Sending). by_port (length into) ss) none ∙ nothing_by_port 0 (length into)
    ∙ ap (λ (n : ℕ). replicate {A = Counts} n []) ports in
    ap (λ (q : Result Effect Fault). q >>= λ x. Ok x.sent)
    (c.short_programs_do_what_they_say.ensures.nothing p safe nothing_arrived nothing-few c.args.state.now c.requires.fits
    c.requires.short)
    ∙ ap (λ (sent : List Counts). let r : Result (List Counts) Fault = Ok sent in r) (sym empty)
