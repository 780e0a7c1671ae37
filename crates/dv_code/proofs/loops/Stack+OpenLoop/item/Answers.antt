use Rattle.std.proofs.Common.{◌<◌, List, length, Some, Ok, ℤ, sym, ap, ◌∙◌, arith, rules}
use Rattle.std.proofs.lemmas.Int.{to_z-of_z}
use Rattle.std.proofs.lemmas.List.{length-reverse}
use Rattle.dv_bag.specs.declared.value.Value.TheVariants.{Number}
use Rattle.dv_code.specs.Operations.{item_of}
use Rattle.dv_code.specs.Turns.{items_in}
use Rattle.dv_code.specs.declared.open_loop.OpenLoop.{OpenLoop}
use Rattle.dv_code.proofs.Innermost.{item_at}
use mir.Syntax.{w64}
use mir.Val.{SFits}
use Rattle.dv_code.proofs.loops.Stack+OpenLoop.item.Goals as goal

pub returns : goal.returns
returns c =
    let loops = c.self.inside.values.items in
    let there = c.index.result.now in
    let within : c.args.number < length loops = omega (arith, c.requires, ap length c.self.view_is, length-reverse loops) in
    let number : SFits w64 c.item.result = search rules in
    ap (λ (ls : List OpenLoop). item_of (items_in ls) c.args.number) (sym c.self.view_is)
    ∙ item_at (λ (l : OpenLoop). l.item) loops c.args.number there within
    ∙ ap (λ (l : OpenLoop). Some (Ok (Number l.item))) (sym c.index.ensures)
    ∙ ap (λ (n : ℤ). Some (Ok (Number n))) (sym c.item.ensures ∙ sym (to_z-of_z w64 c.item.result number))
