use Rattle.std.proofs.Common.{Some, Ok, ℤ, sym, ap, ◌∙◌, arith, rules}
use Rattle.std.proofs.lemmas.Int.{to_z-of_z}
use Rattle.std.proofs.lemmas.List.{length-map}
use Rattle.dv_bag.specs.declared.value.Value.TheVariants.{Number}
use Rattle.dv_code.specs.Machine.{Turn}
use Rattle.dv_code.specs.Turns.{turn_of, turns_of}
use Rattle.dv_code.proofs.Innermost.{has_item, same_items}
use mir.Syntax.{w64}
use mir.Val.{SFits}
use Rattle.dv_code.proofs.leaf.leaf_value.Goals as goal

pub item-requires : goal.item-requires
item-requires c =
    let loops = c.args.loops.now in
    let turns = turns_of c.args.arrivals.now loops in
    let within = has_item (λ (t : Turn). t.item) turns c.in-Item.number (rw c.in-Item.is at c.requires) in
    rw c.from-in-Item.ensures (omega (arith, within, length-map loops (turn_of c.args.arrivals.now)))

pub returns-in-Item : goal.returns-in-Item
returns-in-Item c =
    let number : SFits w64 c.item.result = search rules in
    rw (c.in-Item.is, same_items c.args.arrivals.now c.args.loops.now, sym c.from-in-Item.ensures)
    (c.item.ensures ∙ ap (λ (n : ℤ). Some (Ok (Number n))) (sym (to_z-of_z w64 c.item.result number)))
