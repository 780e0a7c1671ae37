use Rattle.std.proofs.Common.{ℤ, Option, [], ap, sym, ◌∙◌, rules, unwrap_or, w64, pos}
use Rattle.std.specs.Option.{option_copied}
use Rattle.std.proofs.lemmas.Int.{to_z-of_z, to_z_pos}
use Rattle.dv_bag.specs.Bag.{Counts, count_of}
use Rattle.dv_bag.proofs.Copies.{few_copies}
use Rattle.dv_bag.proofs.bag.copies_of.Goals as goal

pub overflow_cast-result : goal.overflow_cast-result
overflow_cast-result c =
    let few = rw c.in-Some.is at c.requires in
    let small = few_copies _ c.in-Some.bag.now c.times.result few c.times.ensures in
    search (rules, small)

pub returns-in-Some : goal.returns-in-Some
returns-in-Some c =
    let few = rw c.in-Some.is at c.requires in
    let small = few_copies _ c.in-Some.bag.now c.times.result few c.times.ensures in
    let copies = c.times.ensures ∙ ap (λ (n : ℤ). count_of n c.in-Some.bag.now) (to_z-of_z w64 c.args.number c.ranges.number) in
    let bag = ap (λ (b : Option Counts). unwrap_or b []) (ap option_copied c.in-Some.is) in
    to_z_pos w64 c.times.result small ∙ ap pos (copies ∙ sym (ap (count_of c.args.number) bag))
