use Rattle.std.proofs.Common.{◌≡◌, ℕ, ◌/◌, ◌≤◌, ◌∙◌, List, [], sym, ap, ap₂, length, map, take, drop, arith, subst}
use Rattle.std.specs.Global.{Vec}
use Rattle.std.specs.List.{All}
use Rattle.std.proofs.lemmas.List.{drop-map, length-map, nil_from_length, take-map}
use Rattle.std.proofs.lemmas.List.Elements.{All-drop, All-take}
use Rattle.dv_bag.specs.declared.entry.Outer.{Outer}
use Rattle.dv_devs.specs.Outside.{union_of_lines}
use Rattle.dv_conservative.specs.True.{united}
use Rattle.dv_merge.specs.Lines.{AreLines, list_at}
use Rattle.dv_merge.proofs.Merging.{alone}
use Rattle.dv_merge.proofs.Uniting.{are_united, one_list, two_halves}
use Rattle.dv_merge.proofs.lines.+unite_lines.Goals as goal
use Rattle.dv_merge.proofs.lines.+unite_lines.Goals.{in-Some, in-None}

abbrev items : Vec Outer → List Outer
items list = list.items

abbrev all_of : List (List Outer) → List Outer
all_of lists = united (list_at lists) (length lists)

pub returns-then-len-lt2 : goal.returns-then-len-lt2
returns-then-len-lt2 t c =
    elim c.match-pop.branch [
      | in-Some w ↦ rw w.result-is (λ h.
          let lists = c.args.lists.items in
          one_list (map items lists) w.in-Some.list.items h
          (alone items lists c.pop.new.self.items w.in-Some.list w.in-Some.ensures.items (omega arith)))
      | in-None w ↦ rw w.result-is (λ h.
          let lists = c.args.lists.items in
          let none : lists ≡ [] = nil_from_length lists (omega (arith, c.args.lists.ok.0, w.in-None.ensures.cases.0)) in
          w.new.ensures.items ∙ sym (ap (λ (l : List (Vec Outer)). all_of (map items l)) none))
    ]

pub returns : goal.returns
returns t c = λ h.
    let lists = c.args.lists.items in
    let lines = map items lists in
    let front = c.split_off.new.self.items in
    let back = c.in_ok-back.back.items in
    let half : ℕ = c.len-half.result / 2 in
    let within : half ≤ length lines = omega (arith, c.args.lists.ok.0, length-map lists items) in
    let front_is : map items front ≡ take half lines = ap (map items) c.in_ok-back.ensures.items ∙ sym (take-map items half lists) in
    let back_is : map items back ≡ drop half lines = ap (map items) c.in_ok-back.ensures.tail ∙ sym (drop-map items half lists) in
    let one = c.in_ok-first.ensures (subst (All AreLines) (sym front_is) (All-take AreLines half lines h)) in
    let two = c.in_ok-second.ensures (subst (All AreLines) (sym back_is) (All-drop AreLines half lines h)) in
    let second : c.in_ok-second.second.items ≡ all_of (drop half lines) = two ∙ ap all_of back_is in
    c.in_ok-unite_two.ensures (subst AreLines (sym second) (are_united (drop half lines) (All-drop AreLines half lines h)))
    ∙ (ap₂ union_of_lines (one ∙ ap all_of front_is) second ∙ two_halves lines half within h)
