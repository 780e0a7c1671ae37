use Rattle.std.proofs.Common.{◌∙◌, ◌+◌, ◌∷◌, ◌++◌, [], ap, append-nil, arith, drop, ext_get_or, get_or, length, map, subst, sym, zero-add}
use Rattle.std.specs.List.{range_with_len}
use Rattle.std.specs.Vec.Iter.{into_iter_items, into_iter_steps}
use Rattle.std.proofs.lemmas.List.{at_drop_all, at_drop_more, length-set}
use Rattle.std.proofs.lemmas.List.FromFn.{get_or-map-range_with_len, length-map-range_with_len}
use Rattle.dv_partition.specs.Steps.{with_key}
use Rattle.dv_partition.proofs.Parting.{one_item}
use Rattle.dv_partition.proofs.by_key.by_key.Goals as goal
use Rattle.dv_partition.proofs.by_key.by_key.Goals.{in-Some+in_ok-add_item, in_default}

pub loop-key-preserved : goal.loop-key-preserved
loop-key-preserved g c =
    let lists = map (λ list. list.items) c.loop-key.lists.items in
    let i = c.loop-key.key-index in
    let keys = c.args.keys.now in
    let key = get_or keys i 0 in
    let long = c.loop-key.invariant.long in
    let rest = into_iter_items c.next.new.self in
    elim c.match-next.branch [
      | in-Some+in_ok-add_item w ↦
          let step = subst (λ r. into_iter_steps c.loop-key.rest r c.next.new.self) w.in-Some.is c.next.ensures.cases in
          let x = w.in-Some.item in
          let after = ap (λ v. map (λ list. list.items) v.items) w.lists-is ∙ w.in_ok-add_item.ensures in
          record {
            long = ap length after ∙ length-set lists key (get_or lists key [] ++ x ∷ []) ∙ long;
            left = omega (arith, step.1, c.loop-key.invariant.left);
            due = λ k lt.
                ap (λ ls. get_or ls k [] ++ with_key k (drop (i + 1) keys) rest) after
                ∙ one_item lists key x (drop (i + 1) keys) rest k c.args.count long lt
                ∙ sym (at_drop_more (λ ks. get_or lists k [] ++ with_key k ks (x ∷ rest)) keys i 0 c.loop-key-test.true)
                ∙ ap (λ ys. get_or lists k [] ++ with_key k (drop i keys) ys) (sym step.0)
                ∙ c.loop-key.invariant.due k lt;
          }
      | in_default w ↦
          let step = subst (λ r. into_iter_steps c.loop-key.rest r c.next.new.self) w.in_default.is c.next.ensures.cases in
          absurd (omega (arith, step.0, c.loop-key.invariant.left, c.loop-key-test.true))
    ]

pub returns : goal.returns
returns g c =
    let lists = map (λ list. list.items) c.loop-key.lists.items in
    let i = c.loop-key.key-index in
    let keys = c.args.keys.now in
    let items = c.args.items.items in
    let long = c.loop-key.invariant.long in
    ext_get_or [] lists (map (λ k. with_key k keys items) (range_with_len 0 c.args.count))
    (long ∙ sym (length-map-range_with_len (λ k. with_key k keys items) 0 c.args.count))
    (λ k lt.
    sym (append-nil (get_or lists k []))
    ∙ sym (at_drop_all (λ ks. get_or lists k [] ++ with_key k ks (into_iter_items c.loop-key.rest)) keys i c.loop-key-test.false)
    ∙ c.loop-key.invariant.due k (omega (arith, lt, long))
    ∙ sym (get_or-map-range_with_len (λ k. with_key k keys items) 0 c.args.count k k [] (omega (arith, lt, long)) (zero-add k)))
