use Rattle.std.proofs.Common.{◌∙◌, ap, sym, get_or, arith}
use Rattle.std.proofs.lemmas.Option.{get_or_from_slice_get, slice_get-get_or}
use Rattle.dv_share.specs.declared.index.Indexed.{Indexed}
use Rattle.dv_share.proofs.Order.{never_falls, nowhere}
use Rattle.dv_share.proofs.Indices.{found_here, nothing_found}
use Rattle.dv_share.proofs.index.item_at.Goals.{else-cursor-items-via-then-cursor-items+else-items-cursor}
use Rattle.dv_share.proofs.index.item_at.Goals.{else-cursor-items-via-else-cursor-items}
use Rattle.dv_share.proofs.index.item_at.Goals as goal

pub returns-then-items-cursor : goal.returns-then-items-cursor
returns-then-items-cursor g c =
    let xs = c.args.items.now in
    let i = c.args.cursor in
    let read = c.index-items-cursor.result in
    let d = c.index-items-cursor-then-items-cursor.result in
    let same = get_or_from_slice_get xs i (get_or xs i read) d (slice_get-get_or xs i read c.if-cursor-items.true) in
    let here = ap (λ (x : Indexed _). x.index) same ∙ c.if-items-cursor.true in
    sym (found_here c.args.index i d xs c.requires.rise c.if-cursor-items.true here)

pub returns-else-cursor-items : goal.returns-else-cursor-items
returns-else-cursor-items g c =
    let p = c.args.index in
    let i = c.args.cursor in
    let xs = c.args.items.now in
    let index = λ (x : Indexed _). x.index in
    let next = c.requires.next in
    sym (nothing_found p xs
    (nowhere index p i xs c.requires.rise
    (λ k d lt within. next.before k d (omega arith) lt)
    (λ k d le lt. let rest = never_falls index xs c.requires.rise i k d le lt in
    let low = next.next d (omega (arith, le, lt)) in omega (arith, low, rest))
    (λ d lt e. elim c.else-cursor-items.branch [
      | else-cursor-items-via-then-cursor-items+else-items-cursor w ↦
          absurd
          (w.if-items-cursor.false
          (ap (λ (x : Indexed _). x.index) (get_or_from_slice_get xs i (get_or xs i d) w.index-items-cursor.result
          (slice_get-get_or xs i d lt)) ∙ e))
      | else-cursor-items-via-else-cursor-items w ↦ absurd (omega (arith, lt, w.if-cursor-items.false))
    ])))
