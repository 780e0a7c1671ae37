-- The bytes stand behind what stood in front of the index.
use Rattle.std.proofs.Common.{rules, ◌+◌, ◌≤◌, ◌++◌, take, length, ◌-◌, ap, ◌∙◌, arith}
use Rattle.std.proofs.lemmas.List.{length-take-le}
use borrow.Rule.Slice.PartMut.{put_mid, post_of}
use Rattle.dv_written.proofs.Behind.{behind}
use Rattle.dv_lines.proofs.pieces.put_sixteen.Goals as goal

pub returns-clause-text : goal.returns-clause-text
returns-clause-text c =
    let at = c.args.at in
    let count = c.args.count in
    let size = length-take-le at c.args.to.now (omega (arith, c.requires.room)) in
    let few : count ≤ length c.copy_from_slice.new.self = search rules in
    let room : at + count ≤ length (put_mid at (at + 16 - at) c.args.to.now c.copy_from_slice.new.self) = search rules in (
      room,
      behind (take at c.args.to.now) c.copy_from_slice.new.self (post_of at (at + 16 - at) c.args.to.now) at count size few
          ∙ ap (λ ys. take at c.args.to.now ++ take count ys) c.copy_from_slice.ensures.after,
    )
