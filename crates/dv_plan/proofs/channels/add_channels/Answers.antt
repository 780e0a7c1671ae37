use Rattle.std.proofs.Common.{◌∙◌, ◌+◌, ◌-◌, ◌∷◌, ◌++◌, [], Bool, List, cond, ap, append_assoc, map, sym}
use Rattle.std.proofs.lemmas.List.{map-append}
use Rattle.dv_conservative.specs.World.{Channel as Meant}
use Rattle.dv_proc.specs.Channels.{meant_channel}
use Rattle.dv_plan.specs.Keys.{sends, sent_by}
use Rattle.dv_plan.proofs.Sent.{one_target}
use Rattle.dv_plan.proofs.channels.add_channels.Goals as goal
use Rattle.dv_plan.proofs.channels.add_channels.Goals.{then-sends_to+in_ok-push, else-sends_to}

pub loop-target-preserved : goal.loop-target-preserved
loop-target-preserved c =
    let n = c.args.processes in
    let p = c.args.source in
    let q = c.loop-target.target in
    let s = sends n (map (λ list. list.items) c.args.pairs.now) in
    let old = c.loop-target.found.items in
    let rest = sent_by s p (q + 1) (n - (q + 1)) in
    let one : Meant = record { source = p; target = q } in
    let whole : Bool → List Meant = λ b. map meant_channel old ++ cond b (one ∷ rest) rest in
    let before = ap (λ r. map meant_channel old ++ r) (sym (one_target s p q n c.loop-target-test.true)) ∙ c.loop-target.invariant in
    elim c.if-sends_to.branch [
      | then-sends_to+in_ok-push w ↦
          ap (λ v. map meant_channel v.items ++ rest) w.found-is
          ∙ ap (λ xs. map meant_channel xs ++ rest) w.in_ok-push.ensures.items
          ∙ ap (λ xs. xs ++ rest) (map-append meant_channel old (record { source = p; target = q } ∷ []))
          ∙ append_assoc (map meant_channel old) (one ∷ []) rest
          ∙ ap whole (sym w.if-sends_to.true ∙ c.sends_to.ensures)
          ∙ before
      | else-sends_to w ↦
          ap (λ v. map meant_channel v.items ++ rest) w.found-is
          ∙ ap whole (sym w.if-sends_to.false ∙ c.sends_to.ensures)
          ∙ before
    ]
