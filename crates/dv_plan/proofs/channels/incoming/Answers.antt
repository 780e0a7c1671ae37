use Rattle.std.proofs.Common.{◌∙◌, ◌+◌, ◌∷◌, ◌++◌, [], ap, append_assoc, drop, get_or, map, sym}
use Rattle.std.proofs.lemmas.List.{at_drop_more}
use Rattle.dv_conservative.specs.World.{incoming_from}
use Rattle.dv_proc.specs.Channels.{meant_channel}
use Rattle.dv_proc.specs.declared.channel.Channel.{Channel}
use Rattle.dv_plan.proofs.Leading.{leads_elsewhere, leads_here}
use Rattle.dv_plan.proofs.channels.incoming.Goals as goal
use Rattle.dv_plan.proofs.channels.incoming.Goals.{then-channel-process+in_ok-push, else-channel-process}

pub loop-number-preserved : goal.loop-number-preserved
loop-number-preserved c =
    let p = c.args.process in
    let i = c.loop-number.number in
    let channels = c.args.channels.now in
    let none : Channel = record { source = 0; target = 0 } in
    let here = get_or channels i none in
    let after = map meant_channel (drop (i + 1) channels) in
    let old = c.loop-number.found.items in
    let rest = incoming_from p (i + 1) after in
    let before = sym (at_drop_more (λ cs. old ++ incoming_from p i (map meant_channel cs)) channels i none c.loop-number-test.true)
    ∙ c.loop-number.invariant in
    elim c.if-channel-process.branch [
      | then-channel-process+in_ok-push w ↦
          ap (λ v. v.items ++ rest) w.found-is
          ∙ ap (λ xs. xs ++ rest) w.in_ok-push.ensures.items
          ∙ append_assoc old (i ∷ []) rest
          ∙ ap (λ r. old ++ r) (sym (leads_here p i (meant_channel here) after w.if-channel-process.true))
          ∙ before
      | else-channel-process w ↦
          ap (λ v. v.items ++ rest) w.found-is
          ∙ ap (λ r. old ++ r) (sym (leads_elsewhere p i (meant_channel here) after w.if-channel-process.false))
          ∙ before
    ]
