use Rattle.std.proofs.Common.{◌∙◌, ◌+◌, ◌∷◌, ◌++◌, [], ap, append_assoc, drop, get_or, map, sym}
use Rattle.std.proofs.lemmas.List.{at_drop_more, map-append}
use Rattle.dv_conservative.specs.World.{outgoing_from}
use Rattle.dv_plan.specs.Channels.{away_of}
use Rattle.dv_proc.specs.Channels.{meant_channel}
use Rattle.dv_plan.specs.declared.channels.Away.{Away}
use Rattle.dv_proc.specs.declared.channel.Channel.{Channel}
use Rattle.dv_plan.proofs.Leading.{leads_away, stays_away}
use Rattle.dv_plan.proofs.channels.outgoing.Goals as goal
use Rattle.dv_plan.proofs.channels.outgoing.Goals.{then-channel-process+in_ok-push, else-channel-process}

pub loop-number-preserved : goal.loop-number-preserved
loop-number-preserved c = λ job.
    let p = c.args.process in
    let i = c.loop-number.number in
    let channels = c.args.channels.now in
    let none : Channel = record { source = 0; target = 0 } in
    let here = get_or channels i none in
    let after = map meant_channel (drop (i + 1) channels) in
    let old = c.loop-number.found.items in
    let rest = outgoing_from job p (i + 1) after in
    let one : Away = record { number = i; target = here.target } in
    let before = sym (at_drop_more (λ cs. map (away_of job p) old ++ outgoing_from job p i (map meant_channel cs)) channels i none
    c.loop-number-test.true)
    ∙ c.loop-number.invariant job in
    elim c.if-channel-process.branch [
      | then-channel-process+in_ok-push w ↦
          ap (λ v. map (away_of job p) v.items ++ rest) w.found-is
          ∙ ap (λ xs. map (away_of job p) xs ++ rest) w.in_ok-push.ensures.items
          ∙ ap (λ xs. xs ++ rest) (map-append (away_of job p) old (one ∷ []))
          ∙ append_assoc (map (away_of job p) old) (away_of job p one ∷ []) rest
          ∙ ap (λ r. map (away_of job p) old ++ r) (sym (leads_away p i (meant_channel here) after job w.if-channel-process.true))
          ∙ before
      | else-channel-process w ↦
          ap (λ v. map (away_of job p) v.items ++ rest) w.found-is
          ∙ ap (λ r. map (away_of job p) old ++ r) (sym (stays_away p i (meant_channel here) after job w.if-channel-process.false))
          ∙ before
    ]
