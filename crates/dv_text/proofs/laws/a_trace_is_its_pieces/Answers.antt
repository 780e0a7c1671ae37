use Rattle.std.proofs.Common.{◌++◌, sym, ap, subst, ◌∙◌}
use Rattle.dv_time.specs.Time.{time_of}
use Rattle.dv_bag.specs.Part.{IsByTime, PartOf, before}
use Rattle.dv_devs.specs.Cuts.{trace_between}
use Rattle.dv_devs.specs.Network.{trace_before}
use Rattle.dv_text.specs.Texts.{part_text}
use Rattle.dv_text.proofs.Times.{part_text-cut, since_by_time}
use Rattle.dv_text.proofs.laws.a_trace_is_its_pieces.Goals as goal

pub returns-clause-by_time : goal.returns-clause-by_time
returns-clause-by_time g c = λ limit net inputs n m le.
    subst IsByTime (c.the_rest_is_between.ensures.trace limit net inputs n m le)
    (since_by_time (time_of limit n) (trace_before limit net inputs m) (c.parts_are_by_time.ensures.trace limit net inputs m))

pub returns-clause-lines : goal.returns-clause-lines
returns-clause-lines g c = λ all outputs limit net inputs n m le.
    let lines = c.a_trace_is_its_instants.ensures.lines all outputs limit net inputs in
    let now = time_of limit n in
    let whole = trace_before limit net inputs m in
    let past = c.cuts_are_earlier_parts.ensures.trace limit net inputs n m le in
    let more = c.the_rest_is_between.ensures.trace limit net inputs n m le in
    ap (λ t. t ++ part_text all outputs (trace_between limit net inputs n m)) (sym (lines n) ∙ ap (part_text all outputs) (sym past))
    ∙ ap (λ (p : PartOf). part_text all outputs (before now whole) ++ part_text all outputs p) (sym more)
    ∙ part_text-cut all outputs now whole (c.parts_are_by_time.ensures.trace limit net inputs m)
    ∙ lines m
