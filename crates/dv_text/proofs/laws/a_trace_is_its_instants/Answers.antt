use Rattle.std.proofs.Common.{◌++◌, ap, sym, ◌∙◌}
use Rattle.dv_time.specs.Time.{end_of}
use Rattle.dv_devs.specs.Network.{components_at, trace_before}
use Rattle.dv_text.specs.Texts.{ending_text}
use Rattle.dv_text.specs.declared.writing.Ending.TheVariants.{Whole}
use Rattle.dv_text.proofs.Instants.{trace-instants}
use Rattle.dv_text.proofs.Times.{part_text-merged}
use Rattle.dv_text.proofs.laws.a_trace_is_its_instants.Goals as goal

pub returns-clause-lines : goal.returns-clause-lines
returns-clause-lines g c =
    let law = c.instants_are_at_their_time.ensures in
    λ all outputs limit net inputs n.
    sym (part_text-merged all outputs (trace_before limit net inputs n) (c.parts_are_by_time.ensures.trace limit net inputs n))
    ∙ trace-instants limit net inputs all outputs (λ k. law.at limit net k (inputs k) (components_at limit net inputs k))
    (law.trace limit net inputs) n

pub returns-clause-whole : goal.returns-clause-whole
returns-clause-whole g c = λ all outputs limit net inputs horizon.
    ap (λ t. t ++ ending_text (Whole horizon)) (returns-clause-lines g c all outputs limit net inputs (end_of limit horizon))
