use Rattle.std.proofs.Common.{ap, sym, subst, ◌∙◌}
use Rattle.dv_bag.specs.Part.{PartOf}
use Rattle.dv_lines.specs.Records.{IsText, Recorded}
use Rattle.dv_written.specs.Faults.{has_fault}
use Rattle.dv_lines.proofs.Views.{seen}
use Rattle.dv_lines.proofs.Recording.{settled_now}
use Rattle.dv_lines.proofs.text_record.TextRecordRecord.settle.Goals as goal

pub invariant_of-self : goal.invariant_of-self
invariant_of-self c =
    let inside = c.self.inside in
    let kept = c.self.invariant in
    let r = seen inside.tree.now inside.told.part inside.settled.part inside.handed.part inside.lines in (
      kept.0,
      kept.1,
      kept.2,
      kept.2 ∙ ap has_fault (sym c.again-self-inside.ensures),
      subst (λ (p : PartOf). IsText (record r { settled = p }) c.len-self-inside.result) (sym c.again-self-inside.ensures)
          (settled_now r inside.mark kept.4 c.len-self-inside.result c.len-self-inside.ensures),
    )

pub returns-clause-settled : goal.returns-clause-settled
returns-clause-settled c = c.again-self-inside.ensures ∙ ap (λ (v : Recorded). v.told) c.self.view_is
