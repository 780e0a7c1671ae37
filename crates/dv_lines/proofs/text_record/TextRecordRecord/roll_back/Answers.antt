use Rattle.std.proofs.Common.{ap, sym, subst, ◌∙◌}
use Rattle.dv_bag.specs.Part.{PartOf}
use Rattle.dv_lines.specs.Records.{IsText, Recorded}
use Rattle.dv_written.specs.Faults.{has_fault}
use Rattle.dv_lines.proofs.Views.{seen}
use Rattle.dv_lines.proofs.Recording.{taken_back}
use Rattle.dv_lines.proofs.text_record.TextRecordRecord.roll_back.Goals as goal

pub invariant_of-self : goal.invariant_of-self
invariant_of-self c =
    let inside = c.self.inside in
    let kept = c.self.invariant in
    let r = seen inside.tree.now inside.told.part inside.settled.part inside.handed.part inside.lines in (
      kept.0,
      kept.1,
      kept.3 ∙ ap has_fault (sym c.again-self-inside.ensures),
      kept.3,
      subst (λ (p : PartOf). IsText (record r { told = p; bytes = c.cut.new.self }) inside.mark) (sym c.again-self-inside.ensures)
          (taken_back r inside.mark kept.4 c.cut.new.self c.cut.ensures),
    )

pub returns-clause-told : goal.returns-clause-told
returns-clause-told c = c.again-self-inside.ensures ∙ ap (λ (v : Recorded). v.settled) c.self.view_is
