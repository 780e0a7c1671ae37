use Rattle.std.proofs.Common.{List, ℕ, ap, sym, subst, ◌∙◌}
use Rattle.dv_bag.specs.Part.{PartOf}
use Rattle.dv_record.specs.Told.{Handed}
use Rattle.dv_lines.specs.Records.{IsText, Recorded, handed_of}
use Rattle.dv_text.specs.Texts.{part_text}
use Rattle.dv_lines.proofs.Views.{seen}
use Rattle.dv_lines.proofs.Recording.{handed_on}
use Rattle.dv_lines.proofs.text_record.TextRecordRecord.let_go.Goals as goal

pub invariant_of-self : goal.invariant_of-self
invariant_of-self c =
    let inside = c.self.inside in
    let kept = c.self.invariant in
    let r = seen inside.tree.now inside.told.part inside.settled.part inside.handed.part inside.lines in
    let same = ap (λ (v : Recorded). v.settled) c.self.view_is ∙ c.requires ∙ sym (ap (λ (v : Recorded). v.told) c.self.view_is) in
    let handed = part_text r.names r.outputs c.again-self-inside.result.part in (
      kept.0,
      kept.1,
      kept.2,
      kept.3,
      subst (λ (bytes : List ℕ). IsText (record r { handed = handed; bytes = bytes }) 0) (sym c.clear.ensures)
          (handed_on r inside.mark kept.4 same handed (ap (part_text r.names r.outputs) c.again-self-inside.ensures)),
    )

pub returns-clause-handed : goal.returns-clause-handed
returns-clause-handed c =
    let inside = c.self.inside in
    let r = seen inside.tree.now inside.told.part inside.settled.part inside.handed.part inside.lines in
    ap (λ (p : PartOf). let k : Handed = record (handed_of r) { text = part_text r.names r.outputs p } in k) c.again-self-inside.ensures
    ∙ ap (λ (v : Recorded). let k : Handed = record (handed_of v) { text = part_text v.names v.outputs v.told } in k) c.self.view_is
