use Rattle.std.proofs.Common.{◌++◌, List, ℕ, ap, sym, subst, ◌∙◌}
use Rattle.dv_bag.specs.Part.{PartOf}
use Rattle.dv_lines.specs.Records.{IsText, Recorded}
use Rattle.dv_record.specs.Told.{IsOpenAt, lines_from}
use Rattle.dv_written.specs.Faults.{has_fault}
use Rattle.dv_lines.proofs.Views.{seen}
use Rattle.dv_lines.proofs.Recording.{with_outers}
use Rattle.dv_lines.proofs.text_record.TextRecordRecord.left.Goals as goal

pub invariant_of-self : goal.invariant_of-self
invariant_of-self c =
    let inside = c.self.inside in
    let kept = c.self.invariant in
    let r = seen inside.tree.now inside.told.part inside.settled.part inside.handed.part inside.lines in
    let same = sym c.in_err-all_left.ensures.err in
    (kept.0, kept.1, kept.2, kept.3, subst (λ (bytes : List ℕ). IsText (record r { bytes = bytes }) inside.mark) same kept.4)

pub invariant_of-self-2 : goal.invariant_of-self-2
invariant_of-self-2 c =
    let inside = c.self.inside in
    let kept = c.self.invariant in
    let r = seen inside.tree.now inside.told.part inside.settled.part inside.handed.part inside.lines in
    let can = subst (λ (v : Recorded). IsOpenAt c.args.time v.told) (sym c.self.view_is) c.requires.is_open in
    let text = with_outers r inside.mark kept.4 c.args.time c.args.values.now c.all_left.new.lines can
    (c.in_ok-all_left.ensures.ok r.outputs kept.1) in (
      kept.0,
      kept.1,
      kept.2 ∙ ap has_fault (sym c.and_left-self-inside.ensures),
      kept.3,
      subst (λ (p : PartOf). IsText (record r { told = p; bytes = c.all_left.new.lines }) inside.mark)
          (sym c.and_left-self-inside.ensures) text,
    )

pub returns-clause-told : goal.returns-clause-told
returns-clause-told c =
    c.and_left-self-inside.ensures
    ∙ ap (λ (v : Recorded). record v.told { outer = v.told.outer ++ lines_from c.args.time 0 c.args.values.now }) c.self.view_is
