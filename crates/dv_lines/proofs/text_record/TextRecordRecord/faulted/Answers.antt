use Rattle.std.proofs.Common.{◌++◌, ◌∷◌, [], List, ℕ, ap, sym, subst, ◌∙◌}
use Rattle.dv_bag.specs.Part.{PartOf}
use Rattle.dv_bag.specs.declared.entry.What.TheVariants as what
use Rattle.dv_lines.specs.Records.{IsText, Recorded}
use Rattle.dv_record.specs.Told.{IsOpenAt, entry}
use Rattle.dv_written.specs.Faults.{has_fault}
use Rattle.dv_lines.proofs.Views.{seen}
use Rattle.dv_lines.proofs.Recording.{fault_more, with_entry}
use Rattle.dv_lines.proofs.text_record.TextRecordRecord.faulted.Goals as goal

pub invariant_of-self : goal.invariant_of-self
invariant_of-self c =
    let inside = c.self.inside in
    let kept = c.self.invariant in
    let r = seen inside.tree.now inside.told.part inside.settled.part inside.handed.part inside.lines in
    let same = sym c.in_err-faulted.ensures.err in
    (kept.0, kept.1, kept.2, kept.3, subst (λ (bytes : List ℕ). IsText (record r { bytes = bytes }) inside.mark) same kept.4)

pub invariant_of-self-2 : goal.invariant_of-self-2
invariant_of-self-2 c =
    let inside = c.self.inside in
    let kept = c.self.invariant in
    let r = seen inside.tree.now inside.told.part inside.settled.part inside.handed.part inside.lines in
    let e = entry c.args.time c.args.component (what.Fault c.args.fault) c.args.sent.now in
    let can = subst (λ (v : Recorded). IsOpenAt c.args.time v.told) (sym c.self.view_is) c.requires.is_open in
    let text = with_entry r inside.mark kept.4 e c.faulted.new.lines can (c.in_ok-faulted.ensures.ok r.names kept.0) in (
      kept.0,
      kept.1,
      sym (fault_more r.told e)
          ∙ ap has_fault (sym c.and_faulted-self-inside.ensures),
      kept.3,
      subst (λ (p : PartOf). IsText (record r { told = p; bytes = c.faulted.new.lines }) inside.mark)
          (sym c.and_faulted-self-inside.ensures) text,
    )

pub returns-clause-told : goal.returns-clause-told
returns-clause-told c =
    let e = entry c.args.time c.args.component (what.Fault c.args.fault) c.args.sent.now in
    c.and_faulted-self-inside.ensures ∙ ap (λ (v : Recorded). record v.told { entries = v.told.entries ++ e ∷ [] }) c.self.view_is
