use Rattle.std.proofs.Common.{◌≡◌, ◌++◌, List, ℕ, ap, sym, subst, ◌∙◌}
use Rattle.dv_text.specs.Texts.{part_text}
use Rattle.dv_lines.specs.Records.{Recorded}
use Rattle.dv_lines.proofs.text_record.TextRecordRecord.bytes.Goals as goal

pub returns : goal.returns
returns c =
    let told = subst (λ (v : Recorded). part_text v.names v.outputs v.told ≡ v.handed ++ v.bytes) c.self.view_is
    c.self.invariant.4.told_text in
    told
    ∙ ap (λ (bytes : List ℕ). c.args.self.now.handed ++ bytes)
    (sym (c.as_bytes.ensures ∙ ap (λ (v : Recorded). v.bytes) c.self.view_is))
