use Rattle.dv_inputs.proofs.Cuts.{first_field, found, is_other, missed, no_field}
use Rattle.dv_inputs.proofs.fields.split_field.Goals as goal

pub returns-in_err-field_offset : goal.returns-in_err-field_offset
returns-in_err-field_offset c =
    rw c.from_residual.ensures (no_field c.args.line.now (missed is_other c.args.line.now c.in_err-field_offset.ensures))

pub returns : goal.returns
returns c =
    let at = found is_other c.args.line.now c.in_ok-field_offset.field-0 c.in_ok-field_offset.ensures in
    rw (c.split_at.ensures.front, c.split_at.ensures.back)
    (first_field c.args.line.now c.bytes_from-fields.result.now c.in_ok-field_offset.field-0 c.field_len.result at.0 at.1
    c.bytes_from-fields.ensures c.field_len.ensures)
