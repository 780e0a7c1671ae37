use Rattle.dv_check.proofs.Writable.{text_writable}
use Rattle.dv_check.proofs.laws.files_of_texts_are_writable.Goals as goal

pub returns : goal.returns
returns c text names tokens f lexed parsed =
    text_writable text names tokens f (c.tokens_are_no_more_than_bytes.ensures text names tokens lexed) lexed parsed
