use Rattle.dv_syntax.specs.Trees.{file_of}
use Rattle.dv_job.proofs.code.list_tree.Goals as goal

pub write_listing-requires : goal.write_listing-requires
write_listing-requires g c =
    let accepted = c.requires.accepted in
    let f = file_of c.args.tree.now.file in
    let writable = c.files_of_texts_are_writable.ensures c.args.model.now c.args.tree.now.names accepted.tokens f accepted.lexed
    accepted.parsed in
    c.accepted_files_are_compilable.ensures f writable accepted.checked
