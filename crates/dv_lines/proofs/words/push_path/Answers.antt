use Rattle.std.proofs.Common.{◌++◌, ◌∷◌, [], List, ℕ, ap, ◌∙◌, subst, sym}
use Rattle.std.specs.Prelude.{IfOk}
use Rattle.dv_tree.specs.Paths.{texts_of, with_dots}
use Rattle.dv_lines.specs.Tables.{IsWord, with_ends}
use Rattle.dv_lines.proofs.Tables.{path_there}
use Rattle.dv_lines.proofs.words.push_path.Goals as goal

pub returns-clause-word : goal.returns-clause-word
returns-clause-word c =
    let s = c.args.tree.now in
    let path = c.path.result.now in
    let text =
    c.deref.ensures
    ∙ c.in_ok-push_path.ensures
    ∙ ap (λ (front : List ℕ). front ++ with_dots (texts_of s.names path)) c.clear.ensures.bytes
    ∙ sym (path_there s c.args.component path c.path.ensures) in
    subst (λ (t : List ℕ). IfOk c.push_word.result (λ word. IsWord c.push_word.new.bytes.items word (with_ends (32 ∷ []) t))) text
    c.push_word.ensures.word
