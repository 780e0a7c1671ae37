use Rattle.std.proofs.Common.{◌∙◌, ◌++◌, List, ℕ, ap, string_bytes}
use Rattle.dv_syntax.specs.Trees.{file_of}
use Rattle.dv_tree.specs.Instances.{instances}
use Rattle.dv_tree.specs.Paths.{texts_of, with_dots}
use Rattle.dv_tree.proofs.Dots.{path_written}
use Rattle.dv_tree.proofs.tree.Tree.path_text.Goals as goal

pub returns : goal.returns
returns c =
    let names = c.args.self.now.names in
    path_written names (instances (file_of c.args.self.now.file)) c.args.component c.path.result.now
    (string_bytes c.push_path.new.text) c.path.ensures
    (c.in_ok-push_path.ensures
    ∙ ap (λ (t : List ℕ). t ++ with_dots (texts_of names c.path.result.now)) c.new-text.ensures.bytes)
