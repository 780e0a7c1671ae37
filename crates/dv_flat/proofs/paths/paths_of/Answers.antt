use Rattle.std.proofs.Common.{arith, ap, ◌∙◌, map, string_bytes}
use Rattle.std.proofs.lemmas.List.{length-map}
use Rattle.dv_syntax.specs.Trees.{file_of}
use Rattle.dv_tree.specs.Instances.{instances}
use Rattle.dv_tree.specs.Paths.{texts_of, with_dots}
use Rattle.dv_flat.specs.Links.{paths_of}
use Rattle.dv_flat.proofs.PathLists.{path_more}
use Rattle.dv_flat.proofs.paths.paths_of.Goals as goal

pub loop-component-preserved : goal.loop-component-preserved
loop-component-preserved c =
    let f = file_of c.args.tree.now.file in
    let names = c.args.tree.now.names in
    let long = length-map (instances f) (λ i. with_dots (texts_of names i.path)) in
    ap (map string_bytes) c.in_ok-push.ensures.items
    ∙ path_more string_bytes c.loop-component.paths.items c.in_ok-path_text.field-0 (paths_of names f) c.loop-component.component
    c.loop-component.invariant (omega (arith, long, c.component_count-component-end.ensures.value))
    c.in_ok-path_text.ensures
