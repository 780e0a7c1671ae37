use Rattle.std.proofs.Common.{ap, ◌∙◌, map}
use Rattle.dv_syntax.specs.Trees.{file_of, model_of}
use Rattle.dv_bag.specs.Bag.{capped}
use Rattle.dv_flat.specs.Ways.{all_ways}
use Rattle.dv_flat.proofs.RootWays.{counted_by_ways, none_counted}
use Rattle.dv_flat.proofs.limit.capped_count.Goals as goal

pub returns : goal.returns
returns c =
    counted_by_ways (file_of c.args.tree.now.file) (map model_of c.args.tree.now.reached) c.in-Some.root.now c.input_count.result
    c.args.below.now c.total.result c.in-Some.ensures.reached c.in-Some.ensures.value c.input_count.ensures.value c.requires
    (c.total.ensures ∙ ap (λ ways. capped (all_ways ways)) c.in_ok-ways.ensures)

pub returns-in_default : goal.returns-in_default
returns-in_default c =
    none_counted (file_of c.args.tree.now.file) (map model_of c.args.tree.now.reached) c.in_default.ensures.reached
    c.in_default.ensures.value
