use Rattle.std.proofs.Common.{sym, ◌∙◌, map}
use Rattle.std.specs.Prelude.{fold}
use Rattle.std.proofs.lemmas.List.{at_drop_all}
use Rattle.dv_tree.specs.Tables.{with_link}
use Rattle.dv_tree.proofs.Links.{all_links}
use Rattle.dv_tree.proofs.couplings.part_couplings.Goals as goal

pub returns : goal.returns
returns c =
    let lists = map (λ list. list.items) c.loop-link.lists.items in
    sym (at_drop_all (fold with_link lists) c.args.links.now c.loop-link.link-index c.loop-link-test.false)
    ∙ (c.loop-link.invariant ∙ all_links c.args.links.now c.args.parts)
