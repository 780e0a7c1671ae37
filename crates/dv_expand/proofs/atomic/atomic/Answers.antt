use Rattle.std.proofs.Common.{◌≡◌, map, sym, ap, ◌∙◌}
use Rattle.std.proofs.lemmas.List.{map-id}
use Rattle.std.proofs.lemmas.Iterator.Adapters.{YieldsList-from_vec}
use Rattle.std.proofs.lemmas.Iterator.Consumers.{YieldsList-end}
use Rattle.dv_source.specs.Sources.{item_of}
use Rattle.dv_syntax.specs.Trees.{atomic_of}
use Rattle.dv_syntax.specs.Written.{sorted_items}
use Rattle.dv_expand.proofs.Sorted.{sorted_more}
use Rattle.dv_expand.proofs.atomic.atomic.Goals as goal

pub loop-item-preserved : goal.loop-item-preserved
loop-item-preserved c =
    sorted_more item_of c.args.source.name c.loop-item.yielded c.in-Some.item (atomic_of c.loop-item.atomic)
    (atomic_of c.add.new.atomic) c.loop-item.invariant c.in_ok-add.ensures

pub returns : goal.returns
returns c =
    let gives = c.into_iter-item-iterator.ensures.into_iter_gives in
    let all = YieldsList-from_vec c.args.source.items.items gives.0 (gives.1 ∙ c.args.source.items.ok.0) in
    let end = YieldsList-end all c.loop-item.yielded c.loop-item.item-iterator c.loop-item.yielded_by c.next.result c.next.new.self
    c.in-None.is c.next.ensures.steps in
    c.trim.ensures ∙ c.loop-item.invariant
    ∙ ap (λ items. sorted_items c.args.source.name (map item_of items)) (sym (map-id c.loop-item.yielded) ∙ end.0)
