-- The context of a statement, the moment, and the collection of values of the code.
use Rattle.std.specs.Prelude.{[]}
use Rattle.dv_bag.specs.declared.collection.Collection.{Collection}
use Rattle.dv_bag.specs.declared.collection.Collection.TheVariants as collection
use Rattle.dv_eval.specs.declared.collection.CollectionView.{CollectionView}
use Rattle.dv_eval.specs.declared.collection.CollectionView.TheVariants as view
use Rattle.dv_eval.specs.declared.moment.Context.{Context as DeclaredContext}
use Rattle.dv_eval.specs.declared.moment.Moment as declared
use Rattle.dv_eval.specs.Meaning.{Context, Moment, in_loop, moment_in, outermost}
use Rattle.dv_eval.specs.declared.moment.Context.TheVariants as at

-- what arrived, and the loops around with the values of their variables
abbrev pub context_of : DeclaredContext → Context
context_of (at.Outermost arrivals) = outermost arrivals.now
context_of (at.Within' variable value p outer) = in_loop (variable, value) (context_of outer)

abbrev pub moment_of : declared.Moment → Moment
moment_of m = moment_in (context_of m.context.now) m.state.now

abbrev pub collection_seen : CollectionView → Collection
collection_seen (view.Bag b) = collection.Bag b.now
collection_seen (view.Queue q) = collection.Queue q.now
collection_seen view.Nothing = collection.Bag []
