use Rattle.std.proofs.Common.{◌≡◌, refl}
use Rattle.std.specs.Fmt.{digits}
use Rattle.std.specs.Prelude.{codes}
use Rattle.dv_bag.specs.Collections.{empty_of}
use Rattle.dv_bag.specs.declared.discipline.Discipline.{Discipline}
use Rattle.dv_bag.specs.declared.discipline.Discipline.TheVariants as discipline
use Rattle.dv_bag.specs.declared.state.Datum.TheVariants as datum
use Rattle.dv_text.specs.Texts.{datum_text}
use Rattle.dv_text.proofs.laws.collections_are_printed.Goals as goal

pub returns-clause-queue : goal.returns-clause-queue
unfolding digits
returns-clause-queue c = refl

pub returns-clause-bag : goal.returns-clause-bag
unfolding digits
returns-clause-bag c = refl

none_printed : (d : Discipline) → datum_text (datum.Held (empty_of d)) ≡ codes "[]"
none_printed discipline.Bag = refl
none_printed discipline.Queue = refl

pub returns-clause-empty : goal.returns-clause-empty
returns-clause-empty c = none_printed
