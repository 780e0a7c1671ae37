-- A collection of a state that is changed or popped keeps its discipline and stays within its capacity.
use Rattle.std.proofs.Common.{◌≡◌, ℕ, ℤ, ◌≤◌, true, nat_le, Option, Some, None, Result, Ok, Err, IfOk, IfSome, refl, sym, subst}
use Rattle.std.proofs.lemmas.Bool.{leb-true, le-leb}
use Rattle.dv_bag.specs.Collections.{changed, count_in, discipline_of, popped, same_discipline}
use Rattle.dv_bag.specs.Limits.{greatest_count}
use Rattle.dv_bag.specs.declared.collection.Collection.{Collection}
use Rattle.dv_bag.specs.declared.collection.Collection.TheVariants as collection
use Rattle.dv_bag.specs.declared.discipline.Change.{Change}
use Rattle.dv_bag.specs.declared.discipline.Change.TheVariants as change
use Rattle.dv_bag.specs.declared.discipline.Discipline.{Discipline}
use Rattle.dv_bag.specs.declared.discipline.Discipline.TheVariants as discipline
use Rattle.dv_bag.specs.declared.fault.Fault.{Fault}
use Rattle.dv_bag.specs.declared.state.Datum.TheVariants as datum
use Rattle.dv_bag.proofs.Collections.{StaysWithin, changed_stays, disciplines_same, popped_stays}
use Rattle.dv_eval.specs.declared.scope.Domain.{Domain}
use Rattle.dv_eval.specs.declared.scope.Domain.TheVariants as domain
use Rattle.dv_eval.specs.Meaning.{capacity_in}
use Rattle.law_accepted.specs.Fitting.{datum_fits}
use Rattle.law_accepted.proofs.Fitting.{and_true, both_true}

-- what is made of a collection, where it is no fault, fits
abbrev pub MadeFits : Domain → Option (Result Collection Fault) → Type 0
MadeFits o made = IfSome made (λ (r : Result Collection Fault). IfOk r (λ (c : Collection). datum_fits o (datum.Held c) ≡ true))

same_self : (d : Discipline) → same_discipline d d ≡ true
same_self discipline.Bag = refl
same_self discipline.Queue = refl

within_fits : (d : Discipline) (capacity : ℕ) (made : Option (Result Collection Fault)) → nat_le capacity greatest_count ≡ true
    → StaysWithin d capacity made → MadeFits (domain.Held d capacity) made
within_fits d capacity None small stays = tt
within_fits d capacity (Some (Err f)) small stays = tt
within_fits d capacity (Some (Ok c)) small stays =
    and_true _ _ (subst (λ (other : Discipline). same_discipline d other ≡ true) (sym stays.0) (same_self d))
    (and_true _ _ (le-leb (count_in c) capacity stays.1) small)

stays_fit : (d : Discipline) (capacity : ℕ) (held : Collection) (made : Option (Result Collection Fault))
    → (count_in held ≤ capacity → StaysWithin (discipline_of held) capacity made)
    → datum_fits (domain.Held d capacity) (datum.Held held) ≡ true → MadeFits (domain.Held d capacity) made
stays_fit d capacity held made stays fit =
    let both = both_true (same_discipline d (discipline_of held)) _ fit in
    let few = both_true (nat_le (count_in held) capacity) (nat_le capacity greatest_count) both.1 in
    within_fits d capacity made few.1
    (subst (λ (other : Discipline). StaysWithin other capacity made) (sym (disciplines_same d (discipline_of held) both.0))
    (stays (leb-true (count_in held) capacity few.0)))

changed_within : (d : Discipline) (capacity : ℕ) (c : Change) (n : ℤ) (held : Collection)
    → datum_fits (domain.Held d capacity) (datum.Held held) ≡ true → MadeFits (domain.Held d capacity) (changed c capacity n held)
changed_within d capacity change.Add n (collection.Bag b) fit =
    let bag = collection.Bag b in
    stays_fit d capacity bag (changed change.Add capacity n bag) (changed_stays change.Add capacity n bag refl) fit
changed_within d capacity change.Drop n (collection.Bag b) fit =
    let bag = collection.Bag b in
    stays_fit d capacity bag (changed change.Drop capacity n bag) (changed_stays change.Drop capacity n bag refl) fit
changed_within d capacity change.Push n (collection.Bag b) fit = tt
changed_within d capacity change.Add n (collection.Queue q) fit = tt
changed_within d capacity change.Drop n (collection.Queue q) fit = tt
changed_within d capacity change.Push n (collection.Queue q) fit =
    let queue = collection.Queue q in
    stays_fit d capacity queue (changed change.Push capacity n queue) (changed_stays change.Push capacity n queue refl) fit

-- a value changes the collection of a domain with this capacity
pub changed_fits : (o : Domain) (c : Change) (most : ℕ) (n : ℤ) (held : Collection) → capacity_in o ≡ Some most
    → datum_fits o (datum.Held held) ≡ true → MadeFits o (changed c most n held)
changed_fits (domain.Number range) c most n held room fit = absurd (cc)
changed_fits (domain.Flag start) c most n held room fit = absurd (cc)
changed_fits (domain.Held d capacity) c most n held room fit =
    let same : capacity ≡ most = cc in
    subst (λ (k : ℕ). MadeFits (domain.Held d capacity) (changed c k n held)) same (changed_within d capacity c n held fit)

-- a collection of a domain loses its first value
pub popped_fits : (o : Domain) (held : Collection) → datum_fits o (datum.Held held) ≡ true → MadeFits o (popped held)
popped_fits (domain.Number range) held fit = absurd (cc)
popped_fits (domain.Flag start) held fit = absurd (cc)
popped_fits (domain.Held d capacity) (collection.Bag b) fit = tt
popped_fits (domain.Held d capacity) (collection.Queue q) fit =
    let queue = collection.Queue q in
    stays_fit d capacity queue (popped queue) (popped_stays capacity queue refl) fit
