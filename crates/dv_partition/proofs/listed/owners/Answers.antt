use Rattle.std.proofs.Common.{◌≡◌, ◌∙◌, ◌<◌, false, length, map, string_bytes, subst, sym, zero-add}
use Rattle.std.specs.List.{AllByRecursion}
use Rattle.std.specs.Option.{ok_or}
use Rattle.std.proofs.lemmas.List.{length-map}
use Rattle.std.proofs.lemmas.Result.{err_from_is_err_and}
use Rattle.dv_partition.specs.Answers.{first_refusal, in_reading_order, owner_from, stands}
use Rattle.dv_partition.specs.Listed.{each}
use Rattle.dv_partition.specs.Steps.{IsRefusal, is_in, number_at, texts_of}
use Rattle.dv_partition.specs.declared.error.PartitionRefusal.TheVariants.{Q3}
use Rattle.dv_partition.proofs.ListedPaths.{answered, each_holds, each_long, error_of_refusal, if_found, owner_below, same_each, same_paths}
use Rattle.dv_partition.proofs.listed.owners.Goals as goal

pub returns-in_err-listed-clause-owners : goal.returns-in_err-listed-clause-owners
returns-in_err-listed-clause-owners c =
    let paths = map string_bytes c.args.paths.now in
    let lists = map (λ list. texts_of list.items) c.args.lists.now in
    let p = err_from_is_err_and c.from_residual-in_err-listed.result c.from_residual-in_err-listed.ensures.1 in
    let asked = same_paths (is_in c.in_ok-known.known) (λ t. stands t paths) (λ t. false) (in_reading_order lists) c.in_ok-known.ensures in
    rw (p.1, p.2)
    (error_of_refusal (first_refusal (λ t. stands t paths) (λ t. false) (in_reading_order lists))
    (ok_or (each (owner_from 0 lists) paths) Q3) c.in_err-listed.field-0.0
    (subst (λ o. IsRefusal o c.in_err-listed.field-0.0) asked c.in_err-listed.ensures))

pub returns-clause-owners : goal.returns-clause-owners
returns-clause-owners c =
    let paths = map string_bytes c.args.paths.now in
    let lists = map (λ list. texts_of list.items) c.args.lists.now in
    let table = c.in_ok-listed.listed in
    let asked = same_paths (is_in c.in_ok-known.known) (λ t. stands t paths) (λ t. false) (in_reading_order lists) c.in_ok-known.ensures in
    answered c.owners_by.result (λ owners. owners.items) (each (number_at table) paths)
    (first_refusal (λ t. stands t paths) (λ t. false) (in_reading_order lists)) (each (owner_from 0 lists) paths)
    (sym asked ∙ c.in_ok-listed.ensures.0)
    (same_each (number_at table) (owner_from 0 lists) paths c.in_ok-listed.ensures.1)
    c.owners_by.ensures

pub returns-clause-below : goal.returns-clause-below
returns-clause-below c =
    let paths = map string_bytes c.args.paths.now in
    let lists = map (λ list. texts_of list.items) c.args.lists.now in
    let table = c.in_ok-listed.listed in
    let long : length lists ≡ length c.args.lists.now = length-map c.args.lists.now (λ list. texts_of list.items) in
    if_found c.owners_by.result (λ owners. owners.items) (each (number_at table) paths)
    (λ ys. AllByRecursion (λ p. p < length c.args.lists.now) ys)
    (λ ys h. each_holds (number_at table) (λ p. p < length c.args.lists.now)
    (λ x y e. subst (λ n. y < n) (zero-add (length lists) ∙ long) (owner_below 0 lists x y (sym (c.in_ok-listed.ensures.1 x) ∙ e))) paths
    ys h)
    c.owners_by.ensures

pub returns-clause-long : goal.returns-clause-long
returns-clause-long c =
    let paths = map string_bytes c.args.paths.now in
    let table = c.in_ok-listed.listed in
    if_found c.owners_by.result (λ owners. owners.items) (each (number_at table) paths)
    (λ ys. length ys ≡ length c.args.paths.now)
    (λ ys h. each_long (number_at table) paths ys h ∙ length-map c.args.paths.now string_bytes)
    c.owners_by.ensures
