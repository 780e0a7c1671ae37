use Rattle.std.proofs.Common.{◌≡◌, Some, length, refl}
use Rattle.std.specs.Prelude.{slice_get}
use Rattle.std.proofs.lemmas.Option.{slice_get_read}
use Rattle.dv_syntax.specs.declared.tree.Model.TheVariants as model
use Rattle.test_samples.proofs.ModelsOfFiles.{compilable_at}
use Rattle.test_samples.proofs.compiled.atomic_at.Goals as goal

pub returns-in-Some-Atomic : goal.returns-in-Some-Atomic
returns-in-Some-Atomic c =
    let read = c.in-Some-Atomic.ensures.lookup in
    let found = slice_get_read c.deref.result.now (length c.deref.result.now) c.args.index c.in-Some-Atomic.field-0.now refl read.3.0
    read.1 in
    let models = c.deref.ensures.value in
    let atomic = c.in-Some-Atomic.field-0-is in
    let there : slice_get c.args.checked.now.file.models.items c.args.index ≡ Some (model.Atomic c.in-Some-Atomic.model) = cc in
    compilable_at c.args.checked.now.file.models.items c.args.index c.in-Some-Atomic.model c.requires there
