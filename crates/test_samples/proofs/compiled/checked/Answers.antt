use Rattle.std.proofs.Common.{rules}
use Rattle.dv_syntax.specs.Trees.{file_of}
use Rattle.dv_check.specs.Writable.{IsWritable}
use Rattle.test_samples.proofs.ModelsOfFiles.{all_compilable}
use Rattle.test_samples.proofs.compiled.checked.Goals as goal

pub returns : goal.returns
returns c =
    let one : IsWritable (file_of c.in_ok-file.file) = search rules in
    all_compilable c.in_ok-file.file c.check.result c.accepted_files_are_compilable.ensures one c.check.ensures.file
    c.check.ensures.checked
