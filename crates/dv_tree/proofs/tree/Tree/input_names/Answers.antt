use Rattle.std.proofs.Common.{◌≡◌, ◌≤◌, length, map, ap, arith}
use Rattle.std.specs.Prelude.{String, Vec, string_bytes}
use Rattle.std.proofs.lemmas.List.{length-map}
use Rattle.std.proofs.lemmas.Result.{IfOk-weaker}
use Rattle.std.specs.declared.alloc.Global.{Global}
use Rattle.dv_syntax.specs.Trees.{file_of}
use Rattle.dv_check.specs.Limits.{greatest_names}
use Rattle.dv_tree.specs.Paths.{name_at, texts_of}
use Rattle.dv_tree.proofs.Limits.{few_inputs}
use Rattle.dv_tree.proofs.tree.Tree.input_names.Goals as goal

pub returns-clause-few : goal.returns-clause-few
returns-clause-few c =
    let checked = c.self.inside.checked.now in
    let few = few_inputs (file_of checked.file) (c.checked_files.ensures _ checked.checked) in
    let all = ap length c.deref.ensures.value in
    let inputs = ap length c.self.invariant.4 in
    IfOk-weaker c.texts_of.result (λ (texts : Vec
    (String Global) Global). map string_bytes texts.items ≡ texts_of checked.names c.deref.result.now)
    (λ (texts : Vec (String Global) Global). length texts.items ≤ greatest_names)
    (λ texts is. omega (
      arith,
      few,
      all,
      inputs,
      ap length is,
      length-map texts.items string_bytes,
      length-map c.deref.result.now
          (name_at checked.names),
    ))
    c.texts_of.ensures
