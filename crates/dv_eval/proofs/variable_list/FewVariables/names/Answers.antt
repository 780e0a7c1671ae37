use Rattle.std.proofs.Common.{◌∙◌, ap, sym}
use Rattle.std.proofs.lemmas.Slice.Zip.{firsts-zip}
use Rattle.dv_eval.specs.Scope.{names_of}
use Rattle.dv_eval.proofs.variable_list.FewVariables.names.Goals as goal

pub returns : goal.returns
returns c =
    let v = c.self.inside in
    c.as_slice.ensures.value ∙ sym (firsts-zip v.names.items v.domains.items c.self.invariant) ∙ ap names_of c.self.view_is
