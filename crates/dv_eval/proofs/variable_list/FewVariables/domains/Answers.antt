use Rattle.std.proofs.Common.{◌∙◌, ap, sym, map}
use Rattle.std.proofs.lemmas.Slice.Zip.{seconds-zip}
use Rattle.dv_eval.proofs.variable_list.FewVariables.domains.Goals as goal

pub returns : goal.returns
returns c =
    let v = c.self.inside in
    c.deref.ensures.value ∙ sym (seconds-zip v.names.items v.domains.items c.self.invariant) ∙ ap (map (λ v. v.1)) c.self.view_is
