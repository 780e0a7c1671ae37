use Rattle.std.proofs.Common.{◌∙◌, ◌∷◌, [], ap, sym, ◌++◌}
use Rattle.std.specs.List.{zip}
use Rattle.dv_eval.specs.Scope.{is_declared, with_variable}
use Rattle.dv_syntax.specs.declared.tree.Name.{Name}
use Rattle.dv_eval.specs.declared.scope.Domain.{Domain}
use Rattle.dv_eval.proofs.Variables.{with_variable-known, with_variable-more}
use Rattle.dv_eval.proofs.variable_list.FewVariables.declare.Goals as goal

pub returns-then-contains : goal.returns-then-contains
returns-then-contains c _ =
    let v = c.self.inside in
    let new : Name × Domain = (c.args.name, c.args.domain) in
    let known = sym (ap (is_declared c.args.name.number) c.as_slice.ensures.value) ∙ sym c.contains.ensures.value ∙ c.if-contains.true in
    sym c.self.view_is ∙ sym (with_variable-known v.names.items v.domains.items new c.self.invariant known)
    ∙ ap (λ entries. with_variable entries new) c.self.view_is

pub returns : goal.returns
returns c _ =
    let v = c.self.inside in
    let new : Name × Domain = (c.args.name, c.args.domain) in
    let absent = sym (ap (is_declared c.args.name.number) c.as_slice.ensures.value) ∙ sym c.contains.ensures.value ∙ c.if-contains.false in
    ap (λ names. zip names c.push.new.self.items) c.push-2.ensures.items
    ∙ ap (zip (v.names.items ++ c.args.name.number ∷ [])) c.in_ok-push.ensures.items
    ∙ sym (with_variable-more v.names.items v.domains.items new c.self.invariant absent)
    ∙ ap (λ entries. with_variable entries new) c.self.view_is
