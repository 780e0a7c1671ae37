use Rattle.std.proofs.Common.{◌≡◌, ◌≤◌, List, length, ap, ◌∙◌, subst, arith}
use Rattle.std.specs.Prelude.{IfOk, None}
use Rattle.dv_bag.specs.Bag.{Counts}
use Rattle.dv_syntax.specs.Trees.{file_of}
use Rattle.dv_check.specs.Refusals.{refusal_of}
use Rattle.dv_check.specs.Limits.{greatest_names}
use Rattle.dv_tree.specs.Routing.{leaves}
use Rattle.dv_tree.specs.Tables.{Source}
use Rattle.dv_tree.specs.Nodes.{root_level}
use Rattle.dv_tree.proofs.Limits.{few_leave}
use Rattle.dv_tree.proofs.Roots.{leaves_made, arrives_made}
use Rattle.dv_tree.specs.declared.tree.Routed.{Routed}
use Rattle.std.proofs.lemmas.Result.{IfOk-weaker}
use Rattle.dv_tree.proofs.tree.Tree.route.Goals as goal

pub returns-clause-received : goal.returns-clause-received
returns-clause-received c =
    let Received : List (List Counts) → Type 0 = λ bags. IfOk c.route.result (λ routed. routed.received.items ≡ bags) in
    subst Received
    (arrives_made c.self.inside.checked.now c.self.inside.reached.models.items c.args.self.now c.self.view_is c.self.invariant.6
    c.deref-2.result.now _ (c.deref-2.ensures.value ∙ c.self.invariant.0)
    (c.root_level.ensures
    ∙ (ap (λ ls. root_level ls c.self.inside.root) c.deref.ensures.value ∙ c.self.invariant.1)) c.args.sent.now c.args.input.now)
    c.route.ensures.received

left : (c : goal.After-route) → IfOk c.route.result (λ routed. routed.leaving ≡ leaves (file_of c.args.self.now.file) c.args.sent.now)
left c =
    let Left : List Counts → Type 0 = λ bags. IfOk c.route.result (λ routed. routed.leaving ≡ bags) in
    subst Left
    (leaves_made c.self.inside.checked.now c.self.inside.reached.models.items c.args.self.now c.self.view_is c.self.invariant.6
    c.deref-2.result.now _ (c.deref-2.ensures.value ∙ c.self.invariant.0)
    (c.root_level.ensures
    ∙ (ap (λ ls. root_level ls c.self.inside.root) c.deref.ensures.value ∙ c.self.invariant.1)) c.args.sent.now)
    c.route.ensures.leaving

pub returns-clause-leaving : goal.returns-clause-leaving
returns-clause-leaving c = left c

pub returns-clause-at_most : goal.returns-clause-at_most
returns-clause-at_most c =
    let checked = subst (λ (s : Source). refusal_of (file_of s.file) ≡ None) c.self.view_is c.self.inside.checked.now.checked in
    let few = few_leave (file_of c.args.self.now.file) c.args.sent.now (c.checked_files.ensures _ checked) in
    IfOk-weaker c.route.result (λ (routed : Routed). routed.leaving ≡ leaves (file_of c.args.self.now.file) c.args.sent.now)
    (λ (routed : Routed). length routed.leaving ≤ greatest_names) (λ routed is. omega (arith, few, ap length is)) (left c)
