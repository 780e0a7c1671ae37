use Rattle.std.proofs.Common.{◌≡◌, ℕ, [], ◌∷◌, List, map, ap, sym, subst, arith, length}
use Rattle.std.specs.Prelude.{Some, slice_get}
use Rattle.std.proofs.lemmas.List.{length-append}
use Rattle.dv_share.specs.declared.tables.Member.{Member}
use Rattle.dv_syntax.specs.Trees.{file_of}
use Rattle.dv_tree.specs.Instances.{Instance, instances}
use Rattle.dv_coded.specs.Components.{AreMembersFrom}
use Rattle.dv_coded.proofs.Lists.{count-within}
use Rattle.dv_coded.proofs.Members.{members-kept, members-with, model-within, programs-read}
use Rattle.dv_coded.proofs.Named.{has_model}
use Rattle.dv_coded.proofs.components.members.Goals as goal

pub index-programs-requires : goal.index-programs-requires
index-programs-requires c =
    let is = instances (file_of c.args.tree.now.file) in
    let has = has_model is c.loop-component.component
    (omega (arith, c.loop-component-test.true, c.component_count-component-end.ensures.value)) in
    let all = c.of_component.new.self in
    let at = c.in_ok-model.ensures.model has.model has.there in
    omega (arith, model-within all.programs.items all.responses.items c.in_ok-model.model has.model at, all.programs.ok.0)

pub member-requires-clause-programs : goal.member-requires-clause-programs
member-requires-clause-programs c = λ m at.
    let all = c.of_component.new.self in
    programs-read all.programs.items all.responses.items c.in_ok-model.model m c.index-programs.result.now
    (c.in_ok-model.ensures.model m at) c.index-programs.ensures

pub loop-component-preserved : goal.loop-component-preserved
loop-component-preserved c =
    let is = instances (file_of c.args.tree.now.file) in
    let k = c.loop-component.component in
    let has = has_model is k (omega (arith, c.loop-component-test.true, c.component_count-component-end.ensures.value)) in
    let before = c.loop-component.models in
    let all = c.of_component.new.self in
    let xs = c.loop-component.members.items in
    let x = c.in_ok-member.field-0 in
    let old = c.loop-component.invariant in
    let kept = members-kept c.args.limit before.programs.items all.programs.items before.responses.items all.responses.items
    c.in_ok-model.ensures.kept 0 xs is old.members in
    let there = subst (λ (j : ℕ). slice_get (map (λ (i : Instance). i.model) is) j ≡ Some has.model) (sym old.count) has.there in
    record {
      members =
          subst (λ (ys : List Member). AreMembersFrom c.args.limit all.programs.items all.responses.items 0 ys is)
          (sym c.in_ok-push.ensures.items)
          (members-with c.args.limit all.programs.items all.responses.items 0 k c.in_ok-model.model xs is x has.model
          (omega (arith, old.count)) there (c.in_ok-member.ensures has.model has.there)
          (c.in_ok-model.ensures.model has.model has.there) kept);
      count = omega (arith, ap length c.in_ok-push.ensures.items, length-append xs (x ∷ []), old.count);
      known = c.in_ok-model.ensures.known;
      few = omega (arith, c.in_ok-model.ensures.few, old.few);
    }

pub returns-clause-once : goal.returns-clause-once
returns-clause-once c =
    let known = c.loop-component.invariant.known in
    omega (arith, count-within c.loop-component.models.indices.items, known.once, known.count)
