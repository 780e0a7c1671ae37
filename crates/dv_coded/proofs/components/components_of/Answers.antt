use Rattle.std.proofs.Common.{◌<◌, List, length, map, ap, sym, ◌∙◌, subst}
use Rattle.std.specs.List.{All}
use Rattle.std.specs.Prelude.{slice_get}
use Rattle.dv_bag.specs.declared.response.Response.{Response}
use Rattle.dv_share.specs.declared.tables.Member.{Member}
use Rattle.dv_syntax.specs.Trees.{file_of}
use Rattle.dv_tree.specs.Instances.{instances}
use Rattle.dv_coded.proofs.Members.{all-answer, all-stand, members-are, numbers-rise, outputs-are, responses-are, responses-short}
use Rattle.dv_coded.proofs.components.components_of.Goals as goal

pub responses_of-requires : goal.responses_of-requires
responses_of-requires c =
    let all = c.members.new.models in
    let within = all-answer c.args.limit all.programs.items all.responses.items 0 c.in_ok-members.members.items
    (instances (file_of c.args.tree.now.file)) c.in_ok-members.ensures.members in
    subst (λ (xs : List Member). All (λ (x : Member). x.model < length c.deref.result.now) xs) (sym c.deref-2.ensures.value)
    (subst (λ (rs : List Response). All (λ (x : Member). x.model < length rs) c.in_ok-members.members.items)
    (sym c.deref.ensures.value) within)

pub returns-clause-members : goal.returns-clause-members
returns-clause-members c =
    let all = c.members.new.models in
    members-are c.args.limit all.programs.items all.responses.items 0 c.in_ok-members.members.items
    (instances (file_of c.args.tree.now.file)) c.in_ok-members.ensures.count c.in_ok-members.ensures.members

pub returns-clause-outputs : goal.returns-clause-outputs
returns-clause-outputs c =
    let all = c.members.new.models in
    outputs-are c.args.limit all.programs.items all.responses.items 0 c.in_ok-members.members.items
    (instances (file_of c.args.tree.now.file)) c.in_ok-members.ensures.count c.in_ok-members.ensures.members

pub returns-clause-rise : goal.returns-clause-rise
returns-clause-rise c =
    let all = c.members.new.models in
    numbers-rise c.args.limit all.programs.items all.responses.items 0 c.in_ok-members.members.items
    (instances (file_of c.args.tree.now.file)) c.in_ok-members.ensures.members

pub returns-clause-among : goal.returns-clause-among
returns-clause-among c =
    let all = c.members.new.models in
    all-stand c.args.limit all.programs.items all.responses.items 0 c.in_ok-members.members.items
    (instances (file_of c.args.tree.now.file)) c.in_ok-members.ensures.members

pub returns-clause-responses : goal.returns-clause-responses
returns-clause-responses c =
    let all = c.members.new.models in
    let read =
    c.in_ok-responses_of.ensures
    ∙ (ap (λ (rs : List Response). map (λ (x : Member). slice_get rs x.model) c.deref-2.result.now) c.deref.ensures.value
    ∙ ap (map (λ (x : Member). slice_get all.responses.items x.model)) c.deref-2.ensures.value) in
    responses-are c.args.limit all.programs.items all.responses.items 0 c.in_ok-responses_of.field-0.items
    c.in_ok-members.members.items (instances (file_of c.args.tree.now.file)) c.in_ok-members.ensures.count
    c.in_ok-members.ensures.members read

pub returns-clause-short : goal.returns-clause-short
returns-clause-short c =
    let all = c.members.new.models in
    let read =
    c.in_ok-responses_of.ensures
    ∙ (ap (λ (rs : List Response). map (λ (x : Member). slice_get rs x.model) c.deref-2.result.now) c.deref.ensures.value
    ∙ ap (map (λ (x : Member). slice_get all.responses.items x.model)) c.deref-2.ensures.value) in
    responses-short c.args.limit all.programs.items all.responses.items 0 c.in_ok-responses_of.field-0.items
    c.in_ok-members.members.items (instances (file_of c.args.tree.now.file)) c.in_ok-members.ensures.members read
