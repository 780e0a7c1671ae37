use Rattle.std.proofs.Common.{◌∙◌, ◌+◌, ◌*◌, ◌<◌, ℕ, [], ap, get_or, length, map, subst, sym}
use Rattle.std.proofs.lemmas.List.{length-map}
use Rattle.std.proofs.lemmas.Nat.{mul-add-lt}
use Rattle.dv_conservative.specs.Links.{is_between}
use Rattle.dv_partition.specs.Groups.{owner_of}
use Rattle.dv_plan.specs.Cuts.{between, owned_by}
use Rattle.dv_plan.specs.Keys.{lists_by, pair_key}
use Rattle.dv_share.specs.Links.{links_of}
use Rattle.dv_plan.proofs.Kept.{between_test, kept_links, list_at, lists_long}
use Rattle.dv_plan.proofs.cut.Cut.between.Goals as goal

pub list_at-requires : goal.list_at-requires
list_at-requires c =
    let g = c.self.inside.groups.now in
    let n = g.processes in
    let p = c.args.source in
    let q = c.args.target in
    let all = sym (ap (λ v. v.grouping.processes) c.self.view_is) in
    let long =
    ap length c.deref.ensures.value
    ∙ sym (length-map c.self.inside.pairs.items (λ list. list.items))
    ∙ ap length c.self.invariant.between
    ∙ lists_long (pair_key g) (n * n) c.self.inside.links.direct.items in
    let within = mul-add-lt p n q n (subst (λ k. p < k) all c.requires.source) (subst (λ k. q < k) all c.requires.target) in
    subst (λ k. p * k + q < length c.deref.result.now) (sym c.processes-processes.ensures.exact)
    (subst (λ k. p * n + q < k) (sym long) within)

pub returns : goal.returns
returns c =
    let g = c.self.inside.groups.now in
    let n = g.processes in
    let p = c.args.source in
    let q = c.args.target in
    let direct = c.self.inside.links.direct.items in
    let below : (k : ℕ) → owner_of g k < n = λ k. subst (λ m. owner_of g k < m) c.processes-processes.ensures.exact
    (c.processes-processes.ensures.owned k) in
    let all = sym (ap (λ v. v.grouping.processes) c.self.view_is) in
    let lp = subst (λ k. p < k) all c.requires.source in
    let lq = subst (λ k. q < k) all c.requires.target in
    ap links_of c.list_at.ensures
    ∙ ap (λ ls. links_of (get_or ls (p * c.processes-processes.result + q) []))
    (ap (map (λ list. list.items)) c.deref.ensures.value ∙ c.self.invariant.between)
    ∙ ap (λ k. links_of (get_or (lists_by (pair_key g) (n * n) direct) (p * k + q) [])) c.processes-processes.ensures.exact
    ∙ ap links_of (list_at (pair_key g) (n * n) (p * n + q) direct (mul-add-lt p n q n lp lq))
    ∙ kept_links (pair_key g) (p * n + q) (is_between (owned_by g p) (owned_by g q)) (between_test g below p q lq) direct
    ∙ ap (λ v. between v p q) c.self.view_is
