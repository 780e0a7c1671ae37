use Rattle.std.proofs.Common.{◌∙◌, ℕ, ap, filter, nat_eq}
use Rattle.dv_conservative.specs.Links.{Link, links_between}
use Rattle.dv_partition.specs.Groups.{owner_of}
use Rattle.dv_plan.proofs.laws.cuts_are_shares.Goals as goal

pub returns-clause-links : goal.returns-clause-links
returns-clause-links c = λ job cut p owner links.
    ap (λ (o : ℕ → ℕ). links_between (λ k. nat_eq (o k) p) (λ k. nat_eq (o k) p) job.flat.links) owner
    ∙ ap (links_between (λ k. nat_eq (owner_of cut.grouping k) p) (λ k. nat_eq (owner_of cut.grouping k) p)) links

pub returns-clause-entrances : goal.returns-clause-entrances
returns-clause-entrances c = λ job cut p owner links.
    ap (λ (o : ℕ → ℕ). filter (λ (l : Link). nat_eq (o l.to) p) job.flat.entrances) owner
    ∙ ap (filter (λ (l : Link). nat_eq (owner_of cut.grouping l.to) p)) links

pub returns-clause-exits : goal.returns-clause-exits
returns-clause-exits c = λ job cut p owner links.
    ap (λ (o : ℕ → ℕ). filter (λ (l : Link). nat_eq (o l.from) p) job.flat.exits) owner
    ∙ ap (filter (λ (l : Link). nat_eq (owner_of cut.grouping l.from) p)) links
