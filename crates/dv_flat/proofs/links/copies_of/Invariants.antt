use Rattle.std.proofs.Common.{◌≡◌, ◌+◌, ◌^◌, ◌<◌, drop}
use Rattle.dv_bag.specs.Bag.{capped}
use Rattle.dv_flat.specs.Links.{copies_of}
use Rattle.dv_flat.proofs.links.copies_of.Given as goal

abbrev pub invariant-loop-link : goal.invariant-loop-link
invariant-loop-link g l = record {
  kept : l.copies < 2 ^ 64;
  summed : capped (l.copies + copies_of (drop l.link-index l.links)) ≡ capped (copies_of l.links);
}
