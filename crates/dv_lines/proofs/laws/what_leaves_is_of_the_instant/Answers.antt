use Rattle.std.proofs.Common.{◌≡◌, ℕ, ◌+◌, List, [], ◌∷◌, ◌++◌, ap, refl}
use Rattle.dv_time.specs.Time.{time_of}
use Rattle.dv_bag.specs.Bag.{Counts}
use Rattle.dv_bag.specs.declared.entry.Outer.{Outer}
use Rattle.dv_devs.specs.Network.{outer_from}
use Rattle.dv_record.specs.Told.{line_at, lines_from}
use Rattle.dv_lines.proofs.laws.what_leaves_is_of_the_instant.Goals as goal

of_instant : (limit n port : ℕ) (bags : List Counts) → lines_from (time_of limit n) port bags ≡ outer_from limit n port bags
of_instant limit n port [] = refl
of_instant limit n port (b ∷ bs) =
    ap (λ (os : List Outer). line_at (time_of limit n) port b ++ os) (of_instant limit n (port + 1) bs)

pub returns : goal.returns
returns c = of_instant
