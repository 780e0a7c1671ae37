-- How transitions and values are counted.
use Rattle.std.specs.Prelude.{ℕ, ◌+◌, ◌^◌, ◌-◌, min}
use Rattle.dv_bag.specs.declared.entry.Kind.{Kind}
use Rattle.dv_bag.specs.declared.entry.Kind.TheVariants as kind
use Rattle.dv_stats.specs.declared.component.Transitions.{Transitions}

-- a count with so many more, at most 2^64 - 1
abbrev pub more : ℕ → ℕ → ℕ
more added count = min (count + added) (2 ^ 64 - 1)

-- one more
abbrev pub one_more : ℕ → ℕ
one_more count = more 1 count

-- one more transition of a kind
abbrev pub with_kind : Kind → Transitions → Transitions
with_kind kind.Internal t = record { internal = one_more t.internal; external = t.external; confluent = t.confluent }
with_kind kind.External t = record { internal = t.internal; external = one_more t.external; confluent = t.confluent }
with_kind kind.Confluent t = record { internal = t.internal; external = t.external; confluent = one_more t.confluent }
