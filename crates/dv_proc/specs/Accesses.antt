-- Visits of components: one as a component emits, and one as it reacts. What keeps the components counts them. The count is no part
-- of the view, since it is never taken back: here it stands beside the views, as it was before and as it is after.
use Rattle.std.specs.Prelude.{ℕ, ◌+◌, ◌-◌, ◌*◌, ◌^◌, ◌<◌, ◌≤◌, not, if◌then◌else◌, nat_lt, List, length, count_by}
use Rattle.dv_bag.specs.Bag.{Counts}
use Rattle.dv_devs.specs.Behaviour.{all_empty, is_imminent}
use Rattle.dv_devs.specs.Network.{part_of_instant}
use Rattle.dv_conservative.specs.Flat.{network}
use Rattle.dv_conservative.specs.Process.{end_rank}
use Rattle.dv_proc.specs.Local.{View, input_at, sent_at}

-- how many components are imminent at a rank
abbrev pub imminent_at : View → ℕ → ℕ
imminent_at v n = count_by (is_imminent n) v.components

-- how many components receive a value at a rank, of what comes and of what the components send
abbrev pub receiving_at : View → ℕ → ℕ
receiving_at v n =
    count_by (λ (bags : List Counts). not (all_empty bags)) ((network v.share.flat).arrives (sent_at v n) (input_at v n))

-- How many visits the instant at a rank counts, at most: of those that are imminent as they emit, and of them and those that
-- receive a value as they are committed.
abbrev pub accesses_at : View → ℕ → ℕ
accesses_at v n = 2 * imminent_at v n + receiving_at v n

-- how many entries the instant at a rank commits
abbrev pub entries_at : View → ℕ → ℕ
entries_at v n = length (part_of_instant v.share.limit (network v.share.flat) n (input_at v n) v.components).entries

-- A count rose, by at least so much and at most so much. It stays at 2^64 - 1 once there.
pub record IsCounted (low high before after : ℕ) : Type 0 where
  pub never_falls : before ≤ after
  pub least : after < 2 ^ 64 - 1 → before + low ≤ after
  pub most : after ≤ before + high

-- the visits count what is sent at a rank: at most one for each imminent component
abbrev pub CountsEmission : ℕ → View → (before after : ℕ) → Type 0
CountsEmission n v before after = IsCounted 0 (imminent_at v n) before after

-- the visits count the instant at a rank of a view
abbrev pub CountsInstant : ℕ → View → (before after : ℕ) → Type 0
CountsInstant n v before after = IsCounted (entries_at v n) (accesses_at v n) before after

-- the accesses of the instant at a rank, unless the run ends there
abbrev pub accesses_before_end : View → ℕ → ℕ
accesses_before_end v n = if nat_lt n (end_rank v.share) then accesses_at v n else 0

-- The visits count the instant at a rank that is committed, from one view to another, and at a later rank what is sent.
abbrev pub CountsStep : (k n : ℕ) → View → View → (before after : ℕ) → Type 0
CountsStep k n v w before after = IsCounted (entries_at v k) (accesses_at v k + accesses_before_end w n) before after

-- the accesses of a turn from one rank to another: none where the clock stays
abbrev pub accesses_between : (k n : ℕ) → View → View → ℕ
accesses_between k n v w = if nat_lt k n then accesses_at v k + accesses_before_end w n else 0

-- The visits count a turn from one rank to another: the entries that it commits at least, and at most the accesses of the
-- instant that it commits and of the one whose output it computes.
abbrev pub CountsTurn : (k n : ℕ) → View → View → (before after : ℕ) → Type 0
CountsTurn k n v w before after =
    IsCounted (length w.committed.entries - length v.committed.entries) (accesses_between k n v w) before after
