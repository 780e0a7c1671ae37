use Rattle.std.proofs.Common.{◌≡◌, ℕ, ◌<◌, ◌≤◌, length, slice_index_or, ◌+◌, ◌-◌}
use Rattle.dv_share.proofs.routes.begin_up_to.Given as goal

-- the starts that were there stand, and those behind them are the index
abbrev pub invariant-loop-starts : goal.invariant-loop-starts
invariant-loop-starts l = record {
  kept : length l.fn.starts.items ≤ length l.starts.items;
  same : (c : ℕ) → c < length l.fn.starts.items → slice_index_or l.starts.items c 0 ≡ slice_index_or l.fn.starts.items c 0;
  begun :
      (c : ℕ) → length l.fn.starts.items ≤ c → c < length l.starts.items
      → (c ≤ l.component) × (slice_index_or l.starts.items c 0 ≡ l.index);
}

abbrev pub decreases-loop-starts : goal.decreases-loop-starts
decreases-loop-starts l = l.component + 1 - length l.starts.items
