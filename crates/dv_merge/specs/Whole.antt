-- The whole that parts make up.
use Rattle.std.specs.Prelude.{◌≡◌, ℕ, ◌<◌, nat_eq, List, length, slice_get, Some}
use Rattle.std.specs.List.{All}
use Rattle.dv_bag.specs.Part.{PartOf}
use Rattle.dv_bag.specs.declared.entry.Entry.{Entry}
use Rattle.dv_devs.specs.Cuts.{RiseFrom}
use Rattle.dv_devs.specs.Idle.{LeavesOnlyWhatIsSent}
use Rattle.dv_devs.specs.Network.{Network}
use Rattle.dv_devs.specs.NextTimes.{IsReady}
use Rattle.dv_devs.specs.Outside.{LeavesLinearly, SendsBags}
use Rattle.dv_devs.specs.Parts.{part_before}
use Rattle.dv_conservative.specs.True.{united}
use Rattle.dv_merge.specs.Entries.{AreInOrder, of_process}
use Rattle.dv_merge.specs.Lines.{AllLines, lines_at}

-- A whole in parts by owner: each part has the entries of its components. The output lines of all parts together are those of the
-- whole.
pub record ArePartsOf (owner : ℕ → ℕ) (whole : PartOf) (parts : List PartOf) : Type 0 where
  pub order : AreInOrder whole.entries
  pub within : All (λ (e : Entry). owner e.component < length parts) whole.entries
  pub entries : (p : ℕ) (x : PartOf) → slice_get parts p ≡ Some x → x.entries ≡ of_process owner p whole.entries
  pub lines : AllLines parts
  pub outer : united (lines_at parts) (length parts) ≡ whole.outer

-- A run in which each process has committed its part before one rank.
pub record AreCommitted {I : Type 0} (limit : ℕ) (net : Network I) (inputs : ℕ → I) (owner : ℕ → ℕ) (n : ℕ) (parts : List PartOf) : Type 0
  where
    pub ready : IsReady net
    pub rise : RiseFrom 0 net.numbers
    pub outputs : LeavesOnlyWhatIsSent net
    pub linear : LeavesLinearly net
    pub bags : SendsBags limit net inputs n
    pub owned : (k : ℕ) → owner k < length parts
    pub each : (p : ℕ) (x : PartOf) → slice_get parts p ≡ Some x → x ≡ part_before (λ k. nat_eq (owner k) p) limit net inputs n
