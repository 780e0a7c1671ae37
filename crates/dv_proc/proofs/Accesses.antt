-- The visits of an instant, of a step and of a turn.
use Rattle.std.proofs.Common.{◌≡◌, ℕ, ◌+◌, ◌-◌, ◌<◌, ◌^◌, Bool, true, cond, nat_lt, length, ap, ◌∙◌, arith}
use Rattle.std.proofs.lemmas.Bool.Decides.{nat_tests}
use Rattle.std.proofs.lemmas.List.{length-append}
use Rattle.dv_bag.specs.Part.{PartOf}
use Rattle.dv_conservative.specs.Process.{end_rank}
use Rattle.dv_proc.specs.Accesses.{CountsEmission, CountsInstant, CountsStep, CountsTurn, accesses_at, accesses_before_end}
use Rattle.dv_proc.specs.Accesses.{accesses_between, entries_at}
use Rattle.dv_proc.specs.Local.{IsAfterInstant, View}

-- at the end of the run nothing is sent
pub counted_at_end : (k n : ℕ) (v w : View) (before after : ℕ) → CountsInstant k v before after → CountsStep k n v w before after
counted_at_end k n v w before after counted = record {
  never_falls = counted.never_falls;
  least = counted.least;
  most = omega (arith, counted.most);
}

-- before the end what is sent is found
pub counted_found : (k n : ℕ) (v w : View) (before mid after : ℕ) → CountsInstant k v before mid → CountsEmission n w mid after →
    nat_lt n (end_rank w.share) ≡ true → CountsStep k n v w before after
counted_found k n v w before mid after counted found early =
    let there : accesses_before_end w n ≡ accesses_at w n = ap (λ (b : Bool). cond b (accesses_at w n) 0) early in
    record {
      never_falls = omega (arith, counted.never_falls, found.never_falls);
      least = λ low.
          let below : mid < 2 ^ 64 - 1 = omega (arith, low, found.never_falls) in
          omega (arith, counted.least below, found.never_falls);
      most = omega (arith, counted.most, found.most, there);
    }

-- a step that rises is a turn
pub counted_turn : (k n : ℕ) (v w : View) (before after : ℕ) → IsAfterInstant k v w → k < n → CountsStep k n v w before after →
    CountsTurn k n v w before after
counted_turn k n v w before after instant rose counted =
    let less : nat_lt k n ≡ true = grind (arith, nat_tests) in
    let most : accesses_between k n v w ≡ accesses_at v k + accesses_before_end w n =
    ap (λ (b : Bool). cond b (accesses_at v k + accesses_before_end w n) 0) less in
    let more : length w.committed.entries ≡ length v.committed.entries + entries_at v k =
    ap (λ (p : PartOf). length p.entries) instant.committed ∙ length-append v.committed.entries _ in
    record {
      never_falls = counted.never_falls;
      least = λ low. omega (arith, counted.least low, more);
      most = omega (arith, counted.most, most);
    }

-- a turn that leaves all as it was counts nothing
pub counted_rest : (k n : ℕ) (v : View) (count : ℕ) → CountsTurn k n v v count count
counted_rest k n v count = record { never_falls = omega arith; least = λ low. omega arith; most = omega arith }
