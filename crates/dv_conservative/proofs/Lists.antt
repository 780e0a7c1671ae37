-- What is so of all links of a share, link by link.
use Rattle.std.proofs.Common.{◌≡◌, ℕ, suc, zero, ◌+◌, ◌<◌, ◌≤◌, Bool, true, false, cond, nat_eq, List, [], ◌∷◌, Some, refl, ap}
use Rattle.std.proofs.Common.{subst, ◌∙◌, arith}
use Rattle.std.specs.List.{slice_get}
use Rattle.dv_time.specs.Time.{rank}
use Rattle.dv_conservative.specs.Process.{Packet, Share, channel_clock, least_of}
use Rattle.dv_conservative.specs.Turn.{AllMayBecome, AllPromised, IsPromised, MayBecome, Position}
use Rattle.dv_conservative.specs.Rounds.{AllHaveSources}
use Rattle.dv_conservative.specs.World.{Channel, Job, incoming_from, outgoing_from, outgoing_on}

module _ (job : Job) (s : Share) (received : ℕ → List Packet) (before after : Position) (p : ℕ) where
  pub promised_of : (base : ℕ) (chs : List Channel) (i : ℕ) (c : Channel) →
      AllPromised s received before after (outgoing_from job p base chs) →
      slice_get chs i ≡ Some c → nat_eq c.source p ≡ true → IsPromised s received before after (outgoing_on job (base + i) c)
  promised_of base [] i c h e own = absurd (cc)
  promised_of base (d ∷ ds) zero c h e own =
      let same : d ≡ c = cc in
      let source : nat_eq d.source p ≡ true = ap (λ (x : Channel). nat_eq x.source p) same ∙ own in
      let number : base ≡ base + 0 = omega arith in
      let first = rw source at h in
      subst (λ (n : ℕ). IsPromised s received before after (outgoing_on job n c)) number
      (subst (λ (x : Channel). IsPromised s received before after (outgoing_on job base x)) same first.0)
  promised_of base (d ∷ ds) (suc i) c h e own =
      let number : suc base + i ≡ base + suc i = omega arith in
      subst (λ (n : ℕ). IsPromised s received before after (outgoing_on job n c)) number
      (promised_of (suc base) ds i c (by_test (nat_eq d.source p) h) e own)
    where
      by_test : (t : Bool) →
          AllPromised s received before after
          (cond t (outgoing_on job base d ∷ outgoing_from job p (suc base) ds) (outgoing_from job p (suc base) ds))
          → AllPromised s received before after (outgoing_from job p (suc base) ds)
      by_test true h = h.1
      by_test false h = h

  pub became_of : (base : ℕ) (chs : List Channel) (i : ℕ) (c : Channel) →
      AllMayBecome s received before after (outgoing_from job p base chs) →
      slice_get chs i ≡ Some c → nat_eq c.source p ≡ true → MayBecome s received (outgoing_on job (base + i) c) before after
  became_of base [] i c h e own = absurd (cc)
  became_of base (d ∷ ds) zero c h e own =
      let same : d ≡ c = cc in
      let source : nat_eq d.source p ≡ true = ap (λ (x : Channel). nat_eq x.source p) same ∙ own in
      let number : base ≡ base + 0 = omega arith in
      let first = rw source at h in
      subst (λ (n : ℕ). MayBecome s received (outgoing_on job n c) before after) number
      (subst (λ (x : Channel). MayBecome s received (outgoing_on job base x) before after) same first.0)
  became_of base (d ∷ ds) (suc i) c h e own =
      let number : suc base + i ≡ base + suc i = omega arith in
      subst (λ (n : ℕ). MayBecome s received (outgoing_on job n c) before after) number
      (became_of (suc base) ds i c (by_test (nat_eq d.source p) h) e own)
    where
      by_test : (t : Bool) →
          AllMayBecome s received before after
          (cond t (outgoing_on job base d ∷ outgoing_from job p (suc base) ds) (outgoing_from job p (suc base) ds))
          → AllMayBecome s received before after (outgoing_from job p (suc base) ds)
      by_test true h = h.1
      by_test false h = h

-- the least channel clock is not below what none of them is below
pub least_at_least : (limit bound q m : ℕ) (received : ℕ → List Packet) (base : ℕ) (chs : List Channel) → m ≤ bound →
    ((i : ℕ) (c : Channel) → slice_get chs i ≡ Some c → m ≤ rank limit (channel_clock (received (base + i))))
    → m ≤ least_of limit bound (incoming_from q base chs) received
least_at_least limit bound q m received base [] le h = le
least_at_least limit bound q m received base (c ∷ cs) le h =
    let number : base + 0 ≡ base = omega arith in
    let first : m ≤ rank limit (channel_clock (received base))
    = subst (λ (n : ℕ). m ≤ rank limit (channel_clock (received n))) number (h 0 c refl) in
    let rest = least_at_least limit bound q m received (suc base) cs le (λ i d e.
    let next : base + suc i ≡ suc base + i = omega arith in
    subst (λ (n : ℕ). m ≤ rank limit (channel_clock (received n))) next (h (suc i) d e)) in
    by_test (nat_eq c.target q) first rest
  where
    by_test : (t : Bool) → m ≤ rank limit (channel_clock (received base)) →
        m ≤ least_of limit bound (incoming_from q (suc base) cs) received →
        m ≤ least_of limit bound (cond t (base ∷ incoming_from q (suc base) cs) (incoming_from q (suc base) cs)) received
    by_test true first rest = omega arith
    by_test false first rest = rest

pub source_of : (count : ℕ) (chs : List Channel) (i : ℕ) (c : Channel) → AllHaveSources count chs → slice_get chs i ≡ Some c →
    c.source < count
source_of count [] i c h e = absurd (cc)
source_of count (d ∷ ds) zero c h e = let same : d ≡ c = cc in subst (λ (x : Channel). x.source < count) same h.0
source_of count (d ∷ ds) (suc i) c h e = source_of count ds i c h.1 e
