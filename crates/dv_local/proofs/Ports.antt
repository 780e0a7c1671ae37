-- Ports of members, found by index.
use Rattle.std.proofs.Common.{◌≡◌, ◌≢◌, ℕ, zero, suc, ◌<◌, ◌≤◌, Bool, true, false, ◌||◌, nat_eq, nat_lt, List, [], ◌∷◌, map}
use Rattle.std.proofs.Common.{Some, refl, ap, ◌∙◌, arith}
use Rattle.std.specs.List.{slice_get}
use Rattle.std.proofs.lemmas.Bool.{eq-eqb}
use Rattle.dv_devs.specs.Behaviour.{Behaviour}
use Rattle.dv_conservative.specs.Process.{is_port_of}
use Rattle.dv_share.specs.Indices.{AreRising, RiseFrom}
use Rattle.dv_share.specs.Share.{member_by, numbers_of}
use Rattle.dv_share.specs.declared.tables.Member.{Member}
use Rattle.dv_share.proofs.Indices.{differ}

module _ {S : Type 0} (behaviour : S → Behaviour) (limit : ℕ) (models : List S) (k port : ℕ) where
  port_here : List Member → Bool
  port_here ms = is_port_of (map (member_by behaviour limit models) ms) k port

  pub none_here : (ms : List Member) → ((p : ℕ) (m : Member) → slice_get ms p ≡ Some m → m.number ≢ k)
      → is_port_of (map (member_by behaviour limit models) ms) k port ≡ false
  none_here [] h = refl
  none_here (m ∷ ms) h =
      let e : nat_eq m.number k ≡ false = differ m.number k (h 0 m refl) in
      rw e (none_here ms (λ p n g. h (suc p) n g))

  above : (low : ℕ) (ms : List Member) → RiseFrom low (numbers_of ms) → k < low
      → is_port_of (map (member_by behaviour limit models) ms) k port ≡ false
  above low [] h lt = refl
  above low (m ∷ ms) h lt =
      let e : nat_eq m.number k ≡ false = differ m.number k (λ d. absurd (omega (arith, h.0))) in
      rw e (above (suc m.number) ms h.1 (omega (arith, h.0)))

  or_false : (b : Bool) → (b || false) ≡ b
  or_false true = refl
  or_false false = refl

  here_by : (low p : ℕ) (m : Member) (ms : List Member) → RiseFrom low (numbers_of ms) → slice_get ms p ≡ Some m → m.number ≡ k
      → is_port_of (map (member_by behaviour limit models) ms) k port ≡ nat_lt port m.inputs
  here_by low p m [] h g e = absurd (cc)
  here_by low zero m (n ∷ ms) h g e =
      let same : n ≡ m = cc in
      let i : nat_eq n.number k ≡ true = eq-eqb n.number k (ap (λ (x : Member). x.number) same ∙ e) in
      rw (i, above (suc n.number) ms h.1 (omega (arith, ap (λ (x : Member). x.number) same ∙ e)))
      (or_false (nat_lt port n.inputs) ∙ ap (λ (x : Member). nat_lt port x.inputs) same)
  here_by low (suc p) m (n ∷ ms) h g e =
      let under : n.number < m.number = below (suc n.number) p m ms h.1 g in
      let a : nat_eq n.number k ≡ false = differ n.number k (λ d. absurd (omega arith)) in
      rw a (here_by (suc n.number) p m ms h.1 g e)
    where
      below : (low p : ℕ) (m : Member) (ms : List Member) → RiseFrom low (numbers_of ms) → slice_get ms p ≡ Some m → low ≤ m.number
      below low p m [] h g = absurd (cc)
      below low zero m (n ∷ ms) h g = let same : n ≡ m = cc in let e : n.number ≡ m.number = ap (λ (x : Member). x.number) same in
          omega (arith, h.0)
      below low (suc p) m (n ∷ ms) h g = let b : suc n.number ≤ m.number = below (suc n.number) p m ms h.1 g in omega (arith, h.0)

  pub port_at : (p : ℕ) (m : Member) (ms : List Member) → AreRising (numbers_of ms) → slice_get ms p ≡ Some m → m.number ≡ k
      → is_port_of (map (member_by behaviour limit models) ms) k port ≡ nat_lt port m.inputs
  port_at p m ms h g e = here_by 0 p m ms h g e
