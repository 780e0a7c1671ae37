-- Each step of an end keeps the rule of the link.
use Rattle.std.proofs.Common.{◌≡◌, ◌≢◌, ℕ, zero, suc, true, false, true≢false, List, [], ◌∷◌, ◌++◌, length, set}
use Rattle.std.proofs.Common.{Option, Some, refl, sym, ap, ◌∙◌, subst, ⊎_elim, append_assoc}
use Rattle.std.proofs.lemmas.List.{map-append}
use mathlib.Core.Option.{some, some-ne-none}
use lib.ListN.{get_elem?}
use Rattle.crossbeam_queue.specs.Fifo.{Pushes, Pops, Forks, Learns}
use Rattle.crossbeam_queue.proofs.Lists.{at_set, at_snoc}
use Rattle.dv_conservative.specs.Process.{first_time}
use Rattle.dv_conservative.specs.True.{AreTrue, IsTruePacket}
use Rattle.dv_conservative.specs.World.{Channel, Job}
use Rattle.dv_conservative.proofs.Crossing.{true_first}
use Rattle.dv_conservative.proofs.Holding.{joins}
use Rattle.dv_proc.specs.Packets.{meant_packet, meant_packets}
use Rattle.dv_proc.specs.declared.packet.Packet.{Packet}
use Rattle.dv_link.specs.declared.rule.EndView.{EndView}
use Rattle.dv_link.specs.Views.{end_view}
use Rattle.dv_link.specs.Carries.{AllTrue, Carries, Fits, IsNextOn}

at_end : (l : List EndView) (a b : EndView) (j : ℕ) → get_elem? l j ≢ some b → get_elem? (l ++ a ∷ []) j ≡ some b → j ≡ length l
at_end [] a b zero n e = refl
at_end [] a b (suc j) n e = absurd (some-ne-none b (sym e))
at_end (x ∷ xs) a b zero n e = absurd (n e)
at_end (x ∷ xs) a b (suc j) n e = ap suc (at_end xs a b j n e)

abbrev All : (ℕ → EndView → Type 0) → List EndView → Type 0
All F views = (end : ℕ) (v : EndView) → get_elem? views end ≡ some v → F end v

all_set : (F : ℕ → EndView → Type 0) (views : List EndView) (end : ℕ) (w : EndView) → F end w
    → ((j : ℕ) (u : EndView) → j ≢ end → get_elem? views j ≡ some u → F j u) → All F (set views end w)
all_set F views end w mine others j u e =
    ⊎_elim (λ (x : (j ≡ end) × (w ≡ u)). subst (λ (y : ℕ × EndView). F y.0 y.1) (λ i. (sym x.0 i, x.1 i)) mine)
    (λ (x : (j ≢ end) × (get_elem? views j ≡ some u)). others j u x.0 x.1) (at_set views end j w u e)

-- a next packet joins those that were put
all_joined : (job : Job) (link : ℕ) (ps : List Packet) (p : Packet) → AllTrue job link ps → IsNextOn job link ps p
    → AllTrue job link (ps ++ p ∷ [])
all_joined job link ps p all next c e =
    let same : next.channel ≡ c = some_same next.there e in
    subst (AreTrue job link c first_time) (sym (map-append meant_packet ps (p ∷ [])))
    (joins job link c first_time (meant_packets ps) (meant_packet p) (all c e) next.joins
    (subst (λ (d : Channel). IsTruePacket job link d (meant_packet p)) same next.truth))
  where
    some_same : {o : Option Channel} {a b : Channel} → o ≡ Some a → o ≡ Some b → a ≡ b
    some_same e d = cc

-- the first of them are true
all_first : (job : Job) (link : ℕ) (ps qs : List Packet) → AllTrue job link (ps ++ qs) → AllTrue job link ps
all_first job link ps qs all c e =
    true_first job link c first_time (meant_packets ps) (meant_packets qs)
    (subst (AreTrue job link c first_time) (map-append meant_packet ps qs) (all c e))

module _ (job : Job) where
  -- a new link
  pub begins : Carries job [] (end_view 0 true true [] [] ∷ [])
  begins = (
    0,
    0,
    0,
    [],
    [],
    refl,
    (λ c e. tt),
    all_set (Fits 0 0 0 [] []) (end_view 0 true true [] [] ∷ []) 0 (end_view 0 true true [] [])
        ((λ _. (refl, refl, refl)), λ _. (refl, refl, refl))
        (λ j u other e. absurd (other (at_end [] _ u j (λ x. some-ne-none u (sym x)) e))),
  )

  -- the two ends are told their link
  pub parts : (end : ℕ) (v : EndView) (link : ℕ) → v ≡ end_view 0 true true [] []
      → Forks (Carries job) end v (end_view link true false [] []) (end_view link false true [] [])
  parts end v link is items views h at =
      let l : EndView = end_view link true false [] [] in
      let r : EndView = end_view link false true [] [] in
      let mine = h.7 end v at in
      let yes : v.puts ≡ true = ap (λ (x : EndView). x.puts) is in
      let yes' : v.takes ≡ true = ap (λ (x : EndView). x.takes) is in
      let put_is : h.3 ≡ [] = sym (mine.0 yes).2 ∙ ap (λ (x : EndView). x.put) is in
      let taken_is : h.4 ≡ [] = sym (mine.1 yes').2 ∙ ap (λ (x : EndView). x.taken) is in
      let vs : List EndView = set views end l in
      let Old : ℕ → EndView → Type 0
      = λ j u. (u.puts ≡ true → (j ≡ h.0) × (u.link ≡ link) × (u.put ≡ [])) × (u.takes ≢ true) in
      let old : All Old vs = all_set Old views end l ((λ _. ((mine.0 yes).0, refl, refl)), λ p. true≢false (sym p))
      (λ j u other e. (
        (λ p. absurd (other (((h.7 j u e).0 p).0 ∙ sym (mine.0 yes).0))),
        λ p. other (((h.7 j u e).1 p).0 ∙ sym (mine.1 yes').0),
      )) in (
        h.0,
        length vs,
        link,
        [],
        [],
        sym put_is ∙ h.5 ∙ ap (λ t. t ++ items) taken_is,
        (λ c e. tt),
        λ j u e. ⊎_elim (λ x. ((old j u x).0, λ p. absurd ((old j u x).1 p)))
            (λ (is' : r ≡ u). (
              (λ p. absurd (true≢false (sym (ap (λ (y : EndView). y.puts) is' ∙ p)))),
              λ p. (
                at_end vs r u j (λ x. (old j u x).1 p) e,
                ap (λ (y : EndView). y.link) (sym is'),
                ap (λ (y : EndView). y.taken) (sym is'),
              ),
            )) (at_snoc vs r u j e),
      )

  pub puts : (n end : ℕ) (v : EndView) (p : Packet) → v.puts ≡ true → IsNextOn job v.link v.put p
      → Pushes (Carries job) n end v p (λ w. w ≡ end_view v.link v.puts v.takes (v.put ++ p ∷ []) v.taken)
  puts n end v p may next items views _ h at =
      let w : EndView = end_view v.link v.puts v.takes (v.put ++ p ∷ []) v.taken in
      let mine = h.7 end v at in
      let me = mine.0 may in
      let put : List Packet = h.3 ++ p ∷ [] in (
        w,
        (
          h.0,
          h.1,
          h.2,
          put,
          h.4,
          ap (λ l. l ++ p ∷ []) h.5 ∙ append_assoc h.4 items (p ∷ []),
          all_joined job h.2 h.3 p h.6 (subst (λ (y : ℕ × List Packet). IsNextOn job y.0 y.1 p) (λ i. (me.1 i, me.2 i)) next),
          all_set (Fits h.0 h.1 h.2 put h.4) views end w ((λ _. (me.0, me.1, ap (λ l. l ++ p ∷ []) me.2)), mine.1)
              (λ j u other e. ((λ q. absurd (other (((h.7 j u e).0 q).0 ∙ sym me.0))), (h.7 j u e).1)),
        ),
        refl,
      )

  -- what an end took is true
  pub learns : (end : ℕ) (v : EndView) → v.takes ≡ true → Learns (Carries job) end v (λ items. AllTrue job v.link v.taken)
  learns end v may items views h at =
      let me = (h.7 end v at).1 may in
      let all : AllTrue job h.2 (h.4 ++ items) = subst (AllTrue job h.2) h.5 h.6 in
      subst (λ (y : ℕ × List Packet). AllTrue job y.0 y.1) (λ i. (sym me.1 i, sym me.2 i)) (all_first job h.2 h.4 items all)

  pub takes : (end : ℕ) (v : EndView) → v.takes ≡ true
      → Pops (Carries job) end v
      (λ p w. (w ≡ end_view v.link v.puts v.takes v.put (v.taken ++ p ∷ [])) × AllTrue job v.link w.taken)
  takes end v may p items views h at =
      let w : EndView = end_view v.link v.puts v.takes v.put (v.taken ++ p ∷ []) in
      let mine = h.7 end v at in
      let me = mine.1 may in
      let taken : List Packet = h.4 ++ p ∷ [] in
      let same : h.3 ≡ taken ++ items = h.5 ∙ sym (append_assoc h.4 (p ∷ []) items) in
      let all : AllTrue job h.2 taken = all_first job h.2 taken items (subst (AllTrue job h.2) same h.6) in (
        w,
        (
          h.0,
          h.1,
          h.2,
          h.3,
          taken,
          same,
          h.6,
          all_set (Fits h.0 h.1 h.2 h.3 taken) views end w (mine.0, λ _. (me.0, me.1, ap (λ l. l ++ p ∷ []) me.2))
              (λ j u other e. ((h.7 j u e).0, λ q. absurd (other (((h.7 j u e).1 q).0 ∙ sym me.0)))),
        ),
        (
          refl,
          subst (λ (y : ℕ × List Packet). AllTrue job y.0 y.1) (λ i. (sym me.1 i, ap (λ l. l ++ p ∷ []) (sym me.2) i)) all,
        ),
      )
