-- Links as the couplings of parts: added one by one, they are for each part those that begin there.
use Rattle.std.proofs.Common.{◌≡◌, ◌≢◌, ℕ, ◌<◌, ◌+◌, Bool, true, false, cond, eqb, List, [], ◌∷◌, ◌++◌, length, map, get_or}
use Rattle.std.proofs.Common.{replicate, refl, ap, sym, ◌∙◌, arith}
use Rattle.std.specs.Prelude.{fold, Some, None}
use Rattle.std.specs.List.{range_with_len, cons_option}
use Rattle.std.proofs.Math.ListN.{set}
use Rattle.std.proofs.lemmas.List.{append-nil, same_lists, get_or-set_same, get_or-set_other, length-set}
use Rattle.std.proofs.lemmas.List.FromFn.{length-map-range_with_len, get_or-map-range_with_len}
use Rattle.std.proofs.lemmas.Bool.{eqb-true, eqb-false}
use Rattle.dv_tree.specs.Couplings.{coupling_from_part, part_couplings}
use Rattle.dv_tree.specs.Tables.{with_coupling_at, with_link}
use Rattle.dv_tree.specs.declared.couplings.Target.{Target}
use Rattle.dv_tree.specs.declared.couplings.Target.TheVariants.{Own, OfPart}
use Rattle.dv_tree.specs.declared.couplings.Coupling.{Coupling}
use Rattle.dv_tree.specs.declared.couplings.ResolvedLink.{ResolvedLink}
use Rattle.dv_tree.proofs.Gathered.{put_before}

-- lists that are the same at each index
map_same : {X : Type 0} (f g : ℕ → X) → ((k : ℕ) → f k ≡ g k) → (ks : List ℕ) → map f ks ≡ map g ks
map_same f g same [] = refl
map_same f g same (k ∷ ks) = ap (λ x. x ∷ map f ks) (same k) ∙ ap (λ xs. g k ∷ xs) (map_same f g same ks)

replicate_none : (n a : ℕ) → replicate {A = List Coupling} n [] ≡ map (λ k. []) (range_with_len a n)
replicate_none ℕ.zero a = refl
replicate_none (ℕ.suc n) a = ap (λ xs. [] ∷ xs) (replicate_none n (a + 1))

at_part : (c : ℕ → List Coupling) (n part : ℕ) (x : Coupling) (k : ℕ) (d : List Coupling) → k < n → (b : Bool) → eqb part k ≡ b →
    get_or (set (map c (range_with_len 0 n)) part (get_or (map c (range_with_len 0 n)) part [] ++ x ∷ [])) k d
    ≡ c k ++ cons_option (cond (eqb part k) (Some x) None) []
at_part c n part x k d within true e =
    let xs = map c (range_with_len 0 n) in
    let same : part ≡ k = eqb-true part k e in
    let inside : part < length xs = omega (arith, within, same, length-map-range_with_len c 0 n) in
    ap (λ i. get_or (set xs part (get_or xs part [] ++ x ∷ [])) i d) (sym same)
    ∙ (get_or-set_same xs part (get_or xs part [] ++ x ∷ []) d inside
    ∙ (ap (λ ys. ys ++ x ∷ []) (get_or-map-range_with_len c 0 n part k [] (omega (arith, within, same)) (omega (arith, same)))
    ∙ ap (λ t. c k ++ cons_option (cond t (Some x) None) []) (sym e)))
at_part c n part x k d within false e =
    let xs = map c (range_with_len 0 n) in
    let other : k ≢ part = λ same. eqb-false part k e (sym same) in
    get_or-set_other xs part k (get_or xs part [] ++ x ∷ []) d other
    ∙ (get_or-map-range_with_len c 0 n k k d within (omega arith)
    ∙ (sym (append-nil (c k)) ∙ ap (λ t. c k ++ cons_option (cond t (Some x) None) []) (sym e)))

-- with one coupling more at its part
pub with_coupling_at-of_part : (c : ℕ → List Coupling) (n part : ℕ) (x : Coupling) →
    set (map c (range_with_len 0 n)) part (get_or (map c (range_with_len 0 n)) part [] ++ x ∷ [])
    ≡ map (λ k. c k ++ cons_option (cond (eqb part k) (Some x) None) []) (range_with_len 0 n)
with_coupling_at-of_part c n part x =
    let xs = map c (range_with_len 0 n) in
    let after : ℕ → List Coupling = λ k. c k ++ cons_option (cond (eqb part k) (Some x) None) [] in
    same_lists (set xs part (get_or xs part [] ++ x ∷ [])) (map after (range_with_len 0 n))
    (length-set xs part _ ∙ (length-map-range_with_len c 0 n ∙ sym (length-map-range_with_len after 0 n)))
    (λ k d within.
    let below : k < n = omega (arith, within, length-set xs part (get_or xs part [] ++ x ∷ []), length-map-range_with_len c 0 n) in
    at_part c n part x k d below (eqb part k) refl
    ∙ sym (get_or-map-range_with_len after 0 n k k d below (omega arith)))

-- with what a link is at its part
pub with_link-added : (c : ℕ → List Coupling) (n : ℕ) (from to : Target) →
    with_coupling_at from to (map c (range_with_len 0 n))
    ≡ map (λ k. c k ++ cons_option (coupling_from_part k from to) []) (range_with_len 0 n)
with_link-added c n (Own port) to = map_same c (λ k. c k ++ []) (λ k. sym (append-nil (c k))) (range_with_len 0 n)
with_link-added c n (OfPart part port) to = with_coupling_at-of_part c n part (record { port = port; target = to })

with_links : (links : List ResolvedLink) (c : ℕ → List Coupling) (n : ℕ) →
    fold with_link (map c (range_with_len 0 n)) links ≡ map (λ k. c k ++ part_couplings links k) (range_with_len 0 n)
with_links [] c n = map_same c (λ k. c k ++ []) (λ k. sym (append-nil (c k))) (range_with_len 0 n)
with_links (l ∷ links) c n =
    ap (λ lists. fold with_link lists links) (with_link-added c n l.from l.to)
    ∙ (with_links links (λ k. c k ++ cons_option (coupling_from_part k l.from l.to) []) n
    ∙ map_same (λ k. (c k ++ cons_option (coupling_from_part k l.from l.to) []) ++ part_couplings links k)
    (λ k. c k ++ part_couplings (l ∷ links) k)
    (λ k. put_before (c k) (coupling_from_part k l.from l.to) (part_couplings links k)) (range_with_len 0 n))

-- all links, from no couplings on
pub all_links : (links : List ResolvedLink) (n : ℕ) →
    fold with_link (replicate n []) links ≡ map (part_couplings links) (range_with_len 0 n)
all_links links n = ap (λ lists. fold with_link lists links) (replicate_none n 0) ∙ with_links links (λ k. []) n
