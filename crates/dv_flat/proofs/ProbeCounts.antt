-- How often a probe is sent at a port: once at its source, and nowhere else.
use Rattle.std.proofs.Common.{◌≡◌, ℕ, zero, suc, ◌+◌, ◌*◌, ◌<◌, ◌≤◌, Bool, true, false, eqb, List, [], ◌∷◌}
use Rattle.std.proofs.Common.{length, map, drop, get_or, set, replicate, ℤ, pos, refl, ap, sym, ◌∙◌, subst, arith, ⊎_elim}
use Rattle.std.specs.Prelude.{◌&&◌}
use Rattle.std.specs.List.{All}
use Rattle.std.proofs.Math.Seq.{drop-cons}
use Rattle.std.proofs.lemmas.Bool.{cases_Bool, cases_lt, eqb-true, eqb-false}
use Rattle.std.proofs.lemmas.Bool.Decides.{nat_tests}
use Rattle.std.proofs.lemmas.Int.{ints}
use Rattle.std.proofs.lemmas.List.{get_or-set_same, get_or-set_other, get_or_past, length-replicate, length-set}
use Rattle.std.proofs.lemmas.List.Elements.{All-head, All-tail}
use Rattle.dv_syntax.specs.Trees.{FileTree}
use Rattle.dv_bag.specs.Bag.{Counts, IsBag, bag_at, capped, count_of, with_copies}
use Rattle.dv_bag.proofs.Monoid.{count_kept, count_with_other, count_with_same}
use Rattle.dv_bag.proofs.Pairs.{with_copies_bag}
use Rattle.dv_tree.specs.Instances.{Instance, instances}
use Rattle.dv_bag.specs.BagLists.{AllAreBags}
use Rattle.dv_flat.specs.Carried.{same_port, sent_at}
use Rattle.dv_flat.specs.Ends.{output_count, port_at}
use Rattle.dv_flat.specs.Probes.{IsOutput, sent_probes, silence, with_probe, with_probes}
use Rattle.dv_flat.specs.declared.link.ComponentPort.{ComponentPort}
use Rattle.dv_flat.proofs.Picked.{same_port-true, tick}

-- ---- The ports that there are stay

pub lengths : (all : List (List Counts)) (k : ℕ) → length (get_or all k []) ≡ get_or (map length all) k 0
lengths [] k = refl
lengths (bags ∷ all) zero = refl
lengths (bags ∷ all) (suc k) = lengths all k

lengths_kept : (sent : List (List Counts)) (c p : ℕ) (b : Counts) →
    map length (set sent c (set (get_or sent c []) p b)) ≡ map length sent
lengths_kept [] c p b = refl
lengths_kept (bags ∷ rest) zero p b = ap (λ n. n ∷ map length rest) (length-set bags p b)
lengths_kept (bags ∷ rest) (suc c) p b = ap (λ ns. length bags ∷ ns) (lengths_kept rest c p b)

pub component_within : (sent : List (List Counts)) (c p : ℕ) → p < length (get_or sent c []) → c < length sent
component_within sent c p within =
    ⊎_elim (λ (lt : c < length sent). lt)
    (λ (ge : length sent ≤ c). absurd (omega (arith, within, ap length (get_or_past sent c [] ge)))) (cases_lt c (length sent))

pub silence_lengths : (is : List Instance) → map length (silence is) ≡ map (λ (i : Instance). output_count i.model) is
silence_lengths [] = refl
silence_lengths (i ∷ is) =
    ap (λ n. n ∷ map length (silence is)) (length-replicate {A = Counts} (output_count i.model) [])
    ∙ ap (λ ns. output_count i.model ∷ ns) (silence_lengths is)

no_value : (n port : ℕ) → bag_at (replicate n []) port ≡ []
no_value zero port = refl
no_value (suc n) zero = refl
no_value (suc n) (suc port) = no_value n port

silent : (is : List Instance) (k port : ℕ) → bag_at (get_or (silence is) k []) port ≡ []
silent [] k port = refl
silent (i ∷ is) zero port = no_value (output_count i.model) port
silent (i ∷ is) (suc k) port = silent is k port

-- ---- One probe more

module _ (sent : List (List Counts)) (are_bags : AllAreBags sent) (s c p : ℕ) (within : p < length (get_or sent c [])) where
  put_here : bag_at (get_or (with_probe sent s (port_at c p)) c []) p ≡ with_copies (pos s) 1 (bag_at (get_or sent c []) p)
  put_here =
      let bags = get_or sent c [] in
      let new = with_copies (pos s) 1 (bag_at bags p) in
      ap (λ (xs : List Counts). bag_at xs p) (get_or-set_same sent c (set bags p new) [] (component_within sent c p within))
      ∙ get_or-set_same bags p new [] within

  put_elsewhere : (k port : ℕ) → same_port (port_at k port) (port_at c p) ≡ false →
      bag_at (get_or (with_probe sent s (port_at c p)) k []) port ≡ bag_at (get_or sent k []) port
  put_elsewhere k port apart =
      let bags = get_or sent c [] in
      let new = with_copies (pos s) 1 (bag_at bags p) in
      ⊎_elim
      (λ (e : eqb k c ≡ true).
      let same : k ≡ c = eqb-true k c e in
      let other : eqb port p ≡ false = sym (ap (λ (b : Bool). b && eqb port p) e) ∙ apart in
      ap (λ (n : ℕ). bag_at (get_or (with_probe sent s (port_at c p)) n []) port) same
      ∙ (ap (λ (xs : List Counts). bag_at xs port) (get_or-set_same sent c (set bags p new) [] (component_within sent c p within))
      ∙ (get_or-set_other bags p port new [] (λ q. eqb-false port p other q)
      ∙ ap (λ (n : ℕ). bag_at (get_or sent n []) port) (sym same))))
      (λ (e : eqb k c ≡ false).
      ap (λ (xs : List Counts). bag_at xs port) (get_or-set_other sent c k (set bags p new) [] (λ q. eqb-false k c e q)))
      (cases_Bool (eqb k c))

  -- what is sent are still bags
  put_bags : AllAreBags (with_probe sent s (port_at c p))
  put_bags k port =
      ⊎_elim
      (λ (e : same_port (port_at k port) (port_at c p) ≡ true).
      let At : ComponentPort → Type 0 = λ x. IsBag (sent_at (with_probe sent s (port_at c p)) x) in
      subst At (sym (same_port-true (port_at k port) (port_at c p) e))
      (subst IsBag (sym put_here) (with_copies_bag (pos s) 1 (bag_at (get_or sent c []) p) (are_bags c p))))
      (λ (e : same_port (port_at k port) (port_at c p) ≡ false). subst IsBag (sym (put_elsewhere k port e)) (are_bags k port))
      (cases_Bool (same_port (port_at k port) (port_at c p)))

  here_counted : (t : ℕ) →
      count_of (pos t) (with_copies (pos s) 1 (bag_at (get_or sent c []) p))
      ≡ capped (count_of (pos t) (bag_at (get_or sent c []) p) + tick (eqb s t))
  here_counted t =
      let b = bag_at (get_or sent c []) p in
      ⊎_elim
      (λ (e : eqb s t ≡ true).
      ap (λ n. count_of (pos t) (with_copies (pos n) 1 b)) (eqb-true s t e)
      ∙ (count_with_same (pos t) 1 b (are_bags c p) ∙ ap (λ x. capped (count_of (pos t) b + tick x)) (sym e)))
      (λ (e : eqb s t ≡ false).
      let other = count_with_other (pos t) (pos s) 1 b (λ same. eqb-false s t e (omega (arith, ints))) in
      omega (arith, other, ap tick e, count_kept (pos t) b (are_bags c p)))
      (cases_Bool (eqb s t))

  -- a probe comes to its port once more
  put_counted : (t k port : ℕ) →
      count_of (pos t) (bag_at (get_or (with_probe sent s (port_at c p)) k []) port)
      ≡ capped
      (count_of (pos t) (bag_at (get_or sent k []) port) + tick (eqb s t) * tick (same_port (port_at k port) (port_at c p)))
  put_counted t k port =
      let after = with_probe sent s (port_at c p) in
      let old = count_of (pos t) (bag_at (get_or sent k []) port) in
      ⊎_elim
      (λ (e : same_port (port_at k port) (port_at c p) ≡ true).
      let same = same_port-true (port_at k port) (port_at c p) e in
      let moved = ap (λ x. count_of (pos t) (sent_at after x)) same in
      let was = ap (λ x. count_of (pos t) (sent_at sent x)) same in
      let one = ap tick e in
      let unit : tick (eqb s t) * tick (same_port (port_at k port) (port_at c p)) ≡ tick (eqb s t) =
      ap (λ n. tick (eqb s t) * n) one ∙ omega arith in
      omega (arith, moved, was, ap (count_of (pos t)) put_here, here_counted t, unit))
      (λ (e : same_port (port_at k port) (port_at c p) ≡ false).
      let none : tick (eqb s t) * tick (same_port (port_at k port) (port_at c p)) ≡ 0 =
      ap (λ n. tick (eqb s t) * n) (ap tick e) ∙ omega arith in
      omega (
        arith,
        ap (count_of (pos t)) (put_elsewhere k port e),
        none,
        count_kept (pos t) (bag_at (get_or sent k []) port) (are_bags k port),
      ))
      (cases_Bool (same_port (port_at k port) (port_at c p)))

-- ---- The probes of all sources

tick_small : (b : Bool) → tick b ≤ 1
tick_small true = omega arith
tick_small false = omega arith

-- how often a probe stands at a port, by the sources from one probe on
abbrev pub standing : ℕ → ComponentPort → ℕ → List ComponentPort → ℕ
standing t x s [] = 0
standing t x s (from ∷ froms) = tick (eqb s t) * tick (same_port x from) + standing t x (suc s) froms

none_standing : (t : ℕ) (x : ComponentPort) (s : ℕ) (froms : List ComponentPort) → t < s → standing t x s froms ≡ 0
none_standing t x s [] h = refl
none_standing t x s (from ∷ froms) h =
    let other : tick (eqb s t) ≡ 0 = grind (arith, nat_tests) in
    omega (arith, ap (λ n. n * tick (same_port x from)) other, none_standing t x (suc s) froms (omega (arith, h)))

standing_past : (t : ℕ) (x : ComponentPort) (s : ℕ) (froms : List ComponentPort) → s + length froms ≤ t →
    standing t x s froms ≡ 0
standing_past t x s [] h = refl
standing_past t x s (from ∷ froms) h =
    let other : tick (eqb s t) ≡ 0 = grind (arith, nat_tests) in
    omega (arith, ap (λ n. n * tick (same_port x from)) other, standing_past t x (suc s) froms (omega (arith, h)))

standing_at : (t : ℕ) (x : ComponentPort) (s j : ℕ) (froms : List ComponentPort) (d : ComponentPort) → t ≡ s + j →
    j < length froms →
    standing t x s froms ≡ tick (same_port x (get_or froms j d))
standing_at t x s j [] d e within = absurd (omega (arith, within))
standing_at t x s zero (from ∷ froms) d e within =
    let here : tick (eqb s t) ≡ 1 = grind (arith, nat_tests) in
    omega (arith, ap (λ n. n * tick (same_port x from)) here, none_standing t x (suc s) froms (omega (arith, e)))
standing_at t x s (suc j) (from ∷ froms) d e within =
    let other : tick (eqb s t) ≡ 0 = grind (arith, nat_tests) in
    omega (
      arith,
      ap (λ n. n * tick (same_port x from)) other,
      standing_at t x (suc s) j froms d (omega (arith, e)) (omega (arith, within)),
    )

abbrev pub AreThere : List ℕ → List ComponentPort → Type 0
AreThere counts froms = All (λ (from : ComponentPort). from.port < get_or counts from.component 0) froms

pub port_there : (sent : List (List Counts)) (counts : List ℕ) (from : ComponentPort) → map length sent ≡ counts →
    from.port < get_or counts from.component 0 → from.port < length (get_or sent from.component [])
port_there sent counts from many there =
    omega (arith, there, lengths sent from.component, ap (λ ns. get_or ns from.component 0) many)

record ArePut (counts : List ℕ) (s : ℕ) (froms : List ComponentPort) (sent : List (List Counts)) : Type 0 where
  pub bags : AllAreBags (with_probes s froms sent)
  pub counted : (t k port : ℕ) →
      count_of (pos t) (bag_at (get_or (with_probes s froms sent) k []) port)
      ≡ capped (count_of (pos t) (bag_at (get_or sent k []) port) + standing t (port_at k port) s froms)

all_put : (counts : List ℕ) (s : ℕ) (froms : List ComponentPort) (sent : List (List Counts)) → AreThere counts froms →
    map length sent ≡ counts → AllAreBags sent → ArePut counts s froms sent
all_put counts s [] sent there many are_bags = record {
  bags = are_bags;
  counted =
      λ t k port. omega (arith, count_kept (pos t) (bag_at (get_or sent k []) port) (are_bags k port));
}
all_put counts s (from ∷ froms) sent there many are_bags =
    let Is : ComponentPort → Type 0 = λ x. x.port < get_or counts x.component 0 in
    let within = port_there sent counts from many (All-head Is from froms there) in
    let c = from.component in
    let p = from.port in
    let rest = all_put counts (suc s) froms (with_probe sent s from) (All-tail Is from froms there)
    (lengths_kept sent c p (with_copies (pos s) 1 (bag_at (get_or sent c []) p)) ∙ many)
    (put_bags sent are_bags s c p within) in
    record {
      bags = rest.bags;
      counted =
          λ t k port. omega (arith, rest.counted t k port, put_counted sent are_bags s c p within t k port);
    }

module _ (f : FileTree) (sources : List ComponentPort) (valid : All (IsOutput f) sources) where
  put : ArePut (map (λ (i : Instance). output_count i.model) (instances f)) 0 sources (silence (instances f))
  put =
      all_put (map (λ (i : Instance). output_count i.model) (instances f)) 0 sources (silence (instances f)) valid
      (silence_lengths (instances f)) (λ k port. subst IsBag (sym (silent (instances f) k port)) tt)

  pub probes_are_bags : AllAreBags (sent_probes f sources)
  probes_are_bags = put.bags

  -- each probe is sent at its source once, and nowhere else
  counted_at : (t k port : ℕ) →
      count_of (pos t) (bag_at (get_or (sent_probes f sources) k []) port) ≡ capped (standing t (port_at k port) 0 sources)
  counted_at t k port =
      omega (arith, put.counted t k port, ap (count_of (pos t)) (silent (instances f) k port))

  pub sent_at_source : (t : ℕ) (d x : ComponentPort) → t < length sources →
      count_of (pos t) (sent_at (sent_probes f sources) x) ≡ tick (same_port x (get_or sources t d))
  sent_at_source t d x within =
      let there = standing_at t x 0 t sources d (omega arith) within in
      let small = tick_small (same_port x (get_or sources t d)) in
      omega (arith, counted_at t x.component x.port, there, small)

  pub sent_nowhere : (t : ℕ) (x : ComponentPort) → length sources ≤ t → count_of (pos t) (sent_at (sent_probes f sources) x) ≡ 0
  sent_nowhere t x past =
      let none = standing_past t x 0 sources (omega (arith, past)) in omega (arith, counted_at t x.component x.port, none)

-- ---- A step of the loop that sends them

module _ (sources : List ComponentPort) (t : ℕ) (d : ComponentPort) (sent : List (List Counts)) (values new : List Counts) (v : ℤ)
    (within : t < length sources) (value : v ≡ pos t) (old : values ≡ get_or sent (get_or sources t d).component [])
    (added :
    new ≡ set values (get_or sources t d).port (with_copies v 1 (bag_at values (get_or sources t d).port))) where
  probe_put : set sent (get_or sources t d).component new ≡ with_probe sent t (get_or sources t d)
  probe_put =
      let from = get_or sources t d in
      ap (set sent from.component)
      (added
      ∙ (ap (λ (z : ℤ). set values from.port (with_copies z 1 (bag_at values from.port))) value
      ∙ ap (λ (xs : List Counts). set xs from.port (with_copies (pos t) 1 (bag_at xs from.port))) old))

  pub probe_sent : with_probes (t + 1) (drop (t + 1) sources) (set sent (get_or sources t d).component new)
      ≡ with_probes t (drop t sources) sent
  probe_sent =
      let from = get_or sources t d in
      ap (with_probes (t + 1) (drop (t + 1) sources)) probe_put
      ∙ (ap (λ n. with_probes n (drop n sources) (with_probe sent t from)) (let same : t + 1 ≡ suc t = omega arith in same)
      ∙ ap (λ xs. with_probes t xs sent) (sym (drop-cons sources t d within)))

  pub probe_lengths : map length (set sent (get_or sources t d).component new) ≡ map length sent
  probe_lengths =
      let from = get_or sources t d in
      ap (map length) probe_put
      ∙ lengths_kept sent from.component from.port (with_copies (pos t) 1 (bag_at (get_or sent from.component []) from.port))
