-- What was sent, and the variables of a state.
use Rattle.std.proofs.Common.{◌≡◌, ◌⊎◌, inl, inr, nat_eq, cond, subst, ℕ, Bool, true, false, List, [], ◌∷◌, ◌++◌, refl, sym, ap}
use Rattle.std.proofs.Common.{◌∙◌, append_assoc, append-nil, arith, zero, suc, ◌+◌, ◌<◌, ◌≤◌, length, drop, get_or}
use Rattle.std.proofs.lemmas.Bool.{cases_lt, ne_eqb}
use Rattle.std.proofs.lemmas.Bool.Decides.{nat_tests}
use Rattle.std.proofs.lemmas.List.{drop_all, drop_more}
use Rattle.dv_bag.specs.Bag.{Counts, bag_at, size, size_of_all}
use Rattle.dv_bag.specs.Sent.{RiseFrom, pairs_at}
use Rattle.dv_bag.specs.declared.sent.Sending.{Sending}
use Rattle.dv_bag.specs.declared.state.Datum.{Datum}
use Rattle.dv_tree.specs.Paths.{name_at, texts_of}
use Rattle.dv_text.specs.Writing.{sent_from}
use Rattle.dv_text.specs.Texts.{datum_text, port_text, ports_text, sent_text, values_text, variables_text}

-- one more variable
pub variables_step :
    (names : List (List ℕ)) (line line1 line2 whole : List ℕ) (ns ns' : List ℕ) (ds ds' : List Datum) (n : ℕ) (d : Datum) → ns ≡ n ∷ ns' →
    ds ≡ d ∷ ds' → line ++ variables_text (texts_of names ns) ds ≡ whole → line1 ≡ line ++ ((32 ∷ name_at names n) ++ (61 ∷ [])) →
    line2 ≡ line1 ++ datum_text d → line2 ++ variables_text (texts_of names ns') ds' ≡ whole
variables_step names line line1 line2 whole ns ns' ds ds' n d en ed before named shown =
    let rest = variables_text (texts_of names ns') ds' in
    let name = 32 ∷ name_at names n in
    let left =
    ap (λ t. line ++ t) (ap (λ ms. variables_text (texts_of names ms) ds) en ∙ ap (variables_text (texts_of names (n ∷ ns'))) ed) in
    ap (λ t. t ++ rest) (shown ∙ ap (λ t. t ++ datum_text d) named)
    ∙ append_assoc (line ++ (name ++ (61 ∷ []))) (datum_text d) rest
    ∙ append_assoc line (name ++ (61 ∷ [])) (datum_text d ++ rest)
    ∙ ap (λ t. line ++ t) (append_assoc name (61 ∷ []) (datum_text d ++ rest))
    ∙ sym left ∙ before

no_variables : (names : List (List ℕ)) (ds : List Datum) → (names ≡ []) ⊎ (ds ≡ []) → variables_text names ds ≡ []
no_variables names ds (inl e) = ap (λ ns. variables_text ns ds) e ∙ none ds where
  none : (ds : List Datum) → variables_text [] ds ≡ []
  none [] = refl
  none (d ∷ ds) = refl
no_variables names ds (inr e) = ap (λ xs. variables_text names xs) e ∙ none names where
  none : (names : List (List ℕ)) → variables_text names [] ≡ []
  none [] = refl
  none (n ∷ names) = refl

no_ports : (names : List (List ℕ)) (bags : List Counts) → (names ≡ []) ⊎ (bags ≡ []) → ports_text names bags ≡ []
no_ports names bags (inl e) = ap (λ ns. ports_text ns bags) e ∙ none bags where
  none : (bags : List Counts) → ports_text [] bags ≡ []
  none [] = refl
  none (b ∷ bags) = refl
no_ports names bags (inr e) = ap (λ xs. ports_text names xs) e ∙ none names where
  none : (names : List (List ℕ)) → ports_text names [] ≡ []
  none [] = refl
  none (n ∷ names) = refl

no_values : (b : Counts) (bags : List Counts) → nat_eq (size_of_all (b ∷ bags)) 0 ≡ true →
    (nat_eq (size b) 0 ≡ true) × (nat_eq (size_of_all bags) 0 ≡ true)
no_values b bags h = grind (arith, nat_tests)

-- where nothing was sent there is no port with values
pub nothing_sent : (names : List (List ℕ)) (bags : List Counts) → nat_eq (size_of_all bags) 0 ≡ true → ports_text names bags ≡ []
nothing_sent names [] h = no_ports names [] (inr refl)
nothing_sent [] (b ∷ bags) h = refl
nothing_sent (n ∷ names) (b ∷ bags) h =
    let none = no_values b bags h in
    ap (λ e. cond e [] ((32 ∷ n) ++ (58 ∷ values_text b)) ++ ports_text names bags) none.0 ∙ nothing_sent names bags none.1

either_texts : {A : Type 0} (names : List (List ℕ)) (ns : List ℕ) (xs : List A) → (ns ≡ []) ⊎ (xs ≡ []) →
    (texts_of names ns ≡ []) ⊎ (xs ≡ [])
either_texts names ns xs (inl e) = inl (ap (texts_of names) e)
either_texts names ns xs (inr e) = inr e

-- no variable is left
pub variables_end : (names : List (List ℕ)) (line whole : List ℕ) (ns : List ℕ) (ds : List Datum) → (ns ≡ []) ⊎ (ds ≡ []) →
    line ++ variables_text (texts_of names ns) ds ≡ whole → line ≡ whole
variables_end names line whole ns ds none before =
    sym (append-nil line) ∙ ap (λ t. line ++ t) (sym (no_variables (texts_of names ns) ds (either_texts names ns ds none))) ∙ before

sent_from-nothing : (is_first : Bool) → sent_from is_first [] ≡ []
sent_from-nothing true = refl
sent_from-nothing false = refl

-- no port is left
pub sent_end : (names : List (List ℕ)) (line whole : List ℕ) (is_first : Bool) (ns : List ℕ) (bags : List Counts) →
    (ns ≡ []) ⊎ (bags ≡ []) → line ++ sent_from is_first (ports_text (texts_of names ns) bags) ≡ whole → line ≡ whole
sent_end names line whole is_first ns bags none before =
    sym (append-nil line)
    ∙ ap (λ t. line ++ t)
    (sym (ap (sent_from is_first) (no_ports (texts_of names ns) bags (either_texts names ns bags none)) ∙ sent_from-nothing is_first))
    ∙ before

-- the next port is in front of what is left
pub left_ports :
    (names : List (List ℕ)) (line whole : List ℕ) (is_first : Bool) (ns ns' : List ℕ) (bags bags' : List Counts) (n : ℕ) (b : Counts) →
    ns ≡ n ∷ ns' → bags ≡ b ∷ bags' → line ++ sent_from is_first (ports_text (texts_of names ns) bags) ≡ whole →
    line ++ sent_from is_first (port_text (name_at names n) b ++ ports_text (texts_of names ns') bags') ≡ whole
left_ports names line whole is_first ns ns' bags bags' n b en eb before =
    ap (λ t. line ++ sent_from is_first t)
    (sym (ap (λ ms. ports_text (texts_of names ms) bags) en ∙ ap (ports_text (texts_of names (n ∷ ns'))) eb)) ∙ before

-- a port with no values is passed over
pub no_port : (line : List ℕ) (is_first : Bool) (name : List ℕ) (b : Counts) (rest : List ℕ) → nat_eq (size b) 0 ≡ true →
    line ++ sent_from is_first rest ≡ line ++ sent_from is_first (port_text name b ++ rest)
no_port line is_first name b rest none =
    ap (λ (e : Bool). line ++ sent_from is_first (cond e [] ((32 ∷ name) ++ (58 ∷ values_text b)) ++ rest)) (sym none)

marked : (is_first : Bool) (name : List ℕ) (b : Counts) (rest : List ℕ) → nat_eq (size b) 0 ≡ false →
    cond is_first (32 ∷ 62 ∷ []) [] ++ (port_text name b ++ rest) ≡ sent_from is_first (port_text name b ++ rest)
marked true name b rest some =
    let P : Bool → Type 0 =
    λ e. (32 ∷ 62 ∷ []) ++ (cond e [] ((32 ∷ name) ++ (58 ∷ values_text b)) ++ rest) ≡ sent_text
    (cond e [] ((32 ∷ name) ++ (58 ∷ values_text b)) ++ rest) in
    subst P (sym some) refl
marked false name b rest some = refl

-- a port with values, and the ` >` before it if it is the first
pub next_port : (line line1 line2 : List ℕ) (is_first : Bool) (name : List ℕ) (b : Counts) (rest : List ℕ) → nat_eq (size b) 0 ≡ false →
    line1 ≡ line ++ cond is_first (32 ∷ 62 ∷ []) [] → line2 ≡ line1 ++ port_text name b →
    line2 ++ rest ≡ line ++ sent_from is_first (port_text name b ++ rest)
next_port line line1 line2 is_first name b rest some mark port =
    let text = port_text name b in
    ap (λ t. t ++ rest) (port ∙ ap (λ t. t ++ text) mark)
    ∙ append_assoc (line ++ cond is_first (32 ∷ 62 ∷ []) []) text rest
    ∙ append_assoc line (cond is_first (32 ∷ 62 ∷ []) []) (text ++ rest)
    ∙ ap (λ t. line ++ t) (marked is_first name b rest some)

-- ports at which nothing was sent are passed over
module _ (texts : List (List ℕ)) (names : List ℕ) (bags : List Counts) where
  abbrev pub left_text : ℕ → List ℕ
  left_text p = ports_text (texts_of texts (drop p names)) (drop p bags)

  no_names_left : (p : ℕ) → length names ≤ p → left_text p ≡ []
  no_names_left p ge = no_ports (texts_of texts (drop p names)) (drop p bags) (inl (ap (texts_of texts) (drop_all p names ge)))

  no_bags_left : (p : ℕ) → length bags ≤ p → left_text p ≡ []
  no_bags_left p ge = no_ports (texts_of texts (drop p names)) (drop p bags) (inr (drop_all p bags ge))

  one_passed : (p : ℕ) → bag_at bags p ≡ [] → left_text p ≡ left_text (p + 1)
  one_passed p none = elim (cases_lt p (length names)) [
    | inr ge ↦ no_names_left p ge ∙ sym (no_names_left (p + 1) (omega (arith, ge)))
    | inl lt ↦ elim (cases_lt p (length bags)) [
      | inr ge ↦ no_bags_left p ge ∙ sym (no_bags_left (p + 1) (omega (arith, ge)))
      | inl within ↦
          ap (λ ns. ports_text (texts_of texts ns) (drop p bags)) (drop_more names p 0 lt)
          ∙ ap (ports_text (texts_of texts (get_or names p 0 ∷ drop (p + 1) names))) (drop_more bags p [] within)
          ∙ ap (λ (b : Counts). port_text (name_at texts (get_or names p 0)) b ++ left_text (p + 1)) none
    ]
  ]

  pub ports_passed : (count p : ℕ) → ((x : ℕ) → p ≤ x → x < p + count → bag_at bags x ≡ []) → left_text p ≡ left_text (p + count)
  ports_passed zero p none = ap left_text (let same : p ≡ p + 0 = omega arith in same)
  ports_passed (suc count) p none =
      one_passed p (none p (omega arith) (omega arith))
      ∙ ports_passed count (p + 1) (λ x le lt. none x (omega (arith, le)) (omega (arith, lt)))
      ∙ ap left_text (let same : (p + 1) + count ≡ p + suc count = omega arith in same)

  pub nothing_left : (p : ℕ) → ((x : ℕ) → p ≤ x → bag_at bags x ≡ []) → left_text p ≡ []
  nothing_left p none =
      ports_passed (length bags) p (λ x le lt. none x le) ∙ no_bags_left (p + length bags) (omega arith)

-- the sendings before an index go to ports below a bound
module _ (ss : List Sending) (rise : RiseFrom 0 ss) (bags : List Counts) (pairs : (port : ℕ) → pairs_at port ss ≡ bag_at bags port) where
  port_from : (low i : ℕ) (d : Sending) (xs : List Sending) → RiseFrom low xs → i < length xs → low ≤ (get_or xs i d).port
  port_from low i d [] h lt = absurd (omega arith)
  port_from low zero d (x ∷ xs) h lt = h.0
  port_from low (suc i) d (x ∷ xs) h lt = let rest = port_from x.port i d xs h.1 (omega (arith, lt)) in omega (arith, h.0, rest)

  ports_follow : (low i j : ℕ) (d : Sending) (xs : List Sending) → RiseFrom low xs → i ≤ j → j < length xs →
      (get_or xs i d).port ≤ (get_or xs j d).port
  ports_follow low i j d [] h le lt = absurd (omega arith)
  ports_follow low zero zero d (x ∷ xs) h le lt = omega arith
  ports_follow low zero (suc j) d (x ∷ xs) h le lt = port_from x.port j d xs h.1 (omega (arith, lt))
  ports_follow low (suc i) zero d (x ∷ xs) h le lt = absurd (omega (arith, le))
  ports_follow low (suc i) (suc j) d (x ∷ xs) h le lt = ports_follow x.port i j d xs h.1 (omega (arith, le)) (omega (arith, lt))

  no_pairs : (x : ℕ) (xs : List Sending) → ((k : ℕ) (d : Sending) → k < length xs → (get_or xs k d).port ≡ x → ⊥) → pairs_at x xs ≡ []
  no_pairs x [] none = refl
  no_pairs x (s ∷ xs) none =
      rw (ne_eqb s.port x (none 0 s (omega arith))) (no_pairs x xs (λ k d lt. none (suc k) d (omega (arith, lt))))

  -- nothing goes to a port from the bound on and before that of the index
  pub nothing_between : (i next x : ℕ) → ((k : ℕ) (d : Sending) → k < i → (get_or ss k d).port < next) → next ≤ x →
      ((d : Sending) → i < length ss → x < (get_or ss i d).port) → bag_at bags x ≡ []
  nothing_between i next x before le behind =
      sym (pairs x) ∙ no_pairs x ss (λ k d lt same. elim (cases_lt k i) [
        | inl early ↦ let low = before k d early in omega (arith, low, le, same)
        | inr late ↦
            let up = ports_follow 0 i k d ss rise late lt in
            let gap = behind d (omega (arith, late, lt)) in
            omega (arith, up, gap, same)
      ])
