-- The numbers of ports by name, one more port at a time.
use Rattle.std.proofs.Common.{◌≡◌, inl, inr, ℕ, ◌+◌, ◌<◌, ◌≤◌, Bool, true, false, cond, not, nat_lt, List, [], ◌∷◌, ◌++◌, length}
use Rattle.std.proofs.Common.{get_or, take, map, length-append, Option, Some, None, is_some, position, bytes_eq, refl, sym, ap}
use Rattle.std.proofs.Common.{◌∙◌, arith}
use Rattle.std.specs.List.{position_or_len}
use Rattle.std.proofs.lemmas.Bool.{cases_Bool, cases_lt, eq-eqb, false≢true, lt-ltb, le-ltb, ne_eqb}
use Rattle.std.proofs.lemmas.List.{get_or-map, length-map, length-take-le, take_more}
use Rattle.std.proofs.lemmas.List.Folds.{position_or_len_push}
use Rattle.std.proofs.lemmas.List.Sums.{prefix_len-le-length}
use Rattle.std.proofs.lemmas.Slice.Eq.{bytes_eq-Decides}
use Rattle.dv_inputs.specs.Numbers.{port_in}

module _ (p : List ℕ → Bool) (xs : List (List ℕ)) (y : List ℕ) where
  long : length (xs ++ y ∷ []) ≡ length xs + 1
  long = length-append xs (y ∷ [])

  -- the offset among one more
  offset_kept : position_or_len p xs < length xs → position p (xs ++ y ∷ []) ≡ position p xs
  offset_kept lt =
      let at : position_or_len p (xs ++ y ∷ []) ≡ position_or_len p xs = position_or_len_push p xs y
      ∙ rw (ne_eqb (position_or_len p xs) (length xs) (λ e. absurd (omega arith))) refl in
      rw (at, long, lt-ltb (position_or_len p xs) (length xs + 1) (omega arith), lt-ltb (position_or_len p xs) (length xs) lt) refl

  offset_last : length xs ≤ position_or_len p xs → position p (xs ++ y ∷ []) ≡ cond (p y) (Some (length xs)) None
  offset_last ge =
      let most = prefix_len-le-length (λ x. not (p x)) xs in
      let same : position_or_len p xs ≡ length xs = omega arith in
      let at : position_or_len p (xs ++ y ∷ []) ≡ length xs + cond (p y) 0 1 = position_or_len_push p xs y
      ∙ rw (eq-eqb (position_or_len p xs) (length xs) same) refl in
      rw (at, long) (step (p y))
    where
      step : (t : Bool) → cond (nat_lt (length xs + cond t 0 1) (length xs + 1)) (Some (length xs + cond t 0 1)) None ≡ cond t
          (Some (length xs)) None
      step true = let n : length xs + 0 ≡ length xs = omega arith in rw (n, lt-ltb (length xs) (length xs + 1) (omega arith)) refl
      step false = rw (le-ltb (length xs + 1) (length xs + 1) (omega arith)) refl

  -- where the list has it, and where not
  pub has_offset : (t : Bool) → is_some (position p xs) ≡ t
      → position p (xs ++ y ∷ []) ≡ cond t (position p xs) (cond (p y) (Some (length xs)) None)
  has_offset t e = elim (cases_lt (position_or_len p xs) (length xs)) [
    | inl lt ↦
        let found : position p xs ≡ Some (position_or_len p xs) = rw (lt-ltb (position_or_len p xs) (length xs) lt) refl in
        let yes : true ≡ t = ap is_some (sym found) ∙ e in
        offset_kept lt ∙ ap (λ (b : Bool). cond b (position p xs) (cond (p y) (Some (length xs)) None)) yes
    | inr ge ↦
        let missed : position p xs ≡ None = rw (le-ltb (position_or_len p xs) (length xs) ge) refl in
        let nope : false ≡ t = ap is_some (sym missed) ∙ e in
        offset_last ge ∙ ap (λ (b : Bool). cond b (position p xs) (cond (p y) (Some (length xs)) None)) nope
  ]

none : (o : Option ℕ) → is_some o ≡ false → o ≡ None
none None e = refl
none (Some n) e = absurd (false≢true (sym e))

module _ (ports : List (List ℕ)) (name : List ℕ) where
  -- a name that stands before keeps its number
  pub kept : is_some (port_in ports name) ≡ true → (q : List ℕ) → port_in (ports ++ name ∷ []) q ≡ port_in ports q
  kept there q = elim (cases_Bool (is_some (port_in ports q))) [
    | inl here ↦ has_offset (bytes_eq q) ports name true here
    | inr missing ↦
        let other : bytes_eq q name ≡ false = elim (cases_Bool (bytes_eq q name)) [
          | inl same ↦
              let e : q ≡ name = (bytes_eq-Decides q name).0 same in
              absurd (false≢true (sym missing ∙ ap (λ (n : List ℕ). is_some (port_in ports n)) e ∙ there))
          | inr apart ↦ apart
        ] in
        has_offset (bytes_eq q) ports name false missing ∙ rw other (sym (none (port_in ports q) missing))
  ]

  -- a new name takes the next
  pub added : is_some (port_in ports name) ≡ false → (q : List ℕ)
      → port_in (ports ++ name ∷ []) q ≡ cond (bytes_eq name q) (Some (length ports)) (port_in ports q)
  added missing q = elim (cases_Bool (bytes_eq name q)) [
    | inl same ↦
        let e : name ≡ q = (bytes_eq-Decides name q).0 same in
        let back : bytes_eq q name ≡ true = (bytes_eq-Decides q name).1 (sym e) in
        has_offset (bytes_eq q) ports name false (ap (λ (n : List ℕ). is_some (port_in ports n)) (sym e) ∙ missing) ∙ rw (back, same) refl
    | inr apart ↦
        let back : bytes_eq q name ≡ false = elim (cases_Bool (bytes_eq q name)) [
          | inl same ↦ absurd (false≢true (sym apart ∙ (bytes_eq-Decides name q).1 (sym ((bytes_eq-Decides q name).0 same))))
          | inr other ↦ other
        ] in
        elim (cases_Bool (is_some (port_in ports q))) [
          | inl here ↦ has_offset (bytes_eq q) ports name true here ∙ rw apart refl
          | inr absent ↦ has_offset (bytes_eq q) ports name false absent ∙ rw (back, apart) (sym (none (port_in ports q) absent))
        ]
  ]

-- one more of the names
module _ {X : Type 0} (f : X → List ℕ) (xs : List X) (i : ℕ) (lt : i < length xs) where
  pub one_more_name : (x : X) (name : List ℕ) → x ≡ get_or xs i x → name ≡ f x → take (i + 1) (map f xs) ≡ take i (map f xs) ++ name ∷ []
  one_more_name x name at is =
      take_more (map f xs) i [] (omega (arith, length-map xs f))
      ∙ ap (λ (n : List ℕ). take i (map f xs) ++ n ∷ []) (get_or-map f xs i x [] lt ∙ ap f (sym at) ∙ sym is)

  pub names_before : length (take i (map f xs)) ≡ i
  names_before = length-take-le i (map f xs) (omega (arith, length-map xs f))
