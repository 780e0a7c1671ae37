-- What lies in lists in an order of its own: one more behind it, and the last one gone.
use Rattle.std.proofs.Common.{◌≡◌, ◌≢◌, inl, inr, ℕ, zero, suc, ◌+◌, ◌-◌, ◌<◌, true, false, cond, nat_eq, List, [], ◌∷◌, ◌++◌}
use Rattle.std.proofs.Common.{drop, length, get_or, set, take, Option, Some, None, IsSome, option_to_list}
use Rattle.std.proofs.Common.{refl, sym, ap, ap₂, subst, ◌∙◌, arith}
use Rattle.std.specs.List.{All}
use Rattle.std.proofs.lemmas.Bool.{eqb-true}
use Rattle.std.proofs.lemmas.List.{drop-append-le, length-append, length-drop, length-set, length-take-le, take-append-le}
use Rattle.std.proofs.lemmas.List.{get_or-set_other, get_or-set_same, set-get_or, set-set}
use Rattle.dv_share.proofs.Indices.{itself, yes_or_no}
use Rattle.dv_local.specs.Orders.{AreCounted, in_order, in_turn, times_of}
use Rattle.dv_local.proofs.Undoing.{all_end, all_last, all_others}

-- what is put at two places may be put there in either order
set_apart : {X : Type 0} (xs : List X) (i j : ℕ) (x y : X) → i ≢ j → set (set xs i x) j y ≡ set (set xs j y) i x
set_apart [] i j x y apart = refl
set_apart (z ∷ zs) zero zero x y apart = absurd (apart refl)
set_apart (z ∷ zs) zero (suc j) x y apart = refl
set_apart (z ∷ zs) (suc i) zero x y apart = refl
set_apart {X} (z ∷ zs) (suc i) (suc j) x y apart =
    ap (λ (ws : List X). z ∷ ws) (set_apart zs i j x y (λ e. apart (ap suc e)))

nothing_in : {X : Type 0} (xs : List X) → length xs ≡ 0 → xs ≡ []
nothing_in [] e = refl
nothing_in (x ∷ xs) e = absurd (omega (arith, e))

joined_in_turn : {X : Type 0} (xs ys zs : List X) → (xs ++ ys) ++ zs ≡ xs ++ (ys ++ zs)
joined_in_turn [] ys zs = refl
joined_in_turn {X} (x ∷ xs) ys zs = ap (λ (ws : List X). x ∷ ws) (joined_in_turn xs ys zs)

differ_by : (n m : ℕ) → nat_eq n m ≡ false → n ≢ m
differ_by n m f e =
    let t : nat_eq n n ≡ true = itself n in
    let g : nat_eq n n ≡ false = ap (nat_eq n) e ∙ f in
    absurd (cc)

-- one more of the list whose number comes last is the last one
pub in_order_more : {X : Type 0} (order : List ℕ) (lists : List (List X)) (n : ℕ) (x : X)
    → n < length lists → length (get_or lists n []) ≡ times_of n order
    → in_order (order ++ n ∷ []) (set lists n (get_or lists n [] ++ x ∷ [])) ≡ in_order order lists ++ x ∷ []
in_order_more {X} [] lists n x lt none =
    ap (λ (l : List X). take 1 l ++ []) (get_or-set_same lists n (get_or lists n [] ++ x ∷ []) [] lt
    ∙ ap (λ (l : List X). l ++ x ∷ []) (nothing_in (get_or lists n []) none))
in_order_more {X} (m ∷ order) lists n x lt many =
    elim (yes_or_no (nat_eq n m)) [
      | inl y ↦ (
          let same : n ≡ m = eqb-true n m y in
          let l : List X = get_or lists n [] in
          let rest : List (List X) = set lists n (drop 1 l) in
          let more : length l ≡ 1 + times_of n order = many ∙ ap (λ b. cond b 1 0 + times_of n order) y in
          let there : get_or (set lists n (l ++ x ∷ [])) n [] ≡ l ++ x ∷ [] = get_or-set_same lists n (l ++ x ∷ []) [] lt in
          let left : get_or rest n [] ≡ drop 1 l = get_or-set_same lists n (drop 1 l) [] lt in
          let fewer : length (get_or rest n []) ≡ times_of n order = ap length left ∙ length-drop 1 l ∙ omega (arith, more) in
          let within : n < length rest = omega (arith, lt, length-set lists n (drop 1 l)) in
          let rests : set (set lists n (l ++ x ∷ [])) n (drop 1 (l ++ x ∷ [])) ≡ set rest n (get_or rest n [] ++ x ∷ []) =
          set-set lists n (l ++ x ∷ []) (drop 1 (l ++ x ∷ []))
          ∙ ap (set lists n) (drop-append-le 1 l (x ∷ []) (omega (arith, more)) ∙ ap (λ (k : List X). k ++ x ∷ []) (sym left))
          ∙ sym (set-set lists n (drop 1 l) (get_or rest n [] ++ x ∷ [])) in
          subst (λ (k : ℕ). in_order (k ∷ order ++ n ∷ []) (set lists n (l ++ x ∷ [])) ≡ in_order (k ∷ order) lists ++ x ∷ [])
          same
          (ap₂ (λ (a b : List X). a ++ b)
          (ap (take 1) there ∙ take-append-le 1 l (x ∷ []) (omega (arith, more)))
          (ap (λ (k : List X). in_order (order ++ n ∷ []) (set (set lists n (l ++ x ∷ [])) n (drop 1 k))) there
          ∙ ap (in_order (order ++ n ∷ [])) rests ∙ in_order_more order rest n x within fewer)
          ∙ sym (joined_in_turn (take 1 l) (in_order order rest) (x ∷ [])))
          )
      | inr f ↦ (
          let apart : n ≢ m = differ_by n m f in
          let l : List X = get_or lists n [] in
          let k : List X = get_or lists m [] in
          let rest : List (List X) = set lists m (drop 1 k) in
          let there : get_or (set lists n (l ++ x ∷ [])) m [] ≡ k =
          get_or-set_other lists n m (l ++ x ∷ []) [] (λ e. apart (sym e)) in
          let left : get_or rest n [] ≡ l = get_or-set_other lists m n (drop 1 k) [] apart in
          let still : length l ≡ 0 + times_of n order = many ∙ ap (λ b. cond b 1 0 + times_of n order) f in
          let as_many : length (get_or rest n []) ≡ times_of n order = ap length left ∙ omega (arith, still) in
          let within : n < length rest = omega (arith, lt, length-set lists m (drop 1 k)) in
          let rests : set (set lists n (l ++ x ∷ [])) m (drop 1 k) ≡ set rest n (get_or rest n [] ++ x ∷ []) =
          set_apart lists n m (l ++ x ∷ []) (drop 1 k) apart ∙ ap (λ (j : List X). set rest n (j ++ x ∷ [])) (sym left) in
          ap₂ (λ (a b : List X). a ++ b)
          (ap (take 1) there)
          (ap (λ (j : List X). in_order (order ++ n ∷ []) (set (set lists n (l ++ x ∷ [])) m (drop 1 j))) there
          ∙ ap (in_order (order ++ n ∷ [])) rests ∙ in_order_more order rest n x within as_many)
          ∙ sym (joined_in_turn (take 1 k) (in_order order rest) (x ∷ []))
          )
    ]

-- ---- how often numbers come

times_more : (m : ℕ) (order : List ℕ) (n : ℕ) → times_of m (order ++ n ∷ []) ≡ times_of m order + cond (nat_eq m n) 1 0
times_more m [] n = omega arith
times_more m (k ∷ order) n =
    let more : times_of m (order ++ n ∷ []) ≡ times_of m order + cond (nat_eq m n) 1 0 = times_more m order n in
    omega (arith, more)

within_more : (order : List ℕ) (n count : ℕ)
    → All (λ (m : ℕ). m < count) order → n < count → All (λ (m : ℕ). m < count) (order ++ n ∷ [])
within_more order n count all lt = all_end (λ (m : ℕ). m < count) order n all lt

-- one more of a list, whose number comes last
pub counted_more : {X : Type 0} (order : List ℕ) (lists : List (List X)) (n : ℕ) (x : X)
    → n < length lists → AreCounted order lists → AreCounted (order ++ n ∷ []) (set lists n (get_or lists n [] ++ x ∷ []))
counted_more {X} order lists n x lt counted = record {
  within = subst (λ (k : ℕ). All (λ (m : ℕ). m < k) (order ++ n ∷ [])) (sym (length-set lists n (get_or lists n [] ++ x ∷ [])))
      (within_more order n (length lists) counted.within lt);
  each = λ m lt_m. elim (yes_or_no (nat_eq m n)) [
    | inl y ↦ (
        let same : m ≡ n = eqb-true m n y in
        let here : length (get_or lists m []) ≡ times_of m order =
        counted.each m (subst (λ (k : ℕ). k < length lists) (sym same) lt) in
        let one : times_of m (order ++ n ∷ []) ≡ times_of m order + 1 =
        times_more m order n ∙ ap (λ b. times_of m order + cond b 1 0) y in
        let there : get_or (set lists n (get_or lists n [] ++ x ∷ [])) m [] ≡ get_or lists m [] ++ x ∷ [] =
        subst (λ (k : ℕ). get_or (set lists n (get_or lists n [] ++ x ∷ [])) k [] ≡ get_or lists k [] ++ x ∷ []) (sym same)
        (get_or-set_same lists n (get_or lists n [] ++ x ∷ []) [] lt) in
        ap length there ∙ length-append (get_or lists m []) (x ∷ []) ∙ omega (arith, here, one)
        )
    | inr f ↦ (
        let there : get_or (set lists n (get_or lists n [] ++ x ∷ [])) m [] ≡ get_or lists m [] =
        get_or-set_other lists n m (get_or lists n [] ++ x ∷ []) [] (differ_by m n f) in
        let none : times_of m (order ++ n ∷ []) ≡ times_of m order + 0 =
        times_more m order n ∙ ap (λ b. times_of m order + cond b 1 0) f in
        let here : length (get_or lists m []) ≡ times_of m order =
        counted.each m (omega (arith, lt_m, length-set lists n (get_or lists n [] ++ x ∷ []))) in
        ap length there ∙ omega (arith, here, none)
        )
  ];
}

-- without the last item of the list whose number comes last
pub counted_less : {X : Type 0} (order : List ℕ) (lists : List (List X)) (n : ℕ) (k : List X)
    → AreCounted (order ++ n ∷ []) lists → length k + 1 ≡ length (get_or lists n []) → AreCounted order (set lists n k)
counted_less {X} order lists n k counted shorter =
    let lt : n < length lists = all_last (λ (m : ℕ). m < length lists) order n counted.within in
    record {
      within = subst (λ (j : ℕ). All (λ (m : ℕ). m < j) order) (sym (length-set lists n k))
          (all_others (λ (m : ℕ). m < length lists) order n counted.within);
      each = λ m lt_m. elim (yes_or_no (nat_eq m n)) [
        | inl y ↦ (
            let same : m ≡ n = eqb-true m n y in
            let here : length (get_or lists n []) ≡ times_of m (order ++ n ∷ []) =
            subst (λ (j : ℕ). length (get_or lists j []) ≡ times_of m (order ++ n ∷ [])) same
            (counted.each m (subst (λ (j : ℕ). j < length lists) (sym same) lt)) in
            let one : times_of m (order ++ n ∷ []) ≡ times_of m order + 1 =
            times_more m order n ∙ ap (λ b. times_of m order + cond b 1 0) y in
            let there : get_or (set lists n k) m [] ≡ k =
            subst (λ (j : ℕ). get_or (set lists n k) j [] ≡ k) (sym same) (get_or-set_same lists n k [] lt) in
            ap length there ∙ omega (arith, here, one, shorter)
            )
        | inr f ↦ (
            let there : get_or (set lists n k) m [] ≡ get_or lists m [] = get_or-set_other lists n m k [] (differ_by m n f) in
            let none : times_of m (order ++ n ∷ []) ≡ times_of m order + 0 =
            times_more m order n ∙ ap (λ b. times_of m order + cond b 1 0) f in
            let here : length (get_or lists m []) ≡ times_of m (order ++ n ∷ []) =
            counted.each m (omega (arith, lt_m, length-set lists n k)) in
            ap length there ∙ omega (arith, here, none)
            )
      ];
    }

pub in_order_less : {X : Type 0} (order : List ℕ) (lists : List (List X)) (n : ℕ) (k : List X) (x : X)
    → AreCounted (order ++ n ∷ []) lists → get_or lists n [] ≡ k ++ x ∷ []
    → in_order (order ++ n ∷ []) lists ≡ in_order order (set lists n k) ++ x ∷ []
in_order_less {X} order lists n k x counted is =
    let lt : n < length lists = all_last (λ (m : ℕ). m < length lists) order n counted.within in
    let rest : List (List X) = set lists n k in
    let left : get_or rest n [] ≡ k = get_or-set_same lists n k [] lt in
    let shorter : length k + 1 ≡ length (get_or lists n []) = sym (ap length is ∙ length-append k (x ∷ [])) in
    let fewer : AreCounted order rest = counted_less order lists n k counted shorter in
    let within : n < length rest = omega (arith, lt, length-set lists n k) in
    let whole : set rest n (get_or rest n [] ++ x ∷ []) ≡ lists =
    ap (λ (j : List X). set rest n (j ++ x ∷ [])) left ∙ set-set lists n k (k ++ x ∷ [])
    ∙ ap (set lists n) (sym is) ∙ set-get_or lists n [] in
    ap (in_order (order ++ n ∷ [])) (sym whole) ∙ in_order_more order rest n x within (fewer.each n within)

-- what is left where the last one is moved out, by whether there is one
pub record IsPopped {X : Type 0} (order : List ℕ) (lists : List (List X)) (n : ℕ) (k : List X) (o : Option X) : Type 0 where
  pub some : 0 < length (set lists n k)
  pub counted : AreCounted order (set lists n k)
  pub items : in_order (order ++ n ∷ []) lists ≡ in_order order (set lists n k) ++ option_to_list o
  pub there : IsSome o
  pub many : 0 < length (in_order (order ++ n ∷ []) lists)

pub popped : {X : Type 0} (order : List ℕ) (lists : List (List X)) (n : ℕ) (k : List X) (o : Option X)
    → AreCounted (order ++ n ∷ []) lists → get_or lists n [] ≡ k ++ option_to_list o
    → (0 < length (get_or lists n []) → IsSome o) → IsPopped order lists n k o
popped {X} order lists n k None counted is some =
    let lt : n < length lists = all_last (λ (m : ℕ). m < length lists) order n counted.within in
    let here : length (get_or lists n []) ≡ times_of n (order ++ n ∷ []) = counted.each n lt in
    let one : times_of n (order ++ n ∷ []) ≡ times_of n order + 1 =
    times_more n order n ∙ ap (λ b. times_of n order + cond b 1 0) (itself n) in
    let one_more : IsSome {T = X} None = some (omega (arith, here, one)) in
    absurd (cc)
popped {X} order lists n k (Some x) counted is some =
    let lt : n < length lists = all_last (λ (m : ℕ). m < length lists) order n counted.within in
    let shorter : length k + 1 ≡ length (get_or lists n []) = sym (ap length is ∙ length-append k (x ∷ [])) in
    let items : in_order (order ++ n ∷ []) lists ≡ in_order order (set lists n k) ++ x ∷ [] =
    in_order_less order lists n k x counted is in
    record {
      some = omega (arith, lt, length-set lists n k);
      counted = counted_less order lists n k counted shorter;
      items = items;
      there = refl;
      many = omega (arith, ap length items ∙ length-append (in_order order (set lists n k)) (x ∷ []));
    }

-- the list whose number comes last lets go of its last item
pub let_go : {X : Type 0} (order : List ℕ) (lists : List (List X)) (n : ℕ) (l k : List X)
    → AreCounted (order ++ n ∷ []) lists → get_or lists n [] ≡ l → k ≡ take (length l - 1) l
    → (0 < length (set lists n k)) × AreCounted order (set lists n k)
let_go {X} order lists n l k counted at is =
    let lt : n < length lists = all_last (λ (m : ℕ). m < length lists) order n counted.within in
    let here : length (get_or lists n []) ≡ times_of n (order ++ n ∷ []) = counted.each n lt in
    let one : times_of n (order ++ n ∷ []) ≡ times_of n order + 1 =
    times_more n order n ∙ ap (λ b. times_of n order + cond b 1 0) (itself n) in
    let some : length l ≡ times_of n order + 1 = sym (ap length at) ∙ here ∙ one in
    let fewer : length k ≡ length l - 1 = ap length is ∙ length-take-le (length l - 1) l (omega (arith, some)) in
    let shorter : length k + 1 ≡ length (get_or lists n []) = omega (arith, fewer, some, ap length at) in
    (omega (arith, lt, length-set lists n k), counted_less order lists n k counted shorter)

-- what is there where one more is put behind the items of a list, whose number comes last
pub record IsPushed {X : Type 0} (order : List ℕ) (lists : List (List X)) (n : ℕ) (k : List X) (x : X) : Type 0 where
  pub some : 0 < length (set lists n k)
  pub counted : AreCounted (order ++ n ∷ []) (set lists n k)
  pub items : in_order (order ++ n ∷ []) (set lists n k) ≡ in_order order lists ++ x ∷ []

pub pushed : {X : Type 0} (order : List ℕ) (lists : List (List X)) (n : ℕ) (l k : List X) (x : X)
    → n < length lists → AreCounted order lists → get_or lists n [] ≡ l → k ≡ l ++ x ∷ [] → IsPushed order lists n k x
pushed {X} order lists n l k x lt counted at is =
    let same : get_or lists n [] ++ x ∷ [] ≡ k = ap (λ (j : List X). j ++ x ∷ []) at ∙ sym is in
    subst (λ (j : List X). IsPushed order lists n j x) same (record {
      some = omega (arith, lt, length-set lists n (get_or lists n [] ++ x ∷ []));
      counted = counted_more order lists n x lt counted;
      items = in_order_more order lists n x lt (counted.each n lt);
    })

-- several lists have their items in an order
pub several_in_turn : {X : Type 0} (order : List ℕ) (lists : List (List X))
    → 1 < length lists → in_turn order lists ≡ in_order order lists
several_in_turn {X} order lists several =
    elim (yes_or_no (nat_eq (length lists) 1)) [
      | inl y ↦ absurd (omega (arith, several, eqb-true (length lists) 1 y))
      | inr f ↦ ap (λ b. cond b (get_or lists 0 []) (in_order order lists)) f
    ]
