-- Where the links of each component begin.
use Rattle.std.proofs.Common.{◌≡◌, inl, inr, ℕ, ◌+◌, ◌-◌, ◌<◌, ◌≤◌, List, [], ◌∷◌, ◌++◌, length, get_or, take, drop, nat_eq}
use Rattle.std.proofs.Common.{filter, sym, ap, subst, ◌∙◌, arith}
use Rattle.std.specs.List.{AllWithin}
use Rattle.std.specs.List.Sorted.{IsNonDecreasingBy}
use Rattle.std.proofs.lemmas.Bool.{cases_lt, eq-eqb}
use Rattle.std.proofs.lemmas.List.{get_or_append_left, get_or_default, get_or_push, length-append}
use Rattle.dv_share.specs.Rows.{AreStarts}
use Rattle.dv_share.specs.declared.link.Link.{Link}
use Rattle.dv_share.proofs.Indices.{differ}
use Rattle.dv_share.proofs.Ranges.{part_is_filter}

abbrev pub source : Link → ℕ
source l = l.from

some_link : (xs : List Link) (i : ℕ) → i < length xs → Link
some_link [] i lt = absurd (omega arith)
some_link (x ∷ xs) i lt = x

module _ (links : List Link) (starts : List ℕ) (s : AreStarts links starts) where
  -- the links of a component end where those of the next one begin
  pub ends_behind : (c : ℕ) → c + 1 < length starts → get_or starts c 0 ≤ get_or starts (c + 1) 0
  ends_behind c lt = elim (cases_lt (get_or starts (c + 1) 0) (get_or starts c 0)) [
    | inr ge ↦ ge
    | inl less ↦
        let within = s.within c (omega arith) in
        let end = get_or starts (c + 1) 0 in
        let there : end < length links = omega (arith, less, within) in
        let l = some_link links end there in
        let low = s.before c (omega arith) end l (omega arith) less in
        let high = s.from (c + 1) lt end l (omega arith) there in
        absurd (omega (arith, low, high))
  ]

  pub links_between : (c : ℕ) → c + 1 < length starts
      → take (get_or starts (c + 1) 0 - get_or starts c 0) (drop (get_or starts c 0) links) ≡ filter (λ l. nat_eq (source l) c) links
  links_between c lt =
      part_is_filter (λ l. nat_eq (source l) c) (get_or starts c 0) (get_or starts (c + 1) 0) links (ends_behind c lt) (s.within (c + 1) lt)
      (λ k d le below. differ _ c (λ same. let low = s.before c (omega arith) k d le below in absurd (omega (arith, same, low))))
      (λ k d le below.
      let low = s.from c (omega arith) k d le (let end = s.within (c + 1) lt in omega (arith, below, end)) in
      let high = s.before (c + 1) lt k d (omega arith) below in eq-eqb _ c (omega (arith, low, high)))
      (λ k d le below. differ _ c (λ same. let low = s.from (c + 1) lt k d le below in absurd (omega (arith, same, low))))

  -- a component without a start has no links
  pub no_links : (c : ℕ) → length starts ≤ c + 1 → [] ≡ filter (λ l. nat_eq (source l) c) links
  no_links c le =
      part_is_filter (λ l. nat_eq (source l) c) 0 0 links (omega arith) (omega arith) (λ k d low lt. absurd (omega (arith, low, lt)))
      (λ k d low lt. absurd (omega (arith, low, lt)))
      (λ k d low lt. differ _ c (λ same. let all = s.all k d low lt in absurd (omega (arith, same, all, le))))

-- so far each component of the first links has a start
pub record AreBegun (links : List Link) (starts : List ℕ) (done : ℕ) : Type 0 where
  pub within : (c : ℕ) → c < length starts → get_or starts c 0 ≤ length links
  pub before : (c : ℕ) → c < length starts → AllWithin (λ (l : Link). l.from < c) links 0 (get_or starts c 0)
  pub from : (c : ℕ) → c < length starts → AllWithin (λ (l : Link). c ≤ l.from) links (get_or starts c 0) (length links)
  pub all : AllWithin (λ (l : Link). l.from < length starts) links 0 done

module _ (links : List Link) (rise : IsNonDecreasingBy source links) (starts : List ℕ) (i : ℕ) (h : AreBegun links starts i)
    (x : Link) (early : i < length links) (more : List ℕ) where
  pub one_link_more : (at : ℕ) → at ≡ i → length starts ≤ length more → (get_or links i x).from < length more
      → ((c : ℕ) → c < length starts → get_or more c 0 ≡ get_or starts c 0)
      → ((c : ℕ) → length starts ≤ c → c < length more → (c ≤ (get_or links i x).from) × (get_or more c 0 ≡ at))
      → AreBegun links more (i + 1)
  one_link_more at is kept grown same begun = record {
    within = λ c lt. elim (cases_lt c (length starts)) [
      | inl old ↦ let was = h.within c old in let e = same c old in omega (arith, was, e)
      | inr new ↦ let e = (begun c new lt).1 in omega (arith, e, is, early)
    ];
    before = λ c lt. elim (cases_lt c (length starts)) [
      | inl old ↦ subst (λ n. AllWithin (λ (l : Link). l.from < c) links 0 n) (sym (same c old)) (h.before c old)
      | inr new ↦ subst (λ n. AllWithin (λ (l : Link). l.from < c) links 0 n) (sym ((begun c new lt).1 ∙ is))
          (λ k d le below. let all = h.all k d le below in omega (arith, all, new))
    ];
    from = λ c lt. elim (cases_lt c (length starts)) [
      | inl old ↦ subst (λ n. AllWithin (λ (l : Link). c ≤ l.from) links n (length links)) (sym (same c old)) (h.from c old)
      | inr new ↦ subst (λ n. AllWithin (λ (l : Link). c ≤ l.from) links n (length links)) (sym ((begun c new lt).1 ∙ is))
          (λ k d le below.
          let low = (begun c new lt).0 in
          let d-up = rise i k d le below in
          let here = same_item i d early in
          omega (arith, low, d-up, here))
    ];
    all = λ k d le lt. elim (cases_lt k i) [
      | inl old ↦ let was = h.all k d le old in omega (arith, was, kept)
      | inr new ↦
          let at-k : k ≡ i = omega (arith, new, lt) in
          let here = same_item i d early in
          let e = ap (λ (j : ℕ). (get_or links j d).from) at-k in
          omega (arith, grown, here, e)
    ];
  }
    where
      same_item : (k : ℕ) (d : Link) → k < length links → (get_or links k d).from ≡ (get_or links k x).from
      same_item k d lt = ap source (get_or_default links k d x lt)

-- with their end behind them they are starts
pub ended : (links : List Link) (starts : List ℕ) → AreBegun links starts (length links) → AreStarts links (starts ++ length links ∷ [])
ended links starts h = record {
  within = λ c lt. elim (cases_lt c (length starts)) [
    | inl old ↦ let was = h.within c old in let e = left c old in omega (arith, was, e)
    | inr new ↦ let e = last c new lt in omega (arith, e)
  ];
  before = λ c lt. elim (cases_lt c (length starts)) [
    | inl old ↦ subst (λ n. AllWithin (λ (l : Link). l.from < c) links 0 n) (sym (left c old)) (h.before c old)
    | inr new ↦ subst (λ n. AllWithin (λ (l : Link). l.from < c) links 0 n) (sym (last c new lt))
        (λ k d le below. let all = h.all k d le below in omega (arith, all, new))
  ];
  from = λ c lt. elim (cases_lt c (length starts)) [
    | inl old ↦ subst (λ n. AllWithin (λ (l : Link). c ≤ l.from) links n (length links)) (sym (left c old)) (h.from c old)
    | inr new ↦ subst (λ n. AllWithin (λ (l : Link). c ≤ l.from) links n (length links)) (sym (last c new lt))
        (λ k d le below. absurd (omega (arith, le, below)))
  ];
  all = λ k d le lt. let all = h.all k d le lt in omega (arith, all, long);
}
  where
    long : length (starts ++ length links ∷ []) ≡ length starts + 1
    long = length-append starts (length links ∷ [])

    left : (c : ℕ) → c < length starts → get_or (starts ++ length links ∷ []) c 0 ≡ get_or starts c 0
    left c old = get_or_append_left starts (length links ∷ []) 0 c old

    last : (c : ℕ) → length starts ≤ c → c < length (starts ++ length links ∷ []) → get_or (starts ++ length links ∷ []) c 0 ≡ length links
    last c new lt = get_or_push starts (length links) 0 c (omega (arith, new, lt, long))
