-- What is sent, as one list: what an edit of the list does to the bag of each port.
use Rattle.std.proofs.Common.{◌≡◌, inl, inr, ℕ, zero, suc, ◌+◌, ◌-◌, ◌^◌, ◌<◌, ◌≤◌, Bool, true, false, cond, nat_eq, List, []}
use Rattle.std.proofs.Common.{◌∷◌, ◌++◌, length, get_or, set, take, drop, replicate, ℤ, pos, refl, sym, ap, ◌∙◌, subst, arith}
use Rattle.std.specs.List.{AllWithin, insert, slice_range}
use Rattle.std.proofs.lemmas.Bool.{cases_lt, eq-eqb, ne_eqb}
use Rattle.std.proofs.lemmas.List.{at_drop_more, get_or-drop, get_or-take, get_or_past, length-drop, length-take-le, take-append-drop}
use Rattle.std.proofs.lemmas.List.Folds.{drop_split}
use Rattle.dv_bag.specs.Bag.{Counts, bag_at, capped, size_of_all, total, total_of_all, with_copies}
use Rattle.dv_bag.specs.Sent.{AreWithin, HasCopiesAt, by_port, copies_in, from_port, sent_at, sent_into}
use Rattle.dv_bag.specs.declared.sent.Sending.{Sending}
use Rattle.dv_bag.proofs.Monoid.{copies_capped, copies_either, copies_join, total_with}

-- copies of a value that go to a port
abbrev pub sending : ℕ → ℤ → ℕ → Sending
sending port value copies = record { port = port; value = value; copies = copies }

abbrev pub no_sending : Sending
no_sending = sending 0 (pos 0) 0

abbrev pub value_of : List Sending → ℕ → ℤ
value_of ss i = (get_or ss i no_sending).value

-- copies may go in after the rest
pub into_later : (p : ℕ) (v : ℤ) (n : ℕ) (ss : List Sending) (b : Counts) →
    sent_into p ss (with_copies v n b) ≡ with_copies v n (sent_into p ss b)
into_later p v n [] b = refl
into_later p v n (s ∷ ss) b = step (nat_eq s.port p) (λ c. into_later p v n ss c)
  where
    step : (t : Bool) → ((c : Counts) → sent_into p ss (with_copies v n c) ≡ with_copies v n (sent_into p ss c)) →
        sent_into p ss (cond t (with_copies s.value s.copies (with_copies v n b)) (with_copies v n b))
        ≡ with_copies v n (sent_into p ss (cond t (with_copies s.value s.copies b) b))
    step true rest = ap (sent_into p ss) (copies_either s.value v s.copies n b) ∙ rest (with_copies s.value s.copies b)
    step false rest = rest b

into_append : (p : ℕ) (xs ys : List Sending) (b : Counts) → sent_into p (xs ++ ys) b ≡ sent_into p ys (sent_into p xs b)
into_append p [] ys b = refl
into_append p (x ∷ xs) ys b = into_append p xs ys (cond (nat_eq x.port p) (with_copies x.value x.copies b) b)

-- the first sending goes to the port, or elsewhere
taken : (p : ℕ) (s : Sending) (ss : List Sending) (b : Counts) → s.port ≡ p →
    sent_into p (s ∷ ss) b ≡ sent_into p ss (with_copies s.value s.copies b)
taken p s ss b e = ap (λ (t : Bool). sent_into p ss (cond t (with_copies s.value s.copies b) b)) (eq-eqb s.port p e)

passed : (p : ℕ) (s : Sending) (ss : List Sending) (b : Counts) → (p ≡ s.port → ⊥) → sent_into p (s ∷ ss) b ≡ sent_into p ss b
passed p s ss b apart = ap (λ (t : Bool). sent_into p ss (cond t (with_copies s.value s.copies b) b))
    (ne_eqb s.port p (λ e. apart (sym e)))

-- one sending in front
pub front_same : (s : Sending) (ss : List Sending) → sent_at s.port (s ∷ ss) ≡ with_copies s.value s.copies (sent_at s.port ss)
front_same s ss = taken s.port s ss [] refl ∙ into_later s.port s.value s.copies ss []

pub front_other : (p : ℕ) (s : Sending) (ss : List Sending) → (p ≡ s.port → ⊥) → sent_at p (s ∷ ss) ≡ sent_at p ss
front_other p s ss apart = passed p s ss [] apart

-- one sending more at an index
pub put_same : (s : Sending) (ss : List Sending) (i : ℕ) →
    sent_at s.port (insert ss i s) ≡ with_copies s.value s.copies (sent_at s.port ss)
put_same s ss i =
    let p = s.port in
    let before = sent_at p (take i ss) in
    into_append p (take i ss) (s ∷ drop i ss) []
    ∙ taken p s (drop i ss) before refl
    ∙ into_later p s.value s.copies (drop i ss) before
    ∙ ap (with_copies s.value s.copies) (sym (into_append p (take i ss) (drop i ss) []) ∙ ap (sent_at p) (take-append-drop i ss))

pub put_other : (p : ℕ) (s : Sending) (ss : List Sending) (i : ℕ) → (p ≡ s.port → ⊥) → sent_at p (insert ss i s) ≡ sent_at p ss
put_other p s ss i apart =
    into_append p (take i ss) (s ∷ drop i ss) []
    ∙ passed p s (drop i ss) (sent_at p (take i ss)) apart
    ∙ sym (into_append p (take i ss) (drop i ss) [])
    ∙ ap (sent_at p) (take-append-drop i ss)

-- one copy more of those at an index
more : (v : ℤ) (n c : ℕ) (b : Counts) → c ≡ capped (n + 1) → with_copies v c b ≡ with_copies v 1 (with_copies v n b)
more v n c b e =
    let turned : n + 1 ≡ 1 + n = omega arith in
    ap (λ (k : ℕ). with_copies v k b) e ∙ copies_capped v (n + 1) b ∙ ap (λ (k : ℕ). with_copies v k b) turned
    ∙ sym (copies_join v 1 n b)

pub set_same : (p : ℕ) (v : ℤ) (c : ℕ) (ss : List Sending) (i : ℕ) (b : Counts) → HasCopiesAt p v i ss →
    c ≡ capped ((get_or ss i no_sending).copies + 1) →
    sent_into p (set ss i (sending p v c)) b ≡ with_copies v 1 (sent_into p ss b)
set_same p v c [] i b h e = absurd (omega (arith, h.0))
set_same p v c (s ∷ ss) zero b h e =
    let at = h.1 s in
    let old : sent_into p (s ∷ ss) b ≡ sent_into p ss (with_copies v s.copies b) = taken p s ss b at.0
    ∙ ap (λ (w : ℤ). sent_into p ss (with_copies w s.copies b)) at.1 in
    taken p (sending p v c) ss b refl ∙ ap (sent_into p ss) (more v s.copies c b e)
    ∙ into_later p v 1 ss (with_copies v s.copies b) ∙ ap (with_copies v 1) (sym old)
set_same p v c (s ∷ ss) (suc i) b h e =
    set_same p v c ss i (cond (nat_eq s.port p) (with_copies s.value s.copies b) b) (omega (arith, h.0), λ d. h.1 d) e

pub set_other : (p q : ℕ) (v : ℤ) (c : ℕ) (ss : List Sending) (i : ℕ) (b : Counts) → (q ≡ p → ⊥) → HasCopiesAt p v i ss →
    sent_into q (set ss i (sending p v c)) b ≡ sent_into q ss b
set_other p q v c [] i b apart h = absurd (omega (arith, h.0))
set_other p q v c (s ∷ ss) zero b apart h =
    let at = h.1 s in
    passed q (sending p v c) ss b apart ∙ sym (passed q s ss b (λ e. apart (e ∙ at.0)))
set_other p q v c (s ∷ ss) (suc i) b apart h =
    set_other p q v c ss i (cond (nat_eq s.port q) (with_copies s.value s.copies b) b) apart (omega (arith, h.0), λ d. h.1 d)

-- the bags by port
pub from_port_length : (a n : ℕ) (ss : List Sending) → length (from_port a n ss) ≡ n
from_port_length a zero ss = refl
from_port_length a (suc n) ss = let rest = from_port_length (a + 1) n ss in omega arith

pub nothing_by_port : (a n : ℕ) → from_port a n [] ≡ replicate n []
nothing_by_port a zero = refl
nothing_by_port a (suc n) = ap (λ (bs : List Counts). [] ∷ bs) (nothing_by_port (a + 1) n)

bag_from : (a n i q : ℕ) (ss : List Sending) → i < n → q ≡ a + i → bag_at (from_port a n ss) i ≡ sent_at q ss
bag_from a zero i q ss lt e = absurd (omega arith)
bag_from a (suc n) zero q ss lt e = ap (λ (p : ℕ). sent_at p ss) (let same : a ≡ q = omega arith in same)
bag_from a (suc n) (suc i) q ss lt e = bag_from (a + 1) n i q ss (omega arith) (omega arith)

nothing_past : (ports p : ℕ) (ss : List Sending) (b : Counts) → AreWithin ports ss → ports ≤ p → sent_into p ss b ≡ b
nothing_past ports p [] b h le = refl
nothing_past ports p (s ∷ ss) b h le =
    rw (ne_eqb s.port p (λ e. absurd (omega (arith, h.0)))) (nothing_past ports p ss b h.3 le)

pub bag_of_port : (ports p : ℕ) (ss : List Sending) → AreWithin ports ss → bag_at (by_port ports ss) p ≡ sent_at p ss
bag_of_port ports p ss h = elim (cases_lt p ports) [
  | inl lt ↦ bag_from 0 ports p p ss lt (omega arith)
  | inr ge ↦
      let few = from_port_length 0 ports ss in
      get_or_past (by_port ports ss) p [] (omega arith) ∙ sym (nothing_past ports p ss [] h ge)
]

module _ (ss tt : List Sending) where
  same_from : (a n : ℕ) → ((p : ℕ) → a ≤ p → sent_at p tt ≡ sent_at p ss) → from_port a n tt ≡ from_port a n ss
  same_from a zero same = refl
  same_from a (suc n) same =
      ap (λ (b : Counts). b ∷ from_port (a + 1) n tt) (same a (omega arith))
      ∙ ap (λ (bs : List Counts). sent_at a ss ∷ bs) (same_from (a + 1) n (λ p le. same p (omega arith)))

  set_from : (a n i q : ℕ) → i < n → q ≡ a + i → ((p : ℕ) → (p ≡ q → ⊥) → sent_at p tt ≡ sent_at p ss) →
      from_port a n tt ≡ set (from_port a n ss) i (sent_at q tt)
  set_from a zero i q lt e same = absurd (omega arith)
  set_from a (suc n) zero q lt e same =
      let here : a ≡ q = omega arith in
      ap (λ (p : ℕ). sent_at p tt ∷ from_port (a + 1) n tt) here
      ∙ ap (λ (bs : List Counts). sent_at q tt ∷ bs) (same_from (a + 1) n (λ p le. same p (λ k. absurd (omega arith))))
  set_from a (suc n) (suc i) q lt e same =
      ap (λ (b : Counts). b ∷ from_port (a + 1) n tt) (same a (λ k. absurd (omega arith)))
      ∙ ap (λ (bs : List Counts). sent_at a ss ∷ bs) (set_from (a + 1) n i q (omega arith) (omega arith) same)

  -- more copies of a value at one port
  pub edited : (ports port : ℕ) (v : ℤ) (n : ℕ) → AreWithin ports ss → port < ports →
      sent_at port tt ≡ with_copies v n (sent_at port ss) → ((p : ℕ) → (p ≡ port → ⊥) → sent_at p tt ≡ sent_at p ss) →
      by_port ports tt ≡ set (by_port ports ss) port (with_copies v n (bag_at (by_port ports ss) port))
  edited ports port v n h lt here others =
      set_from 0 ports port port lt (omega arith) others
      ∙ ap (set (by_port ports ss) port) (here ∙ ap (with_copies v n) (sym (bag_of_port ports port ss h)))

-- copies go to the ports alone, also after an edit
pub within_put : (ports : ℕ) (ss : List Sending) (i : ℕ) (s : Sending) → AreWithin ports ss → s.port < ports → 0 < s.copies →
    s.copies < 2 ^ 64 → AreWithin ports (insert ss i s)
within_put ports ss zero s h lt some kept = (lt, some, kept, h)
within_put ports [] (suc i) s h lt some kept = (lt, some, kept, tt)
within_put ports (x ∷ xs) (suc i) s h lt some kept = (h.0, h.1, h.2, within_put ports xs i s h.3 lt some kept)

pub within_set : (ports : ℕ) (ss : List Sending) (i : ℕ) (s : Sending) → AreWithin ports ss → s.port < ports → 0 < s.copies →
    s.copies < 2 ^ 64 → AreWithin ports (set ss i s)
within_set ports [] i s h lt some kept = tt
within_set ports (x ∷ xs) zero s h lt some kept = (lt, some, kept, h.3)
within_set ports (x ∷ xs) (suc i) s h lt some kept = (h.0, h.1, h.2, within_set ports xs i s h.3 lt some kept)

-- how many there are
total_set : (bags : List Counts) (i : ℕ) (b : Counts) (n : ℕ) → i < length bags →
    capped (total b) ≡ capped (total (bag_at bags i) + n) → capped (total_of_all (set bags i b)) ≡ capped (total_of_all bags + n)
total_set [] i b n lt e = absurd (omega arith)
total_set (x ∷ xs) zero b n lt e = omega arith
total_set (x ∷ xs) (suc i) b n lt e = let rest = total_set xs i b n (omega arith) e in omega arith

-- one copy more at a port is one more in all
pub one_more : (port : ℕ) (v : ℤ) (old new : List Counts) (n : ℕ) → port < length old →
    new ≡ set old port (with_copies v 1 (bag_at old port)) → n ≡ size_of_all old → capped (n + 1) ≡ size_of_all new
one_more port v old new n lt is all =
    let added = total_with v 1 (bag_at old port) in
    let whole = total_set old port (with_copies v 1 (bag_at old port)) 1 lt added.0 in
    let same = ap size_of_all is in
    omega (arith, same, whole, all)

total_none : (a n : ℕ) → total_of_all (from_port a n []) ≡ 0
total_none a zero = refl
total_none a (suc n) = let rest = total_none (a + 1) n in omega arith

pub total_by_port : (ports : ℕ) (ss : List Sending) → AreWithin ports ss → size_of_all (by_port ports ss) ≡ capped (copies_in ss)
total_by_port ports [] h = let none = total_none 0 ports in omega arith
total_by_port ports (s ∷ ss) h =
    let rest = total_by_port ports ss h.3 in
    let long = from_port_length 0 ports ss in
    let old = bag_at (by_port ports ss) s.port in
    let parts = total_with s.value s.copies old in
    let front = edited ss (s ∷ ss) ports s.port s.value s.copies h.3 h.0 (front_same s ss)
    (λ p apart. front_other p s ss apart) in
    let whole = total_set (by_port ports ss) s.port (with_copies s.value s.copies old) s.copies (omega (arith, h.0)) parts.0 in
    ap size_of_all front ∙ omega arith

pub none_or_some : (ports : ℕ) (ss : List Sending) → AreWithin ports ss →
    nat_eq (length ss) 0 ≡ nat_eq (size_of_all (by_port ports ss)) 0
none_or_some ports [] h = sym (ap (λ (n : ℕ). nat_eq n 0) (total_by_port ports [] h))
none_or_some ports (s ∷ ss) h =
    let all = total_by_port ports (s ∷ ss) h in
    ne_eqb (length (s ∷ ss)) 0 (λ e. absurd (omega arith))
    ∙ sym (ne_eqb (size_of_all (by_port ports (s ∷ ss))) 0 (λ e. absurd (omega (arith, h.1))))

-- one value at one of so many ports
pub one_by_port : (ports port : ℕ) (v : ℤ) → port < ports →
    by_port ports (sending port v 1 ∷ []) ≡ set (replicate ports []) port (with_copies v 1 [])
one_by_port ports port v lt =
    edited [] (sending port v 1 ∷ []) ports port v 1 tt lt (front_same (sending port v 1) [])
    (λ p apart. front_other p (sending port v 1) [] apart)
    ∙ ap (λ (b : Counts). set (by_port ports []) port (with_copies v 1 b)) (bag_of_port ports port [] tt)
    ∙ ap (λ (bags : List Counts). set bags port (with_copies v 1 [])) (nothing_by_port 0 ports)

pub one_in_all : (ports port : ℕ) (v : ℤ) → port < ports → 1 ≡ size_of_all (by_port ports (sending port v 1 ∷ []))
one_in_all ports port v lt =
    let all = total_by_port ports (sending port v 1 ∷ []) (lt, omega arith, omega arith, tt) in omega (arith, all)

-- what goes to a port stands between two indices
at_part : (items : List Sending) (a b i : ℕ) (d : Sending) → a ≤ b → b ≤ length items → i < length (slice_range items a b) →
    (a + i < b) × (get_or (slice_range items a b) i d ≡ get_or items (a + i) d)
at_part items a b i d order within early =
    let rest = length-drop a items in
    let long = length-take-le (b - a) (drop a items) (omega (arith, order, within, rest)) in
    let less : i < b - a = omega (arith, early, long) in
    (omega (arith, less), get_or-take (b - a) (drop a items) i d less ∙ get_or-drop a items i d)

pub port_in_part : (p : ℕ) (items : List Sending) (a b i : ℕ) (d : Sending) → a ≤ b → b ≤ length items →
    AllWithin (λ (s : Sending). s.port ≡ p) items a b → i < length (slice_range items a b) →
    (get_or (slice_range items a b) i d).port ≡ p
port_in_part p items a b i d order within there early =
    let at = at_part items a b i d order within early in
    ap (λ (s : Sending). s.port) at.1 ∙ there (a + i) d (omega arith) at.0

none_before : (p : ℕ) (items : List Sending) (a : ℕ) (b : Counts) → a ≤ length items →
    AllWithin (λ (s : Sending). s.port < p) items 0 a → sent_into p (drop a items) b ≡ sent_into p items b
none_before p items zero b within h = refl
none_before p [] (suc a) b within h = refl
none_before p (s ∷ ss) (suc a) b within h =
    none_before p ss a b (omega (arith, within)) (λ k d le lt. h (suc k) d (omega arith) (omega (arith, lt)))
    ∙ sym (passed p s ss b (λ e. absurd (omega (arith, e, h 0 s (omega arith) (omega arith)))))

none_behind : (p : ℕ) (ss : List Sending) (b : Counts) → ((k : ℕ) → k < length ss → p < (get_or ss k no_sending).port) →
    sent_into p ss b ≡ b
none_behind p [] b h = refl
none_behind p (s ∷ ss) b h =
    passed p s ss b (λ e. absurd (omega (arith, e, h 0 (omega arith))))
    ∙ none_behind p ss b (λ k lt. h (suc k) (omega (arith, lt)))

pub all_in_part : (p : ℕ) (items : List Sending) (a b : ℕ) → a ≤ b → b ≤ length items →
    AllWithin (λ (s : Sending). s.port < p) items 0 a → AllWithin (λ (s : Sending). p < s.port) items b (length items) →
    sent_at p (slice_range items a b) ≡ sent_at p items
all_in_part p items a b order within before behind =
    sym
    (sym (none_before p items a [] (omega (arith, order, within)) before)
    ∙ ap (sent_at p) (drop_split items a b order)
    ∙ into_append p (slice_range items a b) (drop b items) []
    ∙ none_behind p (drop b items) (sent_at p (slice_range items a b))
    (λ k lt.
    subst (λ (s : Sending). p < s.port) (sym (get_or-drop b items k no_sending))
    (behind (b + k) no_sending (omega arith) (omega (arith, lt, length-drop b items)))))

-- the bag of a port, read one sending after the other
pub read_step : (p i : ℕ) (items : List Sending) (b : Counts) (t : Bool) → i < length items →
    nat_eq (get_or items i no_sending).port p ≡ t →
    sent_into p (drop (i + 1) items)
    (cond t (with_copies (get_or items i no_sending).value (get_or items i no_sending).copies b) b) ≡ sent_into p (drop i items) b
read_step p i items b t lt e = sym
    (at_drop_more (λ (ss : List Sending). sent_into p ss b) items i no_sending lt
    ∙ ap (λ (u : Bool). sent_into p (drop (i + 1) items)
    (cond u (with_copies (get_or items i no_sending).value (get_or items i no_sending).copies b) b)) e)

-- equal bags by port
module _ (m n : ℕ) (ss us : List Sending) (h : AreWithin m ss) (k : AreWithin n us) (same : by_port m ss ≡ by_port n us) where
  pub as_many_ports : m ≡ n
  as_many_ports = sym (from_port_length 0 m ss) ∙ ap length same ∙ from_port_length 0 n us

  pub same_bag_at : (p : ℕ) → sent_at p ss ≡ sent_at p us
  same_bag_at p = sym (bag_of_port m p ss h) ∙ ap (λ (bags : List Counts). bag_at bags p) same ∙ bag_of_port n p us k
