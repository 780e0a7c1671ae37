-- Words among bytes that grow.
use Rattle.std.proofs.Common.{◌≡◌, ℕ, ◌+◌, ◌-◌, ◌≤◌, ◌<◌, List, [], ◌∷◌, ◌++◌, length, map, take, drop, get_or, zero, suc}
use Rattle.std.proofs.Common.{refl, sym, ap, ◌∙◌, arith, subst, take-take, take_all, length-append, length-drop, append_assoc, append-nil, set}
use Rattle.std.proofs.lemmas.List.{drop-append-le, drop-drop, drop-map, length-map, length-take, take-append-drop, take-append-le, take-map}
use Rattle.std.proofs.lemmas.List.{get_or-set_other, get_or-set_same, take_more, map-append}
use Rattle.std.proofs.Math.Seq.{drop-append_seam, take-append_seam}
use Rattle.std.proofs.Common.{slice_get, unwrap_or, Option, None, Some, cond, nat_le, inl, inr}
use Rattle.std.proofs.lemmas.Bool.{cases_eq, cases_lt}
use Rattle.std.specs.Prelude.{Result, Ok, Err, OnOk, OnErr}
use Rattle.std.specs.Option.{option_map}
use Rattle.std.proofs.lemmas.Option.{get_or_from_slice_get, slice_get-get_or, slice_get-map, slice_get_within}
use Rattle.dv_syntax.specs.Trees.{AtomicModel, AtomicTree, ModelTree, file_of}
use Rattle.dv_eval.specs.Scope.{Scope, scope_of}
use Rattle.dv_tree.specs.Instances.{Instance, instances}
use Rattle.dv_tree.specs.Tables.{Source}
use Rattle.dv_tree.specs.Paths.{name_at, texts_of, with_dots}
use Rattle.dv_text.specs.Names.{instance_names, tree_names}
use Rattle.dv_text.specs.Texts.{ComponentNames, names_at, no_names}
use Rattle.dv_lines.specs.Words.{IsWithin, phases_alone, phases_led, row_words, texts_by, without, word_text}
use Rattle.dv_lines.specs.Tables.{AreKnown, AreRows, AreWords, Extends, IsOwn, IsPlace, IsRow, IsWord, decorated, last_of, leads_of}
use Rattle.dv_lines.specs.Tables.{own_texts, phase_texts, scope_names, with_ends}
use Rattle.dv_lines.proofs.Digits.{head_text, part_text}
use Rattle.dv_lines.specs.declared.pieces.Word.{Word}
use Rattle.dv_lines.specs.declared.words.Place.{Place}
use Rattle.dv_lines.specs.declared.words.Row.{Row}

pub extends_same : {A : Type 0} → (a : List A) → Extends a a
extends_same a = take_all (length a) a (omega arith)

no_shorter : {A : Type 0} → (a b : List A) → Extends a b → length a ≤ length b
no_shorter {A} a b h = let same = ap (λ (x : List A). length x) h in omega (arith, same, length-take (length a) b)

pub extends_then : {A : Type 0} → (a b c : List A) → Extends a b → Extends b c → Extends a c
extends_then a b c h k = sym (take-take (length a) (length b) c (no_shorter a b h)) ∙ ap (take (length a)) k ∙ h

pub extends_more : {A : Type 0} → (a x b : List A) → b ≡ a ++ x → Extends a b
extends_more a x b e = ap (take (length a)) e ∙ take-append_seam a x

-- by a step that may fail, and changes nothing then
pub extends_by : {T E : Type 0} (r : Result T E) (a x b : List ℕ) → OnOk r (b ≡ a ++ x) → OnErr r (b ≡ a) → Extends a b
extends_by (Ok v) a x b ok err = extends_more a x b ok
extends_by (Err e) a x b ok err = subst (Extends a) (sym err) (extends_same a)

-- what stands behind what was there
behind_is : {A : Type 0} → (a b : List A) → Extends a b → b ≡ a ++ drop (length a) b
behind_is a b h = sym (take-append-drop (length a) b) ∙ ap (λ x. x ++ drop (length a) b) h

text_kept : (a r : List ℕ) (w : Word) → w.start + w.length ≤ length a → word_text (a ++ r) w ≡ word_text a w
text_kept a r w within =
    ap (λ part. cond (nat_le w.length 16) (take w.length w.head) part)
    (ap (take w.length) (drop-append-le w.start a r (omega (arith, within)))
    ∙ take-append-le w.length (drop w.start a) r (omega (arith, within, length-drop w.start a)))

pub word_kept : (a b : List ℕ) (w : Word) (t : List ℕ) → Extends a b → IsWord a w t → IsWord b w t
word_kept a b w t h is = (
  omega (arith, is.0, no_shorter a b h),
  ap (λ x. word_text x w) (behind_is a b h) ∙ text_kept a (drop (length a) b) w is.0 ∙ is.1,
)

pub words_kept : (a b : List ℕ) (ws : List Word) (ts : List (List ℕ)) → Extends a b → AreWords a ws ts → AreWords b ws ts
words_kept a b [] [] h are = tt
words_kept a b [] (t ∷ ts) h are = absurd are
words_kept a b (w ∷ ws) [] h are = absurd are
words_kept a b (w ∷ ws) (t ∷ ts) h are = (word_kept a b w t h are.0, words_kept a b ws ts h are.1)

pub words_push : (b : List ℕ) (ws : List Word) (ts : List (List ℕ)) (w : Word) (t : List ℕ) → AreWords b ws ts → IsWord b w t →
    AreWords b (ws ++ w ∷ []) (ts ++ t ∷ [])
words_push b [] [] w t are is = (is, tt)
words_push b [] (u ∷ ts) w t are is = absurd are
words_push b (v ∷ ws) [] w t are is = absurd are
words_push b (v ∷ ws) (u ∷ ts) w t are is = (are.0, words_push b ws ts w t are.1 is)

pub words_texts : (b : List ℕ) (ws : List Word) (ts : List (List ℕ)) → AreWords b ws ts → map (word_text b) ws ≡ ts
words_texts b [] [] are = refl
words_texts b [] (t ∷ ts) are = absurd are
words_texts b (w ∷ ws) [] are = absurd are
words_texts b (w ∷ ws) (t ∷ ts) are =
    ap (λ x. x ∷ map (word_text b) ws) are.0.1 ∙ ap (λ xs. t ∷ xs) (words_texts b ws ts are.1)

-- the texts stay as bytes grow
pub texts_same : (a b : List ℕ) (ws : List Word) → Extends a b → AreWords a ws (map (word_text a) ws) →
    map (word_text b) ws ≡ map (word_text a) ws
texts_same a b ws h are = words_texts b ws (map (word_text a) ws) (words_kept a b ws (map (word_text a) ws) h are)

pub words_long : (b : List ℕ) (ws : List Word) (ts : List (List ℕ)) → AreWords b ws ts → length ws ≡ length ts
words_long b [] [] are = refl
words_long b [] (t ∷ ts) are = absurd are
words_long b (w ∷ ws) [] are = absurd are
words_long b (w ∷ ws) (t ∷ ts) are = ap suc (words_long b ws ts are.1)

-- ---- The words of a model at a place

own_length : (n : ComponentNames) → length (own_texts n) ≡ length n.phases + (length n.variables + length n.outputs)
own_length n =
    let phases = phase_texts n in
    let variables = map (with_ends (61 ∷ [])) n.variables in
    let outputs = map (with_ends (58 ∷ [])) n.outputs in
    omega (
      arith,
      length-append phases (variables ++ outputs),
      length-append variables outputs,
      length-map n.phases (with_ends (last_of n.variables)),
      length-map n.variables (with_ends (61 ∷ [])),
      length-map n.outputs (with_ends (58 ∷ [])),
    )

-- new words behind others
own_new : (ts : List (List ℕ)) (p : Place) (n : ComponentNames) → IsPlace (length ts) p n → IsOwn (ts ++ own_texts n) p n
own_new ts p n is =
    let own = own_texts n in
    record {
      place = record { first_is = refl; phases = is.phases; variables = is.variables; outputs = is.outputs };
      within = omega (arith, is.first_is, length-append ts own);
      words =
          ap (λ k. take (length own) (drop k (ts ++ own))) is.first_is
          ∙ ap (take (length own)) (drop-append_seam ts own)
          ∙ take_all (length own) own (omega arith);
    }

pub own_last : (ts us : List (List ℕ)) (long : ℕ) (p : Place) (n : ComponentNames) → us ≡ ts ++ own_texts n → length ts ≡ long →
    IsPlace long p n → IsOwn us p n
own_last ts us long p n is same place =
    subst (λ xs. IsOwn xs p n) (sym is) (own_new ts p n (subst (λ (k : ℕ). IsPlace k p n) (sym same) place))

pub own_kept : (ts us : List (List ℕ)) (p : Place) (n : ComponentNames) → Extends ts us → IsOwn ts p n → IsOwn us p n
own_kept ts us p n h own =
    let long = length (own_texts n) in
    let rest = drop (length ts) us in
    record {
      place = own.place;
      within = omega (arith, own.within, no_shorter ts us h);
      words =
          ap (λ xs. take long (drop p.first xs)) (behind_is ts us h)
          ∙ ap (take long) (drop-append-le p.first ts rest (omega (arith, own.within)))
          ∙ take-append-le long (drop p.first ts) rest (omega (arith, own.within, length-drop p.first ts))
          ∙ own.words;
    }

-- parts of a list that begins with three others
first_part : (a b c r : List (List ℕ)) → take (length a) ((a ++ (b ++ c)) ++ r) ≡ a
first_part a b c r = ap (take (length a)) (append_assoc a (b ++ c) r) ∙ take-append_seam a ((b ++ c) ++ r)

behind_first : (a b c r : List (List ℕ)) → drop (length a) ((a ++ (b ++ c)) ++ r) ≡ b ++ (c ++ r)
behind_first a b c r =
    ap (drop (length a)) (append_assoc a (b ++ c) r) ∙ drop-append_seam a ((b ++ c) ++ r) ∙ append_assoc b c r

second_part : (a b c r : List (List ℕ)) → take (length b) (drop (length a) ((a ++ (b ++ c)) ++ r)) ≡ b
second_part a b c r = ap (take (length b)) (behind_first a b c r) ∙ take-append_seam b (c ++ r)

third_part : (a b c r : List (List ℕ)) → take (length c) (drop (length b) (drop (length a) ((a ++ (b ++ c)) ++ r))) ≡ c
third_part a b c r =
    ap (λ xs. take (length c) (drop (length b) xs)) (behind_first a b c r)
    ∙ ap (take (length c)) (drop-append_seam b (c ++ r))
    ∙ take-append_seam c r

-- the texts of some words, from one index on
abbrev texts_at : List ℕ → List Word → ℕ → ℕ → List (List ℕ)
texts_at b ws start count = map (word_text b) (take count (drop start ws))

at_texts : (b : List ℕ) (ws : List Word) (ts : List (List ℕ)) (start count : ℕ) → map (word_text b) ws ≡ ts →
    texts_at b ws start count ≡ take count (drop start ts)
at_texts b ws ts start count is =
    sym (take-map (word_text b) count (drop start ws))
    ∙ ap (take count) (sym (drop-map (word_text b) start ws))
    ∙ ap (λ xs. take count (drop start xs)) is

-- a phase without the name of the first variable
alone_one : (end phase : List ℕ) → without end (with_ends end phase) ≡ with_ends [] phase
alone_one end phase =
    let whole = with_ends end phase in
    let size : length whole - length end ≡ length (32 ∷ phase) = omega (arith, length-append (32 ∷ phase) end) in
    ap (λ n. take n whole) size ∙ take-append_seam (32 ∷ phase) end ∙ sym (append-nil (32 ∷ phase))

alone_each : (end : List ℕ) (phases : List (List ℕ)) → map (without end) (map (with_ends end) phases) ≡ map (with_ends []) phases
alone_each end [] = refl
alone_each end (p ∷ ps) =
    ap (λ x. x ∷ map (without end) (map (with_ends end) ps)) (alone_one end p) ∙ ap (λ xs. with_ends [] p ∷ xs) (alone_each end ps)

alone : (phases variables : List (List ℕ)) →
    phases_alone (map (with_ends (last_of variables)) phases) (map (with_ends (61 ∷ [])) variables) ≡ map (with_ends []) phases
alone phases [] = refl
alone phases (v ∷ vs) = alone_each (with_ends (61 ∷ []) v) phases

led : (phases variables : List (List ℕ)) →
    phases_led (map (with_ends (last_of variables)) phases) (map (with_ends (61 ∷ [])) variables) ≡ leads_of phases variables
led phases [] = refl
led phases (v ∷ vs) = refl

decorated_by : (n : ComponentNames) →
    texts_by (with_ends (32 ∷ []) n.path) (phase_texts n) (map (with_ends (61 ∷ [])) n.variables) (map (with_ends (58 ∷ [])) n.outputs)
    ≡ decorated n
decorated_by n = rw (alone n.phases n.variables, led n.phases n.variables) refl

-- ---- Rows

pub row_kept : (a b : List ℕ) (ts us : List (List ℕ)) (r : Row) (n : ComponentNames) → Extends a b → Extends ts us → IsRow a ts r n →
    IsRow b us r n
row_kept a b ts us r n h k is = (word_kept a b r.path (with_ends (32 ∷ []) n.path) h is.0, own_kept ts us r.place n k is.1)

pub rows_kept : (a b : List ℕ) (ts us : List (List ℕ)) (rs : List Row) (ns : List ComponentNames) → Extends a b → Extends ts us →
    AreRows a ts rs ns → AreRows b us rs ns
rows_kept a b ts us [] [] h k are = tt
rows_kept a b ts us [] (n ∷ ns) h k are = absurd are
rows_kept a b ts us (r ∷ rs) [] h k are = absurd are
rows_kept a b ts us (r ∷ rs) (n ∷ ns) h k are = (row_kept a b ts us r n h k are.0, rows_kept a b ts us rs ns h k are.1)

pub rows_push : (b : List ℕ) (ts : List (List ℕ)) (rs : List Row) (ns : List ComponentNames) (r : Row) (n : ComponentNames) →
    AreRows b ts rs ns → IsRow b ts r n → AreRows b ts (rs ++ r ∷ []) (ns ++ n ∷ [])
rows_push b ts [] [] r n are is = (is, tt)
rows_push b ts [] (m ∷ ns) r n are is = absurd are
rows_push b ts (q ∷ rs) [] r n are is = absurd are
rows_push b ts (q ∷ rs) (m ∷ ns) r n are is = (are.0, rows_push b ts rs ns r n are.1 is)

row_text : (b : List ℕ) (ws : List Word) (ts : List (List ℕ)) (r : Row) (n : ComponentNames) → map (word_text b) ws ≡ ts →
    IsRow b ts r n → row_words b ws r ≡ decorated n
row_text b ws ts r n all is =
    let p = r.place in
    let phases = phase_texts n in
    let variables = map (with_ends (61 ∷ [])) n.variables in
    let outputs = map (with_ends (58 ∷ [])) n.outputs in
    let behind = drop p.first ts in
    let rest = drop (length (own_texts n)) behind in
    let begin : behind ≡ own_texts n ++ rest =
    sym (take-append-drop (length (own_texts n)) behind) ∙ ap (λ xs. xs ++ rest) is.1.words in
    let phase_count : p.phases ≡ length phases =
    is.1.place.phases ∙ sym (length-map n.phases (with_ends (last_of n.variables))) in
    let variable_count : p.variables ≡ length variables = is.1.place.variables ∙ sym (length-map n.variables (with_ends (61 ∷ []))) in
    let output_count : p.outputs ≡ length outputs = is.1.place.outputs ∙ sym (length-map n.outputs (with_ends (58 ∷ []))) in
    let there : texts_at b ws p.first p.phases ≡ phases =
    at_texts b ws ts p.first p.phases all
    ∙ ap (λ xs. take p.phases xs) begin
    ∙ ap (λ k. take k (own_texts n ++ rest)) phase_count
    ∙ first_part phases variables outputs rest in
    let then : texts_at b ws (p.first + p.phases) p.variables ≡ variables =
    at_texts b ws ts (p.first + p.phases) p.variables all
    ∙ ap (take p.variables) (sym (drop-drop p.phases p.first ts))
    ∙ ap (λ xs. take p.variables (drop p.phases xs)) begin
    ∙ ap (λ k. take p.variables (drop k (own_texts n ++ rest))) phase_count
    ∙ ap (λ k. take k (drop (length phases) (own_texts n ++ rest))) variable_count
    ∙ second_part phases variables outputs rest in
    let last : texts_at b ws (p.first + p.phases + p.variables) p.outputs ≡ outputs =
    at_texts b ws ts (p.first + p.phases + p.variables) p.outputs all
    ∙ ap (take p.outputs) (sym (drop-drop p.variables (p.first + p.phases) ts))
    ∙ ap (λ xs. take p.outputs (drop p.variables xs)) (sym (drop-drop p.phases p.first ts))
    ∙ ap (λ xs. take p.outputs (drop p.variables (drop p.phases xs))) begin
    ∙ ap (λ k. take p.outputs (drop p.variables (drop k (own_texts n ++ rest)))) phase_count
    ∙ ap (λ k. take p.outputs (drop k (drop (length phases) (own_texts n ++ rest)))) variable_count
    ∙ ap (λ k. take k (drop (length variables) (drop (length phases) (own_texts n ++ rest)))) output_count
    ∙ third_part phases variables outputs rest in
    ap (λ path. texts_by path (texts_at b ws p.first p.phases) (texts_at b ws (p.first + p.phases) p.variables)
    (texts_at b ws (p.first + p.phases + p.variables) p.outputs)) is.0.1
    ∙ ap (λ xs. texts_by (with_ends (32 ∷ []) n.path) xs (texts_at b ws (p.first + p.phases) p.variables)
    (texts_at b ws (p.first + p.phases + p.variables) p.outputs)) there
    ∙ ap (λ xs. texts_by (with_ends (32 ∷ []) n.path) phases xs (texts_at b ws (p.first + p.phases + p.variables) p.outputs)) then
    ∙ ap (λ xs. texts_by (with_ends (32 ∷ []) n.path) phases variables xs) last
    ∙ decorated_by n

pub rows_texts : (b : List ℕ) (ws : List Word) (ts : List (List ℕ)) (rs : List Row) (ns : List ComponentNames) → map (word_text b) ws ≡ ts →
    AreRows b ts rs ns → map (row_words b ws) rs ≡ map decorated ns
rows_texts b ws ts [] [] all are = refl
rows_texts b ws ts [] (n ∷ ns) all are = absurd are
rows_texts b ws ts (r ∷ rs) [] all are = absurd are
rows_texts b ws ts (r ∷ rs) (n ∷ ns) all are =
    ap (λ x. x ∷ map (row_words b ws) rs) (row_text b ws ts r n all are.0)
    ∙ ap (λ xs. decorated n ∷ xs) (rows_texts b ws ts rs ns all are.1)

-- the words of each row are among all
pub rows_within : (b : List ℕ) (ts : List (List ℕ)) (rs : List Row) (ns : List ComponentNames) (count : ℕ) → count ≡ length ts →
    AreRows b ts rs ns → (k : ℕ) (d : Row) → k < length rs → IsWithin count (get_or rs k d)
rows_within b ts [] ns count is are k d lt = absurd (omega (arith, lt))
rows_within b ts (r ∷ rs) [] count is are k d lt = absurd are
rows_within b ts (r ∷ rs) (n ∷ ns) count is are zero d lt =
    let own = are.0.1 in
    omega (arith, is, own.within, own_length n, own.place.phases, own.place.variables, own.place.outputs)
rows_within b ts (r ∷ rs) (n ∷ ns) count is are (suc k) d lt = rows_within b ts rs ns count is are.1 k d (omega (arith, lt))

-- a text put behind all bytes is a word, with its head if it is short
pub new_word : (a x b : List ℕ) (w : Word) → b ≡ a ++ x → w.start ≡ length a → w.length ≡ length x →
    (length x ≤ 16 → take (length x) w.head ≡ x) → IsWord b w x
new_word a x b w e start long head =
    let whole = length-append a x in
    let size = ap (λ (y : List ℕ). length y) e in (
      omega (arith, whole, size, start, long),
      elim (cases_lt 16 w.length) [
        | inl more ↦
            part_text b w more
            ∙ ap (λ y. take w.length (drop w.start y)) e
            ∙ ap (λ n. take w.length (drop n (a ++ x))) start
            ∙ ap (take w.length) (drop-append_seam a x)
            ∙ take_all w.length x (omega (arith, long))
        | inr few ↦
            head_text b w few ∙ ap (λ n. take n w.head) long ∙ head (omega (arith, few, long))
      ],
    )

-- one name more
pub names_more : (last : List ℕ) (names : List (List ℕ)) (numbers : List ℕ) (i : ℕ) (d : ℕ) → i < length numbers →
    map (with_ends last) (texts_of names (take (i + 1) numbers))
    ≡ map (with_ends last) (texts_of names (take i numbers)) ++ with_ends last (name_at names (get_or numbers i d)) ∷ []
names_more last names numbers i d lt =
    ap (λ ns. map (with_ends last) (texts_of names ns)) (take_more numbers i d lt)
    ∙ ap (map (with_ends last)) (map-append (name_at names) (take i numbers) (get_or numbers i d ∷ []))
    ∙ map-append (with_ends last) (texts_of names (take i numbers)) (name_at names (get_or numbers i d) ∷ [])

-- the end of the words of phases by the number of the first variable
pub last_by : (names : List (List ℕ)) (variables : List ℕ) (first : ℕ) → slice_get variables 0 ≡ Some first →
    last_of (texts_of names variables) ≡ with_ends (61 ∷ []) (name_at names first)
last_by names [] first is = cc
last_by names (v ∷ vs) first is = let same : v ≡ first = cc in ap (λ n. with_ends (61 ∷ []) (name_at names n)) same

pub no_last : (names : List (List ℕ)) (variables : List ℕ) → slice_get variables 0 ≡ None → last_of (texts_of names variables) ≡ []
no_last names [] is = refl
no_last names (v ∷ vs) is = cc

-- ---- The places of models

-- a place says nothing of a path
with_path : (ts : List (List ℕ)) (p : Place) (names : List (List ℕ)) (scope : Scope) (path : List ℕ) →
    IsOwn ts p (scope_names names scope) → IsOwn ts p (record (scope_names names scope) { path = path })
with_path ts p names scope path own = record {
  place = record {
    first_is = refl;
    phases = own.place.phases;
    variables = own.place.variables;
    outputs = own.place.outputs;
  };
  within = own.within;
  words = own.words;
}

own_of : (ts : List (List ℕ)) (p : Place) (names : List (List ℕ)) (o : Option Instance) (scope : Scope) →
    option_map (λ (i : Instance). scope_of i.model) o ≡ Some scope → IsOwn ts p (scope_names names scope) →
    IsOwn ts p (unwrap_or (option_map (instance_names names) o) no_names)
own_of ts p names None scope h own = cc
own_of ts p names (Some i) scope h own =
    let same : scope ≡ scope_of i.model = cc in
    with_path ts p names (scope_of i.model) (with_dots (texts_of names i.path))
    (subst (λ (x : Scope). IsOwn ts p (scope_names names x)) same own)

-- the words of a model are those of its components
pub own_there : (ts : List (List ℕ)) (p : Place) (s : Source) (k : ℕ) (scope : Scope) →
    slice_get (map (λ (i : Instance). scope_of i.model) (instances (file_of s.file))) k ≡ Some scope →
    IsOwn ts p (scope_names s.names scope) → IsOwn ts p (names_at (tree_names s) k)
own_there ts p s k scope h own =
    let all = instances (file_of s.file) in
    subst (IsOwn ts p) (sym (ap (λ (o : Option ComponentNames). unwrap_or o no_names) (slice_get-map (instance_names s.names) all k)))
    (own_of ts p s.names (slice_get all k) scope (sym (slice_get-map (λ (i : Instance). scope_of i.model) all k) ∙ h) own)

path_of : (names : List (List ℕ)) (o : Option Instance) (path : List ℕ) → option_map (λ (i : Instance). i.path) o ≡ Some path →
    (unwrap_or (option_map (instance_names names) o) no_names).path ≡ with_dots (texts_of names path)
path_of names None path h = cc
path_of names (Some i) path h = let same : i.path ≡ path = cc in ap (λ (x : List ℕ). with_dots (texts_of names x)) same

pub path_there : (s : Source) (k : ℕ) (path : List ℕ) →
    slice_get (map (λ (i : Instance). i.path) (instances (file_of s.file))) k ≡ Some path →
    (names_at (tree_names s) k).path ≡ with_dots (texts_of s.names path)
path_there s k path h =
    let all = instances (file_of s.file) in
    ap (λ (o : Option ComponentNames). (unwrap_or o no_names).path) (slice_get-map (instance_names s.names) all k)
    ∙ path_of s.names (slice_get all k) path (sym (slice_get-map (λ (i : Instance). i.path) all k) ∙ h)

-- the model at an index, by a component that has it
model_of : (o : Option Instance) (scope : Scope) (a : AtomicTree) (there : Option ModelTree) →
    option_map (λ (i : Instance). AtomicModel i.model) o ≡ there → option_map (λ (i : Instance). scope_of i.model) o ≡ Some scope →
    there ≡ Some (AtomicModel a) → scope ≡ scope_of a
model_of None scope a there h k g = cc
model_of (Some i) scope a there h k g =
    let same : i.model ≡ a = cc in
    let is : scope_of i.model ≡ scope = cc in
    sym is ∙ ap scope_of same

known_of : (ts : List (List ℕ)) (known : List (Option Place)) (s : Source) (m : ℕ) (p : Place) (o : Option Instance) (scope : Scope) →
    AreKnown ts known s → get_or known m None ≡ Some p →
    option_map (λ (i : Instance). AtomicModel i.model) o ≡ slice_get (file_of s.file).models m →
    option_map (λ (i : Instance). scope_of i.model) o ≡ Some scope → IsOwn ts p (scope_names s.names scope)
known_of ts known s m p None scope are here h k = cc
known_of ts known s m p (Some i) scope are here h k =
    let same : scope_of i.model ≡ scope = cc in
    subst (λ (x : Scope). IsOwn ts p (scope_names s.names x)) same (are m p i.model here (sym h))

-- a place that is known is that of the component
pub known_there : (ts : List (List ℕ)) (known : List (Option Place)) (s : Source) (m : ℕ) (p : Place) (k : ℕ) (scope : Scope) →
    AreKnown ts known s → get_or known m None ≡ Some p →
    slice_get (map (λ (i : Instance). AtomicModel i.model) (instances (file_of s.file))) k ≡ slice_get (file_of s.file).models m →
    slice_get (map (λ (i : Instance). scope_of i.model) (instances (file_of s.file))) k ≡ Some scope →
    IsOwn ts p (names_at (tree_names s) k)
known_there ts known s m p k scope are here h g =
    let all = instances (file_of s.file) in
    own_there ts p s k scope g
    (known_of ts known s m p (slice_get all k) scope are here (sym (slice_get-map (λ (i : Instance). AtomicModel i.model) all k) ∙ h)
    (sym (slice_get-map (λ (i : Instance). scope_of i.model) all k) ∙ g))

-- the places with that of one more model
pub known_more : (ts us : List (List ℕ)) (known : List (Option Place)) (s : Source) (m : ℕ) (p : Place) (k : ℕ) (scope : Scope) →
    m < length known → AreKnown ts known s → Extends ts us → IsOwn us p (scope_names s.names scope) →
    slice_get (map (λ (i : Instance). AtomicModel i.model) (instances (file_of s.file))) k ≡ slice_get (file_of s.file).models m →
    slice_get (map (λ (i : Instance). scope_of i.model) (instances (file_of s.file))) k ≡ Some scope →
    AreKnown us (set known m (Some p)) s
known_more ts us known s m p k scope lt are more own h g = λ j q a there model.
    let all = instances (file_of s.file) in
    elim (cases_eq j m) [
      | inl same ↦
          let found : get_or (set known m (Some p)) j None ≡ Some p =
          ap (λ (x : ℕ). get_or (set known m (Some p)) x None) same ∙ get_or-set_same known m (Some p) None lt in
          let this : p ≡ q = cc in
          let of : scope ≡ scope_of a =
          model_of (slice_get all k) scope a (slice_get (file_of s.file).models m)
          (sym (slice_get-map (λ (i : Instance). AtomicModel i.model) all k) ∙ h)
          (sym (slice_get-map (λ (i : Instance). scope_of i.model) all k) ∙ g)
          (ap (slice_get (file_of s.file).models) (sym same) ∙ model) in
          subst (λ (x : Place). IsOwn us x (scope_names s.names (scope_of a))) this
          (subst (λ (x : Scope). IsOwn us p (scope_names s.names x)) of own)
      | inr other ↦
          own_kept ts us q (scope_names s.names (scope_of a)) more
          (are j q a (sym (get_or-set_other known m j (Some p) None other) ∙ there) model)
    ]

-- one component more
pub names_here : (all : List ComponentNames) (i : ℕ) → i < length all → take (i + 1) all ≡ take i all ++ names_at all i ∷ []
names_here all i lt =
    let here = ap (λ (o : Option ComponentNames). unwrap_or o no_names) (slice_get-get_or all i no_names lt) in
    take_more all i no_names lt ∙ ap (λ (n : ComponentNames). take i all ++ n ∷ []) (sym here)

-- one port more
pub ports_more : (last : List ℕ) (ports : List (List ℕ)) (i : ℕ) (name : List ℕ) → slice_get ports i ≡ Some name →
    map (with_ends last) (take (i + 1) ports) ≡ map (with_ends last) (take i ports) ++ with_ends last name ∷ []
ports_more last ports i name there =
    ap (map (with_ends last)) (take_more ports i name (slice_get_within ports i name there))
    ∙ map-append (with_ends last) (take i ports) (get_or ports i name ∷ [])
    ∙ ap (λ (n : List ℕ). map (with_ends last) (take i ports) ++ with_ends last n ∷ []) (get_or_from_slice_get ports i name name there)
