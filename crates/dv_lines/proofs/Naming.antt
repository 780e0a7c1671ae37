-- Lines by words are lines by names.
use Rattle.std.proofs.Common.{◌≡◌, nat_eq, cond, ℕ, Bool, true, false, List, [], ◌∷◌, ◌++◌, refl, ap, ◌∙◌, append_assoc, append-nil, map, drop}
use Rattle.std.proofs.Common.{slice_get, unwrap_or, Option, None, Some}
use Rattle.std.specs.Option.{option_map}
use Rattle.std.proofs.lemmas.Option.{slice_get-map}
use Rattle.dv_time.specs.Time.{time_text}
use Rattle.dv_tree.specs.Paths.{name_at}
use Rattle.dv_bag.specs.Bag.{Counts, size}
use Rattle.dv_bag.specs.Words.{kind_word}
use Rattle.dv_bag.specs.declared.state.Datum.{Datum}
use Rattle.dv_bag.specs.declared.state.State.{State}
use Rattle.dv_bag.specs.declared.entry.What.{What}
use Rattle.dv_bag.specs.declared.entry.What.TheVariants as what
use Rattle.dv_bag.specs.declared.entry.Entry.{Entry}
use Rattle.dv_text.specs.Texts.{ComponentNames, datum_text, entry_text, names_at, no_names, port_text, ports_text, sent_text, values_text}
use Rattle.dv_text.specs.Texts.{variables_text, what_text}
use Rattle.dv_lines.specs.Tables.{decorated, leads_of, with_ends, words_at}
use Rattle.dv_lines.specs.Words.{WordTexts, has_some, line_words, phase_at, port_at, port_words, ports_words, sent_words}
use Rattle.dv_lines.specs.Words.{led_words, no_words, plain_words, state_words, variables_words, what_words}

variables : (ns : List (List ℕ)) (ds : List Datum) → variables_words (map (with_ends (61 ∷ [])) ns) ds ≡ variables_text ns ds
variables [] [] = refl
variables [] (d ∷ ds) = refl
variables (n ∷ ns) [] = refl
variables (n ∷ ns) (d ∷ ds) =
    ap (λ t. ((32 ∷ n) ++ (61 ∷ [])) ++ (datum_text d ++ t)) (variables ns ds)
    ∙ append_assoc (32 ∷ n) (61 ∷ []) (datum_text d ++ variables_text ns ds)

valued : (n v : List ℕ) → with_ends (58 ∷ []) n ++ v ≡ (32 ∷ n) ++ (58 ∷ v)
valued n v = append_assoc (32 ∷ n) (58 ∷ []) v

pub port : (n : List ℕ) (b : Counts) → port_words (with_ends (58 ∷ []) n) b ≡ port_text n b
port n b = ap (λ t. cond (nat_eq (size b) 0) [] t) (valued n (values_text b))

ports : (ns : List (List ℕ)) (bags : List Counts) → ports_words (map (with_ends (58 ∷ [])) ns) bags ≡ ports_text ns bags
ports [] [] = refl
ports [] (b ∷ bags) = refl
ports (n ∷ ns) [] = refl
ports (n ∷ ns) (b ∷ bags) =
    ap (λ t. t ++ ports_words (map (with_ends (58 ∷ [])) ns) bags) (port n b) ∙ ap (λ t. port_text n b ++ t) (ports ns bags)

sent : (ns : List (List ℕ)) (bags : List Counts) → sent_words (map (with_ends (58 ∷ [])) ns) bags ≡ sent_text (ports_text ns bags)
sent [] [] = refl
sent [] (b ∷ bags) = refl
sent (n ∷ ns) [] = refl
sent (n ∷ ns) (b ∷ bags) = step (sent ns bags) (ports ns bags) (nat_eq (size b) 0)
  where
    step : sent_words (map (with_ends (58 ∷ [])) ns) bags ≡ sent_text (ports_text ns bags) →
        ports_words (map (with_ends (58 ∷ [])) ns) bags ≡ ports_text ns bags → (z : Bool) →
        cond (cond z (has_some (map (with_ends (58 ∷ [])) ns) bags) true)
        (32 ∷ 62 ∷ (cond z [] (with_ends (58 ∷ []) n ++ values_text b) ++ ports_words (map (with_ends (58 ∷ [])) ns) bags)) []
        ≡ sent_text (cond z [] ((32 ∷ n) ++ (58 ∷ values_text b)) ++ ports_text ns bags)
    step rest others true = rest
    step rest others false =
        ap (λ t. 32 ∷ 62 ∷ (t ++ ports_words (map (with_ends (58 ∷ [])) ns) bags)) (valued n (values_text b))
        ∙ ap (λ t. 32 ∷ 62 ∷ (((32 ∷ n) ++ (58 ∷ values_text b)) ++ t)) others

phase_of : (o : Option (List ℕ)) → unwrap_or (option_map (with_ends []) o) (32 ∷ []) ≡ 32 ∷ unwrap_or o []
phase_of None = refl
phase_of (Some n) = append-nil (32 ∷ n)

phase : (ns : List (List ℕ)) (k : ℕ) → phase_at (map (with_ends []) ns) k ≡ 32 ∷ name_at ns k
phase ns k = ap (λ (o : Option (List ℕ)). unwrap_or o (32 ∷ [])) (slice_get-map (with_ends []) ns k) ∙ phase_of (slice_get ns k)

plain : (names : ComponentNames) (s : State) →
    plain_words (decorated names) s ≡ (32 ∷ name_at names.phases s.phase) ++ variables_text names.variables s.variables
plain names s =
    ap (λ t. t ++ variables_words (map (with_ends (61 ∷ [])) names.variables) s.variables) (phase names.phases s.phase)
    ∙ ap (λ t. (32 ∷ name_at names.phases s.phase) ++ t) (variables names.variables s.variables)

-- a phase with the name of the first variable, the first datum, and the other variables
led : (phases : List (List ℕ)) (k : ℕ) (v : List ℕ) (vs : List (List ℕ)) (ds : List Datum) (other : List ℕ) →
    other ≡ (32 ∷ name_at phases k) ++ variables_text (v ∷ vs) ds →
    led_words (slice_get (leads_of phases (v ∷ vs)) k) (map (with_ends (61 ∷ [])) vs) ds other
    ≡ (32 ∷ name_at phases k) ++ variables_text (v ∷ vs) ds
led phases k v vs ds other is =
    let last = with_ends (61 ∷ []) v in
    ap (λ (o : Option (List ℕ)). led_words o (map (with_ends (61 ∷ [])) vs) ds other) (slice_get-map (with_ends last) phases k)
    ∙ found (slice_get phases k) ds is
  where
    found : (o : Option (List ℕ)) (ds : List Datum) → other ≡ (32 ∷ unwrap_or o []) ++ variables_text (v ∷ vs) ds →
        led_words (option_map (with_ends (with_ends (61 ∷ []) v)) o) (map (with_ends (61 ∷ [])) vs) ds other
        ≡ (32 ∷ unwrap_or o []) ++ variables_text (v ∷ vs) ds
    found None ds same = same
    found (Some p) [] same = same
    found (Some p) (d ∷ ds) same =
        append_assoc ((32 ∷ p) ++ with_ends (61 ∷ []) v) (datum_text d) (variables_words (map (with_ends (61 ∷ [])) vs) ds)
        ∙ append_assoc (32 ∷ p) (with_ends (61 ∷ []) v) (datum_text d ++ variables_words (map (with_ends (61 ∷ [])) vs) ds)
        ∙ ap (λ t. (32 ∷ p) ++ t) (variables (v ∷ vs) (d ∷ ds))

state : (names : ComponentNames) (s : State) →
    state_words (decorated names) s ≡ (32 ∷ name_at names.phases s.phase) ++ variables_text names.variables s.variables
state names s = of names.variables refl
  where
    of : (vs : List (List ℕ)) → names.variables ≡ vs →
        led_words (slice_get (leads_of names.phases vs) s.phase) (drop 1 (map (with_ends (61 ∷ [])) vs)) s.variables
        (plain_words (decorated names) s)
        ≡ (32 ∷ name_at names.phases s.phase) ++ variables_text vs s.variables
    of [] is = plain names s ∙ ap (λ vs. (32 ∷ name_at names.phases s.phase) ++ variables_text vs s.variables) is
    of (v ∷ vs) is =
        led names.phases s.phase v vs s.variables (plain_words (decorated names) s)
        (plain names s ∙ ap (λ ws. (32 ∷ name_at names.phases s.phase) ++ variables_text ws s.variables) is)

what_said : (names : ComponentNames) (h : What) → what_words (decorated names) h ≡ what_text names h
what_said names (what.Transition k s) = ap (λ t. kind_word k ++ t) (state names s)
what_said names (what.Fault f) = refl

pub line : (names : ComponentNames) (e : Entry) → line_words (decorated names) e.time e.what e.sent ≡ entry_text names e
line names e =
    let path = 32 ∷ names.path in
    let mark = sent_words (map (with_ends (58 ∷ [])) names.outputs) e.sent in
    ap (λ t. time_text e.time ++ t) (append_assoc path (32 ∷ []) (what_words (decorated names) e.what ++ (mark ++ (10 ∷ []))))
    ∙ ap (λ t. time_text e.time ++ (path ++ (32 ∷ (t ++ (mark ++ (10 ∷ [])))))) (what_said names e.what)
    ∙ ap (λ t. time_text e.time ++ (path ++ (32 ∷ (what_text names e.what ++ (t ++ (10 ∷ [])))))) (sent names.outputs e.sent)

words_of : (o : Option ComponentNames) → unwrap_or (option_map decorated o) no_words ≡ decorated (unwrap_or o no_names)
words_of None = refl
words_of (Some n) = refl

pub words_there : (all : List ComponentNames) (k : ℕ) → words_at (map decorated all) k ≡ decorated (names_at all k)
words_there all k = ap (λ (o : Option WordTexts). unwrap_or o no_words) (slice_get-map decorated all k) ∙ words_of (slice_get all k)

port_of : (o : Option (List ℕ)) → unwrap_or (option_map (with_ends (58 ∷ [])) o) (32 ∷ 58 ∷ []) ≡ with_ends (58 ∷ []) (unwrap_or o [])
port_of None = refl
port_of (Some n) = refl

pub port_there : (outputs : List (List ℕ)) (k : ℕ) → port_at (map (with_ends (58 ∷ [])) outputs) k ≡ with_ends (58 ∷ []) (name_at outputs k)
port_there outputs k =
    ap (λ (o : Option (List ℕ)). unwrap_or o (32 ∷ 58 ∷ [])) (slice_get-map (with_ends (58 ∷ [])) outputs k) ∙ port_of (slice_get outputs k)
