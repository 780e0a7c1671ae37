-- The words of a component: each name with the signs around it in a line.
use Rattle.std.specs.Prelude.{ℕ, ℤ, ◌+◌, ◌-◌, ◌≤◌, nat_eq, nat_le, Bool, true, false, if◌then◌else◌, List, [], ◌∷◌, ◌++◌, length}
use Rattle.std.specs.Prelude.{map, take, drop, slice_get, unwrap_or, codes, Option, None, Some}
use Rattle.std.specs.Borrow.{Bor}
use Rattle.std.specs.Fmt.{signed_decimal}
use Rattle.std.specs.List.{flat_map}
use Rattle.std.specs.Option.{option_map}
use Rattle.dv_bag.specs.Bag.{Counts, size}
use Rattle.dv_bag.specs.Words.{fault_word, kind_word}
use Rattle.dv_bag.specs.declared.bags.PortBag.{PortBag}
use Rattle.dv_bag.specs.declared.state.Datum.{Datum}
use Rattle.dv_bag.specs.declared.state.State.{State}
use Rattle.dv_bag.specs.declared.entry.What.{What}
use Rattle.dv_bag.specs.declared.entry.What.TheVariants as what
use Rattle.dv_time.specs.declared.time.Time.{Time}
use Rattle.dv_time.specs.Time.{time_text}
use Rattle.dv_text.specs.Texts.{datum_text, values_text}
use Rattle.dv_lines.specs.declared.pieces.Word.{Word}
use Rattle.dv_lines.specs.declared.words.Row.{Row}

-- the bytes of a word: its head if it is short, else a part of other bytes
abbrev pub word_text : List ℕ → Word → List ℕ
word_text bytes w = if nat_le w.length 16 then take w.length w.head else take w.length (drop w.start bytes)

-- each variable after its word
abbrev pub variables_words : List (List ℕ) → List Datum → List ℕ
variables_words words [] = []
variables_words [] (d ∷ rest) = []
variables_words (w ∷ words) (d ∷ rest) = w ++ (datum_text d ++ variables_words words rest)

-- the values of a port after its word, if there are some
abbrev pub port_words : List ℕ → Counts → List ℕ
port_words word b = if nat_eq (size b) 0 then [] else word ++ values_text b

abbrev pub ports_words : List (List ℕ) → List Counts → List ℕ
ports_words words [] = []
ports_words [] (b ∷ bags) = []
ports_words (w ∷ words) (b ∷ bags) = port_words w b ++ ports_words words bags

-- whether a port with a word has values
abbrev pub has_some : List (List ℕ) → List Counts → Bool
has_some words [] = false
has_some [] (b ∷ bags) = false
has_some (w ∷ words) (b ∷ bags) = if nat_eq (size b) 0 then has_some words bags else true

-- ` >` and what was sent, if something was
abbrev pub sent_words : List (List ℕ) → List Counts → List ℕ
sent_words words bags = if has_some words bags then 32 ∷ 62 ∷ ports_words words bags else []

-- ` >` and one value that was sent at a port; nothing past the last port
abbrev pub one_words : List (List ℕ) → ℕ → ℤ → List ℕ
one_words words k v = unwrap_or (option_map (λ (w : List ℕ). 32 ∷ 62 ∷ (w ++ signed_decimal v)) (slice_get words k)) []

-- what is left of it, with the ` >` before it if nothing was written yet
abbrev pub sent_left : Bool → List (List ℕ) → List Counts → List ℕ
sent_left is_first words bags = if is_first then sent_words words bags else ports_words words bags

-- the words of a component: ` PATH `, ` PHASE` for each phase, ` NAME=` for each variable, ` NAME:` for each output; and for each phase
-- ` PHASE NAME=` with the first variable, if there is one
pub record WordTexts : Type 0 where
  pub path : List ℕ
  pub phases : List (List ℕ)
  pub variables : List (List ℕ)
  pub leads : List (List ℕ)
  pub outputs : List (List ℕ)

-- the words where there is no such component
abbrev pub no_words : WordTexts
no_words = record { path = 32 ∷ 32 ∷ []; phases = []; variables = []; leads = []; outputs = [] }

-- a text without as many bytes at its end as another one has
abbrev pub without : List ℕ → List ℕ → List ℕ
without end text = take (length text - length end) text

-- the phases alone, by the words of phases and variables: where there are variables, the word of a phase ends with that of the first one
abbrev pub phases_alone : (phases variables : List (List ℕ)) → List (List ℕ)
phases_alone phases [] = phases
phases_alone phases (first ∷ variables) = map (without first) phases

-- the phases with the name of the first variable, if there is one
abbrev pub phases_led : (phases variables : List (List ℕ)) → List (List ℕ)
phases_led phases [] = []
phases_led phases (first ∷ variables) = phases

-- the words of a component by the texts that the code has
abbrev pub texts_by : (path : List ℕ) → (phases variables outputs : List (List ℕ)) → WordTexts
texts_by path phases variables outputs = record {
  path = path;
  phases = phases_alone phases variables;
  variables = variables;
  leads = phases_led phases variables;
  outputs = outputs;
}

-- the words of a component, of each sort, among those of all models
abbrev pub own_phases : List Word → Row → List Word
own_phases words r = take r.place.phases (drop r.place.first words)

abbrev pub own_variables : List Word → Row → List Word
own_variables words r = take r.place.variables (drop (r.place.first + r.place.phases) words)

abbrev pub own_outputs : List Word → Row → List Word
own_outputs words r = take r.place.outputs (drop (r.place.first + r.place.phases + r.place.variables) words)

-- the words that the code made of a component
abbrev pub row_words : List ℕ → List Word → Row → WordTexts
row_words bytes words r =
    texts_by (word_text bytes r.path) (map (word_text bytes) (own_phases words r)) (map (word_text bytes) (own_variables words r))
    (map (word_text bytes) (own_outputs words r))

abbrev pub row_found : List ℕ → List Word → Option (Bor Row) → WordTexts
row_found bytes words None = no_words
row_found bytes words (Some r) = row_words bytes words r.now

-- all words of a row are among so many
abbrev pub IsWithin : ℕ → Row → Type 0
IsWithin count r = r.place.first + r.place.phases + r.place.variables + r.place.outputs ≤ count

-- the words of all models with their bytes; the texts of the words of all components, and of the output ports of the root
pub record AllWords : Type 0 where
  pub bytes : List ℕ
  pub words : List Word
  pub rows : List WordTexts
  pub ports : List (List ℕ)

-- the word of a phase; a blank past the last
abbrev pub phase_at : List (List ℕ) → ℕ → List ℕ
phase_at phases k = unwrap_or (slice_get phases k) (32 ∷ [])

-- the phase and the variables of a state, word by word
abbrev pub plain_words : WordTexts → State → List ℕ
plain_words w s = phase_at w.phases s.phase ++ variables_words w.variables s.variables

-- the same where the phase and the name of the first variable are one word
abbrev pub led_words : Option (List ℕ) → List (List ℕ) → List Datum → List ℕ → List ℕ
led_words None others ds plain = plain
led_words (Some lead) others [] plain = plain
led_words (Some lead) others (d ∷ ds) plain = (lead ++ datum_text d) ++ variables_words others ds

abbrev pub state_words : WordTexts → State → List ℕ
state_words w s = led_words (slice_get w.leads s.phase) (drop 1 w.variables) s.variables (plain_words w s)

abbrev pub what_words : WordTexts → What → List ℕ
what_words w (what.Transition k s) = kind_word k ++ state_words w s
what_words w (what.Fault f) = codes "fault " ++ fault_word f

-- the line of what happened to a component
abbrev pub line_words : WordTexts → Time → What → List Counts → List ℕ
line_words w t h sent = time_text t ++ (w.path ++ (what_words w h ++ (sent_words w.outputs sent ++ (10 ∷ []))))

-- the word of a port; past the last one it has no name
abbrev pub port_at : List (List ℕ) → ℕ → List ℕ
port_at ports k = unwrap_or (slice_get ports k) (32 ∷ 58 ∷ [])

-- what leaves at a port with values
abbrev pub held_words : List (List ℕ) → PortBag → List ℕ
held_words ports h = port_words (port_at ports h.port) h.bag

-- the line of what leaves, by the bags with values
abbrev pub leaving_words : List (List ℕ) → Time → List PortBag → List ℕ
leaving_words ports t hs = time_text t ++ (codes " out" ++ (flat_map (held_words ports) hs ++ (10 ∷ [])))
