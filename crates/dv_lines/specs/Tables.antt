-- The words of all components: what is looked up, and what serves its proof.
use Rattle.std.specs.Prelude.{ℕ, ◌≡◌, ◌+◌, ◌≤◌, List, [], ◌∷◌, ◌++◌, length, map, take, drop, get_or, slice_get, unwrap_or}
use Rattle.std.specs.Prelude.{Option, None, Some}
use Rattle.dv_syntax.specs.Trees.{AtomicModel, AtomicTree, file_of}
use Rattle.dv_eval.specs.Scope.{Scope, names_of, scope_of}
use Rattle.dv_tree.specs.Paths.{texts_of}
use Rattle.dv_tree.specs.Tables.{Source}
use Rattle.dv_text.specs.Texts.{ComponentNames}
use Rattle.dv_lines.specs.Words.{AllWords, WordTexts, no_words, word_text}
use Rattle.dv_lines.specs.declared.pieces.Word.{Word}
use Rattle.dv_lines.specs.declared.words.Draft.{Draft}
use Rattle.dv_lines.specs.declared.words.Place.{Place}
use Rattle.dv_lines.specs.declared.words.Row.{Row}

-- a blank, a name, and what follows it
abbrev pub with_ends : List ℕ → List ℕ → List ℕ
with_ends last name = (32 ∷ name) ++ last

-- for each phase a word that ends with the word of the first variable
abbrev pub leads_of : List (List ℕ) → List (List ℕ) → List (List ℕ)
leads_of phases [] = []
leads_of phases (first ∷ variables) = map (with_ends (with_ends (61 ∷ []) first)) phases

-- the words for the names of a component
abbrev pub decorated : ComponentNames → WordTexts
decorated names = record {
  path = with_ends (32 ∷ []) names.path;
  phases = map (with_ends []) names.phases;
  variables = map (with_ends (61 ∷ [])) names.variables;
  leads = leads_of names.phases names.variables;
  outputs = map (with_ends (58 ∷ [])) names.outputs;
}

abbrev pub rows_found : AllWords → List WordTexts
rows_found w = w.rows

abbrev pub ports_found : AllWords → List (List ℕ)
ports_found w = w.ports

-- the words of a component; past the last there are none
abbrev pub words_at : List WordTexts → ℕ → WordTexts
words_at all k = unwrap_or (slice_get all k) no_words

-- what the words of phases end with: the word of the first variable, if there is one
abbrev pub last_of : List (List ℕ) → List ℕ
last_of [] = []
last_of (first ∷ variables) = with_ends (61 ∷ []) first

-- the words of a model, one sort behind the other
abbrev pub phase_texts : ComponentNames → List (List ℕ)
phase_texts names = map (with_ends (last_of names.variables)) names.phases

abbrev pub own_texts : ComponentNames → List (List ℕ)
own_texts names = phase_texts names ++ (map (with_ends (61 ∷ [])) names.variables ++ map (with_ends (58 ∷ [])) names.outputs)

-- the names that a model declares
abbrev pub scope_names : List (List ℕ) → Scope → ComponentNames
scope_names names scope = record {
  path = [];
  phases = texts_of names scope.phases;
  variables = texts_of names (names_of scope.variables);
  outputs = texts_of names scope.outputs;
}

-- a list that begins with another one
abbrev pub Extends : {A : Type 0} → List A → List A → Type 0
Extends old new = take (length old) new ≡ old

-- a word within bytes
abbrev pub IsWord : List ℕ → Word → List ℕ → Type 0
IsWord bytes w text = (w.start + w.length ≤ length bytes) × (word_text bytes w ≡ text)

abbrev pub AreWords : List ℕ → List Word → List (List ℕ) → Type 0
AreWords bytes [] [] = Unit {0}
AreWords bytes [] (t ∷ ts) = ⊥
AreWords bytes (w ∷ ws) [] = ⊥
AreWords bytes (w ∷ ws) (t ∷ ts) = IsWord bytes w t × AreWords bytes ws ts

-- the place of a model's words: where they begin, and how many of each sort there are
pub record IsPlace (first : ℕ) (p : Place) (names : ComponentNames) : Type 0 where
  pub first_is : p.first ≡ first
  pub phases : p.phases ≡ length names.phases
  pub variables : p.variables ≡ length names.variables
  pub outputs : p.outputs ≡ length names.outputs

-- the words of a model stand at a place among texts
pub record IsOwn (texts : List (List ℕ)) (p : Place) (names : ComponentNames) : Type 0 where
  pub place : IsPlace p.first p names
  pub within : p.first + length (own_texts names) ≤ length texts
  pub words : take (length (own_texts names)) (drop p.first texts) ≡ own_texts names

-- the texts of all words of a draft
abbrev pub texts_in : Draft → List (List ℕ)
texts_in d = map (word_text d.bytes.items) d.words.items

-- the places that are known of models
abbrev pub AreKnown : List (List ℕ) → List (Option Place) → Source → Type 0
AreKnown texts known s =
    (m : ℕ) (p : Place) (a : AtomicTree) → get_or known m None ≡ Some p → slice_get (file_of s.file).models m ≡ Some (AtomicModel a) →
    IsOwn texts p (scope_names s.names (scope_of a))

-- words while they are laid out
pub record IsDraft (d : Draft) (s : Source) : Type 0 where
  pub words : AreWords d.bytes.items d.words.items (texts_in d)
  pub size : length d.known.items ≡ length (file_of s.file).models
  pub known : AreKnown (texts_in d) d.known.items s

-- the rows of components, with their words among texts
abbrev pub IsRow : List ℕ → List (List ℕ) → Row → ComponentNames → Type 0
IsRow bytes texts r names = IsWord bytes r.path (with_ends (32 ∷ []) names.path) × IsOwn texts r.place names

abbrev pub AreRows : List ℕ → List (List ℕ) → List Row → List ComponentNames → Type 0
AreRows bytes texts [] [] = Unit {0}
AreRows bytes texts [] (n ∷ ns) = ⊥
AreRows bytes texts (r ∷ rs) [] = ⊥
AreRows bytes texts (r ∷ rs) (n ∷ ns) = IsRow bytes texts r n × AreRows bytes texts rs ns
