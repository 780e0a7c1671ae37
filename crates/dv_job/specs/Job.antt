-- The model of a text, why a text has none, and its answer.
use Rattle.std.specs.Prelude.{◌≡◌, ℕ, List, length, Some, None, ◌⊎◌}
use Rattle.dv_lex.specs.declared.token.Token.{Token}
use Rattle.dv_lex.specs.declared.error.Refusal.{Refusal}
use Rattle.dv_lex.specs.declared.error.TextError.{TextError}
use Rattle.dv_lex.specs.Texts.{IsTokensOf, IsRefused as HasNoTokens, answer_to}
use Rattle.dv_syntax.specs.Trees.{FileTree}
use Rattle.dv_source.specs.Grammar.{IsFileOf}
use Rattle.law_dead_ends.specs.Refusals.{IsDeadEnd}
use Rattle.dv_check.specs.Refusals.{refusal_of}
use Rattle.dv_flat.specs.Limit.{file_refusal, link_refusal}
use Rattle.dv_bag.specs.declared.inputs.Input.{Input}
use Rattle.dv_tree.specs.Paths.{texts_of}
use Rattle.dv_tree.specs.Instances.{root_inputs}
use Rattle.dv_plain.specs.Source.{network_of, outside}
use Rattle.dv_text.specs.Names.{component_names, root_ports}
use Rattle.dv_text.specs.Texts.{whole_text}

-- The text is checked: it has these names and is spelled as this file, which breaks no rule and exceeds no limit, except perhaps that
-- on links.
pub record IsCheckedFileOf (text : List ℕ) (names : List (List ℕ)) (f : FileTree) : Type 0 where
  pub tokens : List Token
  pub lexed : IsTokensOf text names tokens
  pub parsed : IsFileOf tokens f
  pub checked : refusal_of f ≡ None

-- The text is accepted: it is checked, and the file does not have too many links. So nothing in the file is refused.
pub record IsModelOf (text : List ℕ) (names : List (List ℕ)) (f : FileTree) : Type 0 where
  pub tokens : List Token
  pub lexed : IsTokensOf text names tokens
  pub parsed : IsFileOf tokens f
  pub checked : refusal_of f ≡ None
  pub few : link_refusal f ≡ None

-- the tokens of the text spell no file: behind the token that the refusal names, no file continues them
pub record HasNoFile (text : List ℕ) (r : Refusal) : Type 0 where
  pub names : List (List ℕ)
  pub tokens : List Token
  pub lexed : IsTokensOf text names tokens
  pub dead : IsDeadEnd tokens (length text) r

-- this is the first of the refusals of the file of the text
pub record IsRefusedFile (text : List ℕ) (r : Refusal) : Type 0 where
  pub names : List (List ℕ)
  pub tokens : List Token
  pub file : FileTree
  pub lexed : IsTokensOf text names tokens
  pub parsed : IsFileOf tokens file
  pub refused : file_refusal file ≡ Some r

-- the text is refused: it has no tokens, or its tokens spell no file, or its file is refused
abbrev pub IsRefusedText : List ℕ → Refusal → Type 0
IsRefusedText text r = HasNoTokens text r ⊎ (HasNoFile text r ⊎ IsRefusedFile text r)

-- the text is refused with this number on this line
pub record IsAnswer (text : List ℕ) (e : TextError) : Type 0 where
  pub refusal : Refusal
  pub refused : IsRefusedText text refusal
  pub answer : e ≡ answer_to text refusal

-- a text has a model, with its names
abbrev pub HasModel : List ℕ → Type 0
HasModel text = (names : List (List ℕ)) × (f : FileTree) × IsModelOf text names f

-- a text is refused
abbrev pub HasAnswer : List ℕ → Type 0
HasAnswer text = (e : TextError) × IsAnswer text e

-- the names of the root's input ports, by which inputs name them
abbrev pub input_ports : List (List ℕ) → FileTree → List (List ℕ)
input_ports names f = texts_of names (root_inputs f)

-- the text of the trace of a file's resultant with inputs, to a horizon
abbrev pub run_text : List (List ℕ) → FileTree → List Input → (horizon limit : ℕ) → List ℕ
run_text names f inputs horizon limit =
    whole_text (component_names names f) (root_ports names f) limit (network_of limit f) (outside f limit inputs) horizon
