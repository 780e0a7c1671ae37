-- The grammar of texts: how a text is spelled by tokens, and which files are those of a text.
use Rattle.std.specs.Prelude.{◌≡◌, Bool, true, false, List, [], ◌∷◌, ◌++◌, Option, Some}
use Rattle.std.specs.List.{flat_map, AllByRecursion}
use Rattle.dv_lex.specs.declared.token.Token.{Token}
use Rattle.dv_lex.specs.declared.token.Keyword.TheVariants as keyword
use Rattle.dv_lex.specs.declared.token.Symbol.TheVariants as symbol
use Rattle.dv_syntax.specs.declared.tree.Version.{Version}
use Rattle.dv_syntax.specs.declared.tree.Version.TheVariants as version
use Rattle.dv_syntax.specs.Trees.{FileTree}
use Rattle.dv_syntax.specs.Written.{Rules, WrittenFile, sorted}
use Rattle.dv_syntax.specs.Grammar.{Spelled, Spells, sign, word, word_at, name, braces, Limits, the_limits, expression_spelling, command_word}
use Rattle.dv_syntax.specs.Grammar.{change_word, change_preposition, sort_word, item_spelling, coupled_item_spelling, header_spelling, IsItem}
use Rattle.dv_source.specs.Texts.{TextStatement, TextIf, TextElse, TextStatements, Assign, Does, Send, If, For, Changes, Choice, Nothing}
use Rattle.dv_source.specs.Texts.{Else, ElseIf, Done, Next, TextItem, Rule, Other, TextModel, TextAtomic, TextCoupled, TextFile}
use Rattle.dv_source.specs.Texts.{item_for, file_for}

-- ---- Spellings

abbrev mutual
  pub statement_spelling : TextStatement → List Spelled
  statement_spelling (Assign n e) = name n ∷ sign symbol.Assign ∷ (expression_spelling e ++ sign symbol.Semicolon ∷ [])
  statement_spelling (Does c offset n) = word_at (command_word c) offset ∷ name n ∷ sign symbol.Semicolon ∷ []
  statement_spelling (Send offset p e) = word_at keyword.Send offset ∷ name p ∷ (expression_spelling e ++ sign symbol.Semicolon ∷ [])
  statement_spelling (If c) = choice_spelling c
  statement_spelling (For offset v b block) =
      word_at keyword.For offset ∷ name v ∷ word keyword.In ∷ name b ∷ braces (statements_spelling block)
  statement_spelling (Changes c offset e x) =
      word_at (change_word c) offset
      ∷ (expression_spelling e ++ word (change_preposition c) ∷ name x ∷ sign symbol.Semicolon ∷ [])

  pub choice_spelling : TextIf → List Spelled
  choice_spelling (Choice offset e block otherwise) =
      word_at keyword.If offset ∷ (expression_spelling e ++ (braces (statements_spelling block) ++ else_spelling otherwise))

  pub else_spelling : TextElse → List Spelled
  else_spelling Nothing = []
  else_spelling (Else block) = word keyword.Else ∷ braces (statements_spelling block)
  else_spelling (ElseIf c) = word keyword.Else ∷ choice_spelling c

  pub statements_spelling : TextStatements → List Spelled
  statements_spelling Done = []
  statements_spelling (Next s rest) = statement_spelling s ++ statements_spelling rest

abbrev pub text_item_spelling : TextItem → List Spelled
text_item_spelling (Rule sort phase body) = word (sort_word sort) ∷ name phase ∷ braces (statements_spelling body)
text_item_spelling (Other item) = item_spelling item

abbrev pub text_model_spelling : TextModel → List Spelled
text_model_spelling (TextAtomic n items) = word keyword.Atomic ∷ name n ∷ braces (flat_map text_item_spelling items)
text_model_spelling (TextCoupled n items) = word keyword.Coupled ∷ name n ∷ braces (flat_map coupled_item_spelling items)

abbrev pub text_spelling : TextFile → List Spelled
text_spelling t =
    header_spelling t.header
    ++ (flat_map text_model_spelling t.models ++ word keyword.Root ∷ name t.root ∷ sign symbol.Semicolon ∷ [])

-- ---- Short forms

abbrev mutual
  -- an `if` stands behind `else` only in a text that may have the short forms
  pub HasForms : Bool → TextStatement → Type 0
  HasForms short (If c) = IsChoice short c
  HasForms short (For offset v b block) = HaveForms short block
  HasForms short _ = Unit {0}

  pub IsChoice : Bool → TextIf → Type 0
  IsChoice short (Choice offset e block otherwise) = HaveForms short block × IsElse short otherwise

  pub IsElse : Bool → TextElse → Type 0
  IsElse short Nothing = Unit {0}
  IsElse short (Else block) = HaveForms short block
  IsElse short (ElseIf c) = (short ≡ true) × IsChoice short c

  pub HaveForms : Bool → TextStatements → Type 0
  HaveForms short Done = Unit {0}
  HaveForms short (Next s rest) = HasForms short s × HaveForms short rest

-- a rule, or an item that is none
abbrev pub IsOfForm : Bool → TextItem → Type 0
IsOfForm short (Rule sort phase body) = HaveForms short body
IsOfForm short (Other (Rules r)) = ⊥
IsOfForm short (Other _) = Unit {0}

-- ---- Texts

-- what it stands for is within the limits on depth
abbrev pub IsTextItem : Limits → TextItem → Type 0
IsTextItem limits x = IsItem limits (item_for x) × IsOfForm limits.short_forms x

abbrev pub IsTextModel : Limits → TextModel → Type 0
IsTextModel limits (TextAtomic n items) = AllByRecursion (IsTextItem limits) items
IsTextModel limits (TextCoupled n items) = Unit {0}

-- a text with this header may have the short forms
abbrev pub has_short_forms : Option Version → Bool
has_short_forms (Some version.Third) = true
has_short_forms _ = false

-- limits of a text with this header
abbrev pub limits_behind : Limits → Option Version → Limits
limits_behind limits header = record limits { short_forms = has_short_forms header }

-- The tokens are those of a text, to the last one, that stands for the file. What it stands for is within limits on depth.
pub record IsWritten (limits : Limits) (ts : List Token) (f : WrittenFile) : Type 0 where
  pub text : TextFile
  pub spelled : Spells (text_spelling text) ts []
  pub models : AllByRecursion (IsTextModel (limits_behind limits text.header)) text.models
  pub file : f ≡ file_for text

-- the tokens are those of a text that stands for a file with this tree, within limits on depth
pub record IsFileWithin (limits : Limits) (ts : List Token) (f : FileTree) : Type 0 where
  pub written : WrittenFile
  pub read : IsWritten limits ts written
  pub tree : f ≡ sorted written

-- the tokens are those of a text that stands for a file with this tree
abbrev pub IsFileOf : List Token → FileTree → Type 0
IsFileOf ts f = IsFileWithin the_limits ts f
