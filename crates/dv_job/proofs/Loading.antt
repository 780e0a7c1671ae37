-- What loading a text gives, step by step; and that a text has one answer.
use Rattle.std.proofs.Common.{◌≡◌, ◌⊎◌, ℕ, List, Option, Some, None, Result, Ok, Err, IfErr, ◌≤◌, ◌^◌, length, map, refl, ap, ◌∙◌, sym}
use Rattle.std.proofs.Common.{subst, inl, inr, arith}
use Rattle.std.proofs.lemmas.List.{length-map}
use Rattle.dv_lex.specs.declared.token.Token.{Token}
use Rattle.dv_lex.specs.declared.error.LoadError.{LoadError}
use Rattle.dv_lex.specs.declared.error.LoadError.TheVariants.{Refused, Memory}
use Rattle.dv_lex.specs.declared.error.Refusal.{Refusal}
use Rattle.dv_lex.specs.declared.error.TextError.{TextError}
use Rattle.dv_lex.specs.Texts.{IsRefused, IsTokensOf, answer_to}
use Rattle.dv_syntax.specs.Trees.{FileTree}
use Rattle.dv_source.specs.Grammar.{IsFileOf}
use Rattle.dv_parser.specs.Reading.{refusal_of_tokens, IsRefused as AreRefused}
use Rattle.law_dead_ends.specs.Refusals.{IsDeadEnd}
use Rattle.dv_job.proofs.DeadEnds.{FirstWrongLaws, no_dead_end, one_dead_end}
use Rattle.dv_check.specs.Refusals.{IsAnswerTo, refusal_of}
use Rattle.std.specs.Option.{option_or}
use Rattle.dv_check.specs.CheckedFiles.{IsCheckedFile}
use Rattle.dv_tree.specs.Instances.{Instance, instances}
use Rattle.dv_tree.specs.Paths.{texts_of, with_dots}
use Rattle.dv_tree.proofs.Limits.{few_components}
use Rattle.dv_flat.specs.Links.{paths_of}
use Rattle.dv_flat.specs.Limit.{IsLinkAnswer, file_refusal, link_refusal}
use Rattle.dv_job.specs.Job.{HasAnswer, HasModel, HasNoFile, IsAnswer, IsCheckedFileOf, IsModelOf, IsRefusedFile, IsRefusedText}
use Rattle.dv_job.specs.Ending.{AnswersWith}
use Rattle.dv_job.specs.Errors.{job_error_of_load}
use Rattle.dv_job.specs.Loading.{IsUnloaded}

-- a text without tokens is not loaded
pub unlexed : {T : Type 0} (e : LoadError) (text : List ℕ) →
    ((r : Refusal) → ◌≡◌ {A = Result T LoadError} (Err e) (Err (Refused r)) → IsRefused text r) → IsUnloaded e text
unlexed (Refused r) text h = inl (h r refl)
unlexed Memory text h = tt

-- a refusal of tokens is where no file continues them
abbrev pub RefusalsAreDeadEnds : Type 0
RefusalsAreDeadEnds = (ts : List Token) (end : ℕ) (r : Refusal) → refusal_of_tokens ts end ≡ Some r → IsDeadEnd ts end r

-- nor is one whose tokens are those of no file
pub unparsed : RefusalsAreDeadEnds → (e : LoadError) (text : List ℕ) (names : List (List ℕ)) (tokens : List Token) →
    IsTokensOf text names tokens → AreRefused e tokens (length text) → IsUnloaded e text
unparsed laws (Refused r) text names tokens lexed unread =
    inr (inl (record { names = names; tokens = tokens; lexed = lexed; dead = laws tokens (length text) r unread }))
unparsed laws Memory text names tokens lexed unread = tt

-- the refusal of a file that breaks a rule, and of one that has too many links
broken : (o links : Option Refusal) (r : Refusal) → o ≡ Some r → option_or o links ≡ Some r
broken None links r is = let none : None ≡ Some r = is in cc
broken (Some s) links r is = is

linked : (o links : Option Refusal) → o ≡ None → option_or o links ≡ links
linked None links is = refl
linked (Some s) links is = let none : Some s ≡ None = is in cc

-- nor one whose file is refused
pub unchecked : (e : LoadError) (text : List ℕ) (names : List (List ℕ)) (tokens : List Token) (f : FileTree) →
    IsTokensOf text names tokens → IsFileOf tokens f → IsAnswerTo f e → IsUnloaded e text
unchecked (Refused r) text names tokens f lexed parsed refused =
    inr (inr (record {
      names = names;
      tokens = tokens;
      file = f;
      lexed = lexed;
      parsed = parsed;
      refused = broken (refusal_of f) (link_refusal f) r refused;
    }))
unchecked Memory text names tokens f lexed parsed refused = tt

pub unchecked_so : {T : Type 0} (checked : Result T LoadError) (text : List ℕ) (names : List (List ℕ)) (tokens : List Token)
    (f : FileTree) → IsTokensOf text names tokens → IsFileOf tokens f → IfErr checked (IsAnswerTo f)
    → IfErr checked (λ e. IsUnloaded e text)
unchecked_so (Ok c) text names tokens f lexed parsed refused = tt
unchecked_so (Err e) text names tokens f lexed parsed refused = unchecked e text names tokens f lexed parsed refused

-- nor one that has too many links
pub crowded : (e : LoadError) (text : List ℕ) (names : List (List ℕ)) (f : FileTree) → IsCheckedFileOf text names f →
    IsLinkAnswer f e → IsUnloaded e text
crowded (Refused r) text names f c refused =
    inr (inr (record {
      names = names;
      tokens = c.tokens;
      file = f;
      lexed = c.lexed;
      parsed = c.parsed;
      refused = linked (refusal_of f) (link_refusal f) c.checked ∙ refused;
    }))
crowded Memory text names f c refused = tt

-- the error of a text that is not loaded is its answer, or out of memory
pub answered : (e : LoadError) (text : List ℕ) → IsUnloaded e text → AnswersWith text (job_error_of_load text e)
answered (Refused r) text refused = record { refusal = r; refused = refused; answer = refl }
answered Memory text refused = tt

-- what is checked stays so in a tree of the same file and names
pub still_checked : {F : Type 0} (tree_of : F → FileTree) (text : List ℕ) (names others : List (List ℕ)) (f g : F) → g ≡ f
    → others ≡ names →
    IsCheckedFileOf text names (tree_of f) → IsCheckedFileOf text others (tree_of g)
still_checked tree_of text names others f g same also c =
    subst (λ (ns : List (List ℕ)). IsCheckedFileOf text ns (tree_of g)) (sym also)
    (subst (λ x. IsCheckedFileOf text names (tree_of x)) (sym same) c)

-- one that has few enough is accepted
pub accepted : (text : List ℕ) (names : List (List ℕ)) (f : FileTree) → IsCheckedFileOf text names f → link_refusal f ≡ None →
    IsModelOf text names f
accepted text names f c few = record { tokens = c.tokens; lexed = c.lexed; parsed = c.parsed; checked = c.checked; few = few }

-- a file that is not refused is checked, and has few links
unbroken : (o links : Option Refusal) → option_or o links ≡ None → (o ≡ None) × (links ≡ None)
unbroken None links none = (refl, none)
unbroken (Some r) links none = let some : Some r ≡ None = none in cc

-- a component has one path, and there are few components
pub few_paths : {T : Type 0} (bytes : T → List ℕ) (paths : List T) (names : List (List ℕ)) (f : FileTree) → IsCheckedFile f →
    map bytes paths ≡ paths_of names f → length paths ≤ 2 ^ 32
few_paths bytes paths names f h e =
    let few = few_components f h in
    let count = sym (length-map paths bytes) ∙ ap length e
    ∙ length-map (instances f) (λ (i : Instance). with_dots (texts_of names i.path)) in
    omega (arith, few, count)

-- ---- One answer, by the laws of tokens and of files

-- every text has tokens or a refusal, and one of them
pub record TokenLaws : Type 0 where
  pub some : (text : List ℕ) →
      ((names : List (List ℕ)) × (tokens : List Token) × IsTokensOf text names tokens) ⊎ ((r : Refusal) × IsRefused text r)
  pub one_list : (text : List ℕ) (names others : List (List ℕ)) (tokens more : List Token) → IsTokensOf text names tokens →
      IsTokensOf text others more → (names ≡ others) × (tokens ≡ more)
  pub one_refusal : (text : List ℕ) (r other : Refusal) → IsRefused text r → IsRefused text other → r ≡ other
  pub not_both : (text : List ℕ) (names : List (List ℕ)) (tokens : List Token) (r : Refusal) → IsTokensOf text names tokens →
      ¬ IsRefused text r

-- every list of tokens spells a file or has a refusal, and one of them
pub record FileLaws : Type 0 where
  pub some : (ts : List Token) (end : ℕ) → ((f : FileTree) × IsFileOf ts f) ⊎ ((r : Refusal) × (refusal_of_tokens ts end ≡ Some r))
  pub one_file : (ts : List Token) (f g : FileTree) → IsFileOf ts f → IsFileOf ts g → f ≡ g
  pub dead : RefusalsAreDeadEnds
  pub first_wrong : FirstWrongLaws

same_in_option : (o : Option Refusal) (r other : Refusal) → o ≡ Some r → o ≡ Some other → r ≡ other
same_in_option o r other is also = let same : Some r ≡ Some other = sym is ∙ also in cc

none_or_some : (o : Option Refusal) (r : Refusal) → o ≡ None → o ≡ Some r → ⊥
none_or_some o r none some = let both : None ≡ Some r = sym none ∙ some in cc

module _ (tokens_law : TokenLaws) (files_law : FileLaws) where
  -- two lists of tokens of one text are one
  same_tokens : (text : List ℕ) (names others : List (List ℕ)) (tokens more : List Token) → IsTokensOf text names tokens →
      IsTokensOf text others more → tokens ≡ more
  same_tokens text names others tokens more one two = (tokens_law.one_list text names others tokens more one two).1

  no_file_and_file : (text : List ℕ) (names others : List (List ℕ)) (tokens more : List Token) (f : FileTree) (r : Refusal) →
      IsTokensOf text names tokens → IsDeadEnd tokens (length text) r → IsTokensOf text others more → IsFileOf more f → ⊥
  no_file_and_file text names others tokens more f r one dead two parsed =
      no_dead_end files_law.first_wrong tokens (length text) r f
      (subst (λ (ts : List Token). IsFileOf ts f) (sym (same_tokens text names others tokens more one two)) parsed) dead

  same_file : (text : List ℕ) (names others : List (List ℕ)) (tokens more : List Token) (f g : FileTree) → IsTokensOf text names tokens →
      IsFileOf tokens f → IsTokensOf text others more → IsFileOf more g → f ≡ g
  same_file text names others tokens more f g one is two also =
      files_law.one_file tokens f g is
      (subst (λ (ts : List Token). IsFileOf ts g) (sym (same_tokens text names others tokens more one two)) also)

  one_unread : (text : List ℕ) (r other : Refusal) → HasNoFile text r → HasNoFile text other → r ≡ other
  one_unread text r other one two =
      one_dead_end files_law.first_wrong one.tokens (length text) r other one.dead
      (subst (λ (ts : List Token). IsDeadEnd ts (length text) other)
      (sym (same_tokens text one.names two.names one.tokens two.tokens one.lexed two.lexed)) two.dead)

  one_refused : (text : List ℕ) (r other : Refusal) → IsRefusedFile text r → IsRefusedFile text other → r ≡ other
  one_refused text r other one two =
      same_in_option (file_refusal one.file) r other one.refused
      (subst (λ (f : FileTree). file_refusal f ≡ Some other)
      (sym (same_file text one.names two.names one.tokens two.tokens one.file two.file one.lexed one.parsed two.lexed two.parsed))
      two.refused)

  one_later : (text : List ℕ) (r other : Refusal) → HasNoFile text r ⊎ IsRefusedFile text r →
      HasNoFile text other ⊎ IsRefusedFile text other → r ≡ other
  one_later text r other (inl one) (inl two) = one_unread text r other one two
  one_later text r other (inl one) (inr two) =
      absurd (no_file_and_file text one.names two.names one.tokens two.tokens two.file r one.lexed one.dead two.lexed two.parsed)
  one_later text r other (inr one) (inl two) =
      absurd (no_file_and_file text two.names one.names two.tokens one.tokens one.file other two.lexed two.dead one.lexed one.parsed)
  one_later text r other (inr one) (inr two) = one_refused text r other one two

  -- what is refused behind its tokens has tokens
  no_tokens_and_later : (text : List ℕ) (r other : Refusal) → IsRefused text r → HasNoFile text other ⊎ IsRefusedFile text other → ⊥
  no_tokens_and_later text r other none (inl two) = tokens_law.not_both text two.names two.tokens r two.lexed none
  no_tokens_and_later text r other none (inr two) = tokens_law.not_both text two.names two.tokens r two.lexed none

  one_refusal : (text : List ℕ) (r other : Refusal) → IsRefusedText text r → IsRefusedText text other → r ≡ other
  one_refusal text r other (inl one) (inl two) = tokens_law.one_refusal text r other one two
  one_refusal text r other (inl one) (inr two) = absurd (no_tokens_and_later text r other one two)
  one_refusal text r other (inr one) (inl two) = absurd (no_tokens_and_later text other r two one)
  one_refusal text r other (inr one) (inr two) = one_later text r other one two

  pub one_answer : (text : List ℕ) (e other : TextError) → IsAnswer text e → IsAnswer text other → e ≡ other
  one_answer text e other one two =
      one.answer ∙ ap (answer_to text) (one_refusal text one.refusal two.refusal one.refused two.refused) ∙ sym two.answer

  pub one_model : (text : List ℕ) (names others : List (List ℕ)) (f g : FileTree) → IsModelOf text names f → IsModelOf text others g →
      (names ≡ others) × (f ≡ g)
  one_model text names others f g one two = (
    (tokens_law.one_list text names others one.tokens two.tokens one.lexed two.lexed).0,
    same_file text names others one.tokens
        two.tokens f g one.lexed one.parsed two.lexed two.parsed,
  )

  model_and_refusal : (text : List ℕ) (names : List (List ℕ)) (f : FileTree) (r : Refusal) → IsModelOf text names f →
      IsRefusedText text r → ⊥
  model_and_refusal text names f r m (inl none) = tokens_law.not_both text names m.tokens r m.lexed none
  model_and_refusal text names f r m (inr (inl two)) =
      no_file_and_file text two.names names two.tokens m.tokens f r two.lexed two.dead m.lexed m.parsed
  model_and_refusal text names f r m (inr (inr two)) =
      none_or_some (file_refusal f) r (linked (refusal_of f) (link_refusal f) m.checked ∙ m.few)
      (subst (λ (g : FileTree). file_refusal g ≡ Some r)
      (same_file text two.names names two.tokens m.tokens two.file f two.lexed two.parsed m.lexed m.parsed) two.refused)

  pub not_both : (text : List ℕ) (names : List (List ℕ)) (f : FileTree) (e : TextError) → IsModelOf text names f → ¬ IsAnswer text e
  not_both text names f e m a = model_and_refusal text names f a.refusal m a.refused

  refused_so : (text : List ℕ) (r : Refusal) → IsRefusedText text r → HasAnswer text
  refused_so text r refused = (answer_to text r, record { refusal = r; refused = refused; answer = refl })

  of_file : (text : List ℕ) (names : List (List ℕ)) (tokens : List Token) (f : FileTree) (o : Option Refusal) → file_refusal f ≡ o →
      IsTokensOf text names tokens → IsFileOf tokens f → HasModel text ⊎ HasAnswer text
  of_file text names tokens f None is lexed parsed =
      let none = unbroken (refusal_of f) (link_refusal f) is in
      inl (names, f, record { tokens = tokens; lexed = lexed; parsed = parsed; checked = none.0; few = none.1 })
  of_file text names tokens f (Some r) is lexed parsed =
      inr (refused_so text r
      (inr (inr (record { names = names; tokens = tokens; file = f; lexed = lexed; parsed = parsed; refused = is }))))

  of_tokens : (text : List ℕ) (names : List (List ℕ)) (tokens : List Token) → IsTokensOf text names tokens → HasModel text ⊎ HasAnswer text
  of_tokens text names tokens lexed = elim (files_law.some tokens (length text)) [
    | inl file ↦ of_file text names tokens file.0 (file_refusal file.0) refl lexed file.1
    | inr refused ↦ inr (refused_so text refused.0
        (inr (inl (record {
          names = names;
          tokens = tokens;
          lexed = lexed;
          dead = files_law.dead tokens (length text) refused.0 refused.1;
        }))))
  ]

  pub some_answer : (text : List ℕ) → HasModel text ⊎ HasAnswer text
  some_answer text = elim (tokens_law.some text) [
    | inl lexed ↦ of_tokens text lexed.0 lexed.1 lexed.2
    | inr refused ↦ inr (refused_so text refused.0 (inl refused.1))
  ]
