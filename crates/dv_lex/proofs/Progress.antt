-- How far a text has been read: what the loop keeps, and what it ends in.
use Rattle.std.proofs.Common.{◌≡◌, ℕ, ◌+◌, ◌-◌, ◌<◌, ◌≤◌, true, not, List, [], ◌∷◌, ◌++◌, length, Option, Some, ap, refl, sym}
use Rattle.std.proofs.Common.{◌∙◌, subst, arith, option_map, ◌==◌, IsUtf8}
use Rattle.std.specs.List.{cons_option}
use Rattle.std.proofs.lemmas.Bool.{cond_both}
use Rattle.std.proofs.lemmas.List.{append-nil, length-append, length_push}
use Rattle.dv_lex.specs.declared.token.Token.{Token}
use Rattle.dv_lex.specs.declared.token.TokenKind.{TokenKind}
use Rattle.dv_lex.specs.declared.error.Refusal.{Refusal}
use Rattle.dv_lex.specs.declared.error.RefusalNumber.{RefusalNumber}
use Rattle.dv_lex.specs.declared.error.RefusalNumber.TheVariants.{E2, E3}
use Rattle.dv_lex.specs.Table.{has_name}
use Rattle.dv_lex.specs.Lexemes.{Lexeme, Blank, Comment, Identifier, is_blank}
use Rattle.dv_lex.specs.Reading.{Located, Reads, IsFirst, IsInRange}
use Rattle.dv_lex.specs.Numbering.{names_of, kind_of, token_of, tokens_of}
use Rattle.dv_lex.specs.Texts.{IsReadable, IsRefused, IsRefusedAs, ReadsUpTo}
use Rattle.dv_lex.specs.Steps.{BeginsWith, IsNoToken, with_lexeme, ReadsToken, SplitsRun}
use Rattle.dv_lex.proofs.Characters.{BeginsWith-ascii, some_text}
use Rattle.dv_lex.proofs.Spellings.{is_blank-ascii}
use Rattle.dv_lex.proofs.Firsts.{IsFirst-blank, IsFirst-comment, IsUtf8-behind_first}
use Rattle.dv_lex.proofs.Readings.{Reads-push, some_byte}
use Rattle.dv_lex.proofs.NumberingLemmas.{AreNamed, AreNamed-push, names_of-push, tokens_of-push}

-- how many bytes of the text stand before a rest of it
abbrev pub offset_of : List ℕ → List ℕ → ℕ
offset_of text rest = length text - length rest

-- the text is read up to a rest, which is a text, with these names and tokens; the table has at most a name for each byte
pub record HasRead (text : List ℕ) (names : List (List ℕ)) (tokens : List Token) (rest : List ℕ) : Type 0 where
  pub lexemes : List Located
  pub reads : Reads 0 text lexemes (offset_of text rest) rest
  pub table : names ≡ names_of lexemes
  pub named : AreNamed names lexemes
  pub numbered : tokens ≡ tokens_of names lexemes
  pub few_names : length names + length rest ≤ length text
  pub utf8 : IsUtf8 rest

length-with_lexeme : (names : List (List ℕ)) (x : Lexeme) → length (with_lexeme names x) ≤ length names + 1
length-with_lexeme names (Identifier text) =
    cond_both (has_name names text) names (names ++ text ∷ []) (λ ns. length ns ≤ length names + 1) (λ _. omega arith)
    (λ _. omega (arith, length_push names text))
length-with_lexeme names _ = omega arith

HasRead-more : (text : List ℕ) (names : List (List ℕ)) (tokens : List Token) (rest : List ℕ) → HasRead text names tokens rest →
    (x : Lexeme) (front after : List ℕ) → IsInRange x → IsFirst rest x front after →
    HasRead text (with_lexeme names x)
    (tokens ++ cons_option (token_of (with_lexeme names x) (record { lexeme = x; offset = offset_of text rest })) []) after
HasRead-more text names tokens rest h x front after range f =
    let offset : ℕ = offset_of text rest in
    let located : Located = record { lexeme = x; offset = offset } in
    let some = some_byte x front f.spelled in
    let size : length rest ≡ length front + length after = ap length f.whole ∙ length-append front after in
    let next : offset + length front ≡ offset_of text after = omega (arith, h.few_names) in
    record {
      lexemes = h.lexemes ++ located ∷ [];
      reads =
          subst (λ n. Reads 0 text (h.lexemes ++ located ∷ []) n after) next
          (Reads-push 0 text h.lexemes offset rest h.reads located front after refl range f);
      table = ap (λ (ns : List (List ℕ)). with_lexeme ns x) h.table ∙ sym (names_of-push h.lexemes located);
      named = AreNamed-push names h.lexemes located h.named;
      numbered =
          ap (λ (ts : List Token). ts ++ cons_option (token_of (with_lexeme names x) located) []) h.numbered
          ∙ sym (tokens_of-push names h.lexemes located h.named);
      few_names = omega (arith, h.few_names, length-with_lexeme names x);
      utf8 = IsUtf8-behind_first rest x front after h.utf8 f;
    }

-- a blank or a comment
pub HasRead-blank : (text : List ℕ) (names : List (List ℕ)) (tokens : List Token) (rest : List ℕ) → HasRead text names tokens rest →
    (front after : List ℕ) → IsFirst rest Blank front after → HasRead text names tokens after
HasRead-blank text names tokens rest h front after f =
    subst (λ (ts : List Token). HasRead text names ts after) (append-nil tokens)
    (HasRead-more text names tokens rest h Blank front after tt f)

pub HasRead-comment : (text : List ℕ) (names : List (List ℕ)) (tokens : List Token) (rest : List ℕ) → HasRead text names tokens rest →
    (front after : List ℕ) → IsFirst rest Comment front after → HasRead text names tokens after
HasRead-comment text names tokens rest h front after f =
    subst (λ (ts : List Token). HasRead text names ts after) (append-nil tokens)
    (HasRead-more text names tokens rest h Comment front after tt f)

same_token : (token : Token) (kind : TokenKind) (offset : ℕ) → token.kind ≡ kind → token.offset ≡ offset →
    ◌≡◌ {A = Token} (record { kind = kind; offset = offset }) token
same_token token kind offset k l = sym (λ i. record { kind = k i; offset = l i })

pub HasRead-token : (text : List ℕ) (names : List (List ℕ)) (tokens : List Token) (rest : List ℕ) → HasRead text names tokens rest →
    (new : List (List ℕ)) (token : Token) (after : List ℕ) → ReadsToken (offset_of text rest) rest names new token after →
    HasRead text new (tokens ++ token ∷ []) after
HasRead-token text names tokens rest h new token after r =
    let offset : ℕ = offset_of text rest in
    let more = HasRead-more text names tokens rest h r.lexeme r.front after r.range r.first in
    let kind : kind_of (with_lexeme names r.lexeme) r.lexeme ≡ Some token.kind =
    ap (λ (ns : List (List ℕ)). kind_of ns r.lexeme) (sym r.table) ∙ r.kind in
    let made : token_of (with_lexeme names r.lexeme) (record { lexeme = r.lexeme; offset = offset }) ≡ Some token =
    ap (option_map (λ (k : TokenKind). record { kind = k; offset = offset })) kind ∙ ap Some
    (same_token token token.kind offset refl r.at_offset) in
    subst (λ (ns : List (List ℕ)). HasRead text ns (tokens ++ token ∷ []) after) (sym r.table)
    (subst (λ (o : Option Token). HasRead text (with_lexeme names r.lexeme) (tokens ++ cons_option o []) after) made more)

-- a blank character
pub HasRead-blank_first : (text : List ℕ) (names : List (List ℕ)) (tokens : List Token) (rest : List ℕ) → HasRead text names tokens rest →
    (c : ℕ) (b : BeginsWith c rest) → is_blank c ≡ true → HasRead text names tokens b.0
HasRead-blank_first text names tokens rest h c b blank =
    let whole : rest ≡ c ∷ b.0 = BeginsWith-ascii c rest b (is_blank-ascii c blank) in
    HasRead-blank text names tokens rest h (c ∷ []) b.0
    (subst (λ (bs : List ℕ). IsFirst bs Blank (c ∷ []) b.0) (sym whole) (IsFirst-blank c b.0 blank))

-- a comment, up to the end of its line
pub HasRead-line : (text : List ℕ) (names : List (List ℕ)) (tokens : List Token) (rest : List ℕ) → HasRead text names tokens rest →
    (c : ℕ) (b : BeginsWith c rest) → c ≡ 35 → (run after : List ℕ) → SplitsRun (λ b. not (b == 10)) b.0 run after →
    HasRead text names tokens after
HasRead-line text names tokens rest h c b e run after s =
    let whole : rest ≡ 35 ∷ b.0 = BeginsWith-ascii c rest b (omega (arith, e)) ∙ ap (λ n. n ∷ b.0) e in
    HasRead-comment text names tokens rest h (35 ∷ run) after
    (subst (λ (bs : List ℕ). IsFirst bs Comment (35 ∷ run) after) (sym whole) (IsFirst-comment b.0 run after s))

-- a token leaves fewer bytes
pub ReadsToken-shorter : (offset : ℕ) (rest : List ℕ) (old new : List (List ℕ)) (token : Token) (after : List ℕ) →
    ReadsToken offset rest old new token after → length after < length rest
ReadsToken-shorter offset rest old new token after r =
    omega (arith, some_byte r.lexeme r.front r.first.spelled, ap length r.first.whole, length-append r.front after)

-- where no token begins, the text is refused
refused_as : (text : List ℕ) (offset : ℕ) (rest : List ℕ) → ReadsUpTo text offset rest → 0 < length rest → (number : RefusalNumber) →
    IsNoToken rest number → IsRefusedAs text number offset
refused_as text offset rest r more E2 none = (rest, r, more, none)
refused_as text offset rest r more E3 large = (rest, r, large)
refused_as text offset rest r more _ h = absurd h

pub refused_there : (text : List ℕ) (names : List (List ℕ)) (tokens : List Token) (rest : List ℕ) → IsReadable text →
    HasRead text names tokens rest → (c : ℕ) → BeginsWith c rest → (r : Refusal) →
    (r.offset ≡ offset_of text rest) × IsNoToken rest r.number → IsRefused text r
refused_there text names tokens rest readable h c b r was =
    let up_to : ReadsUpTo text r.offset rest =
    record { readable = readable; lexemes = h.lexemes; reads = subst (λ n. Reads 0 text h.lexemes n rest) (sym was.0) h.reads } in
    refused_as text r.offset rest up_to (some_text c rest b) r.number was.1
