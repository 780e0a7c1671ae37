-- Texts by their characters: runs of characters that pass a test, and what follows a run.
use Rattle.std.proofs.Common.{◌≡◌, ℕ, ◌+◌, ◌<◌, ◌≤◌, Bool, true, false, not, ◌==◌, List, [], ◌∷◌, ◌++◌, length, take, drop}
use Rattle.std.proofs.Common.{get_or, ap, refl, sym, ◌∙◌, subst, arith, IsUtf8, IsAscii, IsCharBoundary, Some, encode_utf8_all}
use Rattle.std.specs.Prelude.{encode_utf8}
use Rattle.std.specs.List.{list_all, take_while}
use Rattle.std.specs.Char.{is_ascii_digit}
use Rattle.std.specs.Str.{NonePass, NoCharPasses}
use Rattle.std.specs.Str.Pattern.{FindsBy}
use Rattle.std.proofs.lemmas.Bool.{and_parts, and_from, both_ways, not-true, not-false}
use Rattle.std.proofs.lemmas.Bool.Decides.{nat_tests}
use Rattle.std.proofs.lemmas.List.{append_assoc, append-nil, length-append, drop_at, take-append-drop, get_or-append-add}
use Rattle.std.proofs.lemmas.List.Folds.{length-prefix_len}
use Rattle.std.proofs.lemmas.List.Sums.{prefix_len-le-length}
use Rattle.std.proofs.lemmas.Str.{encode_same, encode_ascii, encodes-IsAscii, encodes-append, length-encode, len_utf8_bounds}
use Rattle.std.proofs.lemmas.Str.{IsUtf8-nil, IsUtf8-past_char, IsUtf8-drop, IsCharBoundary-before_ascii}
use Rattle.std.proofs.lemmas.Str.{IsCharBoundary-from_drop}
use Rattle.dv_lex.specs.Steps.{BeginsWith, Ends, SplitsRun, SplitsCharacters}
use Rattle.dv_lex.specs.Lexemes.{is_name_byte, continues_name}
use Rattle.unicode_ident.proofs.IdentLemmas.{is_xid_continue-ascii}
use Rattle.dv_lex.proofs.Ascii.{IsAscii-digits, IsAscii-name_bytes, is_name_byte-ascii}

-- the empty text begins with no character
pub not_begun : (c : ℕ) → BeginsWith c [] → ⊥
not_begun c b = omega (arith, ap length b.1, length-append (encode_utf8 c) b.0, length-encode c, (len_utf8_bounds c).0)

pub some_text : (c : ℕ) (text : List ℕ) → BeginsWith c text → 0 < length text
some_text c [] b = absurd (not_begun c b)
some_text c (x ∷ text) b = omega arith

-- the first character is one
pub same_first : (c d : ℕ) (text : List ℕ) → BeginsWith c text → BeginsWith d text → c ≡ d
same_first c d text b k = (encode_same c d b.0 k.0 (sym b.1 ∙ k.1)).0

pub BeginsWith-append : (c : ℕ) (front rest : List ℕ) → BeginsWith c front → BeginsWith c (front ++ rest)
BeginsWith-append c front rest b = (b.0 ++ rest, ap (λ (bs : List ℕ). bs ++ rest) b.1 ∙ append_assoc (encode_utf8 c) b.0 rest)

-- a character of ASCII is its byte
pub BeginsWith-ascii : (c : ℕ) (text : List ℕ) → (b : BeginsWith c text) → c < 128 → text ≡ c ∷ b.0
BeginsWith-ascii c text b small = b.1 ∙ ap (λ (front : List ℕ). front ++ b.0) (encode_ascii c small)

encoded-append : (c : ℕ) (cs rest : List ℕ) → encode_utf8_all (c ∷ cs) ++ rest ≡ encode_utf8 c ++ (encode_utf8_all cs ++ rest)
encoded-append c cs rest = append_assoc (encode_utf8 c) (encode_utf8_all cs) rest

-- no longer front has characters that pass alone
pub characters_longest : (p : ℕ → Bool) (cs rest ds more : List ℕ) → ((c : ℕ) → BeginsWith c rest → p c ≡ false) →
    encode_utf8_all cs ++ rest ≡ encode_utf8_all ds ++ more → list_all p ds ≡ true →
    length (encode_utf8_all ds) ≤ length (encode_utf8_all cs)
characters_longest p cs rest [] more h e q = omega arith
characters_longest p [] rest (d ∷ ds) more h e q =
    absurd (both_ways (p d) (h d (encode_utf8_all ds ++ more, e ∙ encoded-append d ds more)) ((and_parts (p d) (list_all p ds) q).0))
characters_longest p (c ∷ cs) rest (d ∷ ds) more h e q =
    let joined = sym (encoded-append c cs rest) ∙ (e ∙ encoded-append d ds more) in
    let same = encode_same c d (encode_utf8_all cs ++ rest) (encode_utf8_all ds ++ more) joined in
    let less = characters_longest p cs rest ds more h same.1 ((and_parts (p d) (list_all p ds) q).1) in
    let size : length (encode_utf8 c) ≡ length (encode_utf8 d) = ap (λ x. length (encode_utf8 x)) same.0 in
    omega (arith, less, size, length-append (encode_utf8 c) (encode_utf8_all cs), length-append (encode_utf8 d) (encode_utf8_all ds))

-- a cut behind the characters that pass
ends_behind : (p : ℕ → Bool) (cs : List ℕ) → Ends p cs → (c : ℕ) → BeginsWith c (encode_utf8_all cs) → p c ≡ false
ends_behind p [] h c b = absurd (not_begun c b)
ends_behind p (d ∷ cs) h c b = ap p (same_first c d (encode_utf8_all (d ∷ cs)) b (encode_utf8_all cs, refl)) ∙ h

pub SplitsCharacters-encoded : (p : ℕ → Bool) (cs run rest text : List ℕ) → SplitsRun p cs run rest → encode_utf8_all cs ≡ text →
    SplitsCharacters p text (encode_utf8_all run) (encode_utf8_all rest)
SplitsCharacters-encoded p cs run rest text s e = record {
  characters = run;
  run_is = refl;
  whole = sym e ∙ (ap encode_utf8_all s.whole ∙ encodes-append run rest);
  each = s.each;
  ends = ends_behind p rest s.ends;
}

-- a run up to the first character that fails, which a search finds, or to the end
fails-pass : (p : ℕ → Bool) (cs : List ℕ) → NonePass (λ d. not (p d)) cs → list_all p cs ≡ true
fails-pass p [] h = refl
fails-pass p (c ∷ cs) h = and_from (p c) (list_all p cs) (not-false (p c) h.0) (fails-pass p cs h.1)

pub SplitsCharacters-found : (p : ℕ → Bool) (text : List ℕ) (i j : ℕ) → FindsBy (λ d. not (p d)) text (Some (i, j)) →
    SplitsCharacters p text (take i text) (drop i text)
SplitsCharacters-found p text i j f = record {
  characters = f.0.0;
  run_is = sym f.0.1;
  whole = sym (take-append-drop i text);
  each = fails-pass p f.0.0 f.0.2;
  ends = λ c b. ap p (same_first c f.1.0 (drop i text) b (drop j text, f.1.2.split)) ∙ not-true (p f.1.0) f.1.1;
}

pub SplitsCharacters-whole : (p : ℕ → Bool) (text : List ℕ) → NoCharPasses (λ d. not (p d)) text → SplitsCharacters p text text []
SplitsCharacters-whole p text f = record {
  characters = f.0;
  run_is = sym f.1;
  whole = sym (append-nil text);
  each = fails-pass p f.0 f.2;
  ends = λ c b. absurd (not_begun c b);
}

-- a run of characters of ASCII that continue a name, behind which no other character stands
name_bytes-continue : (bs : List ℕ) → list_all is_name_byte bs ≡ true → list_all continues_name bs ≡ true
name_bytes-continue [] h = refl
name_bytes-continue (b ∷ bs) h =
    let t = and_parts (is_name_byte b) (list_all is_name_byte bs) h in
    and_from (continues_name b) (list_all continues_name bs) (is_xid_continue-ascii b (is_name_byte-ascii b t.0) ∙ t.0)
    (name_bytes-continue bs t.1)

name_bytes-end : (rest : List ℕ) → Ends is_name_byte rest → ((b : ℕ) (bytes : List ℕ) → rest ≡ b ∷ bytes → b < 128) →
    (c : ℕ) → BeginsWith c rest → continues_name c ≡ false
name_bytes-end [] h a c k = absurd (not_begun c k)
name_bytes-end (b ∷ bytes) h a c k =
    let small = a b bytes refl in
    let begins : BeginsWith b (b ∷ bytes) = (bytes, ap (λ (front : List ℕ). front ++ bytes) (sym (encode_ascii b small))) in
    ap continues_name (same_first c b (b ∷ bytes) k begins) ∙ (is_xid_continue-ascii b small ∙ h)

pub SplitsCharacters-name_bytes : (text run rest : List ℕ) → SplitsRun is_name_byte text run rest →
    ((b : ℕ) (bytes : List ℕ) → rest ≡ b ∷ bytes → b < 128) → SplitsCharacters continues_name text run rest
SplitsCharacters-name_bytes text run rest s a = record {
  characters = run;
  run_is = sym (encodes-IsAscii run (IsAscii-name_bytes run s.each));
  whole = s.whole;
  each = name_bytes-continue run s.each;
  ends = name_bytes-end rest s.ends a;
}

-- what follows the front of a text is a text: behind characters, behind digits, and at the end of a line
pub IsUtf8-behind : (cs rest : List ℕ) → IsUtf8 (encode_utf8_all cs ++ rest) → IsUtf8 rest
IsUtf8-behind [] rest u = u
IsUtf8-behind (c ∷ cs) rest u =
    IsUtf8-behind cs rest (IsUtf8-past_char (encode_utf8_all (c ∷ cs) ++ rest) (encode_utf8_all cs ++ rest) c u (encoded-append c cs rest))

pub IsUtf8-behind_ascii : (front rest : List ℕ) → IsAscii front → IsUtf8 (front ++ rest) → IsUtf8 rest
IsUtf8-behind_ascii front rest a u =
    IsUtf8-behind front rest (subst (λ (bs : List ℕ). IsUtf8 (bs ++ rest)) (sym (encodes-IsAscii front a)) u)

pub IsUtf8-behind_digits : (text run rest : List ℕ) → IsUtf8 text → SplitsRun is_ascii_digit text run rest → IsUtf8 rest
IsUtf8-behind_digits text run rest u s = IsUtf8-behind_ascii run rest (IsAscii-digits run s.each) (subst IsUtf8 s.whole u)

pub IsUtf8-behind_name_bytes : (text run rest : List ℕ) → IsUtf8 text → SplitsRun is_name_byte text run rest → IsUtf8 rest
IsUtf8-behind_name_bytes text run rest u s = IsUtf8-behind_ascii run rest (IsAscii-name_bytes run s.each) (subst IsUtf8 s.whole u)

-- the byte behind a front
byte_behind : (run : List ℕ) (b : ℕ) (rest : List ℕ) → get_or (run ++ b ∷ rest) (length run) 0 ≡ b
byte_behind run b rest =
    let offset : length run ≡ length run + 0 = omega arith in
    ap (λ n. get_or (run ++ b ∷ rest) n 0) offset ∙ get_or-append-add run (b ∷ rest) 0 0

pub line_end_behind : (run rest : List ℕ) → Ends (λ b. not (b == 10)) rest → IsUtf8 (run ++ rest) → IsUtf8 rest
line_end_behind run [] h u = IsUtf8-nil
line_end_behind run (b ∷ rest) h u =
    let small : b < 128 = grind (arith, nat_tests, h) in
    let bytes : List ℕ = run ++ b ∷ rest in
    let inside : length run < length bytes = omega (arith, length-append run (b ∷ rest)) in
    let boundary = IsCharBoundary-before_ascii bytes (length run) inside (omega (arith, small, byte_behind run b rest)) in
    subst IsUtf8 (drop_at run (b ∷ rest) (length run) refl) (IsUtf8-drop bytes (length run) u boundary)

pub IsUtf8-behind_line : (text run rest : List ℕ) → IsUtf8 text → SplitsRun (λ b. not (b == 10)) text run rest → IsUtf8 rest
IsUtf8-behind_line text run rest u s = line_end_behind run rest s.ends (subst IsUtf8 s.whole u)

-- a text may be cut behind a run of bytes that a text follows
pub IsCharBoundary-run : (p : ℕ → Bool) (text : List ℕ) (n : ℕ) → n ≡ length (take_while p text) → IsUtf8 (drop n text) →
    IsCharBoundary text n
IsCharBoundary-run p text n e u =
    IsCharBoundary-from_drop text n (omega (arith, e, length-prefix_len p text, prefix_len-le-length p text)) u
