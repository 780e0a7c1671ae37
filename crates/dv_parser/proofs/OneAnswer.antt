-- Tokens spell a file or have a refusal, and not both.
use Rattle.std.proofs.Common.{◌≡◌, ℕ, List, Some, None, Ok, Err, refl, ap, sym, subst, ◌⊎◌, inl, inr}
use Rattle.dv_lex.specs.declared.token.Token.{Token}
use Rattle.dv_lex.specs.declared.error.LoadError.{LoadError}
use Rattle.dv_lex.specs.declared.error.Refusal.{Refusal}
use Rattle.dv_parser.specs.declared.parse_error.ParseError.{ParseError}
use Rattle.dv_parser.specs.declared.parse_error.ParseError.TheVariants as parse_error
use Rattle.dv_source.specs.Grammar.{IsFileOf}
use Rattle.dv_syntax.specs.Trees.{FileTree}
use Rattle.dv_syntax.specs.Written.{WrittenFile, sorted}
use Rattle.dv_syntax.specs.Grammar.{the_limits}
use Rattle.dv_parser.specs.Reading.{Read, Fails, IsRefused, file_at, refusal_of, refusal_in, refusal_of_tokens, answer_of}
use Rattle.dv_parser.proofs.Models.{file_sound, file_complete}

pub one_answer : (ts : List Token) (end : ℕ) → ((f : FileTree) × IsFileOf ts f) ⊎ ((r : Refusal) × (refusal_of_tokens ts end ≡ Some r))
one_answer ts end = by_answer (file_at the_limits ts) refl
  where
    by_answer : (a : Read WrittenFile) → file_at the_limits ts ≡ a → ((f : FileTree) × IsFileOf ts f) ⊎
        ((r : Refusal) × (refusal_of_tokens ts end ≡ Some r))
    by_answer (Ok f) e = inl (sorted f, record { written = f; read = file_sound the_limits ts f e; tree = refl })
    by_answer (Err o) e = inr (refusal_of o end, ap (λ (a : Read WrittenFile). refusal_in a end) e)

pub not_both : (ts : List Token) (end : ℕ) (f : FileTree) → IsFileOf ts f → refusal_of_tokens ts end ≡ None
not_both ts end f is = ap (λ (a : Read WrittenFile). refusal_in a end) (file_complete the_limits ts is.written is.read)

-- the error of the code for what stops the reading of a file
pub refused_as : (e : ParseError) (answer : LoadError) (ts : List Token) (end : ℕ) → answer ≡ answer_of e end
    → Fails e (file_at the_limits ts) → IsRefused answer ts end
refused_as parse_error.Memory answer ts end is f = subst (λ (x : LoadError). IsRefused x ts end) (sym is) tt
refused_as (parse_error.Stopped o) answer ts end is f =
    subst (λ (x : LoadError). IsRefused x ts end) (sym is) (ap (λ (r : Read WrittenFile). refusal_in r end) f)
