-- The numbers of a file are those of the tokens that spell it; if it could be written down, these are of the language.
use Rattle.std.proofs.Common.{◌≡◌, ℕ, zero, suc, ◌+◌, ◌<◌, ◌^◌, Bool, true, false, ◌&&◌, cond, List, [], ◌∷◌, ◌++◌, map}
use Rattle.std.proofs.Common.{Option, Some, None, refl, sym, subst, arith}
use Rattle.std.specs.List.{AllByRecursion, cons_option, flat_map}
use Rattle.std.proofs.lemmas.Bool.{and_from, and_parts, lt-ltb}
use Rattle.dv_lex.specs.declared.token.Symbol.TheVariants as symbol
use Rattle.dv_syntax.specs.Grammar.{Spelled, bound_spelling, braces}
use Rattle.dv_syntax.specs.Grammar.{declaration_spelling, expression_spelling, header_spelling, item_spelling}
use Rattle.dv_syntax.specs.Grammar.{minus_spelling, model_spelling, name, number, sign, statements_spelling}
use Rattle.dv_syntax.specs.Trees.{Expression, Literal, TruthValue, Named, Parens, Prefixed, Binary, Call, Elapsed, Times, FileTree}
use Rattle.dv_syntax.specs.Trees.{Statements, Done, Assign, Does, Send, If, IfElse, For, Changes}
use Rattle.dv_syntax.specs.Written.{AtomicItem, Declares, Lists, Starts, Holds, Rules, WrittenAtomic, WrittenCoupled}
use Rattle.dv_syntax.specs.Written.{WrittenModel, sorted_items, sorted_model}
use Rattle.dv_syntax.specs.declared.tree.Declaration.{Declaration}
use Rattle.dv_syntax.specs.declared.tree.Declaration.TheVariants as declaration
use Rattle.dv_syntax.specs.declared.tree.Name.{Name}
use Rattle.dv_syntax.specs.declared.tree.Number.{Number}
use Rattle.dv_syntax.specs.declared.tree.Variable.{Variable}
use Rattle.dv_bag.specs.Bag.{is_number}
use Rattle.dv_bag.specs.Collections.{empty_of}
use Rattle.dv_bag.specs.declared.discipline.Discipline.{Discipline}
use Rattle.dv_bag.specs.declared.discipline.Discipline.TheVariants as discipline
use Rattle.dv_bag.specs.declared.state.Datum.TheVariants as datum
use Rattle.dv_check.specs.Writable.{AsksSmall, IsWritable}
use Rattle.dv_eval.specs.Scope.{bound_value, is_declared, names_of, signed, start_data, start_datum, state_variable_of}
use Rattle.dv_eval.specs.Scope.{state_variables_in, with_variable, with_variables}
use Rattle.dv_eval.specs.declared.scope.Domain.{Domain}
use Rattle.law_sound.specs.Jobs.{IsModelOfNumbers}
use Rattle.law_sound.specs.Kept.{are_kept, is_kept, name_numbers, names_numbers, rules_name_numbers}

-- what is asked of tokens has no number above those of the language
abbrev AskSmall : List Spelled → Type 0
AskSmall ss = AllByRecursion AsksSmall ss

parted : (a b : List Spelled) → AskSmall (a ++ b) → AskSmall a × AskSmall b
parted [] b h = (tt, h)
parted (s ∷ a) b h = let rest = parted a b h.1 in ((h.0, rest.0), rest.1)

inside : (ss : List Spelled) → AskSmall (braces ss) → AskSmall ss
inside ss h = let both = parted ss (sign symbol.CloseBrace ∷ []) h.1 in both.0

-- expressions and statements
expression_small : (e : Expression) → AskSmall (expression_spelling e) → names_numbers e ≡ true
expression_small (Literal n) h = lt-ltb n.value (2 ^ 63) h.0
expression_small (TruthValue offset value) h = refl
expression_small (Named n) h = refl
expression_small (Parens offset e) h =
    let both = parted (expression_spelling e) (sign symbol.CloseParen ∷ []) h.1 in expression_small e both.0
expression_small (Prefixed o offset e) h = expression_small e h.1
expression_small (Binary o a b) h =
    let both = parted (expression_spelling a) _ h in
    and_from (names_numbers a) (names_numbers b) (expression_small a both.0) (expression_small b both.1.1)
expression_small (Call c offset b) h = refl
expression_small (Elapsed offset) h = refl
expression_small (Times offset e b) h = let both = parted (expression_spelling e) _ h.1.1 in expression_small e both.0

statements_small : (body : Statements) → AskSmall (statements_spelling body) → name_numbers body ≡ true
statements_small Done h = refl
statements_small (Assign n e rest) h =
    let both = parted (expression_spelling e) _ h.1.1 in
    and_from (names_numbers e) (name_numbers rest) (expression_small e both.0) (statements_small rest both.1.1)
statements_small (Does c offset n rest) h = statements_small rest h.1.1.1
statements_small (Send offset p e rest) h =
    let both = parted (expression_spelling e) _ h.1.1 in
    and_from (names_numbers e) (name_numbers rest) (expression_small e both.0) (statements_small rest both.1.1)
statements_small (If offset e block rest) h =
    let first = parted (expression_spelling e) _ h.1 in
    let second = parted (braces (statements_spelling block)) (statements_spelling rest) first.1 in
    and_from (names_numbers e) (name_numbers block && name_numbers rest) (expression_small e first.0)
    (and_from (name_numbers block) (name_numbers rest) (statements_small block (inside (statements_spelling block) second.0))
    (statements_small rest second.1))
statements_small (IfElse offset e block other rest) h =
    let first = parted (expression_spelling e) _ h.1 in
    let second = parted (braces (statements_spelling block)) _ first.1 in
    let third = parted (braces (statements_spelling other)) (statements_spelling rest) second.1.1 in
    and_from (names_numbers e) (name_numbers block && (name_numbers other && name_numbers rest)) (expression_small e first.0)
    (and_from (name_numbers block) (name_numbers other && name_numbers rest)
    (statements_small block (inside (statements_spelling block) second.0))
    (and_from (name_numbers other) (name_numbers rest) (statements_small other (inside (statements_spelling other) third.0))
    (statements_small rest third.1)))
statements_small (For offset v b block rest) h =
    let both = parted (braces (statements_spelling block)) (statements_spelling rest) h.1.1.1.1 in
    and_from (name_numbers block) (name_numbers rest) (statements_small block (inside (statements_spelling block) both.0))
    (statements_small rest both.1)
statements_small (Changes c offset e x rest) h =
    let both = parted (expression_spelling e) _ h.1 in
    and_from (names_numbers e) (name_numbers rest) (expression_small e both.0) (statements_small rest both.1.1.1.1)

-- the rules of a model
rules_small : (name : Name) (items : List AtomicItem) → AskSmall (flat_map item_spelling items) →
    rules_name_numbers (sorted_items name items).rules ≡ true
rules_small name [] h = refl
rules_small name (i ∷ items) h =
    let both = parted (item_spelling i) (flat_map item_spelling items) h in by_item i both.0 (rules_small name items both.1)
  where
    by_item : (i : AtomicItem) → AskSmall (item_spelling i) → rules_name_numbers (sorted_items name items).rules ≡ true →
        rules_name_numbers (sorted_items name (i ∷ items)).rules ≡ true
    by_item (Declares d) h rest = rest
    by_item (Lists p) h rest = rest
    by_item (Starts s) h rest = rest
    by_item (Holds t) h rest = rest
    by_item (Rules r) h rest =
        and_from (name_numbers r.body) (rules_name_numbers (sorted_items name items).rules)
        (statements_small r.body (inside (statements_spelling r.body) h.1.1)) rest

-- what variables start with
signed_number : (minus : Option ℕ) (n : ℕ) → n < 2 ^ 63 → is_number (signed minus n) ≡ true
signed_number None n lt = lt-ltb n (2 ^ 63) lt
signed_number (Some index) zero lt = refl
signed_number (Some index) (suc k) lt = lt-ltb k (2 ^ 63) (omega arith)

magnitude_small : (minus : Option ℕ) (n : Number) → AskSmall (minus_spelling minus ++ number n ∷ []) → n.value < 2 ^ 63
magnitude_small None n h = h.0
magnitude_small (Some index) n h = h.1.0

abbrev IsStartKept : Name × Domain → Type 0
IsStartKept v = is_kept (start_datum v.1) ≡ true

start_number : (v : Variable) → AskSmall (declaration_spelling (declaration.Var v)) → is_number (bound_value v.start) ≡ true
start_number v h =
    let low = parted (bound_spelling v.low) _ h.1.1.1 in
    let high = parted (bound_spelling v.high) _ low.1.1 in
    let start = parted (bound_spelling v.start) _ high.1.1 in
    signed_number v.start.minus v.start.magnitude.value (magnitude_small v.start.minus v.start.magnitude start.0)

empty_kept : (d : Discipline) → is_kept (datum.Held (empty_of d)) ≡ true
empty_kept discipline.Bag = refl
empty_kept discipline.Queue = refl

kept_then : (d : Declaration) (more : List (Name × Domain)) → AskSmall (declaration_spelling d) → AllByRecursion IsStartKept more →
    AllByRecursion IsStartKept (cons_option (state_variable_of d) more)
kept_then (declaration.In n) more h rest = rest
kept_then (declaration.Out n) more h rest = rest
kept_then (declaration.Var v) more h rest = (start_number v h, rest)
kept_then (declaration.Flag f) more h rest = (refl, rest)
kept_then (declaration.Held c) more h rest = (empty_kept c.discipline, rest)

starts_kept : (name : Name) (items : List AtomicItem) → AskSmall (flat_map item_spelling items) →
    AllByRecursion IsStartKept (state_variables_in (sorted_items name items).declarations)
starts_kept name [] h = tt
starts_kept name (i ∷ items) h =
    let both = parted (item_spelling i) (flat_map item_spelling items) h in by_item i both.0 (starts_kept name items both.1)
  where
    by_item : (i : AtomicItem) → AskSmall (item_spelling i) →
        AllByRecursion IsStartKept (state_variables_in (sorted_items name items).declarations) →
        AllByRecursion IsStartKept (state_variables_in (sorted_items name (i ∷ items)).declarations)
    by_item (Declares d) h rest = kept_then d (state_variables_in (sorted_items name items).declarations) h rest
    by_item (Lists p) h rest = rest
    by_item (Starts s) h rest = rest
    by_item (Holds t) h rest = rest
    by_item (Rules r) h rest = rest

-- with one variable more, and with all
kept_last : (entries : List (ℕ × Domain)) (e : ℕ × Domain) → are_kept (start_data entries) ≡ true →
    is_kept (start_datum e.1) ≡ true → are_kept (start_data (entries ++ e ∷ [])) ≡ true
kept_last [] e h k = and_from (is_kept (start_datum e.1)) true k refl
kept_last (x ∷ xs) e h k =
    let parts = and_parts (is_kept (start_datum x.1)) (are_kept (start_data xs)) h in
    and_from (is_kept (start_datum x.1)) (are_kept (start_data (xs ++ e ∷ []))) parts.0 (kept_last xs e parts.1 k)

kept_with : (entries : List (ℕ × Domain)) (v : Name × Domain) → are_kept (start_data entries) ≡ true → IsStartKept v →
    are_kept (start_data (with_variable entries v)) ≡ true
kept_with entries v h k = by_test (is_declared v.0.number (names_of entries))
  where
    by_test : (t : Bool) → are_kept (start_data (cond t entries (entries ++ (v.0.number, v.1) ∷ []))) ≡ true
    by_test true = h
    by_test false = kept_last entries (v.0.number, v.1) h k

kept_with_all : (entries : List (ℕ × Domain)) (vs : List (Name × Domain)) → are_kept (start_data entries) ≡ true →
    AllByRecursion IsStartKept vs → are_kept (start_data (with_variables entries vs)) ≡ true
kept_with_all entries [] h k = h
kept_with_all entries (v ∷ vs) h k = kept_with_all (with_variable entries v) vs (kept_with entries v h k.0) k.1

-- models and files
model_of_numbers : (m : WrittenModel) → AskSmall (model_spelling m) → IsModelOfNumbers (sorted_model m)
model_of_numbers (WrittenAtomic name items) h =
    let small : AskSmall (flat_map item_spelling items) = inside (flat_map item_spelling items) h.1.1 in
    record {
      rules = rules_small name items small;
      start = kept_with_all [] (state_variables_in (sorted_items name items).declarations) refl (starts_kept name items small);
    }
model_of_numbers (WrittenCoupled name items) h = tt

models_of_numbers : (ms : List WrittenModel) → AskSmall (flat_map model_spelling ms) →
    AllByRecursion IsModelOfNumbers (map sorted_model ms)
models_of_numbers [] h = tt
models_of_numbers (m ∷ ms) h =
    let both = parted (model_spelling m) (flat_map model_spelling ms) h in
    (model_of_numbers m both.0, models_of_numbers ms both.1)

pub file_of_numbers : (f : FileTree) → IsWritable f → AllByRecursion IsModelOfNumbers f.models
file_of_numbers f writable =
    let written = writable.written in
    let behind = parted (header_spelling written.header) _ writable.small in
    let both = parted (flat_map model_spelling written.models) _ behind.1 in
    subst (λ (t : FileTree). AllByRecursion IsModelOfNumbers t.models) (sym writable.tree)
    (models_of_numbers written.models both.0)
