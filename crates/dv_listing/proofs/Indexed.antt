-- One more line of a list, and none left.
use Rattle.std.proofs.Common.{◌≡◌, ℕ, ◌+◌, ◌<◌, List, ◌++◌, length, map, drop, get_or, ap, sym, ◌∙◌, append_assoc, arith}
use Rattle.std.proofs.lemmas.List.{drop_more, get_or-map, length-map}
use Rattle.dv_eval.specs.Scope.{names_of}
use Rattle.dv_eval.specs.declared.scope.Domain.{Domain}
use Rattle.dv_tree.specs.Paths.{name_at}
use Rattle.dv_listing.specs.Listing.{domain_word, line_of_slot, name_line, indexed_from}

-- the first piece of what was left stands at the end of the text now
piece_moved : (before after piece left rest whole : List ℕ) → left ≡ piece ++ rest → before ++ left ≡ whole
    → after ≡ before ++ piece → after ++ rest ≡ whole
piece_moved before after piece left rest whole e keeps pushed =
    ap (λ t. t ++ rest) pushed ∙ append_assoc before piece rest ∙ ap (λ t. before ++ t) (sym e) ∙ keeps

-- a slot is read as its name and its domain
pub slot_step :
    (names : List (List ℕ)) (slots : List (ℕ × Domain)) (i : ℕ) (before after whole : List ℕ) (numbers : List ℕ)
    (domains : List Domain) (word name : List ℕ) (n : ℕ) (d : Domain) → numbers ≡ names_of slots → domains ≡ map (λ v. v.1) slots
    → i < length domains → word ≡ domain_word (get_or domains i d) → name ≡ name_at names (get_or numbers i n)
    → before ++ indexed_from (line_of_slot names) i (drop i slots) ≡ whole → after ≡ before ++ name_line word i name
    → after ++ indexed_from (line_of_slot names) (i + 1) (drop (i + 1) slots) ≡ whole
slot_step names slots i before after whole numbers domains word name n d numbers_are domains_are within word_is name_is keeps pushed =
    let rest = indexed_from (line_of_slot names) (i + 1) (drop (i + 1) slots) in
    let some : i < length slots = omega (arith, within, ap length domains_are, length-map slots (λ v. v.1)) in
    let slot = get_or slots i (n, d) in
    let at_word =
    word_is ∙ ap (λ ds. domain_word (get_or ds i d)) domains_are ∙ ap domain_word (get_or-map (λ v. v.1) slots i (n, d) d some) in
    let at_name =
    name_is ∙ ap (λ ns. name_at names (get_or ns i n)) numbers_are
    ∙ ap (name_at names) (get_or-map (λ v. v.0) slots i (n, d) n some) in
    piece_moved before after (line_of_slot names i slot) (indexed_from (line_of_slot names) i (drop i slots)) rest whole
    (ap (indexed_from (line_of_slot names) i) (drop_more slots i (n, d) some)) keeps
    (pushed ∙ ap (λ w. before ++ name_line w i name) at_word ∙ ap (λ t. before ++ name_line (domain_word slot.1) i t) at_name)
