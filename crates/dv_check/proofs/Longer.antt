-- What a text stands for is spelled by few more tokens than the text, and by the same numbers.
use Rattle.std.proofs.Common.{◌≡◌, ◌*◌, ◌≤◌, List, [], ◌∷◌, ◌++◌, length, map, length-append, append_assoc, arith}
use Rattle.std.proofs.lemmas.List.{append-nil}
use Rattle.std.specs.List.{flat_map, AllByRecursion}
use Rattle.dv_lex.specs.declared.token.Keyword.TheVariants as keyword
use Rattle.dv_lex.specs.declared.token.Symbol.TheVariants as symbol
use Rattle.dv_source.specs.Texts.{TextStatement, TextIf, TextStatements, Assign, Does, Send, If, For, Changes, Choice, Nothing, Else}
use Rattle.dv_source.specs.Texts.{ElseIf, Next, TextItem, Rule, Other, TextModel, TextAtomic, TextCoupled, TextFile, statement_for}
use Rattle.dv_source.specs.Texts.{choice_for, statements_for, item_for, model_for, file_for}
use Rattle.dv_source.specs.Texts as source
use Rattle.dv_source.specs.Grammar.{statement_spelling, choice_spelling, statements_spelling, text_item_spelling}
use Rattle.dv_source.specs.Grammar.{text_model_spelling, text_spelling}
use Rattle.dv_syntax.specs.Grammar.{Spelled, braces, change_preposition, change_word, expression_spelling, file_spelling}
use Rattle.dv_syntax.specs.Grammar.{header_spelling, item_spelling, model_spelling, name, sign, word, word_at}
use Rattle.dv_syntax.specs.Grammar.{statements_spelling as tree_spelling}
use Rattle.dv_syntax.specs.Trees.{Statements, Done}
use Rattle.dv_syntax.specs.Written.{WrittenCoupled}
use Rattle.dv_syntax.proofs.Lengths.{length-braces}
use Rattle.dv_check.specs.Writable.{AsksSmall}

-- The one has at most three times as many tokens as the other, and no number that the other has not.
pub record IsLonger (short long : List Spelled) : Type 0 where
  pub few : length long ≤ 3 * length short
  pub small : AllByRecursion AsksSmall short → AllByRecursion AsksSmall long

small_parts : (a b : List Spelled) → AllByRecursion AsksSmall (a ++ b) → AllByRecursion AsksSmall a × AllByRecursion AsksSmall b
small_parts [] b h = (tt, h)
small_parts (s ∷ a) b h = let p = small_parts a b h.1 in ((h.0, p.0), p.1)

small_both : (a b : List Spelled) → AllByRecursion AsksSmall a → AllByRecursion AsksSmall b → AllByRecursion AsksSmall (a ++ b)
small_both [] b h k = k
small_both (s ∷ a) b h k = (h.0, small_both a b h.1 k)

same_length : (ss : List Spelled) → IsLonger ss ss
same_length ss = record { few = omega arith; small = λ h. h }

one_more : (s : Spelled) {a b : List Spelled} → IsLonger a b → IsLonger (s ∷ a) (s ∷ b)
one_more s h = record { few = omega (arith, h.few); small = λ k. (k.0, h.small k.1) }

both_longer : {a b c d : List Spelled} → IsLonger a b → IsLonger c d → IsLonger (a ++ c) (b ++ d)
both_longer {a = a} {b = b} {c = c} {d = d} h k = record {
  few = omega (arith, h.few, k.few, length-append a c, length-append b d);
  small = λ m. let p = small_parts a c m in small_both b d (h.small p.0) (k.small p.1);
}

-- braces stand behind a token
braces_more : (s : Spelled) {a b : List Spelled} → IsLonger a b → IsLonger (s ∷ a) (s ∷ braces b)
braces_more s {a = a} {b = b} h = record {
  few = omega (arith, h.few, length-braces b);
  small = λ k. (k.0, (tt, small_both b (sign symbol.CloseBrace ∷ []) (h.small k.1) (tt, tt)));
}

braces_longer : {a b : List Spelled} → IsLonger a b → IsLonger (braces a) (braces b)
braces_longer h = one_more (sign symbol.OpenBrace) (both_longer h (same_length (sign symbol.CloseBrace ∷ [])))

mutual
  statement_longer : (s : TextStatement) (rest : Statements) (more : List Spelled) → IsLonger more (tree_spelling rest)
      → IsLonger (statement_spelling s ++ more) (tree_spelling (statement_for s rest))
  statement_longer (Assign n e) rest more h =
      let whole : statement_spelling (Assign n e) ++ more ≡ name n ∷ sign symbol.Assign ∷ (expression_spelling e ++ sign symbol.Semicolon ∷ more) =
      simp append_assoc in
      rw whole (one_more _ (one_more _ (both_longer (same_length (expression_spelling e)) (one_more _ h))))
  statement_longer (Does c offset n) rest more h = one_more _ (one_more _ (one_more _ h))
  statement_longer (Send offset p e) rest more h =
      let whole : statement_spelling (Send offset p e) ++ more
      ≡ word_at keyword.Send offset ∷ name p ∷ (expression_spelling e ++ sign symbol.Semicolon ∷ more) = simp append_assoc in
      rw whole (one_more _ (one_more _ (both_longer (same_length (expression_spelling e)) (one_more _ h))))
  statement_longer (If c) rest more h = choice_longer c rest more h
  statement_longer (For offset v b block) rest more h =
      one_more _ (one_more _ (one_more _ (one_more _ (both_longer (braces_longer (block_longer block)) h))))
  statement_longer (Changes c offset e x) rest more h =
      let whole : statement_spelling (Changes c offset e x) ++ more
      ≡ word_at (change_word c) offset ∷ (expression_spelling e ++ word (change_preposition c) ∷ name x ∷ sign symbol.Semicolon ∷ more) =
      simp append_assoc in
      rw whole (one_more _ (both_longer (same_length (expression_spelling e)) (one_more _ (one_more _ (one_more _ h)))))

  choice_longer : (c : TextIf) (rest : Statements) (more : List Spelled) → IsLonger more (tree_spelling rest)
      → IsLonger (choice_spelling c ++ more) (tree_spelling (choice_for c rest))
  choice_longer (Choice offset e block Nothing) rest more h =
      let whole : choice_spelling (Choice offset e block Nothing) ++ more
      ≡ word_at keyword.If offset ∷ (expression_spelling e ++ (braces (statements_spelling block) ++ more)) = simp (append_assoc, append-nil) in
      rw whole (one_more _ (both_longer (same_length (expression_spelling e)) (both_longer (braces_longer (block_longer block)) h)))
  choice_longer (Choice offset e block (Else other)) rest more h =
      let whole : choice_spelling (Choice offset e block (Else other)) ++ more
      ≡ word_at keyword.If offset ∷ (expression_spelling e ++ (braces (statements_spelling block)
      ++ (word keyword.Else ∷ (braces (statements_spelling other) ++ more)))) = simp append_assoc in
      rw whole (one_more _ (both_longer (same_length (expression_spelling e)) (both_longer (braces_longer (block_longer block))
      (one_more _ (both_longer (braces_longer (block_longer other)) h)))))
  choice_longer (Choice offset e block (ElseIf c)) rest more h =
      let whole : choice_spelling (Choice offset e block (ElseIf c)) ++ more
      ≡ word_at keyword.If offset ∷ (expression_spelling e ++ (braces (statements_spelling block)
      ++ ((word keyword.Else ∷ (choice_spelling c ++ [])) ++ more))) = simp (append_assoc, append-nil) in
      rw whole (one_more _ (both_longer (same_length (expression_spelling e)) (both_longer (braces_longer (block_longer block))
      (both_longer (braces_more _ (choice_longer c Done [] (same_length []))) h))))

  block_longer : (s : TextStatements) → IsLonger (statements_spelling s) (tree_spelling (statements_for s))
  block_longer source.Done = same_length []
  block_longer (Next s rest) = statement_longer s (statements_for rest) (statements_spelling rest) (block_longer rest)

item_longer : (x : TextItem) → IsLonger (text_item_spelling x) (item_spelling (item_for x))
item_longer (Rule sort phase body) = one_more _ (one_more _ (braces_longer (block_longer body)))
item_longer (Other item) = same_length (item_spelling item)

each_longer : {A B : Type 0} (short : A → List Spelled) (long : B → List Spelled) (given : A → B)
    → ((x : A) → IsLonger (short x) (long (given x))) → (xs : List A) → IsLonger (flat_map short xs) (flat_map long (map given xs))
each_longer short long given h [] = same_length []
each_longer short long given h (x ∷ xs) = both_longer (h x) (each_longer short long given h xs)

model_longer : (m : TextModel) → IsLonger (text_model_spelling m) (model_spelling (model_for m))
model_longer (TextAtomic n items) =
    one_more _ (one_more _ (braces_longer (each_longer text_item_spelling item_spelling item_for item_longer items)))
model_longer (TextCoupled n items) = same_length (model_spelling (WrittenCoupled n items))

pub file_longer : (t : TextFile) → IsLonger (text_spelling t) (file_spelling (file_for t))
file_longer t =
    both_longer (same_length (header_spelling t.header))
    (both_longer (each_longer text_model_spelling model_spelling model_for model_longer t.models) (same_length _))
