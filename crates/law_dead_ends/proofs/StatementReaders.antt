-- The readers of statements complete them, and go further with greater limits on depth.
use Rattle.std.proofs.Common.{◌≡◌, ℕ, zero, suc, ◌-◌, ◌<◌, Bool, true, false, ◌&&◌, List, [], ◌∷◌, ◌++◌, Ok, Err, refl, ap, subst}
use Rattle.std.proofs.Common.{inr, arith}
use Rattle.dv_bag.specs.declared.discipline.Change.{Change}
use Rattle.dv_bag.specs.declared.discipline.Change.TheVariants as change
use Rattle.dv_lex.specs.declared.token.Token.{Token}
use Rattle.dv_lex.specs.declared.token.TokenKind.TheVariants as kind
use Rattle.dv_lex.specs.declared.token.Keyword.TheVariants as keyword
use Rattle.dv_lex.specs.declared.token.Symbol.TheVariants as symbol
use Rattle.dv_syntax.specs.declared.tree.Command.{Command}
use Rattle.dv_syntax.specs.declared.tree.Command.TheVariants as command
use Rattle.dv_syntax.specs.Trees.{Statements, Done}
use Rattle.dv_syntax.specs.Grammar.{Limits, command_word, change_word, change_preposition}
use Rattle.dv_parser.specs.Reading.{SingleAssign, SingleCommand, SingleSend, SingleIf, SingleIfElse, SingleFor, SingleChange}
use Rattle.dv_parser.specs.Reading.{Reader, Single, single_before, joined, begins, TooShort, read_then, within, choose, after, name_at, offset_at, operator_of}
use Rattle.dv_parser.specs.Reading.{assign_at, command_at, send_at, change_at, else_at, if_at, for_at, statement_at, block_at, other_at}
use Rattle.dv_parser.proofs.Statements.{NoElse, braced, no_operator, statement_shortens, brace_no_else}
use Rattle.dv_parser.proofs.Readers.{Always}
use Rattle.law_dead_ends.proofs.Depths.{HaveRoom, AreWidened, wide_room, deeper, widened}
use Rattle.law_dead_ends.proofs.Steady.{IsOfFirst, begins_of_first}
use Rattle.law_dead_ends.proofs.Completions.{a_number, a_name, a_sign, a_word, empty_braces, CompletesSome, Completes}
use Rattle.law_dead_ends.proofs.Completions.{leaves_complete, then_completes, then_completes_some, choose_completes, choose_completes_by, after_completes, deep_completes}
use Rattle.law_dead_ends.proofs.Completions.{name_completes, braces_complete}
use Rattle.law_dead_ends.proofs.Widening.{WidensAt, Widens, leaves_widens, leaves_at, then_at, then_widens, either, choose_at, choose_widens, after_each}
use Rattle.law_dead_ends.proofs.Widening.{after_widens, deep_each, name_widens, braces_widens}
use Rattle.law_dead_ends.proofs.ExpressionReaders.{no_expression, expression_widens}

-- ---- Statements without blocks

assign_widens : (n w : Limits) → AreWidened n w
    → Widens (assign_at n.expression) (assign_at w.expression) NoElse (a_name ∷ a_sign symbol.Assign ∷ a_number ∷ a_sign symbol.Semicolon ∷ [])
unfolding assign_at operator_of
assign_widens n w g =
    then_widens _ _ name_widens (λ rest h. tt) (λ _ v.
    after_widens (kind.Symbol symbol.Assign) _ _ (λ _.
    then_widens _ _ (expression_widens n w g) (λ rest h. refl) (λ _ e.
    after_widens (kind.Symbol symbol.Semicolon) _ _ (λ _. leaves_widens (SingleAssign v e) NoElse))))

command_widens : (c : Command)
    → Widens (command_at c) (command_at c) NoElse (a_word (command_word c) ∷ a_name ∷ a_sign symbol.Semicolon ∷ [])
unfolding command_at
command_widens c =
    after_widens (kind.Keyword (command_word c)) _ _ (λ offset.
    then_widens _ _ name_widens (λ rest h. tt) (λ _ n.
    after_widens (kind.Symbol symbol.Semicolon) _ _ (λ _. leaves_widens (SingleCommand c offset n) NoElse)))

send_widens : (n w : Limits) → AreWidened n w
    → Widens (send_at n.expression) (send_at w.expression) NoElse (a_word keyword.Send ∷ a_name ∷ a_number ∷ a_sign symbol.Semicolon ∷ [])
unfolding send_at operator_of
send_widens n w g =
    after_widens (kind.Keyword keyword.Send) _ _ (λ offset.
    then_widens _ _ name_widens (λ rest h. tt) (λ _ p.
    then_widens _ _ (expression_widens n w g) (λ rest h. refl) (λ _ e.
    after_widens (kind.Symbol symbol.Semicolon) _ _ (λ _. leaves_widens (SingleSend offset p e) NoElse))))

change_widens : (n w : Limits) → AreWidened n w → (c : Change) → Widens (change_at n.expression c) (change_at w.expression c) NoElse
    (a_word (change_word c) ∷ a_number ∷ a_word (change_preposition c) ∷ a_name ∷ a_sign symbol.Semicolon ∷ [])
unfolding change_at operator_of
change_widens n w g c =
    after_widens (kind.Keyword (change_word c)) _ _ (λ offset.
    then_widens _ _ (expression_widens n w g) (λ rest h. no_operator c) (λ _ e.
    after_widens (kind.Keyword (change_preposition c)) _ _ (λ _.
    then_widens _ _ name_widens (λ rest h. tt) (λ _ x.
    after_widens (kind.Symbol symbol.Semicolon) _ _ (λ _. leaves_widens (SingleChange c offset e x) NoElse)))))

-- ---- Completions of blocks

-- blocks are completed where the limit leaves room for one
abbrev BlocksWhereRoom : Limits → (limit loops : ℕ) → Type 0
BlocksWhereRoom limits zero loops = Unit {0}
BlocksWhereRoom limits (suc limit) loops = Completes (block_at limits (suc limit) loops) Always empty_braces

-- and what stands behind `else`
abbrev OthersWhereRoom : Limits → (limit loops : ℕ) → Type 0
OthersWhereRoom limits zero loops = Unit {0}
OthersWhereRoom limits (suc limit) loops = Completes (other_at limits (suc limit) loops) NoElse empty_braces

if_completes : (limits : Limits) → HaveRoom limits → (limit loops : ℕ) → BlocksWhereRoom limits limit loops
    → OthersWhereRoom limits limit loops
    → CompletesSome (if_at limits (block_at limits limit loops) (other_at limits limit loops) limit) NoElse
unfolding if_at else_at within read_then operator_of
if_completes limits room zero loops c o = deep_completes (kind.Keyword keyword.If) NoElse
if_completes limits room (suc limit) loops c o =
    (after_completes (kind.Keyword keyword.If) _ (λ offset.
    then_completes _ (expression_widens limits (deeper limits) (widened limits room)).narrow_completes (λ rest h. refl) (λ _ e.
    then_completes _ c (λ rest h. tt) (λ _ b.
    choose_completes (kind.Keyword keyword.Else)
    (after_completes (kind.Keyword keyword.Else) _ (λ _.
    then_completes _ o (λ rest h. h) (λ _ other. leaves_complete (SingleIfElse offset e b other) NoElse))).some
    (λ rest h. h)
    (leaves_complete (SingleIf offset e b) NoElse))))).some

for_completes : (limits : Limits) (limit loops : ℕ) → ((m : ℕ) → BlocksWhereRoom limits limit m)
    → CompletesSome (for_at (block_at limits limit) limit loops) NoElse
unfolding for_at within read_then
for_completes limits zero loops c = deep_completes (kind.Keyword keyword.For) NoElse
for_completes limits (suc limit) zero c = deep_completes (kind.Keyword keyword.For) NoElse
for_completes limits (suc limit) (suc loops) c =
    (after_completes (kind.Keyword keyword.For) _ (λ offset.
    then_completes _ name_completes (λ rest h. tt) (λ _ v.
    after_completes (kind.Keyword keyword.In) _ (λ _.
    then_completes _ name_completes (λ rest h. tt) (λ _ b.
    then_completes _ (c (suc loops - 1)) (λ rest h. tt) (λ _ block. leaves_complete (SingleFor offset v b block) NoElse)))))).some

statement_completes : (limits : Limits) → HaveRoom limits → (limit loops : ℕ) → ((m : ℕ) → BlocksWhereRoom limits limit m)
    → ((m : ℕ) → OthersWhereRoom limits limit m)
    → Completes (statement_at limits (block_at limits limit) (other_at limits limit) limit loops) NoElse
    (a_name ∷ a_sign symbol.Assign ∷ a_number ∷ a_sign symbol.Semicolon ∷ [])
unfolding statement_at
statement_completes limits room limit loops c o =
    let wide : Limits = deeper limits in
    let g = widened limits room in
    choose_completes (kind.Keyword keyword.Goto) (command_widens command.Goto).narrow_completes.some (λ rest h. refl)
    (choose_completes (kind.Keyword keyword.Pop) (command_widens command.Pop).narrow_completes.some (λ rest h. refl)
    (choose_completes (kind.Keyword keyword.Send) (send_widens limits wide g).narrow_completes.some (λ rest h. refl)
    (choose_completes (kind.Keyword keyword.If) (if_completes limits room limit loops (c loops) (o loops)) (λ rest h. refl)
    (choose_completes (kind.Keyword keyword.For) (for_completes limits limit loops c) (λ rest h. refl)
    (choose_completes (kind.Keyword keyword.Add) (change_widens limits wide g change.Add).narrow_completes.some (λ rest h. refl)
    (choose_completes (kind.Keyword keyword.Drop) (change_widens limits wide g change.Drop).narrow_completes.some (λ rest h. refl)
    (choose_completes (kind.Keyword keyword.Push) (change_widens limits wide g change.Push).narrow_completes.some (λ rest h. refl)
    (assign_widens limits wide g).narrow_completes)))))))

-- an `if` comes first, in a text that may have the short forms
begins_if : Bool → List Token → Bool
begins_if short ts = short && begins (kind.Keyword keyword.If) ts

begins_if_of_first : (short : Bool) → IsOfFirst (begins_if short)
unfolding begins_if
begins_if_of_first short front t more other = ap (λ (b : Bool). short && b) (begins_of_first (kind.Keyword keyword.If) front t more other)

brace_no_if : (short : Bool) (rest : List Token) → begins_if short (empty_braces ++ rest) ≡ false
unfolding begins_if
brace_no_if true rest = refl
brace_no_if false rest = refl

braced_completes : (limits : Limits) (limit loops : ℕ) (Ends : List Token → Type 0)
    → Completes (statement_at limits (block_at limits limit) (other_at limits limit) limit loops) NoElse
    (a_name ∷ a_sign symbol.Assign ∷ a_number ∷ a_sign symbol.Semicolon ∷ [])
    → Completes (braced (statement_at limits (block_at limits limit) (other_at limits limit) limit loops)) Ends empty_braces
braced_completes limits limit loops Ends inside =
    then_completes _ (braces_complete (statement_shortens limits limit loops) inside brace_no_else) (λ rest h. tt)
    (λ _ ss. leaves_complete (joined ss) Ends)

both_complete : (limits : Limits) → HaveRoom limits → (limit loops : ℕ)
    → BlocksWhereRoom limits limit loops × OthersWhereRoom limits limit loops
unfolding block_at other_at begins_if
both_complete limits room zero loops = (tt, tt)
both_complete limits room (suc limit) loops =
    let blocks : (m : ℕ) → BlocksWhereRoom limits limit m = λ m. (both_complete limits room limit m).0 in
    let others : (m : ℕ) → OthersWhereRoom limits limit m = λ m. (both_complete limits room limit m).1 in
    let inside = statement_completes limits room limit loops blocks others in
    let choice = if_completes limits room limit loops (blocks loops) (others loops) in (
      braced_completes limits limit loops Always inside,
      choose_completes_by (begins_if limits.short_forms) (begins_if_of_first limits.short_forms)
          (then_completes_some _ choice (λ rest h. h) (λ _ x. leaves_complete (single_before x Done) NoElse))
          (λ rest h. brace_no_if limits.short_forms rest) (braced_completes limits limit loops NoElse inside),
    )

blocks_complete : (limits : Limits) → HaveRoom limits → (limit loops : ℕ) → BlocksWhereRoom limits limit loops
blocks_complete limits room limit loops = (both_complete limits room limit loops).0

others_complete : (limits : Limits) → HaveRoom limits → (limit loops : ℕ) → OthersWhereRoom limits limit loops
others_complete limits room limit loops = (both_complete limits room limit loops).1

-- ---- Blocks within greater limits

-- blocks widen where the limit leaves room for one
abbrev BlocksWiden : Limits → Limits → (narrow wide fewer more : ℕ) → Type 0
BlocksWiden n w zero wide fewer more = Unit {0}
BlocksWiden n w (suc narrow) wide fewer more = Widens (block_at n (suc narrow) fewer) (block_at w wide more) Always empty_braces

-- and what stands behind `else`
abbrev OthersWiden : Limits → Limits → (narrow wide fewer more : ℕ) → Type 0
OthersWiden n w zero wide fewer more = Unit {0}
OthersWiden n w (suc narrow) wide fewer more = Widens (other_at n (suc narrow) fewer) (other_at w wide more) NoElse empty_braces

-- whatever number of loops may lie in one another in them, and more to the wide reader
abbrev AllBlocksWiden : Limits → Limits → (narrow wide : ℕ) → Type 0
AllBlocksWiden n w narrow wide = (fewer more : ℕ) → fewer < more → BlocksWiden n w narrow wide fewer more

abbrev AllOthersWiden : Limits → Limits → (narrow wide : ℕ) → Type 0
AllOthersWiden n w narrow wide = (fewer more : ℕ) → fewer < more → OthersWiden n w narrow wide fewer more

if_widens : (n w : Limits) → AreWidened n w → (narrow wide fewer more : ℕ) → narrow < wide → BlocksWiden n w narrow wide fewer more
    → OthersWiden n w narrow wide fewer more → (ts : List Token)
    → WidensAt (if_at n (block_at n narrow fewer) (other_at n narrow fewer) narrow)
    (if_at w (block_at w wide more) (other_at w wide more) wide) ts
unfolding if_at else_at after offset_at choose within read_then operator_of
if_widens n w g narrow zero fewer more lt c o = absurd (omega (arith, lt))
if_widens n w g zero (suc wide) fewer more lt c o =
    deep_each _ _ (kind.Keyword keyword.If) refl refl
    (λ t ts e. rw e refl) (λ t e. rw (e, no_expression w.expression 0) refl) (λ t ts e. rw e refl) (λ t ts e. rw e refl)
if_widens n w g (suc narrow) (suc wide) fewer more lt c o =
    after_each (kind.Keyword keyword.If) _ _ (λ offset.
    (then_widens _ _ (expression_widens n w g) (λ rest h. refl) (λ _ e.
    then_widens _ _ c (λ rest h. tt) (λ _ b.
    choose_widens (kind.Keyword keyword.Else)
    (after_widens (kind.Keyword keyword.Else) _ _ (λ _.
    then_widens _ _ o (λ rest h. h) (λ _ other. leaves_widens (SingleIfElse offset e b other) NoElse)))
    (λ rest h. h)
    (leaves_widens (SingleIf offset e b) NoElse)))).each)

-- a name is no less than one token
no_name : name_at [] ≡ Err TooShort
unfolding name_at
no_name = refl

for_widens : (n w : Limits) → (narrow wide fewer more : ℕ) → narrow < wide → fewer < more → AllBlocksWiden n w narrow wide
    → (ts : List Token) → WidensAt (for_at (block_at n narrow) narrow fewer) (for_at (block_at w wide) wide more) ts
unfolding for_at after offset_at choose within read_then
for_widens n w narrow zero fewer more lt loops c = absurd (omega (arith, lt))
for_widens n w narrow (suc wide) fewer zero lt loops c = absurd (omega (arith, loops))
for_widens n w zero (suc wide) fewer (suc more) lt loops c =
    deep_each _ _ (kind.Keyword keyword.For) refl refl
    (λ t ts e. rw e refl) (λ t e. rw (e, no_name) refl) (λ t ts e. rw e refl) (λ t ts e. rw e refl)
for_widens n w (suc narrow) (suc wide) zero (suc more) lt loops c =
    deep_each _ _ (kind.Keyword keyword.For) refl refl
    (λ t ts e. rw e refl) (λ t e. rw (e, no_name) refl) (λ t ts e. rw e refl) (λ t ts e. rw e refl)
for_widens n w (suc narrow) (suc wide) (suc fewer) (suc more) lt loops c =
    after_each (kind.Keyword keyword.For) _ _ (λ offset.
    (then_widens _ _ name_widens (λ rest h. tt) (λ _ v.
    after_widens (kind.Keyword keyword.In) _ _ (λ _.
    then_widens _ _ name_widens (λ rest h. tt) (λ _ b.
    then_widens _ _ (c (suc fewer - 1) (suc more - 1) (omega (arith, loops))) (λ rest h. tt) (λ _ block.
    leaves_widens (SingleFor offset v b block) NoElse))))).each)

statement_widens : (n w : Limits) → AreWidened n w → (narrow wide fewer more : ℕ) → narrow < wide → fewer < more
    → AllBlocksWiden n w narrow wide → AllOthersWiden n w narrow wide
    → Widens (statement_at n (block_at n narrow) (other_at n narrow) narrow fewer)
    (statement_at w (block_at w wide) (other_at w wide) wide more) NoElse
    (a_name ∷ a_sign symbol.Assign ∷ a_number ∷ a_sign symbol.Semicolon ∷ [])
unfolding statement_at
statement_widens n w g narrow wide fewer more lt loops c o =
    let room : HaveRoom w = wide_room n w g.greater in
    record {
      narrow_completes = statement_completes n g.room narrow fewer (blocks_complete n g.room narrow) (others_complete n g.room narrow);
      wide_completes = statement_completes w room wide more (blocks_complete w room wide) (others_complete w room wide);
      each = λ ts.
          choose_at _ _ _ _ _ ts (begins_of_first (kind.Keyword keyword.Goto)) ((command_widens command.Goto).each ts)
          (choose_at _ _ _ _ _ ts (begins_of_first (kind.Keyword keyword.Pop)) ((command_widens command.Pop).each ts)
          (choose_at _ _ _ _ _ ts (begins_of_first (kind.Keyword keyword.Send)) ((send_widens n w g).each ts)
          (choose_at _ _ _ _ _ ts (begins_of_first (kind.Keyword keyword.If))
          (if_widens n w g narrow wide fewer more lt (c fewer more loops) (o fewer more loops) ts)
          (choose_at _ _ _ _ _ ts (begins_of_first (kind.Keyword keyword.For))
          (for_widens n w narrow wide fewer more lt loops c ts)
          (choose_at _ _ _ _ _ ts (begins_of_first (kind.Keyword keyword.Add)) ((change_widens n w g change.Add).each ts)
          (choose_at _ _ _ _ _ ts (begins_of_first (kind.Keyword keyword.Drop)) ((change_widens n w g change.Drop).each ts)
          (choose_at _ _ _ _ _ ts (begins_of_first (kind.Keyword keyword.Push)) ((change_widens n w g change.Push).each ts)
          ((assign_widens n w g).each ts))))))));
    }

-- an `if`, as the one statement of a block
abbrev chained : Reader Single → Reader Statements
chained one us = read_then (one us) (λ x. Ok (single_before x.0 Done, x.1))

-- an `if` in the place of a block, or a block
other_widens : (n w : Limits) → AreWidened n w → (narrow wide fewer more : ℕ) → narrow < wide → BlocksWiden n w narrow wide fewer more
    → OthersWiden n w narrow wide fewer more
    → ((ts : List Token) → WidensAt (block_at n (suc narrow) fewer) (block_at w (suc wide) more) ts)
    → OthersWiden n w (suc narrow) (suc wide) fewer more
unfolding block_at other_at begins_if
other_widens n w g narrow wide fewer more less c o block =
    let room : HaveRoom w = wide_room n w g.greater in
    record {
      narrow_completes = others_complete n g.room (suc narrow) fewer;
      wide_completes = others_complete w room (suc wide) more;
      each = λ ts.
          let ns = (if_completes n g.room narrow fewer (blocks_complete n g.room narrow fewer) (others_complete n g.room narrow fewer)).steady in
          let ws = (if_completes w room wide more (blocks_complete w room wide more) (others_complete w room wide more)).steady in
          let choice = then_at _ _ (λ _ x us. Ok (single_before x Done, us)) (λ _ x us. Ok (single_before x Done, us)) ts (ns ts) (ws ts)
          (λ _ x. inr (single_before x Done, refl)) (if_widens n w g narrow wide fewer more less c o ts)
          (λ x rest e. leaves_at _ _ rest (single_before x Done) refl refl) in
          let one : Reader Statements = chained (if_at w (block_at w wide more) (other_at w wide more) wide) in
          subst (λ (short : Bool). WidensAt (other_at n (suc narrow) fewer) (either (begins_if short) one (block_at w (suc wide) more)) ts)
          g.same
          (choose_at (begins_if n.short_forms) _ _ _ _ ts (begins_if_of_first n.short_forms) choice (block ts));
    }

both_widen : (n w : Limits) → AreWidened n w → (narrow wide : ℕ) → narrow < wide → (fewer more : ℕ) → fewer < more
    → BlocksWiden n w narrow wide fewer more × OthersWiden n w narrow wide fewer more
unfolding block_at
both_widen n w g zero wide lt fewer more loops = (tt, tt)
both_widen n w g (suc narrow) zero lt fewer more loops = absurd (omega (arith, lt))
both_widen n w g (suc narrow) (suc wide) lt fewer more loops =
    let less : narrow < wide = omega (arith, lt) in
    let blocks : AllBlocksWiden n w narrow wide = λ a b h. (both_widen n w g narrow wide less a b h).0 in
    let others : AllOthersWiden n w narrow wide = λ a b h. (both_widen n w g narrow wide less a b h).1 in
    let statement = statement_widens n w g narrow wide fewer more less loops blocks others in
    let block : BlocksWiden n w (suc narrow) (suc wide) fewer more =
    then_widens _ _ (braces_widens (statement_shortens n narrow fewer) (statement_shortens w wide more) statement brace_no_else)
    (λ rest h. tt) (λ _ ss. leaves_widens (joined ss) Always) in
    (block, other_widens n w g narrow wide fewer more less (blocks fewer more loops) (others fewer more loops) block.each)

pub block_widens : (n w : Limits) → AreWidened n w → (narrow wide fewer more : ℕ) → 0 < narrow → narrow < wide → fewer < more
    → Widens (block_at n narrow fewer) (block_at w wide more) Always empty_braces
block_widens n w g zero wide fewer more some lt loops = absurd (omega (arith, some))
block_widens n w g (suc narrow) wide fewer more some lt loops = (both_widen n w g (suc narrow) wide lt fewer more loops).0
