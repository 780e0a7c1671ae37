-- What is read as statements and blocks is spelled so, and what is spelled so is read.
use Rattle.std.proofs.Common.{◌≡◌, ℕ, zero, suc, ◌-◌, ◌<◌, ◌≤◌, Bool, true, false, List, [], ◌∷◌, ◌++◌, length, map, Option, None, Some}
use Rattle.std.proofs.Common.{Ok, Err, refl, sym, ap, subst, ◌∙◌, ◌⊎◌, inl, inr, ◌&&◌, arith}
use Rattle.std.specs.List.{flat_map, AllByRecursion}
use Rattle.dv_bag.specs.declared.discipline.Change.{Change}
use Rattle.dv_bag.specs.declared.discipline.Change.TheVariants as change
use Rattle.dv_lex.specs.declared.token.Token.{Token}
use Rattle.dv_lex.specs.declared.token.TokenKind.{TokenKind}
use Rattle.dv_lex.specs.declared.token.TokenKind.TheVariants as kind
use Rattle.dv_lex.specs.declared.token.Keyword.TheVariants as keyword
use Rattle.dv_lex.specs.declared.token.Symbol.TheVariants as symbol
use Rattle.dv_source.specs.Texts.{TextStatement, TextIf, TextElse, TextStatements, Assign, Does, Send, If, For, Changes, Choice, Nothing}
use Rattle.dv_source.specs.Texts.{Else, ElseIf, Done, Next, if_before, statement_for, choice_for, other_for, statements_for}
use Rattle.dv_source.specs.Grammar.{statement_spelling, choice_spelling, else_spelling, statements_spelling, HasForms, IsChoice}
use Rattle.dv_source.specs.Grammar.{HaveForms}
use Rattle.dv_syntax.specs.declared.tree.Name.{Name}
use Rattle.dv_syntax.specs.declared.tree.Command.{Command}
use Rattle.dv_syntax.specs.declared.tree.Command.TheVariants as command
use Rattle.dv_syntax.specs.Trees.{Expression, Statements}
use Rattle.dv_syntax.specs.Trees as tree
use Rattle.dv_syntax.specs.Grammar.{Spelled, name, sign, word, braces, Limits, IsExpression, expression_spelling}
use Rattle.dv_syntax.specs.Grammar.{change_preposition, block_depth, loop_depth, AreStatements}
use Rattle.dv_parser.specs.Reading.{TooShort, read_then, after, name_at, offset_at, within, same_kind, begins, Reader, becoming, choose}
use Rattle.dv_parser.specs.Reading.{keyword_operator, operator_of, expression_at, braces_at, many_at, Single, SingleAssign}
use Rattle.dv_parser.specs.Reading.{SingleCommand, SingleSend, SingleIf, SingleIfElse, SingleFor, SingleChange, single_before, joined}
use Rattle.dv_parser.specs.Reading.{assign_at, command_at, send_at, change_at, else_at, if_at, for_at, statement_at, block_at, other_at}
use Rattle.dv_parser.specs.Reading.{begins_chained}
use Rattle.dv_parser.proofs.Tokens.{then_ok, here, past, chosen, ok_is, err_ok, same_kind-true, Spans, nothing, span_end}
use Rattle.dv_parser.proofs.Tokens.{then_spans, split, first, first_name, after_spans, after_spans_at}
use Rattle.dv_parser.proofs.Tokens.{name_spans}
use Rattle.dv_parser.proofs.Readers.{IsReaderFor, IsListed, braces_reader_for, shortens_for, Shortens, Always, later}
use Rattle.dv_parser.proofs.Expressions.{within_ok, within_room, within_positive, closed_front, expression_reader}

-- ---- Single statements

-- what stands behind the value of a change
abbrev collection_behind : Change → Name → List Spelled
collection_behind c x = word (change_preposition c) ∷ name x ∷ sign symbol.Semicolon ∷ []

-- what a statement of a text is read as
abbrev single_if : ℕ → Expression → Statements → Option Statements → Single
single_if offset e block None = SingleIf offset e block
single_if offset e block (Some other) = SingleIfElse offset e block other

abbrev pub choice_as : TextIf → Single
choice_as (Choice offset e block otherwise) = single_if offset e (statements_for block) (other_for otherwise)

abbrev pub single_as : TextStatement → Single
single_as (Assign n e) = SingleAssign n e
single_as (Does c offset n) = SingleCommand c offset n
single_as (Send offset p e) = SingleSend offset p e
single_as (If c) = choice_as c
single_as (For offset v b block) = SingleFor offset v b (statements_for block)
single_as (Changes c offset e x) = SingleChange c offset e x

if_as : (offset : ℕ) (e : Expression) (block : Statements) (other : Option Statements) (rest : Statements)
    → if_before offset e block other rest ≡ single_before (single_if offset e block other) rest
if_as offset e block None rest = refl
if_as offset e block (Some other) rest = refl

choice_as-before : (c : TextIf) (rest : Statements) → choice_for c rest ≡ single_before (choice_as c) rest
choice_as-before (Choice offset e block otherwise) rest = if_as offset e (statements_for block) (other_for otherwise) rest

single_as-before : (s : TextStatement) (rest : Statements) → statement_for s rest ≡ single_before (single_as s) rest
single_as-before (Assign n e) rest = refl
single_as-before (Does c offset n) rest = refl
single_as-before (Send offset p e) rest = refl
single_as-before (If c) rest = choice_as-before c rest
single_as-before (For offset v b block) rest = refl
single_as-before (Changes c offset e x) rest = refl

-- blocks lie in one another no deeper than the limit, and at most so many loops
abbrev IsWithin : Limits → (limit loops : ℕ) → Statements → Type 0
IsWithin limits limit loops s = AreStatements limits s × (block_depth s ≤ limit) × (loop_depth s ≤ loops)

abbrev pub IsBlock : Limits → (limit loops : ℕ) → TextStatements → Type 0
IsBlock limits limit loops s = IsWithin limits limit loops (statements_for s) × HaveForms limits.short_forms s

-- the same of one statement, in whose blocks there are as many levels of blocks as the limit
abbrev pub IsSingle : Limits → (limit loops : ℕ) → TextStatement → Type 0
IsSingle limits limit loops s = IsWithin limits (suc limit) loops (statement_for s tree.Done) × HasForms limits.short_forms s

abbrev IsIf : Limits → (limit loops : ℕ) → TextIf → Type 0
IsIf limits limit loops c = IsWithin limits (suc limit) loops (choice_for c tree.Done) × IsChoice limits.short_forms c

abbrev pub block_spelling : TextStatements → List Spelled
block_spelling s = braces (statements_spelling s)

abbrev pub BlockReader : Limits → (limit loops : ℕ) → Reader Statements → Type 0
BlockReader limits limit loops block = IsReaderFor block statements_for block_spelling (IsBlock limits limit loops) Always

-- no `else` follows
abbrev pub NoElse : List Token → Type 0
NoElse rest = begins (kind.Keyword keyword.Else) rest ≡ false

-- what stands behind `else`: a block, or an `if`, as its one statement
abbrev Behind : Type 0
Behind = TextStatements ⊎ TextIf

abbrev behind_as : Behind → Statements
behind_as (inl block) = statements_for block
behind_as (inr c) = choice_for c tree.Done

abbrev behind_spelling : Behind → List Spelled
behind_spelling (inl block) = block_spelling block
behind_spelling (inr c) = choice_spelling c

abbrev IsBehind : Limits → (limit loops : ℕ) → Behind → Type 0
IsBehind limits limit loops (inl block) = IsBlock limits limit loops block
IsBehind limits limit loops (inr c) =
    (limits.short_forms ≡ true) × IsWithin limits limit loops (choice_for c tree.Done) × IsChoice limits.short_forms c

abbrev pub OtherReader : Limits → (limit loops : ℕ) → Reader Statements → Type 0
OtherReader limits limit loops other = IsReaderFor other behind_as behind_spelling (IsBehind limits limit loops) NoElse

abbrev otherwise_of : Behind → TextElse
otherwise_of (inl block) = Else block
otherwise_of (inr c) = ElseIf c

-- blocks, by how many loops may lie in one another in them
abbrev Blocks : Type 0
Blocks = ℕ → Reader Statements

abbrev BlockReaders : Limits → ℕ → Blocks → Type 0
BlockReaders limits limit blocks = (loops : ℕ) → BlockReader limits limit loops (blocks loops)

abbrev OtherReaders : Limits → ℕ → Blocks → Type 0
OtherReaders limits limit others = (loops : ℕ) → OtherReader limits limit loops (others loops)

-- what is known of a statement that was read
abbrev Reads : Limits → (limit loops : ℕ) → List Token → Single × List Token → Type 0
Reads limits limit loops ts x =
    (s : TextStatement) × (single_as s ≡ x.0) × Spans (statement_spelling s) ts x.1 × IsSingle limits limit loops s

abbrev ReadsIf : Limits → (limit loops : ℕ) → List Token → Single × List Token → Type 0
ReadsIf limits limit loops ts x = (c : TextIf) × (choice_as c ≡ x.0) × Spans (choice_spelling c) ts x.1 × IsIf limits limit loops c

assign_sound : (limits : Limits) (limit loops : ℕ) (ts : List Token) (x : Single × List Token)
    → assign_at limits.expression ts ≡ Ok x → Reads limits limit loops ts x
unfolding assign_at
assign_sound limits limit loops ts x e =
    let a = then_ok _ _ _ e in
    let b = then_ok _ _ _ a.2 in
    let c = then_ok _ _ _ b.2 in
    let d = then_ok _ _ _ c.2 in
    let s = (expression_reader limits).sound b.0 c.0 c.1 in
    subst (Reads limits limit loops ts) (ok_is _ _ d.2) (
      Assign a.0.0 c.0.0,
      refl,
      name_spans a.1 (after_spans b.1 (then_spans s.0 (after_spans d.1 nothing))),
      (((s.1, tt), omega arith, omega arith), tt),
    )

command_sound : (limits : Limits) (limit loops : ℕ) (c : Command) (ts : List Token) (x : Single × List Token) → command_at c ts ≡ Ok x
    → Reads limits limit loops ts x
unfolding command_at
command_sound limits limit loops c ts x e =
    let a = then_ok _ _ _ e in
    let b = then_ok _ _ _ a.2 in
    let d = then_ok _ _ _ b.2 in
    subst (Reads limits limit loops ts) (ok_is _ _ d.2) (
      Does c (offset_at ts) b.0.0,
      refl,
      after_spans_at a.1 (name_spans b.1 (after_spans d.1 nothing)),
      ((tt, omega arith, omega arith), tt),
    )

send_sound : (limits : Limits) (limit loops : ℕ) (ts : List Token) (x : Single × List Token) → send_at limits.expression ts ≡ Ok x
    → Reads limits limit loops ts x
unfolding send_at
send_sound limits limit loops ts x e =
    let a = then_ok _ _ _ e in
    let b = then_ok _ _ _ a.2 in
    let c = then_ok _ _ _ b.2 in
    let d = then_ok _ _ _ c.2 in
    let s = (expression_reader limits).sound b.0.1 c.0 c.1 in
    subst (Reads limits limit loops ts) (ok_is _ _ d.2) (
      Send (offset_at ts) b.0.0 c.0.0,
      refl,
      after_spans_at a.1 (name_spans b.1 (then_spans s.0 (after_spans d.1 nothing))),
      (((s.1, tt), omega arith, omega arith), tt),
    )

change_sound : (limits : Limits) (limit loops : ℕ) (c : Change) (ts : List Token) (x : Single × List Token)
    → change_at limits.expression c ts ≡ Ok x → Reads limits limit loops ts x
unfolding change_at
change_sound limits limit loops c ts x e =
    let a = then_ok _ _ _ e in
    let b = then_ok _ _ _ a.2 in
    let d = then_ok _ _ _ b.2 in
    let f = then_ok _ _ _ d.2 in
    let g = then_ok _ _ _ f.2 in
    let s = (expression_reader limits).sound a.0 b.0 b.1 in
    subst (Reads limits limit loops ts) (ok_is _ _ g.2) (
      Changes c (offset_at ts) b.0.0 f.0.0,
      refl,
      after_spans_at a.1 (then_spans s.0 (after_spans d.1 (name_spans f.1 (after_spans g.1 nothing)))),
      (((s.1, tt), omega arith, omega arith), tt),
    )

-- ---- An `if`

-- what stands behind `else`, as what it is read as
behind_other : (b : Behind) → other_for (otherwise_of b) ≡ Some (behind_as b)
behind_other (inl block) = refl
behind_other (inr c) = refl

behind_spells : (b : Behind) → else_spelling (otherwise_of b) ≡ word keyword.Else ∷ behind_spelling b
behind_spells (inl block) = refl
behind_spells (inr c) = refl

if_else_as : (offset : ℕ) (e : Expression) (w : TextStatements) (b : Behind) (block other : Statements) → statements_for w ≡ block
    → behind_as b ≡ other → choice_as (Choice offset e w (otherwise_of b)) ≡ SingleIfElse offset e block other
if_else_as offset e w (inl v) block other p q = rw (p, q) refl
if_else_as offset e w (inr c) block other p q = rw (p, q) refl

if_is : (limits : Limits) (limit loops offset : ℕ) (e : Expression) (w : TextStatements) → IsExpression limits e
    → IsBlock limits limit loops w → IsIf limits limit loops (Choice offset e w Nothing)
if_is limits limit loops offset e w x b = (((x, b.0.0, tt), omega (arith, b.0.1), omega (arith, b.0.2)), (b.1, tt))

if_else_is : (limits : Limits) (limit loops offset : ℕ) (e : Expression) (w : TextStatements) (b : Behind) → IsExpression limits e
    → IsBlock limits limit loops w → IsBehind limits limit loops b → IsIf limits limit loops (Choice offset e w (otherwise_of b))
if_else_is limits limit loops offset e w (inl v) x b o =
    (((x, b.0.0, o.0.0, tt), omega (arith, b.0.1, o.0.1), omega (arith, b.0.2, o.0.2)), (b.1, o.1))
if_else_is limits limit loops offset e w (inr c) x b o =
    (((x, b.0.0, o.1.0, tt), omega (arith, b.0.1, o.1.1), omega (arith, b.0.2, o.1.2)), (b.1, (o.0, o.2)))

if_sound : (limits : Limits) (limit loops : ℕ) (block other : Reader Statements)
    → BlockReader limits limit loops block → OtherReader limits limit loops other → (ts : List Token) (x : Single × List Token)
    → if_at limits block other limit ts ≡ Ok x → ReadsIf limits limit loops ts x
unfolding if_at else_at
if_sound limits limit loops block other r q ts x e =
    let a = then_ok _ _ _ e in
    let b = then_ok _ _ _ a.2 in
    let c = then_ok _ _ _ b.2 in
    let s = (expression_reader limits).sound a.0 b.0 (within_ok _ _ _ _ b.1) in
    let t = r.sound b.0.1 c.0 c.1 in
    elim (chosen _ _ _ _ c.2) [
      | inl p ↦
          let d = then_ok _ _ _ p.1 in
          let o = then_ok _ _ _ d.2 in
          let u = q.sound d.0 o.0 o.1 in
          let tail : Spans (else_spelling (otherwise_of u.0)) c.0.1 o.0.1 = rw (behind_spells u.0) (after_spans d.1 u.2) in
          subst (ReadsIf limits limit loops ts) (ok_is _ _ o.2) (
            Choice (offset_at ts) b.0.0 t.0 (otherwise_of u.0),
            if_else_as (offset_at ts) b.0.0 t.0 u.0 c.0.0 o.0.0 t.1 u.1,
            after_spans_at a.1 (then_spans s.0 (then_spans t.2 tail)),
            if_else_is limits limit loops (offset_at ts) b.0.0 t.0 u.0 s.1 t.3 u.3,
          )
      | inr p ↦ subst (ReadsIf limits limit loops ts) (ok_is _ _ p.1) (
        Choice (offset_at ts) b.0.0 t.0 Nothing,
        ap (SingleIf (offset_at ts) b.0.0) t.1,
        after_spans_at a.1 (then_spans s.0 (then_spans t.2 nothing)),
        if_is limits limit loops (offset_at ts) b.0.0 t.0 s.1 t.3,
      )
    ]

positive_block : (s : Statements) → 0 < block_depth s
positive_block tree.Done = omega arith
positive_block (tree.Assign n e rest) = positive_block rest
positive_block (tree.Does c offset n rest) = positive_block rest
positive_block (tree.Send offset p e rest) = positive_block rest
positive_block (tree.If offset e b rest) = omega arith
positive_block (tree.IfElse offset e b o rest) = omega arith
positive_block (tree.For offset v b block rest) = omega arith
positive_block (tree.Changes c offset e x rest) = positive_block rest

if_alone_complete : (limits : Limits) (limit loops : ℕ) (block other : Reader Statements)
    → BlockReader limits limit loops block → (offset : ℕ) (e : Expression) (w : TextStatements) (ts rest : List Token)
    → IsExpression limits e → IsBlock limits limit loops w → Spans (choice_spelling (Choice offset e w Nothing)) ts rest → NoElse rest
    → if_at limits block other limit ts ≡ Ok (SingleIf offset e (statements_for w), rest)
unfolding if_at read_then operator_of
if_alone_complete limits limit loops block other r offset e w ts rest formed is h ends =
    let f = first h in
    let s = split (expression_spelling e) (block_spelling w ++ []) f.spelled in
    let condition = (expression_reader limits).complete e f.behind s.0 formed s.1 (closed_front refl s.2) in
    let t = split (block_spelling w) [] s.2 in
    let c = r.complete w s.0 t.0 is t.1 tt in
    let room = within_positive limit (offset_at ts) (expression_at limits.expression 0 f.behind)
    (omega (arith, is.0.1, positive_block (statements_for w))) in
    rw (f.after, room, condition, c, span_end t.2) (past _ ends (rw f.offset refl))

if_else_complete : (limits : Limits) (limit loops : ℕ) (block other : Reader Statements)
    → BlockReader limits limit loops block → OtherReader limits limit loops other
    → (offset : ℕ) (e : Expression) (w : TextStatements) (b : Behind) (ts rest : List Token) → IsExpression limits e
    → IsBlock limits limit loops w → IsBehind limits limit loops b
    → Spans (choice_spelling (Choice offset e w (otherwise_of b))) ts rest → NoElse rest
    → if_at limits block other limit ts ≡ Ok (SingleIfElse offset e (statements_for w) (behind_as b), rest)
unfolding if_at else_at read_then operator_of
if_else_complete limits limit loops block other r q offset e w b ts rest formed is also h ends =
    let f = first h in
    let s = split (expression_spelling e) (block_spelling w ++ else_spelling (otherwise_of b)) f.spelled in
    let condition = (expression_reader limits).complete e f.behind s.0 formed s.1 (closed_front refl s.2) in
    let t = split (block_spelling w) (else_spelling (otherwise_of b)) s.2 in
    let c = r.complete w s.0 t.0 is t.1 tt in
    let tail : Spans (word keyword.Else ∷ behind_spelling b) t.0 rest = rw (← behind_spells b) t.2 in
    let v = first tail in
    let d = q.complete b v.behind rest also v.spelled ends in
    let room = within_positive limit (offset_at ts) (expression_at limits.expression 0 f.behind)
    (omega (arith, is.0.1, positive_block (statements_for w))) in
    rw (f.after, room, condition, c) (here _ (v.begins _) (rw (v.after, d, f.offset) refl))

if_complete : (limits : Limits) (limit loops : ℕ) (block other : Reader Statements)
    → BlockReader limits limit loops block → OtherReader limits limit loops other
    → (c : TextIf) (ts rest : List Token) → IsIf limits limit loops c → Spans (choice_spelling c) ts rest → NoElse rest
    → if_at limits block other limit ts ≡ Ok (choice_as c, rest)
if_complete limits limit loops block other r q (Choice offset e w Nothing) ts rest is h ends =
    let b : IsBlock limits limit loops w = ((is.0.0.1, omega (arith, is.0.1), omega (arith, is.0.2)), is.1.0) in
    if_alone_complete limits limit loops block other r offset e w ts rest is.0.0.0 b h ends
if_complete limits limit loops block other r q (Choice offset e w (Else v)) ts rest is h ends =
    let b : IsBlock limits limit loops w = ((is.0.0.1, omega (arith, is.0.1), omega (arith, is.0.2)), is.1.0) in
    let o : IsBlock limits limit loops v = ((is.0.0.2, omega (arith, is.0.1), omega (arith, is.0.2)), is.1.1) in
    if_else_complete limits limit loops block other r q offset e w (inl v) ts rest is.0.0.0 b o h ends
if_complete limits limit loops block other r q (Choice offset e w (ElseIf c)) ts rest is h ends =
    let b : IsBlock limits limit loops w = ((is.0.0.1, omega (arith, is.0.1), omega (arith, is.0.2)), is.1.0) in
    let o : IsBehind limits limit loops (inr c) =
    (is.1.1.0, (is.0.0.2, omega (arith, is.0.1), omega (arith, is.0.2)), is.1.1.1) in
    if_else_complete limits limit loops block other r q offset e w (inr c) ts rest is.0.0.0 b o h ends

if_reader : (limits : Limits) (limit loops : ℕ) (block other : Reader Statements)
    → BlockReader limits limit loops block → OtherReader limits limit loops other
    → IsReaderFor (if_at limits block other limit) choice_as choice_spelling (IsIf limits limit loops) NoElse
if_reader limits limit loops block other r q = record {
  sound = if_sound limits limit loops block other r q;
  complete = if_complete limits limit loops block other r q;
}

-- ---- All statements

for_sound : (limits : Limits) (limit loops : ℕ) (blocks : Blocks) → BlockReaders limits limit blocks
    → (ts : List Token) (x : Single × List Token)
    → for_at blocks limit loops ts ≡ Ok x → Reads limits limit loops ts x
unfolding for_at
for_sound limits limit loops blocks r ts x e =
    let a = then_ok _ _ _ e in
    let b = then_ok _ _ _ a.2 in
    let c = then_ok _ _ _ b.2 in
    let d = then_ok _ _ _ c.2 in
    let f = then_ok _ _ _ d.2 in
    let room = within_ok _ _ _ _ b.1 in
    let some = within_room _ _ _ _ room in
    let s = (r (loops - 1)).sound d.0.1 f.0 f.1 in
    let y : Single × List Token = (SingleFor (offset_at ts) b.0.0 d.0.0 f.0.0, f.0.1) in
    let given : SingleFor (offset_at ts) b.0.0 d.0.0 (statements_for s.0) ≡ y.0 =
    ap (SingleFor (offset_at ts) b.0.0 d.0.0) {x = statements_for s.0} {y = f.0.0} s.1 in
    subst (Reads limits limit loops ts) {x = y} (ok_is y x f.2) (
      For (offset_at ts) b.0.0 d.0.0 s.0,
      given,
      after_spans_at a.1 (name_spans (within_ok _ _ _ _ room) (after_spans c.1 (name_spans d.1 s.2))),
      (((s.3.0.0, tt), omega (arith, s.3.0.1), omega (arith, some, s.3.0.2)), s.3.1),
    )

statement_sound : (limits : Limits) (limit loops : ℕ) (blocks others : Blocks) → BlockReaders limits limit blocks
    → OtherReaders limits limit others → (ts : List Token) (x : Single × List Token)
    → statement_at limits blocks others limit loops ts ≡ Ok x → Reads limits limit loops ts x
unfolding statement_at
statement_sound limits limit loops blocks others r q ts x e =
    elim (chosen _ _ _ _ e) [
      | inl a ↦ command_sound limits limit loops command.Goto ts x a.1
      | inr a ↦ elim (chosen _ _ _ _ a.1) [
        | inl p ↦ command_sound limits limit loops command.Pop ts x p.1
        | inr p ↦ elim (chosen _ _ _ _ p.1) [
          | inl k ↦ send_sound limits limit loops ts x k.1
          | inr k ↦ elim (chosen _ _ _ _ k.1) [
            | inl w ↦
                let s = if_sound limits limit loops (blocks loops) (others loops) (r loops) (q loops) ts x w.1 in
                (If s.0, s.1, s.2, s.3)
            | inr w ↦ elim (chosen _ _ _ _ w.1) [
              | inl u ↦ for_sound limits limit loops blocks r ts x u.1
              | inr u ↦ elim (chosen _ _ _ _ u.1) [
                | inl v ↦ change_sound limits limit loops change.Add ts x v.1
                | inr v ↦ elim (chosen _ _ _ _ v.1) [
                  | inl z ↦ change_sound limits limit loops change.Drop ts x z.1
                  | inr z ↦ elim (chosen _ _ _ _ z.1) [
                    | inl y ↦ change_sound limits limit loops change.Push ts x y.1
                    | inr y ↦ assign_sound limits limit loops ts x y.1
                  ]
                ]
              ]
            ]
          ]
        ]
      ]
    ]

abbrev pub semicolon : List Spelled
semicolon = sign symbol.Semicolon ∷ []

assign_complete : (limits : Limits) (n : Name) (e : Expression) (ts rest : List Token) → IsExpression limits e
    → Spans (statement_spelling (Assign n e)) ts rest → assign_at limits.expression ts ≡ Ok (SingleAssign n e, rest)
unfolding assign_at read_then operator_of
assign_complete limits n e ts rest is h =
    let v = first_name n h in
    let f = first v.spelled in
    let s = split (expression_spelling e) semicolon f.spelled in
    let value = (expression_reader limits).complete e f.behind s.0 is s.1 (closed_front refl s.2) in
    let c = first s.2 in
    rw (v.read, f.after, value, c.after, span_end c.spelled) refl

command_complete : (c : Command) (offset : ℕ) (n : Name) (ts rest : List Token) → Spans (statement_spelling (Does c offset n)) ts rest
    → command_at c ts ≡ Ok (SingleCommand c offset n, rest)
unfolding command_at read_then
command_complete c offset n ts rest h =
    let f = first h in
    let m = first_name n f.spelled in
    let d = first m.spelled in
    rw (f.after, m.read, d.after, f.offset, span_end d.spelled) refl

send_complete : (limits : Limits) (offset : ℕ) (p : Name) (e : Expression) (ts rest : List Token) → IsExpression limits e
    → Spans (statement_spelling (Send offset p e)) ts rest → send_at limits.expression ts ≡ Ok (SingleSend offset p e, rest)
unfolding send_at read_then operator_of
send_complete limits offset p e ts rest is h =
    let f = first h in
    let n = first_name p f.spelled in
    let s = split (expression_spelling e) semicolon n.spelled in
    let value = (expression_reader limits).complete e n.behind s.0 is s.1 (closed_front refl s.2) in
    let c = first s.2 in
    rw (f.after, n.read, value, c.after, f.offset, span_end c.spelled) refl

for_complete : (limits : Limits) (limit loops : ℕ) (blocks : Blocks) → BlockReaders limits limit blocks
    → (offset : ℕ) (v b : Name) (block : TextStatements) (ts rest : List Token)
    → IsSingle limits limit loops (For offset v b block) → Spans (statement_spelling (For offset v b block)) ts rest
    → for_at blocks limit loops ts ≡ Ok (SingleFor offset v b (statements_for block), rest)
unfolding for_at read_then
for_complete limits limit loops blocks r offset v b block ts rest is h =
    let f = first h in
    let n = first_name v f.spelled in
    let w = first n.spelled in
    let m = first_name b w.spelled in
    let inside : IsBlock limits limit (loops - 1) block = ((is.0.0.0, omega (arith, is.0.1), omega (arith, is.0.2)), is.1) in
    let c = (r (loops - 1)).complete block m.behind rest inside m.spelled tt in
    let inner = within_positive loops (offset_at ts) (name_at f.behind) (omega (arith, is.0.2)) in
    let some : 0 < limit = omega (arith, is.0.1, positive_block (statements_for block)) in
    let room = within_positive limit (offset_at ts) (within loops (offset_at ts) (name_at f.behind)) some in
    rw (f.after, room, inner, n.read, w.after, m.read, c, f.offset) refl

-- no operator stands before the collection of a change
pub no_operator : (c : Change) → keyword_operator (change_preposition c) ≡ None
no_operator change.Add = refl
no_operator change.Drop = refl
no_operator change.Push = refl

change_complete : (limits : Limits) (c : Change) (offset : ℕ) (e : Expression) (x : Name) (ts rest : List Token) → IsExpression limits e
    → Spans (statement_spelling (Changes c offset e x)) ts rest → change_at limits.expression c ts ≡ Ok (SingleChange c offset e x, rest)
unfolding change_at read_then operator_of
change_complete limits c offset e x ts rest is h =
    let f = first h in
    let s = split (expression_spelling e) (collection_behind c x) f.spelled in
    let value = (expression_reader limits).complete e f.behind s.0 is s.1 (closed_front (no_operator c) s.2) in
    let w = first s.2 in
    let n = first_name x w.spelled in
    let d = first n.spelled in
    rw (f.after, value, w.after, n.read, d.after, f.offset, span_end d.spelled) refl

statement_complete : (limits : Limits) (limit loops : ℕ) (blocks others : Blocks) → BlockReaders limits limit blocks
    → OtherReaders limits limit others → (x : TextStatement) (ts rest : List Token)
    → IsSingle limits limit loops x → Spans (statement_spelling x) ts rest → NoElse rest
    → statement_at limits blocks others limit loops ts ≡ Ok (single_as x, rest)
unfolding statement_at
statement_complete limits limit loops blocks others r q (Assign n e) ts rest is h ends =
    let b = (first h).begins in
    past _ (b _) (past _ (b _) (past _ (b _) (past _ (b _) (past _ (b _) (past _ (b _) (past _ (b _) (past _ (b _)
    (assign_complete limits n e ts rest is.0.0.0 h))))))))
statement_complete limits limit loops blocks others r q (Does command.Goto offset n) ts rest is h ends =
    here _ ((first h).begins _) (command_complete command.Goto offset n ts rest h)
statement_complete limits limit loops blocks others r q (Does command.Pop offset n) ts rest is h ends =
    let b = (first h).begins in
    past _ (b _) (here _ (b _) (command_complete command.Pop offset n ts rest h))
statement_complete limits limit loops blocks others r q (Send offset p e) ts rest is h ends =
    let b = (first h).begins in
    past _ (b _) (past _ (b _) (here _ (b _) (send_complete limits offset p e ts rest is.0.0.0 h)))
statement_complete limits limit loops blocks others r q (If (Choice offset e block otherwise)) ts rest is h ends =
    let b = (first h).begins in
    past _ (b _) (past _ (b _) (past _ (b _) (here _ (b _)
    (if_complete limits limit loops (blocks loops) (others loops) (r loops) (q loops) (Choice offset e block otherwise) ts rest is h ends))))
statement_complete limits limit loops blocks others r q (For offset v bag block) ts rest is h ends =
    let b = (first h).begins in
    past _ (b _) (past _ (b _) (past _ (b _) (past _ (b _) (here _ (b _)
    (for_complete limits limit loops blocks r offset v bag block ts rest is h)))))
statement_complete limits limit loops blocks others r q (Changes change.Add offset e x) ts rest is h ends =
    let b = (first h).begins in
    past _ (b _) (past _ (b _) (past _ (b _) (past _ (b _) (past _ (b _) (here _ (b _)
    (change_complete limits change.Add offset e x ts rest is.0.0.0 h))))))
statement_complete limits limit loops blocks others r q (Changes change.Drop offset e x) ts rest is h ends =
    let b = (first h).begins in
    past _ (b _) (past _ (b _) (past _ (b _) (past _ (b _) (past _ (b _) (past _ (b _) (here _ (b _)
    (change_complete limits change.Drop offset e x ts rest is.0.0.0 h)))))))
statement_complete limits limit loops blocks others r q (Changes change.Push offset e x) ts rest is h ends =
    let b = (first h).begins in
    past _ (b _) (past _ (b _) (past _ (b _) (past _ (b _) (past _ (b _) (past _ (b _) (past _ (b _) (here _ (b _)
    (change_complete limits change.Push offset e x ts rest is.0.0.0 h))))))))

pub statement_reader : (limits : Limits) (limit loops : ℕ) (blocks others : Blocks) → BlockReaders limits limit blocks
    → OtherReaders limits limit others
    → IsReaderFor (statement_at limits blocks others limit loops) single_as statement_spelling (IsSingle limits limit loops) NoElse
statement_reader limits limit loops blocks others r q = record {
  sound = statement_sound limits limit loops blocks others r q;
  complete = statement_complete limits limit loops blocks others r q;
}

statement_opens : (x : TextStatement) (ts rest : List Token) → Spans (statement_spelling x) ts rest
    → (begins (kind.Symbol symbol.CloseBrace) ts ≡ false) × (begins (kind.Keyword keyword.Else) ts ≡ false)
statement_opens (Assign n e) ts rest h = let f = first h in (f.begins _, f.begins _)
statement_opens (Does command.Goto offset n) ts rest h = let f = first h in (f.begins _, f.begins _)
statement_opens (Does command.Pop offset n) ts rest h = let f = first h in (f.begins _, f.begins _)
statement_opens (Send offset p e) ts rest h = let f = first h in (f.begins _, f.begins _)
statement_opens (If (Choice offset e block otherwise)) ts rest h = let f = first h in (f.begins _, f.begins _)
statement_opens (For offset v b block) ts rest h = let f = first h in (f.begins _, f.begins _)
statement_opens (Changes change.Add offset e x) ts rest h = let f = first h in (f.begins _, f.begins _)
statement_opens (Changes change.Drop offset e x) ts rest h = let f = first h in (f.begins _, f.begins _)
statement_opens (Changes change.Push offset e x) ts rest h = let f = first h in (f.begins _, f.begins _)

statement_some : (x : TextStatement) → 0 < length (statement_spelling x)
statement_some (Assign n e) = omega arith
statement_some (Does c offset n) = omega arith
statement_some (Send offset p e) = omega arith
statement_some (If (Choice offset e block otherwise)) = omega arith
statement_some (For offset v b block) = omega arith
statement_some (Changes c offset e x) = omega arith

-- ---- Statements as a list of single ones

listed : List TextStatement → TextStatements
listed [] = Done
listed (s ∷ ss) = Next s (listed ss)

listed-spelling : (ss : List TextStatement) → statements_spelling (listed ss) ≡ flat_map statement_spelling ss
unfolding listed
listed-spelling [] = refl
listed-spelling (s ∷ ss) = ap (λ (t : List Spelled). statement_spelling s ++ t) (listed-spelling ss)

listed-for : (ss : List TextStatement) → statements_for (listed ss) ≡ joined (map single_as ss)
unfolding listed
listed-for [] = refl
listed-for (s ∷ ss) = single_as-before s (statements_for (listed ss)) ∙ ap (single_before (single_as s)) (listed-for ss)

apart : TextStatements → List TextStatement
apart Done = []
apart (Next s rest) = s ∷ apart rest

listed-apart : (s : TextStatements) → listed (apart s) ≡ s
unfolding listed apart
listed-apart Done = refl
listed-apart (Next s rest) = ap (Next s) (listed-apart rest)

if_next : (limits : Limits) (limit loops offset : ℕ) (e : Expression) (block : Statements) (other : Option Statements) (rest : Statements)
    → IsWithin limits limit loops (if_before offset e block other tree.Done) → IsWithin limits limit loops rest
    → IsWithin limits limit loops (if_before offset e block other rest)
if_next limits limit loops offset e block None rest a b =
    ((a.0.0, a.0.1, b.0), omega (arith, a.1, b.1), omega (arith, a.2, b.2))
if_next limits limit loops offset e block (Some other) rest a b =
    ((a.0.0, a.0.1, a.0.2, b.0), omega (arith, a.1, b.1), omega (arith, a.2, b.2))

-- a statement and others are within what each of them is within
next_within : (limits : Limits) (limit loops : ℕ) (s : TextStatement) (rest : Statements)
    → IsWithin limits limit loops (statement_for s tree.Done) → IsWithin limits limit loops rest
    → IsWithin limits limit loops (statement_for s rest)
next_within limits limit loops (Assign n e) rest a b = ((a.0.0, b.0), b.1, b.2)
next_within limits limit loops (Does c offset n) rest a b = b
next_within limits limit loops (Send offset p e) rest a b = ((a.0.0, b.0), b.1, b.2)
next_within limits limit loops (If (Choice offset e block otherwise)) rest a b =
    if_next limits limit loops offset e (statements_for block) (other_for otherwise) rest a b
next_within limits limit loops (For offset v bag block) rest a b = ((a.0.0, b.0), omega (arith, a.1, b.1), omega (arith, a.2, b.2))
next_within limits limit loops (Changes c offset e x) rest a b = ((a.0.0, b.0), b.1, b.2)

if_parts : (limits : Limits) (limit loops offset : ℕ) (e : Expression) (block : Statements) (other : Option Statements) (rest : Statements)
    → IsWithin limits (suc limit) loops (if_before offset e block other rest)
    → IsWithin limits (suc limit) loops (if_before offset e block other tree.Done) × IsWithin limits (suc limit) loops rest
if_parts limits limit loops offset e block None rest is =
    (((is.0.0, is.0.1, tt), omega (arith, is.1), omega (arith, is.2)), (is.0.2, omega (arith, is.1), omega (arith, is.2)))
if_parts limits limit loops offset e block (Some other) rest is =
    (((is.0.0, is.0.1, is.0.2, tt), omega (arith, is.1), omega (arith, is.2)), (is.0.3, omega (arith, is.1), omega (arith, is.2)))

next_parts : (limits : Limits) (limit loops : ℕ) (s : TextStatement) (rest : Statements)
    → IsWithin limits (suc limit) loops (statement_for s rest)
    → IsWithin limits (suc limit) loops (statement_for s tree.Done) × IsWithin limits (suc limit) loops rest
next_parts limits limit loops (Assign n e) rest is = (((is.0.0, tt), omega arith, omega arith), (is.0.1, is.1, is.2))
next_parts limits limit loops (Does c offset n) rest is = ((tt, omega arith, omega arith), is)
next_parts limits limit loops (Send offset p e) rest is = (((is.0.0, tt), omega arith, omega arith), (is.0.1, is.1, is.2))
next_parts limits limit loops (If (Choice offset e block otherwise)) rest is =
    if_parts limits limit loops offset e (statements_for block) (other_for otherwise) rest is
next_parts limits limit loops (For offset v bag block) rest is =
    (((is.0.0, tt), omega (arith, is.1), omega (arith, is.2)), (is.0.1, omega (arith, is.1), omega (arith, is.2)))
next_parts limits limit loops (Changes c offset e x) rest is = (((is.0.0, tt), omega arith, omega arith), (is.0.1, is.1, is.2))

are_listed : (limits : Limits) (limit loops : ℕ) (ss : List TextStatement) → AllByRecursion (IsSingle limits limit loops) ss
    → IsBlock limits (suc limit) loops (listed ss)
unfolding listed
are_listed limits limit loops [] all = ((tt, omega arith, omega arith), tt)
are_listed limits limit loops (s ∷ ss) all =
    let r = are_listed limits limit loops ss all.1 in
    (next_within limits (suc limit) loops s (statements_for (listed ss)) all.0.0 r.0, (all.0.1, r.1))

are_apart : (limits : Limits) (limit loops : ℕ) (s : TextStatements) → IsBlock limits (suc limit) loops s
    → AllByRecursion (IsSingle limits limit loops) (apart s)
unfolding apart
are_apart limits limit loops Done is = tt
are_apart limits limit loops (Next s rest) is =
    let p = next_parts limits limit loops s (statements_for rest) is.0 in
    ((p.0, is.1.0), are_apart limits limit loops rest (p.1, is.1.1))

-- ---- Blocks

pub brace_no_else : (ts : List Token) → begins (kind.Symbol symbol.CloseBrace) ts ≡ true → begins (kind.Keyword keyword.Else) ts ≡ false
brace_no_else [] e = refl
brace_no_else (t ∷ ts) e =
    ap (λ (k : TokenKind). same_kind k (kind.Keyword keyword.Else)) (same_kind-true t.kind (kind.Symbol symbol.CloseBrace) e)

statement_listed : IsListed statement_spelling NoElse (kind.Symbol symbol.CloseBrace)
statement_listed = record {
  opens = λ x ts rest h. (statement_opens x ts rest h).0;
  before = λ x ts rest h. (statement_opens x ts rest h).1;
  at_stop = brace_no_else;
  some = statement_some;
}

-- statements in braces
abbrev pub braced : Reader Single → Reader Statements
braced one ts = read_then (braces_at one ts) (λ x. Ok (joined x.0, x.1))

braced_reader : (limits : Limits) (limit loops : ℕ) (one : Reader Single)
    → IsReaderFor one single_as statement_spelling (IsSingle limits limit loops) NoElse
    → BlockReader limits (suc limit) loops (braced one)
unfolding read_then
braced_reader limits limit loops one r =
    let all = braces_reader_for one single_as statement_spelling (IsSingle limits limit loops) NoElse r statement_listed in
    record {
      sound = λ ts x e.
          let a = then_ok _ _ _ e in
          let s = all.sound ts a.0 a.1 in
          let spelled : Spans (block_spelling (listed s.0)) ts a.0.1 = rw (listed-spelling s.0) s.2 in
          subst (λ (y : Statements × List Token). (w : TextStatements) × (statements_for w ≡ y.0) × Spans (block_spelling w) ts y.1
          × IsBlock limits (suc limit) loops w) (ok_is _ _ a.2)
          (listed s.0, listed-for s.0 ∙ ap joined s.1, spelled, are_listed limits limit loops s.0 s.3);
      complete = λ w ts rest is h ends.
          let spelled : Spans (braces (flat_map statement_spelling (apart w))) ts rest =
          rw (← listed-spelling (apart w), listed-apart w) h in
          let c = all.complete (apart w) ts rest (are_apart limits limit loops w is) spelled tt in
          rw (c, ← listed-for (apart w), listed-apart w) refl;
    }

both_true : (a b : Bool) → a && b ≡ true → (a ≡ true) × (b ≡ true)
both_true true true e = (refl, refl)
both_true true false e = absurd cc
both_true false b e = absurd cc

and_false : (a : Bool) → a && false ≡ false
and_false true = refl
and_false false = refl

-- a block, or an `if` in its place
abbrev chosen_at : Limits → (one : Reader Single) → (block : Reader Statements) → Reader Statements
chosen_at limits one block ts =
    choose (begins_chained limits ts) (read_then (one ts) (λ x. Ok (single_before x.0 tree.Done, x.1))) (block ts)

chosen_reader : (limits : Limits) (limit loops : ℕ) (one : Reader Single) (block : Reader Statements)
    → IsReaderFor one choice_as choice_spelling (IsIf limits limit loops) NoElse → BlockReader limits (suc limit) loops block
    → OtherReader limits (suc limit) loops (chosen_at limits one block)
unfolding read_then
chosen_reader limits limit loops one block q r = record { sound = sound; complete = complete }
  where
    Found : List Token → Statements × List Token → Type 0
    Found ts y = (b : Behind) × (behind_as b ≡ y.0) × Spans (behind_spelling b) ts y.1 × IsBehind limits (suc limit) loops b

    sound : (ts : List Token) (x : Statements × List Token) → chosen_at limits one block ts ≡ Ok x → Found ts x
    sound ts x e =
        elim (chosen _ _ _ _ e) [
          | inl p ↦
              let a = then_ok _ _ _ p.1 in
              let s = q.sound ts a.0 a.1 in
              subst (Found ts) (ok_is _ _ a.2) (
                inr s.0,
                choice_as-before s.0 tree.Done ∙ ap (λ (k : Single). single_before k tree.Done) s.1,
                s.2,
                ((both_true _ _ p.0).0, s.3.0, s.3.1),
              )
          | inr p ↦ let s = r.sound ts x p.1 in (inl s.0, s.1, s.2, s.3)
        ]

    complete : (b : Behind) (ts rest : List Token) → IsBehind limits (suc limit) loops b → Spans (behind_spelling b) ts rest → NoElse rest
        → chosen_at limits one block ts ≡ Ok (behind_as b, rest)
    complete (inl w) ts rest is h ends =
        past _ (ap (λ (b : Bool). limits.short_forms && b) ((first h).begins (kind.Keyword keyword.If)) ∙ and_false limits.short_forms)
        (r.complete w ts rest is h tt)
    complete (inr (Choice offset e w otherwise)) ts rest is h ends =
        let c : TextIf = Choice offset e w otherwise in
        here _ (rw (is.0, (first h).begins (kind.Keyword keyword.If)) refl)
        (rw (q.complete c ts rest (is.1, is.2) h ends) (ap (λ (s : Statements). Ok (s, rest)) (sym (choice_as-before c tree.Done))))

-- no block and no `if` where there is no level
no_block_reader : (limits : Limits) (loops : ℕ) (block : Reader Statements) → ((ts : List Token) → block ts ≡ Err TooShort)
    → BlockReader limits 0 loops block
no_block_reader limits loops block h = record {
  sound = λ ts x e. absurd (err_ok _ _ (sym (h ts) ∙ e));
  complete = λ w ts rest is g ends. absurd (omega (arith, is.0.1, positive_block (statements_for w)));
}

no_other_reader : (limits : Limits) (loops : ℕ) (other : Reader Statements) → ((ts : List Token) → other ts ≡ Err TooShort)
    → OtherReader limits 0 loops other
no_other_reader limits loops other h = record {
  sound = λ ts x e. absurd (err_ok _ _ (sym (h ts) ∙ e));
  complete = complete;
}
  where
    complete : (b : Behind) (ts rest : List Token) → IsBehind limits 0 loops b → Spans (behind_spelling b) ts rest → NoElse rest
        → other ts ≡ Ok (behind_as b, rest)
    complete (inl w) ts rest is g ends = absurd (omega (arith, is.0.1, positive_block (statements_for w)))
    complete (inr c) ts rest is g ends = absurd (omega (arith, is.1.1, positive_block (choice_for c tree.Done)))

both_readers : (limits : Limits) (limit loops : ℕ)
    → BlockReader limits limit loops (block_at limits limit loops) × OtherReader limits limit loops (other_at limits limit loops)
unfolding block_at other_at
both_readers limits zero loops = (no_block_reader limits loops _ (λ ts. refl), no_other_reader limits loops _ (λ ts. refl))
both_readers limits (suc limit) loops =
    let blocks : BlockReaders limits limit (block_at limits limit) = λ m. (both_readers limits limit m).0 in
    let others : OtherReaders limits limit (other_at limits limit) = λ m. (both_readers limits limit m).1 in
    let one = statement_reader limits limit loops (block_at limits limit) (other_at limits limit) blocks others in
    let block = braced_reader limits limit loops (statement_at limits (block_at limits limit) (other_at limits limit) limit loops) one in
    let choice = if_reader limits limit loops (block_at limits limit loops) (other_at limits limit loops) (blocks loops) (others loops) in
    (block, chosen_reader limits limit loops _ _ choice block)

pub block_reader : (limits : Limits) (limit loops : ℕ) → BlockReader limits limit loops (block_at limits limit loops)
block_reader limits limit loops = (both_readers limits limit loops).0

pub statement_shortens : (limits : Limits) (limit loops : ℕ)
    → Shortens (statement_at limits (block_at limits limit) (other_at limits limit) limit loops)
statement_shortens limits limit loops =
    let r = statement_reader limits limit loops (block_at limits limit) (other_at limits limit)
    (λ m. (both_readers limits limit m).0) (λ m. (both_readers limits limit m).1) in
    shortens_for (statement_at limits (block_at limits limit) (other_at limits limit) limit loops) single_as statement_spelling
    (IsSingle limits limit loops) _ _ r statement_listed

-- a statement of a block within the limit
abbrev pub inside_at : Limits → (limit loops : ℕ) → Reader Single
inside_at limits limit loops = statement_at limits (block_at limits (limit - 1)) (other_at limits (limit - 1)) (limit - 1) loops

block_is : (limits : Limits) (limit loops : ℕ) (ts : List Token) → 0 < limit
    → block_at limits limit loops ts ≡ becoming joined (braces_at (inside_at limits limit loops) ts)
unfolding block_at
block_is limits zero loops ts lt = absurd (omega (arith, lt))
block_is limits (suc limit) loops ts lt =
    let less : limit ≡ suc limit - 1 = omega arith in
    ap (λ (n : ℕ). becoming joined (braces_at (statement_at limits (block_at limits n) (other_at limits n) n loops) ts)) less

-- a brace, the statements of a block, and the brace that closes it
pub block_reads : (limits : Limits) (limit loops : ℕ) (ts : List Token) → 0 < limit → block_at limits limit loops ts ≡ read_then
    (after (kind.Symbol symbol.OpenBrace) ts)
    (λ inside. read_then (many_at (inside_at limits limit loops) (kind.Symbol symbol.CloseBrace) inside)
    (λ ss. read_then (after (kind.Symbol symbol.CloseBrace) ss.1) (λ rest. Ok (joined ss.0, rest))))
unfolding braces_at read_then
block_reads limits limit loops ts lt = block_is limits limit loops ts lt ∙ sym (
    later (after (kind.Symbol symbol.OpenBrace) ts) _ _ _ (λ inside.
    later (many_at (inside_at limits limit loops) (kind.Symbol symbol.CloseBrace) inside) _ _ _ (λ ss.
    later (after (kind.Symbol symbol.CloseBrace) ss.1) _ _ _ (λ rest. refl))))

-- an `if`, or a block, in the place of a block
pub other_reads : (limits : Limits) (limit loops : ℕ) (ts : List Token) → 0 < limit → other_at limits limit loops ts ≡ chosen_at limits
    (if_at limits (block_at limits (limit - 1) loops) (other_at limits (limit - 1) loops) (limit - 1)) (block_at limits limit loops) ts
unfolding block_at other_at
other_reads limits zero loops ts lt = absurd (omega (arith, lt))
other_reads limits (suc limit) loops ts lt =
    let less : limit ≡ suc limit - 1 = omega arith in
    ap (λ (n : ℕ). chosen_at limits (if_at limits (block_at limits n loops) (other_at limits n loops) n)
    (block_at limits (suc limit) loops) ts) less
