-- What is read as items, models and files is spelled so, and what is spelled so is read.
use Rattle.std.proofs.Common.{◌≡◌, ℕ, ◌<◌, true, false, List, [], ◌∷◌, ◌++◌, length, Option, Some, None, Ok, Err, refl, sym, ap}
use Rattle.std.proofs.Common.{map, subst, ◌∙◌, inl, inr, arith}
use Rattle.std.specs.List.{flat_map, AllByRecursion}
use Rattle.dv_bag.specs.declared.discipline.Discipline.{Discipline}
use Rattle.dv_bag.specs.declared.discipline.Discipline.TheVariants as discipline
use Rattle.dv_lex.specs.declared.token.Token.{Token}
use Rattle.dv_lex.specs.declared.token.TokenKind.TheVariants as kind
use Rattle.dv_lex.specs.declared.token.Keyword.{Keyword}
use Rattle.dv_lex.specs.declared.token.Keyword.TheVariants as keyword
use Rattle.dv_lex.specs.declared.token.Symbol.{Symbol}
use Rattle.dv_lex.specs.declared.token.Symbol.TheVariants as symbol
use Rattle.dv_source.specs.Texts.{TextStatements, TextItem, Rule, Other, TextModel, TextAtomic, TextCoupled, TextFile}
use Rattle.dv_source.specs.Texts.{item_for, model_for, file_for}
use Rattle.dv_source.specs.Grammar.{text_item_spelling, text_model_spelling, text_spelling, IsOfForm, IsTextItem, IsTextModel}
use Rattle.dv_source.specs.Grammar.{limits_behind, IsWritten, IsFileWithin, IsFileOf}
use Rattle.dv_syntax.specs.declared.tree.Version.{Version}
use Rattle.dv_syntax.specs.declared.tree.Version.TheVariants as version
use Rattle.dv_syntax.specs.declared.tree.Prefix.TheVariants as prefix
use Rattle.dv_syntax.specs.declared.tree.Name.{Name}
use Rattle.dv_syntax.specs.declared.tree.Number.{Number}
use Rattle.dv_syntax.specs.declared.tree.Bound.{Bound}
use Rattle.dv_syntax.specs.declared.tree.Variable.{Variable}
use Rattle.dv_syntax.specs.declared.tree.Flag.{Flag}
use Rattle.dv_syntax.specs.declared.tree.StateCollection.{StateCollection}
use Rattle.dv_syntax.specs.declared.tree.BagCall.TheVariants as call
use Rattle.dv_syntax.specs.declared.tree.Declaration.TheVariants as declaration
use Rattle.dv_syntax.specs.declared.tree.RuleSort.{RuleSort}
use Rattle.dv_syntax.specs.declared.tree.RuleSort.TheVariants as sort
use Rattle.dv_syntax.specs.declared.tree.End.{End}
use Rattle.dv_syntax.specs.declared.tree.Part.{Part}
use Rattle.dv_syntax.specs.declared.tree.Link.{Link}
use Rattle.dv_syntax.specs.Trees.{Expression, Statements, Literal, TruthValue, Named, Parens, Prefixed, Binary, Call, Elapsed}
use Rattle.dv_syntax.specs.Trees.{Times, HoldTree, FileTree}
use Rattle.dv_syntax.specs.Written.{AtomicItem, Declares, Lists, Starts, Holds, Rules, CoupledItem, Inputs, Outputs, Contains}
use Rattle.dv_syntax.specs.Written.{Couples, WrittenModel, WrittenAtomic, WrittenFile, sorted}
use Rattle.dv_syntax.specs.Grammar.{Spelled, Spells, Anywhere, Limits, the_limits, name, number, sign, word, braces, operator_kind}
use Rattle.dv_syntax.specs.Grammar.{expression_spelling, minus_spelling, bound_spelling, variable_spelling, flag_spelling}
use Rattle.dv_syntax.specs.Grammar.{collection_spelling, ticks_spelling, phases_spelling, item_spelling}
use Rattle.dv_syntax.specs.Grammar.{AreTicks, IsItem, part_name_spelling, end_spelling, coupled_item_spelling}
use Rattle.dv_syntax.specs.Grammar.{header_spelling, version_number}
use Rattle.dv_parser.specs.Reading.{Obstacle, Read, read_then, choose, begins, operator_of, many_at, braces_at, bound_at}
use Rattle.dv_parser.specs.Reading.{variable_at, flag_at, collection_at, further_name_at, phases_at, start_at, ticks_at, hold_at}
use Rattle.dv_parser.specs.Reading.{rule_at, any_rule_at, port_at, item_at, atomic_at, end_at, part_at, link_at}
use Rattle.dv_parser.specs.Reading.{coupled_item_at, coupled_at, model_at, is_end, header_at, version_at, file_at}
use Rattle.dv_parser.proofs.Tokens.{FirstRead, then_ok, here, past, chosen, ok_is, err_ok, Spans, nothing, span_end, then_spans, split}
use Rattle.dv_parser.proofs.Tokens.{first, first_name, first_number, first_truth, unplaced, after_spans, after_spans_at}
use Rattle.dv_parser.proofs.Tokens.{name_spans, number_spans, truth_spans}
use Rattle.dv_parser.proofs.Readers.{IsReader, IsReaderFor, IsListed, many_reader, many_reader_for, braces_reader}
use Rattle.dv_parser.proofs.Readers.{braces_reader_for, shortens, shortens_for, Shortens, Always, all_any}
use Rattle.dv_parser.proofs.Expressions.{closed_front, expression_reader}
use Rattle.dv_parser.proofs.Statements.{semicolon, block_reader, IsBlock}

-- ---- Bounds and variables

bound_complete : (minus : Option ℕ) (n : Number) (ts rest : List Token) → Spans (minus_spelling minus ++ number n ∷ []) ts rest
    → bound_at ts ≡ Ok (record { minus = minus; magnitude = n }, rest)
unfolding bound_at choose read_then
bound_complete None n ts rest h =
    let f = first h in
    let m = first_number n h in
    rw (f.begins (kind.Symbol symbol.Minus), m.read, span_end m.spelled) refl
bound_complete (Some offset) n ts rest h =
    let f = first h in
    let m = first_number n f.spelled in
    rw (f.begins (kind.Symbol symbol.Minus), f.after, m.read, f.offset, span_end m.spelled) refl

bound_sound : (ts : List Token) (x : Bound × List Token) → bound_at ts ≡ Ok x → Spans (bound_spelling x.0) ts x.1
unfolding bound_at
bound_sound ts x e =
    elim (chosen _ _ _ _ e) [
      | inl p ↦
          let a = then_ok _ _ _ p.1 in
          let b = then_ok _ _ _ a.2 in
          subst (λ (y : Bound × List Token). Spans (bound_spelling y.0) ts y.1) (ok_is _ _ b.2)
          (after_spans_at a.1 (number_spans b.1 nothing))
      | inr p ↦
          let a = then_ok _ _ _ p.1 in
          subst (λ (y : Bound × List Token). Spans (bound_spelling y.0) ts y.1) (ok_is _ _ a.2) (number_spans a.1 nothing)
    ]

bound_reader : IsReader bound_at bound_spelling (λ b. Unit {0}) Always
bound_reader = record {
  sound = λ ts x e. (bound_sound ts x e, tt);
  complete = λ x ts rest is h ends. bound_complete x.minus x.magnitude ts rest h;
}

variable_sound : (ts : List Token) (x : Variable × List Token) → variable_at ts ≡ Ok x → Spans (variable_spelling x.0) ts x.1
unfolding variable_at
variable_sound ts x e =
    let a = then_ok _ _ _ e in
    let b = then_ok _ _ _ a.2 in
    let c = then_ok _ _ _ b.2 in
    let low = then_ok _ _ _ c.2 in
    let d = then_ok _ _ _ low.2 in
    let high = then_ok _ _ _ d.2 in
    let f = then_ok _ _ _ high.2 in
    let start = then_ok _ _ _ f.2 in
    let g = then_ok _ _ _ start.2 in
    let l = bound_reader.sound c.0 low.0 low.1 in
    let h = bound_reader.sound d.0 high.0 high.1 in
    let s = bound_reader.sound f.0 start.0 start.1 in
    subst (λ (y : Variable × List Token). Spans (variable_spelling y.0) ts y.1) (ok_is _ _ g.2)
    (after_spans a.1 (name_spans b.1
    (after_spans c.1 (then_spans l.0 (after_spans d.1 (then_spans h.0 (after_spans f.1 (then_spans s.0 (after_spans g.1 nothing)))))))))

variable_complete : (v : Variable) (ts rest : List Token) → Spans (variable_spelling v) ts rest → variable_at ts ≡ Ok (v, rest)
unfolding variable_at read_then
variable_complete v ts rest h =
    let a = first h in
    let b = first_name v.name a.spelled in
    let c = first b.spelled in
    let after_start : List Spelled = semicolon in
    let after_high : List Spelled = sign symbol.Equal ∷ (bound_spelling v.start ++ after_start) in
    let after_low : List Spelled = sign symbol.Range ∷ (bound_spelling v.high ++ after_high) in
    let l = split (bound_spelling v.low) after_low c.spelled in
    let low = bound_reader.complete v.low c.behind l.0 tt l.1 tt in
    let d = first l.2 in
    let h' = split (bound_spelling v.high) after_high d.spelled in
    let high = bound_reader.complete v.high d.behind h'.0 tt h'.1 tt in
    let f = first h'.2 in
    let s = split (bound_spelling v.start) after_start f.spelled in
    let start = bound_reader.complete v.start f.behind s.0 tt s.1 tt in
    let g = first s.2 in
    rw (a.after, b.read, c.after, low, d.after, high, f.after, start, g.after, span_end g.spelled) refl

flag_sound : (ts : List Token) (x : Flag × List Token) → flag_at ts ≡ Ok x → Spans (flag_spelling x.0) ts x.1
unfolding flag_at
flag_sound ts x e =
    let a = then_ok _ _ _ e in
    let b = then_ok _ _ _ a.2 in
    let c = then_ok _ _ _ b.2 in
    let start = then_ok _ _ _ c.2 in
    let d = then_ok _ _ _ start.2 in
    subst (λ (y : Flag × List Token). Spans (flag_spelling y.0) ts y.1) (ok_is _ _ d.2)
    (after_spans a.1 (name_spans b.1 (after_spans c.1 (unplaced (truth_spans start.1 (after_spans d.1 nothing))))))

flag_complete : (f : Flag) (ts rest : List Token) → Spans (flag_spelling f) ts rest → flag_at ts ≡ Ok (f, rest)
unfolding flag_at read_then
flag_complete f ts rest h =
    let a = first h in
    let b = first_name f.name a.spelled in
    let c = first b.spelled in
    let start = first_truth f.start c.spelled in
    let d = first start.spelled in
    rw (a.after, b.read, c.after, start.read, d.after, span_end d.spelled) refl

collection_sound : (d : Discipline) (ts : List Token) (x : StateCollection × List Token) → collection_at d ts ≡ Ok x
    → Spans (collection_spelling x.0) ts x.1
unfolding collection_at
collection_sound d ts x e =
    let a = then_ok _ _ _ e in
    let b = then_ok _ _ _ a.2 in
    let c = then_ok _ _ _ b.2 in
    let f = then_ok _ _ _ c.2 in
    subst (λ (y : StateCollection × List Token). Spans (collection_spelling y.0) ts y.1) (ok_is _ _ f.2)
    (after_spans a.1 (name_spans b.1 (number_spans c.1 (after_spans f.1 nothing))))

collection_complete : (c : StateCollection) (ts rest : List Token) → Spans (collection_spelling c) ts rest
    → collection_at c.discipline ts ≡ Ok (c, rest)
unfolding collection_at read_then
collection_complete c ts rest h =
    let a = first h in
    let n = first_name c.name a.spelled in
    let capacity = first_number c.capacity n.spelled in
    let d = first capacity.spelled in
    rw (a.after, n.read, capacity.read, d.after, span_end d.spelled) refl

-- ---- Items

further_reader : IsReader further_name_at (λ n. sign symbol.Comma ∷ name n ∷ []) (λ n. Unit {0}) Always
unfolding further_name_at read_then
further_reader = record {
  sound = λ ts x e. let a = then_ok _ _ _ e in (after_spans a.1 (name_spans a.2 nothing), tt);
  complete = λ x ts rest is h ends.
      let a = first h in
      let b = first_name x a.spelled in
      rw (a.after, b.read, span_end b.spelled) refl;
}

further_listed : IsListed (λ (n : Name). sign symbol.Comma ∷ name n ∷ []) Always (kind.Symbol symbol.Semicolon)
further_listed = record {
  opens = λ x ts rest h. (first h).begins _;
  before = λ x ts rest h. tt;
  at_stop = λ ts e. tt;
  some = λ x. omega arith;
}

abbrev ReadsItem : Limits → List Token → AtomicItem × List Token → Type 0
ReadsItem limits ts x =
    (item : TextItem) × (item_for item ≡ x.0) × Spans (text_item_spelling item) ts x.1 × IsTextItem limits item

-- what was read and stands for itself
reads_itself : (limits : Limits) (ts : List Token) (x : AtomicItem × List Token) → Spans (item_spelling x.0) ts x.1
    → IsItem limits x.0 → IsOfForm limits.short_forms (Other x.0) → ReadsItem limits ts x
reads_itself limits ts x spans is plain = (Other x.0, refl, spans, (is, plain))

phases_sound : (limits : Limits) (ts : List Token) (x : AtomicItem × List Token) → phases_at ts ≡ Ok x → ReadsItem limits ts x
unfolding phases_at
phases_sound limits ts x e =
    let r = many_reader further_name_at _ _ _ further_reader (kind.Symbol symbol.Semicolon) further_listed in
    let a = then_ok _ _ _ e in
    let b = then_ok _ _ _ a.2 in
    let c = then_ok _ _ _ b.2 in
    let d = then_ok _ _ _ c.2 in
    let s = r.sound b.0.1 c.0 c.1 in
    subst (ReadsItem limits ts) (ok_is _ _ d.2)
    (reads_itself limits ts _ (after_spans_at a.1 (name_spans b.1 (then_spans s.0 (after_spans d.1 nothing)))) (omega arith) tt)

start_sound : (limits : Limits) (ts : List Token) (x : AtomicItem × List Token) → start_at ts ≡ Ok x → ReadsItem limits ts x
unfolding start_at
start_sound limits ts x e =
    let a = then_ok _ _ _ e in
    let b = then_ok _ _ _ a.2 in
    let c = then_ok _ _ _ b.2 in
    subst (ReadsItem limits ts) (ok_is _ _ c.2)
    (reads_itself limits ts _ (after_spans_at a.1 (name_spans b.1 (after_spans c.1 nothing))) tt tt)

ticks_sound : (limits : Limits) (ts : List Token) (x : Option Expression × List Token) → ticks_at limits.expression ts ≡ Ok x
    → Spans (ticks_spelling x.0) ts x.1 × AreTicks limits x.0
unfolding ticks_at
ticks_sound limits ts x e =
    elim (chosen _ _ _ _ e) [
      | inl p ↦
          let a = then_ok _ _ _ p.1 in
          subst (λ (y : Option Expression × List Token). Spans (ticks_spelling y.0) ts y.1 × AreTicks limits y.0) (ok_is _ _ a.2)
          (after_spans a.1 nothing, tt)
      | inr p ↦
          let a = then_ok _ _ _ p.1 in
          let s = (expression_reader limits).sound ts a.0 a.1 in
          subst (λ (y : Option Expression × List Token). Spans (ticks_spelling y.0) ts y.1 × AreTicks limits y.0) (ok_is _ _ a.2) (s.0, s.1)
    ]

hold_sound : (limits : Limits) (ts : List Token) (x : AtomicItem × List Token) → hold_at limits.expression ts ≡ Ok x → ReadsItem limits ts x
unfolding hold_at
hold_sound limits ts x e =
    let a = then_ok _ _ _ e in
    let b = then_ok _ _ _ a.2 in
    let c = then_ok _ _ _ b.2 in
    let d = then_ok _ _ _ c.2 in
    let f = then_ok _ _ _ d.2 in
    let s = ticks_sound limits c.0 d.0 d.1 in
    subst (ReadsItem limits ts) (ok_is _ _ f.2)
    (reads_itself limits ts _ (after_spans_at a.1 (name_spans b.1 (after_spans c.1 (then_spans s.0 (after_spans f.1 nothing))))) s.1 tt)

rule_sound : (limits : Limits) (sort : RuleSort) (ts : List Token) (x : AtomicItem × List Token) → rule_at limits sort ts ≡ Ok x
    → ReadsItem limits ts x
unfolding rule_at
rule_sound limits sort ts x e =
    let a = then_ok _ _ _ e in
    let b = then_ok _ _ _ a.2 in
    let c = then_ok _ _ _ b.2 in
    let s = (block_reader limits limits.block limits.loop).sound b.0.1 c.0 c.1 in
    subst (ReadsItem limits ts) (ok_is _ _ c.2) (
      Rule sort b.0.0 s.0,
      ap (λ (body : Statements). Rules (record { sort = sort; phase = b.0.0; body = body })) s.1,
      after_spans a.1 (name_spans b.1 s.2),
      s.3,
    )

any_rule_sound : (limits : Limits) (ts : List Token) (x : AtomicItem × List Token) → any_rule_at limits ts ≡ Ok x → ReadsItem limits ts x
unfolding any_rule_at
any_rule_sound limits ts x e =
    elim (chosen _ _ _ _ e) [
      | inl p ↦ rule_sound limits sort.Output ts x p.1
      | inr p ↦ elim (chosen _ _ _ _ p.1) [
        | inl q ↦ rule_sound limits sort.Internal ts x q.1
        | inr q ↦ elim (chosen _ _ _ _ q.1) [
          | inl r ↦ rule_sound limits sort.External ts x r.1
          | inr r ↦ rule_sound limits sort.Confluent ts x r.1
        ]
      ]
    ]

-- a port behind a word
port_reader : (k : Keyword) → IsReader (port_at k) (λ n. word k ∷ name n ∷ semicolon) (λ n. Unit {0}) Always
unfolding port_at read_then
port_reader k = record {
  sound = λ ts x e.
      let a = then_ok _ _ _ e in
      let b = then_ok _ _ _ a.2 in
      let c = then_ok _ _ _ b.2 in
      subst (λ (y : Name × List Token). Spans (word k ∷ name y.0 ∷ semicolon) ts y.1 × Unit {0}) (ok_is _ _ c.2)
      (after_spans a.1 (name_spans b.1 (after_spans c.1 nothing)), tt);
  complete = λ x ts rest is h ends.
      let a = first h in
      let b = first_name x a.spelled in
      let c = first b.spelled in
      rw (a.after, b.read, c.after, span_end c.spelled) refl;
}

item_sound : (limits : Limits) (ts : List Token) (x : AtomicItem × List Token) → item_at limits ts ≡ Ok x → ReadsItem limits ts x
unfolding item_at
item_sound limits ts x e =
    elim (chosen _ _ _ _ e) [
      | inl o ↦
          let a = then_ok _ _ _ o.1 in
          let s = (port_reader keyword.In).sound ts a.0 a.1 in
          subst (ReadsItem limits ts) (ok_is _ _ a.2) (reads_itself limits ts _ s.0 tt tt)
      | inr o ↦ elim (chosen _ _ _ _ o.1) [
        | inl p ↦
            let a = then_ok _ _ _ p.1 in
            let s = (port_reader keyword.Out).sound ts a.0 a.1 in
            subst (ReadsItem limits ts) (ok_is _ _ a.2) (reads_itself limits ts _ s.0 tt tt)
        | inr p ↦ elim (chosen _ _ _ _ p.1) [
          | inl q ↦
              let a = then_ok _ _ _ q.1 in
              subst (ReadsItem limits ts) (ok_is _ _ a.2) (reads_itself limits ts _ (variable_sound ts a.0 a.1) tt tt)
          | inr q ↦ elim (chosen _ _ _ _ q.1) [
            | inl f ↦
                let a = then_ok _ _ _ f.1 in
                subst (ReadsItem limits ts) (ok_is _ _ a.2) (reads_itself limits ts _ (flag_sound ts a.0 a.1) tt tt)
            | inr f ↦ elim (chosen _ _ _ _ f.1) [
              | inl b ↦
                  let a = then_ok _ _ _ b.1 in
                  let s = collection_sound discipline.Bag ts a.0 a.1 in
                  subst (ReadsItem limits ts) (ok_is _ _ a.2) (reads_itself limits ts _ s tt tt)
              | inr b ↦ elim (chosen _ _ _ _ b.1) [
                | inl c ↦
                    let a = then_ok _ _ _ c.1 in
                    let s = collection_sound discipline.Queue ts a.0 a.1 in
                    subst (ReadsItem limits ts) (ok_is _ _ a.2) (reads_itself limits ts _ s tt tt)
                | inr c ↦ elim (chosen _ _ _ _ c.1) [
                  | inl w ↦ phases_sound limits ts x w.1
                  | inr w ↦ elim (chosen _ _ _ _ w.1) [
                    | inl u ↦ start_sound limits ts x u.1
                    | inr u ↦ elim (chosen _ _ _ _ u.1) [
                      | inl v ↦ hold_sound limits ts x v.1
                      | inr v ↦ any_rule_sound limits ts x v.1
                    ]
                  ]
                ]
              ]
            ]
          ]
        ]
      ]
    ]

rule_complete : (limits : Limits) (sort : RuleSort) (p : Name) (body : TextStatements) (ts rest : List Token)
    → IsBlock limits limits.block limits.loop body → Spans (text_item_spelling (Rule sort p body)) ts rest
    → rule_at limits sort ts ≡ Ok (item_for (Rule sort p body), rest)
unfolding rule_at read_then
rule_complete limits sort p body ts rest is h =
    let a = first h in
    let b = first_name p a.spelled in
    let c = (block_reader limits limits.block limits.loop).complete body b.behind rest is b.spelled tt in
    rw (a.after, b.read, c) refl

-- no expression begins with `forever`
expression_no_word : (e : Expression) (ts rest : List Token) → Spans (expression_spelling e) ts rest
    → begins (kind.Keyword keyword.Forever) ts ≡ false
expression_no_word (Literal n) ts rest h = (first h).begins _
expression_no_word (TruthValue offset true) ts rest h = (first h).begins _
expression_no_word (TruthValue offset false) ts rest h = (first h).begins _
expression_no_word (Named n) ts rest h = (first h).begins _
expression_no_word (Parens offset e) ts rest h = (first h).begins _
expression_no_word (Prefixed prefix.Minus offset e) ts rest h = (first h).begins _
expression_no_word (Prefixed prefix.Not offset e) ts rest h = (first h).begins _
expression_no_word (Call call.Size offset b) ts rest h = (first h).begins _
expression_no_word (Call call.Sum offset b) ts rest h = (first h).begins _
expression_no_word (Call call.Least offset b) ts rest h = (first h).begins _
expression_no_word (Call call.Most offset b) ts rest h = (first h).begins _
expression_no_word (Call call.Front offset b) ts rest h = (first h).begins _
expression_no_word (Elapsed offset) ts rest h = (first h).begins _
expression_no_word (Times offset e b) ts rest h = (first h).begins _
expression_no_word (Binary o a b) ts rest h =
    expression_no_word a ts _ (split (expression_spelling a) (Anywhere (operator_kind o) ∷ expression_spelling b) h).1

ticks_complete : (limits : Limits) (ticks : Option Expression) (ts rest : List Token) → AreTicks limits ticks
    → Spans (ticks_spelling ticks ++ semicolon) ts rest
    → (mid : List Token) × (ticks_at limits.expression ts ≡ Ok (ticks, mid)) × Spans semicolon mid rest
unfolding ticks_at choose read_then operator_of
ticks_complete limits None ts rest is h =
    let a = first h in
    (a.behind, rw (a.begins (kind.Keyword keyword.Forever), a.after) refl, a.spelled)
ticks_complete limits (Some e) ts rest is h =
    let s = split (expression_spelling e) semicolon h in
    let v = (expression_reader limits).complete e ts s.0 is s.1 (closed_front refl s.2) in
    (s.0, rw (expression_no_word e ts s.0 s.1, v) refl, s.2)

-- what begins with no word of another item is read as a rule
item_rule : (limits : Limits) (ts : List Token) {read : Read (AtomicItem × List Token)} → begins (kind.Keyword keyword.In) ts ≡ false
    → begins (kind.Keyword keyword.Out) ts ≡ false
    → begins (kind.Keyword keyword.Var) ts ≡ false → begins (kind.Keyword keyword.Flag) ts ≡ false
    → begins (kind.Keyword keyword.Bag) ts ≡ false → begins (kind.Keyword keyword.Queue) ts ≡ false
    → begins (kind.Keyword keyword.Phases) ts ≡ false
    → begins (kind.Keyword keyword.Start) ts ≡ false → begins (kind.Keyword keyword.Hold) ts ≡ false
    → any_rule_at limits ts ≡ read → item_at limits ts ≡ read
unfolding item_at
item_rule limits ts a b c d e f g h i r =
    past _ a (past _ b (past _ c (past _ d (past _ e (past _ f (past _ g (past _ h (past _ i r))))))))

rule_item_complete : (limits : Limits) (sort : RuleSort) (p : Name) (body : TextStatements) (ts rest : List Token)
    → IsBlock limits limits.block limits.loop body → Spans (text_item_spelling (Rule sort p body)) ts rest
    → item_at limits ts ≡ Ok (item_for (Rule sort p body), rest)
unfolding any_rule_at
rule_item_complete limits sort.Output p body ts rest is h =
    let b = (first h).begins in
    item_rule limits ts (b _) (b _) (b _) (b _) (b _) (b _) (b _) (b _) (b _)
    (here _ (b _) (rule_complete limits sort.Output p body ts rest is h))
rule_item_complete limits sort.Internal p body ts rest is h =
    let b = (first h).begins in
    item_rule limits ts (b _) (b _) (b _) (b _) (b _) (b _) (b _) (b _) (b _)
    (past _ (b _) (here _ (b _) (rule_complete limits sort.Internal p body ts rest is h)))
rule_item_complete limits sort.External p body ts rest is h =
    let b = (first h).begins in
    item_rule limits ts (b _) (b _) (b _) (b _) (b _) (b _) (b _) (b _) (b _)
    (past _ (b _) (past _ (b _) (here _ (b _) (rule_complete limits sort.External p body ts rest is h))))
rule_item_complete limits sort.Confluent p body ts rest is h =
    let b = (first h).begins in
    item_rule limits ts (b _) (b _) (b _) (b _) (b _) (b _) (b _) (b _) (b _)
    (past _ (b _) (past _ (b _) (past _ (b _) (rule_complete limits sort.Confluent p body ts rest is h))))

phases_complete : (offset : ℕ) (names : List Name) (ts rest : List Token) → 0 < length names
    → Spans (phases_spelling (record { offset = offset; names = names })) ts rest
    → phases_at ts ≡ Ok (Lists (record { offset = offset; names = names }), rest)
unfolding phases_at read_then
phases_complete offset [] ts rest is h = absurd (omega (arith, is))
phases_complete offset (n ∷ ns) ts rest is h =
    let r = many_reader further_name_at _ _ _ further_reader (kind.Symbol symbol.Semicolon) further_listed in
    let a = first h in
    let b = first_name n a.spelled in
    let s = split (flat_map (λ n. sign symbol.Comma ∷ name n ∷ []) ns) semicolon b.spelled in
    let c = first s.2 in
    let m = r.complete ns b.behind s.0 (all_any ns) s.1 (c.begins (kind.Symbol symbol.Semicolon)) in
    rw (a.after, b.read, m, c.after, a.offset, span_end c.spelled) refl

start_complete : (offset : ℕ) (p : Name) (ts rest : List Token)
    → Spans (item_spelling (Starts (record { offset = offset; phase = p }))) ts rest
    → start_at ts ≡ Ok (Starts (record { offset = offset; phase = p }), rest)
unfolding start_at read_then
start_complete offset p ts rest h =
    let a = first h in
    let b = first_name p a.spelled in
    let c = first b.spelled in
    rw (a.after, b.read, c.after, a.offset, span_end c.spelled) refl

hold_complete : (limits : Limits) (d : HoldTree) (ts rest : List Token) → AreTicks limits d.ticks → Spans (item_spelling (Holds d)) ts rest
    → hold_at limits.expression ts ≡ Ok (Holds d, rest)
unfolding hold_at read_then
hold_complete limits d ts rest is h =
    let a = first h in
    let b = first_name d.phase a.spelled in
    let c = first b.spelled in
    let t = ticks_complete limits d.ticks c.behind rest is c.spelled in
    let e = first t.2 in
    rw (a.after, b.read, c.after, t.1, e.after, a.offset, span_end e.spelled) refl

collection_item_complete : (limits : Limits) (d : Discipline) (n : Name) (m : Number) (ts rest : List Token)
    → Spans (collection_spelling (record { discipline = d; name = n; capacity = m })) ts rest
    → item_at limits ts ≡ Ok (Declares (declaration.Held (record { discipline = d; name = n; capacity = m })), rest)
unfolding item_at read_then
collection_item_complete limits discipline.Bag n m ts rest h =
    let b = (first h).begins in
    let c = collection_complete (record { discipline = discipline.Bag; name = n; capacity = m }) ts rest h in
    past _ (b _) (past _ (b _) (past _ (b _) (past _ (b _) (here _ (b _) (rw c refl)))))
collection_item_complete limits discipline.Queue n m ts rest h =
    let b = (first h).begins in
    let c = collection_complete (record { discipline = discipline.Queue; name = n; capacity = m }) ts rest h in
    past _ (b _) (past _ (b _) (past _ (b _) (past _ (b _) (past _ (b _) (here _ (b _) (rw c refl))))))

item_complete : (limits : Limits) (x : TextItem) (ts rest : List Token) → IsTextItem limits x → Spans (text_item_spelling x) ts rest
    → item_at limits ts ≡ Ok (item_for x, rest)
unfolding item_at read_then
item_complete limits (Other (Declares (declaration.In n))) ts rest is h =
    here _ ((first h).begins _) (rw ((port_reader keyword.In).complete n ts rest tt h tt) refl)
item_complete limits (Other (Declares (declaration.Out n))) ts rest is h =
    let b = (first h).begins in
    past _ (b _) (here _ (b _) (rw ((port_reader keyword.Out).complete n ts rest tt h tt) refl))
item_complete limits (Other (Declares (declaration.Var v))) ts rest is h =
    let b = (first h).begins in
    past _ (b _) (past _ (b _) (here _ (b _) (rw (variable_complete v ts rest h) refl)))
item_complete limits (Other (Declares (declaration.Flag f))) ts rest is h =
    let b = (first h).begins in
    past _ (b _) (past _ (b _) (past _ (b _) (here _ (b _) (rw (flag_complete f ts rest h) refl))))
item_complete limits (Other (Declares (declaration.Held c))) ts rest is h =
    collection_item_complete limits c.discipline c.name c.capacity ts rest h
item_complete limits (Other (Lists p)) ts rest is h =
    let b = (first h).begins in
    past _ (b _) (past _ (b _) (past _ (b _) (past _ (b _) (past _ (b _) (past _ (b _) (here _ (b _)
    (phases_complete p.offset p.names ts rest is.0 h)))))))
item_complete limits (Other (Starts s)) ts rest is h =
    let b = (first h).begins in
    past _ (b _) (past _ (b _) (past _ (b _) (past _ (b _) (past _ (b _) (past _ (b _) (past _ (b _) (here _ (b _)
    (start_complete s.offset s.phase ts rest h))))))))
item_complete limits (Other (Holds d)) ts rest is h =
    let b = (first h).begins in
    past _ (b _) (past _ (b _) (past _ (b _) (past _ (b _) (past _ (b _) (past _ (b _) (past _ (b _) (past _ (b _) (here _ (b _)
    (hold_complete limits d ts rest is.0 h)))))))))
item_complete limits (Other (Rules r)) ts rest is h = absurd is.1
item_complete limits (Rule sort phase body) ts rest is h = rule_item_complete limits sort phase body ts rest is h

item_opens : (k : Symbol) (x : TextItem) (ts rest : List Token) → Spans (text_item_spelling x) ts rest → begins (kind.Symbol k) ts ≡ false
item_opens k (Other (Declares (declaration.In n))) ts rest h = (first h).begins _
item_opens k (Other (Declares (declaration.Out n))) ts rest h = (first h).begins _
item_opens k (Other (Declares (declaration.Var v))) ts rest h = (first h).begins _
item_opens k (Other (Declares (declaration.Flag f))) ts rest h = (first h).begins _
item_opens k (Other (Declares (declaration.Held c))) ts rest h = (first h).begins _
item_opens k (Other (Lists p)) ts rest h = (first h).begins _
item_opens k (Other (Starts s)) ts rest h = (first h).begins _
item_opens k (Other (Holds d)) ts rest h = (first h).begins _
item_opens k (Other (Rules r)) ts rest h = (first h).begins _
item_opens k (Rule sort phase body) ts rest h = (first h).begins _

item_some : (x : TextItem) → 0 < length (text_item_spelling x)
item_some (Other (Declares (declaration.In n))) = omega arith
item_some (Other (Declares (declaration.Out n))) = omega arith
item_some (Other (Declares (declaration.Var v))) = omega arith
item_some (Other (Declares (declaration.Flag f))) = omega arith
item_some (Other (Declares (declaration.Held c))) = omega arith
item_some (Other (Lists p)) = omega arith
item_some (Other (Starts s)) = omega arith
item_some (Other (Holds d)) = omega arith
item_some (Other (Rules r)) = omega arith
item_some (Rule sort phase body) = omega arith

item_reader : (limits : Limits) → IsReaderFor (item_at limits) item_for text_item_spelling (IsTextItem limits) Always
item_reader limits = record { sound = item_sound limits; complete = λ x ts rest is h ends. item_complete limits x ts rest is h }

item_listed : IsListed text_item_spelling Always (kind.Symbol symbol.CloseBrace)
item_listed = record { opens = item_opens symbol.CloseBrace; before = λ x ts rest h. tt; at_stop = λ ts e. tt; some = item_some }

pub item_shortens : (limits : Limits) → Shortens (item_at limits)
item_shortens limits =
    shortens_for (item_at limits) item_for text_item_spelling (IsTextItem limits) Always (kind.Symbol symbol.CloseBrace)
    (item_reader limits) item_listed

pub further_name_shortens : Shortens further_name_at
further_name_shortens = shortens further_name_at _ _ Always (kind.Symbol symbol.Semicolon) further_reader further_listed

-- ---- Atomic models

items_reader : (limits : Limits) → IsReaderFor (braces_at (item_at limits)) (map item_for) (λ items. braces (flat_map text_item_spelling items))
    (AllByRecursion (IsTextItem limits)) Always
items_reader limits =
    braces_reader_for (item_at limits) item_for text_item_spelling (IsTextItem limits) Always (item_reader limits) item_listed

atomic_sound : (limits : Limits) (ts : List Token) (x : (Name × List AtomicItem) × List Token) → atomic_at limits ts ≡ Ok x
    → (items : List TextItem) × (map item_for items ≡ x.0.1) × Spans (text_model_spelling (TextAtomic x.0.0 items)) ts x.1
    × AllByRecursion (IsTextItem limits) items
unfolding atomic_at
atomic_sound limits ts x e =
    let a = then_ok _ _ _ e in
    let b = then_ok _ _ _ a.2 in
    let c = then_ok _ _ _ b.2 in
    let s = (items_reader limits).sound b.0.1 c.0 c.1 in
    subst (λ (y : (Name × List AtomicItem) × List Token). (items : List TextItem) × (map item_for items ≡ y.0.1)
    × Spans (text_model_spelling (TextAtomic y.0.0 items)) ts y.1 × AllByRecursion (IsTextItem limits) items) (ok_is _ _ c.2)
    (s.0, s.1, after_spans a.1 (name_spans b.1 s.2), s.3)

atomic_complete : (limits : Limits) (n : Name) (items : List TextItem) (ts rest : List Token) → AllByRecursion (IsTextItem limits) items
    → Spans (text_model_spelling (TextAtomic n items)) ts rest → atomic_at limits ts ≡ Ok ((n, map item_for items), rest)
unfolding atomic_at read_then
atomic_complete limits n items ts rest is h =
    let a = first h in
    let b = first_name n a.spelled in
    let c = (items_reader limits).complete items b.behind rest is b.spelled tt in
    rw (a.after, b.read, c) refl

-- ---- Coupled models

end_sound : (ts : List Token) (x : End × List Token) → end_at ts ≡ Ok x → Spans (end_spelling x.0) ts x.1
unfolding end_at
end_sound ts x e =
    elim (chosen _ _ _ _ e) [
      | inl p ↦
          let a = then_ok _ _ _ p.1 in
          let b = then_ok _ _ _ a.2 in
          let c = then_ok _ _ _ b.2 in
          subst (λ (y : End × List Token). Spans (end_spelling y.0) ts y.1) (ok_is _ _ c.2)
          (after_spans a.1 (after_spans b.1 (name_spans c.1 nothing)))
      | inr p ↦
          let a = then_ok _ _ _ p.1 in
          let b = then_ok _ _ _ a.2 in
          let c = then_ok _ _ _ b.2 in
          subst (λ (y : End × List Token). Spans (end_spelling y.0) ts y.1) (ok_is _ _ c.2)
          (name_spans a.1 (after_spans b.1 (name_spans c.1 nothing)))
    ]

end_complete : (part : Option Name) (port : Name) (ts rest : List Token)
    → Spans (part_name_spelling part ∷ sign symbol.Dot ∷ name port ∷ []) ts rest
    → end_at ts ≡ Ok (record { part = part; port = port }, rest)
unfolding end_at choose read_then
end_complete None port ts rest h =
    let a = first h in
    let b = first a.spelled in
    let c = first_name port b.spelled in
    rw (a.begins (kind.Keyword keyword.Itself), a.after, b.after, c.read, span_end c.spelled) refl
end_complete (Some part) port ts rest h =
    let a = first h in
    let n = first_name part h in
    let b = first n.spelled in
    let c = first_name port b.spelled in
    rw (a.begins (kind.Keyword keyword.Itself), n.read, b.after, c.read, span_end c.spelled) refl

abbrev ReadsCoupled : List Token → CoupledItem × List Token → Type 0
ReadsCoupled ts x = Spans (coupled_item_spelling x.0) ts x.1 × Unit {0}

part_sound : (ts : List Token) (x : Part × List Token) → part_at ts ≡ Ok x → ReadsCoupled ts (Contains x.0, x.1)
unfolding part_at
part_sound ts x e =
    let a = then_ok _ _ _ e in
    let b = then_ok _ _ _ a.2 in
    let c = then_ok _ _ _ b.2 in
    let d = then_ok _ _ _ c.2 in
    let f = then_ok _ _ _ d.2 in
    subst (λ (y : Part × List Token). ReadsCoupled ts (Contains y.0, y.1)) (ok_is _ _ f.2)
    (after_spans a.1 (name_spans b.1 (after_spans c.1 (name_spans d.1 (after_spans f.1 nothing)))), tt)

link_sound : (ts : List Token) (x : Link × List Token) → link_at ts ≡ Ok x → ReadsCoupled ts (Couples x.0, x.1)
unfolding link_at
link_sound ts x e =
    let a = then_ok _ _ _ e in
    let b = then_ok _ _ _ a.2 in
    let c = then_ok _ _ _ b.2 in
    let d = then_ok _ _ _ c.2 in
    let f = then_ok _ _ _ d.2 in
    subst (λ (y : Link × List Token). ReadsCoupled ts (Couples y.0, y.1)) (ok_is _ _ f.2) (
      after_spans_at a.1 (then_spans (end_sound a.0 b.0 b.1)
          (after_spans c.1 (then_spans (end_sound c.0 d.0 d.1) (after_spans f.1 nothing)))),
      tt,
    )

coupled_item_sound : (ts : List Token) (x : CoupledItem × List Token) → coupled_item_at ts ≡ Ok x → ReadsCoupled ts x
unfolding coupled_item_at
coupled_item_sound ts x e =
    elim (chosen _ _ _ _ e) [
      | inl o ↦
          let a = then_ok _ _ _ o.1 in
          let s = (port_reader keyword.In).sound ts a.0 a.1 in
          subst (ReadsCoupled ts) (ok_is _ _ a.2) (s.0, tt)
      | inr o ↦ elim (chosen _ _ _ _ o.1) [
        | inl p ↦
            let a = then_ok _ _ _ p.1 in
            let s = (port_reader keyword.Out).sound ts a.0 a.1 in
            subst (ReadsCoupled ts) (ok_is _ _ a.2) (s.0, tt)
        | inr p ↦ elim (chosen _ _ _ _ p.1) [
          | inl q ↦ let a = then_ok _ _ _ q.1 in subst (ReadsCoupled ts) (ok_is _ _ a.2) (part_sound ts a.0 a.1)
          | inr q ↦ let a = then_ok _ _ _ q.1 in subst (ReadsCoupled ts) (ok_is _ _ a.2) (link_sound ts a.0 a.1)
        ]
      ]
    ]

part_complete : (p : Part) (ts rest : List Token) → Spans (coupled_item_spelling (Contains p)) ts rest → part_at ts ≡ Ok (p, rest)
unfolding part_at read_then
part_complete p ts rest h =
    let a = first h in
    let b = first_name p.name a.spelled in
    let c = first b.spelled in
    let d = first_name p.model c.spelled in
    let f = first d.spelled in
    rw (a.after, b.read, c.after, d.read, f.after, span_end f.spelled) refl

link_complete : (l : Link) (ts rest : List Token) → Spans (coupled_item_spelling (Couples l)) ts rest → link_at ts ≡ Ok (l, rest)
unfolding link_at read_then
link_complete l ts rest h =
    let a = first h in
    let s = split (end_spelling l.from) (sign symbol.Arrow ∷ (end_spelling l.to ++ semicolon)) a.spelled in
    let source = end_complete l.from.part l.from.port a.behind s.0 s.1 in
    let b = first s.2 in
    let t = split (end_spelling l.to) semicolon b.spelled in
    let target = end_complete l.to.part l.to.port b.behind t.0 t.1 in
    let c = first t.2 in
    rw (a.after, source, b.after, target, c.after, a.offset, span_end c.spelled) refl

coupled_item_complete : (x : CoupledItem) (ts rest : List Token) → Spans (coupled_item_spelling x) ts rest
    → coupled_item_at ts ≡ Ok (x, rest)
unfolding coupled_item_at read_then
coupled_item_complete (Inputs n) ts rest h =
    here _ ((first h).begins _) (rw ((port_reader keyword.In).complete n ts rest tt h tt) refl)
coupled_item_complete (Outputs n) ts rest h =
    let b = (first h).begins in
    past _ (b _) (here _ (b _) (rw ((port_reader keyword.Out).complete n ts rest tt h tt) refl))
coupled_item_complete (Contains p) ts rest h =
    let b = (first h).begins in
    past _ (b _) (past _ (b _) (here _ (b _) (rw (part_complete p ts rest h) refl)))
coupled_item_complete (Couples l) ts rest h =
    let b = (first h).begins in
    past _ (b _) (past _ (b _) (past _ (b _) (rw (link_complete l ts rest h) refl)))

coupled_item_opens : (x : CoupledItem) (ts rest : List Token) → Spans (coupled_item_spelling x) ts rest
    → begins (kind.Symbol symbol.CloseBrace) ts ≡ false
coupled_item_opens (Inputs n) ts rest h = (first h).begins _
coupled_item_opens (Outputs n) ts rest h = (first h).begins _
coupled_item_opens (Contains p) ts rest h = (first h).begins _
coupled_item_opens (Couples l) ts rest h = (first h).begins _

coupled_item_some : (x : CoupledItem) → 0 < length (coupled_item_spelling x)
coupled_item_some (Inputs n) = omega arith
coupled_item_some (Outputs n) = omega arith
coupled_item_some (Contains p) = omega arith
coupled_item_some (Couples l) = omega arith

coupled_item_reader : IsReader coupled_item_at coupled_item_spelling (λ x. Unit {0}) Always
coupled_item_reader = record { sound = coupled_item_sound; complete = λ x ts rest is h ends. coupled_item_complete x ts rest h }

coupled_item_listed : IsListed coupled_item_spelling Always (kind.Symbol symbol.CloseBrace)
coupled_item_listed = record { opens = coupled_item_opens; before = λ x ts rest h. tt; at_stop = λ ts e. tt; some = coupled_item_some }

pub coupled_item_shortens : Shortens coupled_item_at
coupled_item_shortens =
    shortens coupled_item_at coupled_item_spelling (λ x. Unit {0}) Always
    (kind.Symbol symbol.CloseBrace) coupled_item_reader coupled_item_listed

coupled_items_reader : IsReader (braces_at coupled_item_at) (λ items. braces (flat_map coupled_item_spelling items))
    (AllByRecursion (λ x. Unit {0})) Always
coupled_items_reader = braces_reader coupled_item_at coupled_item_spelling (λ x. Unit {0}) Always coupled_item_reader coupled_item_listed

coupled_sound : (ts : List Token) (x : (Name × List CoupledItem) × List Token) → coupled_at ts ≡ Ok x
    → Spans (text_model_spelling (TextCoupled x.0.0 x.0.1)) ts x.1
unfolding coupled_at
coupled_sound ts x e =
    let a = then_ok _ _ _ e in
    let b = then_ok _ _ _ a.2 in
    let c = then_ok _ _ _ b.2 in
    let s = coupled_items_reader.sound b.0.1 c.0 c.1 in
    subst (λ (y : (Name × List CoupledItem) × List Token). Spans (text_model_spelling (TextCoupled y.0.0 y.0.1)) ts y.1) (ok_is _ _ c.2)
    (after_spans a.1 (name_spans b.1 s.0))

coupled_complete : (n : Name) (items : List CoupledItem) (ts rest : List Token) → Spans (text_model_spelling (TextCoupled n items)) ts rest
    → coupled_at ts ≡ Ok ((n, items), rest)
unfolding coupled_at read_then
coupled_complete n items ts rest h =
    let a = first h in
    let b = first_name n a.spelled in
    let c = coupled_items_reader.complete items b.behind rest (all_any items) b.spelled tt in
    rw (a.after, b.read, c) refl

-- ---- Files

abbrev ReadsModel : Limits → List Token → WrittenModel × List Token → Type 0
ReadsModel limits ts x =
    (model : TextModel) × (model_for model ≡ x.0) × Spans (text_model_spelling model) ts x.1 × IsTextModel limits model

model_sound : (limits : Limits) (ts : List Token) (x : WrittenModel × List Token) → model_at limits ts ≡ Ok x → ReadsModel limits ts x
unfolding model_at
model_sound limits ts x e =
    elim (chosen _ _ _ _ e) [
      | inl p ↦
          let a = then_ok _ _ _ p.1 in
          subst (ReadsModel limits ts) (ok_is _ _ a.2) (TextCoupled a.0.0.0 a.0.0.1, refl, coupled_sound ts a.0 a.1, tt)
      | inr p ↦
          let a = then_ok _ _ _ p.1 in
          let s = atomic_sound limits ts a.0 a.1 in
          subst (ReadsModel limits ts) (ok_is _ _ a.2) (TextAtomic a.0.0.0 s.0, ap (WrittenAtomic a.0.0.0) s.1, s.2, s.3)
    ]

model_complete : (limits : Limits) (x : TextModel) (ts rest : List Token) → IsTextModel limits x → Spans (text_model_spelling x) ts rest
    → model_at limits ts ≡ Ok (model_for x, rest)
unfolding model_at choose read_then
model_complete limits (TextAtomic n items) ts rest is h =
    rw ((first h).begins (kind.Keyword keyword.Coupled), atomic_complete limits n items ts rest is h) refl
model_complete limits (TextCoupled n items) ts rest is h =
    rw ((first h).begins (kind.Keyword keyword.Coupled), coupled_complete n items ts rest h) refl

model_opens : (x : TextModel) (ts rest : List Token) → Spans (text_model_spelling x) ts rest
    → begins (kind.Keyword keyword.Root) ts ≡ false
model_opens (TextAtomic n items) ts rest h = (first h).begins _
model_opens (TextCoupled n items) ts rest h = (first h).begins _

model_some : (x : TextModel) → 0 < length (text_model_spelling x)
model_some (TextAtomic n items) = omega arith
model_some (TextCoupled n items) = omega arith

model_reader : (limits : Limits) → IsReaderFor (model_at limits) model_for text_model_spelling (IsTextModel limits) Always
model_reader limits = record { sound = model_sound limits; complete = λ x ts rest is h ends. model_complete limits x ts rest is h }

model_listed : IsListed text_model_spelling Always (kind.Keyword keyword.Root)
model_listed = record { opens = model_opens; before = λ x ts rest h. tt; at_stop = λ ts e. tt; some = model_some }

pub model_shortens : (limits : Limits) → Shortens (model_at limits)
model_shortens limits =
    shortens_for (model_at limits) model_for text_model_spelling (IsTextModel limits) Always (kind.Keyword keyword.Root)
    (model_reader limits) model_listed

models_reader : (limits : Limits) → IsReaderFor (many_at (model_at limits) (kind.Keyword keyword.Root)) (map model_for)
    (flat_map text_model_spelling) (AllByRecursion (IsTextModel limits)) (λ rest. begins (kind.Keyword keyword.Root) rest ≡ true)
models_reader limits = many_reader_for (model_at limits) model_for text_model_spelling (IsTextModel limits) Always (model_reader limits)
    (kind.Keyword keyword.Root) model_listed

end_of : (ts : List Token) → is_end ts ≡ true → ts ≡ []
end_of [] e = refl
end_of (t ∷ ts) e = absurd cc

-- ---- Headers

version_spans : {ss : List Spelled} {ts rest : List Token} {x : Version × List Token} → version_at ts ≡ Ok x → Spans ss x.1 rest
    → Spans (Anywhere (kind.Number (version_number x.0)) ∷ ss) ts rest
unfolding version_at
version_spans {ss = ss} {ts = ts} {rest = rest} {x = x} e =
    elim (chosen _ _ _ _ e) [
      | inl p ↦
          let a = then_ok _ _ _ p.1 in
          subst (λ (y : Version × List Token). Spans ss y.1 rest → Spans (Anywhere (kind.Number (version_number y.0)) ∷ ss) ts rest)
          (ok_is _ _ a.2) (λ h. after_spans a.1 h)
      | inr p ↦ elim (chosen _ _ _ _ p.1) [
        | inl q ↦
            let a = then_ok _ _ _ q.1 in
            subst (λ (y : Version × List Token). Spans ss y.1 rest → Spans (Anywhere (kind.Number (version_number y.0)) ∷ ss) ts rest)
            (ok_is _ _ a.2) (λ h. after_spans a.1 h)
        | inr q ↦
            let a = then_ok _ _ _ q.1 in
            subst (λ (y : Version × List Token). Spans ss y.1 rest → Spans (Anywhere (kind.Number (version_number y.0)) ∷ ss) ts rest)
            (ok_is _ _ a.2) (λ h. after_spans a.1 h)
      ]
    ]

header_sound : (ts : List Token) (x : Option Version × List Token) → header_at ts ≡ Ok x → Spans (header_spelling x.0) ts x.1
unfolding header_at
header_sound ts x e =
    elim (chosen _ _ _ _ e) [
      | inl p ↦
          let a = then_ok _ _ _ p.1 in
          let b = then_ok _ _ _ a.2 in
          let c = then_ok _ _ _ b.2 in
          let last : Spans [] c.0 c.0 = record { spells = refl } in
          subst (λ (y : Option Version × List Token). Spans (header_spelling y.0) ts y.1) (ok_is _ _ c.2)
          (after_spans a.1 (version_spans b.1 (after_spans c.1 last)))
      | inr p ↦
          let none : Spans [] ts ts = record { spells = refl } in
          subst (λ (y : Option Version × List Token). Spans (header_spelling y.0) ts y.1) (ok_is _ _ p.1) none
    ]

first_version : (v : Version) {ss : List Spelled} {ts rest : List Token} → Spans (Anywhere (kind.Number (version_number v)) ∷ ss) ts rest
    → FirstRead version_at v ss ts rest
unfolding version_at read_then
first_version version.First h =
    let f = first h in
    record { behind = f.behind; read = here _ (f.begins _) (rw f.after refl); spelled = f.spelled }
first_version version.Second h =
    let f = first h in
    record { behind = f.behind; read = past _ (f.begins _) (here _ (f.begins _) (rw f.after refl)); spelled = f.spelled }
first_version version.Third h =
    let f = first h in
    record { behind = f.behind; read = past _ (f.begins _) (past _ (f.begins _) (rw f.after refl)); spelled = f.spelled }

-- no header follows
abbrev pub NoHeader : List Token → Type 0
NoHeader rest = begins (kind.Keyword keyword.Version) rest ≡ false

header_complete : (h : Option Version) (ts rest : List Token) → Spans (header_spelling h) ts rest → NoHeader rest
    → header_at ts ≡ Ok (h, rest)
unfolding header_at choose read_then
header_complete None ts rest s ends = rw (subst NoHeader (sym s.spells) ends, s.spells) refl
header_complete (Some v) ts rest s ends =
    let a = first s in
    let b = first_version v a.spelled in
    let c = first b.spelled in
    rw (a.begins (kind.Keyword keyword.Version), a.after, b.read, c.after, c.spelled.spells) refl

-- what follows a header is none
no_header : (ms : List TextModel) (ss : List Spelled) {ts rest : List Token}
    → Spans (flat_map text_model_spelling ms ++ word keyword.Root ∷ ss) ts rest → NoHeader ts
no_header [] ss h = (first h).begins _
no_header (TextAtomic n items ∷ ms) ss h = (first h).begins _
no_header (TextCoupled n items ∷ ms) ss h = (first h).begins _

pub file_sound : (limits : Limits) (ts : List Token) (f : WrittenFile) → file_at limits ts ≡ Ok f → IsWritten limits ts f
unfolding file_at
file_sound limits ts f e =
    let z = then_ok _ _ _ e in
    let a = then_ok _ _ _ z.2 in
    let b = then_ok _ _ _ a.2 in
    let c = then_ok _ _ _ b.2 in
    let d = then_ok _ _ _ c.2 in
    elim (chosen _ _ _ _ d.2) [
      | inl p ↦
          let s = (models_reader (limits_behind limits z.0.0)).sound z.0.1 a.0 a.1 in
          let last : Spans [] d.0 [] = record { spells = end_of d.0 p.0 } in
          let h = then_spans (header_sound ts z.0 z.1) (then_spans s.2 (after_spans b.1 (name_spans c.1 (after_spans d.1 last)))) in
          let file : (models : List WrittenModel) → WrittenFile =
          λ models. record { header = z.0.0; models = models; root = c.0.0 } in
          subst (IsWritten limits ts) (ok_is _ _ p.1) (record {
            text = record { header = z.0.0; models = s.0; root = c.0.0 };
            spelled = h.spells;
            models = s.3;
            file = sym (ap file s.1);
          })
      | inr p ↦ absurd (err_ok _ _ p.1)
    ]

text_complete : (limits : Limits) (ts : List Token) (t : TextFile) → Spells (text_spelling t) ts []
    → AllByRecursion (IsTextModel (limits_behind limits t.header)) t.models → file_at limits ts ≡ Ok (file_for t)
unfolding file_at choose read_then
text_complete limits ts t spelled are =
    let h : Spans (text_spelling t) ts [] = record { spells = spelled } in
    let z = split (header_spelling t.header) (flat_map text_model_spelling t.models ++ word keyword.Root ∷ name t.root ∷ semicolon) h in
    let s = split (flat_map text_model_spelling t.models) (word keyword.Root ∷ name t.root ∷ semicolon) z.2 in
    let a = first s.2 in
    let b = first_name t.root a.spelled in
    let c = first b.spelled in
    let o = header_complete t.header ts z.0 z.1 (no_header t.models (name t.root ∷ semicolon) z.2) in
    let m = (models_reader (limits_behind limits t.header)).complete t.models z.0 s.0 are s.1 (a.begins (kind.Keyword keyword.Root)) in
    rw (o, m, a.after, b.read, c.after, span_end c.spelled) refl

pub file_complete : (limits : Limits) (ts : List Token) (f : WrittenFile) → IsWritten limits ts f → file_at limits ts ≡ Ok f
file_complete limits ts f is = text_complete limits ts is.text is.spelled is.models ∙ ap Ok (sym is.file)

pub file_unique : (ts : List Token) (f g : FileTree) → IsFileOf ts f → IsFileOf ts g → f ≡ g
file_unique ts f g p q =
    let same : p.written ≡ q.written =
    ok_is _ _ (sym (file_complete the_limits ts p.written p.read) ∙ file_complete the_limits ts q.written q.read) in
    p.tree ∙ ap sorted same ∙ sym q.tree

pub file_refused : (limits : Limits) (ts : List Token) (o : Obstacle) → file_at limits ts ≡ Err o → (f : FileTree)
    → IsFileWithin limits ts f → ⊥
file_refused limits ts o e f is = err_ok o is.written (sym e ∙ file_complete limits ts is.written is.read)
