-- The readers of models and files complete them, and go further with greater limits on depth; so tokens that end too early
-- begin a file.
use Rattle.std.proofs.Common.{◌≡◌, List, [], ◌∷◌, ◌++◌, Option, Some, None, Ok, Err, refl, sym, ◌∙◌, inr}
use Rattle.dv_bag.specs.declared.discipline.Discipline.{Discipline}
use Rattle.dv_bag.specs.declared.discipline.Discipline.TheVariants as discipline
use Rattle.dv_lex.specs.declared.token.Token.{Token}
use Rattle.dv_lex.specs.declared.token.TokenKind.TheVariants as kind
use Rattle.dv_lex.specs.declared.token.Keyword.{Keyword}
use Rattle.dv_lex.specs.declared.token.Keyword.TheVariants as keyword
use Rattle.dv_lex.specs.declared.token.Symbol.TheVariants as symbol
use Rattle.dv_source.specs.Grammar.{limits_behind}
use Rattle.dv_syntax.specs.declared.tree.Version.{Version}
use Rattle.dv_syntax.specs.declared.tree.Version.TheVariants as version
use Rattle.dv_syntax.specs.declared.tree.Declaration.TheVariants as declaration
use Rattle.dv_syntax.specs.declared.tree.RuleSort.{RuleSort}
use Rattle.dv_syntax.specs.declared.tree.RuleSort.TheVariants as sort
use Rattle.dv_syntax.specs.Written.{Declares, Lists, Starts, Holds, Rules, Inputs, Outputs, Contains, Couples, WrittenModel}
use Rattle.dv_syntax.specs.Written.{WrittenAtomic, WrittenCoupled, WrittenFile, sorted}
use Rattle.dv_syntax.specs.Grammar.{Limits, discipline_word, sort_word}
use Rattle.dv_parser.specs.Reading.{Obstacle, Unexpected, Read, read_then, choose, after, name_at, obstacle_at, operator_of}
use Rattle.dv_parser.specs.Reading.{many_at, Reader, bound_at, variable_at, flag_at, collection_at, further_name_at, phases_at}
use Rattle.dv_parser.specs.Reading.{start_at, ticks_at, hold_at, rule_at, any_rule_at, port_at, item_at, atomic_at, end_at}
use Rattle.dv_parser.specs.Reading.{part_at, link_at, coupled_item_at, coupled_at, model_at, version_at, header_at, is_end, file_at}
use Rattle.dv_parser.proofs.Tokens.{then_is, then_err}
use Rattle.dv_parser.proofs.Models.{item_shortens, further_name_shortens, coupled_item_shortens, model_shortens, NoHeader, file_sound}
use Rattle.dv_parser.proofs.Expressions.{IsClosed}
use Rattle.dv_parser.proofs.Readers.{Always, later, same_chosen, err_kept}
use Rattle.law_dead_ends.specs.Refusals.{BeginsFileWithin}
use Rattle.law_dead_ends.proofs.Depths.{HaveRoom, AreWidened, deeper, widened, widened_behind}
use Rattle.law_dead_ends.proofs.Steady.{IsSteady, StopsThere}
use Rattle.law_dead_ends.proofs.Completions.{of_kind, a_number, a_name, a_sign, a_word, empty_braces, Unfinished, Completes, each}
use Rattle.law_dead_ends.proofs.Completions.{some_by_first}
use Rattle.law_dead_ends.proofs.Widening.{Widens, Refuse, by_first, leaves_at, leaves_widens, then_widens, choose_widens}
use Rattle.law_dead_ends.proofs.Widening.{after_widens, name_widens, number_widens, truth_widens, many_widens, braces_widens}
use Rattle.law_dead_ends.proofs.ExpressionReaders.{expression_widens}
use Rattle.law_dead_ends.proofs.StatementReaders.{block_widens}

-- ---- Atomic models

bound_widens : Widens bound_at bound_at Always (a_number ∷ [])
unfolding bound_at
bound_widens =
    choose_widens (kind.Symbol symbol.Minus)
    (after_widens (kind.Symbol symbol.Minus) _ _ (λ offset.
    then_widens _ _ number_widens (λ rest h. tt) (λ _ m. leaves_widens (record { minus = Some offset; magnitude = m }) Always)))
    (λ rest h. refl)
    (then_widens _ _ number_widens (λ rest h. tt) (λ _ m. leaves_widens (record { minus = None; magnitude = m }) Always))

variable_widens : Widens variable_at variable_at Always
    (a_word keyword.Var ∷ a_name ∷ a_sign symbol.Colon ∷ a_number ∷ a_sign symbol.Range ∷ a_number ∷ a_sign symbol.Equal ∷ a_number
    ∷ a_sign symbol.Semicolon ∷ [])
unfolding variable_at
variable_widens =
    after_widens (kind.Keyword keyword.Var) _ _ (λ _.
    then_widens _ _ name_widens (λ rest h. tt) (λ _ v.
    after_widens (kind.Symbol symbol.Colon) _ _ (λ _.
    then_widens _ _ bound_widens (λ rest h. tt) (λ _ low.
    after_widens (kind.Symbol symbol.Range) _ _ (λ _.
    then_widens _ _ bound_widens (λ rest h. tt) (λ _ high.
    after_widens (kind.Symbol symbol.Equal) _ _ (λ _.
    then_widens _ _ bound_widens (λ rest h. tt) (λ _ start.
    after_widens (kind.Symbol symbol.Semicolon) _ _ (λ _.
    leaves_widens (record { name = v; low = low; high = high; start = start }) Always)))))))))

flag_widens : Widens flag_at flag_at Always
    (a_word keyword.Flag ∷ a_name ∷ a_sign symbol.Equal ∷ a_word keyword.False ∷ a_sign symbol.Semicolon ∷ [])
unfolding flag_at
flag_widens =
    after_widens (kind.Keyword keyword.Flag) _ _ (λ _.
    then_widens _ _ name_widens (λ rest h. tt) (λ _ f.
    after_widens (kind.Symbol symbol.Equal) _ _ (λ _.
    then_widens _ _ truth_widens (λ rest h. tt) (λ _ start.
    after_widens (kind.Symbol symbol.Semicolon) _ _ (λ _. leaves_widens (record { name = f; start = start }) Always)))))

collection_widens : (d : Discipline) → Widens (collection_at d) (collection_at d) Always
    (a_word (discipline_word d) ∷ a_name ∷ a_number ∷ a_sign symbol.Semicolon ∷ [])
unfolding collection_at
collection_widens d =
    after_widens (kind.Keyword (discipline_word d)) _ _ (λ _.
    then_widens _ _ name_widens (λ rest h. tt) (λ _ c.
    then_widens _ _ number_widens (λ rest h. tt) (λ _ capacity.
    after_widens (kind.Symbol symbol.Semicolon) _ _ (λ _.
    leaves_widens (record { discipline = d; name = c; capacity = capacity }) Always))))

further_name_widens : Widens further_name_at further_name_at Always (a_sign symbol.Comma ∷ a_name ∷ [])
unfolding further_name_at
further_name_widens = after_widens (kind.Symbol symbol.Comma) _ _ (λ _. name_widens)

phases_widen : Widens phases_at phases_at Always (a_word keyword.Phases ∷ a_name ∷ a_sign symbol.Semicolon ∷ [])
unfolding phases_at
phases_widen =
    after_widens (kind.Keyword keyword.Phases) _ _ (λ offset.
    then_widens _ _ name_widens (λ rest h. tt) (λ _ p.
    then_widens _ _
    (many_widens (kind.Symbol symbol.Semicolon) further_name_shortens further_name_shortens further_name_widens (λ rest h. tt))
    (λ rest h. refl) (λ _ ps.
    after_widens (kind.Symbol symbol.Semicolon) _ _ (λ _. leaves_widens (Lists (record { offset = offset; names = p ∷ ps })) Always))))

start_widens : Widens start_at start_at Always (a_word keyword.Start ∷ a_name ∷ a_sign symbol.Semicolon ∷ [])
unfolding start_at
start_widens =
    after_widens (kind.Keyword keyword.Start) _ _ (λ offset.
    then_widens _ _ name_widens (λ rest h. tt) (λ _ p.
    after_widens (kind.Symbol symbol.Semicolon) _ _ (λ _. leaves_widens (Starts (record { offset = offset; phase = p })) Always)))

ticks_widen : (n w : Limits) → AreWidened n w → Widens (ticks_at n.expression) (ticks_at w.expression) IsClosed (a_number ∷ [])
unfolding ticks_at
ticks_widen n w g =
    choose_widens (kind.Keyword keyword.Forever)
    (after_widens (kind.Keyword keyword.Forever) _ _ (λ _. leaves_widens None IsClosed)) (λ rest h. refl)
    (then_widens _ _ (expression_widens n w g) (λ rest h. h) (λ _ e. leaves_widens (Some e) IsClosed))

hold_widens : (n w : Limits) → AreWidened n w
    → Widens (hold_at n.expression) (hold_at w.expression) Always (a_word keyword.Hold ∷ a_name ∷ a_sign symbol.Colon ∷ a_number ∷ a_sign symbol.Semicolon ∷ [])
unfolding hold_at operator_of
hold_widens n w g =
    after_widens (kind.Keyword keyword.Hold) _ _ (λ offset.
    then_widens _ _ name_widens (λ rest h. tt) (λ _ p.
    after_widens (kind.Symbol symbol.Colon) _ _ (λ _.
    then_widens _ _ (ticks_widen n w g) (λ rest h. refl) (λ _ ticks.
    after_widens (kind.Symbol symbol.Semicolon) _ _ (λ _.
    leaves_widens (Holds (record { offset = offset; phase = p; ticks = ticks })) Always)))))

rule_widens : (n w : Limits) → AreWidened n w → (sort : RuleSort)
    → Widens (rule_at n sort) (rule_at w sort) Always (a_word (sort_word sort) ∷ a_name ∷ empty_braces)
unfolding rule_at
rule_widens n w g sort =
    after_widens (kind.Keyword (sort_word sort)) _ _ (λ _.
    then_widens _ _ name_widens (λ rest h. tt) (λ _ p.
    then_widens _ _ (block_widens n w g n.block w.block n.loop w.loop g.room.block g.greater.block g.greater.loop) (λ rest h. tt) (λ _ body.
    leaves_widens (Rules (record { sort = sort; phase = p; body = body })) Always)))

any_rule_widens : (n w : Limits) → AreWidened n w
    → Widens (any_rule_at n) (any_rule_at w) Always (a_word keyword.Confluent ∷ a_name ∷ empty_braces)
unfolding any_rule_at
any_rule_widens n w g =
    choose_widens (kind.Keyword keyword.Output) (rule_widens n w g sort.Output) (λ rest h. refl)
    (choose_widens (kind.Keyword keyword.Internal) (rule_widens n w g sort.Internal) (λ rest h. refl)
    (choose_widens (kind.Keyword keyword.External) (rule_widens n w g sort.External) (λ rest h. refl)
    (rule_widens n w g sort.Confluent)))

port_widens : (k : Keyword) → Widens (port_at k) (port_at k) Always (a_word k ∷ a_name ∷ a_sign symbol.Semicolon ∷ [])
unfolding port_at
port_widens k =
    after_widens (kind.Keyword k) _ _ (λ _.
    then_widens _ _ name_widens (λ rest h. tt) (λ _ p.
    after_widens (kind.Symbol symbol.Semicolon) _ _ (λ _. leaves_widens p Always)))

item_widens : (n w : Limits) → AreWidened n w
    → Widens (item_at n) (item_at w) Always (a_word keyword.Confluent ∷ a_name ∷ empty_braces)
unfolding item_at
item_widens n w g =
    choose_widens (kind.Keyword keyword.In)
    (then_widens _ _ (port_widens keyword.In) (λ rest h. tt) (λ _ p. leaves_widens (Declares (declaration.In p)) Always)) (λ rest h. refl)
    (choose_widens (kind.Keyword keyword.Out)
    (then_widens _ _ (port_widens keyword.Out) (λ rest h. tt) (λ _ p. leaves_widens (Declares (declaration.Out p)) Always)) (λ rest h. refl)
    (choose_widens (kind.Keyword keyword.Var)
    (then_widens _ _ variable_widens (λ rest h. tt) (λ _ v. leaves_widens (Declares (declaration.Var v)) Always)) (λ rest h. refl)
    (choose_widens (kind.Keyword keyword.Flag)
    (then_widens _ _ flag_widens (λ rest h. tt) (λ _ f. leaves_widens (Declares (declaration.Flag f)) Always)) (λ rest h. refl)
    (choose_widens (kind.Keyword keyword.Bag)
    (then_widens _ _ (collection_widens discipline.Bag) (λ rest h. tt) (λ _ c. leaves_widens (Declares (declaration.Held c)) Always))
    (λ rest h. refl)
    (choose_widens (kind.Keyword keyword.Queue)
    (then_widens _ _ (collection_widens discipline.Queue) (λ rest h. tt) (λ _ c. leaves_widens (Declares (declaration.Held c)) Always))
    (λ rest h. refl)
    (choose_widens (kind.Keyword keyword.Phases) phases_widen (λ rest h. refl)
    (choose_widens (kind.Keyword keyword.Start) start_widens (λ rest h. refl)
    (choose_widens (kind.Keyword keyword.Hold) (hold_widens n w g) (λ rest h. refl) (any_rule_widens n w g)))))))))

atomic_widens : (n w : Limits) → AreWidened n w
    → Widens (atomic_at n) (atomic_at w) Always (a_word keyword.Atomic ∷ a_name ∷ empty_braces)
unfolding atomic_at
atomic_widens n w g =
    after_widens (kind.Keyword keyword.Atomic) _ _ (λ _.
    then_widens _ _ name_widens (λ rest h. tt) (λ _ name.
    then_widens _ _ (braces_widens (item_shortens n) (item_shortens w) (item_widens n w g) (λ rest h. tt)) (λ rest h. tt) (λ _ items.
    leaves_widens (name, items) Always)))

-- ---- Coupled models

end_widens : Widens end_at end_at Always (a_name ∷ a_sign symbol.Dot ∷ a_name ∷ [])
unfolding end_at
end_widens =
    choose_widens (kind.Keyword keyword.Itself)
    (after_widens (kind.Keyword keyword.Itself) _ _ (λ _.
    after_widens (kind.Symbol symbol.Dot) _ _ (λ _.
    then_widens _ _ name_widens (λ rest h. tt) (λ _ port. leaves_widens (record { part = None; port = port }) Always))))
    (λ rest h. refl)
    (then_widens _ _ name_widens (λ rest h. tt) (λ _ part.
    after_widens (kind.Symbol symbol.Dot) _ _ (λ _.
    then_widens _ _ name_widens (λ rest h. tt) (λ _ port. leaves_widens (record { part = Some part; port = port }) Always))))

part_widens : Widens part_at part_at Always (a_word keyword.Part ∷ a_name ∷ a_sign symbol.Colon ∷ a_name ∷ a_sign symbol.Semicolon ∷ [])
unfolding part_at
part_widens =
    after_widens (kind.Keyword keyword.Part) _ _ (λ _.
    then_widens _ _ name_widens (λ rest h. tt) (λ _ name.
    after_widens (kind.Symbol symbol.Colon) _ _ (λ _.
    then_widens _ _ name_widens (λ rest h. tt) (λ _ model.
    after_widens (kind.Symbol symbol.Semicolon) _ _ (λ _. leaves_widens (record { name = name; model = model }) Always)))))

-- the tokens of some link
abbrev a_link : List Token
a_link =
    a_word keyword.Link ∷ a_name ∷ a_sign symbol.Dot ∷ a_name ∷ a_sign symbol.Arrow ∷ a_name ∷ a_sign symbol.Dot ∷ a_name
    ∷ a_sign symbol.Semicolon ∷ []

link_widens : Widens link_at link_at Always a_link
unfolding link_at
link_widens =
    after_widens (kind.Keyword keyword.Link) _ _ (λ offset.
    then_widens _ _ end_widens (λ rest h. tt) (λ _ source.
    after_widens (kind.Symbol symbol.Arrow) _ _ (λ _.
    then_widens _ _ end_widens (λ rest h. tt) (λ _ target.
    after_widens (kind.Symbol symbol.Semicolon) _ _ (λ _. leaves_widens (record { offset = offset; from = source; to = target }) Always)))))

coupled_item_widens : Widens coupled_item_at coupled_item_at Always a_link
unfolding coupled_item_at
coupled_item_widens =
    choose_widens (kind.Keyword keyword.In)
    (then_widens _ _ (port_widens keyword.In) (λ rest h. tt) (λ _ p. leaves_widens (Inputs p) Always)) (λ rest h. refl)
    (choose_widens (kind.Keyword keyword.Out)
    (then_widens _ _ (port_widens keyword.Out) (λ rest h. tt) (λ _ p. leaves_widens (Outputs p) Always)) (λ rest h. refl)
    (choose_widens (kind.Keyword keyword.Part)
    (then_widens _ _ part_widens (λ rest h. tt) (λ _ p. leaves_widens (Contains p) Always)) (λ rest h. refl)
    (then_widens _ _ link_widens (λ rest h. tt) (λ _ l. leaves_widens (Couples l) Always))))

coupled_widens : Widens coupled_at coupled_at Always (a_word keyword.Coupled ∷ a_name ∷ empty_braces)
unfolding coupled_at
coupled_widens =
    after_widens (kind.Keyword keyword.Coupled) _ _ (λ _.
    then_widens _ _ name_widens (λ rest h. tt) (λ _ name.
    then_widens _ _ (braces_widens coupled_item_shortens coupled_item_shortens coupled_item_widens (λ rest h. tt)) (λ rest h. tt)
    (λ _ items. leaves_widens (name, items) Always)))

-- ---- Files

model_widens : (n w : Limits) → AreWidened n w
    → Widens (model_at n) (model_at w) Always (a_word keyword.Atomic ∷ a_name ∷ empty_braces)
unfolding model_at
model_widens n w g =
    choose_widens (kind.Keyword keyword.Coupled)
    (then_widens _ _ coupled_widens (λ rest h. tt) (λ _ m. leaves_widens (WrittenCoupled m.0 m.1) Always)) (λ rest h. refl)
    (then_widens _ _ (atomic_widens n w g) (λ rest h. tt) (λ _ m. leaves_widens (WrittenAtomic m.0 m.1) Always))

version_widens : Widens version_at version_at Always (of_kind (kind.Number 3) ∷ [])
unfolding version_at
version_widens =
    choose_widens (kind.Number 1) (after_widens (kind.Number 1) _ _ (λ _. leaves_widens version.First Always)) (λ rest h. refl)
    (choose_widens (kind.Number 2) (after_widens (kind.Number 2) _ _ (λ _. leaves_widens version.Second Always)) (λ rest h. refl)
    (after_widens (kind.Number 3) _ _ (λ _. leaves_widens version.Third Always)))

header_widens : Widens header_at header_at NoHeader []
unfolding header_at
header_widens =
    choose_widens (kind.Keyword keyword.Version)
    (after_widens (kind.Keyword keyword.Version) _ _ (λ _.
    then_widens _ _ version_widens (λ rest h. tt) (λ _ v.
    after_widens (kind.Symbol symbol.Semicolon) _ _ (λ _. leaves_widens (Some v) NoHeader))))
    (λ rest h. h)
    (leaves_widens None NoHeader)

-- nothing follows
abbrev Nothing : List Token → Type 0
Nothing rest = rest ≡ []

-- a file, and the tokens after it, of which there are none
last_at : WrittenFile → Reader WrittenFile
last_at f ts = choose (is_end ts) (Ok (f, ts)) (Err (obstacle_at ts))

last_completes : (f : WrittenFile) → Completes (last_at f) Nothing []
unfolding last_at choose obstacle_at
last_completes f = record {
  some = some_by_first (last_at f) Nothing (inr (f, refl)) (λ t. StopsThere (Unexpected t.offset) refl (λ ts. refl));
  filled = λ rest h. (f, rw h refl);
}

last_widens : (f : WrittenFile) → Widens (last_at f) (last_at f) Nothing []
unfolding last_at choose obstacle_at
last_widens f = record {
  narrow_completes = last_completes f;
  wide_completes = last_completes f;
  each = by_first (last_at f) (last_at f) (leaves_at _ _ [] f refl refl) (λ t. Refuse t.offset (λ ts. refl) (λ ts. refl));
}

root_at : Option Version → List WrittenModel → Reader WrittenFile
root_at header models ts = read_then (after (kind.Keyword keyword.Root) ts)
    (λ behind. read_then (name_at behind)
    (λ n. read_then (after (kind.Symbol symbol.Semicolon) n.1)
    (λ rest. last_at (record { header = header; models = models; root = n.0 }) rest)))

abbrev a_root : List Token
a_root = a_word keyword.Root ∷ a_name ∷ a_sign symbol.Semicolon ∷ []

root_widens : (header : Option Version) (models : List WrittenModel)
    → Widens (root_at header models) (root_at header models) Nothing a_root
unfolding root_at
root_widens header models =
    after_widens (kind.Keyword keyword.Root) _ _ (λ _.
    then_widens _ _ name_widens (λ rest h. tt) (λ _ name.
    after_widens (kind.Symbol symbol.Semicolon) _ _ (λ _. last_widens (record { header = header; models = models; root = name }))))

-- what follows a header
behind_at : Limits → Option Version → Reader WrittenFile
behind_at limits header ts =
    read_then (many_at (model_at (limits_behind limits header)) (kind.Keyword keyword.Root) ts) (λ x. root_at header x.0 x.1)

behind_widens : (n w : Limits) → AreWidened n w → (header : Option Version)
    → Widens (behind_at n header) (behind_at w header) Nothing a_root
unfolding behind_at
behind_widens n w g header =
    then_widens (λ _ models. root_at header models) (λ _ models. root_at header models)
    (many_widens (kind.Keyword keyword.Root) (model_shortens (limits_behind n header)) (model_shortens (limits_behind w header))
    (model_widens (limits_behind n header) (limits_behind w header) (widened_behind n w g header)) (λ rest h. tt)) (λ rest h. refl)
    (λ _ models. root_widens header models)

pub whole_at : Limits → Reader WrittenFile
whole_at limits ts = read_then (header_at ts) (λ x. behind_at limits x.0 x.1)

pub whole_widens : (n w : Limits) → AreWidened n w → Widens (whole_at n) (whole_at w) Nothing a_root
unfolding whole_at
whole_widens n w g =
    then_widens (λ _ header. behind_at n header) (λ _ header. behind_at w header) header_widens (λ rest h. refl)
    (λ _ header. behind_widens n w g header)

whole_completes : (limits : Limits) → HaveRoom limits → Completes (whole_at limits) Nothing a_root
whole_completes limits room = (whole_widens limits (deeper limits) (widened limits room)).narrow_completes

pub whole_steady : (limits : Limits) → HaveRoom limits → IsSteady (whole_at limits)
whole_steady limits room = (whole_completes limits room).some.steady

-- ---- A file of all the tokens

abbrev as_file : WrittenFile × List Token → Read WrittenFile
as_file x = Ok x.0

file_whole : (limits : Limits) (ts : List Token) → file_at limits ts ≡ read_then (whole_at limits ts) as_file
unfolding file_at whole_at behind_at root_at last_at read_then
file_whole limits ts =
    later (header_at ts) _ _ as_file (λ header.
    later (many_at (model_at (limits_behind limits header.0)) (kind.Keyword keyword.Root) header.1) _ _ as_file (λ models.
    later (after (kind.Keyword keyword.Root) models.1) _ _ as_file (λ behind.
    later (name_at behind) _ _ as_file (λ n.
    later (after (kind.Symbol symbol.Semicolon) n.1) _ _ as_file (λ rest.
    same_chosen (is_end rest) _ _ as_file _ _ refl refl)))))

pub whole_err : (limits : Limits) (ts : List Token) (o : Obstacle) → file_at limits ts ≡ Err o → whole_at limits ts ≡ Err o
whole_err limits ts o e = err_kept (whole_at limits ts) (λ x. x.0) o (sym (file_whole limits ts) ∙ e)

pub file_err : (limits : Limits) (ts : List Token) (o : Obstacle) → whole_at limits ts ≡ Err o → file_at limits ts ≡ Err o
file_err limits ts o e = file_whole limits ts ∙ then_err (whole_at limits ts) as_file o e

pub begins_file : (limits : Limits) → HaveRoom limits → (ts : List Token) → Unfinished (whole_at limits ts) → BeginsFileWithin limits ts
unfolding read_then
begins_file limits room ts u =
    let c = (each (whole_completes limits room) ts).completion u in
    let r = c.reads [] refl in
    let us : List Token = ts ++ (c.more ++ []) in
    let e : file_at limits us ≡ Ok r.0 = file_whole limits us ∙ then_is (whole_at limits us) as_file (r.0, []) r.1 in
    (c.more ++ [], sorted r.0, record { written = r.0; read = file_sound limits us r.0 e; tree = refl })
