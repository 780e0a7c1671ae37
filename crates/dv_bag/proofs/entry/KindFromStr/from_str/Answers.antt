use Rattle.std.proofs.Common.{ℕ, List, [], ◌∷◌, ◌≢◌, ◌∙◌, ap, rules}
use Rattle.std.specs.Str.{bytes_eq}
use Rattle.dv_bag.specs.Words.{kind_word}
use Rattle.dv_bag.specs.declared.entry.Kind.{Kind}
use Rattle.dv_bag.specs.declared.entry.Kind.TheVariants.{Internal, External, Confluent}
use Rattle.dv_bag.proofs.Words.{AreOthers, all_differ, none_differs, one_more_differs, words_agree}
use Rattle.dv_bag.proofs.entry.KindFromStr.from_str.Goals as goal

abbrev kinds : List Kind
kinds = Internal ∷ External ∷ Confluent ∷ []

none_has : (word : List ℕ) → AreOthers kind_word word kinds → (kind : Kind) → word ≢ kind_word kind
none_has word others Internal = others 0 Internal (search rules)
none_has word others External = others 1 External (search rules)
none_has word others Confluent = others 2 Confluent (search rules)

pub loop-kind-init : goal.loop-kind-init
loop-kind-init c = none_differs kind_word _

pub returns-then-eq : goal.returns-then-eq
returns-then-eq c = words_agree _ _ (c.if-eq.ensures ∙ ap (λ w. bytes_eq w c.args.word.now) c.word.ensures)

pub loop-kind-preserved : goal.loop-kind-preserved
loop-kind-preserved c = one_more_differs kind_word _ kinds c.loop-kind.kind-index Internal c.loop-kind-test.true
    c.loop-kind.invariant (c.if-eq.ensures ∙ ap (λ w. bytes_eq w c.args.word.now) c.word.ensures)

pub returns : goal.returns
returns c = none_has _ (all_differ kind_word _ kinds c.loop-kind.kind-index c.loop-kind-test.false c.loop-kind.invariant)
