-- The set keeps strings, and the table is seen as their bytes.
use Rattle.std.proofs.Common.{◌≡◌, ap, sym, ◌∙◌, map, string_bytes}
use Rattle.dv_lex.specs.Table.{number_of, with_name}
use Rattle.dv_lex.proofs.TableLemmas.{number_of-found, with_name-found, number_of-added, with_name-added}
use Rattle.dv_lex.proofs.names.Names.number.Goals as goal

pub returns-in-Some-clause-number : goal.returns-in-Some-clause-number
returns-in-Some-clause-number c =
    number_of-found c.self.inside.texts.keys c.args.text.now c.in-Some.index c.in-Some.ensures.index ∙ ap
    (λ ns. number_of ns c.args.text.now) c.self.view_is

pub returns-in-Some-clause-added : goal.returns-in-Some-clause-added
returns-in-Some-clause-added c =
    rw (← c.self.view_is) (with_name-found c.self.inside.texts.keys c.args.text.now c.in-Some.ensures.found)

abbrev view_after : (c : goal.In_ok-index) → map string_bytes c.insert_full.new.self.keys ≡ with_name c.args.self.now c.args.text.now
view_after c =
    ap (map string_bytes) c.in_ok-index.ensures.keys ∙
    (with_name-added c.self.inside.texts.keys c.in_ok-from_str.field-0 c.args.text.now c.in_ok-from_str.ensures.ok ∙ ap
    (λ ns. with_name ns c.args.text.now) c.self.view_is)

pub returns-clause-number : goal.returns-clause-number
returns-clause-number c =
    c.in_ok-index.ensures.index ∙
    (number_of-added c.self.inside.texts.keys c.in_ok-from_str.field-0 c.args.text.now c.in_ok-from_str.ensures.ok ∙ ap
    (λ ns. number_of (with_name ns c.args.text.now) c.args.text.now) c.self.view_is ∙ ap (λ ns. number_of ns c.args.text.now)
    (sym (view_after c)))

pub returns-clause-added : goal.returns-clause-added
returns-clause-added c = view_after c
