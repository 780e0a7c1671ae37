use Rattle.std.proofs.Common.{◌≡◌, ◌++◌, List, ℕ, ap, subst, ◌∙◌}
use Rattle.std.specs.Prelude.{OnOk}
use Rattle.dv_bag.specs.declared.entry.What.TheVariants as what
use Rattle.dv_lines.specs.Tables.{words_at}
use Rattle.dv_record.specs.Told.{entry}
use Rattle.dv_lines.specs.Words.{WordTexts, line_words}
use Rattle.dv_lines.proofs.told.faulted.Goals as goal

pub returns-clause-ok : goal.returns-clause-ok
returns-clause-ok c = λ all named.
    let told = entry c.args.now c.args.component (what.Fault c.args.fault) c.args.sent.now in
    let words = c.of.ensures ∙ ap (λ (rows : List WordTexts). words_at rows c.args.component) named in
    subst (λ (t : List ℕ). OnOk c.faulted.result (c.faulted.new.self ≡ c.args.lines.now ++ t))
    (ap (λ (w : WordTexts). line_words w told.time told.what told.sent) words ∙ c.words_say_the_names.ensures.entry all told)
    c.faulted.ensures.ok
