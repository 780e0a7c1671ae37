use Rattle.std.proofs.Common.{List, ◌++◌, sym, ap, ◌∙◌, append-nil, rules}
use Rattle.dv_bag.specs.declared.entry.Entry.{Entry}
use Rattle.dv_merge.specs.Entries.{merged}
use Rattle.dv_merge.proofs.Spans.{first_alone, first_goes_on, second_goes_on}
use Rattle.dv_merge.proofs.entries.next_span.Goals as goal

pub returns-in_default-head-clause-next : goal.returns-in_default-head-clause-next
returns-in_default-head-clause-next g c =
    first_alone c.args.first.now c.args.second.now _ _ (search rules) c.take_span-in_default-head.ensures.taken

pub returns-then-precedes-clause-next : goal.returns-then-precedes-clause-next
returns-then-precedes-clause-next g c =
    let part = c.take_before.result in
    let rest = merged c.args.first.now c.take_before.new.self in
    second_goes_on c.in-Some.head.now c.in-Some-head.other.now c.args.first.now part c.take_before.new.self c.args.second.now
    c.in-Some.ensures.some c.in-Some-head.ensures.some (sym c.precedes.ensures ∙ c.if-precedes.true)
    c.take_before.ensures.taken c.take_before.ensures.some c.take_before.ensures.before
    ∙ ap (λ (es : List Entry). es ++ rest) (sym (append-nil part))

pub returns-else-precedes-clause-next : goal.returns-else-precedes-clause-next
returns-else-precedes-clause-next g c =
    let taken = c.take_before-else-precedes in
    let rest = merged taken.new.self c.args.second.now in
    first_goes_on c.in-Some.head.now c.in-Some-head.other.now c.args.first.now taken.result taken.new.self c.args.second.now
    c.in-Some.ensures.some c.in-Some-head.ensures.some (sym c.precedes.ensures ∙ c.if-precedes.false)
    taken.ensures.taken taken.ensures.some taken.ensures.before
    ∙ ap (λ (es : List Entry). es ++ rest) (sym (append-nil taken.result))
