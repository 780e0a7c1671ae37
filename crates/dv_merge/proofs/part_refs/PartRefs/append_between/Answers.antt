use Rattle.std.proofs.Common.{◌≡◌, List, [], ◌++◌, not, ap, ap₂, ◌∙◌, rules}
use Rattle.std.specs.List.{filter}
use Rattle.dv_time.specs.Time.{is_before}
use Rattle.dv_bag.specs.Part.{PartOf, before, since}
use Rattle.dv_bag.specs.declared.entry.Entry.{Entry}
use Rattle.dv_bag.specs.declared.entry.Outer.{Outer}
use Rattle.dv_merge.proofs.part_refs.PartRefs.append_between.Goals as goal

pub returns : goal.returns
returns g c =
    let early = λ (e : Entry). is_before e.time c.args.upto in
    let kept = λ (e : Entry). not (is_before e.time c.args.from) in
    let entries = c.in_ok-push_span.ensures
    ∙ ap₂ (λ (a b : List Entry). a ++ b) (ap (λ (p : PartOf). p.entries) c.self.view_is)
    (c.between-span.ensures ∙ ap (λ (es : List Entry). filter kept (filter early es)) c.entries.ensures) in
    let copied : c.in_ok-outer.outer.items ≡ c.lines_between.result.now = search rules in
    let outer : c.append.new.self.items ≡ c.self.inside.outer.items ++ c.in_ok-outer.outer.items = search rules in
    ap₂ (λ (es : List Entry) (os : List Outer). record { entries = es; outer = os }) entries
    (outer ∙ ap₂ (λ (a b : List Outer). a ++ b) (ap (λ (p : PartOf). p.outer) c.self.view_is)
    (copied ∙ c.lines_between.ensures
    ∙ ap (λ (os : List Outer). (since c.args.from (before c.args.upto (record { entries = []; outer = os }))).outer) c.outer.ensures))
