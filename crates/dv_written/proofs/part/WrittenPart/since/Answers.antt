use Rattle.std.proofs.Common.{List, ap, ap₂, ◌∙◌, rules}
use Rattle.std.proofs.lemmas.Fn.{filter_same}
use Rattle.dv_bag.specs.Part.{PartOf, since}
use Rattle.dv_bag.specs.declared.entry.Entry.{Entry}
use Rattle.dv_bag.specs.declared.entry.Outer.{Outer}
use Rattle.dv_written.proofs.part.WrittenPart.since.Goals as goal

pub returns : goal.returns
returns g c =
    ap₂ (λ (es : List Entry) (os : List Outer). record { entries = es; outer = os })
    (ap (λ (p : PartOf). p.entries) (c.rest.view_is ∙ c.in_ok-rest.ensures))
    (filter_same _ _ _ (λ x b f' k. search rules) _ _ c.retain.ensures.filtered)
    ∙ ap (since c.args.time) c.self.view_is
