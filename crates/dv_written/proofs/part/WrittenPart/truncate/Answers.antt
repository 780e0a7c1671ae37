use Rattle.std.proofs.Common.{ℕ, ◌-◌, List, length, take, drop, ap, ap₂, sym, ◌∙◌, arith}
use Rattle.std.proofs.lemmas.List.{take_rest}
use Rattle.std.specs.List.{flat_map}
use Rattle.dv_bag.specs.declared.entry.Entry.{Entry}
use Rattle.dv_written.proofs.Lines.{front_text, rest_shorter}
use Rattle.dv_written.proofs.part.WrittenPart.truncate.Goals as goal

pub text_length-requires : goal.text_length-requires
text_length-requires g c =
    let line = g.N.OfJob.line in
    let es = c.deref.result.now in
    let k = c.min-kept.result in
    let shorter = rest_shorter line es k in
    let rest = ap (λ (xs : List Entry). length (flat_map line xs)) (take_rest es k) in
    let whole =
    c.len-bytes.ensures ∙ ap length c.self.invariant ∙ ap (λ (xs : List Entry). length (flat_map line xs)) (sym c.deref.ensures.value) in
    omega (arith, shorter, rest, whole)

pub overflow_sub-bytes : goal.overflow_sub-bytes
overflow_sub-bytes g c =
    let line = g.N.OfJob.line in
    let es = c.deref.result.now in
    let k = c.min-kept.result in
    let shorter = rest_shorter line es k in
    let rest = c.text_length.ensures ∙ ap (λ (xs : List Entry). length (flat_map line xs)) (take_rest es k) in
    let whole =
    c.len-bytes.ensures ∙ ap length c.self.invariant ∙ ap (λ (xs : List Entry). length (flat_map line xs)) (sym c.deref.ensures.value) in
    omega (arith, shorter, rest, whole)

pub invariant_of-self : goal.invariant_of-self
invariant_of-self g c =
    let line = g.N.OfJob.line in
    let es = c.self.inside.entries.items in
    let k = c.min-kept.result in
    let rest =
    c.text_length.ensures
    ∙ ap (λ (xs : List Entry). length (flat_map line xs)) (take_rest c.deref.result.now k ∙ ap (drop k) c.deref.ensures.value) in
    let whole = c.len-bytes.ensures ∙ ap length c.self.invariant in
    c.cut.ensures
    ∙ ap₂ (λ (n : ℕ) (t : List ℕ). take n t) (ap₂ (λ (a b : ℕ). a - b) whole rest) c.self.invariant
    ∙ front_text line es k
    ∙ ap (flat_map line) (sym c.truncate.ensures.items)
