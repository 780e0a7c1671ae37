use Rattle.std.proofs.Common.{Bool, List, ◌&&◌, false, ap, get_or, nat_le, refl, subst, sym, ◌∙◌}
use Rattle.std.specs.Prelude.{pos}
use Rattle.dv_bag.specs.Inputs.{IsFrom, start_of}
use Rattle.dv_bag.specs.declared.inputs.Input.{Input}
use Rattle.dv_plan.proofs.KeptInputs.{comes_after, is_within}
use Rattle.dv_plan.proofs.led.led_inputs.Goals as goal

abbrev nothing : Input
nothing = record { time = start_of 0; port = 0; value = pos 0 }

pub push-requires-clause-not_before : goal.push-requires-clause-not_before
push-requires-clause-not_before c =
    let xs = c.as_slice-input-items.result.now in
    let i = c.loop-input.input-index in
    let x = get_or xs i nothing in
    let led = c.in_ok-led.led.items in
    comes_after (λ (j : Input). nat_le j.time.micro c.args.limit && get_or led j.port false) xs c.loop-input.kept i nothing x
    c.loop-input-test.true refl
    (sym (ap (λ (ls : List Bool). nat_le x.time.micro c.args.limit && get_or ls x.port false) c.deref.ensures.value)
    ∙ sym c.is_to_come.ensures ∙ c.if-is_to_come.true)
    c.loop-input.invariant
    (subst (λ (ys : List Input). IsFrom (start_of 0) ys) (sym c.as_slice-input-items.ensures.inputs) c.as_slice-input-items.ensures.by_time)

pub push-requires-clause-within : goal.push-requires-clause-within
push-requires-clause-within c =
    let xs = c.as_slice-input-items.result.now in
    let i = c.loop-input.input-index in
    let x = get_or xs i nothing in
    let led = c.in_ok-led.led.items in
    is_within (λ (j : Input). nat_le j.time.micro c.args.limit && get_or led j.port false) xs c.loop-input.kept i nothing x
    c.loop-input-test.true refl
    (sym (ap (λ (ls : List Bool). nat_le x.time.micro c.args.limit && get_or ls x.port false) c.deref.ensures.value)
    ∙ sym c.is_to_come.ensures ∙ c.if-is_to_come.true)
    c.loop-input.invariant
    (subst (λ (ys : List Input). IsFrom (start_of 0) ys) (sym c.as_slice-input-items.ensures.inputs) c.as_slice-input-items.ensures.by_time)
