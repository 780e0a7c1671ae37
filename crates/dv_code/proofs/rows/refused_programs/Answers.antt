use Rattle.std.proofs.Common.{List, length, refl, ap, arith}
use Rattle.dv_bag.specs.declared.value.ValueType.{ValueType}
use Rattle.dv_code.specs.Valid.{Mark}
use Rattle.dv_code.proofs.rows.refused_programs.Goals as goal

pub returns-clause-value_left_in_body : goal.returns-clause-value_left_in_body
returns-clause-value_left_in_body c depth valid =
    let push = (valid.each 1 _ refl).agrees in
    let next = (valid.each 2 _ refl).agrees in
    let after = ap (λ (m : Mark). length m.types) push.1.1 in
    let none = ap (λ (ts : List ValueType). length ts) next.1 in
    omega (arith, after, none)

pub returns-clause-jump_into_body : goal.returns-clause-jump_into_body
returns-clause-jump_into_body c depth valid =
    let jump = (valid.each 1 _ refl).agrees in
    let loop = (valid.each 2 _ refl).agrees in
    let push = (valid.each 3 _ refl).agrees in
    let perform = (valid.each 4 _ refl).agrees in
    let at_2 = ap (λ (m : Mark). length m.nest) jump.3.1 in
    let at_3 = ap (λ (m : Mark). length m.nest) loop.2.1 in
    let at_4 = ap (λ (m : Mark). length m.nest) push.1.1 in
    let at_5 = ap (λ (m : Mark). length m.nest) perform.3.1 in
    let target = ap (λ (m : Mark). length m.nest) jump.4.1 in
    omega (arith, at_2, at_3, at_4, at_5, target)

pub returns-clause-jump_to_itself : goal.returns-clause-jump_to_itself
returns-clause-jump_to_itself c depth valid = let jump = (valid.each 0 _ refl).agrees in omega (arith, jump.0)

pub returns-clause-number_for_truth : goal.returns-clause-number_for_truth
returns-clause-number_for_truth c depth valid =
    let push = (valid.each 0 _ refl).agrees in
    let jump = (valid.each 1 _ refl).agrees in
    let number = ap (λ (m : Mark). m.types) push.1.1 in
    let truth = jump.1 in
    absurd (cc (number, truth))

pub returns-clause-value_left_at_end : goal.returns-clause-value_left_at_end
returns-clause-value_left_at_end c depth valid =
    let push = (valid.each 0 _ refl).agrees in
    let ending = (valid.each 1 _ refl).agrees in
    let after = ap (λ (m : Mark). length m.types) push.1.1 in
    let none = ap (λ (ts : List ValueType). length ts) ending.0 in
    omega (arith, after, none)

pub returns-clause-two_ends : goal.returns-clause-two_ends
returns-clause-two_ends c depth valid = let ending = (valid.each 0 _ refl).agrees in omega (arith, ending.2)

pub returns-clause-front_of_bag : goal.returns-clause-front_of_bag
returns-clause-front_of_bag c depth valid = let push = (valid.each 0 _ refl).agrees in absurd (cc (push.0.1))

pub returns-clause-pop_in_output : goal.returns-clause-pop_in_output
returns-clause-pop_in_output c depth valid = let pop = (valid.each 0 _ refl).agrees in absurd (cc (pop.0.1))
