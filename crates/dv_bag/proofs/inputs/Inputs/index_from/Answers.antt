use Rattle.std.proofs.Common.{◌≡◌, ◌+◌, List, length, drop, ap, ◌∙◌, arith}
use Rattle.dv_bag.specs.Inputs.{inputs_before, is_passed}
use Rattle.dv_bag.specs.declared.inputs.Input.{Input}
use Rattle.dv_bag.proofs.InputLists.{before_within, passed_from}
use Rattle.dv_bag.proofs.inputs.Inputs.index_from.Goals as goal

pub rest-requires : goal.rest-requires
rest-requires c =
    let items = ap length (c.as_slice.ensures.value ∙ c.self.view_is) in
    omega (arith, before_within c.args.limit c.args.time c.args.self.now, c.requires)

-- what is passed by, in all
all : (c : goal.After-count_passed) → c.args.index + c.count_passed.result ≡ inputs_before c.args.limit c.args.self.now c.args.time
all c =
    let now = c.args.self.now in
    ap (λ n. c.args.index + n)
    (c.count_passed.ensures
    ∙ ap (λ (xs : List Input). inputs_before c.args.limit xs c.args.time)
    (c.rest.ensures ∙ ap (drop c.args.index) (c.as_slice.ensures.value ∙ c.self.view_is)))
    ∙ passed_from (is_passed c.args.limit c.args.time) now c.args.index c.requires

pub overflow_add-result : goal.overflow_add-result
overflow_add-result c =
    let items = ap length (c.as_slice.ensures.value ∙ c.self.view_is) in
    let fits = c.as_slice.ensures.len in
    omega (arith, all c, before_within c.args.limit c.args.time c.args.self.now)

pub returns : goal.returns
returns c = all c
