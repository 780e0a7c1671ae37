use Rattle.std.proofs.Common.{take, ap, ◌∙◌, sym, arith}
use Rattle.std.specs.Fmt.{decimal}
use Rattle.dv_lines.proofs.stamp.Stamp.renew.Goals as goal

pub put_anew-requires-clause-there : goal.put_anew-requires-clause-there
put_anew-requires-clause-there c = λ some.
    let kept = c.digits_kept-front.ensures.kept some in
    ap (λ n. take n c.self.inside.bytes) kept.0
    ∙ c.self.invariant.2 (omega (arith, some, kept.0))
    ∙ ap decimal (sym kept.1)

pub put_anew-requires-clause-long : goal.put_anew-requires-clause-long
put_anew-requires-clause-long c = λ some.
    let kept = c.digits_kept-front.ensures.kept some in
    let long = c.self.invariant.1 (omega (arith, some, kept.0)) in
    omega (arith, long, kept.1)
