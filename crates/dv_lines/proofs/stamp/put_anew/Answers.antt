use Rattle.std.proofs.Common.{◌++◌, ◌∷◌, take, ap, ◌∙◌, arith}
use Rattle.std.specs.Fmt.{decimal}
use Rattle.dv_lines.proofs.Stamps.{all_digits, first_digits, is_long}
use Rattle.dv_lines.proofs.stamp.put_anew.Goals as goal

pub returns-clause-next_long : goal.returns-clause-next_long
returns-clause-next_long c = λ some.
    let put = c.in_ok-at.ensures.text in
    let more = c.in_ok-end.ensures.text in
    let count = all_digits c.args.tick c.in_ok-at.at c.in_ok-end.end c.put_tick.new.to c.put_micro.new.to (46 ∷ decimal c.args.micro)
    c.ranges.tick.fits put.0 put.1 more.0 more.1 in
    is_long c.args.tick c.in_ok-at.at c.ranges.tick.fits count (omega (arith, some, c.saturating_sub-front.ensures))

pub returns-clause-next_there : goal.returns-clause-next_there
returns-clause-next_there c = λ some.
    let put = c.in_ok-at.ensures.text in
    let more = c.in_ok-end.ensures.text in
    ap (λ n. take n c.put_micro.new.to) c.saturating_sub-front.ensures
    ∙ first_digits c.args.tick c.in_ok-at.at c.in_ok-end.end c.put_tick.new.to c.put_micro.new.to (46 ∷ decimal c.args.micro)
    c.ranges.tick.fits put.0 put.1 more.0 more.1 (omega (arith, some, c.saturating_sub-front.ensures))

pub returns-clause-text : goal.returns-clause-text
returns-clause-text c =
    c.in_ok-end.ensures.text.1 ∙ ap (λ t. t ++ (46 ∷ decimal c.args.micro)) c.in_ok-at.ensures.text.1
