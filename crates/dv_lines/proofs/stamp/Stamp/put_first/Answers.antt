use Rattle.std.proofs.Common.{◌≡◌, ◌+◌, ◌++◌, ℕ, ap, ◌∙◌, arith, rules, subst, take, take-take}
use Rattle.dv_time.specs.Time.{time_text}
use Rattle.dv_written.specs.Rooms.{IsPut}
use Rattle.dv_lines.proofs.stamp.Stamp.put_first.Goals as goal

pub returns-clause-text : goal.returns-clause-text
returns-clause-text c =
    let stamp = c.self.inside in
    let to = c.args.to.now in
    let front = ap (take stamp.length) c.sixteen_at.ensures ∙ take-take stamp.length 16 stamp.bytes c.self.invariant.3 in
    let text = c.self.invariant.0 (omega (arith, c.if-self-eq0.false)) in
    let same : time_text stamp.time ≡ time_text c.args.self.now = search rules in
    let end : 0 + stamp.length ≡ stamp.length = omega arith in
    let put =
    subst (λ (n : ℕ). IsPut to 0 c.put_sixteen.new.to n (take stamp.length c.sixteen_at.result)) end c.put_sixteen.ensures.text in
    (put.0, put.1 ∙ ap (λ t. take 0 to ++ t) (front ∙ text ∙ same))
