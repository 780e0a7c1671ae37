use Rattle.std.proofs.Common.{◌≡◌, ◌<◌, length, sym, ap, ◌∙◌, arith}
use Rattle.std.proofs.lemmas.List.{length-reverse}
use Rattle.dv_code.specs.Turns.{turn_of}
use Rattle.dv_code.proofs.Innermost.{last_goes_on}
use Rattle.dv_code.proofs.loops.Stack+OpenLoop.advance.Goals as goal

pub returns-then-next : goal.returns-then-next
returns-then-next c =
    let loops = c.self.inside.values.items in
    let last = c.index_mut.result.now in
    let long : c.len-last.result ≡ length loops = c.len-last.ensures ∙ c.self.inside.values.ok.0 in
    let some : 0 < length loops = omega (arith, c.requires, ap length c.self.view_is, length-reverse loops) in
    rw (sym c.self.view_is)
    (last_goes_on (turn_of c.args.arrivals.now) loops c.len-last.result last last c.next.new.self some long
    c.index_mut.ensures.value c.if-next.ensures)
