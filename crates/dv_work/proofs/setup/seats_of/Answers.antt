use Rattle.std.proofs.Common.{◌≡◌, ℕ, [], ◌∷◌, length, Some, refl, sym, ap, ◌∙◌, subst, arith, length-append}
use Rattle.std.specs.List.{slice_get}
use Rattle.std.proofs.lemmas.Iterator.Adapters.{YieldsList-from_vec}
use Rattle.std.proofs.lemmas.Iterator.Consumers.{YieldsList-end, YieldsList-turn}
use Rattle.std.proofs.lemmas.Option.{slice_get_read}
use Rattle.dv_conservative.specs.Process.{first_time}
use Rattle.dv_work.specs.Making.{IsSeat, no_links}
use Rattle.dv_work.specs.declared.pause.Pause.TheVariants.{Over}
use Rattle.dv_work.specs.declared.seat.Seat.{Seat}
use Rattle.dv_work.proofs.Making.{new_seat, snoc_each}
use Rattle.dv_work.proofs.setup.seats_of.Goals as goal

pub overflow_cast-number : goal.overflow_cast-number
overflow_cast-number g c =
    let gives = c.into_iter-process-iterator.ensures.into_iter_gives in
    let all = YieldsList-from_vec c.args.processes.items gives.0 (gives.1 ∙ c.args.processes.ok.0) in
    let turn = YieldsList-turn all c.loop-process.yielded c.loop-process.process-iterator c.loop-process.yielded_by c.next.result
    c.next.new.self c.in-Some.process c.in-Some.is c.next.ensures.steps in
    omega (arith, turn.0, c.requires.few, c.len-number.ensures, c.loop-process.seats.ok.0, c.loop-process.invariant.count)

pub loop-process-preserved : goal.loop-process-preserved
loop-process-preserved g c =
    let gives = c.into_iter-process-iterator.ensures.into_iter_gives in
    let all = YieldsList-from_vec c.args.processes.items gives.0 (gives.1 ∙ c.args.processes.ok.0) in
    let turn = YieldsList-turn all c.loop-process.yielded c.loop-process.process-iterator c.loop-process.yielded_by c.next.result
    c.next.new.self c.in-Some.process c.in-Some.is c.next.ensures.steps in
    let is = c.loop-process.invariant in
    let old = c.loop-process.seats.items in
    let items = c.in_ok-push.ensures.items in
    let number : c.len-number.result ≡ length old = omega (arith, c.len-number.ensures, c.loop-process.seats.ok.0) in
    let index : c.len-number.result ≡ length c.loop-process.yielded = omega (arith, number, is.count) in
    let at = slice_get_read c.args.processes.items (length c.args.processes.items) (length c.loop-process.yielded) c.in-Some.process refl
    turn.0 turn.1 in
    let here : slice_get c.args.processes.items c.len-number.result ≡ Some c.in-Some.process
    = subst (λ (n : ℕ). slice_get c.args.processes.items n ≡ Some c.in-Some.process) (sym index) at in
    let made : Seat g.row.P.Denot
    = record {
      number = c.len-number.result;
      process = c.in-Some.process;
      outs = c.new.result;
      ins = c.new-in-loop-process.result;
      posted = first_time;
      pause = Over;
    } in
    record {
      count = (let e = is.count in let l = ap length items in let k = length-append old (made ∷ []) in
          let y = length-append c.loop-process.yielded (c.in-Some.process ∷ []) in omega arith);
      numbers = snoc_each (λ p (s : Seat g.row.P.Denot). s.number ≡ p) old c.push.new.self.items _ items is.numbers number;
      each = snoc_each (λ p (s : Seat g.row.P.Denot). IsSeat g.N.OfJob.job g.P.LogicalProcess.state g.P.LogicalProcess.handed
          g.P.LogicalProcess.valid
          (no_links {N = g.row.N.Denot}) 0 0 s)
          old c.push.new.self.items _ items is.each
          (new_seat g.N.OfJob.job g.P.LogicalProcess.state g.P.LogicalProcess.handed g.P.LogicalProcess.valid c.args.processes.items
          c.requires c.len-number.result
          c.in-Some.process here c.new.result
          c.new-in-loop-process.result c.new.ensures.items c.new-in-loop-process.ensures.items);
    }

pub returns : goal.returns
returns g c =
    let gives = c.into_iter-process-iterator.ensures.into_iter_gives in
    let all = YieldsList-from_vec c.args.processes.items gives.0 (gives.1 ∙ c.args.processes.ok.0) in
    let end = YieldsList-end all c.loop-process.yielded c.loop-process.process-iterator c.loop-process.yielded_by c.next.result
    c.next.new.self c.in-None.is c.next.ensures.steps in
    let is = c.loop-process.invariant in record {
      count = is.count ∙ end.1 ∙ c.requires.count;
      numbers = is.numbers;
      each = is.each;
    }
