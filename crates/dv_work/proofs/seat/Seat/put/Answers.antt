use Rattle.std.proofs.Common.{◌<◌, ◌∙◌, length, refl, arith}
use Rattle.std.proofs.lemmas.Option.{slice_get_read}
use Rattle.dv_core.proofs.Lookups.{set_other}
use Rattle.dv_work.proofs.Keeping.{kept_at_end}
use Rattle.dv_work.proofs.Sitting.{given_outs}
use Rattle.dv_work.proofs.Speaking.{given_is_true}
use Rattle.dv_work.proofs.seat.Seat.put.Goals as goal

pub put_or_ask-requires-clause-all_true : goal.put_or_ask-requires-clause-all_true
put_or_ask-requires-clause-all_true g c =
    let s = c.hold.new.self in
    let xs = s.outs.items in
    let inside : c.args.index < length xs = omega (arith, c.requires.index, c.hold.ensures.ends) in
    let read = slice_get_read xs (length xs) c.args.index c.index_mut-end.result.now refl inside c.index_mut-end.ensures.value in
    given_is_true g.N.OfJob.job s.number (g.P.LogicalProcess.state s.process) c.index_mut-end.result.now
    (c.hold.ensures.sits.outs.gives c.args.index c.index_mut-end.result.now read)

pub returns-then-not-put_or_ask-clause-sits : goal.returns-then-not-put_or_ask-clause-sits
returns-then-not-put_or_ask-clause-sits g c =
    let s = c.hold.new.self in
    let sits = c.hold.ensures.sits in
    let xs = s.outs.items in
    let inside : c.args.index < length xs = omega (arith, c.requires.index, c.hold.ensures.ends) in
    let read = slice_get_read xs (length xs) c.args.index c.index_mut-end.result.now refl inside c.index_mut-end.ensures.value in
    record {
      valid = sits.valid;
      fed = sits.fed;
      outs = given_outs g.N.OfJob.job g.P.LogicalProcess.state g.P.LogicalProcess.handed g.P.LogicalProcess.valid
          c.args.floor.now.links.now s sits
          c.args.index c.index_mut-end.result.now c.put_or_ask.new.end read c.put_or_ask.ensures.number c.put_or_ask.ensures.end
          c.put_or_ask.ensures.given;
      ins = sits.ins;
      posted = sits.posted;
    }

pub returns-clause-sits : goal.returns-clause-sits
returns-clause-sits g c =
    let s = c.hold.new.self in
    let sits = c.hold.ensures.sits in
    let xs = s.outs.items in
    let inside : c.args.index < length xs = omega (arith, c.requires.index, c.hold.ensures.ends) in
    let read = slice_get_read xs (length xs) c.args.index c.index_mut-end.result.now refl inside c.index_mut-end.ensures.value in
    record {
      valid = sits.valid;
      fed = sits.fed;
      outs = given_outs g.N.OfJob.job g.P.LogicalProcess.state g.P.LogicalProcess.handed g.P.LogicalProcess.valid
          c.args.floor.now.links.now s sits
          c.args.index c.index_mut-end.result.now c.put_or_ask.new.end read c.put_or_ask.ensures.number c.put_or_ask.ensures.end
          c.put_or_ask.ensures.given;
      ins = sits.ins;
      posted = sits.posted;
    }

pub returns-then-not-put_or_ask-clause-others : goal.returns-then-not-put_or_ask-clause-others
returns-then-not-put_or_ask-clause-others g c = λ i other.
    set_other c.hold.new.self.outs.items c.args.index i c.put_or_ask.new.end other ∙ c.hold.ensures.others i other

pub returns-then-not-put_or_ask-clause-kept : goal.returns-then-not-put_or_ask-clause-kept
returns-then-not-put_or_ask-clause-kept g c =
    let s = c.hold.new.self in
    let xs = s.outs.items in
    let inside : c.args.index < length xs = omega (arith, c.requires.index, c.hold.ensures.ends) in
    let read = slice_get_read xs (length xs) c.args.index c.index_mut-end.result.now refl inside c.index_mut-end.ensures.value in
    kept_at_end s c.args.index c.index_mut-end.result.now c.put_or_ask.new.end read c.put_or_ask.ensures.number g.P.LogicalProcess.state
    c.args.self.now c.hold.ensures.kept

pub returns-clause-others : goal.returns-clause-others
returns-clause-others g c = λ i other.
    set_other c.hold.new.self.outs.items c.args.index i c.put_or_ask.new.end other ∙ c.hold.ensures.others i other

pub returns-clause-kept : goal.returns-clause-kept
returns-clause-kept g c =
    let s = c.hold.new.self in
    let xs = s.outs.items in
    let inside : c.args.index < length xs = omega (arith, c.requires.index, c.hold.ensures.ends) in
    let read = slice_get_read xs (length xs) c.args.index c.index_mut-end.result.now refl inside c.index_mut-end.ensures.value in
    kept_at_end s c.args.index c.index_mut-end.result.now c.put_or_ask.new.end read c.put_or_ask.ensures.number g.P.LogicalProcess.state
    c.args.self.now c.hold.ensures.kept
