use Rattle.std.proofs.Common.{◌<◌, sym, ap, ◌∙◌, Ok, arith, rules, FitsSigned, w64, to_z, of_z}
use Rattle.std.proofs.lemmas.Int.{to_z-of_z}
use Rattle.dv_bag.specs.Bag.{total_of_all}
use Rattle.dv_eval.proofs.Rules.{sending-some, sending-past}
use Rattle.dv_eval.proofs.rule.send.Goals as goal
use Rattle.dv_eval.proofs.rule.send.Goals.{then-port-len+in_ok-insert, else-port-len}

pub returns : goal.returns
returns c =
    let few : total_of_all c.args.effect.sent < 4096 = omega (arith, c.in_ok-test_flood.ensures.free) in
    let at = sym c.output.ensures ∙ c.in-Some.is in
    elim c.if-port-len.branch [
      | then-port-len+in_ok-insert w ↦
          let n = w.number_of.result in
          let fits : FitsSigned w64 n = search rules in
          sending-some c.args.scope.now c.args.name c.args.value c.args.effect c.in-Some.port (to_z w64 (of_z w64 n))
          w.insert.new.self few at (to_z-of_z w64 n fits ∙ w.number_of.ensures) w.in_ok-insert.ensures.ok
          ∙ ap Ok (sym w.effect-is)
      | else-port-len w ↦
          sending-past c.args.scope.now c.args.name c.args.value c.args.effect c.in-Some.port few at (omega arith)
          ∙ ap Ok (sym w.effect-is)
    ]
