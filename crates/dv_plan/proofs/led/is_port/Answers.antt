use Rattle.std.proofs.Common.{ℕ, [], slice_index_or, sym, ◌∙◌}
use Rattle.std.proofs.lemmas.Option.{slice_get-get_or}
use Rattle.dv_devs.specs.Behaviour.{Behaviour}
use Rattle.dv_share.specs.Share.{resting}
use Rattle.dv_local.proofs.Ports.{none_here, port_at}
use Rattle.dv_plan.proofs.Outside.{same_port}
use Rattle.dv_plan.proofs.led.is_port.Goals as goal

idle : ℕ → Behaviour
idle n = resting

pub returns-in-Some : goal.returns-in-Some
returns-in-Some c =
    let ms = c.args.members.now in
    let p = c.in-Some.index in
    let d = c.index-members-index.result in
    sym (same_port idle 0 [] ms c.args.component c.args.port
    ∙ port_at idle 0 [] c.args.component c.args.port p (slice_index_or ms p d) ms c.requires
    (slice_get-get_or ms p d c.in-Some.ensures.0) (c.in-Some.ensures.1 d))

pub returns-in-None : goal.returns-in-None
returns-in-None c =
    let ms = c.args.members.now in
    sym (same_port idle 0 [] ms c.args.component c.args.port
    ∙ none_here idle 0 [] c.args.component c.args.port ms (λ p m e. c.in-None.ensures p m e))
