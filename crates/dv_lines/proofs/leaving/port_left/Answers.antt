use Rattle.std.proofs.Common.{◌≡◌, ◌++◌, List, ℕ, subst}
use Rattle.std.specs.Prelude.{OnOk}
use Rattle.dv_lines.specs.Words.{port_words}
use Rattle.dv_lines.proofs.leaving.port_left.Goals as goal

pub returns-clause-ok : goal.returns-clause-ok
returns-clause-ok c =
    subst (λ (w : List ℕ). OnOk c.left.result (c.left.new.self ≡ c.args.lines.now ++ port_words w c.args.held.now.bag)) c.port.ensures
    c.left.ensures.ok
