use Rattle.std.proofs.Common.{true, if◌then◌else◌, ap, ◌∙◌}
use Rattle.std.proofs.Math.Path.{fun_ext}
use Rattle.dv_check.specs.LinkSets.{has_link, key_of, same_key, with_link}
use Rattle.dv_check.proofs.link_set.LinkSet.insert.Goals as goal

pub returns-clause-added : goal.returns-clause-added
unfolding has_link with_link
returns-clause-added c = fun_ext (λ l.
    c.in_ok-is_new.ensures.updates.0 (key_of l)
    ∙ ap (λ key. if same_key key (key_of l) then true else has_link c.args.self.now l) c.of.ensures)
