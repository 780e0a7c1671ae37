use Rattle.std.proofs.Common.{ap, ◌∙◌}
use Rattle.dv_lex.specs.Versions.{versioned}
use Rattle.dv_lex.proofs.Headers.{headed_first}
use Rattle.dv_lex.proofs.laws.later_versions_alone_change_what_follows_a_header.Goals as goal

pub returns : goal.returns
returns c = λ text names tokens t first others e h other.
    t.numbered ∙ (ap (versioned names) e ∙ headed_first names first others h other)
