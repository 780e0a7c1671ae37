-- Flags, and the tokens that one was raised.
use Rattle.std.specs.Prelude.{◌≡◌}
use Rattle.dv_work.specs.declared.bell.Flag.{Flag}
use Rattle.dv_work.specs.declared.bell.Raised.{Raised}

-- a token is that of this flag
abbrev pub IsOfFlag : Flag → Raised → Type 0
IsOfFlag flag raised = raised.token.of ≡ flag.raised.id
