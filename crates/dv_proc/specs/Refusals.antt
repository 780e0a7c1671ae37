-- Why a packet is refused: what the code says, and what is meant.
use Rattle.std.specs.Prelude.{◌≡◌, Option, Some, None}
use Rattle.dv_conservative.specs.Process.{P1, P2, P3, P4, Refused as RefusedAsMeant}
use Rattle.dv_proc.specs.declared.incoming.Refused.{Refused}
use Rattle.dv_proc.specs.declared.incoming.Refused.TheVariants.{NoSuchLink, OtherWindow, NoWindow, OtherEvent, NoMemory}

-- the refusal that is meant; out of memory is none
abbrev pub meant_refusal : Refused → Option RefusedAsMeant
meant_refusal NoSuchLink = Some P1
meant_refusal OtherWindow = Some P2
meant_refusal NoWindow = Some P4
meant_refusal OtherEvent = Some P3
meant_refusal NoMemory = None

-- what a test found, if it found anything
abbrev pub refusal_by : Option Refused → Option RefusedAsMeant
refusal_by None = None
refusal_by (Some r) = meant_refusal r

-- it is found by a test
abbrev pub IsByTest : Refused → Type 0
IsByTest NoMemory = ⊥
IsByTest other = Unit {0}
