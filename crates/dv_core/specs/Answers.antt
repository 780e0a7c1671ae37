-- What the steps and answers of the code stand for.
use Rattle.dv_conservative.specs.World
use Rattle.dv_core.specs.declared.step.Step.{Step}
use Rattle.dv_core.specs.declared.step.Step.TheVariants as step
use Rattle.dv_core.specs.declared.step.Reply.{Reply}
use Rattle.dv_core.specs.declared.step.Reply.TheVariants as reply

abbrev pub meant_step : Step → World.Step
meant_step (step.Turn p) = World.Turn p
meant_step (step.Put l) = World.Put l
meant_step (step.Take l) = World.Take l
meant_step (step.Stop p) = World.Stop p

abbrev pub meant_reply : Reply → World.Reply
meant_reply reply.Done = World.Done
meant_reply reply.Refused = World.Refused
meant_reply reply.Stopped = World.Stopped
meant_reply reply.Empty = World.Empty
meant_reply reply.Full = World.Full
meant_reply reply.Memory = World.Memory
