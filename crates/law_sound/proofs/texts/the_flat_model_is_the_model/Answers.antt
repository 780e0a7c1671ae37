use Rattle.std.proofs.Common.{◌∙◌}
use Rattle.dv_time.specs.Time.{end_of}
use Rattle.dv_plain.specs.Source.{outside}
use Rattle.law_sound.proofs.Flattened.{traces_same}
use Rattle.law_sound.proofs.texts.the_flat_model_is_the_model.Goals as goal

pub returns : goal.returns
returns c f inputs horizon limit writable fine =
    traces_same limit f (outside f limit inputs) (end_of limit horizon)
    ∙ c.the_compiled_model_is_the_model.ensures f inputs horizon limit writable fine
