-- What the trace of a text rests on: its flat model has its trace, part by part, and the lines of a trace are those of its instants.
use Rattle.std.specs.Prelude.{◌≡◌, ℕ, Bool, true, List, None, length}
use Rattle.dv_bag.specs.Bag.{Counts}
use Rattle.dv_bag.specs.declared.inputs.Input.{Input}
use Rattle.dv_check.specs.Refusals.{refusal_of}
use Rattle.dv_check.specs.Writable.{IsWritable}
use Rattle.dv_syntax.specs.Trees.{FileTree}
use Rattle.dv_devs.specs.Network.{Network, trace_before}
use Rattle.dv_devs.specs.NextTimes.{IsReady}
use Rattle.dv_devs.specs.Parts.{part_before}
use Rattle.dv_conservative.specs.Flat.{whole}
use Rattle.dv_plain.specs.Source.{network_of, outside}
use Rattle.dv_text.specs.Texts.{ComponentNames, instants_text, part_text}
use Rattle.law_sound.specs.Members.{flat_of}

abbrev pub PartsOfTheText : Type 0
PartsOfTheText =
    (f : FileTree) (inputs : List Input) (limit n : ℕ) (who : ℕ → Bool)
    → IsWritable f → refusal_of f ≡ None
    → part_before who limit (whole (flat_of limit f)) (outside f limit inputs) n
    ≡ part_before who limit (network_of limit f) (outside f limit inputs) n

abbrev pub AllParts : Type 0
AllParts =
    (limit : ℕ) (net : Network (List Counts)) (inputs : ℕ → List Counts) (n : ℕ) → length net.numbers ≡ length net.behaviours
    → part_before (λ k. true) limit net inputs n ≡ trace_before limit net inputs n

abbrev pub AreLines : Type 0
AreLines =
    (all : List ComponentNames) (outputs : List (List ℕ)) (limit : ℕ) (net : Network (List Counts)) (inputs : ℕ → List Counts) (n : ℕ)
    → part_text all outputs (trace_before limit net inputs n) ≡ instants_text all outputs limit net inputs n

-- what is known of a text's networks
pub record TraceLaws (f : FileTree) (limit : ℕ) : Type 0 where
  pub parts : PartsOfTheText
  pub all : AllParts
  pub lines : AreLines
  pub flat : IsReady (whole (flat_of limit f))
  pub ready : IsReady (network_of limit f)
