-- From what the crates below say to what a run of bytes leaves.
use Rattle.std.proofs.Common.{◌≡◌, ℕ, ◌++◌, List, Option, Some, None, Result, Ok, Err, refl, sym, ap, ◌∙◌, subst, inl, inr}
use Rattle.std.specs.Io.KnownBytes.{Appends, Keeps}
use Rattle.dv_time.specs.Time.{end_of}
use Rattle.dv_lex.specs.declared.error.LoadError.{LoadError}
use Rattle.dv_lex.specs.declared.error.LoadError.TheVariants as load
use Rattle.dv_bag.specs.Bag.{Counts}
use Rattle.dv_bag.specs.Part.{IsByTime, PartOf}
use Rattle.dv_devs.specs.Network.{Network, trace_before}
use Rattle.dv_syntax.specs.Trees.{FileTree, file_of}
use Rattle.dv_bag.specs.declared.inputs.Input.{Input}
use Rattle.dv_inputs.specs.Reading.{reading_of}
use Rattle.dv_inputs.specs.declared.error.InputRefusal.{InputRefusal}
use Rattle.dv_inputs.specs.declared.error.InputsError.{InputsError}
use Rattle.dv_inputs.specs.declared.error.InputsError.TheVariants as input
use Rattle.dv_tree.specs.Tables.{Source}
use Rattle.dv_plain.specs.Source.{network_of, outside, trace_of}
use Rattle.dv_text.specs.declared.writing.Ending.TheVariants as text_end
use Rattle.dv_text.specs.declared.writing.WriteError.{WriteError}
use Rattle.dv_text.specs.declared.writing.WriteError.TheVariants as write
use Rattle.dv_text.specs.Names.{component_names, root_ports, tree_names, tree_ports}
use Rattle.dv_text.specs.Texts.{ComponentNames, ending_text, part_text, whole_text}
use Rattle.dv_text.specs.Writing.{StopsShort}
use Rattle.dv_job.specs.declared.ended.JobEnded.{JobEnded}
use Rattle.dv_job.specs.Job.{IsModelOf, run_text}
use Rattle.dv_job.specs.Loading.{IsUnloaded, tree_inputs}
use Rattle.dv_job.specs.Errors.{job_error_of_inputs, job_error_of_load, job_error_of_write}
use Rattle.dv_job.specs.Ending.{IsJob, PrintsTrace, PrintsBeginning, LeftBy, ending_of}

-- the text of a trace is that of its instants
abbrev pub AreInstants : Type 0
AreInstants =
    (all : List ComponentNames) (outputs : List (List ℕ)) (limit : ℕ) (net : Network (List Counts)) (inputs : ℕ → List Counts)
    (horizon : ℕ) → part_text all outputs (trace_before limit net inputs (end_of limit horizon)) ++ ending_text (text_end.Whole horizon)
    ≡ whole_text all outputs limit net inputs horizon

-- a trace stands by time
abbrev pub AreByTime : Type 0
AreByTime =
    (limit : ℕ) (net : Network (List Counts)) (inputs : ℕ → List Counts) (n : ℕ) → IsByTime (trace_before limit net inputs n)

pub trace_by_time : (f : FileTree) (played : List Input) (h l : ℕ) (trace : PartOf) → AreByTime → trace ≡ trace_of f played h l
    → IsByTime trace
trace_by_time f played h l trace are is = subst IsByTime (sym is) (are l (network_of l f) (outside f l played) (end_of l h))

-- a model and its inputs, both read
pub job_of_tree : (text inputs : List ℕ) (limit : ℕ) (tree : Source) (played : List Input) → IsModelOf text tree.names (file_of tree.file)
    → reading_of inputs (tree_inputs tree) limit ≡ Ok played → IsJob text inputs limit tree.names (file_of tree.file) played
job_of_tree text inputs limit tree played m read = record { accepted = m; read = read }

-- what is written of a trace is the text of the run
text_of_run : (tree : Source) (played : List Input) (h l : ℕ) (trace : PartOf) → AreInstants
    → trace ≡ trace_of (file_of tree.file) played h l
    → part_text (tree_names tree) (tree_ports tree) trace ++ ending_text (text_end.Whole h)
    ≡ run_text tree.names (file_of tree.file) played h l
text_of_run tree played h l trace are is_trace =
    let f = file_of tree.file in
    ap (λ (t : PartOf). part_text (tree_names tree) (tree_ports tree) t ++ ending_text (text_end.Whole h)) is_trace
    ∙ are (component_names tree.names f) (root_ports tree.names f) l (network_of l f) (outside f l played) h

-- a trace that was written whole
pub prints :
    (text inputs : List ℕ) (h l : ℕ) (old new : Option (List ℕ)) (tree : Source) (played : List Input) (trace : PartOf) (ended : JobEnded)
    → AreInstants → IsJob text inputs l tree.names (file_of tree.file) played → trace ≡ trace_of (file_of tree.file) played h l
    → ended ≡ ending_of trace → Appends old new (part_text (tree_names tree) (tree_ports tree) trace ++ ending_text (text_end.Whole h))
    → PrintsTrace text inputs h l old new ended
prints text inputs h l old new tree played trace ended are job is_trace ending written = record {
  names = tree.names;
  file = file_of tree.file;
  played = played;
  job = job;
  ending = ending ∙ ap ending_of is_trace;
  written = subst (λ (t : List ℕ). Appends old new t) (text_of_run tree played h l trace are is_trace) written;
}

-- a trace of which a beginning was written
pub prints_beginning :
    (text inputs : List ℕ) (h l : ℕ) (old new : Option (List ℕ)) (tree : Source) (played : List Input) (trace : PartOf)
    → AreInstants → IsJob text inputs l tree.names (file_of tree.file) played → trace ≡ trace_of (file_of tree.file) played h l
    → StopsShort old new (part_text (tree_names tree) (tree_ports tree) trace ++ ending_text (text_end.Whole h))
    → PrintsBeginning text inputs h l old new
prints_beginning text inputs h l old new tree played trace are job is_trace written = record {
  names = tree.names;
  file = file_of tree.file;
  played = played;
  job = job;
  written = subst (λ (t : List ℕ). StopsShort old new t) (text_of_run tree played h l trace are is_trace) written;
}

-- whichever way the writing failed
pub left_by_write : (e : WriteError) (text inputs : List ℕ) (h l : ℕ) (old new : Option (List ℕ))
    → PrintsBeginning text inputs h l old new → LeftBy (job_error_of_write e) text inputs h l old new
left_by_write write.Write text inputs h l old new p = p
left_by_write write.Memory text inputs h l old new p = inr p

-- a text that was not loaded
pub left_by_load : (e : LoadError) (text inputs : List ℕ) (h l : ℕ) (old new : Option (List ℕ)) → IsUnloaded e text → Keeps old new
    → LeftBy (job_error_of_load text e) text inputs h l old new
left_by_load (load.Refused r) text inputs h l old new refused kept = (record { refusal = r; refused = refused; answer = refl }, kept)
left_by_load load.Memory text inputs h l old new refused kept = inl kept

-- what was not touched is kept
pub kept : (o : Option (List ℕ)) → Keeps o o
kept None = tt
kept (Some bytes) = refl

-- inputs that were not read
pub left_by_inputs : (e : InputsError) (text inputs : List ℕ) (h l : ℕ) (old : Option (List ℕ)) (tree : Source)
    → IsModelOf text tree.names (file_of tree.file)
    → ((r : InputRefusal) → ◌≡◌ {A = Result (List Input) InputsError} (Err e) (Err (input.Refused r))
    → reading_of inputs (tree_inputs tree) l ≡ Err r) → LeftBy (job_error_of_inputs e) text inputs h l old old
left_by_inputs (input.Refused r) text inputs h l old tree m refused = (
  record {
    names = tree.names;
    file = file_of tree.file;
    accepted = m;
    refused = refused r refl;
  },
  kept old,
)
left_by_inputs input.Memory text inputs h l old tree m refused = inl (kept old)
