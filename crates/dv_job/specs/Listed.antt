-- What a listing of bytes leaves.
use Rattle.std.specs.Prelude.{ℕ, List, ◌⊎◌, Option}
use Rattle.std.specs.Io.KnownBytes.{Appends, Keeps}
use Rattle.dv_syntax.specs.Trees.{FileTree}
use Rattle.dv_text.specs.Writing.{StopsShort}
use Rattle.dv_listing.specs.Listing.{listing_text}
use Rattle.dv_job.specs.Job.{IsAnswer, IsModelOf}
use Rattle.dv_job.specs.declared.ended.JobError.{JobError}
use Rattle.dv_job.specs.declared.ended.JobError.TheVariants as error

-- The text is accepted, and the writer's bytes grew by the whole listing.
pub record ListsCode (model : List ℕ) (old new : Option (List ℕ)) : Type 0 where
  pub names : List (List ℕ)
  pub file : FileTree
  pub accepted : IsModelOf model names file
  pub written : Appends old new (listing_text names file)

-- The text is accepted, and the writer's bytes grew by a beginning of the listing, but not by all of it.
pub record ListsBeginning (model : List ℕ) (old new : Option (List ℕ)) : Type 0 where
  pub names : List (List ℕ)
  pub file : FileTree
  pub accepted : IsModelOf model names file
  pub written : StopsShort old new (listing_text names file)

-- What an error leaves. At a refusal nothing was written, and the answer is that of the text. At a failed write there is a beginning
-- that is not all; out of memory, nothing or such a beginning.
abbrev pub LeftByListing : JobError → (model : List ℕ) → Option (List ℕ) → Option (List ℕ) → Type 0
LeftByListing (error.Text e) model old new = IsAnswer model e × Keeps old new
LeftByListing (error.Partition r) model old new = ⊥
LeftByListing (error.Inputs r) model old new = ⊥
LeftByListing error.Write model old new = ListsBeginning model old new
LeftByListing error.Memory model old new = Keeps old new ⊎ ListsBeginning model old new
