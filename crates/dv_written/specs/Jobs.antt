-- The job of `Brand`, before a call chooses one.
use Rattle.std.specs.Prelude.{ℕ, List, [], None}
use Rattle.dv_bag.specs.declared.entry.Entry.{Entry}
use Rattle.dv_conservative.specs.Flat.{Flat}
use Rattle.dv_conservative.specs.World.{Job}

abbrev no_model : Flat
no_model = record { members = []; links = []; entrances = []; exits = []; outputs = 0 }

-- a job without a model and without processes
abbrev pub no_job : Job
no_job = record {
  limit = 0;
  horizon = 0;
  flat = no_model;
  outside = λ n. [];
  processes = 0;
  owner = λ k. 0;
  channels = [];
  responses = λ p. None;
}

-- its entries print nothing
abbrev pub no_line : Entry → List ℕ
no_line e = []
