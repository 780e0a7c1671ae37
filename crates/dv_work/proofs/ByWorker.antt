-- Processes as they are given to workers, and the workers that their ends name.
use Rattle.std.proofs.Common.{◌≡◌, ℕ, ◌%◌, List, [], ◌∷◌, ◌++◌, get_or, Some, sym, subst, arith}
use Rattle.std.specs.List.{All, slice_get}
use Rattle.std.proofs.Math.ListN.{set}
use Rattle.std.specs.declared.alloc.Global.{Global}
use Rattle.std.specs.declared.vec.Vec.{Vec}
use Rattle.dv_conservative.specs.World.{Job}
use Rattle.dv_core.specs.ProcessState.{ProcessState}
use Rattle.dv_core.proofs.Lookups.{set_each}
use Rattle.dv_link.specs.declared.link.Link.{Link}
use Rattle.dv_record.specs.Told.{Handed}
use Rattle.dv_work.specs.Workers.{AreByWorker, AreOfWorker}
use Rattle.dv_work.specs.Making.{AreSeated, NamesReceiver, NamesSender, NamesWorkers}
use Rattle.dv_work.specs.declared.seat.In.{In}
use Rattle.dv_work.specs.declared.seat.Out.{Out}
use Rattle.dv_work.specs.declared.seat.Seat.{Seat}
use Rattle.dv_work.proofs.Making.{nothing_there, snoc_each, stands_at}

module _ {P : Type 0} (workers : ℕ) where
  -- a worker more, with no processes
  pub nobody_more : (by_worker more : List (Vec (Seat P) Global)) (seats : Vec (Seat P) Global) → more ≡ by_worker ++ seats ∷ []
      → seats.items ≡ []
      → AreByWorker workers by_worker → AreByWorker workers more
  nobody_more by_worker more seats is none are =
      snoc_each (λ w (c : Vec (Seat P) Global). AreOfWorker workers w c.items) by_worker more seats is are
      (λ i s e. absurd (nothing_there seats.items i s none e))

  -- a process more of a worker
  pub seat_more : (by_worker : List (Vec (Seat P) Global)) (w : ℕ) (before after : Vec (Seat P) Global) (s : Seat P)
      → slice_get by_worker w ≡ Some before → after.items ≡ before.items ++ s ∷ [] → s.number % workers ≡ w → AreByWorker workers by_worker
      → AreByWorker workers (set by_worker w after)
  seat_more by_worker w before after s there more own are =
      set_each (λ v (c : Vec (Seat P) Global). AreOfWorker workers v c.items) by_worker w before after there are
      (snoc_each (λ i (z : Seat P). z.number % workers ≡ w) before.items after.items s more (are w before there) own)

module _ {P : Type 0} (job : Job) (workers : ℕ) where
  -- before any link is made
  pub names_none : {N : Type 0} (state : P → ProcessState) (handed : P → Handed) (IsValid : P → Type 0) (links : List (Link N))
      (seats : List (Seat P)) → AreSeated job state handed IsValid links 0 0 seats → All (NamesWorkers job workers) seats
  names_none state handed IsValid links seats are k d lt =
      let is = are.each k (get_or seats k d) (stands_at seats k d lt) in record {
        outs = λ i o e. let less = is.outs i o e in absurd (omega arith);
        ins = λ i o e. let less = is.ins i o e in absurd (omega arith);
      }

  -- an end that leads away, more
  pub out_more : (s t : Seat P) (o : Out) → t.outs.items ≡ s.outs.items ++ o ∷ [] → t.ins ≡ s.ins → NamesReceiver job workers o
      → NamesWorkers job workers s → NamesWorkers job workers t
  out_more s t o more same own names = record {
    outs = snoc_each (λ i (q : Out). NamesReceiver job workers q) s.outs.items t.outs.items o more names.outs own;
    ins = subst (λ (v : Vec In Global). (i : ℕ) (e : In) → slice_get v.items i ≡ Some e → NamesSender job workers e) (sym same) names.ins;
  }

  -- one that leads here
  pub in_more : (s t : Seat P) (d : In) → t.ins.items ≡ s.ins.items ++ d ∷ [] → t.outs ≡ s.outs → NamesSender job workers d
      → NamesWorkers job workers s → NamesWorkers job workers t
  in_more s t d more same own names = record {
    outs = subst (λ (v : Vec Out Global). (i : ℕ) (o : Out) → slice_get v.items i ≡ Some o → NamesReceiver job workers o) (sym same)
        names.outs;
    ins = snoc_each (λ i (q : In). NamesSender job workers q) s.ins.items t.ins.items d more names.ins own;
  }
