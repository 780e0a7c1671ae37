-- What a process posts: what it committed beyond what it has handed over.
use Rattle.std.proofs.Common.{◌≡◌, ℕ, ◌<◌, ◌≤◌, sym, ap, subst, ◌∙◌}
use Rattle.std.proofs.lemmas.List.{append_cancel_left}
use Rattle.dv_time.specs.Time.{IsOfRun, end_of, rank}
use Rattle.dv_time.specs.declared.time.Time.{Time}
use Rattle.dv_bag.specs.Part.{PartOf, joined}
use Rattle.dv_devs.specs.Parts.{part_at, part_before}
use Rattle.dv_devs.proofs.Cuts.{join_between}
use Rattle.dv_devs.proofs.Parts.{same_part}
use Rattle.dv_conservative.specs.Flat.{whole}
use Rattle.dv_conservative.specs.Process.{IsWithin}
use Rattle.dv_conservative.specs.World.{Job, owned, share_of}
use Rattle.dv_board.specs.Clocks.{IsNoLater}
use Rattle.dv_board.specs.Jobs.{committed}
use Rattle.dv_board.specs.Posts.{IsPiece}
use Rattle.dv_core.specs.ProcessState.{ProcessState}
use Rattle.dv_record.specs.Told.{Handed}
use Rattle.dv_work.specs.Seats.{HasHandedOver}

-- what stands behind a part is known by the whole
same_rest : (p a b : PartOf) → joined p a ≡ joined p b → a ≡ b
same_rest p a b e =
    same_part a.entries b.entries a.outer b.outer
    (append_cancel_left p.entries a.entries b.entries (ap (λ (q : PartOf). q.entries) e))
    (append_cancel_left p.outer a.outer b.outer (ap (λ (q : PartOf). q.outer) e))

module _ (job : Job) (p : ℕ) (x : ProcessState) (h : Handed) (from : Time) (over : HasHandedOver job p x h from)
    (part : x.part ≡ part_before (owned job p) job.limit (whole job.flat) job.outside (rank job.limit x.position.clock))
    (rest : PartOf) (is : x.part ≡ joined h.past rest) where
  -- what was not handed over is what the process commits in between
  rest_is_committed : rest ≡ committed job p from x.position.clock
  rest_is_committed =
      same_rest h.past rest (committed job p from x.position.clock)
      (sym is ∙ part
      ∙ sym (join_between (part_at (owned job p) job.limit (whole job.flat) job.outside) (rank job.limit from)
      (rank job.limit x.position.clock) over.order)
      ∙ ap (λ (q : PartOf). joined q (committed job p from x.position.clock)) (sym over.past))

  -- it is a piece of the job
  pub rest_is_piece : {N : Type 0} → p < job.processes → IsWithin (share_of job p) x.position.clock → (upto : Time)
      → upto ≡ x.position.clock → IsPiece {N = N} job (record { process = p; from = from; clock = upto; part = rest })
  rest_is_piece there within upto same = record {
    process = there;
    from_of_run = over.of_run;
    of_run = subst (IsOfRun job.limit) (sym same) within.0;
    within = subst (λ (t : Time). rank job.limit t ≤ end_of job.limit job.horizon) (sym same) within.1;
    order = subst (IsNoLater job from) (sym same) over.order;
    part = rest_is_committed ∙ ap (committed job p from) (sym same);
  }
