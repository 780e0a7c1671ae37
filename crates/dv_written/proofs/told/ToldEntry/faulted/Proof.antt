-- `faulted` makes the empty struct, with what its clause says. Assumes `Logic`.
use Rattle.std.proofs.Common.{[], ◌∷◌, refl}
use Rattle.std.proofs.raw_atomic.Walks.{proved}
use mir.Syntax.{named}
use types.Kit.{‵, raw, ◌$◌, ◌∵◌, ◌⊛◌, !, qed, move, keep, split, fjoin, suffices, done}
use types.Part.{agg}
use types.Run.{enter, returns, no_more}
use types.ByLocal.{alloc_all, pass_all, free_all, look_at, sets}
use denote.Builtin.{RefOf, u32}
use denote.Exit.{yes}
use denote.RattleType.{Valss, owns}
use denote.Ref.{shr_vals, shr_Tells}
use denote.Signature.{plain, types_at}
use denote.Steps.{nothing}
use denote.Triple.Entry.{alive}
use denote.Triple.Walked.{says, Stays, stay_dropped, walk_of, ends_at, Goes-dropped}
use Rattle.dv_record.proofs.Tokens.{none, none_made}
use Rattle.dv_time.specs.contracts.time.Time as time
use Rattle.dv_bag.specs.contracts.fault.Fault as fault
use Rattle.dv_bag.specs.declared.entry.What.TheVariants as what
use Rattle.dv_bag.specs.contracts.sent.Sent as sent
use Rattle.dv_record.specs.Told.{entry}
use Rattle.dv_written.specs.contracts.told.ToldEntry.{the_row as R}
use Rattle.dv_written.specs.contracts.told.ToldEntry.faulted as f
use Rattle.dv_written.proofs.told.ToldEntry.faulted.Statement.{statement}
use Rattle.dv_written.proofs.told.ToldEntry.faulted.Code as code

abbrev stayed : Stays f.ended.signature.params f.ended.kept
stayed = (
  stay_dropped (RefOf (0 ∷ []) tt (plain (λ _. time.the_row)) (λ _. tt)) yes,
  (
    stay_dropped (RefOf (1 ∷ []) tt (plain (λ _. u32)) (λ _. tt)) yes,
    (
      stay_dropped (RefOf (2 ∷ []) tt (plain (λ _. fault.the_row)) (λ _. tt)) yes,
      (stay_dropped (RefOf (3 ∷ []) tt (plain (λ _. sent.the_row)) (λ _. tt)) yes, tt),
    ),
  ),
)

pub faulted_spec : {M : Type 1} → statement M
faulted_spec 𝓤 𝓛 𝓜 𝓡 wired =
    let c = f.clauses 𝓛 𝓜.mem 𝓡.returns in let W = walk_of 𝓛 f.ended stayed c in
    proved 𝓛 f.ended stayed c 𝓜 𝓡 (
      Goes-dropped 𝓛 4 (RefOf (0 ∷ []) tt (plain (λ _. time.the_row)) (λ _. tt)) yes (λ κs x w. refl),
      (
        Goes-dropped 𝓛 4 (RefOf (1 ∷ []) tt (plain (λ _. u32)) (λ _. tt)) yes (λ κs x w. refl),
        (
          Goes-dropped 𝓛 4 (RefOf (2 ∷ []) tt (plain (λ _. fault.the_row)) (λ _. tt)) yes (λ κs x w. refl),
          (Goes-dropped 𝓛 4 (RefOf (3 ∷ []) tt (plain (λ _. sent.the_row)) (λ _. tt)) yes (λ κs x w. refl), tt),
        ),
      ),
    )
    f.Key.name code.function (code.unfolded 𝓤 𝓛.H 𝓜 𝓡 wired)
    (λ κs. (shr_vals, (shr_vals, (shr_vals, (shr_vals, tt)))))
    (λ κs. (
      shr_Tells (named 0) κs.0 time.the_row,
      (
        shr_Tells (named 1) κs.1.0 u32,
        (
          shr_Tells (named 2) κs.1.1.0 fault.the_row,
          (shr_Tells (named 3) κs.1.1.1.0 sent.the_row, tt),
        ),
      ),
    )) (λ κs qs bounds a g are.
    let vs : Valss (types_at f.signature.params κs) = (shr_vals a.0, (shr_vals a.1.0, (shr_vals a.1.1.0, (shr_vals a.1.1.1.0, tt)))) in
    let y : W.Ghost = ((κs, qs, bounds, a, vs), tt) in
    let made : R.Denot = record { entry = entry a.0.now a.1.0.now (what.Fault a.1.1.0.now) a.1.1.1.0.now } in
    qed 𝓛 ((raw (alive 𝓛 f.signature κs qs) ⊛ ‵ (owns (types_at f.signature.params κs) a vs))
    ∷ raw ((c κs a).requires g) ∷ []) ∵
    keep ! (0 ∷ []) $ split ! $ keep ! (0 ∷ []) $
    enter ! _ _ _ _ _ $ alloc_all ! (λ l. pass_all ! refl ((tt, tt), ((tt, tt), ((tt, tt), ((tt, tt), tt)))) $
    sets ! (agg ! (no_more !)) refl (tt, tt) $
    nothing ! $ none_made ! $ fjoin ! $
    returns ! (look_at ! 0 refl) $ free_all ! refl $
    suffices ! _ (ends_at 𝓛 f.ended stayed c y none made (tt, (tt, (tt, (tt, tt)))) (tt, (tt, (tt, (tt, tt))))) $ says ! refl $
    nothing ! $ nothing ! $ fjoin ! $ nothing ! $ fjoin ! $ nothing ! $ fjoin ! $ nothing ! $ fjoin ! $
    move ! (2 ∷ 0 ∷ 1 ∷ []) $ done !))
