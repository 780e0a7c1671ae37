use Rattle.std.proofs.Common.{◌<◌, List, length, ap, sym, subst, ◌∙◌}
use Rattle.dv_time.specs.Time.{time_of}
use Rattle.dv_share.specs.Links.{deliveries_of}
use Rattle.dv_share.specs.declared.link.Delivery.{Delivery as DeliveryOfCode}
use Rattle.dv_react.specs.declared.running.Running.{Running}
use Rattle.dv_share.specs.Share.{AreComponents, StandByIndex}
use Rattle.dv_share.specs.declared.index.Indexed.{Indexed}
use Rattle.dv_local.specs.Undoing.{AreWithin, undone, waits_of}
use Rattle.dv_local.proofs.Begun.{none_arrive, nothing_yet}
use Rattle.dv_local.proofs.Undoing.{all_none}
use Rattle.dv_local.proofs.state.LocalState.new.Goals as goal

pub returns-clause-kept : goal.returns-clause-kept
returns-clause-kept g c =
    let t = c.args.share.tables in
    let rs = c.new-components.result.running in
    let same = sym c.new-components.ensures.components in
    record {
      share = c.requires.share;
      all_come = c.requires.comes;
      components = subst (λ (ss : List Running). AreComponents g.A.Atomic.fits t ss) same c.requires.components;
      agenda = c.in_ok-agenda.ensures ∙ ap (λ (ss : List Running). waits_of ss) (c.deref-2.ensures.value ∙ same);
      arrive = none_arrive t.limit t.members.items c.new.result c.new.ensures.empty;
      within = subst (λ (xs : List (Indexed Running)). AreWithin (length rs) xs) (sym c.in_ok-before.ensures)
          (all_none (λ (p : Indexed Running). p.index < length rs));
      before = subst (λ (xs : List (Indexed Running)). AreComponents g.A.Atomic.fits t (undone xs rs)) (sym c.in_ok-before.ensures)
          (subst (λ (ss : List Running). AreComponents g.A.Atomic.fits t ss) same c.requires.components);
      emitted = subst (λ (xs : List (Indexed _)). StandByIndex (length t.members.items) xs) (sym c.in_ok-emitted.ensures)
          (record { rise = tt; within = all_none _ });
      still = tt;
    }

pub returns-clause-held : goal.returns-clause-held
returns-clause-held g c = λ n. ap (λ (xs : List DeliveryOfCode). deliveries_of xs)
    (nothing_yet c.new.result c.new.ensures.empty (time_of c.args.share.tables.limit n))
