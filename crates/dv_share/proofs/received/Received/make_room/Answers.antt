use Rattle.std.proofs.Common.{◌∙◌, List, false, refl, sym, ap, subst, arith}
use Rattle.dv_share.specs.Received.{AreMet, indexed_at}
use Rattle.dv_share.specs.declared.received.Receipt.{Receipt}
use Rattle.dv_share.proofs.MetIndices.{met_room, indexed_room}
use Rattle.dv_share.proofs.received.Received.make_room.Goals as goal

pub loop-self-preserved : goal.loop-self-preserved
loop-self-preserved c =
    let receipts = c.loop-self.self-inside.receipts.items in
    let indices = c.loop-self.self-inside.indices.items in
    let met = c.loop-self.invariant.met in
    let a : Receipt =
    record { indexed = record { index = c.index_as_number-index.result; what = c.empty-what.result }; is_met = false } in
    record {
      met =
          subst (λ (xs : List Receipt). AreMet xs indices) (sym c.in_ok-push.ensures.items)
          (met_room receipts indices met a (omega (arith, c.index_as_number-index.ensures, c.len-in-loop-self.ensures)) refl);
      items =
          ap (λ (xs : List Receipt). indexed_at xs indices) c.in_ok-push.ensures.items ∙ indexed_room receipts a indices met.within
          ∙ c.loop-self.invariant.items;
    }
