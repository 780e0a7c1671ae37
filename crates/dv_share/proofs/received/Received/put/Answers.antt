use Rattle.std.proofs.Common.{◌≡◌, ◌∙◌, ◌<◌, true, nat_eq, ℕ, List, length, map, set, subst, sym, ap, refl, arith}
use Rattle.std.proofs.Common.{IsTrue}
use Rattle.std.specs.List.{All}
use Rattle.std.proofs.lemmas.Bool.{eq-eqb}
use Rattle.std.proofs.lemmas.List.{get_or_default}
use Rattle.std.proofs.lemmas.Result.{on_ok_weaker}
use Rattle.dv_bag.specs.Bag.{Counts, bag_at, with_copies}
use Rattle.dv_conservative.specs.Links.{Delivery as Meant}
use Rattle.dv_share.specs.Links.{delivery_of}
use Rattle.dv_share.specs.Indices.{is_in, indices_of}
use Rattle.dv_share.specs.Received.{AreMet, ReceivedOf, receipt_at, nowhere, indexed_at, with_delivery_at}
use Rattle.dv_share.specs.declared.index.Indexed.{Indexed}
use Rattle.dv_share.specs.declared.received.Receipt.{Receipt}
use Rattle.dv_share.proofs.MetIndices.{at_index, indexed_put, indices_met}
use Rattle.dv_share.proofs.Indices.{in_all}
use Rattle.dv_share.proofs.received.Received.put.Goals as goal

-- an index that is met is one of those that are kept
module _ (receipts : List Receipt) (indices : List ℕ) (h : AreMet receipts indices) (v : ReceivedOf)
    (is : indexed_at receipts indices ≡ v.items) (p : ℕ) (met : IsTrue (is_in p (indices_of v.items))) where
  here : IsTrue (is_in p indices)
  here = ap (is_in p) (sym (indices_met receipts indices h)) ∙ ap (λ (xs : List (Indexed (List Counts))). is_in p (indices_of xs)) is ∙ met

  within : p < length receipts
  within = in_all (λ q. q < length receipts) p indices h.within here

pub index_mut-requires : goal.index_mut-requires
index_mut-requires c =
    let lt = within c.self.inside.receipts.items c.self.inside.indices.items c.self.invariant c.args.self.now
    (ap (λ (v : ReceivedOf). v.items) c.self.view_is) c.args.index c.requires.met in
    omega (arith, lt)

pub put-requires : goal.put-requires
put-requires c =
    let receipts = c.self.inside.receipts.items in
    let indices = c.self.inside.indices.items in
    let p = c.args.index in
    let items = ap (λ (v : ReceivedOf). v.items) c.self.view_is in
    let lt = within receipts indices c.self.invariant c.args.self.now items p c.requires.met in
    let is = c.index_mut.ensures.value ∙ get_or_default receipts p c.index_mut.result.now nowhere lt in
    let ports = at_index receipts p (λ (x : Indexed (List Counts)). x.index ≡ p → c.args.delivery.now.port < length x.what) indices
    (subst (λ (xs : List (Indexed (List Counts))). All (λ (x : Indexed (List Counts)). x.index ≡ p → c.args.delivery.now.port < length x.what) xs)
    (sym items) c.requires.ports)
    (here receipts indices c.self.invariant c.args.self.now items p c.requires.met) (c.self.invariant.own p lt) in
    omega (arith, ports, ap (λ (a : Receipt). length a.indexed.what) is)

-- a delivery at its index
put_there : (p : ℕ) (d : Meant) (x : Indexed (List Counts)) → nat_eq x.index p ≡ true
    → with_delivery_at p d x
    ≡ record { index = x.index; what = set x.what d.port (with_copies d.value d.copies (bag_at x.what d.port)) }
put_there p d x e = rw e refl

pub returns-clause-put : goal.returns-clause-put
returns-clause-put c =
    let receipts = c.self.inside.receipts.items in
    let indices = c.self.inside.indices.items in
    let p = c.args.index in
    let d = delivery_of c.args.delivery.now in
    let items = ap (λ (v : ReceivedOf). v.items) c.self.view_is in
    let lt = within receipts indices c.self.invariant c.args.self.now items p c.requires.met in
    let own = c.self.invariant.own p lt in
    let is = c.index_mut.ensures.value ∙ get_or_default receipts p c.index_mut.result.now nowhere lt in
    let a : Receipt =
    record {
      indexed = record { index = c.index_mut.result.now.indexed.index; what = c.put.new.bags };
      is_met = c.index_mut.result.now.is_met;
    } in
    on_ok_weaker c.put.result
    (λ h.
    indexed_put receipts p a d indices lt c.self.invariant.own c.self.invariant.within
    (ap (λ (bags : List Counts). record { index = c.index_mut.result.now.indexed.index; what = bags }) h
    ∙ ap (λ (a : Receipt). record {
      index = a.indexed.index;
      what = set a.indexed.what d.port (with_copies d.value d.copies (bag_at a.indexed.what d.port));
    }) is
    ∙ sym (put_there p d (receipt_at receipts p).indexed (eq-eqb (receipt_at receipts p).indexed.index p own)))
    ∙ ap (λ (xs : List (Indexed (List Counts))). map (with_delivery_at p d) xs) items)
    c.put.ensures
