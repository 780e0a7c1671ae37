use Rattle.std.proofs.Common.{◌≡◌, ◌∙◌, ◌≤◌, ◌<◌, ◌∷◌, [], ◌++◌, ℕ, List, length, get_or, map, Some, sym, ap, subst, arith}
use Rattle.std.specs.List.{slice_get}
use Rattle.std.proofs.lemmas.Option.{same_Some, slice_get-get_or}
use Rattle.std.proofs.lemmas.Result.{on_ok_weaker}
use Rattle.dv_bag.specs.Bag.{Counts}
use Rattle.dv_share.specs.Links.{delivery_of}
use Rattle.dv_share.specs.Indices.{AreRising, is_in, indices_of}
use Rattle.dv_share.specs.Received.{AreGathered, with_delivery_at, with_index}
use Rattle.dv_share.specs.Share.{AreTouched, numbers_of}
use Rattle.dv_share.specs.declared.index.Indexed.{Indexed}
use Rattle.dv_share.specs.declared.tables.Member.{Member}
use Rattle.dv_share.proofs.Gathering.{among_met, among_put, gathered_met, gathered_missed, gathered_put, is_met, ports_there, same_index}
use Rattle.dv_share.proofs.Touched.{touched_put}
use Rattle.dv_share.proofs.received.Received.deliver_at.Goals as goal

-- a component without such a port
no_port : (ms : List Member) (p q k port : ℕ) (m n : Member) → AreRising (numbers_of ms) → slice_get ms p ≡ Some m → slice_get ms q ≡ Some n
    → m.number ≡ k → n.number ≡ k → n.inputs ≤ port → port < m.inputs → ⊥
no_port ms p q k port m n up at-m at-n one two le lt =
    let same : p ≡ q = same_index ms p q m n up at-m at-n (one ∙ sym two) in
    let is : m ≡ n = same_Some m n (sym at-m ∙ ap (slice_get ms) same ∙ at-n) in
    omega (arith, le, lt, ap (λ (m : Member). m.inputs) is)

pub returns-then-delivery-inputs-clause-gathered : goal.returns-then-delivery-inputs-clause-gathered
returns-then-delivery-inputs-clause-gathered c ds h =
    let ms = c.args.members.now in
    let q = c.args.index in
    let r = c.index-members-index.result in
    gathered_missed ms ds (delivery_of c.args.delivery.now) c.args.self.now.items
    (λ p m at number lt.
    no_port ms p q c.args.delivery.now.component c.args.delivery.now.port m (get_or ms q r) c.requires.numbers at
    (slice_get-get_or ms q r c.requires.within) number (c.requires.here r) c.if-delivery-inputs.true lt) h

pub put-requires-clause-ports : goal.put-requires-clause-ports
put-requires-clause-ports c =
    let ms = c.args.members.now in
    let q = c.args.index in
    let n = get_or ms q c.index-members-index.result in
    let at : slice_get ms q ≡ Some n = slice_get-get_or ms q c.index-members-index.result c.requires.within in
    let ds = c.requires.gathered.0 in
    let items = c.in_ok-meet.ensures.met
    ∙ ap (λ (p : ℕ). with_index p n.inputs c.args.self.now.items) c.index_as_number-index.ensures in
    subst (λ (p : ℕ). (k : ℕ) (d : Indexed (List Counts)) → k < length c.meet.new.self.items → (get_or c.meet.new.self.items k d).index ≡ p
    → c.args.delivery.now.port < length (get_or c.meet.new.self.items k d).what)
    (sym c.index_as_number-index.ensures)
    (ports_there ms ds q n c.args.delivery.now.port c.meet.new.self.items at c.if-delivery-inputs.false
    (subst (AreGathered ms ds) (sym items) (gathered_met ms ds q n c.args.self.now.items at c.requires.gathered.1)))

pub returns-clause-gathered : goal.returns-clause-gathered
returns-clause-gathered c =
    let ms = c.args.members.now in
    let q = c.args.index in
    let r = c.index-members-index.result in
    let n = get_or ms q r in
    let d = delivery_of c.args.delivery.now in
    let at : slice_get ms q ≡ Some n = slice_get-get_or ms q r c.requires.within in
    let xs = c.args.self.now.items in
    let same = c.index_as_number-index.ensures in
    let items : c.meet.new.self.items ≡ with_index q n.inputs xs =
    c.in_ok-meet.ensures.met ∙ ap (λ (p : ℕ). with_index p n.inputs xs) same in
    on_ok_weaker c.put.result
    (λ put ds h.
    subst (AreGathered ms (ds ++ d ∷ []))
    (sym (put ∙ ap (λ (p : ℕ). map (with_delivery_at p d) c.meet.new.self.items) same
    ∙ ap (λ (ys : List (Indexed (List Counts))). map (with_delivery_at q d) ys) items))
    (gathered_put ms ds d q n (with_index q n.inputs xs) c.requires.numbers at (c.requires.here r) c.if-delivery-inputs.false
    (is_met q n.inputs xs) (gathered_met ms ds q n xs at h)))
    c.put.ensures.put

pub returns-clause-among : goal.returns-clause-among
returns-clause-among c =
    let xs = c.args.self.now.items in
    let d = delivery_of c.args.delivery.now in
    let p = c.index_as_number-index.result in
    on_ok_weaker c.put.result
    (λ put q here.
    ap (λ (ys : List (Indexed (List Counts))). is_in q (indices_of ys)) put
    ∙ among_put p d c.meet.new.self.items q
    (ap (λ (ys : List (Indexed (List Counts))). is_in q (indices_of ys)) c.in_ok-meet.ensures.met ∙ among_met p _ xs q here))
    c.put.ensures.put

pub returns-clause-touched : goal.returns-clause-touched
returns-clause-touched c =
    let ms = c.args.members.now in
    let q = c.args.index in
    let n = get_or ms q c.index-members-index.result in
    let at : slice_get ms q ≡ Some n = slice_get-get_or ms q c.index-members-index.result c.requires.within in
    let d = delivery_of c.args.delivery.now in
    let xs = c.args.self.now.items in
    let ds = c.requires.gathered.0 in
    let same = c.index_as_number-index.ensures in
    let items : c.meet.new.self.items ≡ with_index q n.inputs xs =
    c.in_ok-meet.ensures.met ∙ ap (λ (p : ℕ). with_index p n.inputs xs) same in
    let some : 0 < d.copies = c.requires.some in
    on_ok_weaker c.put.result
    (λ put ps h.
    subst (AreTouched ps)
    (sym (put ∙ ap (λ (p : ℕ). map (with_delivery_at p d) c.meet.new.self.items) same
    ∙ ap (λ (ys : List (Indexed (List Counts))). map (with_delivery_at q d) ys) items))
    (touched_put ps q n.inputs d xs some
    (ports_there ms ds q n d.port (with_index q n.inputs xs) at c.if-delivery-inputs.false
    (gathered_met ms ds q n xs at c.requires.gathered.1)) h))
    c.put.ensures.put
