use Rattle.std.proofs.Common.{◌≡◌, ◌∙◌, ℕ, zero, suc, List, [], ◌∷◌, length, replicate, refl, sym, ap}
use Rattle.dv_bag.specs.Bag.{Counts, bag_at}
use Rattle.dv_share.proofs.received.is_blank.Goals as goal

all_none : (bags : List Counts) → ((port : ℕ) → bag_at bags port ≡ []) → bags ≡ replicate (length bags) []
all_none [] h = refl
all_none (b ∷ bags) h =
    ap (λ (b : Counts). b ∷ bags) (h zero) ∙ ap (λ (bs : List Counts). [] ∷ bs) (all_none bags (λ port. h (suc port)))

pub returns-then-len-ports : goal.returns-then-len-ports
returns-then-len-ports c empty =
    all_none c.args.bags.now (c.is_empty.ensures.none empty)
    ∙ ap (λ (n : ℕ). replicate n []) (sym c.len.ensures ∙ c.if-len-ports.true)
