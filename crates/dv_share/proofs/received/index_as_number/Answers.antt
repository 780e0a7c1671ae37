use Rattle.std.proofs.Common.{◌≡◌, ◌∙◌, ℕ, ◌<◌, Result, Ok, Err, arith}
use Rattle.std.specs.Result.{OkIff, result_unwrap_or}
use Rattle.dv_share.specs.declared.tables.Member.{Member}
use Rattle.dv_share.proofs.Order.{at_least_index}
use Rattle.dv_share.proofs.received.index_as_number.Goals as goal

-- what fits is taken
chosen : {E : Type 0} (n v d : ℕ) (r : Result ℕ E) → OkIff r (v < n) v → v < n → result_unwrap_or r d ≡ v
chosen n v d (Ok x) h lt = h.1
chosen n v d (Err e) h lt = absurd (h lt)

pub returns : goal.returns
returns c =
    let m = c.index-members-index.result in
    let least = at_least_index (λ (m : Member). m.number) 0 c.args.members.now c.args.index m c.requires.numbers c.requires.within in
    c.unwrap_or.ensures
    ∙ chosen 4294967296 c.args.index _ c.try_from.result c.try_from.ensures (omega (arith, least, c.index-members-index.element_fits.fits))
