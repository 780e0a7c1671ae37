use Rattle.std.proofs.Common.{◌≡◌, ℕ, ◌+◌, ◌/◌, List, replicate, sym, subst, arith}
use Rattle.std.proofs.lemmas.Grind.{common_steps}
use Rattle.dv_agenda.specs.Sets.{IsHeaded}
use Rattle.dv_agenda.proofs.Sets.{headed_new}
use Rattle.dv_agenda.proofs.set.Set.new.Goals as goal

pub invariant_of-result : goal.invariant_of-result
invariant_of-result c =
    let a : c.resize.new.self.items ≡ replicate c.args.words 0 = grind (arith, common_steps) in
    let b : c.resize-2.new.self.items ≡ replicate (c.args.words / 64 + 1) 0 = grind (arith, common_steps) in
    subst (λ (hs : List ℕ). IsHeaded hs c.resize.new.self.items) (sym b)
    (subst (λ (ws : List ℕ). IsHeaded (replicate (c.args.words / 64 + 1) 0) ws) (sym a)
    (headed_new c.args.words (c.args.words / 64 + 1) (omega arith) (omega arith) (omega arith)))
