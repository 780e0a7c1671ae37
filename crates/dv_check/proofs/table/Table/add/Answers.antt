use Rattle.std.proofs.Common.{◌≡◌, arith, true, is_none, nat_eq}
use Rattle.std.proofs.lemmas.Grind.{common_steps}
use Rattle.std.specs.HashMap.{get}
use Rattle.dv_check.specs.Tables.{table_value, value_at}
use Rattle.dv_check.proofs.Tables.{high_more, low_more, stays_first}
use Rattle.dv_check.proofs.table.Table.add.Goals as goal

pub returns-in_ok-put_at-clause-added : goal.returns-in_ok-put_at-clause-added
unfolding table_value
returns-in_ok-put_at-clause-added g c =
    let t = c.args.self.now in
    let none : is_none (table_value t c.args.number) ≡ true =
    grind (arith, common_steps, c.get.ensures, c.is_none-is_new.ensures, c.if-is_new.true) in
    low_more t.limit (value_at t.low.items) (value_at c.put_at.new.entries.items) (get nat_eq t.high) c.args.number c.args.value
    c.if-number-self.true none c.in_ok-put_at.ensures

pub returns-in_ok-insert-clause-added : goal.returns-in_ok-insert-clause-added
unfolding table_value
returns-in_ok-insert-clause-added g c =
    let t = c.args.self.now in
    let none : is_none (table_value t c.args.number) ≡ true =
    grind (arith, common_steps, c.get.ensures, c.is_none-is_new.ensures, c.if-is_new.true) in
    high_more t.limit (value_at t.low.items) (get nat_eq t.high) (get nat_eq c.insert.new.self) c.args.number c.args.value
    c.if-number-self.false none c.in_ok-insert.ensures.updates.0

pub returns-else-is_new-clause-added : goal.returns-else-is_new-clause-added
returns-else-is_new-clause-added g c =
    stays_first (table_value c.args.self.now) c.args.number c.args.value
    (grind (arith, common_steps, c.get.ensures, c.is_none-is_new.ensures, c.if-is_new.false))
