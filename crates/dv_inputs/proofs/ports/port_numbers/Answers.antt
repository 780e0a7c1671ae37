use Rattle.std.proofs.Common.{◌≡◌, ℕ, cond, List, take, map, Option, Some, is_some, bytes_eq, string_bytes, ap, sym, ◌∙◌}
use Rattle.std.proofs.lemmas.Map.Text.{hash_map_updates_str}
use Rattle.dv_inputs.specs.Numbers.{port_in}
use Rattle.dv_inputs.specs.Steps.{number_in}
use Rattle.dv_inputs.proofs.PortTables.{added, kept, names_before, one_more_name}
use Rattle.dv_inputs.proofs.ports.port_numbers.Goals as goal
use Rattle.dv_inputs.proofs.ports.port_numbers.Goals.{then-not-contains_key+in_ok-insert, else-not-contains_key}

pub loop-number-preserved : goal.loop-number-preserved
loop-number-preserved c =
    let i = c.loop-number.number in
    let before = take i (map string_bytes c.args.ports.now) in
    let name = c.as_bytes-name.result.now in
    let taken = one_more_name string_bytes c.args.ports.now i c.loop-number-test.true c.index-ports-number.result name
    c.index-ports-number.is c.as_bytes-name.ensures.value in
    let has : is_some (port_in before name) ≡ c.contains_key.result = ap is_some (sym (c.loop-number.invariant name))
    ∙ sym c.contains_key.ensures in
    λ q. elim c.if-not-contains_key.branch [
      | then-not-contains_key+in_ok-insert w ↦
          ap (λ m. number_in m q) w.numbers-is
          ∙ hash_map_updates_str name c.loop-number.numbers w.insert.new.self (Some i) w.in_ok-insert.ensures.updates q
          ∙ ap (λ (o : Option ℕ). cond (bytes_eq name q) (Some i) o) (c.loop-number.invariant q)
          ∙ ap (λ (n : ℕ). cond (bytes_eq name q) (Some n) (port_in before q))
          (sym (names_before string_bytes c.args.ports.now i c.loop-number-test.true))
          ∙ sym (added before name (has ∙ w.if-not-contains_key.true) q)
          ∙ ap (λ (ns : List (List ℕ)). port_in ns q) (sym taken)
      | else-not-contains_key w ↦
          ap (λ m. number_in m q) w.numbers-is
          ∙ c.loop-number.invariant q
          ∙ sym (kept before name (has ∙ w.if-not-contains_key.false) q)
          ∙ ap (λ (ns : List (List ℕ)). port_in ns q) (sym taken)
    ]
