use Rattle.std.proofs.Common.{◌≡◌, ◌∙◌, ◌+◌, ◌++◌, Some, ap, drop, get_or, map, string_bytes, sym}
use Rattle.std.specs.Option.{option_map}
use Rattle.dv_partition.specs.Listed.{each}
use Rattle.dv_partition.specs.Steps.{number_at}
use Rattle.dv_partition.proofs.Collected.{found_one}
use Rattle.dv_partition.proofs.listed.owners_by.Goals as goal

pub loop-path-preserved : goal.loop-path-preserved
loop-path-preserved c =
    let table = c.args.listed.now in
    let paths = c.args.paths.now in
    let i = c.loop-path.path-index in
    let item = c.path-item.result in
    let number : number_at table (string_bytes (get_or paths i item)) ≡ Some c.in-Some.process =
    ap (λ p. number_at table (string_bytes p)) (sym c.path-item.is)
    ∙ ap (number_at table) (sym c.as_str.ensures.value) ∙ sym c.in-Some.ensures in
    c.loop-path.invariant
    ∙ found_one (number_at table) string_bytes paths c.loop-path.owners.items i item c.loop-path-test.true c.in-Some.process number
    ∙ ap (λ os. option_map (λ rest. os ++ rest) (each (number_at table) (map string_bytes (drop (i + 1) paths))))
    (sym c.in_ok-push.ensures.items)
