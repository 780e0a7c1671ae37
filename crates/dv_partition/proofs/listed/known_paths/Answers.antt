use Rattle.std.proofs.Common.{◌∙◌, ◌+◌, ◌||◌, Some, ap, bytes_eq, drop, is_some, map, string_bytes, sym}
use Rattle.std.proofs.lemmas.List.{at_drop_more}
use Rattle.std.proofs.lemmas.Map.Text.{hash_map_updates_str}
use Rattle.dv_partition.specs.Answers.{stands}
use Rattle.dv_partition.specs.Steps.{is_in, number_at}
use Rattle.dv_partition.proofs.ListedPaths.{one_known, other_way}
use Rattle.dv_partition.proofs.listed.known_paths.Goals as goal

pub loop-path-preserved : goal.loop-path-preserved
loop-path-preserved c = λ q.
    let paths = c.args.paths.now in
    let i = c.loop-path.path-index in
    let item = c.path-item.result in
    let path = c.as_str.result.now in
    let old = c.loop-path.known in
    let rest = stands q (map string_bytes (drop (i + 1) paths)) in
    ap (λ o. is_some o || rest) (hash_map_updates_str path old c.insert.new.self (Some 0) c.in_ok-insert.ensures.updates q)
    ∙ one_known (bytes_eq path q) 0 (number_at old q) rest
    ∙ ap (λ t. is_in old q || (t || rest)) (other_way path q ∙ ap (bytes_eq q) c.as_str.ensures.value
    ∙ ap (λ p. bytes_eq q (string_bytes p)) c.path-item.is)
    ∙ sym (at_drop_more (λ ps. is_in old q || stands q (map string_bytes ps)) paths i item c.loop-path-test.true)
    ∙ c.loop-path.invariant q
