use Rattle.std.proofs.Common.{Result, arith}
use Rattle.std.specs.Prelude.{OnOk, Ok, Err, string_bytes}
use Rattle.dv_tree.proofs.Dots.{path_pushed}
use Rattle.dv_tree.proofs.tree.push_path.Goals as goal

on_ok : {T E P Q : Type 0} (r : Result T E) → (P → Q) → OnOk r P → OnOk r Q
on_ok (Ok x) weaker h = weaker h
on_ok (Err e) weaker h = tt

pub returns-in_ok-push_str-in-len1-up : goal.returns-in_ok-push_str-in-len1-up
returns-in_ok-push_str-in-len1-up c =
    on_ok c.push_others.result
    (λ others.
    path_pushed c.args.names.now c.args.path.now _ (string_bytes c.args.text.now) _ (string_bytes c.push_others.new.text) _
    (omega (arith, c.in-len1-up.len_at_least)) c.name_at.ensures c.in_ok-push_str-in-len1-up.ensures.bytes others)
    c.push_others.ensures
