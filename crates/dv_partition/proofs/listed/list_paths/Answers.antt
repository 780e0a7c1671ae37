use Rattle.std.proofs.Common.{◌≡◌, ◌∙◌, ◌+◌, ◌||◌, [], Some, Bor, ap, bytes_eq, drop, false, get_or, is_some, sym, true}
use Rattle.std.specs.Option.{option_or}
use Rattle.std.proofs.lemmas.List.{at_drop_more}
use Rattle.std.proofs.lemmas.Map.Text.{hash_map_updates_str}
use Rattle.std.proofs.lemmas.Slice.Eq.{bytes_eq-Decides}
use Rattle.dv_partition.specs.Answers.{first_refusal}
use Rattle.dv_partition.specs.Listed.{Text}
use Rattle.dv_partition.specs.Steps.{among, is_in, number_at, texts_of}
use Rattle.dv_partition.proofs.ListedPaths.{accepted_one, is_nothing, one_listed, one_seen, same_refusal}
use Rattle.dv_partition.proofs.listed.list_paths.Goals as goal

pub loop-path-preserved : goal.loop-path-preserved
loop-path-preserved c =
    let list = c.args.list.now in
    let i = c.loop-path.path-index in
    let none : Bor Text = record { ref_ptr = (0, 0); now = [] } in
    let path = (get_or list i none).now in
    let process = c.args.process in
    let old = c.loop-path.listed in
    let new = c.insert.new.self in
    let is_path = is_in c.args.known.now in
    let rest = texts_of (drop (i + 1) list) in
    let here : is_path path ≡ true = sym c.contains_key.ensures ∙ c.if-not-contains_key.false in
    let absent : is_in old path ≡ false = sym c.contains_key-in-loop-path.ensures ∙ c.if-contains_key.false in
    let updated = hash_map_updates_str path old new (Some process) c.in_ok-insert.ensures.updates in
    record {
      numbers = λ q.
          ap (λ o. option_or o (among rest process q)) (updated q)
          ∙ one_listed process path rest q (number_at old q)
          (λ same. ap (number_at old) (sym ((bytes_eq-Decides path q).0 same)) ∙ is_nothing (number_at old path) absent)
          ∙ sym (at_drop_more (λ ts. option_or (number_at old q) (among (texts_of ts) process q)) list i none c.loop-path-test.true)
          ∙ c.loop-path.invariant.numbers q;
      refusal =
          same_refusal is_path (is_in new) (λ t. is_in old t || bytes_eq t path) rest
          (λ t. ap is_some (updated t) ∙ one_seen process path t (number_at old t))
          ∙ sym (accepted_one is_path (is_in old) path rest here absent)
          ∙ sym (at_drop_more (λ ts. first_refusal is_path (is_in old) (texts_of ts)) list i none c.loop-path-test.true)
          ∙ c.loop-path.invariant.refusal;
    }
