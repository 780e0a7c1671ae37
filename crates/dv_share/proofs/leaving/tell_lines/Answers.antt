use Rattle.std.proofs.Common.{◌∙◌, ◌<◌, ◌^◌, List, IsPermutation, length, ap, sym, arith, rules}
use Rattle.std.proofs.lemmas.Result.{on_ok_weaker}
use Rattle.dv_bag.specs.Bag.{Counts}
use Rattle.dv_bag.specs.declared.entry.Outer.{Outer}
use Rattle.dv_devs.specs.Network.{outer_from}
use Rattle.dv_react.specs.Components.{rank_of}
use Rattle.dv_record.specs.Told.{with_lines}
use Rattle.dv_record.proofs.Lines.{lines_at_rank}
use Rattle.dv_share.specs.Links.{deliveries_of}
use Rattle.dv_share.proofs.Inboxes.{inbox_length, inbox_same}
use Rattle.dv_share.proofs.Sums.{moved_delivers}
use Rattle.dv_share.proofs.leaving.tell_lines.Goals as goal

pub left-requires : goal.left-requires
left-requires g c =
    let small : c.args.outputs < 2 ^ 32 = search rules in
    record {
      is_open = c.requires;
      ports = omega (
        arith,
        ap length c.in_ok-bags.ensures,
        inbox_length 0 (deliveries_of c.sort_unstable.new.self) 0 c.args.outputs,
        small,
      );
    }

pub returns-clause-told : goal.returns-clause-told
returns-clause-told g c =
    let told = g.R.Record.told in
    let limit = c.args.instant.now.limit in
    let time = c.args.instant.now.time in
    let now = rank_of c.args.instant.now in
    let all = c.args.leaving.now in
    let sorted = c.sort_unstable.new.self in
    let outputs = c.args.outputs in
    let moved : IsPermutation all sorted = c.sort_unstable.ensures.permutation in
    let bags =
    c.in_ok-bags.ensures
    ∙ inbox_same 0 (deliveries_of sorted) (deliveries_of all) 0 outputs (moved_delivers sorted all moved 0) in
    let lines = sym (lines_at_rank limit time 0 c.in_ok-bags.bags c.args.instant.now.of_run)
    ∙ ap (λ (xs : List Counts). outer_from limit now 0 xs) bags in
    on_ok_weaker c.left.result
    (λ h. h ∙ ap (λ (os : List Outer). with_lines os (told c.args.to.now)) lines) c.left.ensures.told
