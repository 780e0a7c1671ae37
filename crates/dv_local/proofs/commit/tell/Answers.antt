use Rattle.std.proofs.Common.{◌≡◌, ◌∙◌, ℕ, [], ◌∷◌, ◌++◌, List, Option, Some, length, slice_get, refl, sym, ap}
use Rattle.std.proofs.lemmas.Option.{slice_get_read}
use Rattle.std.proofs.lemmas.Result.{on_ok_weaker}
use Rattle.dv_time.proofs.Ranks.{time_of-rank}
use Rattle.dv_time.specs.Time.{IsOfRun, rank, time_of}
use Rattle.dv_time.specs.declared.time.Time.{Time}
use Rattle.dv_bag.specs.Bag.{Counts}
use Rattle.dv_bag.specs.Part.{PartOf}
use Rattle.dv_bag.specs.declared.entry.Entry.{Entry}
use Rattle.dv_bag.specs.declared.entry.What.{What}
use Rattle.dv_bag.specs.declared.entry.What.TheVariants as what
use Rattle.dv_record.specs.Told.{entry}
use Rattle.dv_share.specs.Rows.{number_of}
use Rattle.dv_share.specs.declared.tables.Member.{Member}
use Rattle.dv_local.specs.Commits.{what_by}
use Rattle.dv_local.proofs.Commits.{open_told}
use Rattle.dv_local.proofs.commit.tell.Goals as goal

-- the entry that is told is that of the time and the component, with what was given
same_entry : (limit : ℕ) (t : Time) → IsOfRun limit t → (ms : List Member) (p : ℕ) (m : Member) → slice_get ms p ≡ Some m
    → (told meant : What) → told ≡ meant → (sent given : List Counts) → sent ≡ given
    → entry t m.number told sent ≡ entry (time_of limit (rank limit t)) (number_of (slice_get ms p)) meant given
same_entry limit t run ms p m at told meant same sent given is =
    ap (λ (u : Time). entry u m.number told sent) (sym (time_of-rank limit t run))
    ∙ ap (λ (o : Option Member). entry (time_of limit (rank limit t)) (number_of o) told sent) (sym at)
    ∙ ap (λ (w : What). entry (time_of limit (rank limit t)) (number_of (slice_get ms p)) w sent) same
    ∙ ap (λ (bags : List Counts). entry (time_of limit (rank limit t)) (number_of (slice_get ms p)) meant bags) is

pub returns-in-Transition-clause-entries : goal.returns-in-Transition-clause-entries
returns-in-Transition-clause-entries g c =
    let instant = c.args.moment.now.instant.now in
    let ms = c.args.moment.now.tables.now.members.items in
    let p = c.args.index in
    let state = c.args.state.now in
    let at = slice_get_read ms (length ms) p c.index.result.now refl c.requires.index c.index.ensures in
    let same = same_entry instant.limit instant.time instant.of_run ms p c.index.result.now at
    (what.Transition c.in-Transition.kind state) (what_by c.args.happened state)
    (sym (ap (λ q. what_by q state) c.in-Transition.is)) c.sent_at-sent.result.now _ c.sent_at-sent.ensures in
    on_ok_weaker c.moved.result
    (λ h. ap (λ (q : PartOf). q.entries) h
    ∙ ap (λ (e : Entry). (g.R.Record.told c.args.to.now).entries ++ e ∷ []) same) c.moved.ensures.told

pub returns-in-Transition-clause-is_open : goal.returns-in-Transition-clause-is_open
returns-in-Transition-clause-is_open g c =
    open_told c.args.moment.now.instant.now.time c.moved.result _ _ _ refl c.requires.is_open c.moved.ensures.told c.moved.ensures.err

pub returns-in-Fault-clause-entries : goal.returns-in-Fault-clause-entries
returns-in-Fault-clause-entries g c =
    let instant = c.args.moment.now.instant.now in
    let ms = c.args.moment.now.tables.now.members.items in
    let p = c.args.index in
    let state = c.args.state.now in
    let at = slice_get_read ms (length ms) p c.index.result.now refl c.requires.index c.index.ensures in
    let same = same_entry instant.limit instant.time instant.of_run ms p c.index.result.now at
    (what.Fault c.in-Fault.fault) (what_by c.args.happened state)
    (sym (ap (λ q. what_by q state) c.in-Fault.is)) c.sent_at-sent.result.now _ c.sent_at-sent.ensures in
    on_ok_weaker c.faulted.result
    (λ h. ap (λ (q : PartOf). q.entries) h
    ∙ ap (λ (e : Entry). (g.R.Record.told c.args.to.now).entries ++ e ∷ []) same) c.faulted.ensures.told

pub returns-in-Fault-clause-is_open : goal.returns-in-Fault-clause-is_open
returns-in-Fault-clause-is_open g c =
    open_told c.args.moment.now.instant.now.time c.faulted.result _ _ _ refl c.requires.is_open c.faulted.ensures.told c.faulted.ensures.err
