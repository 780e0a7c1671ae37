-- What is made of the components of a process is its share of the job.
use Rattle.std.proofs.Common.{◌≡◌, inl, inr, [], ◌∷◌, ◌++◌, Some, ℕ, ◌<◌, ◌≤◌, Bool, true, false, ◌&&◌, nat_eq, nat_le, nat_lt}
use Rattle.std.proofs.Common.{List, length, map, get_or, Option, None, refl, ap, sym, ◌∙◌, subst, arith, zero-add}
use Rattle.std.specs.List.{All, Contains, range_with_len, slice_get}
use Rattle.std.proofs.lemmas.Bool.{false≢true}
use Rattle.std.proofs.lemmas.Bool.Decides.{nat_tests}
use Rattle.std.proofs.lemmas.List.Elements.{filter_passes}
use Rattle.std.proofs.lemmas.List.FromFn.{get_or-map-range_with_len}
use Rattle.dv_bag.specs.Bag.{Counts}
use Rattle.dv_time.specs.Time.{IsOfRun}
use Rattle.dv_time.specs.Limits.{greatest_limit, greatest_tick}
use Rattle.dv_bag.specs.Inputs.{inputs_at}
use Rattle.dv_bag.specs.declared.inputs.Input.{Input}
use Rattle.dv_bag.specs.declared.state.State.{State}
use Rattle.dv_devs.specs.Behaviour.{Behaviour}
use Rattle.dv_devs.specs.Inputs.{ArriveAlike}
use Rattle.dv_conservative.specs.Flat.{Flat, Member as Meant, network}
use Rattle.dv_conservative.specs.Links.{Delivery, Link, links_between}
use Rattle.dv_conservative.specs.Process.{Outgoing, Share as MeantShare, is_port_of}
use Rattle.dv_conservative.specs.Responses.{least_response}
use Rattle.dv_conservative.specs.World.{Job, incoming_from, outgoing_from, share_of}
use Rattle.dv_share.specs.Share.{flat_by, member_by}
use Rattle.dv_share.specs.declared.tables.Member.{Member}
use Rattle.dv_bag.specs.Responses.{ticks_of}
use Rattle.dv_local.specs.Shares.{AreOfRun, IsLed, IsShare, IsPortOf, outgoing_of, share_by}
use Rattle.dv_local.specs.declared.share.Share.{Share}
use Rattle.dv_partition.specs.Groups.{Grouping, owner_of}
use Rattle.dv_plan.specs.Channels.{away_of}
use Rattle.dv_plan.specs.declared.channels.Away.{Away}
use Rattle.dv_plan.specs.Cuts.{CutOf, between, entrances_to, exits_from, owned_by}
use Rattle.dv_conservative.specs.Alike.{with_outside}
use Rattle.dv_plan.specs.Plans.{IsShareOf}
use Rattle.dv_plan.specs.Steps.{AreMade, IsCommonOf, IsMadeOf, comes_here, is_led, is_port, leads, led_inputs, members_of, way_of}
use Rattle.dv_plan.specs.Wholes.{AreMembers, IsMember, IsWhole, job_by}
use Rattle.dv_plan.specs.declared.share.Common.{Common}
use Rattle.dv_plan.specs.declared.whole.Whole.{Whole}
use Rattle.dv_plan.proofs.Holds.{least_hold}
use Rattle.dv_plan.proofs.Lists.{all_kept, any_some, few_kept, get_pushed, get_within, map_kept, rise_kept}
use Rattle.dv_plan.proofs.Members.{tables_by_members}
use Rattle.dv_plan.proofs.Outside.{arrive_led, same_port}

both_true : (a b : Bool) → (a && b) ≡ true → (a ≡ true) × (b ≡ true)
both_true true b h = (refl, h)
both_true false b h = absurd (false≢true h)

equal : (a b : ℕ) → nat_eq a b ≡ true → a ≡ b
equal a b h = grind (arith, nat_tests)

less : (a b : ℕ) → nat_lt a b ≡ true → a < b
less a b h = grind (arith, nat_tests)

at_most : (a b : ℕ) → nat_le a b ≡ true → a ≤ b
at_most a b h = grind (arith, nat_tests)

port_of : (ms : List Member) (k port : ℕ) → is_port ms k port ≡ true → IsPortOf ms k port
port_of ms k port h =
    let some = any_some (λ (m : Member). nat_eq m.number k && nat_lt port m.inputs) ms h in
    let both = both_true (nat_eq some.0.number k) (nat_lt port some.0.inputs) some.2 in
    (some.0, some.1, equal some.0.number k both.0, less port some.0.inputs both.1)

flat_with : List Meant → List Link → List Link → List Link → ℕ → Flat
flat_with ms links entrances exits outputs =
    record { members = ms; links = links; entrances = entrances; exits = exits; outputs = outputs }

share_with : ℕ → ℕ → Flat → (ℕ → List Counts) → List ℕ → List Outgoing → Option ℕ → MeantShare
share_with limit horizon f outside incoming outgoing response = record {
  limit = limit;
  horizon = horizon;
  flat = f;
  outside = outside;
  incoming = incoming;
  outgoing = outgoing;
  response = response;
}

module _ {S : Type 0} (behaviour : S → Behaviour) (fits : S → State → Type 0) (w : Whole S) (inputs : List Input) (g : Grouping)
    (c : Common)
    (h : IsWhole fits w) (common : IsCommonOf w inputs g c) (p : ℕ) (there : p < g.processes) (s : Share S)
    (made : IsMadeOf c p (members_of g p w.members.items) w.models.items s) where
  abbrev job : Job
  job = job_by behaviour w inputs g

  abbrev own : List Member
  own = members_of g p w.members.items

  abbrev target : Flat
  target = (share_of job p).flat

  limit : s.tables.limit ≡ w.limit
  limit = made.limit ∙ common.limit

  ports : s.ports ≡ w.ports
  ports = made.ports ∙ common.ports

  are_members : AreMembers fits s.tables.limit s.tables.models.items s.tables.members.items
  are_members =
      subst (λ (l : ℕ). AreMembers fits l s.tables.models.items s.tables.members.items) (sym limit)
      (subst (λ (xs : List S). AreMembers fits w.limit xs s.tables.members.items) (sym made.models)
      (subst (λ (ms : List Member). AreMembers fits w.limit w.models.items ms) (sym made.members) (record {
        rise = rise_kept (λ (m : Member). owned_by g p m.number) 0 w.members.items h.members.rise;
        each = all_kept (IsMember fits w.limit w.models.items) (λ (m : Member). owned_by g p m.number) w.members.items h.members.each;
      })))

  own_members : map (member_by behaviour w.limit w.models.items) own ≡ target.members
  own_members = map_kept (member_by behaviour w.limit w.models.items) (λ (m : Meant). nat_eq (owner_of g m.number) p) w.members.items

  members_same : map (member_by behaviour s.tables.limit s.tables.models.items) s.tables.members.items ≡ target.members
  members_same =
      ap (λ (l : ℕ). map (member_by behaviour l s.tables.models.items) s.tables.members.items) limit
      ∙ ap (λ (xs : List S). map (member_by behaviour w.limit xs) s.tables.members.items) made.models
      ∙ ap (map (member_by behaviour w.limit w.models.items)) made.members
      ∙ own_members

  entrances_same : s.tables.entrances ≡ target.entrances
  entrances_same = made.entrances ∙ ap (λ (k : CutOf). entrances_to k p) common.cut

  flat_same : flat_by behaviour s.tables ≡ target
  unfolding flat_with
  flat_same =
      ap (λ (ms : List Meant). flat_with ms s.tables.links s.tables.entrances s.tables.exits s.tables.outputs) members_same
      ∙ ap (λ (ls : List Link). flat_with target.members ls s.tables.entrances s.tables.exits s.tables.outputs)
      (made.links ∙ ap (λ (k : CutOf). between k p p) common.cut)
      ∙ ap (λ (ls : List Link). flat_with target.members target.links ls s.tables.exits s.tables.outputs) entrances_same
      ∙ ap (λ (ls : List Link). flat_with target.members target.links target.entrances ls s.tables.outputs)
      (made.exits ∙ ap (λ (k : CutOf). exits_from k p) common.cut)
      ∙ ap (λ (n : ℕ). flat_with target.members target.links target.entrances target.exits n) (made.outputs ∙ common.outputs)

  response_same : ticks_of s.response ≡ job.responses p
  response_same =
      made.response None
      ∙ ap (λ (rs : List (Option ℕ)). get_or rs p None) common.responses
      ∙ get_or-map-range_with_len (λ q. least_response (owner_of g) q 0 (map ticks_of w.responses.items)) 0 g.processes p p None there
      (zero-add p)

  inputs_same : s.inputs ≡ led_inputs w.limit w.ports own target.entrances inputs
  inputs_same =
      made.inputs
      ∙ ap (λ (n : ℕ). led_inputs n c.ports own (entrances_to c.cut.now p) c.inputs.now) common.limit
      ∙ ap (λ (n : ℕ). led_inputs w.limit n own (entrances_to c.cut.now p) c.inputs.now) common.ports
      ∙ ap (λ (k : CutOf). led_inputs w.limit w.ports own (entrances_to k p) c.inputs.now) common.cut
      ∙ ap (led_inputs w.limit w.ports own target.entrances) common.inputs

  run_one : (i : Input) → comes_here w.limit w.ports own target.entrances i ≡ true → IsOfRun s.tables.limit i.time
  run_one i e =
      let within = (both_true (nat_le i.time.micro w.limit) (nat_lt i.port w.ports && is_led own target.entrances i.port) e).0 in
      subst (λ (n : ℕ). i.time.micro ≤ n) (sym limit) (at_most i.time.micro w.limit within)

  led_one : (i : Input) → comes_here w.limit w.ports own target.entrances i ≡ true → IsLed s i
  led_one i e =
      let here = (both_true (nat_le i.time.micro w.limit) (nat_lt i.port w.ports && is_led own target.entrances i.port) e).1 in
      let both = both_true (nat_lt i.port w.ports) (is_led own target.entrances i.port) here in
      let some = any_some (λ (l : Link). nat_eq l.from_port i.port && leads own l) target.entrances both.1 in
      let l = some.0 in
      let from = both_true (nat_eq l.from_port i.port) (leads own l) some.2 in
      let to = both_true (nat_lt 0 l.copies) (is_port own l.to l.to_port) from.1 in (
        subst (λ (n : ℕ). i.port < n) (sym ports) (less i.port w.ports both.0),
        (
          l,
          subst (λ (ls : List Link). Contains ls l) (sym entrances_same) some.1,
          equal l.from_port i.port from.0,
          less 0 l.copies to.0,
          subst (λ (ms : List Member). IsPortOf ms l.to l.to_port) (sym made.members) (port_of own l.to l.to_port to.1),
        ),
      )

  is_plan : IsShare fits s
  is_plan = record {
    tables = tables_by_members fits s.tables are_members;
    limit = subst (λ (n : ℕ). n ≤ greatest_limit) (sym limit) h.limit;
    horizon = subst (λ (n : ℕ). n ≤ greatest_tick) (sym (made.horizon ∙ common.horizon)) h.horizon;
    hold = least_hold (owner_of g) p w.responses.items s.response h.holds response_same;
    led = subst (λ (is : List Input). All (IsLed s) is) (sym inputs_same) (λ k d lt.
        led_one (get_or (led_inputs w.limit w.ports own target.entrances inputs) k d)
        (filter_passes (comes_here w.limit w.ports own target.entrances) inputs k d lt));
    of_run = subst (λ (is : List Input). AreOfRun s.tables.limit is) (sym inputs_same) (λ k d lt.
        run_one (get_or (led_inputs w.limit w.ports own target.entrances inputs) k d)
        (filter_passes (comes_here w.limit w.ports own target.entrances) inputs k d lt));
  }

  same : share_by behaviour s ≡ with_outside (share_by behaviour s).outside (share_of job p)
  unfolding share_with
  same =
      let out = (share_by behaviour s).outside in
      let t = share_of job p in
      ap (λ (n : ℕ). share_with n s.horizon (flat_by behaviour s.tables) out s.sources.items (map outgoing_of s.ways.items)
      (ticks_of s.response)) limit
      ∙ ap (λ (n : ℕ). share_with w.limit n (flat_by behaviour s.tables) out s.sources.items (map outgoing_of s.ways.items)
      (ticks_of s.response))
      (made.horizon ∙ common.horizon)
      ∙ ap (λ (f : Flat). share_with w.limit w.horizon f out s.sources.items (map outgoing_of s.ways.items) (ticks_of s.response)) flat_same
      ∙ ap (λ (ns : List ℕ). share_with w.limit w.horizon target out ns (map outgoing_of s.ways.items) (ticks_of s.response))
      (made.sources ∙ ap (incoming_from p 0) common.links)
      ∙ ap (λ (os : List Outgoing). share_with w.limit w.horizon target out t.incoming os (ticks_of s.response))
      (made.ways job (sym (ap (λ (k : CutOf). owner_of k.grouping) common.cut)) (sym (ap (λ (k : CutOf). k.direct) common.cut))
      ∙ ap (outgoing_from job p 0) common.links)
      ∙ ap (λ (r : Option ℕ). share_with w.limit w.horizon target out t.incoming t.outgoing r) response_same

  outside_same : (n : ℕ) → inputs_at s.tables.limit s.ports s.inputs n
      ≡ inputs_at w.limit w.ports (led_inputs w.limit w.ports own target.entrances inputs) n
  outside_same n =
      ap (λ (l : ℕ). inputs_at l s.ports s.inputs n) limit
      ∙ ap (λ (q : ℕ). inputs_at w.limit q s.inputs n) ports
      ∙ ap (λ (is : List Input). inputs_at w.limit w.ports is n) inputs_same

  outside : (n : ℕ) (ds : List Delivery) →
      ArriveAlike (network target) ((share_by behaviour s).outside n, ds) ((share_of job p).outside n, ds)
  outside n ds =
      subst (λ (bags : List Counts). ArriveAlike (network target) (bags, ds) (job.outside n, ds)) (sym (outside_same n))
      (arrive_led target own
      (λ k q. same_port behaviour w.limit w.models.items own k q ∙ ap (λ (ms : List Meant). is_port_of ms k q) own_members)
      w.limit w.ports inputs n ds)

  pub made_is_share : IsShareOf behaviour fits job p s
  made_is_share = record {
    share = is_plan;
    few =
        let less_kept = few_kept (λ (m : Member). owned_by g p m.number) w.members.items in
        let long = ap length made.members in
        omega (arith, less_kept, long, h.few);
    alike = record { same = same; outside = outside };
  }

-- so is each of several
pub shares_of_plan : {S : Type 0} (behaviour : S → Behaviour) (fits : S → State → Type 0) (w : Whole S) (inputs : List Input)
    (g : Grouping) {c : Common}
    (lists : List (List Member)) (code : List S) (shares : List (Share S)) → AreMade c lists code shares → IsWhole fits w
    → IsCommonOf w inputs g c
    → lists ≡ map (λ p. members_of g p w.members.items) (range_with_len 0 g.processes) → code ≡ w.models.items → length shares ≡ g.processes
    → (p : ℕ) (s : Share S) → slice_get shares p ≡ Some s → IsShareOf behaviour fits (job_by behaviour w inputs g) p s
shares_of_plan {S} behaviour fits w inputs g {c} lists code shares all h common listed coded long p s e =
    let within = get_within shares s p e in
    let there : p < g.processes = omega (arith, within, long) in
    let own : get_or lists p [] ≡ members_of g p w.members.items =
    ap (λ ls. get_or ls p []) listed ∙ get_or-map-range_with_len (λ q. members_of g q w.members.items) 0 g.processes p p [] there
    (zero-add p) in
    made_is_share behaviour fits w inputs g c h common p there s
    (subst (λ (ms : List Member). IsMadeOf c p ms w.models.items s) own
    (subst (λ (xs : List S). IsMadeOf c p (get_or lists p []) xs s) coded (all p s e)))

-- and of one more
pub made_more : {S : Type 0} (c : Common) (lists : List (List Member)) (code : List S) (shares : List (Share S)) (one : Share S)
    (process : ℕ)
    (ms : List Member) (own : List S) → AreMade c lists code shares → length shares ≡ process → get_or lists process [] ≡ ms → own ≡ code
    → IsMadeOf c process ms own one → AreMade c lists code (shares ++ one ∷ [])
made_more {S} c lists code shares one process ms models all long listed coded made p s e = elim (get_pushed shares one s p e) [
  | inl before ↦ all p s before
  | inr last ↦
      subst (λ (t : Share S). IsMadeOf c p (get_or lists p []) code t) (sym last.1)
      (subst (λ (q : ℕ). IsMadeOf c q (get_or lists q []) code one) (sym (last.0 ∙ long))
      (subst (λ (xs : List Member). IsMadeOf c process xs code one) (sym listed)
      (subst (λ (xs : List S). IsMadeOf c process ms xs one) coded made)))
]

-- the links that lead away, by the cut and by the job
pub ways_of_job : (job : Job) (k : CutOf) (p : ℕ) (away : List Away) → job.owner ≡ owner_of k.grouping → job.flat.links ≡ k.direct →
    map (way_of k p) away ≡ map (away_of job p) away
ways_of_job job k p away owner links =
    sym (ap (λ (o : ℕ → ℕ). map (λ (a : Away). let out : Outgoing = record {
      number = a.number;
      links = links_between (λ j. nat_eq (o j) p) (λ j. nat_eq (o j) a.target) job.flat.links;
    } in out) away) owner
    ∙ ap (λ (ls : List Link). map (λ (a : Away). let out : Outgoing = record {
      number = a.number;
      links = links_between (owned_by k.grouping p) (owned_by k.grouping a.target) ls;
    } in out) away) links)
