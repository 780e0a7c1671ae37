-- What the share of a process starts from, and the process that has all components.
use Rattle.std.proofs.Common.{◌≡◌, ℕ, suc, ◌≤◌, Bool, true, false, not, ◌&&◌, cond, nat_eq, List, [], ◌∷◌, map, refl, sym, ap, ◌∙◌, arith}
use Rattle.std.specs.List.{filter}
use Rattle.std.proofs.lemmas.Bool.Decides.{nat_tests}
use Rattle.std.proofs.lemmas.List.{length-map}
use Rattle.dv_devs.specs.Cuts.{RiseFrom}
use Rattle.dv_devs.specs.Network.{emissions_at, trace_before}
use Rattle.dv_devs.specs.NextTimes.{AllFrom, IsFrom, least_next}
use Rattle.dv_devs.proofs.NextTimes.{least_from}
use Rattle.dv_devs.proofs.Parts.{part_of_all}
use Rattle.dv_conservative.specs.Events.{Event, deliveries_at}
use Rattle.dv_conservative.specs.Flat.{Member, crossings, network, numbers, others, whole}
use Rattle.dv_conservative.specs.Links.{Delivery, Link, SameFor, carried, delivered, links_between, sent_of}
use Rattle.dv_conservative.specs.Process.{Outgoing, all_events, part_by}
use Rattle.dv_conservative.specs.World.{Channel, Job, incoming_from, outgoing_from, outgoing_on, owned, share_of}
use Rattle.dv_conservative.proofs.Kept.{part_of_share}
use Rattle.dv_conservative.proofs.Wholes.{part_same}

-- no next time of a share is before those of the model
starts_of : (who : ℕ → Bool) (n : ℕ) (ms : List Member) → AllFrom n (map (λ (m : Member). m.start) ms) →
    AllFrom n (map (λ (m : Member). m.start) (filter (λ (m : Member). who m.number) ms))
starts_of who n [] h = tt
starts_of who n (m ∷ ms) h = by_test (who m.number) (starts_of who n ms h.1)
  where
    by_test : (t : Bool) → AllFrom n (map (λ (m : Member). m.start) (filter (λ (m : Member). who m.number) ms)) →
        AllFrom n (map (λ (m : Member). m.start)
        (cond t (m ∷ filter (λ (m : Member). who m.number) ms) (filter (λ (m : Member). who m.number) ms)))
    by_test true rest = (h.0, rest)
    by_test false rest = rest

pub starts_later : (job : Job) (p n : ℕ) → AllFrom n (whole job.flat).start → IsFrom n (least_next (network (share_of job p).flat).start)
starts_later job p n h = least_from n (network (share_of job p).flat).start (starts_of (owned job p) n job.flat.members h)

-- the numbers of links rise
pub incoming_rise : (p l : ℕ) (chs : List Channel) → (low : ℕ) → low ≤ l → RiseFrom low (incoming_from p l chs)
incoming_rise p l [] low le = tt
incoming_rise p l (c ∷ cs) low le =
    by_test (nat_eq c.target p) (incoming_rise p (suc l) cs (suc l) (omega arith)) (incoming_rise p (suc l) cs low (omega arith))
  where
    by_test : (t : Bool) → RiseFrom (suc l) (incoming_from p (suc l) cs) → RiseFrom low (incoming_from p (suc l) cs) →
        RiseFrom low (cond t (l ∷ incoming_from p (suc l) cs) (incoming_from p (suc l) cs))
    by_test true after rest = (le, after)
    by_test false after rest = rest

pub outgoing_rise : (job : Job) (p l : ℕ) (chs : List Channel) → (low : ℕ) → low ≤ l →
    RiseFrom low (map (λ (o : Outgoing). o.number) (outgoing_from job p l chs))
outgoing_rise job p l [] low le = tt
outgoing_rise job p l (c ∷ cs) low le =
    by_test (nat_eq c.source p) (outgoing_rise job p (suc l) cs (suc l) (omega arith)) (outgoing_rise job p (suc l) cs low (omega arith))
  where
    by_test : (t : Bool) → RiseFrom (suc l) (map (λ (o : Outgoing). o.number) (outgoing_from job p (suc l) cs)) →
        RiseFrom low (map (λ (o : Outgoing). o.number) (outgoing_from job p (suc l) cs)) →
        RiseFrom low (map (λ (o : Outgoing). o.number)
        (cond t (outgoing_on job l c ∷ outgoing_from job p (suc l) cs) (outgoing_from job p (suc l) cs)))
    by_test true after rest = (le, after)
    by_test false after rest = rest

-- nothing crosses to a process that has all components
module _ (job : Job) (p : ℕ) (all : (k : ℕ) → job.owner k ≡ p) where
  owns : (k : ℕ) → owned job p k ≡ true
  owns k = let here : job.owner k ≡ p = all k in grind (arith, nat_tests)

  none_between : (links : List Link) → links_between (others (owned job p)) (owned job p) links ≡ []
  none_between [] = refl
  none_between (l ∷ ls) = by_test (owned job p l.from) (owned job p l.to) (owns l.from) (none_between ls)
    where
      by_test : (t u : Bool) → t ≡ true → links_between (others (owned job p)) (owned job p) ls ≡ [] →
          cond (not t && u) (l ∷ links_between (others (owned job p)) (owned job p) ls)
          (links_between (others (owned job p)) (owned job p) ls) ≡ []
      by_test true u e rest = rest
      by_test false u e rest = absurd (cc)

  none_cross : (n : ℕ) → crossings job.limit job.flat job.outside (others (owned job p)) (owned job p) n ≡ []
  none_cross n =
      ap (λ (ls : List Link). carried ls (sent_of (numbers job.flat.members) (emissions_at job.limit (whole job.flat) job.outside n)))
      (none_between job.flat.links)

  pub part_alone : (events : ℕ → List Event) (n : ℕ) → all_events (share_of job p).incoming events ≡ [] →
      part_by (share_of job p) events n ≡ trace_before job.limit (whole job.flat) job.outside n
  part_alone events n none =
      part_of_share job.limit job.flat job.outside (owned job p)
      (λ j. deliveries_at job.limit (all_events (share_of job p).incoming events) j) n (λ j lt. alike j)
      ∙ part_same (owned job p) (λ k. true) owns job.limit (whole job.flat) job.outside n
      ∙ part_of_all job.limit (whole job.flat) job.outside
      (length-map job.flat.members (λ (m : Member). m.number) ∙ sym (length-map job.flat.members (λ (m : Member). m.behaviour))) n
    where
      alike : (j : ℕ) → SameFor (owned job p) (deliveries_at job.limit (all_events (share_of job p).incoming events) j)
          (crossings job.limit job.flat job.outside (others (owned job p)) (owned job p) j)
      alike j k port bag here =
          ap (λ (es : List Event). delivered k port (deliveries_at job.limit es j) bag) none
          ∙ sym (ap (λ (ds : List Delivery). delivered k port ds bag) (none_cross j))
