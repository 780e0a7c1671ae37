-- What refuses a put and a take.
use Rattle.std.proofs.Common.{◌≡◌, ℕ, ◌<◌, ◌≤◌, Bool, true, false, if◌then◌else◌, nat_lt, List, [], ◌∷◌, length, Option, Some}
use Rattle.std.proofs.Common.{None, ap, ◌∙◌, arith}
use Rattle.std.specs.List.{slice_get}
use Rattle.std.proofs.lemmas.Bool.Decides.{nat_tests}
use Rattle.dv_conservative.specs.Process.{Packet}
use Rattle.dv_conservative.specs.World.{Channel, Job, LinkState, Reply, World, of_link, put_reply, refusal, take_reply, Full}
use Rattle.dv_conservative.specs.World.{Empty, Stopped, Put, Take}
use Rattle.dv_core.specs.Kept.{Kept, is_stopped, link_of, queue_of, standing_of, world_of}
use Rattle.dv_core.specs.ProcessState.{ProcessState}
use Rattle.dv_core.proofs.Standing.{link_is}

by_flag : (o : Option Bool) (b : Bool) (r : Option Reply) → o ≡ Some b →
    (if is_stopped o then Some Stopped else r) ≡ (if b then Some Stopped else r)
by_flag o b r e = ap (λ (t : Option Bool). if is_stopped t then Some Stopped else r) e

module _ (job : Job) (k : Kept) (l : ℕ) (c : Channel) (e : slice_get job.channels l ≡ Some c) where
  abbrev w : World
  w = world_of job k

  abbrev z : LinkState
  z = link_of k l (Some c)

  pub put_if : (b : Bool) → slice_get k.stopped c.source ≡ Some b →
      refusal job w (Put l) ≡ (if b then Some Stopped else put_reply z z.standing)
  put_if b flag =
      ap (λ (o : Option Channel). of_link w (λ d. d.source) o (put_reply (w.link l) (w.link l).standing)) e
      ∙ by_flag (slice_get k.stopped c.source) b (put_reply (w.link l) (w.link l).standing) flag
      ∙ ap (λ (x : LinkState). if b then Some Stopped else put_reply x x.standing) (link_is job k l (Some c) e)

  pub take_if : (b : Bool) → slice_get k.stopped c.target ≡ Some b →
      refusal job w (Take l) ≡ (if b then Some Stopped else take_reply z.queued)
  take_if b flag =
      ap (λ (o : Option Channel). of_link w (λ d. d.target) o (take_reply (w.link l).queued)) e
      ∙ by_flag (slice_get k.stopped c.target) b (take_reply (w.link l).queued) flag
      ∙ ap (λ (x : LinkState). if b then Some Stopped else take_reply x.queued) (link_is job k l (Some c) e)

  module _ (x : ProcessState) (there : slice_get k.states c.source ≡ Some x) where
    stands_at : (s : Option Packet) → x.position.standing l ≡ s → z.standing ≡ s
    stands_at s e' = ap (λ (o : Option ProcessState). standing_of o l) there ∙ e'

    pub nothing_stands : x.position.standing l ≡ None → put_reply z z.standing ≡ Some Empty
    nothing_stands none = ap (put_reply z) (stands_at None none)

    module _ (p : Packet) (some : x.position.standing l ≡ Some p) (queue : List Packet) (at : slice_get k.queued l ≡ Some queue) where
      by_length : put_reply z z.standing ≡ (if nat_lt (length queue) k.capacity then None else Some Full)
      by_length =
          ap (put_reply z) (stands_at (Some p) some)
          ∙ ap (λ (o : Option (List Packet)). if nat_lt (length (queue_of o)) k.capacity then None else Some Full) at

      pub is_full : k.capacity ≤ length queue → put_reply z z.standing ≡ Some Full
      is_full le =
          let known : nat_lt (length queue) k.capacity ≡ false = grind (arith, nat_tests) in
          by_length ∙ ap (λ (t : Bool). if t then None else Some Full) known

      pub has_room : length queue < k.capacity → put_reply z z.standing ≡ None
      has_room lt =
          let known : nat_lt (length queue) k.capacity ≡ true = grind (arith, nat_tests) in
          by_length ∙ ap (λ (t : Bool). if t then None else Some Full) known

  pub nothing_queued : slice_get k.queued l ≡ Some [] → take_reply z.queued ≡ Some Empty
  nothing_queued at = ap (λ (o : Option (List Packet)). take_reply (queue_of o)) at

  pub some_queued : (p : Packet) (rest : List Packet) → slice_get k.queued l ≡ Some (p ∷ rest) → take_reply z.queued ≡ None
  some_queued p rest at = ap (λ (o : Option (List Packet)). take_reply (queue_of o)) at
