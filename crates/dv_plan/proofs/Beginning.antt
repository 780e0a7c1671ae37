-- Processes as they begin, and a world that is made of them.
use Rattle.std.proofs.Common.{◌≡◌, ℕ, zero, suc, ◌<◌, ◌^◌, List, [], ◌∷◌, ◌++◌, length, map, get_or, Some, refl, sym, ap, subst, ◌∙◌, arith}
use Rattle.std.specs.List.{AllByRecursion, slice_get}
use Rattle.std.proofs.lemmas.List.{length-map}
use Rattle.dv_bag.specs.declared.state.State.{State}
use Rattle.dv_devs.specs.Behaviour.{Behaviour}
use Rattle.dv_conservative.specs.Alike.{AreAlike}
use Rattle.dv_conservative.specs.Process.{Share as ShareAsMeant}
use Rattle.dv_conservative.specs.World.{Job, share_of}
use Rattle.dv_core.specs.Conservative.{IsConservative, state_by}
use Rattle.dv_core.specs.Worlds.{AreMadeFor}
use Rattle.dv_local.specs.Shares.{share_by}
use Rattle.dv_plan.specs.declared.plan.Plan.{Plan}
use Rattle.dv_proc.specs.Local.{View}
use Rattle.dv_proc.specs.declared.process.Process.{Process}
use Rattle.dv_plan.specs.Beginning.{AllBegun, CanRun, HasBegun}

got : {X : Type 0} (Q : X → Type 0) (xs : List X) (i : ℕ) (d : X) → AllByRecursion Q xs → i < length xs → Q (get_or xs i d)
got Q [] i d h lt = absurd (omega arith)
got Q (x ∷ xs) zero d h lt = h.0
got Q (x ∷ xs) (suc i) d h lt = got Q xs i d h.1 (omega (arith, lt))

-- what holds of all holds of the one at an index
pub holds_at : {X : Type 0} (Q : X → Type 0) (xs : List X) (i : ℕ) (x : X) → AllByRecursion Q xs
    → (i < length xs) × (x ≡ get_or xs i x) → Q x
holds_at Q xs i x h at = subst Q (sym at.1) (got Q xs i x h at.0)

module _ {L W R : Type 0} (view settled : L → View) where
  -- one more has begun
  pub begun_after : (ss : List ShareAsMeant) (ps : List (Process L W R)) (s : ShareAsMeant) (p : Process L W R)
      → AllBegun view settled ss ps → HasBegun view settled s p → AllBegun view settled (ss ++ s ∷ []) (ps ++ p ∷ [])
  begun_after [] [] s p h k = (k, tt)
  begun_after [] (q ∷ ps) s p h k = absurd h
  begun_after (t ∷ ss) [] s p h k = absurd h
  begun_after (t ∷ ss) (q ∷ ps) s p h k = (h.0, begun_after ss ps s p h.1 k)

  pub begun_count : (ss : List ShareAsMeant) (ps : List (Process L W R)) → AllBegun view settled ss ps → length ps ≡ length ss
  begun_count [] [] h = refl
  begun_count [] (q ∷ ps) h = absurd h
  begun_count (t ∷ ss) [] h = absurd h
  begun_count (t ∷ ss) (q ∷ ps) h = ap suc (begun_count ss ps h.1)

  -- the process at an index is that of the share there
  pub record IsBegunAt (ss : List ShareAsMeant) (p : ℕ) (x : Process L W R) : Type 0 where
    pub share : ShareAsMeant
    pub there : slice_get ss p ≡ Some share
    pub begun : HasBegun view settled share x

  pub begun_at : (ss : List ShareAsMeant) (ps : List (Process L W R)) (p : ℕ) (x : Process L W R)
      → AllBegun view settled ss ps → slice_get ps p ≡ Some x → IsBegunAt ss p x
  begun_at [] [] p x h e = absurd (cc)
  begun_at [] (q ∷ ps) p x h e = absurd h
  begun_at (t ∷ ss) [] p x h e = absurd h
  begun_at (t ∷ ss) (q ∷ ps) zero x h e =
      let same : q ≡ x = cc in record { share = t; there = refl; begun = subst (HasBegun view settled t) same h.0 }
  begun_at (t ∷ ss) (q ∷ ps) (suc p) x h e =
      let rest = begun_at ss ps p x h.1 e in record { share = rest.share; there = rest.there; begun = rest.begun }

-- the item at an index of those that a function gives
pub record IsGivenAt {X Y : Type 0} (f : X → Y) (xs : List X) (p : ℕ) (y : Y) : Type 0 where
  pub item : X
  pub there : slice_get xs p ≡ Some item
  pub given : f item ≡ y

pub given_at : {X Y : Type 0} (f : X → Y) (xs : List X) (p : ℕ) (y : Y) → slice_get (map f xs) p ≡ Some y → IsGivenAt f xs p y
given_at f [] p y e = absurd (cc)
given_at f (x ∷ xs) zero y e = let same : f x ≡ y = cc in record { item = x; there = refl; given = same }
given_at f (x ∷ xs) (suc p) y e =
    let rest = given_at f xs p y e in record { item = rest.item; there = rest.there; given = rest.given }

-- the processes of a plan make a world of its job
module _ {J S L W R : Type 0} {means : J → Job} {behaviour : S → Behaviour} {fits : S → State → Type 0} (view settled : L → View)
    (job : J) (plan : Plan S) (can : CanRun means behaviour fits job plan) (processes : List (Process L W R))
    (begun : AllBegun view settled (map (share_by behaviour) plan.shares.items) processes) where
  shares_long : length processes ≡ length plan.shares.items
  shares_long = begun_count view settled (map (share_by behaviour) plan.shares.items) processes begun
      ∙ length-map plan.shares.items (share_by behaviour)

  at : (p : ℕ) (x : Process L W R) → slice_get processes p ≡ Some x
      → IsBegunAt view settled (map (share_by behaviour) plan.shares.items) p x
  at p x e = begun_at view settled (map (share_by behaviour) plan.shares.items) processes p x begun e

  its_share : (p : ℕ) (x : Process L W R) → slice_get processes p ≡ Some x → AreAlike (state_by view x).share (share_of (means job) p)
  its_share p x e =
      let here = at p x e in
      let given = given_at (share_by behaviour) plan.shares.items p here.share here.there in
      let own = can.planned.shares p given.item given.there in
      subst (λ (s : ShareAsMeant). AreAlike s (share_of (means job) p)) (given.given ∙ sym here.begun.share) own.alike

  pub made_for : AreMadeFor means (state_by view) (IsConservative view settled) job plan.links.items processes
  made_for = record {
    valid = λ p x e. let here = at p x e in here.begun.valid;
    fits = can.sound.0;
    sound = can.sound.1;
    links = can.planned.links;
    count = shares_long ∙ can.planned.count;
    ends = can.ends;
    shares = λ p x e. let here = at p x e in (its_share p x e, here.begun.new);
    few = (subst (λ (n : ℕ). n < 2 ^ 32) (sym shares_long) can.few.0, can.few.1);
  }
