-- When an instant can be told.
use Rattle.std.proofs.Common.{◌≡◌, suc, true, false, List, [], ◌∷◌, ◌++◌, get_or, ap, ◌∙◌, arith}
use Rattle.std.specs.List.{All}
use Rattle.std.specs.Ordering.{is_lt}
use Rattle.std.proofs.lemmas.Bool.Decides.{nat_tests}
use Rattle.std.proofs.lemmas.List.Elements.{All-push}
use Rattle.dv_time.specs.Time.{is_before}
use Rattle.dv_time.specs.declared.time.Time.{Time}
use Rattle.dv_bag.specs.Part.{PartOf, joined}
use Rattle.dv_bag.specs.declared.entry.Entry.{Entry}
use Rattle.dv_bag.specs.declared.entry.Outer.{Outer}
use Rattle.dv_devs.specs.Cuts.{IsAllBefore}
use Rattle.dv_record.specs.Told.{IsOpenAt, with_entry}

not_after : (a b : Time) → is_before a b ≡ true → is_before b a ≡ false
not_after a b h = grind (arith, nat_tests)

not_itself : (t : Time) → is_before t t ≡ false
not_itself t = grind (arith, nat_tests)

-- an instant after all that was told can be told
pub open_after : (t : Time) (p : PartOf) → IsAllBefore t p → IsOpenAt t p
open_after t p h = record {
  entries = λ k d lt. not_after (get_or p.entries k d).time t (ap is_lt (h.0 k d lt));
  lines = λ k d lt. ap is_lt (h.1 k d lt);
}

-- with an entry of the instant the rest of it can be told
pub still_open : (t : Time) (p : PartOf) (e : Entry) → e.time ≡ t → IsOpenAt t p → IsOpenAt t (with_entry e p)
still_open t p e at h = record {
  entries = All-push (λ (x : Entry). is_before t x.time ≡ false) p.entries e h.entries
      (ap (λ (u : Time). is_before t u) at ∙ not_itself t);
  lines = h.lines;
}

-- what holds of a list holds of its end
all_behind : {X : Type 0} (P : X → Type 0) (xs ys : List X) → All P (xs ++ ys) → All P ys
all_behind P [] ys h = h
all_behind P (x ∷ xs) ys h = all_behind P xs ys (λ k d lt. h (suc k) d (omega (arith, lt)))

-- where an instant can be told behind two parts, it can behind the second of them
pub open_behind : (t : Time) (a b : PartOf) → IsOpenAt t (joined a b) → IsOpenAt t b
open_behind t a b h = record {
  entries = all_behind (λ (e : Entry). is_before t e.time ≡ false) a.entries b.entries h.entries;
  lines = all_behind (λ (o : Outer). is_before o.time t ≡ true) a.outer b.outer h.lines;
}
