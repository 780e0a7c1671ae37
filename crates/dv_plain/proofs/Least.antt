-- The earlier of two next times, and the least of all.
use Rattle.std.proofs.Common.{◌≡◌, ℕ, ◌+◌, ◌<◌, ◌≤◌, min, List, map, length, get_or, Option, Some, None, refl, ap, sym, ◌∙◌, arith}
use Rattle.std.proofs.lemmas.List.{drop_all}
use Rattle.dv_time.specs.Time.{earlier}
use Rattle.dv_devs.specs.NextTimes.{IsFrom, least_next}
use Rattle.dv_react.specs.declared.running.Running.{Running}
use Rattle.dv_react.specs.Components.{next_of_wait, component_of}
use Rattle.dv_plain.proofs.Steps.{components_from, component-step}

pub earlier-first : (x y : ℕ) → x < y → Some x ≡ earlier (Some x) (Some y)
earlier-first x y h = let e : x ≡ min x y = omega arith in ap Some e

pub earlier-second : (x y : ℕ) → y ≤ x → Some y ≡ earlier (Some x) (Some y)
earlier-second x y h = let e : y ≡ min x y = omega arith in ap Some e

pub earlier-none : (a : Option ℕ) → earlier a None ≡ a
earlier-none None = refl
earlier-none (Some x) = refl

earlier-assoc : (a b c : Option ℕ) → earlier (earlier a b) c ≡ earlier a (earlier b c)
earlier-assoc None b c = refl
earlier-assoc (Some x) None c = refl
earlier-assoc (Some x) (Some y) None = refl
earlier-assoc (Some x) (Some y) (Some z) = let e : min (min x y) z ≡ min x (min y z) = omega arith in ap Some e

-- one component more
pub least-step : (limit : ℕ) (rs : List Running) (k : ℕ) (r : Running) (next sooner whole : Option ℕ) → k < length rs → r ≡ get_or rs k r →
    sooner ≡ earlier next (next_of_wait limit r.wait) → earlier next (least_next (components_from limit k rs)) ≡ whole → earlier sooner
    (least_next (components_from limit (k + 1) rs)) ≡ whole
least-step limit rs k r next sooner whole h e is kept =
    ap (λ n. earlier n (least_next (components_from limit (k + 1) rs))) is
    ∙ earlier-assoc next (next_of_wait limit r.wait) (least_next (components_from limit (k + 1) rs))
    ∙ ap (λ cs. earlier next (least_next cs)) (sym (component-step limit rs k r h e))
    ∙ kept

-- all components
pub least-all : (limit : ℕ) (rs : List Running) (k : ℕ) (next whole : Option ℕ) → length rs ≤ k →
    earlier next (least_next (components_from limit k rs)) ≡ whole → next ≡ whole
least-all limit rs k next whole h kept =
    sym (earlier-none next) ∙ ap (λ (xs : List Running). earlier next (least_next (map (component_of limit) xs))) (sym (drop_all k rs h))
    ∙ kept

-- the earlier of two times is from a rank on where both are
pub earlier-from : (n : ℕ) (a b : Option ℕ) → IsFrom n a → IsFrom n b → IsFrom n (earlier a b)
earlier-from n None b h g = g
earlier-from n (Some x) None h g = h
earlier-from n (Some x) (Some y) h g = let both : n ≤ min x y = omega arith in both

pub IsFrom-first : (n : ℕ) (a b : Option ℕ) → IsFrom n (earlier a b) → IsFrom n a
IsFrom-first n None b h = tt
IsFrom-first n (Some x) None h = h
IsFrom-first n (Some x) (Some y) h = let first : n ≤ x = omega arith in first

pub IsFrom-second : (n : ℕ) (a b : Option ℕ) → IsFrom n (earlier a b) → IsFrom n b
IsFrom-second n None b h = h
IsFrom-second n (Some x) None h = tt
IsFrom-second n (Some x) (Some y) h = let second : n ≤ y = omega arith in second
