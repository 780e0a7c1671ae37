-- Texts that grow, and lists of a plan one value after the other.
use Rattle.std.proofs.Common.{◌≡◌, ◌∙◌, ℕ, suc, ◌+◌, ◌-◌, ◌<◌, List, [], ◌++◌, ap, append_assoc, arith, sym}
use Rattle.std.specs.Prelude.{Option}
use Rattle.dv_partition.specs.Groups.{Grouping, members_of}
use Rattle.dv_plan.specs.Texts.{PlanNames, front, paths_text, process_text, processes_text, quoted, response_of}

-- two texts one behind the other are behind a third together
pub behind : (old x y : List ℕ) {s t : List ℕ} → s ≡ old ++ x → t ≡ s ++ y → t ≡ old ++ (x ++ y)
behind old x y one other = other ∙ (ap (λ (text : List ℕ). text ++ y) one ∙ append_assoc old x y)

-- what stands behind a text is the same as another
pub here : (old x y : List ℕ) {s : List ℕ} → s ≡ old ++ x → x ≡ y → s ≡ old ++ y
here old x y one same = one ∙ ap (λ (text : List ℕ). old ++ text) same

-- what stands behind no text
pub from_empty : (old x : List ℕ) {s : List ℕ} → s ≡ old ++ x → old ≡ [] → s ≡ x
from_empty old x one empty = one ∙ ap (λ (text : List ℕ). text ++ x) empty

-- a value of a list with its front, and the rest of the list
pub with_value : (old f v rest whole : List ℕ) {s t : List ℕ} → s ≡ old ++ f → t ≡ s ++ v → old ++ (f ++ (v ++ rest)) ≡ whole →
    t ++ rest ≡ whole
with_value old f v rest whole one other so_far =
    ap (λ (text : List ℕ). text ++ rest) (behind old f v one other)
    ∙ (append_assoc old (f ++ v) rest ∙ (ap (λ (text : List ℕ). old ++ text) (append_assoc f v rest) ∙ so_far))

pub next_path : (names : PlanNames) (k n : ℕ) → k < n →
    front k ++ (quoted (names.path k) ++ paths_text names (k + 1) (n - (k + 1))) ≡ paths_text names k (n - k)
next_path names k n lt =
    let left : n - k ≡ suc (n - (k + 1)) = omega arith in
    let next : suc k ≡ k + 1 = omega arith in
    sym (ap (paths_text names k) left ∙ ap (λ m. front k ++ (quoted (names.path k) ++ paths_text names m (n - (k + 1)))) next)

pub next_process : (names : PlanNames) (groups : Grouping) (responses : List (Option ℕ)) (p n : ℕ) → p < n →
    front p
    ++ (process_text names (members_of groups p) (response_of responses p) ++ processes_text names groups responses (p + 1) (n - (p + 1)))
    ≡ processes_text names groups responses p (n - p)
next_process names groups responses p n lt =
    let left : n - p ≡ suc (n - (p + 1)) = omega arith in
    let next : suc p ≡ p + 1 = omega arith in
    sym (ap (processes_text names groups responses p) left
    ∙ ap (λ m. front p
    ++ (process_text names (members_of groups p) (response_of responses p) ++ processes_text names groups responses m (n - (p + 1)))) next)
