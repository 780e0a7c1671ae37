-- Instants at which nothing happens.
use Rattle.std.specs.Prelude.{ℕ, ◌<◌, ◌≤◌, Bool, IsTrue, not, ◌||◌, List, [], map}
use Rattle.std.specs.List.{list_all}
use Rattle.dv_bag.specs.Bag.{Counts}
use Rattle.dv_devs.specs.Behaviour.{Behaviour, Component, all_empty, is_imminent}
use Rattle.dv_devs.specs.Network.{Network, components_at}

-- no values at any port of any component
abbrev pub no_values : List (List Counts) → Bool
no_values received = list_all all_empty received

-- what is sent where no component sends
abbrev pub nothing_sent : {I : Type 0} → Network I → List (List Counts)
nothing_sent net = map (λ (b : Behaviour). []) net.behaviours

-- an input with no values: if nothing is sent, none arrive
abbrev pub BringsNothing : {I : Type 0} → Network I → I → Type 0
BringsNothing net input = IsTrue (no_values (net.arrives (nothing_sent net) input))

-- what leaves the network was sent by a component: if nothing is sent, nothing leaves
abbrev pub LeavesOnlyWhatIsSent : {I : Type 0} → Network I → Type 0
LeavesOnlyWhatIsSent net = IsTrue (all_empty (net.leaves (nothing_sent net)))

-- no hold ends now; a quiet component has none
abbrev pub none_imminent : ℕ → List Component → Bool
none_imminent now cs = list_all (λ c. c.quiet || not (is_imminent now c)) cs

-- no component is imminent, and no values come
abbrev pub IsIdle : {I : Type 0} → Network I → ℕ → I → List Component → Type 0
IsIdle net now input cs = IsTrue (none_imminent now cs) × BringsNothing net input

-- no values come from one rank on and before another
abbrev pub AllBringNothing : {I : Type 0} → Network I → (ℕ → I) → (n m : ℕ) → Type 0
AllBringNothing net inputs n m = (k : ℕ) → n ≤ k → k < m → BringsNothing net (inputs k)

-- with the components of a rank, every instant from it on and before another is idle
abbrev pub AllIdle : {I : Type 0} → ℕ → Network I → (ℕ → I) → (n m : ℕ) → Type 0
AllIdle limit net inputs n m = (k : ℕ) → n ≤ k → k < m → IsIdle net k (inputs k) (components_at limit net inputs n)
