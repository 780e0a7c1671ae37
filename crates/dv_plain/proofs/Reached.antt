-- How far a run has come: the components, the trace and the inputs when every instant before a rank is over.
use Rattle.std.proofs.Common.{◌≡◌, ℕ, suc, ◌-◌, ◌<◌, ◌≤◌, List, [], map, length, replicate, unwrap_or, Option, Some, None}
use Rattle.std.proofs.Common.{refl, ap, sym, ◌∙◌, subst, arith}
use Rattle.std.proofs.lemmas.List.{length-map}
use Rattle.dv_time.specs.Time.{IsOfRun, earlier, end_of, rank, succ}
use Rattle.dv_time.specs.declared.time.Time.{Time}
use Rattle.dv_syntax.specs.Trees.{FileTree}
use Rattle.dv_bag.specs.Inputs.{inputs_before, start_of, time_at}
use Rattle.dv_bag.specs.declared.inputs.Input.{Input}
use Rattle.dv_devs.specs.Behaviour.{Component}
use Rattle.dv_devs.specs.Idle.{AllBringNothing, BringsNothing}
use Rattle.dv_devs.specs.Network.{components_after, components_at, part_of_instant, trace_before}
use Rattle.dv_devs.specs.NextTimes.{IsFrom, least_next}
use Rattle.dv_bag.specs.Part.{PartOf, nothing, joined}
use Rattle.dv_tree.specs.Instances.{Instance, instances}
use Rattle.dv_tree.specs.Instances.{root_inputs}
use Rattle.dv_react.specs.declared.running.Running.{Running}
use Rattle.dv_plain.specs.InputTimes.{IsOfRunIf, rank_if}
use Rattle.dv_react.specs.Components.{component_of}
use Rattle.dv_plain.specs.Source.{behaviour_of, network_of, outside, trace_of}
use Rattle.dv_plain.proofs.InputWalk.{InputLaws, IsIndex, none_between, index-after, index-now, index-of_run, index-rises, index-start}
use Rattle.dv_plain.proofs.Least.{IsFrom-first, IsFrom-second, earlier-from}

-- the components and the trace of a text when every instant before a rank is over
abbrev pub components_to : ℕ → FileTree → List Input → ℕ → List Component
components_to limit f inputs n = components_at limit (network_of limit f) (outside f limit inputs) n

abbrev pub trace_to : ℕ → FileTree → List Input → ℕ → PartOf
trace_to limit f inputs n = trace_before limit (network_of limit f) (outside f limit inputs) n

-- Every instant before a rank is over: these are the components and the trace, and this is the index in the inputs.
pub record Reached (limit : ℕ) (f : FileTree) (inputs : List Input) (horizon : ℕ) (rs : List Running) (t : PartOf) (index : ℕ) :
    Type 0 where
  pub at : ℕ
  pub within : at ≤ end_of limit horizon
  pub components : components_to limit f inputs at ≡ map (component_of limit) rs
  pub trace : trace_to limit f inputs at ≡ t
  pub walked : IsIndex limit inputs at index

-- What the laws of runs and of inputs say of a text's network: next times are to come, and up to the least of them and the next
-- input all stays.
pub record Laws (limit : ℕ) (f : FileTree) (inputs : List Input) : Type 0 where
  pub matched : (n : ℕ) →
      length (network_of limit f).behaviours ≡ length (components_to limit f inputs n)
  pub rises : (n : ℕ) → IsFrom n (least_next (components_to limit f inputs n))
  pub components : (n m : ℕ) → n ≤ m →
      IsFrom m (least_next (components_to limit f inputs n)) → AllBringNothing (network_of limit f) (outside f limit inputs) n m →
      components_to limit f inputs m ≡ components_to limit f inputs n
  pub trace : (n m : ℕ) → n ≤ m →
      IsFrom m (least_next (components_to limit f inputs n)) → AllBringNothing (network_of limit f) (outside f limit inputs) n m →
      trace_to limit f inputs m ≡ trace_to limit f inputs n
  pub none : BringsNothing (network_of limit f) (replicate (length (root_inputs f)) [])
  pub coming : InputLaws limit (length (root_inputs f)) inputs

-- the work that is left falls
work-falls : (e m : ℕ) (next : Option ℕ) → m < e → IsFrom (suc m) next → e - unwrap_or next e < e - m
work-falls e m None h g = omega arith
work-falls e m (Some k) h g = omega arith

-- from the next instant to the end
abbrev pub work : ℕ → List Input → ℕ → List Running → ℕ → ℕ
work limit inputs horizon rs index = end_of limit horizon - unwrap_or
    (earlier (least_next (map (component_of limit) rs)) (rank_if limit (time_at inputs index))) (end_of limit horizon)

pub reached-start : (limit : ℕ) (f : FileTree) (inputs : List Input) (horizon : ℕ) (rs : List Running) (index : ℕ) →
    map (component_of limit) rs ≡ (network_of limit f).start → index ≡ inputs_before limit inputs (start_of 0) →
    Reached limit f inputs horizon rs nothing index
reached-start limit f inputs horizon rs index e first = record {
  at = 0;
  within = omega arith;
  components = sym e;
  trace = refl;
  walked = index-start limit inputs index first;
}

module _ (limit : ℕ) (f : FileTree) (inputs : List Input) (horizon : ℕ) (laws : Laws limit f inputs) where
  abbrev next_of : List Running → ℕ → Option ℕ
  next_of rs index = earlier (least_next (map (component_of limit) rs)) (rank_if limit (time_at inputs index))

  -- the next instant is not past
  next-rises : (rs : List Running) (t : PartOf) (index : ℕ) (r : Reached limit f inputs horizon rs t index) → IsFrom r.at (next_of rs index)
  next-rises rs t index r =
      earlier-from r.at (least_next (map (component_of limit) rs)) (rank_if limit (time_at inputs index))
      (subst (λ cs. IsFrom r.at (least_next cs)) r.components (laws.rises r.at))
      (index-rises limit (length (root_inputs f)) inputs r.at index laws.coming r.walked)

  module _ (rs : List Running) (t : PartOf) (index : ℕ) (r : Reached limit f inputs horizon rs t index) where
    -- the next input to which the run comes is at a time of it
    pub reached-coming : IsOfRunIf limit (time_at inputs index)
    reached-coming = index-of_run limit (length (root_inputs f)) inputs r.at index laws.coming r.walked

    -- a component for each of the text's
    pub reached-matched : length rs ≡ length (instances f)
    reached-matched =
        sym (length-map rs (component_of limit)) ∙ ap length (sym r.components) ∙ sym (laws.matched r.at) ∙ length-map (instances f)
        (λ (i : Instance). behaviour_of i.model)

    module _ (m : ℕ) (from : IsFrom m (next_of rs index)) where
      least-from : IsFrom m (least_next (components_to limit f inputs r.at))
      least-from =
          subst (λ cs. IsFrom m (least_next cs)) (sym r.components)
          (IsFrom-first m (least_next (map (component_of limit) rs)) (rank_if limit (time_at inputs index)) from)

      -- before the next instant nothing comes in
      none-come : AllBringNothing (network_of limit f) (outside f limit inputs) r.at m
      none-come k low high =
          subst (BringsNothing (network_of limit f))
          (sym (none_between limit (length (root_inputs f)) inputs r.at index laws.coming r.walked m k
          (IsFrom-second m (least_next (map (component_of limit) rs)) (rank_if limit (time_at inputs index)) from) low high))
          laws.none

      -- and all stays
      rest-components : r.at ≤ m → components_to limit f inputs m ≡ map (component_of limit) rs
      rest-components le = laws.components r.at m le least-from none-come ∙ r.components

      rest-trace : r.at ≤ m → trace_to limit f inputs m ≡ t
      rest-trace le = laws.trace r.at m le least-from none-come ∙ r.trace

    -- nothing happens before the end
    pub reached-end : IsFrom (end_of limit horizon) (next_of rs index) → t ≡ trace_of f inputs horizon limit
    reached-end last = sym (rest-trace (end_of limit horizon) last r.within)

    module _ (now : Time) (run : IsOfRun limit now) (least : Some (rank limit now) ≡ next_of rs index) where
      not-past : r.at ≤ rank limit now
      not-past = subst (IsFrom r.at) (sym least) (next-rises rs t index r)

      at-next : IsFrom (rank limit now) (next_of rs index)
      at-next = subst (IsFrom (rank limit now)) least (omega arith)

      -- the index in the inputs is that of the next instant
      pub reached-index : index ≡ inputs_before limit inputs now
      reached-index =
          index-now limit (length (root_inputs f)) inputs r.at index laws.coming r.walked now run not-past
          (IsFrom-second (rank limit now) (least_next (map (component_of limit) rs)) (rank_if limit (time_at inputs index)) at-next)

      module _ (new : List Running) (more : PartOf) (after : ℕ) (within : rank limit now < end_of limit horizon)
          (change : map (component_of limit) new ≡ components_after limit (network_of limit f) (rank limit now)
          (outside f limit inputs (rank limit now)) (map (component_of limit) rs))
          (part : more ≡ joined t (part_of_instant limit (network_of limit f) (rank limit now) (outside f limit inputs (rank limit now))
          (map (component_of limit) rs)))
          (past : after ≡ inputs_before limit inputs (succ limit now)) where
        -- the components after the next instant
        step-components : components_to limit f inputs (suc (rank limit now)) ≡ map (component_of limit) new
        step-components =
            ap (components_after limit (network_of limit f) (rank limit now) (outside f limit inputs (rank limit now)))
            (rest-components (rank limit now) at-next not-past)
            ∙ sym change

        step-trace : trace_to limit f inputs (suc (rank limit now)) ≡ more
        step-trace =
            let net = network_of limit f in
            let n = rank limit now in
            let input = outside f limit inputs n in
            ap (λ (p : PartOf). joined p (part_of_instant limit net n input (components_to limit f inputs n)))
            (rest-trace n at-next not-past)
            ∙ ap (λ ks. joined t (part_of_instant limit net n input ks)) (rest-components n at-next not-past)
            ∙ sym part

        pub reached-step : Reached limit f inputs horizon new more after
        reached-step = record {
          at = suc (rank limit now);
          within = within;
          components = step-components;
          trace = step-trace;
          walked = index-after limit inputs now after run past;
        }

        pub work-step : work limit inputs horizon new after < work limit inputs horizon rs index
        unfolding reached-step
        work-step =
            let e = end_of limit horizon in
            subst (λ (n : Option ℕ). work limit inputs horizon new after < e - unwrap_or n e) least
            (work-falls e (rank limit now) (next_of new after) within (next-rises new more after reached-step))
