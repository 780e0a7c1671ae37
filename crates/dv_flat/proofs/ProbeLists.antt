-- Probes at the ports of components, one after the other.
use Rattle.std.proofs.Common.{◌≡◌, ℕ, suc, ◌+◌, ◌-◌, ◌<◌, List, [], ◌∷◌, ◌++◌, length, set, replicate, drop}
use Rattle.std.proofs.Common.{ℤ, pos, refl, ap, sym, ◌∙◌, arith}
use Rattle.std.proofs.Math.Seq.{get_or-append_seam}
use Rattle.std.proofs.lemmas.List.{append_assoc, length-append, length-replicate, set_at}
use Rattle.std.proofs.lemmas.List.FromFn.{length-map-range_with_len, map-range_with_len_more}
use Rattle.dv_eval.specs.Scope.{Scope}
use Rattle.dv_bag.specs.Bag.{Counts, bag_at, with_copies}
use Rattle.dv_tree.specs.Instances.{Instance}
use Rattle.dv_flat.specs.Ends.{output_count}
use Rattle.dv_flat.specs.Probes.{probe, probes_from, silence}
use Rattle.dv_flat.proofs.PortLists.{IsAt}

-- a probe more at the next port
pub probe_put : (first port ports : ℕ) (v : ℤ) (bags : List Counts) → port < ports → v ≡ pos (first + port) →
    bags ≡ probes_from first port ++ replicate (ports - port) [] →
    set bags port (with_copies v 1 (bag_at bags port)) ≡ probes_from first (port + 1) ++ replicate (ports - (port + 1)) []
probe_put first port ports v bags within value is =
    let front = probes_from first port in
    let behind = replicate {A = Counts} (ports - (port + 1)) [] in
    let long : length front ≡ port = length-map-range_with_len probe first port in
    let split : bags ≡ front ++ [] ∷ behind =
    is ∙ ap (λ n. front ++ replicate n []) (let more : ports - port ≡ suc (ports - (port + 1)) = omega (arith, within) in more) in
    let empty : bag_at bags port ≡ [] =
    ap (λ (xs : List Counts). bag_at xs port) split
    ∙ (ap (bag_at (front ++ [] ∷ behind)) (sym long) ∙ get_or-append_seam front [] behind []) in
    ap (λ b. set bags port (with_copies v 1 b)) empty
    ∙ (ap (λ (z : ℤ). set bags port ((z, 1) ∷ [])) value
    ∙ (ap (λ (xs : List Counts). set xs port (probe (first + port))) split
    ∙ (set_at front [] behind (probe (first + port)) port long
    ∙ (sym (append_assoc front (probe (first + port) ∷ []) behind)
    ∙ ap (λ (xs : List Counts). xs ++ behind) (sym (map-range_with_len_more probe first port (first + port) refl))))))

pub port_within : (first port ports : ℕ) (bags : List Counts) → port < ports →
    bags ≡ probes_from first port ++ replicate (ports - port) [] → port < length bags
port_within first port ports bags within is =
    omega (
      arith,
      within,
      ap length is,
      length-append (probes_from first port) (replicate {A = Counts} (ports - port) []),
      length-map-range_with_len probe first port,
      length-replicate {A = Counts} (ports - port) [],
    )

-- the silence of one component more
pub silence_step : {is : List Instance} {k : ℕ} {s : Scope} (at : IsAt is k s) (n : ℕ) (before after all : List (List Counts)) →
    output_count at.instance.model ≡ n → after ≡ before ++ replicate n [] ∷ [] → before ++ silence (drop k is) ≡ all →
    after ++ silence (drop (k + 1) is) ≡ all
silence_step {is = is} {k = k} at n before after all e added h =
    ap (λ xs. xs ++ silence (drop (k + 1) is)) added
    ∙ (append_assoc before (replicate n [] ∷ []) (silence (drop (k + 1) is))
    ∙ (ap (λ m. before ++ replicate m [] ∷ silence (drop (k + 1) is)) (sym e)
    ∙ (ap (λ xs. before ++ silence xs) (sym at.rest) ∙ h)))
