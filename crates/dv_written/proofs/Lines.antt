-- Lines of entries, one behind the other.
use Rattle.std.proofs.Common.{◌≡◌, ℕ, ◌+◌, ◌-◌, ◌≤◌, List, ◌++◌, length, take, drop, refl, sym, ap, ap₂, ◌∙◌, arith}
use Rattle.std.specs.List.{flat_map}
use Rattle.std.proofs.lemmas.Grind.{flat_map-append}
use Rattle.std.proofs.lemmas.List.{length-append, take-append-drop, take_at}

module _ {X : Type 0} (line : X → List ℕ) (es : List X) where
  -- those in front, and the others
  pub text_cut : (n : ℕ) → flat_map line es ≡ flat_map line (take n es) ++ flat_map line (drop n es)
  text_cut n = ap (flat_map line) (sym (take-append-drop n es)) ∙ flat_map-append line (take n es) (drop n es)

  text_length : (n : ℕ) → length (flat_map line es) ≡ length (flat_map line (take n es)) + length (flat_map line (drop n es))
  text_length n = ap length (text_cut n) ∙ length-append (flat_map line (take n es)) (flat_map line (drop n es))

  pub rest_shorter : (n : ℕ) → length (flat_map line (drop n es)) ≤ length (flat_map line es)
  rest_shorter n =
      let both = text_length n in
      omega (arith, both)

  -- the text without that of the others is the text of those in front
  pub front_text : (n : ℕ) → take (length (flat_map line es) - length (flat_map line (drop n es))) (flat_map line es) ≡ flat_map line (take n es)
  front_text n =
      let front = flat_map line (take n es) in
      let rest = flat_map line (drop n es) in
      let both = text_length n in
      let left : length (flat_map line es) - length rest ≡ length front = omega (arith, both) in
      ap₂ (λ (k : ℕ) (t : List ℕ). take k t) left (text_cut n) ∙ take_at front rest (length front) refl
