use Rattle.std.proofs.Common.{◌≡◌, ◌-◌, ◌≤◌, ℕ, List, [], ◌∷◌, map, length, length-drop, length-take, drop, take, get_or, refl, sym, ap, arith, ◌∙◌}
use Rattle.std.specs.Prelude.{string_bytes}
use Rattle.std.proofs.lemmas.List.{length-map, take_all}
use Rattle.std.proofs.lemmas.Result.{err_from_is_err_and}
use Rattle.dv_command.proofs.viewed.plot_in.Goals as goal

-- the first two of a list, and the others
first_two : {X : Type 0} (f : X → List ℕ) (xs : List X) (d : X) → 2 ≤ length xs →
    map f xs ≡ f (get_or xs 0 d) ∷ (f (get_or xs 1 d) ∷ map f (drop 2 xs))
first_two f [] d two = absurd (omega (arith, two))
first_two f (x ∷ []) d two = absurd (omega (arith, two))
first_two f (x ∷ (y ∷ rest)) d two = refl

-- the values are a model, a trace and names
named : {X : Type 0} (f : X → List ℕ) (texts slice : List X) (d : X) (said : List (List ℕ)) (model trace : List ℕ)
    (names : List (List ℕ)) → map f texts ≡ said → slice ≡ texts → 2 ≤ length slice → model ≡ f (get_or slice 0 d)
    → trace ≡ f (get_or slice 1 d) → names ≡ map f (take (length slice - 2) (drop 2 slice)) → said ≡ model ∷ (trace ∷ names)
named f texts slice d said model trace names given seen two m t n =
    let rest = length-drop 2 slice in
    let all = take_all (length slice - 2) (drop 2 slice) (omega (arith, rest)) in
    sym given ∙ ap (map f) (sym seen) ∙ first_two f slice d two ∙ rw (m, t, n, all) refl

pub returns-in_err-from : goal.returns-in_err-from
returns-in_err-from c =
    let p = err_from_is_err_and c.from_residual.result c.from_residual.ensures.1 in
    rw (p.1, p.2) (λ nothing plot asks. c.in_err-from.ensures nothing (plot.from, plot.to) asks.window)

pub returns-in-len2-up : goal.returns-in-len2-up
returns-in-len2-up c =
    let model = c.in_ok-from_str-in-len2-up.ensures.ok in
    let trace = c.in_ok-from_str-in-len2-up-2.ensures.ok in
    let names = c.in_ok-owned-in-len2-up.ensures in
    let texts = c.in_ok-texts.ensures in
    let slice = c.as_slice.ensures.value in
    let copied = length-map c.in_ok-owned-in-len2-up.field-0.items string_bytes in
    let rest = length-drop 2 c.as_slice.result.now in
    let others = take (length c.as_slice.result.now - 2) (drop 2 c.as_slice.result.now) in
    let given = length-map others (λ text. text.now) in
    let left = length-take (length c.as_slice.result.now - 2) (drop 2 c.as_slice.result.now) in
    record {
      names = named (λ text. text.now) _ _ _ _ _ _ _ texts slice c.in-len2-up.len_at_least model trace names;
      some = omega (arith, ap length names, copied, given, left, rest, c.if-names-gt0.true);
      window = c.in_ok-from.ensures;
      partial = sym c.in_ok-flag_in-in-len2-up.ensures;
      explained = sym c.in_ok-flag_in-in-len2-up-2.ensures;
    }
