-- Names joined by dots are the first one, and behind it each other one with a dot before it.
use Rattle.std.proofs.Common.{◌≡◌, ℕ, ◌-◌, ◌<◌, List, [], ◌∷◌, ◌++◌, length, drop, take, get_or, map, refl, ap, sym, ◌∙◌, arith}
use Rattle.std.specs.Prelude.{Option, Some, None, option_map, slice_get}
use Rattle.std.proofs.lemmas.List.{append-nil, append_assoc, take_all}
use Rattle.std.proofs.lemmas.Option.{slice_get-map}
use Rattle.dv_tree.specs.Instances.{Instance}
use Rattle.dv_tree.specs.Paths.{behind_dots, name_at, texts_of, with_dots}

pub first_and_others : (x : List ℕ) (xs : List (List ℕ)) → with_dots (x ∷ xs) ≡ x ++ behind_dots xs
first_and_others x [] = sym (append-nil x)
first_and_others x (y ∷ ys) = ap (λ t. x ++ 46 ∷ t) (first_and_others y ys)

-- the first name, and then those behind it
pub path_pushed : (names : List (List ℕ)) (path : List ℕ) (d : ℕ) (before middle after name : List ℕ) → 0 < length path →
    name ≡ name_at names (get_or path 0 d) → middle ≡ before ++ name →
    after ≡ middle ++ behind_dots (texts_of names (take (length path - 1) (drop 1 path))) →
    after ≡ before ++ with_dots (texts_of names path)
path_pushed names [] d before middle after name some is put others = absurd (omega (arith, some))
path_pushed names (x ∷ path) d before middle after name some is put others =
    let rest = behind_dots (texts_of names path) in
    others
    ∙ (ap (λ ns. middle ++ behind_dots (texts_of names ns)) (take_all (length (x ∷ path) - 1) path (omega arith))
    ∙ (ap (λ t. t ++ rest) put
    ∙ (append_assoc before name rest
    ∙ ap (λ t. before ++ t) (ap (λ t. t ++ rest) is ∙ sym (first_and_others (name_at names x) (texts_of names path))))))

-- the text of a component's path, where the path is known
module _ (names : List (List ℕ)) where
  abbrev text_of : List ℕ → List ℕ
  text_of path = with_dots (texts_of names path)

  by_path : (o : Option Instance) →
      option_map (λ (i : Instance). text_of i.path) o ≡ option_map text_of (option_map (λ (i : Instance). i.path) o)
  by_path None = refl
  by_path (Some i) = refl

  pub path_written : (is : List Instance) (k : ℕ) (path text : List ℕ) → slice_get (map (λ (i : Instance). i.path) is) k ≡ Some path →
      text ≡ text_of path → slice_get (map (λ (i : Instance). text_of i.path) is) k ≡ Some text
  path_written is k path text there written =
      slice_get-map (λ (i : Instance). text_of i.path) is k
      ∙ (by_path (slice_get is k)
      ∙ (ap (option_map text_of) (sym (slice_get-map (λ (i : Instance). i.path) is k) ∙ there) ∙ ap Some (sym written)))
