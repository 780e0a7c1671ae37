-- One round of a walk that writes: the piece that goes through the lines, and what is left behind it.
use Rattle.std.proofs.Common.{◌≡◌, ℕ, ◌+◌, ◌<◌, ◌≤◌, List, ◌∷◌, [], ◌++◌, codes, length, get_or, drop, Option, true, refl, ap, sym}
use Rattle.std.proofs.Common.{append_assoc}
use Rattle.std.proofs.Common.{◌∙◌, append-nil}
use Rattle.std.specs.List.{flat_map}
use Rattle.std.specs.Ordering.{is_eq}
use Rattle.dv_time.specs.declared.time.Time.{Time}
use Rattle.dv_time.specs.Time.{time_cmp, time_text}
use Rattle.dv_bag.specs.declared.entry.Entry.{Entry}
use Rattle.dv_bag.specs.declared.entry.Outer.{Outer}
use Rattle.dv_text.specs.Merging.{first_text, group_text, groups_before, groups_from, groups_of, lines_by_time}
use Rattle.dv_text.specs.Texts.{ComponentNames, entry_text, names_at, outer_text}
use Rattle.dv_text.proofs.Groups.{first_text-at, ports_at, ports_at-same}
use Rattle.dv_text.specs.Writing.{AppendsBeginning, TakesFront}
use Rattle.dv_text.proofs.Merging.{last_groups, next_entry}
use Rattle.dv_text.proofs.Taking.{AppendsBeginning-from, AppendsBeginning-handed, AppendsBeginning-more, TakesFront-handed}
use Rattle.dv_text.proofs.Taking.{TakesFront-more, TakesFront-pushed, TakesFront-rest}

-- ---- An entry: the lines of what left before it, and its own

module _ (all : List ComponentNames) (items : List Entry) (i : ℕ) (e : Entry) (groups left : List (Time × List ℕ))
    (within : i < length items) (is : e ≡ get_or items i e) (from : left ≡ groups_from e.time groups)
  where
    abbrev own : List ℕ
    own = entry_text (names_at all e.component) e

    abbrev more : List ℕ
    more = lines_by_time all (drop (i + 1) items) left

    abbrev due : List ℕ
    due = lines_by_time all (drop i items) groups

    parts : due ≡ groups_before e.time groups ++ (own ++ more)
    parts = next_entry all items i e groups left within is from

    module _ {a b : Option (List ℕ)} {whole : List ℕ} (line : List ℕ) (held : TakesFront a b whole (line ++ due)) where
      -- the lines before it failed
      pub fails_before_entry : {c : Option (List ℕ)} → AppendsBeginning b c (line ++ groups_before e.time groups)
          → AppendsBeginning a c whole
      fails_before_entry next = AppendsBeginning-more line due (groups_before e.time groups) (own ++ more) held parts next

      module _ {c : Option (List ℕ)} (before : List ℕ) (taken : TakesFront b c (line ++ groups_before e.time groups) before) where
        at_entry : TakesFront a c whole (before ++ (own ++ more))
        at_entry = TakesFront-more line before due (groups_before e.time groups) (own ++ more) held parts taken

        -- there was no room for its own line
        pub fails_at_entry : AppendsBeginning a c whole
        fails_at_entry = AppendsBeginning-from at_entry

        module _ (pushed : List ℕ) (put : pushed ≡ before ++ own) where
          behind_entry : TakesFront a c whole (pushed ++ more)
          behind_entry = TakesFront-pushed before pushed (own ++ more) own more at_entry refl put

          -- the line was not handed over, or it was
          pub fails_behind_entry : {d : Option (List ℕ)} → AppendsBeginning c d pushed → AppendsBeginning a d whole
          fails_behind_entry next = AppendsBeginning-handed pushed more behind_entry next

          pub entry_handed : {d : Option (List ℕ)} (handed : List ℕ) → TakesFront c d pushed handed
              → TakesFront a d whole (handed ++ more)
          entry_handed handed next = TakesFront-handed pushed handed more behind_entry next

-- ---- After the last entry: the lines of what left later

module _ (all : List ComponentNames) (items : List Entry) (i : ℕ) (groups : List (Time × List ℕ)) (done : length items ≤ i)
    {a b : Option (List ℕ)} {whole : List ℕ} (line : List ℕ)
    (held : TakesFront a b whole (line ++ lines_by_time all (drop i items) groups))
  where
    left_are : lines_by_time all (drop i items) groups ≡ flat_map group_text groups ++ []
    left_are = last_groups all items i groups done ∙ sym (append-nil (flat_map group_text groups))

    pub fails_in_groups : {c : Option (List ℕ)} → AppendsBeginning b c (line ++ flat_map group_text groups) → AppendsBeginning a c whole
    fails_in_groups next =
        AppendsBeginning-more line (lines_by_time all (drop i items) groups) (flat_map group_text groups) [] held left_are next

    pub groups_taken : {c : Option (List ℕ)} (line' : List ℕ) → TakesFront b c (line ++ flat_map group_text groups) line' →
        TakesFront a c whole line'
    groups_taken line' next =
        TakesFront-rest line' [] refl
        (TakesFront-more line line' (lines_by_time all (drop i items) groups) (flat_map group_text groups) [] held left_are next)

-- ---- A group: its time, its ports, and its end

-- its time and its first port were put
pub group_begun : (names : List (List ℕ)) (all : List Outer) (o : Outer) (os : List Outer) → all ≡ o ∷ os →
    (start front line : List ℕ) → front ≡ start ++ (time_text o.time ++ codes " out") → line ≡ front ++ outer_text names o →
    line ++ (ports_at names o.time os ++ (10 ∷ [])) ≡ start ++ first_text (groups_of names all)
group_begun names all o os cut start front line begun put =
    let own = outer_text names o in
    let rest = ports_at names o.time os ++ (10 ∷ []) in
    ap (λ (x : List ℕ). x ++ rest) put
    ∙ append_assoc front own rest
    ∙ ap (λ (x : List ℕ). x ++ (own ++ rest)) begun
    ∙ append_assoc start (time_text o.time ++ codes " out") (own ++ rest)
    ∙ ap (λ (x : List ℕ). start ++ x) (sym (first_text-at names all o os cut))

-- one more port was put
pub group_further : (names : List (List ℕ)) (t : Time) (all : List Outer) (o : Outer) (os : List Outer) → all ≡ o ∷ os →
    is_eq (time_cmp t o.time) ≡ true → (line next whole : List ℕ) → next ≡ line ++ outer_text names o →
    line ++ (ports_at names t all ++ (10 ∷ [])) ≡ whole → next ++ (ports_at names t os ++ (10 ∷ [])) ≡ whole
group_further names t all o os cut same line next whole put so_far =
    let rest = ports_at names t os ++ (10 ∷ []) in
    ap (λ (x : List ℕ). x ++ rest) put
    ∙ append_assoc line (outer_text names o) rest
    ∙ ap (λ (x : List ℕ). line ++ x) (sym (ports_at-same names t all o os cut same))
    ∙ so_far
