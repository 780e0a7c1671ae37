-- The lines of a span, written together.
use Rattle.std.proofs.Common.{◌≡◌, ℕ, ◌+◌, ◌<◌, ◌≤◌, Bool, false, cond, List, [], ◌∷◌, ◌++◌, drop, get_or, length, take, Option}
use Rattle.std.proofs.Common.{refl, sym, ap, ap₂, ◌∙◌, append_assoc, arith}
use Rattle.std.specs.List.{All, flat_map}
use Rattle.std.specs.Io.KnownBytes.{Appends}
use Rattle.std.proofs.Math.Seq.{drop-append_seam, take-append_seam}
use Rattle.std.proofs.lemmas.List.{at_drop_all, at_drop_more, get_or_append_left, length-append}
use Rattle.std.proofs.lemmas.List.Elements.{All-head, All-tail}
use Rattle.dv_time.specs.declared.time.Time.{Time}
use Rattle.dv_bag.specs.declared.entry.Entry.{Entry}
use Rattle.dv_bag.specs.declared.entry.Outer.{Outer}
use Rattle.dv_tree.specs.Tables.{Source}
use Rattle.dv_text.specs.Merging.{group_text, groups_before, groups_from, groups_of, lines_by_time}
use Rattle.dv_text.specs.Names.{tree_names, tree_ports}
use Rattle.dv_text.specs.Texts.{outer_text}
use Rattle.dv_text.specs.Writing.{AppendsBeginning, StopsShort, TakesFront}
use Rattle.dv_text.proofs.Groups.{after_at, groups_of-cons, ports_at}
use Rattle.dv_text.proofs.Taking.{Appends-append, AppendsBeginning-after, AppendsBeginning-more, AppendsBeginning-short}
use Rattle.dv_text.proofs.Taking.{TakesFront-all, TakesFront-left, TakesFront-more, TakesFront-nothing, TakesFront-then, TakesFront-whole}
use Rattle.dv_merge.specs.Spans.{entries_of}
use Rattle.dv_lines.specs.Entries.{line_of}
use Rattle.dv_lines.specs.Spans.{SpanBegins, SpanPasses, is_first_before, merged_lines}

-- ---- no output line is before an entry

abbrev IsNotBefore : List Outer → Entry → Type 0
IsNotBefore os e = is_first_before os e.time ≡ false

module _ (names : List (List ℕ)) (t : Time) where
  none_before : (os : List Outer) → is_first_before os t ≡ false → groups_before t (groups_of names os) ≡ []
  none_before [] h = refl
  none_before (o ∷ os) h =
      ap (groups_before t) (groups_of-cons names o os)
      ∙ ap (λ (b : Bool). cond b (group_text (o.time, outer_text names o ++ ports_at names o.time os)
      ++ groups_before t (groups_of names (after_at o.time os))) []) h

  all_from : (os : List Outer) → is_first_before os t ≡ false → groups_from t (groups_of names os) ≡ groups_of names os
  all_from [] h = refl
  all_from (o ∷ os) h =
      let g : Time × List ℕ = (o.time, outer_text names o ++ ports_at names o.time os) in
      ap (groups_from t) (groups_of-cons names o os)
      ∙ ap (λ (b : Bool). cond b (groups_from t (groups_of names (after_at o.time os))) (g ∷ groups_of names (after_at o.time os))) h
      ∙ sym (groups_of-cons names o os)

module _ (tree : Source) (line : Entry → List ℕ) (is_line : (e : Entry) → line_of (tree_names tree) e ≡ line e) (os : List Outer) where
  -- the lines of the entries stand together
  pub lines_together : (es more : List Entry) → All (IsNotBefore os) es
      → merged_lines tree (es ++ more) os ≡ flat_map line es ++ merged_lines tree more os
  lines_together [] more h = refl
  lines_together (e ∷ es) more h =
      let here = All-head (IsNotBefore os) e es h in
      let names = tree_names tree in
      ap₂ (λ (front : List ℕ) (gs : List (Time × List ℕ)). front ++ (line_of names e ++ lines_by_time names (es ++ more) gs))
      (none_before (tree_ports tree) e.time os here) (all_from (tree_ports tree) e.time os here)
      ∙ (ap₂ (λ (own rest : List ℕ). own ++ rest) (is_line e) (lines_together es more (All-tail (IsNotBefore os) e es h))
      ∙ sym (append_assoc (line e) (flat_map line es) (merged_lines tree more os)))

  -- their text was written, or a beginning of it
  module _ (es : List Entry) (text : List ℕ) (is : text ≡ flat_map line es) (none : All (IsNotBefore os) es) (a b : Option (List ℕ))
      (before : List ℕ)
    where
      cut : (more : List Entry) → merged_lines tree (es ++ more) os ≡ text ++ merged_lines tree more os
      cut more = lines_together es more none ∙ ap (λ (t : List ℕ). t ++ merged_lines tree more os) (sym is)

      pub text_passes : (after : List ℕ) → TakesFront a b (before ++ text) after → SpanPasses tree es a b before after os os
      text_passes after taken = λ more.
          TakesFront-more before after (merged_lines tree (es ++ more) os) text (merged_lines tree more os)
          (TakesFront-nothing a (before ++ merged_lines tree (es ++ more) os)) (cut more) taken

      pub text_begins : AppendsBeginning a b (before ++ text) → SpanBegins tree es a b before os
      text_begins begun = λ more.
          AppendsBeginning-more before (merged_lines tree (es ++ more) os) text (merged_lines tree more os)
          (TakesFront-nothing a (before ++ merged_lines tree (es ++ more) os)) (cut more) begun

-- ---- the entries of a span one by one, whatever follows it

module _ (es more : List Entry) (i : ℕ) (e : Entry) (within : i < length es) (is : e ≡ get_or es i e) where
  pub within_both : i < length (es ++ more)
  within_both = omega (arith, length-append es more, within)

  pub is_of_both : e ≡ get_or (es ++ more) i e
  is_of_both = is ∙ sym (get_or_append_left es more e i within)

module _ (line : Entry → List ℕ) (es : List Entry) (i : ℕ) (e : Entry) (text : List ℕ) (n : ℕ) (within : i < length es)
    (is : e ≡ get_or es i e) (text_is : text ≡ flat_map line (drop i es)) (long : n ≡ length (line e))
  where
    abbrev behind : List ℕ
    behind = flat_map line (drop (i + 1) es)

    begins : text ≡ line e ++ behind
    begins = text_is ∙ (at_drop_more (flat_map line) es i e within ∙ ap (λ (x : Entry). line x ++ behind) (sym is))

    -- the first line of a text, and the others
    pub first_line : take n text ≡ line e
    first_line = ap₂ (λ (k : ℕ) (t : List ℕ). take k t) long begins ∙ take-append_seam (line e) behind

    pub other_lines : drop n text ≡ behind
    other_lines = ap₂ (λ (k : ℕ) (t : List ℕ). drop k t) long begins ∙ drop-append_seam (line e) behind

-- ---- a long text is written behind the buffer

pub long_written : (a b c : Option (List ℕ)) (front text : List ℕ) → Appends a b front → Appends b c text
    → TakesFront a c (front ++ text) []
long_written a b c front text p q = TakesFront-all (Appends-append a b c front text p q)

pub long_begun : (a b c : Option (List ℕ)) (front text : List ℕ) → Appends a b front → StopsShort b c text
    → AppendsBeginning a c (front ++ text)
long_begun a b c front text p q = AppendsBeginning-after (TakesFront-whole front text p) (AppendsBeginning-short q)

-- ---- spans in turn

module _ (tree : Source) (spans : List (List Entry)) (i : ℕ) (span : List Entry) (os : List Outer)
    (within : i < length spans) (is : span ≡ get_or spans i span) {a b : Option (List ℕ)} {whole : List ℕ} (line : List ℕ)
    (held : TakesFront a b whole (line ++ merged_lines tree (entries_of (drop i spans)) os))
  where
    abbrev more : List Entry
    more = entries_of (drop (i + 1) spans)

    at_span : TakesFront a b whole (line ++ merged_lines tree (span ++ more) os)
    at_span = TakesFront-left
        (ap (λ (t : List ℕ). line ++ t)
        (at_drop_more (λ (ss : List (List Entry)). merged_lines tree (entries_of ss) os) spans i span within
        ∙ ap (λ (s : List Entry). merged_lines tree (s ++ more) os) (sym is)))
        held

    pub span_passed : {c : Option (List ℕ)} (after : List ℕ) (left : List Outer) → SpanPasses tree span b c line after os left
        → TakesFront a c whole (after ++ merged_lines tree more left)
    span_passed after left passes = TakesFront-then at_span (passes more)

    pub span_failed : {c : Option (List ℕ)} → SpanBegins tree span b c line os → AppendsBeginning a c whole
    span_failed begins = AppendsBeginning-after at_span (begins more)

-- after the last span the output lines are left
pub spans_done : (tree : Source) (spans : List (List Entry)) (i : ℕ) (os : List Outer) → length spans ≤ i
    → merged_lines tree (entries_of (drop i spans)) os ≡ flat_map group_text (groups_of (tree_ports tree) os)
spans_done tree spans i os done = at_drop_all (λ (ss : List (List Entry)). merged_lines tree (entries_of ss) os) spans i done
