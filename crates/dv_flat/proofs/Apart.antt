-- No direct link of an accepted text has one component at both ends.
use Rattle.std.proofs.Common.{◌≡◌, ◌≢◌, ℕ, zero, suc, true, false, cond, eqb, List, [], ◌∷◌}
use Rattle.std.proofs.Common.{pos, ap, sym, ◌∙◌, arith, ⊎_elim}
use Rattle.std.specs.Prelude.{◌&&◌}
use Rattle.std.specs.List.{All, cons_option, flat_map}
use Rattle.std.proofs.lemmas.Bool.{cases_Bool, eqb-true}
use Rattle.std.proofs.lemmas.List.Elements.{All-append, All-cons, All-nil}
use Rattle.dv_syntax.specs.Trees.{FileTree}
use Rattle.dv_bag.specs.Bag.{count_of}
use Rattle.dv_check.specs.CheckedFiles.{IsCheckedFile}
use Rattle.dv_tree.proofs.Onward.{OnlyFrom, nothing_returns}
use Rattle.dv_flat.specs.Ends.{input_ports, output_ports}
use Rattle.dv_flat.specs.Links.{direct_copies, direct_links, link, links_from, sent_alone}
use Rattle.dv_flat.specs.declared.link.ComponentPort.{ComponentPort}
use Rattle.dv_flat.specs.declared.link.Link.{Link}
use Rattle.dv_flat.proofs.Alone.{output_alone}

alone_only : (from : ComponentPort) → OnlyFrom from.component (sent_alone from)
alone_only from k other port =
    output_alone from k port
    ∙ ⊎_elim (λ (same : eqb from.component k ≡ true). absurd (other (sym (eqb-true from.component k same))))
    (λ (apart : eqb from.component k ≡ false). ap (λ b. cond (b && eqb from.port port) ((pos 0, 1) ∷ []) []) apart)
    (cases_Bool (eqb from.component k))

no_copies : (f : FileTree) → IsCheckedFile f → (from to : ComponentPort) → from.component ≡ to.component →
    direct_copies f from to ≡ 0
no_copies f accepted from to same =
    ap (λ c. direct_copies f from (record { component = c; port = to.port })) (sym same)
    ∙ ap (count_of (pos 0)) (nothing_returns f accepted from.component (sent_alone from) (alone_only from) to.port)

abbrev IsApart : Link ComponentPort ComponentPort → Type 0
IsApart l = l.from.component ≢ l.to.component

first_apart : (from to : ComponentPort) (n : ℕ) (links : List (Link ComponentPort ComponentPort)) →
    (from.component ≡ to.component → n ≡ 0) → All IsApart links → All IsApart (cons_option (link from to n) links)
first_apart from to zero links h rest = rest
first_apart from to (suc n) links h rest =
    All-cons IsApart (record { from = from; to = to; copies = suc n }) links (λ same. absurd (omega (arith, h same))) rest

module _ (f : FileTree) (accepted : IsCheckedFile f) where
  apart_from : (from : ComponentPort) (tos : List ComponentPort) → All IsApart (links_from (direct_copies f) tos from)
  apart_from from [] = All-nil IsApart
  apart_from from (to ∷ tos) =
      first_apart from to (direct_copies f from to) (links_from (direct_copies f) tos from) (no_copies f accepted from to)
      (apart_from from tos)

  apart_from_all : (froms : List ComponentPort) → All IsApart (flat_map (links_from (direct_copies f) (input_ports f)) froms)
  apart_from_all [] = All-nil IsApart
  apart_from_all (from ∷ froms) = All-append IsApart _ _ (apart_from from (input_ports f)) (apart_from_all froms)

  pub all_apart : All IsApart (direct_links f)
  all_apart = apart_from_all (output_ports f)
