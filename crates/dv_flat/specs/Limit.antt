-- The limit on links, counted with copies.
use Rattle.std.specs.Prelude.{◌≡◌, ℕ, ◌+◌, nat_lt, if◌then◌else◌, Option, Some, None}
use Rattle.std.specs.Option.{option_or}
use Rattle.dv_syntax.specs.Trees.{FileTree}
use Rattle.dv_lex.specs.declared.error.Refusal.{Refusal}
use Rattle.dv_lex.specs.declared.error.RefusalNumber.TheVariants.{E17}
use Rattle.dv_lex.specs.declared.error.LoadError.{LoadError}
use Rattle.dv_lex.specs.declared.error.LoadError.TheVariants.{Refused, Memory}
use Rattle.dv_check.specs.Refusals.{refusal_of}
use Rattle.dv_flat.specs.Links.{copies_of, direct_links, entry_links, exit_links}

-- the most links of a file; the constant of the code is this number
abbrev pub greatest_links : ℕ
greatest_links = 65536

-- the number of links of a file, each counted as often as it has copies
abbrev pub link_count : FileTree → ℕ
link_count f = copies_of (direct_links f) + (copies_of (entry_links f) + copies_of (exit_links f))

-- the refusal for too many links, at the name of the root
abbrev pub link_refusal : FileTree → Option Refusal
link_refusal f = if nat_lt greatest_links (link_count f) then Some (record { number = E17; offset = f.root.offset }) else None

-- the refusal of a file: a rule that it breaks or a limit on its tree that it exceeds, else the limit on links
abbrev pub file_refusal : FileTree → Option Refusal
file_refusal f = option_or (refusal_of f) (link_refusal f)

-- an error that is the refusal for too many links; nothing is said if memory runs out
abbrev pub IsLinkAnswer : FileTree → LoadError → Type 0
IsLinkAnswer f (Refused r) = link_refusal f ≡ Some r
IsLinkAnswer f Memory = Unit {0}
