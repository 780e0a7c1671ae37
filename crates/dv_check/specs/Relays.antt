-- A coupled model of two relays and a box, by its links.
use Rattle.std.specs.Prelude.{ℕ, ◌+◌, List, [], ◌∷◌, option_map, Option}
use Rattle.dv_lex.specs.declared.error.Refusal.{Refusal}
use Rattle.dv_syntax.specs.declared.tree.Declaration.TheVariants.{In, Out}
use Rattle.dv_syntax.specs.declared.tree.End.{End}
use Rattle.dv_syntax.specs.declared.tree.Link.{Link}
use Rattle.dv_syntax.specs.declared.tree.Part.{Part}
use Rattle.dv_syntax.specs.Trees.{ModelTree, AtomicModel, CoupledModel, CoupledTree}
use Rattle.dv_check.specs.Loops.{name_at}
use Rattle.dv_check.specs.Couplings.{coupled_refusals}

-- the names: 0 Top, 1 Relay, 2 x, 3 y, 4 a, 5 b, 6 i, 7 o, 8 Box, 9 c; atomic Relay { in x; out y; .. }
abbrev pub relay : ModelTree
relay = AtomicModel (record {
  name = name_at 1 7;
  declarations = In (name_at 2 18) ∷ (Out (name_at 3 25) ∷ []);
  phases = [];
  starts = [];
  holds = [];
  rules = [];
})

-- coupled Box { in x; out y; }
abbrev pub box : ModelTree
box = CoupledModel (record {
  name = name_at 8 50;
  inputs = name_at 2 60 ∷ [];
  outputs = name_at 3 70 ∷ [];
  parts = [];
  links = [];
})

-- part c: Box;
abbrev pub box_at : ℕ → Part
box_at offset = record { name = name_at 9 offset; model = name_at 8 (offset + 3) }

-- part NAME: Relay;
abbrev pub relay_at : ℕ → ℕ → Part
relay_at number offset = record { name = name_at number offset; model = name_at 1 (offset + 3) }

-- PART.PORT, or self.PORT
abbrev pub end_at : Option ℕ → ℕ → ℕ → End
end_at part port offset = record { part = option_map (λ n. name_at n offset) part; port = name_at port (offset + 5) }

-- link PART.PORT -> PART.PORT; from here on
abbrev pub link_at : ℕ → Option ℕ → ℕ → Option ℕ → ℕ → Link
link_at offset source out target in_ = record { offset = offset; from = end_at source out (offset + 5); to = end_at target in_ (offset + 20) }

-- coupled Top { in i; out o; part a: Relay; part b: Relay; part c: Box; .. } with these links
abbrev pub top : List Link → CoupledTree
top links = record {
  name = name_at 0 100;
  inputs = name_at 6 110 ∷ [];
  outputs = name_at 7 120 ∷ [];
  parts = relay_at 4 130 ∷ (relay_at 5 150 ∷ (box_at 170 ∷ []));
  links = links;
}

abbrev pub wrong_links : List Link → List Refusal
wrong_links links = coupled_refusals (relay ∷ (box ∷ [])) (top links)
