-- Two files that break several rules.
use Rattle.std.specs.Prelude.{[], ◌∷◌, Some, None}
use Rattle.dv_syntax.specs.declared.tree.Variable.{Variable}
use Rattle.dv_syntax.specs.declared.tree.Declaration.TheVariants.{Out, Var}
use Rattle.dv_syntax.specs.declared.tree.Link.{Link}
use Rattle.dv_syntax.specs.Trees.{Named, AtomicTree, AtomicModel, CoupledModel, CoupledTree, FileTree}
use Rattle.law_accepted.specs.Clock.{bound, named}

-- the names: 0 A, 1 z, 2 nosuch, 3 v, 4 Top, 5 a
-- var v: 3..2 = 2;
abbrev pub empty_range : Variable
empty_range = record { name = named 3 50; low = bound 3 53; high = bound 2 56; start = bound 2 60 }

-- phases z; start z; hold z: nosuch; var v: 3..2 = 2; out v;
abbrev pub twice_wrong : AtomicTree
twice_wrong = record {
  name = named 0 7;
  declarations = Var empty_range ∷ (Out (named 3 67) ∷ []);
  phases = record { offset = 11; names = named 1 18 ∷ [] } ∷ [];
  starts = record { offset = 21; phase = named 1 27 } ∷ [];
  holds = record { offset = 30; phase = named 1 35; ticks = Some (Named (named 2 38)) } ∷ [];
  rules = [];
}

-- coupled Top { part a: A; }
abbrev pub around_twice_wrong : CoupledTree
around_twice_wrong = record {
  name = named 4 80;
  inputs = [];
  outputs = [];
  parts = record { name = named 5 91; model = named 0 94 } ∷ [];
  links = [];
}

-- atomic A { phases z; start z; hold z: nosuch; var v: 3..2 = 2; out v; } coupled Top { part a: A; } root Top;
abbrev pub on_one_line : FileTree
on_one_line = record {
  models = AtomicModel twice_wrong ∷ (CoupledModel around_twice_wrong ∷ []);
  root = named 4 104;
}

-- the names: 0 Top, 1 o, 2 b, 3 q, 4 nosuch
abbrev pub unknown_source : Link
unknown_source =
    record {
      offset = 21;
      from = record { part = Some (named 2 26); port = named 3 28 };
      to = record { part = None; port = named 1 38 };
    }

abbrev pub unknown_source_again : Link
unknown_source_again =
    record {
      offset = 41;
      from = record { part = Some (named 2 46); port = named 3 48 };
      to = record { part = None; port = named 1 58 };
    }

-- coupled Top { out o; link b.q -> self.o; link b.q -> self.o; part b: nosuch; }
abbrev pub around_an_unknown_part : CoupledTree
around_an_unknown_part = record {
  name = named 0 8;
  inputs = [];
  outputs = named 1 18 ∷ [];
  parts = record { name = named 2 66; model = named 4 69 } ∷ [];
  links = unknown_source ∷ (unknown_source_again ∷ []);
}

-- it, and root Top;
abbrev pub of_an_unknown_part : FileTree
of_an_unknown_part = record {
  models = CoupledModel around_an_unknown_part ∷ [];
  root = named 0 83;
}
