-- The text of a refusal of a partition.
use Rattle.std.specs.Prelude.{ℕ, List, codes}
use Rattle.dv_partition.specs.declared.error.PartitionRefusal.{PartitionRefusal}
use Rattle.dv_partition.specs.declared.error.PartitionRefusal.TheVariants.{Q1, Q2, Q3, Q4}

-- `Q3`
abbrev pub refusal_words : PartitionRefusal → List ℕ
refusal_words Q1 = codes "Q1"
refusal_words Q2 = codes "Q2"
refusal_words Q3 = codes "Q3"
refusal_words Q4 = codes "Q4"
