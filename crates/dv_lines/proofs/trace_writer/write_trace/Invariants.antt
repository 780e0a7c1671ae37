use Rattle.dv_written.specs.Jobs.{no_job}
use Rattle.dv_text.specs.Names.{tree_names}
use Rattle.dv_lines.specs.Entries.{line_of}
use Rattle.dv_lines.proofs.trace_writer.write_trace.Given as goal

-- an entry prints its line by the names of the tree
abbrev pub ghosts-write_lines : goal.ghosts-write_lines
ghosts-write_lines g a = record { job = no_job; line = line_of (tree_names a.words.now) }
