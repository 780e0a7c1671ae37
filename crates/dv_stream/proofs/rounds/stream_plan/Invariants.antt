use Rattle.dv_lines.specs.Entries.{line_of}
use Rattle.dv_text.specs.Names.{tree_names}
use Rattle.dv_stream.proofs.rounds.stream_plan.Given as goal

abbrev pub ghosts-stream_with_words : goal.ghosts-stream_with_words
ghosts-stream_with_words g a = record { job = g.J.PlannedJob.means a.job; line = line_of (tree_names a.words.now) }
