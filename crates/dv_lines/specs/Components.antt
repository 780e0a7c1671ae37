-- The words of a component as the code finds them.
use Rattle.dv_lines.specs.Tables.{words_at}
use Rattle.dv_lines.specs.Words.{WordTexts}
use Rattle.dv_lines.specs.declared.line.ComponentWords.{ComponentWords}

abbrev pub words_found : ComponentWords → WordTexts
words_found w = words_at w.all.now.rows w.component
