use Rattle.dv_source.specs.Sources.{source_of}
use Rattle.dv_syntax.specs.Grammar.{the_limits}
use Rattle.dv_parser.proofs.Models.{file_sound}
use Rattle.dv_parser.proofs.OneAnswer.{refused_as}
use Rattle.dv_parser.proofs.file.parse.Goals as goal

pub returns-in-Ok-clause-tree : goal.returns-in-Ok-clause-tree
returns-in-Ok-clause-tree c = file_sound the_limits c.args.tokens.now (source_of c.in-Ok.source) c.in-Ok.ensures

pub returns-in-Err-clause-refused : goal.returns-in-Err-clause-refused
returns-in-Err-clause-refused c =
    refused_as c.in-Err.error c.load_error.result c.args.tokens.now c.args.end c.load_error.ensures c.in-Err.ensures
