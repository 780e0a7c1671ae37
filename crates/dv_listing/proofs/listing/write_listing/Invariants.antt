use Rattle.std.proofs.Common.{◌++◌, string_bytes}
use Rattle.dv_syntax.specs.Trees.{file_of}
use Rattle.dv_text.specs.Writing.{TakesFront}
use Rattle.dv_listing.specs.Listing.{listing_text}
use Rattle.dv_listing.proofs.Left.{left_from}
use Rattle.dv_listing.proofs.listing.write_listing.Given as goal

abbrev pub invariant-loop-model : goal.invariant-loop-model
invariant-loop-model g l =
    TakesFront (g.W.Write.contents l.initial.writer) (g.W.Write.contents l.writer)
    (listing_text l.tree.names (file_of l.tree.file)) (string_bytes l.text ++ left_from l.tree.names l.model-items l.is_first l.model-index)
