-- Limits on depth and greater ones: what is within the ones is within the others.
use Rattle.std.proofs.Common.{◌≡◌, ◌<◌, suc, ◌+◌, List, Option, refl, arith}
use Rattle.dv_lex.specs.declared.token.Token.{Token}
use Rattle.dv_source.specs.Texts.{TextItem, TextModel, TextAtomic, TextCoupled, item_for}
use Rattle.dv_source.specs.Grammar.{IsFileWithin, IsTextItem, IsTextModel, limits_behind}
use Rattle.dv_syntax.specs.declared.tree.Version.{Version}
use Rattle.dv_syntax.specs.Trees.{FileTree}
use Rattle.dv_syntax.specs.Grammar.{Limits, the_limits}
use Rattle.dv_syntax.proofs.Within.{AreNoLess, item_within, each_within}

pub record AreGreater (narrow wide : Limits) : Type 0 where
  pub expression : narrow.expression < wide.expression
  pub block : narrow.block < wide.block
  pub loop : narrow.loop < wide.loop

-- an expression and a block can be within the limits, with no loop
pub record HaveRoom (limits : Limits) : Type 0 where
  pub expression : 0 < limits.expression
  pub block : 0 < limits.block

-- limits that leave room, and greater ones, of a text with the same forms
pub record AreWidened (narrow wide : Limits) : Type 0 where
  pub room : HaveRoom narrow
  pub greater : AreGreater narrow wide
  pub same : narrow.short_forms ≡ wide.short_forms

pub wide_room : (narrow wide : Limits) → AreGreater narrow wide → HaveRoom wide
wide_room narrow wide g = record { expression = omega (arith, g.expression); block = omega (arith, g.block) }

-- limits greater than those of the language, and than others
pub above : Limits → Limits
above limits = record {
  expression = suc (the_limits.expression + limits.expression);
  block = suc (the_limits.block + limits.block);
  loop = suc (the_limits.loop + limits.loop);
  short_forms = the_limits.short_forms;
}

-- the same of a text with the same forms
pub deeper : Limits → Limits
deeper limits = record (above limits) { short_forms = limits.short_forms }

pub above_theirs : (limits : Limits) → AreGreater limits (above limits)
unfolding above
above_theirs limits = record { expression = omega arith; block = omega arith; loop = omega arith }

pub our_room : HaveRoom the_limits
our_room = record { expression = omega arith; block = omega arith }

pub above_ours : (limits : Limits) → AreWidened the_limits (above limits)
unfolding above
above_ours limits = record {
  room = our_room;
  greater = record { expression = omega arith; block = omega arith; loop = omega arith };
  same = refl;
}

pub widened : (limits : Limits) → HaveRoom limits → AreWidened limits (deeper limits)
unfolding above deeper
widened limits room = record {
  room = room;
  greater = record { expression = omega arith; block = omega arith; loop = omega arith };
  same = refl;
}

-- limits of a text with a header are as great as these
pub widened_behind : (n w : Limits) → AreWidened n w → (header : Option Version)
    → AreWidened (limits_behind n header) (limits_behind w header)
widened_behind n w g header = record {
  room = record { expression = g.room.expression; block = g.room.block };
  greater = record { expression = g.greater.expression; block = g.greater.block; loop = g.greater.loop };
  same = refl;
}

-- ---- What is within them

no_less : (n w : Limits) → AreGreater n w → AreNoLess n w
no_less n w g = record { expression = omega (arith, g.expression); block = omega (arith, g.block); loop = omega (arith, g.loop) }

text_item_within : (n w : Limits) → AreGreater n w → (header : Option Version) (x : TextItem) → IsTextItem (limits_behind n header) x
    → IsTextItem (limits_behind w header) x
text_item_within n w g header x is =
    let h : AreNoLess n w = no_less n w g in
    let behind : AreNoLess (limits_behind n header) (limits_behind w header) =
    record { expression = h.expression; block = h.block; loop = h.loop } in
    (item_within (limits_behind n header) (limits_behind w header) behind (item_for x) is.0, is.1)

model_within : (n w : Limits) → AreGreater n w → (header : Option Version) (m : TextModel) → IsTextModel (limits_behind n header) m
    → IsTextModel (limits_behind w header) m
model_within n w g header (TextAtomic name items) is = each_within (text_item_within n w g header) items is
model_within n w g header (TextCoupled name items) is = is

pub file_within : (n w : Limits) → AreGreater n w → (ts : List Token) (f : FileTree) → IsFileWithin n ts f → IsFileWithin w ts f
file_within n w g ts f is = record {
  written = is.written;
  read = record {
    text = is.read.text;
    spelled = is.read.spelled;
    models = each_within (model_within n w g is.read.text.header) is.read.text.models is.read.models;
    file = is.read.file;
  };
  tree = is.tree;
}
