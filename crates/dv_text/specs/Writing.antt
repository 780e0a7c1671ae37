-- What the known bytes of a writer are after a text, or a beginning of it, was written.
use Rattle.std.specs.Prelude.{ℕ, ℤ, ◌≡◌, ◌<◌, Bool, true, false, if◌then◌else◌, List, [], ◌∷◌, ◌++◌, length, Option}
use Rattle.std.specs.Fmt.{signed_decimal}
use Rattle.std.specs.Io.KnownBytes.{Appends}
use Rattle.dv_text.specs.Texts.{sent_text}

-- the writer took the front of a text, by which its known bytes grew, and this rest of the text is left
pub record TakesFront (old new : Option (List ℕ)) (text rest : List ℕ) : Type 0 where
  pub front : List ℕ
  pub whole : text ≡ front ++ rest
  pub appends : Appends old new front

-- the known bytes of a writer grew by a beginning of a text
pub record AppendsBeginning (old new : Option (List ℕ)) (text : List ℕ) : Type 0 where
  pub rest : List ℕ
  pub takes : TakesFront old new text rest

-- the known bytes of a writer grew by a beginning of a text that is not all of it
pub record StopsShort (old new : Option (List ℕ)) (text : List ℕ) : Type 0 where
  pub rest : List ℕ
  pub takes : TakesFront old new text rest
  pub more : 0 < length rest

-- values, each with a comma before it except for the first one
abbrev pub values_from : Bool → List ℤ → List ℕ
values_from is_first [] = []
values_from is_first (v ∷ vs) = (if is_first then [] else 44 ∷ []) ++ (signed_decimal v ++ values_from false vs)

-- the rest of what was sent, with ` >` before it if nothing was written yet
abbrev pub sent_from : Bool → List ℕ → List ℕ
sent_from true text = sent_text text
sent_from false text = text
