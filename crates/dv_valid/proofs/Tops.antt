-- Marks with a type on top.
use Rattle.std.proofs.Common.{◌≡◌, List, ◌∷◌, sym, ◌∙◌, ap}
use Rattle.dv_bag.specs.declared.value.ValueType.{ValueType}
use Rattle.dv_code.specs.Valid.{Body, Mark as Meant, mark}
use Rattle.dv_valid.specs.Marks.{with_top}

-- types with this one on top
pub on_top : (top type : ValueType) (types below : List ValueType) (nest : List Body) → types ≡ type ∷ below → top ≡ type
    → mark types nest ≡ with_top top (mark below nest)
on_top top type types below nest e f = ap (λ ts. mark ts nest) (e ∙ ap (λ t. t ∷ below) (sym f))

-- what lies below the top
pub below_top : (top type : ValueType) (types : List ValueType) (here below : Meant) → here ≡ with_top top below → here.types ≡ type ∷ types
    → below ≡ mark types here.nest
below_top top type types here below e f =
    let tops : top ∷ below.types ≡ type ∷ types = sym (ap (λ m. m.types) e) ∙ f in
    let rest : below.types ≡ types = cc in
    ap (λ ts. mark ts below.nest) rest ∙ ap (mark types) (sym (ap (λ m. m.nest) e))
