use Rattle.std.proofs.Common.{rules, ◌≡◌, ◌++◌, ◌∷◌, [], ◌∙◌, List, Ok, ap, map}
use Rattle.std.proofs.lemmas.Result.{err_from_is_err_and}
use Rattle.std.proofs.lemmas.List.{map_push, append-nil}
use Rattle.dv_lex.specs.declared.token.TokenKind.TheVariants as kind
use Rattle.dv_lex.specs.declared.token.Keyword.TheVariants as keyword
use Rattle.dv_source.specs.Sources.{written_model}
use Rattle.dv_syntax.specs.Written.{WrittenModel}
use Rattle.dv_parser.specs.Reading.{many_at, model_at, our_limits}
use Rattle.dv_parser.proofs.Readers.{front_nothing, turn_some, turn_stop, turn_fails, front_more}
use Rattle.dv_parser.proofs.Models.{model_shortens}
use Rattle.dv_parser.proofs.file.models.Goals as goal

pub loop-alloc-init : goal.loop-alloc-init
loop-alloc-init c = rw c.new-models.ensures.items (front_nothing (many_at (model_at (our_limits c.args.short)) (kind.Keyword keyword.Root) c.args.tokens.now))

pub returns-in_err-model : goal.returns-in_err-model
returns-in_err-model c =
    let p = err_from_is_err_and c.from_residual.result c.from_residual.ensures.1 in
    rw (p.1, p.2) (turn_fails c.in_err-model.field-0.0 (model_at (our_limits c.args.short)) (kind.Keyword keyword.Root)
    (λ (xs : List WrittenModel). map written_model c.loop-alloc.models.items ++ xs) c.loop-alloc.rest.now _
    (search rules) c.in_err-model.ensures c.loop-alloc.invariant)

pub loop-alloc-smaller : goal.loop-alloc-smaller
loop-alloc-smaller c = model_shortens (our_limits c.args.short) c.loop-alloc.rest.now ((written_model c.in_ok-model.model), c.in_ok-model.after.now) c.in_ok-model.ensures

pub loop-alloc-preserved : goal.loop-alloc-preserved
loop-alloc-preserved c =
    let e : map written_model c.push.new.self.items ≡ map written_model c.loop-alloc.models.items ++ written_model c.in_ok-model.model ∷ [] =
    rw c.in_ok-push.ensures.items (map_push written_model c.loop-alloc.models.items c.in_ok-model.model) in
    rw e (turn_some (model_at (our_limits c.args.short)) (kind.Keyword keyword.Root) (λ (xs : List WrittenModel). map written_model c.loop-alloc.models.items ++ xs)
    (λ (xs : List WrittenModel). (map written_model c.loop-alloc.models.items ++ written_model c.in_ok-model.model ∷ []) ++ xs) c.loop-alloc.rest.now
    (written_model c.in_ok-model.model) c.in_ok-model.after.now (model_shortens (our_limits c.args.short))
    (front_more (map written_model c.loop-alloc.models.items) (written_model c.in_ok-model.model)) (search rules) c.in_ok-model.ensures
    ∙ c.loop-alloc.invariant)

pub returns : goal.returns
returns c = rw (← c.loop-alloc.invariant)
    (turn_stop (model_at (our_limits c.args.short)) (kind.Keyword keyword.Root)
    (λ (xs : List WrittenModel). map written_model c.loop-alloc.models.items ++ xs) c.loop-alloc.rest.now (search rules) ∙ ap
    (λ (xs : List WrittenModel). Ok (xs, c.loop-alloc.rest.now)) (append-nil (map written_model c.loop-alloc.models.items)))
