use Rattle.std.proofs.Common.{List, ◌≡◌, ◌∙◌, Err, ap, subst, sym}
use Rattle.dv_lex.specs.declared.token.Token.{Token}
use Rattle.dv_lex.specs.declared.error.LoadError.TheVariants.{Refused}
use Rattle.dv_lex.specs.Steps.{BeginsWith, ReadsToken}
use Rattle.dv_lex.proofs.Progress.{HasRead, HasRead-blank_first, HasRead-line, HasRead-token, ReadsToken-shorter, refused_there}
use Rattle.dv_lex.proofs.lexer.read.Goals as goal

pub loop-first-preserved-then-is_blank : goal.loop-first-preserved-then-is_blank
loop-first-preserved-then-is_blank c =
    let begins : BeginsWith c.in-Some.first c.loop-first.rest.now = (c.in-Some.after.now, c.in-Some.ensures) in
    let blank = sym c.is_blank.ensures ∙ c.if-is_blank.true in
    let read = HasRead-blank_first c.args.text.now _ _ c.loop-first.rest.now c.loop-first.invariant.0 c.in-Some.first begins blank in
    (read, read.utf8)

pub loop-first-preserved-then-first-eq35 : goal.loop-first-preserved-then-first-eq35
loop-first-preserved-then-first-eq35 c =
    let begins : BeginsWith c.in-Some.first c.loop-first.rest.now = (c.in-Some.after.now, c.in-Some.ensures) in
    let sign = c.if-first-eq35.true in
    let read =
    HasRead-line c.args.text.now _ _ c.loop-first.rest.now c.loop-first.invariant.0 c.in-Some.first begins sign _ _ c.split_line.ensures in
    (read, read.utf8)

pub loop-first-smaller : goal.loop-first-smaller
loop-first-smaller c =
    ReadsToken-shorter _ c.loop-first.rest.now c.loop-first.names c.token.new.names c.in-Ok.read.0 c.in-Ok.read.1.now c.in-Ok.ensures.token

pub loop-first-preserved : goal.loop-first-preserved
loop-first-preserved c =
    let token : ReadsToken _ c.loop-first.rest.now c.loop-first.names c.token.new.names c.in-Ok.read.0 c.in-Ok.read.1.now =
    rw c.offset_of-offset.ensures at c.in-Ok.ensures.token in
    let read = subst (λ (ts : List Token). HasRead c.args.text.now c.token.new.names ts c.in-Ok.read.1.now) (sym c.in_ok-push.ensures.items)
    (HasRead-token c.args.text.now c.loop-first.names c.loop-first.tokens.items c.loop-first.rest.now c.loop-first.invariant.0
    c.token.new.names c.in-Ok.read.0 c.in-Ok.read.1.now token) in
    (read, read.utf8)

pub returns-in-Err-clause-refused : goal.returns-in-Err-clause-refused
returns-in-Err-clause-refused c r was =
    let same : c.in-Err.e ≡ Refused r = cc was in
    let token = c.in-Err.ensures.refused r (ap Err same) in
    let begins : BeginsWith c.in-Some.first c.loop-first.rest.now = (c.in-Some.after.now, c.in-Some.ensures) in
    refused_there c.args.text.now _ _ c.loop-first.rest.now c.requires c.loop-first.invariant.0 c.in-Some.first begins r
    (token.0 ∙ c.offset_of-offset.ensures, token.1)
