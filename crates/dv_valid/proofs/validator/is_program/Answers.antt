use Rattle.std.proofs.Common.{sym, arith}
use Rattle.dv_valid.specs.Marks.{Fit, mark_of}
use Rattle.dv_valid.proofs.Unique.{fits_too}
use Rattle.dv_valid.proofs.validator.is_program.Goals as goal

pub returns-in-None : goal.returns-in-None
returns-in-None c = (
  λ t. absurd (cc),
  λ p. let shape = c.args.shape.now in
      let fit : Fit shape c.args.code.now p.valid.marks = record { start = p.valid.start; each = p.valid.each } in
      let none = c.in_ok-of.ensures.only shape p.valid.marks (sym c.sort.ensures) fit in
      absurd (rw c.in-None.is at none),
)

pub returns-in-Some : goal.returns-in-Some
returns-in-Some c =
    let shape = c.args.shape.now in
    let code = c.args.code.now in
    let marks = c.in-Some.marks in (
      λ t. let fit = c.fit.ensures.0 t in
          record {
            valid = record { marks = mark_of marks; start = fit.start; each = fit.each };
            small = c.bags_are_small.ensures;
            short = omega (arith, c.if-code-gt-GREATEST_LENGTH.false);
          },
      λ p. let fit : Fit shape code p.valid.marks = record { start = p.valid.start; each = p.valid.each } in
          let only = c.in_ok-of.ensures.only shape p.valid.marks (sym c.sort.ensures) fit in
          let same = rw c.in-Some.is at only in
          c.fit.ensures.1 (fits_too shape code p.valid.marks (mark_of marks) fit same),
    )
