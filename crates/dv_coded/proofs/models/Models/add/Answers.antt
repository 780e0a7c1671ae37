use Rattle.std.proofs.Common.{refl, arith}
use Rattle.dv_coded.proofs.models.Models.add.Goals as goal

pub returns : goal.returns
returns c = record {
  programs = c.in_ok-programs.programs;
  response = c.in_ok-response.response;
  index = omega (arith, c.len-index.ensures, c.args.self.now.programs.ok.0);
  pushed = c.in_ok-push.ensures.items;
  of_model = record { tables = c.in_ok-programs.ensures.tables; phases = c.in_ok-programs.ensures.phases };
  answered = c.in_ok-push-2.ensures.items;
  soonest = c.in_ok-response.ensures.response;
  short = c.in_ok-response.ensures.short;
  indices = refl;
}
