use Rattle.dv_job.proofs.DeadEnds.{FirstWrongLaws}
use Rattle.dv_job.proofs.Loading.{FileLaws, TokenLaws, not_both, one_answer, one_model, some_answer}
use Rattle.dv_job.proofs.laws.a_text_has_one_answer.Goals as goal

of_tokens : (c : goal.After-a_first_wrong_token_is_one) → TokenLaws
of_tokens c =
    record {
      some = c.a_text_has_tokens_or_a_refusal.ensures;
      one_list = c.tokens_are_unique.ensures;
      one_refusal = c.refusals_are_unique.ensures;
      not_both = c.tokens_or_refused.ensures;
    }

of_first_wrong : (c : goal.After-a_first_wrong_token_is_one) → FirstWrongLaws
of_first_wrong c =
    record {
      front = c.a_first_wrong_token_is_one.ensures.front;
      offset = c.a_first_wrong_token_is_one.ensures.offset;
      none = c.a_first_wrong_token_is_one.ensures.none;
    }

of_files : (c : goal.After-a_first_wrong_token_is_one) → FileLaws
of_files c =
    record {
      some = c.tokens_have_one_answer.ensures.some;
      one_file = c.tokens_spell_one_file.ensures;
      dead = c.refusals_are_dead_ends.ensures;
      first_wrong = of_first_wrong c;
    }

pub returns-clause-some : goal.returns-clause-some
returns-clause-some c = some_answer (of_tokens c) (of_files c)

pub returns-clause-one_model : goal.returns-clause-one_model
returns-clause-one_model c = one_model (of_tokens c) (of_files c)

pub returns-clause-one_refusal : goal.returns-clause-one_refusal
returns-clause-one_refusal c = one_answer (of_tokens c) (of_files c)

pub returns-clause-not_both : goal.returns-clause-not_both
returns-clause-not_both c = not_both (of_tokens c) (of_files c)
