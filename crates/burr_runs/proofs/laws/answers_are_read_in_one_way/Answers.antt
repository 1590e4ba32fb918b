use Rattle.burr_runs.proofs.AnswerTexts.{one_answers, no_faulty_line, one_faulty_line}
use Rattle.burr_runs.proofs.laws.answers_are_read_in_one_way.Goals as goal

pub returns : goal.returns
returns c = record { answers = one_answers; either = no_faulty_line; line = one_faulty_line }
