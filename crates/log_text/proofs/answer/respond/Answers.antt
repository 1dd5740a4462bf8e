-- The answer's text lies within the buffer
use Rattle.std.proofs.Common.{rules}
use Rattle.log_text.proofs.Reported.{counts_answer}
use Rattle.log_text.proofs.answer.respond.Goals as goal

pub returns-clause-within : goal.returns-clause-within
returns-clause-within c = (counts_answer _ _ _ _ (search rules) c.report.ensures.value c.report.ensures.out_after).0

pub returns-clause-prefix_len : goal.returns-clause-prefix_len
returns-clause-prefix_len c = (counts_answer _ _ _ _ (search rules) c.report.ensures.value c.report.ensures.out_after).1
