-- The tokens' slots are all that can wait
use Rattle.std.proofs.Common.{rules, sym}
use lib.Seq.{length-take-le}
use Rattle.queue_record.proofs.Fit.{fit, tokens_within}
use Rattle.queue_record.proofs.Waiting.{occupied_take}
use Rattle.queue_questions.specs.Questions.{is_empty_told}
use Rattle.queue_questions.proofs.questions.is_empty.Goals as goal

pub slice_bounds-slots-end : goal.slice_bounds-slots-end
slice_bounds-slots-end c = tokens_within c.args.q (search rules) (search rules)

pub slice_bounds-nothing_left-end : goal.slice_bounds-nothing_left-end
slice_bounds-nothing_left-end c = sym (length-take-le _ _ (tokens_within c.args.q (search rules) (search rules)))

pub returns : goal.returns
unfolding is_empty_told
returns c = search (rules, occupied_take 0 c.args.q.count c.args.q.slots (fit c.args.q (search rules)).slots)
