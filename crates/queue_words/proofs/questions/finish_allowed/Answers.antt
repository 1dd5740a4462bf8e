use Rattle.std.proofs.Common.{◌∙◌}
use Rattle.queue_words.proofs.QuestionWords.{committed_words}
use Rattle.queue_words.proofs.questions.finish_allowed.Goals as goal

pub returns : goal.returns
returns c = c.may_finish.ensures ∙ rw (c.selection_in-selection.ensures, c.from-phase.ensures, committed_words c.args.w.now c.requires)
