-- Refused, or settled
use mathlib.Core.Path.{sym, ◌∙◌}
use Rattle.queue_words.specs.Words.{queue_of}
use Rattle.word_steps.proofs.CompleteLaws.{complete_no, complete_yes, settle_place}
use Rattle.word_steps.proofs.complete.complete_by.Goals as goal

pub returns-in-Some : goal.returns-in-Some
unfolding queue_of
returns-in-Some c =
    rw c.into.ensures (sym (complete_no c.args.queue.now c.requires.0 c.args.ticket c.args.outcome c.args.kept (sym c.requires.1 ∙ c.in-Some.is)))

pub settle-requires : goal.settle-requires
unfolding queue_of
settle-requires c = (
  c.requires.0,
  settle_place c.args.queue.now c.requires.0 c.args.ticket c.args.outcome c.args.kept (sym c.requires.1 ∙ c.in_default.is),
)

pub returns : goal.returns
unfolding queue_of
returns c =
    rw c.settle.ensures (sym (complete_yes c.args.queue.now c.requires.0 c.args.ticket c.args.outcome c.args.kept (sym c.requires.1 ∙ c.in_default.is)))
