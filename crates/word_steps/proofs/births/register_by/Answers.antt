-- Refused, or born
use mathlib.Core.Path.{sym, ◌∙◌}
use Rattle.queue_decisions.proofs.BirthLaws.{register_room}
use Rattle.word_steps.proofs.BirthLaws.{register_no, register_yes}
use Rattle.word_steps.proofs.births.register_by.Goals as goal

pub returns-in-Some : goal.returns-in-Some
returns-in-Some c = rw c.into.ensures (sym (register_no c.args.queue.now c.requires.0 c.args.number (sym c.requires.1 ∙ c.in-Some.is)))

pub grow-requires : goal.grow-requires
grow-requires c = (c.requires.0, register_room _ _ (sym c.requires.1 ∙ c.in_default.is))

pub returns : goal.returns
returns c = rw c.grow.ensures (sym (register_yes c.args.queue.now c.requires.0 c.args.number (sym c.requires.1 ∙ c.in_default.is)))
