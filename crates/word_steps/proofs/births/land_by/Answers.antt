-- Refused, or born
use mathlib.Core.Path.{sym, ◌∙◌}
use Rattle.queue_decisions.proofs.BirthLaws.{land_room}
use Rattle.word_steps.proofs.BirthLaws.{land_no, land_yes}
use Rattle.word_steps.proofs.births.land_by.Goals as goal

pub returns-in-Some : goal.returns-in-Some
returns-in-Some c = rw c.into.ensures (sym (land_no c.args.queue.now c.requires.0 c.args.number (sym c.requires.1 ∙ c.in-Some.is)))

pub grow_landed-requires : goal.grow_landed-requires
grow_landed-requires c = (c.requires.0, land_room _ _ _ (sym c.requires.1 ∙ c.in_default.is))

pub returns : goal.returns
returns c = rw c.grow_landed.ensures (sym (land_yes c.args.queue.now c.requires.0 c.args.number (sym c.requires.1 ∙ c.in_default.is)))
