-- The stores one by one
use mathlib.Core.Path.{sym}
use Rattle.word_steps.proofs.BirthLaws.{grown_held}
use Rattle.word_steps.proofs.births.grow.Goals as goal

pub returns : goal.returns
returns c = sym (grown_held c.args.queue.now c.requires.0 c.args.number c.requires.1).words
