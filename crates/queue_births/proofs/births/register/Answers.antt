-- Refused, or born
use Rattle.std.proofs.Common.{rules}
use mathlib.Core.Path.{sym, ◌∙◌}
use Rattle.queue_decisions.proofs.BirthLaws.{register_room}
use Rattle.queue_births.specs.Births.{registered}
use Rattle.queue_births.proofs.births.register.Goals as goal

pub returns-then-not-well_formed : goal.returns-then-not-well_formed
unfolding registered
returns-then-not-well_formed c = search rules

pub returns-in-Some : goal.returns-in-Some
unfolding registered
returns-in-Some c = search rules

pub grow-after-requires : goal.grow-after-requires
grow-after-requires c = register_room _ _ (sym c.register_refusal.ensures ∙ c.in_default.is)

pub returns : goal.returns
unfolding registered
returns c = search rules
