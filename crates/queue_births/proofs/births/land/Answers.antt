-- Refused, or born with the stage moved
use Rattle.std.proofs.Common.{rules}
use mathlib.Core.Path.{sym, ◌∙◌}
use Rattle.queue_decisions.proofs.BirthLaws.{land_room}
use Rattle.queue_births.specs.Births.{landed}
use Rattle.queue_births.proofs.births.land.Goals as goal

pub returns-then-not-well_formed : goal.returns-then-not-well_formed
unfolding landed
returns-then-not-well_formed c = search rules

pub returns-in-Some : goal.returns-in-Some
unfolding landed
returns-in-Some c = search rules

pub grow-born-requires : goal.grow-born-requires
grow-born-requires c = land_room _ _ _ (sym c.land_refusal.ensures ∙ c.in_default.is)

pub returns : goal.returns
unfolding landed
returns c = search rules
