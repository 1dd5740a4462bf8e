-- Halfway at each place
use Rattle.std.proofs.Common.{◌≡◌}
use Rattle.group_rounds.proofs.Halfway.{halfway}
use Rattle.group_rounds.proofs.rounds.renew_all.Given as goal

abbrev pub invariant-loop-place : goal.invariant-loop-place
invariant-loop-place l = l.place-items ≡ halfway l.fn.g.places l.place-index
