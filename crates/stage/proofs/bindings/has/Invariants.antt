-- What was passed is none of them
use Rattle.std.proofs.Common.{◌≡◌, drop}
use Rattle.stage.specs.Bindings.{member}
use Rattle.stage.proofs.bindings.has.Given as goal

abbrev pub invariant-loop-y : goal.invariant-loop-y
invariant-loop-y l = member l.x (drop l.y-index l.s) ≡ member l.x l.s
