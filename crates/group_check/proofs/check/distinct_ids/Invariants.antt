-- What is left is distinct exactly if all are
use Rattle.std.proofs.Common.{◌≡◌, drop}
use Rattle.group_check.specs.WellFormed.{distinct_ids}
use Rattle.group_check.proofs.check.distinct_ids.Given as goal

abbrev pub invariant-loop-i : goal.invariant-loop-i
invariant-loop-i l = (l.place-items ≡ l.fn.g.places) × (distinct_ids (drop l.i l.fn.g.places) ≡ distinct_ids l.fn.g.places)
