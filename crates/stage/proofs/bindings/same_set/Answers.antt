-- both ways inside is the test, and the test means the same members
use Rattle.std.proofs.Common.{rules}
use Rattle.stage.proofs.Sets.{meaning}
use Rattle.stage.proofs.bindings.same_set.Goals as goal

pub returns-then-inside-clause-meaning : goal.returns-then-inside-clause-meaning
returns-then-inside-clause-meaning c = meaning c.args.a.now c.args.b.now _ (search rules)

pub returns-else-inside-clause-meaning : goal.returns-else-inside-clause-meaning
returns-else-inside-clause-meaning c = meaning c.args.a.now c.args.b.now _ (search rules)
