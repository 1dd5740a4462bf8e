-- the number that is looked up is the table's, and the table is right
use mathlib.Core.Path.{◌∙◌}
use Rattle.stage.proofs.Table.{looked_up}
use Rattle.stage.proofs.phases.next_phase.Goals as goal

pub returns : goal.returns
returns c = c.into.ensures ∙ looked_up c.args.phase c.args.event _ _ c.from-row.ensures c.from-column.ensures
