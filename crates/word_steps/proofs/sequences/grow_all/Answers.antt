use Rattle.std.proofs.Common.{arith}
use Rattle.word_steps.proofs.SequenceLaws.{stored_none, stored_room, stored_more, stored_all}
use Rattle.word_steps.proofs.sequences.grow_all.Goals as goal

pub loop-number-init : goal.loop-number-init
loop-number-init c = stored_none _ _ c.requires.0

pub grow-requires : goal.grow-requires
grow-requires c = (c.loop-number.invariant.sound, stored_room _ _ _ _ c.loop-number.invariant c.requires.1 (omega arith))

pub loop-number-preserved : goal.loop-number-preserved
loop-number-preserved c = stored_more _ _ _ _ c.loop-number.invariant c.requires.1 (omega arith) _ c.grow.ensures

pub returns : goal.returns
returns c = stored_all _ _ _ _ c.loop-number.invariant (omega arith)
