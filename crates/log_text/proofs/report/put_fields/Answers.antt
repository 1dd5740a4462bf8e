-- One more number at a time
use Rattle.log_text.proofs.Fields.{put_start, put_next, put_room}
use Rattle.log_text.proofs.report.put_fields.Goals as goal

pub loop-number-init : goal.loop-number-init
loop-number-init c = put_start _ _

pub put_number-at-requires : goal.put_number-at-requires
put_number-at-requires c = put_room _ _ _ _ _ _ c.loop-number.invariant c.loop-number-test.true c.requires

pub loop-number-preserved : goal.loop-number-preserved
loop-number-preserved c =
    put_next _ _ _ _ _ _ _ _ c.loop-number.invariant c.loop-number-test.true c.put_number-at.ensures.value c.put_number-at.ensures.out_after c.requires
