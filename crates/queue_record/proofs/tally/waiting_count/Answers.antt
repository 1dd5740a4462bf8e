use Rattle.std.proofs.Common.{arith, get_or}
use Rattle.queue_record.proofs.WaitingCount.{waiting_of, tally_step, tally_end, share_small}
use Rattle.queue_record.proofs.tally.waiting_count.Goals as goal

pub loop-place-preserved : goal.loop-place-preserved
loop-place-preserved c =
    let s = share_small c.args.selection c.loop-place.place (get_or c.args.slots.now c.loop-place.place 0) in
    let t = tally_step c.args.selection c.args.slots.now c.loop-place.place (omega arith) in
    record { whole = omega arith; small = omega arith }

pub returns : goal.returns
unfolding waiting_of
returns c = omega (arith, tally_end c.args.selection c.args.slots.now c.loop-place.place (omega arith))
