use Rattle.std.proofs.Common.{refl, arith, length}
use Rattle.std.proofs.lemmas.Slice.{put_mid-paste}
use Rattle.queue_words.specs.InPlace.{run_put}
use Rattle.queue_words.proofs.steps.put_run.Goals as goal

pub returns : goal.returns
unfolding run_put
returns c = put_mid-paste c.args.from _ c.args.queue.now _ c.args.values.now (length c.args.values.now) c.copy_from_slice.ensures.after (omega arith) refl
