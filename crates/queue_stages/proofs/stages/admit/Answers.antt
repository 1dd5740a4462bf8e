-- The committed bindings are within their places
use Rattle.std.proofs.Common.{rules, sym}
use lib.Seq.{length-take-le}
use Rattle.queue_questions.proofs.Within.{bindings_within}
use Rattle.queue_stages.proofs.stages.admit.Goals as goal

pub slice_bounds-bindings-end : goal.slice_bounds-bindings-end
slice_bounds-bindings-end c = bindings_within c.args.q (search rules) (search rules)

pub slice_bounds-same_set-end : goal.slice_bounds-same_set-end
slice_bounds-same_set-end c = sym (length-take-le _ _ (bindings_within c.args.q (search rules) (search rules)))
