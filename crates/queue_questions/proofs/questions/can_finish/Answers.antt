-- The committed bindings are within their places
use Rattle.std.proofs.Common.{rules, sym}
use lib.Seq.{length-take-le}
use Rattle.queue_questions.proofs.Within.{bindings_within}
use Rattle.queue_questions.proofs.questions.can_finish.Goals as goal

pub slice_bounds-bindings-end : goal.slice_bounds-bindings-end
slice_bounds-bindings-end c = bindings_within c.args.q (search rules) (search rules)

pub slice_bounds-may_finish-end : goal.slice_bounds-may_finish-end
slice_bounds-may_finish-end c = sym (length-take-le _ _ (bindings_within c.args.q (search rules) (search rules)))
