-- There is a target that admit takes: the committed bindings
use mathlib.Core.Path.{◌≡◌, refl}
use mathlib.Core.Bool.{true}
use Rattle.stage.proofs.Sets.{means_same}
use Rattle.queue_record.specs.declared.record.Queue.{Queue}
use Rattle.queue_questions.specs.Questions.{matches, committed}

-- an admit that matches can always be made: the committed bindings match
pub target_there : (q : Queue) → matches q (committed q) ≡ true
target_there q = means_same (committed q) (committed q) (λ x. refl)
