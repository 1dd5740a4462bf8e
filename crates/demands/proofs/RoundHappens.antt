-- An example: retry_all says yes of a record whose root has failed
use mathlib.Core.Path.{◌≡◌, refl}
use mathlib.Core.List.{[], ◌∷◌}
use Rattle.queue_record.specs.WellFormed.{well_formed}
use Rattle.queue_record.specs.Newest.{newest}
use Rattle.queue_record.specs.Openings.{scope_of, blank}
use Rattle.queue_decisions.specs.Births.{register_refusal}
use Rattle.queue_decisions.specs.Pops.{pop_due}
use Rattle.queue_decisions.specs.Answers.{complete_refusal}
use Rattle.queue_births.specs.Births.{registered}
use Rattle.queue_steps.specs.Attempts.{popped, completed}
use Rattle.queue_questions.specs.Questions.{can_retry_told}
use Rattle.group_record.specs.Record.{empty_of}
use Rattle.group_check.specs.WellFormed.{well_grouped}
use Rattle.group_check.specs.Ids.{spot_of}
use Rattle.group_openings.specs.Openings.{new_of}
use Rattle.group_steps.specs.Births.{registered_in}
use Rattle.group_steps.specs.Attempts.{popped_in, completed_in}
use Rattle.group_rounds.specs.Rounds.{retried_all}
use Rattle.cleanup_groups.specs.Runs.{register, pop, complete, groups_after_all}
use Rattle.std.specs.Prelude.{true, Ok}

pub round_said_yes : (retried_all (groups_after_all (new_of 0).groups (register 0 72 ∷ pop 0 ∷ complete 0 (record { domain = 0; token = 0; attempt = 0 }) 1 72 ∷ []))).answer ≡ Ok true
unfolding retried_all new_of empty_of well_grouped well_formed scope_of blank registered register_refusal
    popped pop_due completed complete_refusal newest can_retry_told spot_of registered_in popped_in completed_in
round_said_yes = refl
