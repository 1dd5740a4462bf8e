-- R117: retry of every failed group, as upstream's visible body does it
use Rattle.std.specs.Prelude.{true, false, not, ◌&&◌, List, [], ◌∷◌, Ok, Err}
use Rattle.choice.specs.Choice.{when◌then◌else◌}
use Rattle.queue_record.specs.declared.refusal.Refusal.TheVariants.{Broken}
use Rattle.queue_steps.specs.Attempts.{retried}
use Rattle.group_record.specs.Record.{holding, with_places}
use Rattle.group_check.specs.WellFormed.{well_grouped}
use Rattle.group_record.specs.declared.record.Place.{Place}
use Rattle.group_record.specs.declared.record.Groups.{Groups}
use Rattle.group_survey.specs.Whole.{retries_all}
use Rattle.group_record.specs.declared.answered.GroupsAnswered.{GroupsAnswered}
use Rattle.queue_questions.specs.Types.{Told}

-- a live place whose group has failed is retried as a queue; any other stays
abbrev pub retried_place : Place → Place
retried_place p = when p.live && p.queue.failed then holding p (retried p.queue).queue else p

abbrev pub retried_places : List Place → List Place
retried_places [] = []
retried_places (p ∷ ps) = retried_place p ∷ retried_places ps

abbrev pub all_retried : Groups → Groups
all_retried g = with_places g (retried_places g.places)

abbrev pub round_done : Told → Groups → GroupsAnswered Told
round_done answer g = record { answer = answer; groups = g }

-- 1; no and nothing changed unless can_retry_all; else yes, and every failed group is retried
unfoldable pub retried_all : Groups → GroupsAnswered Told
retried_all g =
    when not (well_grouped g) then round_done (Err Broken) g else
    when not (retries_all g) then round_done (Ok false) g else
    round_done (Ok true) (all_retried g)
