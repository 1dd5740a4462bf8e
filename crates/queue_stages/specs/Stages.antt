-- R28 to R37: admit, end and cancel
use Rattle.std.specs.Prelude.{Bool, not, Ok, Err}
use Rattle.choice.specs.Choice.{when◌then◌else◌}
use Rattle.stage.specs.Phases.{phase_after, is_pending}
use Rattle.stage.specs.declared.phases.Phase.{Phase}
use Rattle.stage.specs.declared.phases.Event.TheVariants.{Admit, End, Cancel}
use Rattle.queue_record.specs.declared.refusal.Refusal.TheVariants.{Broken}
use Rattle.queue_record.specs.Record.{with_phase}
use Rattle.queue_record.specs.WellFormed.{well_formed}
use Rattle.queue_record.specs.declared.record.Queue.{Queue}
use Rattle.queue_questions.specs.Questions.{yes_or_no}
use Rattle.queue_record.specs.declared.answered.Answered.{Answered}
use Rattle.queue_questions.specs.Types.{Told}
use Rattle.queue_stages.specs.Types.{Cancelled}

-- an answer and the record with it
abbrev pub staged : Told → Queue → Answered Told
staged answer q = record { answer = answer; queue = q }

abbrev pub refused_stage : Queue → Answered Told
refused_stage q = staged (Err Broken) q

-- R33: an Idle stage moves for a target that matches; in every other phase the table lets admit move nothing
abbrev pub after_admit : Phase → Bool → Phase
after_admit phase matched = when matched then phase_after phase Admit else phase

-- R35: yes if the stage is pending behind the call
abbrev pub admitted_by : Queue → Bool → Answered Told
admitted_by q matched = staged (yes_or_no (is_pending (after_admit q.phase matched))) (with_phase q (after_admit q.phase matched))

-- R33, R34: matched: there is a target, and its members are the committed ones
unfoldable pub admitted : Queue → Bool → Answered Told
admitted q matched = when not (well_formed q) then refused_stage q else admitted_by q matched

-- R36: yes if the stage was pending when the call came
unfoldable pub ended : Queue → Answered Told
ended q =
    when not (well_formed q) then refused_stage q else
    staged (yes_or_no (is_pending q.phase)) (with_phase q (phase_after q.phase End))

unfoldable pub cancelled_by : Queue → Answered Cancelled
cancelled_by q =
    when not (well_formed q) then record { answer = Err Broken; queue = q } else
    record { answer = Ok tt; queue = with_phase q (phase_after q.phase Cancel) }
