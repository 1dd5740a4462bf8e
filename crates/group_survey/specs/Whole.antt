-- The calls that ask of the whole record (R115 to R120), among them upstream's contains, is_empty, len and
-- can_add_iterator; R123: 1 alone refuses them
use Rattle.std.specs.Prelude.{ℕ, Bool, not, ◌&&◌, List, [], ltb, Ok, Err}
use Rattle.choice.specs.Choice.{when◌then◌else◌}
use Rattle.queue_record.specs.declared.refusal.Refusal.TheVariants.{Broken}
use Rattle.queue_questions.specs.Questions.{yes_or_no}
use Rattle.group_asking.specs.Scan.{some_yes}
use Rattle.group_check.specs.Count.{live_count}
use Rattle.group_check.specs.WellFormed.{ids, well_grouped}
use Rattle.group_record.specs.declared.record.Groups.{Groups}
use Rattle.group_asking.specs.Question.{Free, Live, HoldsId, Pending, Issued, Failed, Stuck, Unfinished, Undrained}
use Rattle.group_survey.specs.Types.{LenTold}
use Rattle.queue_questions.specs.Types.{Told}

-- a question put to a record: 1 if it is not well formed, else the answer
abbrev pub told_of : Groups → Bool → Told
told_of g answer = when not (well_grouped g) then Err Broken else yes_or_no answer

-- R120: contains, the id is live
abbrev pub contains_told : Groups → ℕ → Told
contains_told g id = told_of g (some_yes g (HoldsId id) [])

-- R120: is_empty, no group is live
abbrev pub is_empty_of : Groups → Told
is_empty_of g = told_of g (not (some_yes g Live []))

-- R115: has_pending, some live group's stage is pending
abbrev pub has_pending_of : Groups → Told
has_pending_of g = told_of g (some_yes g Pending [])

-- R115: has_issued, some live group has an undo out
abbrev pub has_issued_of : Groups → Told
has_issued_of g = told_of g (some_yes g Issued [])

-- R115: has_failed, some live group has failed
abbrev pub has_failed_of : Groups → Told
has_failed_of g = told_of g (some_yes g Failed [])

-- R116: some live group has failed, and none of these is without a retry
abbrev pub retries_all : Groups → Bool
retries_all g = some_yes g Failed [] && not (some_yes g Stuck [])

abbrev pub can_retry_all_of : Groups → Told
can_retry_all_of g = told_of g (retries_all g)

-- R118: can_finish, no live group keeps it from a yes
abbrev pub can_finish_of : Groups → List ℕ → Told
can_finish_of g target = told_of g (not (some_yes g Unfinished target))

-- R119: can_seal, none is undrained; of a sealed record yes, as upstream's body, though seal gives 12
abbrev pub can_seal_of : Groups → Told
can_seal_of g = told_of g (not (some_yes g Undrained []))

-- R120: an opening would not get 12, 11 or 19
abbrev pub room_for : Groups → Bool
room_for g = not g.sealed && (some_yes g Free [] && ltb g.next ids)

abbrev pub can_add_of : Groups → Told
can_add_of g = told_of g (room_for g)

-- R120: len, how many groups are live
abbrev pub len_of : Groups → LenTold
len_of g = when not (well_grouped g) then Err Broken else Ok (live_count g.places)
