-- What each answer of the groups says: its number by R63, 0 for done, and the values with it (R138). Answers that are
-- the queue's own (register, pop, complete, ..) say what they say there
use Rattle.std.specs.Prelude.{[], ◌∷◌, Ok, Err}
use Rattle.queue_record.specs.Refusals.{done, refusal_number}
use Rattle.cleanup_queue.specs.Answers.{Said, says}
use Rattle.group_check.specs.Types.{Got}
use Rattle.group_endings.specs.Types.{Closed}
use Rattle.group_openings.specs.Types.{Added}
use Rattle.group_survey.specs.Types.{LenTold}

-- R108: an opening tells the id
abbrev pub added_says : Added → Said
added_says (Ok id) = says done (id ∷ [])
added_says (Err refusal) = says (refusal_number refusal) []

-- close and seal have no value
abbrev pub closed_says : Closed → Said
closed_says (Ok tt) = says done []
closed_says (Err refusal) = says (refusal_number refusal) []

-- R120: how many groups are live
abbrev pub len_says : LenTold → Said
len_says (Ok n) = says done (n ∷ [])
len_says (Err refusal) = says (refusal_number refusal) []

-- R121: get; the queue stands beside the answer
abbrev pub got_says : Got → Said
got_says (Ok tt) = says done []
got_says (Err refusal) = says (refusal_number refusal) []
