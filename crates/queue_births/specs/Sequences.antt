-- R144 to R147: a whole list registered: as if each number were registered in turn, up to the first refusal
use Rattle.std.specs.Prelude.{ℕ, suc, not, List, [], ◌∷◌, Option, Some, None, Ok, Err}
use Rattle.choice.specs.Choice.{when◌then◌else◌}
use Rattle.queue_record.specs.declared.refusal.Refusal.{Refusal}
use Rattle.queue_record.specs.declared.refusal.Refusal.TheVariants.{Broken}
use Rattle.queue_record.specs.WellFormed.{well_formed}
use Rattle.queue_record.specs.declared.record.Queue.{Queue}
use Rattle.queue_births.specs.Births.{grown, registered}
use Rattle.queue_births.specs.declared.sequences.RegisteredAll.{RegisteredAll}
use Rattle.queue_record.specs.declared.answered.Answered.{Answered}
use Rattle.queue_births.specs.Types.{Registered}

-- so many were taken, and this refused the next one, or the whole list; None where nothing did
abbrev pub took_as : ℕ → Option Refusal → RegisteredAll
took_as taken refusal = record { taken = taken; refusal = refusal }

-- none taken, and the record as it was
abbrev pub took_none : Queue → Option Refusal → Answered RegisteredAll
took_none q refusal = record { answer = took_as 0 refusal; queue = q }

-- one taken in front of those of the rest
abbrev pub took_more : RegisteredAll → RegisteredAll
took_more rest = took_as (suc rest.taken) rest.refusal

-- by a number's own answer, the record that it leaves, and what the rest comes to behind it: a refusal ends it, and is not counted
abbrev pub until_refused : Registered → Queue → Answered RegisteredAll → Answered RegisteredAll
until_refused (Ok token) after rest = record { answer = took_more rest.answer; queue = rest.queue }
until_refused (Err (refusal, given)) after rest = took_none after (Some refusal)

-- each number registered in turn
unfoldable pub in_turn : Queue → List ℕ → Answered RegisteredAll
in_turn q [] = took_none q None
in_turn q (number ∷ rest) = until_refused (registered q number).answer (registered q number).queue (in_turn (registered q number).queue rest)

-- 1 is asked first, of an empty list too; then as each number's register
unfoldable pub registered_all : Queue → List ℕ → Answered RegisteredAll
registered_all q numbers = when not (well_formed q) then took_none q (Some Broken) else in_turn q numbers

-- ---- what the code does
-- a token more for each number
unfoldable pub grown_all : Queue → List ℕ → Queue
grown_all q [] = q
grown_all q (number ∷ rest) = grown_all (grown q number) rest
