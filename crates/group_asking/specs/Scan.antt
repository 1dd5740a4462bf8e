-- The first place that answers a question with yes
use Rattle.std.specs.Prelude.{ℕ, suc, Bool, List, [], ◌∷◌, Option, Some, None}
use Rattle.choice.specs.Choice.{when◌then◌else◌}
use Rattle.queue_record.specs.Newest.{is_there}
use Rattle.group_record.specs.declared.record.Place.{Place}
use Rattle.group_record.specs.declared.record.Groups.{Groups}
use Rattle.group_asking.specs.Question.{Question}
use Rattle.group_asking.specs.Questions.{asks_of}

-- the lowest place that says yes, where the first one's number is k
abbrev pub first_from : (Place → Bool) → ℕ → List Place → Option ℕ
first_from says k [] = None
first_from says k (p ∷ ps) = when says p then Some k else first_from says (suc k) ps

abbrev pub first_yes : Groups → Question → List ℕ → Option ℕ
first_yes g question target = first_from (asks_of question target) 0 g.places

-- some place says yes
abbrev pub some_yes : Groups → Question → List ℕ → Bool
some_yes g question target = is_there (first_yes g question target)
