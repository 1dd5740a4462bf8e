-- A ticket where a caller finds it: in the queue's own words, and in pop's answer
use Rattle.std.specs.Prelude.{ℕ, List, [], ◌∷◌}
use Rattle.queue_words.specs.Layout.{at_ticket_domain, at_ticket_token, at_ticket_attempt, at_value, at_work_token, at_work_attempt}
use Rattle.queue_words.specs.Words.{word}

abbrev pub own_ticket : List ℕ → List ℕ
own_ticket ws = word ws at_ticket_domain ∷ word ws at_ticket_token ∷ word ws at_ticket_attempt ∷ []

abbrev pub told_ticket : List ℕ → List ℕ
told_ticket answer = word answer at_value ∷ word answer at_work_token ∷ word answer at_work_attempt ∷ []
