-- R138: what each answer says: its number by R63, 0 for done, and the values with it
use Rattle.std.specs.Prelude.{ℕ, true, false, List, [], ◌∷◌, Some, None, Ok, Err}
use Rattle.queue_record.specs.Refusals.{done, refusal_number}
use Rattle.queue_births.specs.Types.{Registered}
use Rattle.queue_questions.specs.Types.{DomainTold, Told}
use Rattle.queue_record.specs.Types.{Opened}
use Rattle.queue_stages.specs.Types.{Cancelled}
use Rattle.queue_steps.specs.Types.{Completed, Popped, Retried}

pub record Said : Type 0 where
  pub number : ℕ
  pub values : List ℕ

abbrev pub says : ℕ → List ℕ → Said
says n vs = record { number = n; values = vs }

-- R26: an opening has no value
abbrev pub opened_says : Opened → Said
opened_says (Ok tt) = says done []
opened_says (Err refusal) = says (refusal_number refusal) []

-- R38, R62: the token; a refusal returns the number given
abbrev pub registered_says : Registered → Said
registered_says (Ok token) = says done (token ∷ [])
registered_says (Err (refusal, given)) = says (refusal_number refusal) (given ∷ [])

-- R47: domain, token, attempt and undo number of the work; Nothing has no value
abbrev pub popped_says : Popped → Said
popped_says (Ok (Some (t, number))) = says done (t.domain ∷ t.token ∷ t.attempt ∷ number ∷ [])
popped_says (Ok None) = says done []
popped_says (Err refusal) = says (refusal_number refusal) []

-- R62: a refusal of complete returns the kept number given
abbrev pub completed_says : Completed → Said
completed_says (Ok tt) = says done []
completed_says (Err (refusal, kept)) = says (refusal_number refusal) (kept ∷ [])

-- R55: domain, token and attempt of the renewed ticket
abbrev pub retried_says : Retried → Said
retried_says (Ok t) = says done (t.domain ∷ t.token ∷ t.attempt ∷ [])
retried_says (Err refusal) = says (refusal_number refusal) []

-- yes is 1 and no is 0
abbrev pub told_says : Told → Said
told_says (Ok true) = says done (1 ∷ [])
told_says (Ok false) = says done (0 ∷ [])
told_says (Err refusal) = says (refusal_number refusal) []

abbrev pub cancelled_says : Cancelled → Said
cancelled_says (Ok tt) = says done []
cancelled_says (Err refusal) = says (refusal_number refusal) []

abbrev pub domain_says : DomainTold → Said
domain_says (Ok d) = says done (d ∷ [])
domain_says (Err refusal) = says (refusal_number refusal) []
