-- R113: the yes-or-no calls of a group, and its domain
use Rattle.std.specs.Prelude.{ℕ, not, List, Ok, Err}
use Rattle.queue_questions.specs.Questions.{is_empty_told, is_issued_told, is_pending_told, is_settled_told, is_cancelled_told, has_failed_told, can_retry_told, can_finish_told, domain_told}
use Rattle.group_check.specs.Ids.{got}
use Rattle.group_record.specs.declared.record.Groups.{Groups}
use Rattle.group_check.specs.Types.{Got}
use Rattle.queue_questions.specs.Types.{DomainTold, Told}

-- the refusal of the id, or else what its queue told
abbrev pub told_by : Got → Told → Told
told_by (Err refusal) told = Err refusal
told_by (Ok tt) told = told

abbrev pub is_empty_in : Groups → ℕ → Told
is_empty_in g id = told_by (got g id).answer (is_empty_told (got g id).queue)

abbrev pub is_issued_in : Groups → ℕ → Told
is_issued_in g id = told_by (got g id).answer (is_issued_told (got g id).queue)

abbrev pub is_pending_in : Groups → ℕ → Told
is_pending_in g id = told_by (got g id).answer (is_pending_told (got g id).queue)

abbrev pub is_settled_in : Groups → ℕ → Told
is_settled_in g id = told_by (got g id).answer (is_settled_told (got g id).queue)

abbrev pub is_cancelled_in : Groups → ℕ → Told
is_cancelled_in g id = told_by (got g id).answer (is_cancelled_told (got g id).queue)

abbrev pub has_failed_in : Groups → ℕ → Told
has_failed_in g id = told_by (got g id).answer (has_failed_told (got g id).queue)

abbrev pub can_retry_in : Groups → ℕ → Told
can_retry_in g id = told_by (got g id).answer (can_retry_told (got g id).queue)

abbrev pub can_finish_in : Groups → ℕ → List ℕ → Told
can_finish_in g id target = told_by (got g id).answer (can_finish_told (got g id).queue target)

abbrev pub domain_by : Got → DomainTold → DomainTold
domain_by (Err refusal) told = Err refusal
domain_by (Ok tt) told = told

abbrev pub domain_in : Groups → ℕ → DomainTold
domain_in g id = domain_by (got g id).answer (domain_told (got g id).queue)

abbrev pub negation : Told → Told
negation (Ok told) = Ok (not told)
negation (Err refusal) = Err refusal

-- R122: upstream's accepts_acquisition, the stage is not cancelled
abbrev pub accepts_in : Groups → ℕ → Told
accepts_in g id = negation (is_cancelled_in g id)
