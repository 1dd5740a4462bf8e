-- What the groups' answers say, number and values: id, count, yes or no, domain, or no value; a refusal a number alone, never 0
use Prim.Native.Nat.{ℕ, ◌+◌, ◌<◌, ◌≤◌}
use mathlib.Core.Path.{◌≡◌, refl, ap, ◌∙◌}
use mathlib.Core.Bool.{Bool, true, false, not}
use mathlib.Core.List.{List, [], ◌∷◌}
use native.Mathlib.Omega.{arith}
use lib.ListN.{length}
use Rattle.choice.specs.Choice.{when◌then◌else◌}
use Rattle.choice.proofs.Ways.{miss}
use Rattle.queue_record.specs.declared.refusal.Refusal.{Refusal}
use Rattle.queue_record.specs.declared.refusal.Refusal.TheVariants.{Broken}
use Rattle.queue_record.specs.Refusals.{done, refusal_number}
use Rattle.queue_record.proofs.Above.{refusal_above}
use Rattle.queue_questions.specs.Questions.{yes_or_no}
use Rattle.cleanup_queue.specs.Answers.{says, opened_says, told_says, domain_says}
use Rattle.group_record.specs.declared.record.Groups.{Groups}
use Rattle.group_check.specs.WellFormed.{last_base, well_grouped}
use Rattle.group_check.specs.Count.{live_count}
use Rattle.group_check.specs.Ids.{got}
use Rattle.group_survey.specs.Whole.{told_of, retries_all, len_of}
use Rattle.group_questions.specs.ById.{domain_in}
use Rattle.group_openings.specs.Openings.{new_of, added_scope, added_iterator}
use Rattle.group_endings.specs.Endings.{removed, sealed_in}
use Rattle.group_rounds.specs.Rounds.{all_retried, round_done, retried_all}
use Rattle.cleanup_groups.specs.Answers.{added_says, closed_says, len_says, got_says}
use Rattle.cleanup_groups.specs.Promises.{LiveAt, id_at, Numbered}
use Rattle.cleanup_groups.proofs.ByCase.{scope_by, iterator_by}
use Rattle.cleanup_groups.proofs.Live.{domain_as}
use Rattle.cleanup_groups.proofs.Upstream.{new_root}
use Rattle.std.specs.Prelude.{Ok, Err}
use Rattle.group_record.specs.declared.answered.GroupsAnswered.{GroupsAnswered}
use Rattle.group_openings.specs.Types.{Added}
use Rattle.queue_questions.specs.Types.{Told}

-- ---- done: 0, and the values
yes_says : (b : Bool) → told_says (yes_or_no b) ≡ says done ((when b then 1 else 0) ∷ [])
yes_says true = refl
yes_says false = refl

pub new_says : (base : ℕ) → base ≤ last_base → opened_says (new_of base).answer ≡ says done []
new_says base h = ap opened_says (new_root base h).0

module _ (g : Groups) where
  -- an opening says the id that was next
  pub scope_says : (n : ℕ) → (added_scope g).answer ≡ Ok n → added_says (added_scope g).answer ≡ says done (g.next ∷ [])
  scope_says n =
      scope_by (λ (r : GroupsAnswered Added). r.answer ≡ Ok n → added_says r.answer ≡ says done (g.next ∷ [])) g
      (λ _ h. let z : ◌≡◌ {A = ℕ} 0 1 = cc in absurd (omega arith)) (λ _ _ _ _. refl)

  pub iterator_says : (bindings : List ℕ) (n : ℕ) → (added_iterator g bindings).answer ≡ Ok n → added_says (added_iterator g bindings).answer ≡ says done (g.next ∷ [])
  iterator_says bindings n =
      iterator_by (λ (r : GroupsAnswered Added). r.answer ≡ Ok n → added_says r.answer ≡ says done (g.next ∷ [])) g
      (λ _ h. let z : ◌≡◌ {A = ℕ} 0 1 = cc in absurd (omega arith)) bindings (λ _ _ _ _ _. refl)

  -- len says how many are live
  pub len_says_lem : well_grouped g ≡ true → len_says (len_of g) ≡ says done (live_count g.places ∷ [])
  len_says_lem w = ap len_says (miss (Err Broken) (ap not w))

  -- a question to the whole record: 1 is yes, 0 is no
  pub whole_says : (b : Bool) → well_grouped g ≡ true → told_says (told_of g b) ≡ says done ((when b then 1 else 0) ∷ [])
  whole_says b w = ap told_says (miss (Err Broken) (ap not w)) ∙ yes_says b

  pub retry_all_says : well_grouped g ≡ true → told_says (retried_all g).answer ≡ says done ((when retries_all g then 1 else 0) ∷ [])
  unfolding retried_all
  retry_all_says w = ap (λ (r : GroupsAnswered Told). told_says r.answer) (miss (round_done (Err Broken) g) (ap not w)) ∙ go (retries_all g)
    where
      go : (b : Bool) → told_says (when not b then round_done (Ok false) g else round_done (Ok true) (all_retried g)).answer ≡ says done ((when b then 1 else 0) ∷ [])
      go true = refl
      go false = refl

  -- get has its queue beside the answer; close and seal have no value
  pub get_says : (id : ℕ) → (got g id).answer ≡ Ok tt → got_says (got g id).answer ≡ says done []
  get_says id h = ap got_says h

  pub close_says : (id : ℕ) → (removed g id).answer ≡ Ok tt → closed_says (removed g id).answer ≡ says done []
  close_says id h = ap closed_says h

  pub seal_says : (sealed_in g).answer ≡ Ok tt → closed_says (sealed_in g).answer ≡ says done []
  seal_says h = ap closed_says h

-- a live group's domain is base plus id
pub domain_says_lem : (g : Groups) (id i : ℕ) → length g.places ≡ 16 → well_grouped g ≡ true → i < 16 → LiveAt g i → id_at g i ≡ id → domain_says (domain_in g id) ≡ says done ((g.base + id) ∷ [])
domain_says_lem g id i l w k a e = ap domain_says (domain_as g id i l w k a e)

-- ---- refused: a number and no value
pub refusals_say : (r : Refusal) → (added_says (Err r) ≡ says (refusal_number r) []) × (closed_says (Err r) ≡ says (refusal_number r) [])
    × (len_says (Err r) ≡ says (refusal_number r) []) × (got_says (Err r) ≡ says (refusal_number r) [])
refusals_say r = (refl, refl, refl, refl)

-- ---- and the number is not 0, which would say done
-- whatever the answer is
pub numbered : {A : Type 0} (refused : Refusal → A) (answer : A) → Numbered refused answer
numbered refused answer r e = refusal_above r

pub new_numbered : (base : ℕ) → Numbered Err (new_of base).answer
new_numbered base = numbered Err (new_of base).answer

module _ (g : Groups) where
  pub scope_numbered : Numbered Err (added_scope g).answer
  scope_numbered = numbered Err (added_scope g).answer

  pub iterator_numbered : (bindings : List ℕ) → Numbered Err (added_iterator g bindings).answer
  iterator_numbered bindings = numbered Err (added_iterator g bindings).answer

  pub close_numbered : (id : ℕ) → Numbered Err (removed g id).answer
  close_numbered id = numbered Err (removed g id).answer

  pub seal_numbered : Numbered Err (sealed_in g).answer
  seal_numbered = numbered Err (sealed_in g).answer

  pub get_numbered : (id : ℕ) → Numbered Err (got g id).answer
  get_numbered id = numbered Err (got g id).answer

  pub len_numbered : Numbered Err (len_of g)
  len_numbered = numbered Err (len_of g)

  -- every yes-or-no call of the whole record is a told_of
  pub whole_numbered : (b : Bool) → Numbered Err (told_of g b)
  whole_numbered b = numbered Err (told_of g b)

  pub retry_all_numbered : Numbered Err (retried_all g).answer
  retry_all_numbered = numbered Err (retried_all g).answer
