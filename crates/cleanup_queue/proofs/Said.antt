-- What each call says, number and values: the first refusal that is due with what it gives back, or 0 with the call's own values; a refusal's number is never 0
use Prim.Native.Nat.{ℕ}
use mathlib.Core.Path.{◌≡◌, refl, sym, ap, ◌∙◌}
use mathlib.Core.Bool.{Bool, true, false, not, ◌&&◌}
use mathlib.Core.List.{List, [], ◌∷◌}
use native.Mathlib.Omega.{arith}
use lib.Dec.{eqb, leb, ltb}
use lib.ListN.{length}
use Rattle.choice.specs.Choice.{when◌then◌else◌, bit}
use Rattle.stage.specs.Phases.{is_pending, is_settled, is_cancelled}
use Rattle.choice.proofs.Ways.{hit, miss, if_by}
use Rattle.queue_record.specs.declared.refusal.Refusal.{Refusal}
use Rattle.queue_record.specs.Refusals.{refusal_number}
use Rattle.queue_record.specs.declared.refusal.Refusal.TheVariants.{Broken, NoAttempt, NoRetry, Hollow, NothingKept, NoFurtherAttempt}
use Rattle.queue_record.specs.WellFormed.{well_formed}
use Rattle.queue_record.specs.Waiting.{waiting}
use Rattle.queue_record.specs.Newest.{newest, is_there}
use Rattle.queue_record.specs.Openings.{Opening, heading_of, opening_of, blank, scope_opened, iterator_opened, opened_by, opened_as}
use Rattle.queue_record.proofs.Fit.{free_no_marks}
use Rattle.queue_record.specs.declared.record.Kind.{Kind}
use Rattle.queue_record.specs.declared.record.Kind.TheVariants.{Scope, Iterator}
use Rattle.queue_record.specs.declared.record.Ticket.{Ticket}
use Rattle.queue_record.specs.declared.record.Queue.{Queue}
use Rattle.queue_births.specs.Births.{grown, born_by, registered, landed_to, landed}
use Rattle.queue_decisions.specs.Births.{register_refusal, land_refusal}
use Rattle.queue_decisions.specs.Pops.{pop_due}
use Rattle.queue_decisions.specs.Renewals.{renewed_unless, due_again, retry_due}
use Rattle.queue_decisions.specs.Slots.{no_more}
use Rattle.queue_decisions.specs.Answers.{is_out, keeps_on_done, complete_refusal}
use Rattle.queue_steps.specs.Attempts.{slot, popped_as, popped, completed_by, completed, retry_allowed, refused_retry, renewed, due_again_in, retried_as, retried}
use Rattle.queue_questions.specs.Questions.{yes_or_no, asked, nothing_left, finishable, committed, is_empty_told, is_issued_told, is_pending_told}
use Rattle.queue_questions.specs.Questions.{is_settled_told, is_cancelled_told, has_failed_told, can_retry_told, can_finish_told, domain_told}
use Rattle.queue_stages.specs.Stages.{after_admit, admitted, ended, cancelled_by}
use Rattle.cleanup_queue.specs.Answers.{Said, says, opened_says, registered_says, popped_says, completed_says, retried_says, told_says, cancelled_says, domain_says}
use Rattle.cleanup_queue.specs.Orders.{Ground, due, first_said, RefusedAs, opening_order, register_order, land_order, fresh_token, chosen_token, is_hollow}
use Rattle.cleanup_queue.specs.Orders.{pop_order, fresh_values, work_values, complete_order, kept_in, retry_order, renewed_values, broken_only, Tells}
use Rattle.queue_record.proofs.Above.{refusal_above}
use Rattle.cleanup_queue.proofs.ByCase.{all_occupied, fresh_in, unmarked_in}
use Rattle.cleanup_queue.proofs.ByCase.{register_by, land_by, pop_by, complete_by, retry_by}
use Rattle.cleanup_queue.proofs.Upstream.{admit_answers, end_answers}
use Rattle.std.specs.Prelude.{Option, Some, None, Ok, Err}
use Rattle.queue_record.specs.declared.answered.Answered.{Answered}
use Rattle.queue_births.specs.Types.{Registered}
use Rattle.queue_decisions.specs.Types.{Due, Renewal}
use Rattle.queue_questions.specs.Types.{Told}
use Rattle.queue_record.specs.Types.{Opened}
use Rattle.queue_stages.specs.Types.{Cancelled}
use Rattle.queue_steps.specs.Types.{Completed, Popped, Retried}

-- one test more in front: what it refuses with is said exactly if it holds
pub due_if : {A B : Type 0} (said : A → B) (b : Bool) (x y : A) {k m : B} → said x ≡ k → said y ≡ m → said (when b then x else y) ≡ (when b then k else m)
due_if said true x y p q = p
due_if said false x y p q = q

-- ---- the openings
opening_by_lem : (P : Opening → Answered Opened → Type 0) → ((d f : ℕ) (bs : List ℕ) → P (opening_of (heading_of Scope d f) bs) (scope_opened d f))
    → ((d f : ℕ) (bs : List ℕ) → P (opening_of (heading_of Iterator d f) bs) (iterator_opened d f bs)) → (o : Opening) → P o (opened_as o)
opening_by_lem P scope iterator o = go o.heading.kind o.heading.domain o.heading.first o.bindings
  where
    go : (k : Kind) (d f : ℕ) (bs : List ℕ) → P (opening_of (heading_of k d f) bs) (opened_by k d f bs)
    go Scope d f bs = scope d f bs
    go Iterator d f bs = iterator d f bs

pub opening_said : (o : Opening) → opened_says (opened_as o).answer ≡ first_said (opening_order o) [] []
unfolding iterator_opened
opening_said =
    opening_by_lem (λ (o : Opening) (x : Answered Opened). opened_says x.answer ≡ first_said (opening_order o) [] []) (λ _ _ _. refl)
    (λ d f bs. due_if (λ (r : Answered Opened). opened_says r.answer) (ltb 16 (length bs)) _ _ refl refl)

pub opening_refused : (o : Opening) → RefusedAs blank [] (opened_says (opened_as o).answer) (opened_as o).queue
unfolding iterator_opened
opening_refused =
    opening_by_lem (λ (_ : Opening) (x : Answered Opened). RefusedAs blank [] (opened_says x.answer) x.queue) (λ _ _ _ n. absurd (n refl))
    (λ d f bs. if_by (λ (r : Answered Opened). RefusedAs blank [] (opened_says r.answer) r.queue) (ltb 16 (length bs)) _ _ (λ _ _. (refl, refl)) (λ _ n. absurd (n refl)))

pub opening_no_zero : (o : Opening) (r : Refusal) → (opened_as o).answer ≡ Err r → refusal_number r ≡ 0 → ⊥
opening_no_zero o r e = refusal_above r

-- ---- register and land
module _ (q : Queue) (n : ℕ) where
  abbrev birth : Answered Registered → Said
  birth r = registered_says r.answer

  abbrev GivenBack : Answered Registered → Type 0
  GivenBack r = RefusedAs q (n ∷ []) (birth r) r.queue

  pub register_said : registered_says (registered q n).answer ≡ first_said (register_order q n) (n ∷ []) (q.count ∷ [])
  unfolding registered register_refusal
  register_said =
      let by : Option Refusal → Said = λ r. birth (born_by q n (grown q n) r) in
      due_if birth (not (well_formed q)) _ _ refl (due_if by (eqb n 0) _ _ refl (due_if by (leb 64 q.count) _ _ refl refl))

  pub register_refused : RefusedAs q (n ∷ []) (registered_says (registered q n).answer) (registered q n).queue
  register_refused = register_by GivenBack q n (λ _ _. (refl, refl)) (λ _ _ _ z. absurd (z refl))

  pub register_no_zero : (r : Refusal) (given : ℕ) → (registered q n).answer ≡ Err (r, given) → refusal_number r ≡ 0 → ⊥
  register_no_zero r given e = refusal_above r

  pub land_said : registered_says (landed q n).answer ≡ first_said (land_order q n) (n ∷ []) (q.count ∷ [])
  unfolding landed land_refusal
  land_said =
      let by : Option Refusal → Said = λ r. birth (born_by q n (landed_to q n) r) in
      due_if birth (not (well_formed q)) _ _ refl (due_if by (eqb n 0) _ _ refl (due_if by (not (is_pending q.phase)) _ _ refl (due_if by (leb 64 q.count) _ _ refl refl)))

  pub land_refused : RefusedAs q (n ∷ []) (registered_says (landed q n).answer) (landed q n).queue
  land_refused = land_by GivenBack q n (λ _ _. (refl, refl)) (λ _ _ _ _ z. absurd (z refl))

  pub land_no_zero : (r : Refusal) (given : ℕ) → (landed q n).answer ≡ Err (r, given) → refusal_number r ≡ 0 → ⊥
  land_no_zero r given e = refusal_above r

-- ---- pop
module _ (q : Queue) where
  abbrev taken : Answered Popped → Said
  taken r = popped_says r.answer

  -- and of what is due
  abbrev taken_as : Due → Said
  taken_as d = taken (popped_as q d)

  fresh_said : (f : Option ℕ) → taken_as (fresh_in q f) ≡ first_said (due Hollow (is_hollow q f) ∷ due NoAttempt (is_there f && leb no_more q.next) ∷ []) [] (fresh_values q f)
  fresh_said None = refl
  fresh_said (Some k) = due_if taken_as (eqb (slot q k) 0) _ _ refl (due_if taken_as (leb no_more q.next) _ _ refl refl)

  by_said : (s : Option Ticket) → q.selection ≡ s
      → taken_as (unmarked_in q s)
      ≡ first_said (due Hollow (is_hollow q (chosen_token false false s (waiting q)))
      ∷ due NoAttempt (is_there (fresh_token false false s (waiting q)) && leb no_more q.next) ∷ []) [] (work_values q false false s)
  by_said None e = ap (λ (ks : List ℕ). taken_as (fresh_in q (newest ks))) (sym (all_occupied q e)) ∙ fresh_said (newest (waiting q))
  by_said (Some t) e = due_if taken_as (eqb (slot q t.token) 0) _ _ refl refl

  -- while something is issued or failed nothing is due
  idle_said : (i f : Bool) → taken_as (when i then Ok None else when f then Ok None else unmarked_in q q.selection)
      ≡ first_said (due Hollow (is_hollow q (chosen_token i f q.selection (waiting q)))
      ∷ due NoAttempt (is_there (fresh_token i f q.selection (waiting q)) && leb no_more q.next) ∷ []) [] (work_values q i f q.selection)
  idle_said true f = refl
  idle_said false true = refl
  idle_said false false = by_said q.selection refl

  pub pop_said_lem : popped_says (popped q).answer ≡ first_said (pop_order q) [] (work_values q q.issued q.failed q.selection)
  unfolding popped pop_due
  pop_said_lem = due_if taken (not (well_formed q)) _ _ refl (idle_said q.issued q.failed)

  pub pop_refused : RefusedAs q [] (popped_says (popped q).answer) (popped q).queue
  pop_refused =
      pop_by (λ (r : Answered Popped). RefusedAs q [] (popped_says r.answer) r.queue) q (λ _ _ _. (refl, refl))
      (λ z. absurd (z refl)) (λ _ _ _ _ _ _ z. absurd (z refl)) (λ _ _ _ _ z. absurd (z refl))

  pub pop_no_zero : (r : Refusal) → (popped q).answer ≡ Err r → refusal_number r ≡ 0 → ⊥
  pop_no_zero r e = refusal_above r

-- ---- complete
module _ (q : Queue) (t : Ticket) (outcome kept : ℕ) where
  abbrev taking : Answered Completed → Said
  taking r = completed_says r.answer

  pub complete_said_lem : completed_says (completed q t outcome kept).answer ≡ first_said (complete_order q t outcome kept) (kept ∷ []) []
  unfolding completed complete_refusal
  complete_said_lem =
      let by : Option Refusal → Said = λ r. taking (completed_by q t outcome kept r) in
      due_if taking (not (well_formed q)) _ _ refl
      (due_if by (ltb 1 outcome) _ _ refl (due_if by (not (is_out q.issued q.selection t)) _ _ refl (due_if by (keeps_on_done outcome kept) _ _ refl refl)))

  pub complete_refused : RefusedAs q (kept ∷ []) (completed_says (completed q t outcome kept).answer) (completed q t outcome kept).queue
  complete_refused = complete_by (λ (r : Answered Completed). RefusedAs q (kept ∷ []) (completed_says r.answer) r.queue) q t outcome kept (λ _ _. (refl, refl)) (λ _ _ _ z. absurd (z refl))

  pub complete_no_zero : (r : Refusal) (given : ℕ) → (completed q t outcome kept).answer ≡ Err (r, given) → refusal_number r ≡ 0 → ⊥
  complete_no_zero r given e = refusal_above r

-- ---- retry
module _ (q : Queue) where
  pub retry_said_lem : retried_says (retried q).answer ≡ first_said (retry_order q) [] (renewed_values q q.selection)
  unfolding retried retry_due
  retry_said_lem = by_check (well_formed q) refl
    where
      renewing : Answered Retried → Said
      renewing r = retried_says r.answer

      by : Renewal → Said
      by r = renewing (retried_as q r)

      causes : (failed empty over : Bool) → List Ground
      causes failed empty over = due NoRetry (not failed) ∷ due NothingKept empty ∷ due NoFurtherAttempt over ∷ []

      -- each of the three where it is met, and the ticket where none is
      in_order : (t : Ticket) (failed empty over : Bool)
          → by (renewed_unless (when not failed then Some NoRetry else when empty then Some NothingKept else when over then Some NoFurtherAttempt else None) (renewed q t))
          ≡ first_said (causes failed empty over) [] (renewed_values q (Some t))
      in_order t false empty over = refl
      in_order t true true over = refl
      in_order t true false true = refl
      in_order t true false false = refl

      by_own_lem : well_formed q ≡ true → (s : Option Ticket) → q.selection ≡ s
          → by (due_again q.failed q.slots q.next s) ≡ first_said (causes q.failed (eqb (kept_in q s) 0) (leb no_more q.next)) [] (renewed_values q s)
      by_own_lem w None e = sym (hit _ (ap not (free_no_marks q w e).0))
      by_own_lem w (Some t) e = in_order t q.failed (eqb (slot q t.token) 0) (leb no_more q.next)

      by_check : (sound : Bool) → well_formed q ≡ sound → renewing (when not sound then refused_retry q Broken else retried_as q (due_again_in q))
          ≡ first_said (due Broken (not sound) ∷ causes q.failed (eqb (kept_in q q.selection) 0) (leb no_more q.next)) [] (renewed_values q q.selection)
      by_check true w = by_own_lem w q.selection refl
      by_check false w = refl

  pub retry_refused : RefusedAs q [] (retried_says (retried q).answer) (retried q).queue
  retry_refused = retry_by (λ (r : Answered Retried). RefusedAs q [] (retried_says r.answer) r.queue) q (λ _ _. (refl, refl)) (λ _ _ _ _ z. absurd (z refl))

  pub retry_no_zero : (r : Refusal) → (retried q).answer ≡ Err r → refusal_number r ≡ 0 → ⊥
  retry_no_zero r e = refusal_above r

-- ---- the calls that refuse only with 1
-- a yes or a no is no refusal, and its value is 1 or 0
pub told_said_lem : (b : Bool) → told_says (yes_or_no b) ≡ says 0 (bit b ∷ [])
told_said_lem true = refl
told_said_lem false = refl

pub never_refused : {A : Type 0} (b : Bool) (n : Refusal) → yes_or_no b ≡ Err n → A
never_refused true n e = let z : ◌≡◌ {A = ℕ} 0 1 = cc in absurd (omega arith)
never_refused false n e = let z : ◌≡◌ {A = ℕ} 0 1 = cc in absurd (omega arith)

module _ (q : Queue) where
  pub asked_said : (b : Bool) → Tells q b (asked q b)
  asked_said b = due_if told_says (not (well_formed q)) _ _ refl (told_said_lem b)

  pub asked_no_zero : (b : Bool) (r : Refusal) → asked q b ≡ Err r → refusal_number r ≡ 0 → ⊥
  asked_no_zero b r e = refusal_above r

  -- what each of the eight questions says
  pub questions_said : (target : List ℕ)
      → Tells q (nothing_left q.selection (waiting q)) (is_empty_told q) × Tells q q.issued (is_issued_told q)
      × Tells q (is_pending q.phase) (is_pending_told q) × Tells q (is_settled q.phase) (is_settled_told q)
      × Tells q (is_cancelled q.phase) (is_cancelled_told q) × Tells q q.failed (has_failed_told q)
      × Tells q (retry_allowed q q.selection) (can_retry_told q) × Tells q (finishable q.selection q.phase target (committed q)) (can_finish_told q target)
  unfolding is_empty_told is_issued_told is_pending_told is_settled_told is_cancelled_told has_failed_told can_retry_told can_finish_told
  questions_said target = (
    asked_said (nothing_left q.selection (waiting q)),
    asked_said q.issued,
    asked_said (is_pending q.phase),
    asked_said (is_settled q.phase),
    asked_said (is_cancelled q.phase),
    asked_said q.failed,
    asked_said (retry_allowed q q.selection),
    asked_said (finishable q.selection q.phase target (committed q)),
  )

  -- whether the stage is pending afterwards
  pub admit_said : (matched : Bool) → Tells q (is_pending (admitted q matched).queue.phase) (admitted q matched).answer
  admit_said matched = ap told_says (admit_answers q matched) ∙ asked_said (is_pending (admitted q matched).queue.phase)

  -- whether it was pending before
  pub end_said : Tells q (is_pending q.phase) (ended q).answer
  end_said = ap told_says (end_answers q) ∙ asked_said (is_pending q.phase)

  pub cancel_said_lem : cancelled_says (cancelled_by q).answer ≡ first_said (broken_only q) [] []
  unfolding cancelled_by
  cancel_said_lem = due_if (λ (r : Answered Cancelled). cancelled_says r.answer) (not (well_formed q)) _ _ refl refl

  pub domain_said_lem : domain_says (domain_told q) ≡ first_said (broken_only q) [] (q.domain ∷ [])
  unfolding domain_told
  domain_said_lem = due_if domain_says (not (well_formed q)) _ _ refl refl

  -- of a well-formed record domain gives the domain
  pub domain_values : well_formed q ≡ true → (domain_says (domain_told q)).values ≡ q.domain ∷ []
  domain_values w = ap (λ (s : Said). s.values) (domain_said_lem ∙ miss _ (ap not w))

  -- ---- their refusals
  yes_or_no_lem : (b : Bool) {A : Type 0} → ((told_says (yes_or_no b)).number ≡ 0 → ⊥) → A
  yes_or_no_lem b z = absurd (z (ap (λ (s : Said). s.number) (told_said_lem b)))

  pub admit_refused : (matched : Bool) → RefusedAs q [] (told_says (admitted q matched).answer) (admitted q matched).queue
  unfolding admitted
  admit_refused matched =
      if_by (λ (r : Answered Told). RefusedAs q [] (told_says r.answer) r.queue) (not (well_formed q)) _ _
      (λ _ _. (refl, refl)) (λ _ z. yes_or_no_lem (is_pending (after_admit q.phase matched)) z)

  pub end_refused : RefusedAs q [] (told_says (ended q).answer) (ended q).queue
  unfolding ended
  end_refused = if_by (λ (r : Answered Told). RefusedAs q [] (told_says r.answer) r.queue) (not (well_formed q)) _ _ (λ _ _. (refl, refl)) (λ _ z. yes_or_no_lem (is_pending q.phase) z)

  pub cancel_refused : RefusedAs q [] (cancelled_says (cancelled_by q).answer) (cancelled_by q).queue
  unfolding cancelled_by
  cancel_refused = if_by (λ (r : Answered Cancelled). RefusedAs q [] (cancelled_says r.answer) r.queue) (not (well_formed q)) _ _ (λ _ _. (refl, refl)) (λ _ z. absurd (z refl))

  pub admit_no_zero : (matched : Bool) (r : Refusal) → (admitted q matched).answer ≡ Err r → refusal_number r ≡ 0 → ⊥
  admit_no_zero matched r e = refusal_above r

  pub end_no_zero : (r : Refusal) → (ended q).answer ≡ Err r → refusal_number r ≡ 0 → ⊥
  end_no_zero r e = refusal_above r

  pub cancel_no_zero : (r : Refusal) → (cancelled_by q).answer ≡ Err r → refusal_number r ≡ 0 → ⊥
  cancel_no_zero r e = refusal_above r

  pub domain_no_zero : (r : Refusal) → domain_told q ≡ Err r → refusal_number r ≡ 0 → ⊥
  domain_no_zero r e = refusal_above r
