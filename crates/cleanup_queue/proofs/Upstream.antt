-- What each call asks, changes and leaves, part by part: upstream's clauses, whose ids are the rows of docs/CONTRACTS.md, and what these leave open
use Prim.Native.Nat.{ℕ, zero, suc, ◌+◌, ◌<◌, ◌≤◌}
use mathlib.Core.Path.{◌≡◌, refl, sym, ap, ◌∙◌}
use mathlib.Core.Logic.{◌⊎◌, inl, inr, ⊎_elim, ◌↔◌}
use mathlib.Core.Bool.{Bool, true, false, not, ◌&&◌, ◌||◌}
use mathlib.Core.List.{List, [], ◌∷◌, ◌++◌}
use native.Mathlib.Omega.{arith}
use native.Mathlib.Numerals.{add-one}
use borrow.Author.Tests.{eq-eqb, ne_eqb, le-ltb, lt-leb, eqb-true, eqb-false, not-false}
use lib.Dec.{eqb, ltb}
use lib.ListN.{length, get_or, set, take}
use lib.Seq.{take-suc-set, take-append_seam}
use Rattle.choice.specs.Choice.{when◌then◌else◌}
use Rattle.stage.specs.Bindings.{member}
use Rattle.stage.specs.Phases.{phase_after, is_pending, is_settled, is_cancelled}
use Rattle.stage.specs.declared.phases.Phase.{Phase}
use Rattle.stage.specs.declared.phases.Phase.TheVariants.{Idle, Pending, Ended, Stopping, Closed}
use Rattle.stage.specs.declared.phases.Event.TheVariants.{Land, End, Cancel}
use Rattle.choice.proofs.Ways.{hit, miss, pass, stop, either, other, and_left, clash, if_by}
use Rattle.queue_record.specs.declared.refusal.Refusal.TheVariants.{NotOut}
use Rattle.queue_record.specs.Record.{Sized}
use Rattle.queue_record.specs.WellFormed.{all_zero, well_formed}
use Rattle.queue_record.specs.Waiting.{occupied, without, others, waiting}
use Rattle.queue_record.specs.Openings.{scope_of, iterator_of, blank, iterator_opened}
use Rattle.queue_record.specs.declared.record.Ticket.{Ticket}
use Rattle.queue_record.specs.declared.record.Queue.{Queue}
use Rattle.queue_record.proofs.Zeros.{full_below}
use Rattle.queue_record.proofs.Fit.{fit, free_no_marks, issued_not_failed, failed_not_issued, issued_empty_lem}
use Rattle.queue_record.proofs.Waiting.{by_first, none_occupied}
use Rattle.queue_births.specs.Births.{grown, born_by, registered, landed_to, landed}
use Rattle.queue_decisions.specs.Births.{register_refusal, land_refusal}
use Rattle.queue_decisions.specs.Renewals.{retry_due}
use Rattle.queue_decisions.proofs.RenewalLaws.{due_own}
use Rattle.queue_decisions.specs.Answers.{same_ticket, selects, is_out, keeps_on_done, complete_refusal}
use Rattle.queue_steps.specs.Attempts.{slot, issued_to, fresh_ticket, popped, refused_complete, completed_by, completed, retry_allowed, renewed, retried_as, retried}
use Rattle.queue_decisions.proofs.AnswerLaws.{same_self}
use Rattle.queue_questions.specs.Questions.{yes_or_no, asked, committed, nothing_left, is_empty_told, can_retry_told, can_finish_told}
use Rattle.queue_stages.specs.Stages.{refused_stage, after_admit, admitted_by, admitted, ended, cancelled_by}
use Rattle.cleanup_queue.specs.Parts.{Fresh, SameOpening, LeavesSelected, Pushes, TakesNext, TakesBack, StaysButPhase}
use Rattle.cleanup_queue.specs.Runs.{Call, register, land, pop, complete, retry, admit, end, cancel, after, Rising}
use Rattle.cleanup_queue.proofs.ByCase.{register_by, land_by, Popping, pop_by, work_parts, complete_by, retry_by}
use Rattle.cleanup_queue.proofs.Rises.{From, empty, later, lower, from_rising}
use Rattle.cleanup_queue.proofs.Finish.{asked_yes, yes_asked, finish_means_lem}
use Rattle.std.specs.Prelude.{Option, Some, None, Ok}
use Rattle.queue_record.specs.declared.answered.Answered.{Answered}
use Rattle.queue_births.specs.Types.{Registered}
use Rattle.queue_questions.specs.Types.{Told}
use Rattle.queue_record.specs.Types.{Opened}
use Rattle.queue_stages.specs.Types.{Cancelled}
use Rattle.queue_steps.specs.Types.{Completed, Popped, Retried}

-- ---- local_wf: what well formed says of the waiting tokens
occupied_from : (k : ℕ) (xs : List ℕ) → From k (occupied k xs)
occupied_from k [] = empty k
occupied_from k (x ∷ xs) =
    by_first (From k) k x xs (λ _. lower k (suc k) (occupied (suc k) xs) (omega arith) (occupied_from (suc k) xs)) (λ _. later k k (occupied (suc k) xs) (omega arith) (occupied_from (suc k) xs))

without_from : (t b : ℕ) (ks : List ℕ) → From b ks → From b (without t ks)
without_from t b ks (empty _) = empty b
without_from t b ks (later _ a rest h r) =
    if_by (From b) (eqb a t) (without t rest) (a ∷ without t rest) (λ _. lower b (suc a) (without t rest) (omega arith) (without_from t (suc a) rest r))
    (λ _. later b a (without t rest) h (without_from t (suc a) rest r))

-- No token waits twice: the waiting tokens rise (Q9 b).
pub waiting_rises_lem : (q : Queue) → Rising (waiting q)
waiting_rises_lem q = from_rising 0 (waiting q) (go q.selection)
  where
    go : (s : Option Ticket) → From 0 (others s (occupied 0 q.slots))
    go None = occupied_from 0 q.slots
    go (Some t) = without_from t.token 0 (occupied 0 q.slots) (occupied_from 0 q.slots)

member_below : (j k : ℕ) (xs : List ℕ) → j < k → member j (occupied k xs) ≡ false
member_below j k [] h = refl
member_below j k (x ∷ xs) h =
    let rest : member j (occupied (suc k) xs) ≡ false = member_below j (suc k) xs (omega arith) in
    by_first (λ (l : List ℕ). member j l ≡ false) k x xs (λ _. rest) (λ _. other _ (ne_eqb k j (λ e. omega arith)) ∙ rest)

-- a place is among the occupied ones exactly if its number is not 0
occupied_member : (j k i : ℕ) (xs : List ℕ) → j ≡ k + i → member j (occupied k xs) ≡ not (eqb (get_or xs i 0) 0)
occupied_member j k i [] e = refl
occupied_member j k zero (x ∷ xs) e =
    by_first (λ (l : List ℕ). member j l ≡ not (eqb x 0)) k x xs (λ z. member_below j (suc k) xs (omega arith) ∙ sym (ap not z)) (λ z. either _ (eq-eqb k j (omega arith)) ∙ sym (ap not z))
occupied_member j k (suc i) (x ∷ xs) e =
    let rest : member j (occupied (suc k) xs) ≡ not (eqb (get_or xs i 0) 0) = occupied_member j (suc k) i xs (omega arith) in
    by_first (λ (l : List ℕ). member j l ≡ not (eqb (get_or xs i 0) 0)) k x xs (λ _. rest) (λ _. other _ (ne_eqb k j (λ p. omega arith)) ∙ rest)

without_apart : (t : ℕ) (ks : List ℕ) → member t (without t ks) ≡ false
without_apart t [] = refl
without_apart t (k ∷ ks) = go (eqb k t) refl (without_apart t ks)
  where
    go : (b : Bool) → eqb k t ≡ b → member t (without t ks) ≡ false → member t (when b then without t ks else k ∷ without t ks) ≡ false
    go true e rest = rest
    go false e rest = other _ e ∙ rest

without_other : (j t : ℕ) (ks : List ℕ) → (j ≡ t → ⊥) → member j (without t ks) ≡ member j ks
without_other j t [] n = refl
without_other j t (k ∷ ks) n = go (eqb k t) refl (without_other j t ks n)
  where
    go : (b : Bool) → eqb k t ≡ b → member j (without t ks) ≡ member j ks → member j (when b then without t ks else k ∷ without t ks) ≡ (eqb k j || member j ks)
    go true e rest = rest ∙ sym (other _ (ne_eqb k j (λ p. n (sym p ∙ eqb-true k t e))))
    go false e rest = ap (λ (b : Bool). eqb k j || b) rest

-- The selected token does not wait (Q9 d).
pub selected_not_waiting : (q : Queue) (t : Ticket) → q.selection ≡ Some t → member t.token (waiting q) ≡ false
selected_not_waiting q t e = ap (λ (s : Option Ticket). member t.token (others s (occupied 0 q.slots))) e ∙ without_apart t.token (occupied 0 q.slots)

module _ (q : Queue) (k : ℕ) where
  slot_member : member k (occupied 0 q.slots) ≡ not (eqb (slot q k) 0)
  slot_member = occupied_member k 0 k q.slots (omega arith)

  -- A waiting token's slot is occupied (Q9 c).
  pub waiting_occupied : member k (waiting q) ≡ true → slot q k ≡ 0 → ⊥
  waiting_occupied m z = go q.selection m
    where
      hollow : member k (occupied 0 q.slots) ≡ false
      hollow = slot_member ∙ ap not (eq-eqb (slot q k) 0 z)

      go : (s : Option Ticket) → member k (others s (occupied 0 q.slots)) ≡ true → ⊥
      go None h = clash h hollow
      go (Some t) h = by (eqb k t.token) refl
        where
          by : (b : Bool) → eqb k t.token ≡ b → ⊥
          by true e = clash h (ap (λ (j : ℕ). member j (without t.token (occupied 0 q.slots))) (eqb-true k t.token e) ∙ without_apart t.token (occupied 0 q.slots))
          by false e = clash h (without_other k t.token (occupied 0 q.slots) (eqb-false k t.token e) ∙ hollow)

  -- A waiting token is one of the tokens issued (Q9 c).
  pub waiting_born : well_formed q ≡ true → member k (waiting q) ≡ true → k < q.count
  waiting_born h m = full_below q.count q.slots k (fit q h).slots (waiting_occupied m)

  -- An occupied slot's token waits, or it is the selected one and not out (Q9 f).
  pub occupied_waits : well_formed q ≡ true → (slot q k ≡ 0 → ⊥) → (member k (waiting q) ≡ true) ⊎ ((t : Ticket) × (q.selection ≡ Some t) × (t.token ≡ k) × (q.issued ≡ false))
  occupied_waits h full = go q.selection refl
    where
      here : member k (occupied 0 q.slots) ≡ true
      here = slot_member ∙ ap not (ne_eqb (slot q k) 0 full)

      not_out_lem : (t : Ticket) → q.selection ≡ Some t → t.token ≡ k → (b : Bool) → q.issued ≡ b → q.issued ≡ false
      not_out_lem t e s false i = i
      not_out_lem t e s true i = absurd (full (ap (slot q) (sym s) ∙ issued_empty_lem q t h e i))

      go : (s : Option Ticket) → q.selection ≡ s → (member k (others s (occupied 0 q.slots)) ≡ true) ⊎ ((t : Ticket) × (q.selection ≡ Some t) × (t.token ≡ k) × (q.issued ≡ false))
      go None e = inl here
      go (Some t) e = by (eqb k t.token) refl
        where
          by : (b : Bool) → eqb k t.token ≡ b → (member k (without t.token (occupied 0 q.slots)) ≡ true) ⊎ ((t : Ticket) × (q.selection ≡ Some t) × (t.token ≡ k) × (q.issued ≡ false))
          by true s = inr (t, e, sym (eqb-true k t.token s), not_out_lem t e (sym (eqb-true k t.token s)) q.issued refl)
          by false n = inl (without_other k t.token (occupied 0 q.slots) (eqb-false k t.token n) ∙ here)

  -- R11: a token waits exactly if its slot is full and it is not the selected one.
  pub waits_exactly_lem : (member k (waiting q) ≡ true) ↔ ((slot q k ≡ 0 → ⊥) × ((t : Ticket) → q.selection ≡ Some t → t.token ≡ k → ⊥))
  waits_exactly_lem = (λ m. (waiting_occupied m, λ t e s. clash m (ap (λ (j : ℕ). member j (waiting q)) (sym s) ∙ selected_not_waiting q t e)), λ h. go h q.selection refl)
    where
      go : (slot q k ≡ 0 → ⊥) × ((t : Ticket) → q.selection ≡ Some t → t.token ≡ k → ⊥) → (s : Option Ticket) → q.selection ≡ s → member k (others s (occupied 0 q.slots)) ≡ true
      go h None e = slot_member ∙ ap not (ne_eqb (slot q k) 0 h.0)
      go h (Some t) e = without_other k t.token (occupied 0 q.slots) (λ s. h.1 t e (sym s)) ∙ (slot_member ∙ ap not (ne_eqb (slot q k) 0 h.0))

-- ---- the openings
-- nothing selected and every place 0: nothing waits
bare_waits : (q : Queue) → q.selection ≡ None → all_zero q.slots ≡ true → waiting q ≡ []
bare_waits q e z = ap (λ (s : Option Ticket). others s (occupied 0 q.slots)) e ∙ none_occupied 0 q.slots z

module _ (domain first : ℕ) where
  scope_bare : ((scope_of domain first).selection ≡ None) × (all_zero (scope_of domain first).slots ≡ true)
  unfolding scope_of
  scope_bare = (refl, refl)

  scope_waits : waiting (scope_of domain first) ≡ []
  scope_waits = bare_waits (scope_of domain first) scope_bare.0 scope_bare.1

  -- A new scope is fresh, with the domain given (Q74 to Q79).
  pub scope_fresh : Fresh (scope_of domain first) × ((scope_of domain first).domain ≡ domain)
  unfolding scope_of
  scope_fresh = ((refl, refl, refl, scope_waits, refl), refl)

module _ (domain first : ℕ) (bindings : List ℕ) where
  iterator_bare : ((iterator_of domain first bindings).selection ≡ None) × (all_zero (iterator_of domain first bindings).slots ≡ true)
  unfolding iterator_of
  iterator_bare = (refl, refl)

  iterator_waits : waiting (iterator_of domain first bindings) ≡ []
  iterator_waits = bare_waits (iterator_of domain first bindings) iterator_bare.0 iterator_bare.1

  iterator_fresh : Fresh (iterator_of domain first bindings)
  unfolding iterator_of
  iterator_fresh = (refl, refl, refl, iterator_waits, refl)

  blank_fresh : Fresh blank
  unfolding blank
  blank_fresh = (scope_fresh 0 0).0

  -- What an iterator's opening leaves is fresh, refused or not (Q82, Q83, Q85 to Q87).
  pub opening_fresh : Fresh (iterator_opened domain first bindings).queue
  unfolding iterator_opened
  opening_fresh = if_by (λ (r : Answered Opened). Fresh r.queue) (ltb 16 (length bindings)) _ _ (λ _. blank_fresh) (λ _. iterator_fresh)

  -- With at most 16 bindings an iterator has the domain given and the bindings given, in order (Q84, Q88).
  pub opening_as_given : length bindings ≤ 16
      → ((iterator_opened domain first bindings).answer ≡ (Ok tt)) × ((iterator_opened domain first bindings).queue.domain
      ≡ domain) × (committed (iterator_opened domain first bindings).queue ≡ bindings)
  unfolding iterator_opened iterator_of
  opening_as_given l =
      let e = le-ltb 16 (length bindings) l in (
        ap (λ (r : Answered Opened). r.answer) (miss _ e),
        ap (λ (r : Answered Opened). r.queue.domain) (miss _ e),
        ap (λ (r : Answered Opened). committed r.queue) (miss _ e) ∙ take-append_seam bindings _,
      )

-- ---- every call
-- Every call leaves what the opening gave: kind, domain and bindings.
pub call_keeps_opening : (q : Queue) (c : Call) → SameOpening q (after q c)
unfolding admitted ended cancelled_by
call_keeps_opening q (register n) = register_by (λ (r : Answered Registered). SameOpening q r.queue) q n (λ _. (refl, refl, refl, refl)) (λ _ _ _. (refl, refl, refl, refl))
call_keeps_opening q (land n) = land_by (λ (r : Answered Registered). SameOpening q r.queue) q n (λ _. (refl, refl, refl, refl)) (λ _ _ _ _. (refl, refl, refl, refl))
call_keeps_opening q pop =
    pop_by (λ (r : Answered Popped). SameOpening q r.queue) q (λ _ _. (refl, refl, refl, refl)) (refl, refl, refl, refl)
    (λ _ _ _ _ _ _. (refl, refl, refl, refl)) (λ _ _ _ _. (refl, refl, refl, refl))
call_keeps_opening q (complete t o k) =
    complete_by (λ (r : Answered Completed). SameOpening q r.queue) q t o k (λ _. (refl, refl, refl, refl))
    (λ _ _ _. if_by (SameOpening q) (eqb o 0) _ _ (λ _. (refl, refl, refl, refl)) (λ _. (refl, refl, refl, refl)))
call_keeps_opening q retry = retry_by (λ (r : Answered Retried). SameOpening q r.queue) q (λ _. (refl, refl, refl, refl)) (λ _ _ _ _. (refl, refl, refl, refl))
call_keeps_opening q (admit m) = if_by (λ (r : Answered Told). SameOpening q r.queue) (not (well_formed q)) _ _ (λ _. (refl, refl, refl, refl)) (λ _. (refl, refl, refl, refl))
call_keeps_opening q end = if_by (λ (r : Answered Told). SameOpening q r.queue) (not (well_formed q)) _ _ (λ _. (refl, refl, refl, refl)) (λ _. (refl, refl, refl, refl))
call_keeps_opening q cancel = if_by (λ (r : Answered Cancelled). SameOpening q r.queue) (not (well_formed q)) _ _ (λ _. (refl, refl, refl, refl)) (λ _. (refl, refl, refl, refl))

-- So it leaves the domain (Q92, Q122, Q137, Q184, Q219, Q234, Q243, Q254).
pub call_keeps_domain : (q : Queue) (c : Call) → (after q c).domain ≡ q.domain
call_keeps_domain q c = (call_keeps_opening q c).1

-- ---- register and land
land_row : (p : Phase) → is_pending p ≡ true → (is_pending (phase_after p Land) ≡ false) × (is_settled (phase_after p Land) ≡ is_cancelled p)
land_row Idle h = clash h refl
land_row Pending h = (refl, refl)
land_row Ended h = clash h refl
land_row Stopping h = (refl, refl)
land_row Closed h = clash h refl

module _ (q : Queue) (n : ℕ) where
  -- Register leaves the selected ticket, both marks, next and the stage (Q96 to Q98, Q108).
  pub register_leaves : LeavesSelected q (registered q n).queue × ((registered q n).queue.phase ≡ q.phase)
  register_leaves =
      register_by (λ (r : Answered Registered). LeavesSelected q r.queue × (r.queue.phase ≡ q.phase)) q n
      (λ _. ((refl, refl, refl, refl), refl)) (λ _ _ _. ((refl, refl, refl, refl), refl))

  -- Land leaves the selected ticket, both marks and next (Q132, Q133).
  pub land_leaves : LeavesSelected q (landed q n).queue
  land_leaves = land_by (λ (r : Answered Registered). LeavesSelected q r.queue) q n (λ _. (refl, refl, refl, refl)) (λ _ _ _ _. (refl, refl, refl, refl))

  pushed : Sized q → q.count < 64 → take (q.count + 1) (set q.slots q.count n) ≡ take q.count q.slots ++ (n ∷ [])
  pushed s k = let l : length q.slots ≡ 64 = s.slots in rw add-one (take-suc-set q.slots q.count n (omega arith))

  -- Register, where it answers a token, appends the number (Q93, Q94).
  pub register_pushes : Sized q → Pushes q n (registered q n)
  register_pushes s = register_by (Pushes q n) q n (λ m token e. let z : ◌≡◌ {A = ℕ} 0 1 = cc in absurd (omega arith)) (λ w z k token e. (cc, pushed s k, refl, refl))

  -- Land, where it answers a token, appends the number (Q126, Q127).
  pub land_pushes : Sized q → Pushes q n (landed q n)
  land_pushes s = land_by (Pushes q n) q n (λ m token e. let z : ◌≡◌ {A = ℕ} 0 1 = cc in absurd (omega arith)) (λ w z p k token e. (cc, pushed s k, refl, refl))

  -- Register answers a token unless 1, 2 or 3 is due (Q93).
  pub register_succeeds : well_formed q ≡ true → (n ≡ 0 → ⊥) → q.count < 64 → (registered q n).answer ≡ Ok q.count
  unfolding registered register_refusal
  register_succeeds w z k = ap (λ (r : Answered Registered). r.answer) (miss _ (ap not w) ∙ ap (born_by q n (grown q n)) (miss _ (ne_eqb n 0 z) ∙ miss _ (lt-leb 64 q.count k)))

  -- Land on a pending stage answers a token unless 1, 2 or 3 is due (Q123).
  pub land_succeeds : well_formed q ≡ true → (n ≡ 0 → ⊥) → is_pending q.phase ≡ true → q.count < 64 → (landed q n).answer ≡ Ok q.count
  unfolding landed land_refusal
  land_succeeds w z p k = ap (λ (r : Answered Registered). r.answer) (miss _ (ap not w) ∙ ap (born_by q n (landed_to q n)) (miss _ (ne_eqb n 0 z) ∙ (miss _ (ap not p) ∙ miss _ (lt-leb 64 q.count k))))

  -- Land answers a token only where the stage was pending; it is not pending afterwards, and settled exactly if it was cancelled, as the table moves it (Q123, Q129, Q130).
  pub land_moves_lem : (token : ℕ) → (landed q n).answer ≡ Ok token
      → (is_pending q.phase ≡ true) × (is_pending (landed q n).queue.phase ≡ false) × (is_settled (landed q n).queue.phase
      ≡ is_cancelled q.phase) × ((landed q n).queue.phase ≡ phase_after q.phase Land)
  land_moves_lem =
      land_by (λ (r : Answered Registered). (token : ℕ) → r.answer ≡ Ok token → (is_pending q.phase ≡ true) ×
      (is_pending r.queue.phase ≡ false) × (is_settled r.queue.phase ≡ is_cancelled q.phase) × (r.queue.phase ≡ phase_after q.phase Land)) q n
      (λ m token e. let z : ◌≡◌ {A = ℕ} 0 1 = cc in absurd (omega arith))
      (λ w z p k token e. (p, (land_row q.phase p).0, (land_row q.phase p).1, refl))

-- ---- pop
module _ (q : Queue) where
  -- a fact of what is handed out, from the fact of any ticket whose slot is full
  work_by : (P : Ticket → ℕ → Queue → Type 0) → ((t : Ticket) (coming : ℕ) → Popping q → (slot q t.token ≡ 0 → ⊥) → P t (slot q t.token) (issued_to q t coming))
      → (t : Ticket) (number : ℕ) → (popped q).answer ≡ Ok (Some (t, number)) → P t number (popped q).queue
  work_by P f =
      pop_by (λ (r : Answered Popped). (t : Ticket) (number : ℕ) → r.answer ≡ Ok (Some (t, number)) → P t number r.queue) q
      (λ m _ t number e. let z : ◌≡◌ {A = ℕ} 0 1 = cc in absurd (omega arith))
      (λ t number e. let z : ◌≡◌ {A = ℕ} 0 1 = cc in absurd (omega arith))
      (λ p e token n full room t number w. moved (fresh_ticket q token) t (slot q token) number (issued_to q (fresh_ticket q token) (q.next + 1)) w (f (fresh_ticket q token) (q.next + 1) p full))
      (λ p s e full t number w. moved s t (slot q s.token) number (issued_to q s q.next) w (f s q.next p full))
    where
      moved : (a t : Ticket) (m n : ℕ) (p : Queue) → ◌≡◌ {A = Popped} (Ok (Some (a, m))) (Ok (Some (t, n))) → P a m p → P t n p
      moved a t m n p e x = let w = work_parts a t m n e in rw (w.0, w.1) at x

  -- What is handed out was neither out nor failed before (Q143, Q144).
  pub pop_was_idle : (t : Ticket) (number : ℕ) → (popped q).answer ≡ Ok (Some (t, number)) → (q.issued ≡ false) × (q.failed ≡ false)
  pop_was_idle = work_by (λ _ _ _. (q.issued ≡ false) × (q.failed ≡ false)) (λ t coming p full. (p.issued, p.failed))

  -- Its token is one of the tokens issued (Q145).
  pub pop_token_born : (t : Ticket) (number : ℕ) → (popped q).answer ≡ Ok (Some (t, number)) → t.token < q.count
  pop_token_born = work_by (λ t _ _. t.token < q.count) (λ t coming p full. full_below q.count q.slots t.token (fit q p.sound).slots full)

  -- Its slot, and no other, is emptied (Q147).
  pub pop_empties : (t : Ticket) (number : ℕ) → (popped q).answer ≡ Ok (Some (t, number)) → ((popped q).queue.slots ≡ set q.slots t.token 0) × ((popped q).queue.count ≡ q.count)
  pop_empties = work_by (λ t _ p. (p.slots ≡ set q.slots t.token 0) × (p.count ≡ q.count)) (λ t coming p full. (refl, refl))

  -- Pop leaves the stage, the mark failed and the count of tokens.
  pub pop_leaves_lem : ((popped q).queue.phase ≡ q.phase) × ((popped q).queue.failed ≡ q.failed) × ((popped q).queue.count ≡ q.count)
  pop_leaves_lem =
      pop_by (λ (r : Answered Popped). (r.queue.phase ≡ q.phase) × (r.queue.failed ≡ q.failed) × (r.queue.count ≡ q.count)) q
      (λ _ _. (refl, refl, refl)) (refl, refl, refl) (λ _ _ _ _ _ _. (refl, refl, refl)) (λ _ _ _ _. (refl, refl, refl))

  -- Work handed out raises next by exactly 1 for a fresh ticket, and leaves it for a ready one.
  pub pop_next : (t : Ticket) (number : ℕ) → (popped q).answer ≡ Ok (Some (t, number)) → TakesNext q (popped q).queue
  pop_next =
      pop_by (λ (r : Answered Popped). (t : Ticket) (number : ℕ) → r.answer ≡ Ok (Some (t, number)) → TakesNext q r.queue) q
      (λ m _ t number e. let z : ◌≡◌ {A = ℕ} 0 1 = cc in absurd (omega arith))
      (λ t number e. let z : ◌≡◌ {A = ℕ} 0 1 = cc in absurd (omega arith))
      (λ p e token n full room t number w. ((λ _. refl), (λ s f. let z : ◌≡◌ {A = ℕ} 0 1 = cc in absurd (omega arith))))
      (λ p s e full t number w. ((λ f. let z : ◌≡◌ {A = ℕ} 0 1 = cc in absurd (omega arith)), (λ _ _. refl)))

  -- Issued is set, and the ticket handed out is the selected one (Q148, Q149).
  pub pop_issues : (t : Ticket) (number : ℕ) → (popped q).answer ≡ Ok (Some (t, number)) → ((popped q).queue.issued ≡ true) × ((popped q).queue.selection ≡ Some t)
  pop_issues = work_by (λ t _ p. (p.issued ≡ true) × (p.selection ≡ Some t)) (λ t coming p full. (refl, refl))

-- ---- complete
module _ (q : Queue) (t : Ticket) (outcome kept : ℕ) where
  failed_or_none : outcome ≤ 1 → keeps_on_done outcome kept ≡ false → (outcome ≡ 1) ⊎ (kept ≡ 0)
  failed_or_none l k = go (eqb outcome 0) refl k
    where
      go : (b : Bool) → eqb outcome 0 ≡ b → (b && not (eqb kept 0)) ≡ false → (outcome ≡ 1) ⊎ (kept ≡ 0)
      go true e h = inr (eqb-true kept 0 (not-false _ h))
      go false e h = let n : outcome ≡ 0 → ⊥ = eqb-false outcome 0 e in inl (omega arith)

  keeps_nothing : (outcome ≡ 1) ⊎ (kept ≡ 0) → keeps_on_done outcome kept ≡ false
  keeps_nothing = ⊎_elim (λ o. stop _ (ne_eqb outcome 0 (λ z. omega arith))) (λ k. none (eqb outcome 0) (ap not (eq-eqb kept 0 k)))
    where
      none : (b : Bool) → not (eqb kept 0) ≡ false → (b && not (eqb kept 0)) ≡ false
      none true e = e
      none false e = refl

  -- An answer is taken in only if this ticket is out, not failed, and is Failed or keeps nothing (Q71, Q180, Q185).
  pub complete_only_out : (completed q t outcome kept).answer ≡ (Ok tt) → (q.issued ≡ true) × (q.selection ≡ Some t) × (q.failed ≡ false) × (outcome ≤ 1) × ((outcome ≡ 1) ⊎ (kept ≡ 0))
  complete_only_out =
      complete_by (λ (r : Answered Completed). r.answer ≡ (Ok tt) → (q.issued ≡ true) × (q.selection ≡ Some t) × (q.failed ≡ false) × (outcome ≤ 1) × ((outcome ≡ 1) ⊎ (kept ≡ 0))) q t outcome kept
      (λ n e. let z : ◌≡◌ {A = ℕ} 0 1 = cc in absurd (omega arith))
      (λ o l k e. (o.issued, o.selected, issued_not_failed q o.sound o.issued, l, failed_or_none l k))

  -- And then it is (Q71, Q180, Q185).
  pub complete_succeeds : well_formed q ≡ true → q.issued ≡ true → q.selection ≡ Some t → outcome ≤ 1 → (outcome ≡ 1) ⊎ (kept ≡ 0) → (completed q t outcome kept).answer ≡ (Ok tt)
  unfolding completed complete_refusal
  complete_succeeds w i s l k =
      let out : is_out q.issued q.selection t ≡ true = pass _ i ∙ (ap (λ (x : Option Ticket). selects x t) s ∙ same_self t) in
      ap (λ (r : Answered Completed). r.answer) (miss _ (ap not w) ∙ ap (completed_by q t outcome kept) (miss _ (le-ltb 1 outcome l) ∙ (miss _ (ap not out) ∙ miss _ (keeps_nothing k))))

  -- Complete leaves the stage, next and the count of tokens.
  pub complete_leaves_lem : ((completed q t outcome kept).queue.phase ≡ q.phase) × ((completed q t outcome kept).queue.next ≡ q.next) × ((completed q t outcome kept).queue.count ≡ q.count)
  complete_leaves_lem =
      complete_by (λ (r : Answered Completed). Left r.queue) q t outcome kept (λ _. (refl, refl, refl))
      (λ _ _ _. if_by Left (eqb outcome 0) _ _ (λ _. (refl, refl, refl)) (λ _. (refl, refl, refl)))
    where
      Left : Queue → Type 0
      Left p = (p.phase ≡ q.phase) × (p.next ≡ q.next) × (p.count ≡ q.count)

  -- An answer taken in clears issued, fills the slot, and marks and selects as it says (Q188, Q189, Q191, Q192).
  pub complete_takes_back : (completed q t outcome kept).answer ≡ (Ok tt) → TakesBack q t outcome kept (completed q t outcome kept).queue
  complete_takes_back =
      complete_by (λ (r : Answered Completed). r.answer ≡ (Ok tt) → TakesBack q t outcome kept r.queue) q t outcome kept
      (λ n e. let z : ◌≡◌ {A = ℕ} 0 1 = cc in absurd (omega arith))
      (λ o l k _. if_by (TakesBack q t outcome kept) (eqb outcome 0) _ _
      (λ e. let z : outcome ≡ 0 = eqb-true outcome 0 e in
      (refl, refl, refl, issued_not_failed q o.sound o.issued ∙ sym (ne_eqb outcome 1 (λ p. omega arith)), ((λ p. absurd (omega arith)), (λ _. refl))))
      (λ e. let n : outcome ≡ 0 → ⊥ = eqb-false outcome 0 e in (refl, refl, refl, sym (eq-eqb outcome 1 (omega arith)), ((λ _. o.selected), (λ p. absurd (n p))))))

-- A reply to an earlier attempt is refused with 6.
pub late_reply : (q : Queue) (s t : Ticket) (outcome kept : ℕ) → well_formed q ≡ true → q.selection ≡ Some s
    → t.attempt < s.attempt → outcome ≤ 1 → completed q t outcome kept ≡ refused_complete q NotOut kept
unfolding completed complete_refusal
late_reply q s t outcome kept h e l o = miss _ (ap not h) ∙ ap (completed_by q t outcome kept) (miss _ (le-ltb 1 outcome o) ∙ hit _ (ap not (apart q.issued)))
  where
    differ : same_ticket s t ≡ false
    differ = go (eqb s.domain t.domain) (eqb s.token t.token)
      where
        go : (a b : Bool) → (a && (b && eqb s.attempt t.attempt)) ≡ false
        go false b = refl
        go true false = refl
        go true true = ne_eqb s.attempt t.attempt (λ p. omega arith)

    apart : (i : Bool) → is_out i q.selection t ≡ false
    apart false = refl
    apart true = ap (λ (x : Option Ticket). selects x t) e ∙ differ

-- ---- retry
module _ (q : Queue) where
  -- Where can_retry says yes, retry answers a ticket (Q220).
  pub told_retries : can_retry_told q ≡ (Ok true) → (t : Ticket) × ((retried q).answer ≡ Ok t)
  unfolding can_retry_told retried retry_due
  told_retries h = go q.selection refl (asked_yes q (retry_allowed q q.selection) h).1
    where
      go : (s : Option Ticket) → q.selection ≡ s → retry_allowed q s ≡ true → (t : Ticket) × ((retried q).answer ≡ Ok t)
      go None e a = clash a refl
      go (Some s) e a = (
        renewed q s,
        ap (λ (r : Answered Retried). r.answer) (miss _ (ap not (asked_yes q (retry_allowed q q.selection) h).0)
            ∙ ap (retried_as q) (due_own q.failed q.slots q.next q.selection s e (ap (retry_allowed q) e ∙ a))),
      )

  -- Where retry answers a ticket, can_retry says yes (Q220).
  pub retries_told : (t : Ticket) → (retried q).answer ≡ Ok t → can_retry_told q ≡ (Ok true)
  unfolding can_retry_told
  retries_told =
      retry_by (λ (r : Answered Retried). (t : Ticket) → r.answer ≡ Ok t → asked q (retry_allowed q q.selection) ≡ (Ok true)) q
      (λ n t e. let z : ◌≡◌ {A = ℕ} 0 1 = cc in absurd (omega arith))
      (λ w s e a t h. yes_asked q (retry_allowed q q.selection) w ∙ ap yes_or_no (ap (retry_allowed q) e ∙ a))

  -- Retry leaves the slots, the mark issued and the stage (Q221, Q222).
  pub retry_leaves_lem : ((retried q).queue.slots ≡ q.slots) × ((retried q).queue.count ≡ q.count) × ((retried q).queue.issued ≡ q.issued) × ((retried q).queue.phase ≡ q.phase)
  retry_leaves_lem =
      retry_by (λ (r : Answered Retried). (r.queue.slots ≡ q.slots) × (r.queue.count ≡ q.count) × (r.queue.issued ≡ q.issued) × (r.queue.phase ≡ q.phase)) q
      (λ _. (refl, refl, refl, refl)) (λ _ _ _ _. (refl, refl, refl, refl))

  -- A ticket answered raises next by exactly 1.
  pub retry_next : (t : Ticket) → (retried q).answer ≡ Ok t → (retried q).queue.next ≡ q.next + 1
  retry_next = retry_by (λ (r : Answered Retried). (t : Ticket) → r.answer ≡ Ok t → r.queue.next ≡ q.next + 1) q (λ n t e. let z : ◌≡◌ {A = ℕ} 0 1 = cc in absurd (omega arith)) (λ _ _ _ _ _ _. refl)

  -- A ticket was selected before; the ticket answered is selected now, neither out nor failed (Q215, Q225 to Q227).
  pub retry_renews : (t : Ticket) → (retried q).answer ≡ Ok t
      → ((s : Ticket) × (q.selection ≡ Some s)) × ((retried q).queue.selection ≡ Some t) × ((retried q).queue.failed ≡ false) × ((retried q).queue.issued ≡ false)
  retry_renews =
      retry_by (λ (r : Answered Retried). (t : Ticket) → r.answer ≡ Ok t → ((s : Ticket) × (q.selection ≡ Some s)) ×
      (r.queue.selection ≡ Some t) × (r.queue.failed ≡ false) × (r.queue.issued ≡ false)) q
      (λ n t e. let z : ◌≡◌ {A = ℕ} 0 1 = cc in absurd (omega arith))
      (λ w s e a t h. let same : renewed q s ≡ t = cc in ((s, e), ap Some same, refl, failed_not_issued q w (and_left q.failed _ a)))

-- ---- admit, end and cancel
admit_row : (p : Phase) (m : Bool) → is_pending (after_admit p m) ≡ (is_pending p || (not (is_settled p) && (not (is_cancelled p) && m)))
admit_row Idle true = refl
admit_row Idle false = refl
admit_row Pending true = refl
admit_row Pending false = refl
admit_row Ended true = refl
admit_row Ended false = refl
admit_row Stopping true = refl
admit_row Stopping false = refl
admit_row Closed true = refl
admit_row Closed false = refl

end_row : (p : Phase) → yes_or_no (is_pending p) ≡ (Ok true) → (is_pending (phase_after p End) ≡ false) × (is_settled (phase_after p End) ≡ true)
end_row Idle h = let z : ◌≡◌ {A = ℕ} 0 1 = cc in absurd (omega arith)
end_row Pending h = (refl, refl)
end_row Ended h = let z : ◌≡◌ {A = ℕ} 0 1 = cc in absurd (omega arith)
end_row Stopping h = (refl, refl)
end_row Closed h = let z : ◌≡◌ {A = ℕ} 0 1 = cc in absurd (omega arith)

cancel_row : (p : Phase) → (is_cancelled (phase_after p Cancel) ≡ true) × (is_pending (phase_after p Cancel) ≡ is_pending p)
cancel_row Idle = (refl, refl)
cancel_row Pending = (refl, refl)
cancel_row Ended = (refl, refl)
cancel_row Stopping = (refl, refl)
cancel_row Closed = (refl, refl)

module _ (q : Queue) where
  -- Admit leaves all but the phase: the selected ticket, the slots, both marks and next (Q231, Q235, Q236).
  pub admit_leaves : (matched : Bool) → StaysButPhase q (admitted q matched).queue
  unfolding admitted
  admit_leaves matched = if_by (λ (r : Answered Told). StaysButPhase q r.queue) (not (well_formed q)) _ _ (λ _. (refl, refl, refl, refl, refl, refl)) (λ _. (refl, refl, refl, refl, refl, refl))

  -- So does end (Q240, Q244, Q245).
  pub end_leaves : StaysButPhase q (ended q).queue
  unfolding ended
  end_leaves = if_by (λ (r : Answered Told). StaysButPhase q r.queue) (not (well_formed q)) _ _ (λ _. (refl, refl, refl, refl, refl, refl)) (λ _. (refl, refl, refl, refl, refl, refl))

  -- So does cancel (Q251, Q255, Q256).
  pub cancel_leaves : StaysButPhase q (cancelled_by q).queue
  unfolding cancelled_by
  cancel_leaves = if_by (λ (r : Answered Cancelled). StaysButPhase q r.queue) (not (well_formed q)) _ _ (λ _. (refl, refl, refl, refl, refl, refl)) (λ _. (refl, refl, refl, refl, refl, refl))

  -- The phase after each is the table's.
  pub admit_moves : (matched : Bool) → well_formed q ≡ true → (admitted q matched).queue.phase ≡ after_admit q.phase matched
  unfolding admitted
  admit_moves matched w = ap (λ (r : Answered Told). r.queue.phase) (miss _ (ap not w))

  pub end_moves : well_formed q ≡ true → (ended q).queue.phase ≡ phase_after q.phase End
  unfolding ended
  end_moves w = ap (λ (r : Answered Told). r.queue.phase) (miss _ (ap not w))

  pub cancel_moves : well_formed q ≡ true → (cancelled_by q).queue.phase ≡ phase_after q.phase Cancel
  unfolding cancelled_by
  cancel_moves w = ap (λ (r : Answered Cancelled). r.queue.phase) (miss _ (ap not w))

  -- R35: the answer is of the stage behind the call (Q237).
  pub admit_answers : (matched : Bool) → (admitted q matched).answer ≡ asked q (is_pending (admitted q matched).queue.phase)
  unfolding admitted
  admit_answers matched =
      if_by (λ (r : Answered Told). r.answer ≡ asked q (is_pending r.queue.phase)) (not (well_formed q))
      (refused_stage q) (admitted_by q matched) (λ e. sym (hit _ e)) (λ e. sym (miss _ e))

  -- That is: it was pending, or neither settled nor cancelled and the target matches (Q238).
  pub admit_says : (matched : Bool) → (admitted q matched).answer ≡ asked q (is_pending q.phase || (not (is_settled q.phase) && (not (is_cancelled q.phase) && matched)))
  unfolding admitted
  admit_says matched =
      if_by (λ (r : Answered Told). r.answer ≡ asked q (is_pending q.phase || (not (is_settled q.phase) && (not (is_cancelled q.phase) && matched))))
      (not (well_formed q)) _ _
      (λ e. sym (hit _ e)) (λ e. ap yes_or_no (admit_row q.phase matched) ∙ sym (miss _ e))

  -- End answers whether the stage was pending (Q246).
  pub end_answers : (ended q).answer ≡ asked q (is_pending q.phase)
  unfolding ended
  end_answers = if_by (λ (r : Answered Told). r.answer ≡ asked q (is_pending q.phase)) (not (well_formed q)) _ _ (λ e. sym (hit _ e)) (λ e. sym (miss _ e))

  -- Where end answers yes, the stage is settled and not pending (Q247, Q248).
  pub end_settles : (ended q).answer ≡ (Ok true) → (is_pending (ended q).queue.phase ≡ false) × (is_settled (ended q).queue.phase ≡ true)
  unfolding ended
  end_settles =
      if_by (λ (r : Answered Told). r.answer ≡ (Ok true) → (is_pending r.queue.phase ≡ false) × (is_settled r.queue.phase ≡ true)) (not (well_formed q)) _ _
      (λ _ h. let z : ◌≡◌ {A = ℕ} 0 1 = cc in absurd (omega arith)) (λ _ h. end_row q.phase h)

  -- Cancel of a well-formed record is done; the stage is cancelled then, and pending exactly if it was (Q257, Q258).
  pub cancel_cancels : well_formed q ≡ true
      → ((cancelled_by q).answer ≡ (Ok tt)) × (is_cancelled (cancelled_by q).queue.phase ≡ true) × (is_pending (cancelled_by q).queue.phase ≡ is_pending q.phase)
  unfolding cancelled_by
  cancel_cancels w = (ap (λ (r : Answered Cancelled). r.answer) (miss _ (ap not w)), ap is_cancelled (cancel_moves w) ∙ (cancel_row q.phase).0, ap is_pending (cancel_moves w) ∙ (cancel_row q.phase).1)

-- ---- can_finish and is_empty
-- Where can_finish says yes, nothing is out (Q266).
pub finish_not_issued : (q : Queue) (target : List ℕ) → can_finish_told q target ≡ (Ok true) → q.issued ≡ false
finish_not_issued q target h = let f = finish_means_lem q target h in (free_no_marks q f.sound f.free).1

module _ (q : Queue) where
  none_left : (s : Option Ticket) (ks : List ℕ) → nothing_left s ks ≡ true → (s ≡ None) × (ks ≡ [])
  none_left None [] h = (refl, refl)
  none_left None (k ∷ ks) h = clash h refl
  none_left (Some t) ks h = clash h refl

  -- Where is_empty says yes, nothing is selected and nothing waits (Q268).
  pub empty_means_lem : is_empty_told q ≡ (Ok true) → (q.selection ≡ None) × (waiting q ≡ [])
  unfolding is_empty_told
  empty_means_lem h = none_left q.selection (waiting q) (asked_yes q (nothing_left q.selection (waiting q)) h).1

  -- And then it does (Q268).
  pub means_empty : well_formed q ≡ true → q.selection ≡ None → waiting q ≡ [] → is_empty_told q ≡ (Ok true)
  unfolding is_empty_told
  means_empty w e n = yes_asked q (nothing_left q.selection (waiting q)) w ∙ ap yes_or_no (ap (λ (s : Option Ticket). nothing_left s (waiting q)) e ∙ ap (nothing_left None) n)

  -- An empty queue has nothing out, and every slot is empty (Q269, Q270).
  pub empty_holds_nothing : is_empty_told q ≡ (Ok true) → (q.issued ≡ false) × ((k : ℕ) → slot q k ≡ 0)
  unfolding is_empty_told
  empty_holds_nothing h = ((free_no_marks q sound free).1, λ k. hollow k)
    where
      sound : well_formed q ≡ true
      sound = (asked_yes q (nothing_left q.selection (waiting q)) h).0

      free : q.selection ≡ None
      free = (empty_means_lem h).0

      none : occupied 0 q.slots ≡ []
      none = sym (ap (λ (s : Option Ticket). others s (occupied 0 q.slots)) free) ∙ (empty_means_lem h).1

      hollow : (k : ℕ) → slot q k ≡ 0
      hollow k = eqb-true (slot q k) 0 (not-false _ (sym (slot_member q k) ∙ ap (member k) none))
