-- Which attempt a ticket carries, and that attempts handed out only rise
use Prim.Native.Nat.{ℕ, suc, ◌+◌, ◌<◌, ◌≤◌}
use mathlib.Core.Path.{◌≡◌, refl, sym, ap, ◌∙◌}
use mathlib.Core.Logic.{◌⊎◌, inl, inr, ⊎_elim}
use mathlib.Core.Bool.{Bool, true, false, not, ◌||◌, or-true}
use mathlib.Core.List.{List, [], ◌∷◌, ◌++◌}
use native.Mathlib.Omega.{arith}
use lib.Dec.{eqb}
use Rattle.choice.proofs.Ways.{if_by, either, other, and_left}
use Rattle.queue_record.specs.WellFormed.{well_formed}
use Rattle.queue_record.specs.declared.record.Ticket.{Ticket}
use Rattle.queue_record.specs.declared.record.Queue.{Queue}
use Rattle.queue_record.proofs.Fit.{selected_before, failed_not_issued}
use Rattle.queue_steps.specs.Attempts.{slot, fresh_ticket, renewed, retried, popped}
use Rattle.queue_stages.specs.Stages.{admitted, ended, cancelled_by}
use Rattle.cleanup_queue.specs.Runs.{Call, register, land, pop, complete, retry, admit, end, cancel, after, attempt_of, handed_by, attempts, Rising, none, one, more}
use Rattle.cleanup_queue.proofs.ByCase.{register_by, land_by, Popping, pop_by, work_parts, Outside, complete_by, retry_by}
use Rattle.std.specs.Prelude.{Option, Some, None, Ok}
use Rattle.queue_record.specs.declared.answered.Answered.{Answered}
use Rattle.queue_births.specs.Types.{Registered}
use Rattle.queue_questions.specs.Types.{Told}
use Rattle.queue_stages.specs.Types.{Cancelled}
use Rattle.queue_steps.specs.Types.{Completed, Popped, Retried}

-- ---- what each call does to the attempt that comes next
-- the attempt that the next handing out carries: a ready ticket's own, or else next
abbrev pub coming_by : Option Ticket → Bool → ℕ → ℕ
coming_by None marked next = next
coming_by (Some t) true next = next
coming_by (Some t) false next = t.attempt

abbrev pub coming : Queue → ℕ
coming q = coming_by q.selection (q.issued || q.failed) q.next

-- nothing is handed out, and the same attempt comes next
abbrev Waits : Queue → List ℕ → Queue → Type 0
Waits q handed p = (handed ≡ []) × (coming p ≡ coming q)

-- the attempt that came next is handed out, and a larger one comes next
abbrev Goes : Queue → List ℕ → Queue → Type 0
Goes q handed p = (handed ≡ coming q ∷ []) × (coming q < coming p)

marked_comes : (s : Option Ticket) (b : Bool) (n : ℕ) → b ≡ true → coming_by s b n ≡ n
marked_comes None b n e = refl
marked_comes (Some t) true n e = refl
marked_comes (Some t) false n e = let z : ◌≡◌ {A = ℕ} 0 1 = cc in absurd (omega arith)

module _ (q : Queue) where
  -- past pop's first tests neither mark is set
  unmarked : Popping q → (q.issued || q.failed) ≡ false
  unmarked p = other q.failed p.issued ∙ p.failed

  pub fresh_comes : Popping q → q.selection ≡ None → q.next ≡ coming q
  fresh_comes p e = sym (ap (λ (s : Option Ticket). coming_by s (q.issued || q.failed) q.next) e)

  pub ready_comes : Popping q → (t : Ticket) → q.selection ≡ Some t → t.attempt ≡ coming q
  ready_comes p t e = sym (ap (λ (s : Option Ticket). coming_by s (q.issued || q.failed) q.next) e ∙ ap (λ (b : Bool). coming_by (Some t) b q.next) (unmarked p))

  pop_step : Waits q (attempt_of (popped q).answer) (popped q).queue ⊎ Goes q (attempt_of (popped q).answer) (popped q).queue
  pop_step =
      pop_by (λ (r : Answered Popped). Waits q (attempt_of r.answer) r.queue ⊎ Goes q (attempt_of r.answer) r.queue) q
      (λ _ _. inl (refl, refl)) (inl (refl, refl))
      (λ p e token n full room. inr (ap (λ (a : ℕ). a ∷ []) (fresh_comes p e), let c : q.next ≡ coming q = fresh_comes p e in omega arith))
      (λ p t e full. inr (
        ap (λ (a : ℕ). a ∷ []) (ready_comes p t e),
        let c : t.attempt ≡ coming q =
            ready_comes p t e in let b : t.attempt < q.next = selected_before q t p.sound e in omega arith,
      ))

  -- an issued or failed queue's next handing out carries next
  out_comes : (t : Ticket) → Outside q t → coming q ≡ q.next
  out_comes t o = marked_comes q.selection (q.issued || q.failed) q.next (either q.failed o.issued)

  complete_comes : (t : Ticket) (outcome kept : ℕ) → coming (after q (complete t outcome kept)) ≡ coming q
  complete_comes t outcome kept =
      complete_by (λ (r : Answered Completed). coming r.queue ≡ coming q) q t outcome kept (λ _. refl)
      (λ o _ _. if_by (λ (p : Queue). coming p ≡ coming q) (eqb outcome 0) _ _ (λ _. sym (out_comes t o)) (λ _. marked_comes q.selection true q.next refl ∙ sym (out_comes t o)))

  retry_comes : coming (after q retry) ≡ coming q
  retry_comes =
      retry_by (λ (r : Answered Retried). coming r.queue ≡ coming q) q (λ _. refl)
      (λ w t e a.
      let f : q.failed ≡ true = and_left q.failed _ a in
      ap (λ (b : Bool). coming_by (Some (renewed q t)) (b || false) (q.next + 1)) (failed_not_issued q w f)
      ∙ sym (marked_comes q.selection (q.issued || q.failed) q.next (ap (λ (b : Bool). q.issued || b) f ∙ or-true q.issued)))

  -- whatever holds of pop and of a call that hands out nothing holds of every call
  pub step_by : (R : List ℕ → Queue → Type 0) → ((p : Queue) → coming p ≡ coming q → R [] p) → R (attempt_of (popped q).answer) (popped q).queue
      → (c : Call) → R (handed_by q c) (after q c)
  unfolding admitted ended cancelled_by
  step_by R waits pops (register n) = waits _ (register_by (λ (r : Answered Registered). coming r.queue ≡ coming q) q n (λ _. refl) (λ _ _ _. refl))
  step_by R waits pops (land n) = waits _ (land_by (λ (r : Answered Registered). coming r.queue ≡ coming q) q n (λ _. refl) (λ _ _ _ _. refl))
  step_by R waits pops pop = pops
  step_by R waits pops (complete t o k) = waits _ (complete_comes t o k)
  step_by R waits pops retry = waits _ retry_comes
  step_by R waits pops (admit m) = waits _ (if_by (λ (r : Answered Told). coming r.queue ≡ coming q) (not (well_formed q)) _ _ (λ _. refl) (λ _. refl))
  step_by R waits pops end = waits _ (if_by (λ (r : Answered Told). coming r.queue ≡ coming q) (not (well_formed q)) _ _ (λ _. refl) (λ _. refl))
  step_by R waits pops cancel = waits _ (if_by (λ (r : Answered Cancelled). coming r.queue ≡ coming q) (not (well_formed q)) _ _ (λ _. refl) (λ _. refl))

  call_step : (c : Call) → Waits q (handed_by q c) (after q c) ⊎ Goes q (handed_by q c) (after q c)
  call_step = step_by (λ handed p. Waits q handed p ⊎ Goes q handed p) (λ p e. inl (refl, e)) pop_step

-- ---- over a whole run
-- rising, and none below b
pub data From : ℕ → List ℕ → Type 0 where
  empty : (b : ℕ) → From b []
  later : (b a : ℕ) (rest : List ℕ) → b ≤ a → From (suc a) rest → From b (a ∷ rest)

pub lower : (b c : ℕ) (xs : List ℕ) → b ≤ c → From c xs → From b xs
lower b c xs l (empty _) = empty b
lower b c xs l (later _ a rest h r) = later b a rest (omega arith) r

join : (a : ℕ) (rest : List ℕ) → From (suc a) rest → Rising rest → Rising (a ∷ rest)
join a rest (empty _) r = one a
join a rest (later _ c others h _) r = more a c others h r

pub from_rising : (b : ℕ) (xs : List ℕ) → From b xs → Rising xs
from_rising b xs (empty _) = none
from_rising b xs (later _ a rest h r) = join a rest r (from_rising (suc a) rest r)

run_from : (q : Queue) (cs : List Call) → From (coming q) (attempts q cs)
run_from q [] = empty (coming q)
run_from q (c ∷ cs) =
    ⊎_elim
    (λ w. same (handed_by q c) w.0 w.1 (run_from (after q c) cs))
    (λ g. risen (handed_by q c) g.0 g.1 (run_from (after q c) cs))
    (call_step q c)
  where
    same : (xs : List ℕ) → xs ≡ [] → coming (after q c) ≡ coming q → From (coming (after q c)) (attempts (after q c) cs) → From (coming q) (xs ++ attempts (after q c) cs)
    same xs e k r = rw e (rw k at r)

    risen : (xs : List ℕ) → xs ≡ coming q ∷ [] → coming q < coming (after q c) → From (coming (after q c)) (attempts (after q c) cs) → From (coming q) (xs ++ attempts (after q c) cs)
    risen xs e l r = rw e (later (coming q) (coming q) (attempts (after q c) cs) (omega arith) (lower (suc (coming q)) (coming (after q c)) (attempts (after q c) cs) l r))

-- attempts handed out rise, so none is handed out twice
pub attempts_rise : (q : Queue) (cs : List Call) → Rising (attempts q cs)
attempts_rise q cs = from_rising (coming q) (attempts q cs) (run_from q cs)

-- ---- which attempt a ticket carries
-- a fresh ticket carries next
pub fresh_carries : (q : Queue) (t : Ticket) (number : ℕ) → (popped q).answer ≡ Ok (Some (t, number)) → q.selection ≡ None → t.attempt ≡ q.next
fresh_carries q =
    pop_by (λ (r : Answered Popped). (t : Ticket) (number : ℕ) → r.answer ≡ Ok (Some (t, number)) → q.selection ≡ None → t.attempt ≡ q.next) q
    (λ m _ t number e f. let z : ◌≡◌ {A = ℕ} 0 1 = cc in absurd (omega arith))
    (λ t number e f. let z : ◌≡◌ {A = ℕ} 0 1 = cc in absurd (omega arith))
    (λ p e token n full room t number w f. sym (ap (λ (x : Ticket). x.attempt) (work_parts (fresh_ticket q token) t (slot q token) number w).0))
    (λ p s e full t number w f. let z : ◌≡◌ {A = ℕ} 0 1 = cc in absurd (omega arith))

-- a ready one its own: the ticket that is selected comes out as it is
pub ready_carries : (q : Queue) (s t : Ticket) (number : ℕ) → (popped q).answer ≡ Ok (Some (t, number)) → q.selection ≡ Some s → t ≡ s
ready_carries q s =
    pop_by (λ (r : Answered Popped). (t : Ticket) (number : ℕ) → r.answer ≡ Ok (Some (t, number)) → q.selection ≡ Some s → t ≡ s) q
    (λ m _ t number e f. let z : ◌≡◌ {A = ℕ} 0 1 = cc in absurd (omega arith))
    (λ t number e f. let z : ◌≡◌ {A = ℕ} 0 1 = cc in absurd (omega arith))
    (λ p e token n full room t number w f. let z : ◌≡◌ {A = ℕ} 0 1 = cc in absurd (omega arith))
    (λ p u e full t number w f. let same : u ≡ s = cc in sym (work_parts u t (slot q u.token) number w).0 ∙ same)

-- a retried one next, which is larger than the attempt that it had
pub retried_carries : (q : Queue) (t : Ticket) → (retried q).answer ≡ Ok t → (t.attempt ≡ q.next) × ((s : Ticket) → q.selection ≡ Some s → (t.token ≡ s.token) × (s.attempt < t.attempt))
retried_carries q =
    retry_by (λ (r : Answered Retried). (t : Ticket) → r.answer ≡ Ok t → (t.attempt ≡ q.next) × ((s : Ticket) → q.selection ≡ Some s → (t.token ≡ s.token) × (s.attempt < t.attempt))) q
    (λ n t e. let z : ◌≡◌ {A = ℕ} 0 1 = cc in absurd (omega arith))
    (λ w u e a t h. parts w u e t h)
  where
    parts : well_formed q ≡ true → (u : Ticket) → q.selection ≡ Some u → (t : Ticket) → ◌≡◌ {A = Retried} (Ok (renewed q u)) (Ok t)
        → (t.attempt ≡ q.next) × ((s : Ticket) → q.selection ≡ Some s → (t.token ≡ s.token) × (s.attempt < t.attempt))
    parts w u e t h =
        let r : renewed q u ≡ t = cc in
        let a : q.next ≡ t.attempt = ap (λ (x : Ticket). x.attempt) r in (
          sym a,
          λ s f.
              let same : u ≡ s = cc in
              let b : s.attempt < q.next = selected_before q s w f in
              (sym (ap (λ (x : Ticket). x.token) r) ∙ ap (λ (x : Ticket). x.token) same, omega arith),
        )
