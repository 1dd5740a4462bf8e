-- A token is never given twice: the tokens that a run gives only rise
use Prim.Native.Nat.{ℕ, suc, ◌+◌}
use mathlib.Core.Path.{◌≡◌, refl}
use mathlib.Core.Logic.{◌⊎◌, inl, inr, ⊎_elim}
use mathlib.Core.Bool.{not}
use mathlib.Core.List.{List, [], ◌∷◌, ◌++◌}
use native.Mathlib.Omega.{arith}
use lib.Dec.{eqb}
use Rattle.choice.proofs.Ways.{if_by}
use Rattle.queue_record.specs.WellFormed.{well_formed}
use Rattle.queue_record.specs.declared.record.Queue.{Queue}
use Rattle.queue_stages.specs.Stages.{admitted, ended, cancelled_by}
use Rattle.cleanup_queue.specs.Runs.{Call, register, land, pop, complete, retry, admit, end, cancel, after, token_of, tokens_born_by, tokens, Rising}
use Rattle.cleanup_queue.proofs.ByCase.{register_by, land_by, pop_by, complete_by, retry_by}
use Rattle.cleanup_queue.proofs.Rises.{From, empty, later, lower, from_rising}
use Rattle.queue_record.specs.declared.answered.Answered.{Answered}
use Rattle.queue_births.specs.Types.{Registered}
use Rattle.queue_questions.specs.Types.{Told}
use Rattle.queue_stages.specs.Types.{Cancelled}
use Rattle.queue_steps.specs.Types.{Completed, Popped, Retried}

-- a call gives no token and leaves the count, or gives the count as token and raises it
abbrev pub Gives : Queue → List ℕ → Queue → Type 0
Gives q given p = ((given ≡ []) × (p.count ≡ q.count)) ⊎ ((given ≡ q.count ∷ []) × (p.count ≡ q.count + 1))

pub call_gives : (q : Queue) (c : Call) → Gives q (tokens_born_by q c) (after q c)
unfolding admitted ended cancelled_by
call_gives q (register n) = register_by (λ (r : Answered Registered). Gives q (token_of r.answer) r.queue) q n (λ _. inl (refl, refl)) (λ _ _ _. inr (refl, refl))
call_gives q (land n) = land_by (λ (r : Answered Registered). Gives q (token_of r.answer) r.queue) q n (λ _. inl (refl, refl)) (λ _ _ _ _. inr (refl, refl))
call_gives q pop = inl (refl, pop_by (λ (r : Answered Popped). r.queue.count ≡ q.count) q (λ _ _. refl) refl (λ _ _ _ _ _ _. refl) (λ _ _ _ _. refl))
call_gives q (complete t o k) =
    inl (
      refl,
      complete_by (λ (r : Answered Completed). r.queue.count ≡ q.count) q t o k (λ _. refl)
          (λ _ _ _. if_by (λ (p : Queue). p.count ≡ q.count) (eqb o 0) _ _ (λ _. refl) (λ _. refl)),
    )
call_gives q retry = inl (refl, retry_by (λ (r : Answered Retried). r.queue.count ≡ q.count) q (λ _. refl) (λ _ _ _ _. refl))
call_gives q (admit m) = inl (refl, if_by (λ (r : Answered Told). r.queue.count ≡ q.count) (not (well_formed q)) _ _ (λ _. refl) (λ _. refl))
call_gives q end = inl (refl, if_by (λ (r : Answered Told). r.queue.count ≡ q.count) (not (well_formed q)) _ _ (λ _. refl) (λ _. refl))
call_gives q cancel = inl (refl, if_by (λ (r : Answered Cancelled). r.queue.count ≡ q.count) (not (well_formed q)) _ _ (λ _. refl) (λ _. refl))

run_from : (q : Queue) (cs : List Call) → From q.count (tokens q cs)
run_from q [] = empty q.count
run_from q (c ∷ cs) = ⊎_elim (λ g. same (tokens_born_by q c) g.0 g.1 (run_from (after q c) cs)) (λ g. risen (tokens_born_by q c) g.0 g.1 (run_from (after q c) cs)) (call_gives q c)
  where
    same : (xs : List ℕ) → xs ≡ [] → (after q c).count ≡ q.count → From (after q c).count (tokens (after q c) cs) → From q.count (xs ++ tokens (after q c) cs)
    same xs e k r = rw e (lower q.count (after q c).count (tokens (after q c) cs) (omega arith) r)

    risen : (xs : List ℕ) → xs ≡ q.count ∷ [] → (after q c).count ≡ q.count + 1 → From (after q c).count (tokens (after q c) cs) → From q.count (xs ++ tokens (after q c) cs)
    risen xs e k r = rw e (later q.count q.count (tokens (after q c) cs) (omega arith) (lower (suc q.count) (after q c).count (tokens (after q c) cs) (omega arith) r))

pub tokens_rise : (q : Queue) (cs : List Call) → Rising (tokens q cs)
tokens_rise q cs = from_rising q.count (tokens q cs) (run_from q cs)
