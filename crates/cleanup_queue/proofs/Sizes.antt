-- Every call and every run keeps the lengths of the two arrays
use Prim.Native.Nat.{ℕ}
use mathlib.Core.Path.{◌≡◌, ◌∙◌}
use mathlib.Core.Bool.{not}
use mathlib.Core.List.{List, [], ◌∷◌}
use lib.Dec.{eqb}
use lib.ListN.{length, set, length-set}
use Rattle.choice.proofs.Ways.{if_by}
use Rattle.queue_record.specs.Record.{Sized}
use Rattle.queue_record.specs.WellFormed.{well_formed}
use Rattle.queue_record.specs.declared.record.Queue.{Queue}
use Rattle.queue_stages.specs.Stages.{admitted, ended, cancelled_by}
use Rattle.cleanup_queue.specs.Runs.{Call, register, land, pop, complete, retry, admit, end, cancel, after, after_all}
use Rattle.cleanup_queue.proofs.ByCase.{register_by, land_by, pop_by, complete_by, retry_by}
use Rattle.queue_record.specs.declared.answered.Answered.{Answered}
use Rattle.queue_births.specs.Types.{Registered}
use Rattle.queue_questions.specs.Types.{Told}
use Rattle.queue_stages.specs.Types.{Cancelled}
use Rattle.queue_steps.specs.Types.{Completed, Popped, Retried}

-- the lengths are kept by a store; what else a step sets is no array
stored : (q : Queue) (k n : ℕ) → Sized q → length (set q.slots k n) ≡ 64
stored q k n s = length-set q.slots k n ∙ s.slots

pub call_sized : (q : Queue) (c : Call) → Sized q → Sized (after q c)
unfolding admitted ended cancelled_by
call_sized q (register n) s = register_by (λ (r : Answered Registered). Sized r.queue) q n (λ _. s) (λ _ _ _. record { slots = stored q q.count n s; bindings = s.bindings })
call_sized q (land n) s = land_by (λ (r : Answered Registered). Sized r.queue) q n (λ _. s) (λ _ _ _ _. record { slots = stored q q.count n s; bindings = s.bindings })
call_sized q pop s =
    pop_by (λ (r : Answered Popped). Sized r.queue) q (λ _ _. s) s (λ _ _ token _ _ _. record { slots = stored q token 0 s; bindings = s.bindings })
    (λ _ t _ _. record { slots = stored q t.token 0 s; bindings = s.bindings })
call_sized q (complete t o k) s =
    complete_by (λ (r : Answered Completed). Sized r.queue) q t o k (λ _. s)
    (λ _ _ _. if_by (λ (p : Queue). Sized p) (eqb o 0) _ _ (λ _. record { slots = stored q t.token k s; bindings = s.bindings })
    (λ _. record { slots = stored q t.token k s; bindings = s.bindings }))
call_sized q retry s = retry_by (λ (r : Answered Retried). Sized r.queue) q (λ _. s) (λ _ _ _ _. record { slots = s.slots; bindings = s.bindings })
call_sized q (admit m) s = if_by (λ (r : Answered Told). Sized r.queue) (not (well_formed q)) _ _ (λ _. s) (λ _. record { slots = s.slots; bindings = s.bindings })
call_sized q end s = if_by (λ (r : Answered Told). Sized r.queue) (not (well_formed q)) _ _ (λ _. s) (λ _. record { slots = s.slots; bindings = s.bindings })
call_sized q cancel s = if_by (λ (r : Answered Cancelled). Sized r.queue) (not (well_formed q)) _ _ (λ _. s) (λ _. record { slots = s.slots; bindings = s.bindings })

pub run_sized : (q : Queue) (cs : List Call) → Sized q → Sized (after_all q cs)
run_sized q [] s = s
run_sized q (c ∷ cs) s = run_sized (after q c) cs (call_sized q c s)
