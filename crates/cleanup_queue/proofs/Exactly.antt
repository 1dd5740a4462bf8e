-- What an opening leaves, every part; the attempts that a run from it hands out, and the tokens that it gives, exactly
use Prim.Native.Nat.{ℕ, suc, ◌+◌, ◌<◌, ◌≤◌}
use mathlib.Core.Path.{◌≡◌, refl, sym, ap, ◌∙◌, subst}
use mathlib.Core.Logic.{◌⊎◌, inl, inr, ⊎_elim}
use mathlib.Core.Bool.{Bool, true, false, not, ◌||◌}
use mathlib.Core.List.{List, [], ◌∷◌, ◌++◌}
use native.Mathlib.Omega.{arith}
use borrow.Author.Tests.{ltb-true}
use lib.Dec.{eqb}
use lib.ListN.{length}
use Rattle.choice.proofs.Ways.{if_by, and_right}
use Rattle.queue_record.specs.WellFormed.{well_formed}
use Rattle.queue_record.specs.Openings.{Opening, heading_of, opening_of, opened, kept_bindings, scope_of, iterator_of, opened_by, opened_as}
use Rattle.queue_record.specs.declared.record.Kind.{Kind}
use Rattle.queue_record.specs.declared.record.Kind.TheVariants.{Scope, Iterator}
use Rattle.queue_record.specs.declared.record.Ticket.{Ticket}
use Rattle.queue_record.specs.declared.record.Queue.{Queue}
use Rattle.queue_record.proofs.Fit.{fit}
use Rattle.queue_record.proofs.OpenedLaws.{iterator_open, opened_well_formed}
use Rattle.queue_decisions.specs.Slots.{no_more}
use Rattle.queue_steps.specs.Attempts.{slot, fresh_ticket, renewed, popped}
use Rattle.queue_stages.specs.Stages.{admitted, ended, cancelled_by}
use Rattle.cleanup_queue.specs.Runs.{Call, register, land, pop, complete, retry, admit, end, cancel, after, after_all, attempt_of, handed_by, attempts, tokens_born_by, tokens, counted_from, Counts}
use Rattle.cleanup_queue.specs.Parts.{start_phase, OpenedParts}
use Rattle.cleanup_queue.proofs.ByCase.{register_by, land_by, pop_by, complete_by, retry_by}
use Rattle.cleanup_queue.proofs.Keeps.{run_keeps}
use Rattle.cleanup_queue.proofs.Rises.{coming_by, coming, fresh_comes, ready_comes, step_by}
use Rattle.cleanup_queue.proofs.Births.{call_gives}
use Rattle.std.specs.Prelude.{Option, Some, None, Ok}
use Rattle.queue_record.specs.declared.answered.Answered.{Answered}
use Rattle.queue_births.specs.Types.{Registered}
use Rattle.queue_questions.specs.Types.{Told}
use Rattle.queue_stages.specs.Types.{Cancelled}
use Rattle.queue_steps.specs.Types.{Completed, Popped, Retried}

-- ---- a list that a run makes, call by call: nothing, or the number that comes, which then is 1 more
module _ (comes : Queue → ℕ) (by_call : Queue → Call → List ℕ) where
  abbrev One : Queue → List ℕ → Queue → Type 0
  One q xs p = ((xs ≡ []) × (comes p ≡ comes q)) ⊎ ((xs ≡ comes q ∷ []) × (comes p ≡ comes q + 1))

  abbrev made : Queue → List Call → List ℕ
  made q [] = []
  made q (c ∷ cs) = by_call q c ++ made (after q c) cs

  -- what is made from here on, and what comes behind it
  abbrev Made : Queue → List Call → List ℕ → Type 0
  Made q cs xs = (xs ≡ counted_from (comes q) (length xs)) × (comes (after_all q cs) ≡ comes q + length xs)

  counts : (Inv : Queue → Type 0) → ((q : Queue) → Inv q → (c : Call) → One q (by_call q c) (after q c)) → ((q : Queue) → Inv q → (c : Call) → Inv (after q c))
      → (q : Queue) → Inv q → (cs : List Call) → Made q cs (made q cs)
  counts Inv step keep q i [] = (refl, omega arith)
  counts Inv step keep q i (c ∷ cs) =
      ⊎_elim (λ w. same (by_call q c) w.0 w.1 (counts Inv step keep (after q c) (keep q i c) cs))
      (λ g. risen (by_call q c) g.0 g.1 (counts Inv step keep (after q c) (keep q i c) cs)) (step q i c)
    where
      same : (xs : List ℕ) → xs ≡ [] → comes (after q c) ≡ comes q → Made (after q c) cs (made (after q c) cs) → Made q (c ∷ cs) (xs ++ (made (after q c) cs))
      same xs e k m = rw e (m.0 ∙ ap (λ (b : ℕ). counted_from b (length (made (after q c) cs))) k, m.1 ∙ ap (λ (b : ℕ). b + length (made (after q c) cs)) k)

      risen : (xs : List ℕ) → xs ≡ comes q ∷ [] → comes (after q c) ≡ comes q + 1 → Made (after q c) cs (made (after q c) cs) → Made q (c ∷ cs) (xs ++ (made (after q c) cs))
      risen xs e k m =
          let s : comes (after q c) ≡ suc (comes q) = omega arith in
          let n : comes (after_all q (c ∷ cs)) ≡ comes (after q c) + length (made (after q c) cs) = m.1 in
          rw e (ap (λ (l : List ℕ). comes q ∷ l) (m.0 ∙ ap (λ (b : ℕ). counted_from b (length (made (after q c) cs))) s), omega arith)

-- ---- attempts
-- in a run from an opening a selected ticket carries the attempt before next, and next is a u64
abbrev pub Tight : Queue → Type 0
Tight q = ((t : Ticket) → q.selection ≡ Some t → q.next ≡ t.attempt + 1) × (q.next ≤ no_more)

abbrev Pops : Queue → List ℕ → Queue → Type 0
Pops q handed p = ((handed ≡ []) × (coming p ≡ coming q)) ⊎ ((handed ≡ coming q ∷ []) × (coming p ≡ coming q + 1))

pop_one : (q : Queue) → Tight q → Pops q (attempt_of (popped q).answer) (popped q).queue
pop_one q i =
    pop_by (λ (r : Answered Popped). Pops q (attempt_of r.answer) r.queue) q
    (λ _ _. inl (refl, refl)) (inl (refl, refl))
    (λ p e token n full room. inr (ap (λ (a : ℕ). a ∷ []) (fresh_comes q p e), ap (λ (a : ℕ). a + 1) (fresh_comes q p e)))
    (λ p t e full. inr (ap (λ (a : ℕ). a ∷ []) (ready_comes q p t e), i.0 t e ∙ ap (λ (a : ℕ). a + 1) (ready_comes q p t e)))

attempt_step : (q : Queue) → Tight q → (c : Call) → Pops q (handed_by q c) (after q c)
attempt_step q i = step_by q (Pops q) (λ p e. inl (refl, e)) (pop_one q i)

none_tight : {t : Ticket} {A : Type 0} → None ≡ Some t → A
none_tight e = let z : ◌≡◌ {A = ℕ} 0 1 = cc in absurd (omega arith)

one_ticket : (s t : Ticket) → Some s ≡ Some t → s ≡ t
one_ticket s t e = cc

pub call_tight : (q : Queue) → Tight q → (c : Call) → Tight (after q c)
unfolding admitted ended cancelled_by
call_tight q i (register n) = register_by (λ (r : Answered Registered). Tight r.queue) q n (λ _. i) (λ _ _ _. i)
call_tight q i (land n) = land_by (λ (r : Answered Registered). Tight r.queue) q n (λ _. i) (λ _ _ _ _. i)
call_tight q i pop =
    pop_by (λ (r : Answered Popped). Tight r.queue) q (λ _ _. i) i
    (λ p e token n full room. (λ t s. ap (λ (x : Ticket). x.attempt + 1) (one_ticket (fresh_ticket q token) t s), omega arith))
    (λ p t e full. (λ u s. i.0 t e ∙ ap (λ (x : Ticket). x.attempt + 1) (one_ticket t u s), i.1))
call_tight q i (complete t o k) =
    complete_by (λ (r : Answered Completed). Tight r.queue) q t o k (λ _. i)
    (λ _ _ _. if_by Tight (eqb o 0) _ _ (λ _. (λ u s. none_tight s, i.1)) (λ _. i))
call_tight q i retry =
    retry_by (λ (r : Answered Retried). Tight r.queue) q (λ _. i)
    (λ w t e a. (
      λ u s. ap (λ (x : Ticket). x.attempt + 1) (one_ticket (renewed q t) u s),
      let l : q.next < no_more = ltb-true _ _ (and_right (not (eqb (slot q t.token) 0)) _ (and_right q.failed _ a)) in omega arith,
    ))
call_tight q i (admit m) = if_by (λ (r : Answered Told). Tight r.queue) (not (well_formed q)) _ _ (λ _. i) (λ _. i)
call_tight q i end = if_by (λ (r : Answered Told). Tight r.queue) (not (well_formed q)) _ _ (λ _. i) (λ _. i)
call_tight q i cancel = if_by (λ (r : Answered Cancelled). Tight r.queue) (not (well_formed q)) _ _ (λ _. i) (λ _. i)

run_tight : (q : Queue) → Tight q → (cs : List Call) → Tight (after_all q cs)
run_tight q i [] = i
run_tight q i (c ∷ cs) = run_tight (after q c) (call_tight q i c) cs

-- what comes next is at most next
coming_most : (q : Queue) → Tight q → coming q ≤ no_more
coming_most q i = go q.selection (q.issued || q.failed) refl
  where
    go : (s : Option Ticket) (b : Bool) → q.selection ≡ s → coming_by s b q.next ≤ no_more
    go None b e = i.1
    go (Some t) true e = i.1
    go (Some t) false e = let n : q.next ≡ t.attempt + 1 = i.0 t e in let m : q.next ≤ no_more = i.1 in omega arith

run_counts : (q : Queue) → Tight q → (cs : List Call) → Counts (coming q) no_more (attempts q cs)
run_counts q i cs =
    let m = counts coming handed_by Tight attempt_step call_tight q i cs in
    let e : coming (after_all q cs) ≡ coming q + length (attempts q cs) = m.1 in
    let l : coming (after_all q cs) ≤ no_more = coming_most (after_all q cs) (run_tight q i cs) in
    record { exactly = m.0; below = omega arith }

-- ---- from an opening
-- of either kind
started_parts : (k : Kind) (domain first : ℕ) (bindings : List ℕ)
    → OpenedParts (opening_of (heading_of k domain first) bindings) (opened k (start_phase k) domain first (kept_bindings k bindings))
started_parts k domain first bindings = record {
  kind = refl;
  domain = refl;
  next = refl;
  slots = refl;
  count = refl;
  selection = refl;
  failed = refl;
  issued = refl;
  phase = refl;
  bindings = refl;
  bound = refl;
}

parts_by : (k : Kind) (domain first : ℕ) (bindings : List ℕ) → (opened_by k domain first bindings).answer ≡ (Ok tt)
    → OpenedParts (opening_of (heading_of k domain first) bindings) (opened_by k domain first bindings).queue
unfolding scope_of iterator_of
parts_by Scope domain first bindings e = started_parts Scope domain first bindings
parts_by Iterator domain first bindings e =
    subst (λ (q : Queue). OpenedParts (opening_of (heading_of Iterator domain first) bindings) q) (sym (iterator_open domain first bindings e))
    (started_parts Iterator domain first bindings)

module _ (o : Opening) (unrefused : (opened_as o).answer ≡ (Ok tt)) where
  -- what an opening leaves, every part
  pub opened_parts : OpenedParts o (opened_as o).queue
  opened_parts = parts_by o.heading.kind o.heading.domain o.heading.first o.bindings unrefused

  pub opened_tight : o.heading.first ≤ no_more → Tight (opened_as o).queue
  opened_tight f = (λ t e. none_tight (sym opened_parts.selection ∙ e), rw opened_parts.next f)

  -- whatever is called, the attempts that are handed out are the first, plus 1, plus 2 and so on, all below 18446744073709551615
  pub attempts_exactly_lem : o.heading.first ≤ no_more → (cs : List Call) → Counts o.heading.first no_more (attempts (opened_as o).queue cs)
  attempts_exactly_lem f cs =
      let q = (opened_as o).queue in
      let c : coming q ≡ o.heading.first = ap (λ (s : Option Ticket). coming_by s (q.issued || q.failed) q.next) opened_parts.selection ∙ opened_parts.next in
      subst (λ (b : ℕ). Counts b no_more (attempts q cs)) c (run_counts q (opened_tight f) cs)

  -- and the tokens that are given are 0, 1, 2 and so on, all below 64
  pub tokens_exactly_lem : (cs : List Call) → Counts 0 64 (tokens (opened_as o).queue cs)
  tokens_exactly_lem cs =
      let q = (opened_as o).queue in
      let m = counts (λ p. p.count) tokens_born_by (λ _. Unit {0}) (λ p _ c. call_gives p c) (λ p _ c. tt) q tt cs in
      let e : (after_all q cs).count ≡ q.count + length (tokens q cs) = m.1 in
      let l : (after_all q cs).count ≤ 64 = (fit (after_all q cs) (run_keeps q cs (opened_well_formed o))).count in
      subst (λ (b : ℕ). Counts b 64 (tokens q cs)) opened_parts.count (record { exactly = m.0; below = omega arith })
