-- The test for the blank queue is passed by the blank queue alone
use Prim.Native.Nat.{ℕ, zero, suc}
use mathlib.Core.Path.{◌≡◌, refl, ap, ◌∙◌}
use mathlib.Core.Bool.{Bool, true, false, not, ◌&&◌, beq}
use mathlib.Core.List.{List, [], ◌∷◌}
use native.Mathlib.Omega.{arith}
use borrow.Author.Tests.{eqb-true, not-true}
use lib.Dec.{eqb}
use lib.ListN.{length, replicate}
use lib.Pointwise.{pointwise}
use Rattle.stage.specs.Phases.{differs}
use Rattle.stage.specs.declared.phases.Phase.{Phase}
use Rattle.stage.specs.declared.phases.Phase.TheVariants.{Idle, Pending, Ended, Stopping, Closed}
use Rattle.choice.proofs.Ways.{and_left, and_right, clash}
use Rattle.queue_record.specs.Record.{Sized}
use Rattle.queue_record.specs.WellFormed.{all_zero, is_selected}
use Rattle.queue_record.specs.Openings.{scope_of, blank}
use Rattle.queue_record.specs.Blank.{is_scope, unmarked, unnumbered, is_blank}
use Rattle.queue_record.specs.declared.record.Kind.{Kind}
use Rattle.queue_record.specs.declared.record.Kind.TheVariants.{Scope, Iterator}
use Rattle.queue_record.specs.declared.record.Queue.{Queue}
use Rattle.stage.specs.contracts.phases.PhasePartialEq.TheImpl as PhasePartialEq
use Rattle.queue_record.specs.contracts.record.KindPartialEq.TheImpl as KindPartialEq
use Rattle.queue_record.specs.contracts.record.TicketPartialEq.TheImpl as TicketPartialEq
use Rattle.std.specs.Option.{option_eq}
use Rattle.queue_record.specs.contracts.record.QueuePartialEq.TheImpl as QueuePartialEq
use Rattle.queue_record.proofs.Zeros.{all_zeros}
use Rattle.std.specs.Prelude.{Option, Some, None}
use Rattle.queue_record.specs.declared.record.Ticket.{Ticket}

scope_is : (k : Kind) → is_scope k ≡ true → k ≡ Scope
scope_is Scope h = refl
scope_is Iterator h = clash {b = false} h refl

free_is : (s : Option Ticket) → not (is_selected s) ≡ true → s ≡ None
free_is None h = refl
free_is (Some t) h = clash {b = false} h refl

ended_is : (p : Phase) → not (differs p Ended) ≡ true → p ≡ Ended
ended_is Ended h = refl
ended_is Idle h = clash {b = false} h refl
ended_is Pending h = clash {b = false} h refl
ended_is Stopping h = clash {b = false} h refl
ended_is Closed h = clash {b = false} h refl

abbrev made : Kind → ℕ → ℕ → List ℕ → ℕ → Option Ticket → Bool → Bool → Phase → List ℕ → ℕ → Queue
made k d n ss c s f i p bs b = record { kind = k; domain = d; next = n; slots = ss; count = c; selection = s; failed = f; issued = i; phase = p; bindings = bs; bound = b }

same_parts : {k k' : Kind} {d d' n n' c c' b b' : ℕ} {ss ss' bs bs' : List ℕ} {s s' : (Option Ticket)} {f f' i i' : Bool} {p p' : Phase} → k ≡ k' → d ≡ d'
    → n ≡ n' → ss ≡ ss' → c ≡ c' → s ≡ s' → f ≡ f' → i ≡ i' → p ≡ p' → bs ≡ bs' → b ≡ b' → made k d n ss c s f i p bs b ≡ made k' d' n' ss' c' s' f' i' p' bs' b'
same_parts k d n ss c s f i p bs b = rw (k, d, n, ss, c, s, f, i, p, bs, b)

pub blank_passes : is_blank blank ≡ true
unfolding blank scope_of
blank_passes = refl

pub blank_only : (q : Queue) → Sized q → is_blank q ≡ true → q ≡ blank
unfolding blank scope_of
blank_only q z h =
    let m₁ : unmarked q ≡ true = and_left (unmarked q) (unnumbered q) h in
    let m₂ : (not (is_selected q.selection) && (not q.failed && (not q.issued && not (differs q.phase Ended)))) ≡ true = and_right (is_scope q.kind) _ m₁ in
    let m₃ : (not q.failed && (not q.issued && not (differs q.phase Ended))) ≡ true = and_right (not (is_selected q.selection)) _ m₂ in
    let m₄ : (not q.issued && not (differs q.phase Ended)) ≡ true = and_right (not q.failed) _ m₃ in
    let n₁ : unnumbered q ≡ true = and_right (unmarked q) (unnumbered q) h in
    let n₂ : (all_zero q.bindings && (eqb q.domain 0 && (eqb q.next 0 && (eqb q.count 0 && eqb q.bound 0)))) ≡ true = and_right (all_zero q.slots) _ n₁ in
    let n₃ : (eqb q.domain 0 && (eqb q.next 0 && (eqb q.count 0 && eqb q.bound 0))) ≡ true = and_right (all_zero q.bindings) _ n₂ in
    let n₄ : (eqb q.next 0 && (eqb q.count 0 && eqb q.bound 0)) ≡ true = and_right (eqb q.domain 0) _ n₃ in
    let n₅ : (eqb q.count 0 && eqb q.bound 0) ≡ true = and_right (eqb q.next 0) _ n₄ in
    same_parts
    (scope_is q.kind (and_left (is_scope q.kind) _ m₁))
    (eqb-true q.domain 0 (and_left (eqb q.domain 0) _ n₃))
    (eqb-true q.next 0 (and_left (eqb q.next 0) _ n₄))
    (all_zeros q.slots 64 z.slots (and_left (all_zero q.slots) _ n₁))
    (eqb-true q.count 0 (and_left (eqb q.count 0) (eqb q.bound 0) n₅))
    (free_is q.selection (and_left (not (is_selected q.selection)) _ m₂))
    (not-true q.failed (and_left (not q.failed) _ m₃))
    (not-true q.issued (and_left (not q.issued) _ m₄))
    (ended_is q.phase (and_right (not q.issued) _ m₄))
    (all_zeros q.bindings 16 z.bindings (and_left (all_zero q.bindings) _ n₂))
    (eqb-true q.bound 0 (and_right (eqb q.count 0) (eqb q.bound 0) n₅))

-- ---- `==` with the blank queue, field by field, is the test
kind_same : (k : Kind) → (KindPartialEq.ghosts).eq k Scope ≡ is_scope k
kind_same Scope = refl
kind_same Iterator = refl

free_same : (s : Option Ticket) → option_eq (TicketPartialEq.ghosts).eq s None ≡ not (is_selected s)
free_same None = refl
free_same (Some t) = refl

ended_same : (p : Phase) → (PhasePartialEq.ghosts).eq p Ended ≡ not (differs p Ended)
ended_same Idle = refl
ended_same Pending = refl
ended_same Ended = refl
ended_same Stopping = refl
ended_same Closed = refl

mark_same : (b : Bool) → beq b false ≡ not b
mark_same true = refl
mark_same false = refl

zeros_same : (n : ℕ) (xs : List ℕ) → length xs ≡ n → pointwise eqb xs (replicate n 0) ≡ all_zero xs
zeros_same zero [] l = refl
zeros_same zero (x ∷ xs) l = absurd (omega arith)
zeros_same (suc n) [] l = absurd (omega arith)
zeros_same (suc n) (x ∷ xs) l = ap (λ (b : Bool). eqb x 0 && b) (zeros_same n xs (omega arith))

-- the fields stand in another order than the test's parts
reorder : (k d n s c l f i p b u : Bool) → (k && (d && (n && (s && (c && (l && (f && (i && (p && (b && u)))))))))) ≡ ((k && (l && (f && (i && p)))) && (s && (b && (d && (n && (c && u))))))
reorder k d n s c l f i p b u = grind arith

pub same_as_blank : (q : Queue) → Sized q → (QueuePartialEq.ghosts).eq q blank ≡ is_blank q
unfolding blank scope_of
same_as_blank q z =
    (λ j. kind_same q.kind j && (eqb q.domain 0 && (eqb q.next 0 && (zeros_same 64 q.slots z.slots j && (eqb q.count 0
    && (free_same q.selection j && (mark_same q.failed j && (mark_same q.issued j && (ended_same q.phase j
    && (zeros_same 16 q.bindings z.bindings j && eqb q.bound 0))))))))))
    ∙ reorder (is_scope q.kind) (eqb q.domain 0) (eqb q.next 0) (all_zero q.slots) (eqb q.count 0) (not (is_selected q.selection))
    (not q.failed) (not q.issued) (not (differs q.phase Ended)) (all_zero q.bindings) (eqb q.bound 0)
