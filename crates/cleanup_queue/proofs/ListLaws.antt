-- A whole list registered is the separate calls that were taken: what they leave, what each answers, and how many they are
use Prim.Native.Nat.{ℕ, suc, ◌+◌, ◌-◌, ◌<◌, ◌≤◌, min}
use mathlib.Core.Path.{◌≡◌, refl, sym, ap, ◌∙◌, subst}
use mathlib.Core.Logic.{◌↔◌}
use mathlib.Core.Bool.{Bool, true, false, not}
use mathlib.Core.List.{List, [], ◌∷◌, ◌++◌, append-nil}
use native.Mathlib.Omega.{arith}
use native.Mathlib.Numerals.{add-one}
use borrow.Author.Tests.{leb-true, leb-false}
use lib.Dec.{eqb, leb}
use lib.ListN.{length, take, drop, set, length-set}
use lib.Seq.{take-suc-set, append_snoc, length-take-le}
use Rattle.choice.proofs.Ways.{hit, miss, clash}
use Rattle.queue_record.specs.Record.{Sized}
use Rattle.queue_record.specs.Refusals.{result_number}
use Rattle.queue_record.specs.declared.refusal.Refusal.{Refusal}
use Rattle.queue_record.specs.declared.refusal.Refusal.TheVariants.{Broken, BadNumber, NoSlot}
use Rattle.queue_record.specs.WellFormed.{well_formed}
use Rattle.queue_record.specs.declared.record.Queue.{Queue}
use Rattle.queue_record.proofs.Fit.{fit}
use Rattle.queue_record.proofs.Refused.{some_none}
use Rattle.queue_decisions.specs.Births.{register_refusal}
use Rattle.queue_decisions.specs.Sequences.{taken_of, refusal_of}
use Rattle.queue_decisions.proofs.BirthLaws.{register_room}
use Rattle.queue_decisions.proofs.SequenceLaws.{taken_one, taken_none, refusal_behind, refusal_here, taken_within, taken_room}
use Rattle.queue_births.specs.Births.{born, grown, registered}
use Rattle.queue_births.specs.Sequences.{took_none, in_turn, registered_all, grown_all}
use Rattle.queue_births.proofs.Grown.{grown_fits}
use Rattle.queue_births.proofs.SequenceLaws.{registered_born, took_of, all_decided}
use Rattle.std.specs.Prelude.{Option, Some, None}
use Rattle.cleanup_queue.proofs.Numbers.{refusal_due}
use Rattle.cleanup_queue.specs.Orders.{first_refusal, first_due, register_order, broken_only}
use Rattle.cleanup_queue.specs.Parts.{LeavesSelected}
use Rattle.cleanup_queue.specs.Runs.{Call, after_all, token_of, tokens, counted_from}
use Rattle.cleanup_queue.specs.WholeLists.{registers_of, first_order, register_all_order, before_zero, PushesAll}
use Rattle.queue_record.specs.declared.answered.Answered.{Answered}
use Rattle.queue_births.specs.Types.{Registered}
use Rattle.queue_births.specs.declared.sequences.RegisteredAll.{RegisteredAll}

-- ---- a record that is not well formed takes none, of an empty list too
pub all_broken : (q : Queue) (ns : List ℕ) → well_formed q ≡ false → registered_all q ns ≡ took_none q (Some Broken)
unfolding registered_all
all_broken q ns e = hit _ (ap not e)

-- ---- a well-formed one: what is decided of the list, by the separate calls
-- so many taken, and such a refusal behind them
record Separate (q : Queue) (ns : List ℕ) (taken : ℕ) (refusal : Option Refusal) : Type 0 where
  leaves : grown_all q (take taken ns) ≡ after_all q (registers_of (take taken ns))
  gives : tokens q (registers_of (take taken ns)) ≡ counted_from q.count taken
  next : refusal ≡ first_refusal (first_order (after_all q (registers_of (take taken ns))) (drop taken ns))

none_separate : (q : Queue) → Separate q [] 0 None
unfolding grown_all
none_separate q = record { leaves = refl; gives = refl; next = refl }

module _ (q : Queue) (n : ℕ) (ns : List ℕ) (w : well_formed q ≡ true) where
  -- register's order is what is decided
  order_decided : first_refusal (register_order q n) ≡ register_refusal n q.count
  unfolding register_refusal
  order_decided = miss _ (ap not w)

  refused_separate : Separate q (n ∷ ns) 0 (register_refusal n q.count)
  unfolding grown_all
  refused_separate = record { leaves = refl; gives = refl; next = sym order_decided }

  one_more : q.count + 1 ≡ suc q.count
  one_more = omega arith

  taken_separate : (t : ℕ) (r : Option Refusal) → register_refusal n q.count ≡ None → Separate (grown q n) ns t r → Separate q (n ∷ ns) (suc t) r
  unfolding grown_all
  taken_separate t r e s =
      let b : registered q n ≡ born q (grown q n) = registered_born q n w e in
      record {
        leaves = s.leaves ∙ sym (ap (λ (a : Answered Registered). after_all a.queue (registers_of (take t ns))) b);
        gives = ap (λ (a : Answered Registered). token_of a.answer ++ tokens a.queue (registers_of (take t ns))) b
            ∙ ap (λ (ts : List ℕ). q.count ∷ ts) (s.gives ∙ ap (λ (k : ℕ). counted_from k t) one_more);
        next = s.next ∙ sym (ap (λ (a : Answered Registered). first_refusal (first_order (after_all a.queue (registers_of (take t ns))) (drop t ns))) b);
      }

  first_separate : (well_formed (grown q n) ≡ true → Separate (grown q n) ns (taken_of ns (q.count + 1)) (refusal_of ns (q.count + 1)))
      → Separate q (n ∷ ns) (taken_of (n ∷ ns) q.count) (refusal_of (n ∷ ns) q.count)
  first_separate rest = by (register_refusal n q.count) refl
    where
      by : (o : Option Refusal) → register_refusal n q.count ≡ o → Separate q (n ∷ ns) (taken_of (n ∷ ns) q.count) (refusal_of (n ∷ ns) q.count)
      by None e = rw (taken_one n ns q.count e, refusal_behind n ns q.count e) (taken_separate _ _ e (rest (grown_fits q n w (register_room n q.count e))))
      by (Some r) e = rw (taken_none n ns q.count r e, refusal_here n ns q.count r e) refused_separate

separate : (q : Queue) (ns : List ℕ) → well_formed q ≡ true → Separate q ns (taken_of ns q.count) (refusal_of ns q.count)
unfolding taken_of refusal_of
separate q [] w = none_separate q
separate q (n ∷ ns) w = first_separate q n ns w (separate (grown q n) ns)

-- ---- how many, by the list and the free slots alone
module _ (n : ℕ) (ns : List ℕ) (count : ℕ) where
  -- where the first is a 0, where no slot is free, and elsewhere
  taken_zero : eqb n 0 ≡ true → taken_of (n ∷ ns) count ≡ 0
  unfolding register_refusal
  taken_zero z = taken_none n ns count BadNumber (hit _ z)

  taken_full : eqb n 0 ≡ false → leb 64 count ≡ true → taken_of (n ∷ ns) count ≡ 0
  unfolding register_refusal
  taken_full z l = taken_none n ns count NoSlot (miss _ z ∙ hit _ l)

  taken_slot : eqb n 0 ≡ false → leb 64 count ≡ false → taken_of (n ∷ ns) count ≡ suc (taken_of ns (count + 1))
  unfolding register_refusal
  taken_slot z l = taken_one n ns count (miss _ z ∙ miss _ l)

  taken_first : taken_of ns (count + 1) ≡ min (before_zero ns) (64 - (count + 1)) → taken_of (n ∷ ns) count ≡ min (before_zero (n ∷ ns)) (64 - count)
  taken_first rest = by (eqb n 0) refl (leb 64 count) refl
    where
      by : (a : Bool) → eqb n 0 ≡ a → (b : Bool) → leb 64 count ≡ b → taken_of (n ∷ ns) count ≡ min (before_zero (n ∷ ns)) (64 - count)
      by true z b l = let f : before_zero (n ∷ ns) ≡ 0 = hit _ z in omega (arith, taken_zero z)
      by false z true l = omega (arith, taken_full z l, leb-true 64 count l)
      by false z false l = let f : before_zero (n ∷ ns) ≡ suc (before_zero ns) = miss _ z in omega (arith, taken_slot z l, leb-false 64 count l)

pub taken_exactly : (ns : List ℕ) (count : ℕ) → taken_of ns count ≡ min (before_zero ns) (64 - count)
unfolding taken_of
taken_exactly [] count = omega arith
taken_exactly (n ∷ ns) count = taken_first n ns count (taken_exactly ns (count + 1))

-- ---- none is refused exactly if all are taken
abbrev pub Whole : List ℕ → ℕ → Type 0
Whole ns count = (refusal_of ns count ≡ None) ↔ (taken_of ns count ≡ length ns)

whole_first : (n : ℕ) (ns : List ℕ) (count : ℕ) → Whole ns (count + 1) → Whole (n ∷ ns) count
whole_first n ns count rest = by (register_refusal n count) refl
  where
    by : (o : Option Refusal) → register_refusal n count ≡ o → Whole (n ∷ ns) count
    by None e = (
      λ z. let t = rest.0 (sym (refusal_behind n ns count e) ∙ z) in omega (arith, taken_one n ns count e, t),
      λ z. refusal_behind n ns count e ∙ rest.1 (omega (arith, taken_one n ns count e, z)),
    )
    by (Some r) e = (
      λ z. some_none (sym e ∙ (sym (refusal_here n ns count r e) ∙ z)),
      λ z. absurd (omega (arith, taken_none n ns count r e, z)),
    )

pub whole_exactly : (ns : List ℕ) (count : ℕ) → Whole ns count
unfolding taken_of refusal_of
whole_exactly [] count = (λ _. refl, λ _. refl)
whole_exactly (n ∷ ns) count = whole_first n ns count (whole_exactly ns (count + 1))

-- ---- the call
module _ (q : Queue) (ns : List ℕ) where
  abbrev took : Answered RegisteredAll
  took = registered_all q ns

  -- the calls that were taken
  abbrev separately : List Call
  separately = registers_of (take took.answer.taken ns)

  -- a fact of what it gives, from the fact of a record that is not well formed, and of what is decided
  by_soundness : (P : Answered RegisteredAll → Type 0) → (well_formed q ≡ false → P (took_none q (Some Broken)))
      → (well_formed q ≡ true → P (took_of q ns (taken_of ns q.count) (refusal_of ns q.count))) → P took
  by_soundness P bad good = by (well_formed q) refl
    where
      by : (b : Bool) → well_formed q ≡ b → P took
      by false w = subst P (sym (all_broken q ns w)) (bad w)
      by true w = subst P (sym (all_decided q ns w)) (good w)

  -- the record is that of the separate calls that were taken
  pub all_separate : took.queue ≡ after_all q separately
  all_separate = by_soundness (λ (r : Answered RegisteredAll). r.queue ≡ after_all q (registers_of (take r.answer.taken ns))) (λ _. refl) (λ w. (separate q ns w).leaves)

  -- each of them gives the next token
  pub all_tokens : tokens q separately ≡ counted_from q.count took.answer.taken
  all_tokens = by_soundness (λ (r : Answered RegisteredAll). tokens q (registers_of (take r.answer.taken ns)) ≡ counted_from q.count r.answer.taken) (λ _. refl) (λ w. (separate q ns w).gives)

  -- what refuses it: 1, or what refuses the register of the next one, behind them
  pub all_refusal : took.answer.refusal ≡ first_refusal (register_all_order q ns took.answer.taken)
  all_refusal =
      by_soundness (λ (r : Answered RegisteredAll). r.answer.refusal ≡ first_refusal (register_all_order q ns r.answer.taken))
      (λ w. sym (hit _ (ap not w))) (λ w. (separate q ns w).next ∙ sym (miss _ (ap not w)))

  -- and its number
  pub all_number : result_number took.answer.refusal ≡ first_due (register_all_order q ns took.answer.taken)
  all_number = ap result_number all_refusal ∙ sym (refusal_due (register_all_order q ns took.answer.taken))

  -- how many: the least of those before the first 0 and the free slots
  pub all_counted : well_formed q ≡ true → took.answer.taken ≡ min (before_zero ns) (64 - q.count)
  all_counted w = ap (λ (r : Answered RegisteredAll). r.answer.taken) (all_decided q ns w) ∙ taken_exactly ns q.count

  -- it is not refused exactly if the record is well formed and all are taken
  pub all_done : (took.answer.refusal ≡ None) ↔ ((well_formed q ≡ true) × (took.answer.taken ≡ length ns))
  all_done =
      by_soundness (λ (r : Answered RegisteredAll). (r.answer.refusal ≡ None) ↔ ((well_formed q ≡ true) × (r.answer.taken ≡ length ns)))
      (λ w. (λ z. some_none z, λ b. clash b.0 w)) (λ w. (λ z. (w, (whole_exactly ns q.count).0 z), λ b. (whole_exactly ns q.count).1 b.1))

  -- none taken changes nothing
  pub all_none : took.answer.taken ≡ 0 → took.queue ≡ q
  all_none z = all_separate ∙ ap (λ (t : ℕ). after_all q (registers_of (take t ns))) z

-- an empty list: none taken, and 1 or 0
pub all_empty : (q : Queue) → registered_all q [] ≡ took_none q (first_refusal (broken_only q))
unfolding registered_all in_turn
all_empty q = by (well_formed q) refl
  where
    by : (b : Bool) → well_formed q ≡ b → registered_all q [] ≡ took_none q (first_refusal (broken_only q))
    by true w = miss _ (ap not w) ∙ ap (took_none q) (sym (miss _ (ap not w)))
    by false w = hit _ (ap not w) ∙ ap (took_none q) (sym (hit _ (ap not w)))

-- ---- part by part: each token's number behind the others, and nothing else moves
record Pushed (q : Queue) (numbers : List ℕ) (p : Queue) : Type 0 where
  slots : take p.count p.slots ≡ take q.count q.slots ++ numbers
  count : p.count ≡ q.count + length numbers
  selected : LeavesSelected q p
  phase : p.phase ≡ q.phase

pushed_more : (q : Queue) (n : ℕ) (ns : List ℕ) (p : Queue) → length q.slots ≡ 64 → q.count < 64 → Pushed (grown q n) ns p → Pushed q (n ∷ ns) p
pushed_more q n ns p l h r =
    let one : take (q.count + 1) (set q.slots q.count n) ≡ take q.count q.slots ++ (n ∷ []) = rw add-one (take-suc-set q.slots q.count n (omega arith)) in
    record {
      slots = r.slots ∙ (ap (λ (xs : List ℕ). xs ++ ns) one ∙ append_snoc (take q.count q.slots) n ns);
      count = omega (arith, r.count);
      selected = r.selected;
      phase = r.phase;
    }

pushed_all : (q : Queue) (ns : List ℕ) → length q.slots ≡ 64 → q.count + length ns ≤ 64 → Pushed q ns (grown_all q ns)
unfolding grown_all
pushed_all q [] l h = record { slots = sym (append-nil (take q.count q.slots)); count = omega arith; selected = (refl, refl, refl, refl); phase = refl }
pushed_all q (n ∷ ns) l h = pushed_more q n ns _ l (omega arith) (pushed_all (grown q n) ns (length-set q.slots q.count n ∙ l) (omega arith))

pub all_pushes : (q : Queue) (ns : List ℕ) → Sized q → PushesAll q ns (registered_all q ns)
all_pushes q ns s =
    by_soundness q ns (PushesAll q ns)
    (λ _. (sym (append-nil (take q.count q.slots)), omega arith, (refl, refl, refl, refl), refl))
    (λ w.
    let t : ℕ = taken_of ns q.count in
    let l : length (take t ns) ≡ t = length-take-le t ns (taken_within ns q.count) in
    let b : Pushed q (take t ns) (grown_all q (take t ns)) = pushed_all q (take t ns) s.slots (omega (arith, taken_room ns q.count (fit q w).count)) in
    (b.slots, omega (arith, b.count), b.selected, b.phase))
