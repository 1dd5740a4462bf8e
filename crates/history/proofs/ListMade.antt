-- A whole list recorded is the separate recorded registers that were taken: where they lead, its number, and how many they are
use Prim.Native.Nat.{ℕ, ◌+◌, ◌-◌, ◌<◌, ◌≤◌, min}
use mathlib.Core.Path.{◌≡◌, refl, sym, ap, ◌∙◌, subst}
use mathlib.Core.Logic.{◌↔◌}
use mathlib.Core.Bool.{Bool, true, false, not}
use mathlib.Core.List.{List, [], ◌∷◌, ◌++◌}
use native.Mathlib.Omega.{arith}
use borrow.Author.Tests.{ltb-true, ltb-false, le-ltb}
use lib.Dec.{ltb}
use lib.ListN.{length, take, drop}
use Rattle.choice.proofs.Ways.{hit, miss, if_by, clash}
use Rattle.queue_record.specs.declared.refusal.Refusal.{Refusal}
use Rattle.queue_record.specs.Refusals.{refusal_number, result_number}
use Rattle.queue_record.proofs.Refused.{some_none}
use Rattle.queue_record.specs.declared.refusal.Refusal.TheVariants.{Broken}
use Rattle.queue_record.specs.WellFormed.{well_formed}
use Rattle.queue_record.specs.declared.record.Queue.{Queue}
use Rattle.queue_decisions.specs.Sequences.{taken_of, refusal_of}
use Rattle.queue_decisions.proofs.SequenceLaws.{taken_within}
use Rattle.queue_births.specs.Sequences.{took_as, took_more, registered_all}
use Rattle.queue_births.specs.declared.sequences.RegisteredAll.{RegisteredAll}
use Rattle.queue_births.proofs.SequenceLaws.{all_decided}
use Rattle.cleanup_queue.specs.Answers.{registered_says}
use Rattle.cleanup_queue.specs.Orders.{Ground, due, first_refusal, first_due, broken_only}
use Rattle.cleanup_queue.specs.Runs.{Call, register, after_all}
use Rattle.cleanup_queue.specs.WholeLists.{registers_of, before_zero}
use Rattle.cleanup_queue.proofs.ListLaws.{taken_exactly, whole_exactly}
use Rattle.log_rows.specs.Appending.{rows_fit, free_rows}
use Rattle.log_entries.specs.Keeping.{Kept, kept_as}
use Rattle.log_births.specs.Births.{register_recorded}
use Rattle.log_births.specs.Sequences.{until_refused_kept, recorded_in_turn, register_all_recorded, took_within}
use Rattle.log_births.proofs.SequenceLaws.{kept_of, decided_of, all_recorded}
use Rattle.cleanup_log.proofs.RecordedNumbers.{register_recorded_number}
use Rattle.cleanup_log.proofs.RecordedApart.{register_recorded_apart}
use Rattle.history.specs.Histories.{Bench, called, number_of, Made, no_call, one_call}
use Rattle.history.specs.ListedHistories.{stands_at, list_recorded, listed_to, list_answer, first_recorded_order, list_order}
use Rattle.history.proofs.Written.{refused_stays, accepted_is}
use Rattle.std.specs.Prelude.{Some, None, Ok, Err}
use Rattle.queue_record.specs.declared.answered.Answered.{Answered}
use Rattle.queue_births.specs.Types.{Registered}

-- accepted calls leave in the queue what the plain ones leave
made_after : {a b : Bench} {cs : List Call} → Made a cs b → b.queue ≡ after_all a.queue cs
made_after no_call = refl
made_after (one_call {a} {b} {c} {cs} z m) = made_after m ∙ ap (λ (q : Queue). after_all q cs) (ap (λ (x : Bench). x.queue) (accepted_is a c z).2)

made_none : {a b : Bench} → Made a [] b → b ≡ a
made_none no_call = refl

-- ---- each number in turn
module _ (b : Bench) (n : ℕ) (ns : List ℕ) where
  abbrev one : Kept Registered
  one = register_recorded b.queue n b.log b.used

  abbrev rest : Kept RegisteredAll
  rest = recorded_in_turn one.queue ns one.log one.used

  -- by the answer to the first
  by_first : (P : Kept RegisteredAll → Type 0)
      → ((token : ℕ) → one.answer ≡ Ok token → P (kept_as (took_more rest.answer) rest.queue rest.used rest.log))
      → ((refusal : Refusal) (given : ℕ) → one.answer ≡ Err (refusal, given) → P (kept_as (took_as 0 (Some refusal)) one.queue one.used one.log))
      → P (recorded_in_turn b.queue (n ∷ ns) b.log b.used)
  unfolding recorded_in_turn
  by_first P taken refused = go one.answer refl
    where
      go : (a : Registered) → one.answer ≡ a → P (until_refused_kept one.answer one rest)
      go (Ok token) e = subst P (sym (ap (λ (x : Registered). until_refused_kept x one rest) e)) (taken token e)
      go (Err (refusal, given)) e = subst P (sym (ap (λ (x : Registered). until_refused_kept x one rest) e)) (refused refusal given e)

  -- refused, it leaves the bench
  refused_leaves : (refusal : Refusal) (given : ℕ) → one.answer ≡ Err (refusal, given) → called b (register n) ≡ b
  refused_leaves refusal given e = refused_stays b (register n) (λ z. register_recorded_apart b.queue b.log b.used n refusal given e (number ∙ z))
    where
      number : refusal_number refusal ≡ number_of b (register n)
      number = sym (ap (λ (a : Registered). (registered_says a).number) e)

-- so many of a list lead there
abbrev Leads : Bench → List ℕ → Kept RegisteredAll → Type 0
Leads b ns k = Made b (registers_of (take k.answer.taken ns)) (stands_at k)

in_turn_made : (b : Bench) (ns : List ℕ) → Leads b ns (recorded_in_turn b.queue ns b.log b.used)
unfolding recorded_in_turn
in_turn_made b [] = no_call
in_turn_made b (n ∷ ns) =
    by_first b n ns (Leads b (n ∷ ns)) (λ token e. one_call (ap (λ (a : Registered). (registered_says a).number) e) (in_turn_made (called b (register n)) ns))
    (λ refusal given e. subst (Made b []) (sym (refused_leaves b n ns refusal given e)) no_call)

-- and its number is that of the next one there
abbrev Next : List ℕ → Kept RegisteredAll → Type 0
Next ns k = result_number k.answer.refusal ≡ first_due (first_recorded_order (stands_at k) (drop k.answer.taken ns))

first_number : (b : Bench) (n : ℕ) (ns : List ℕ) → number_of b (register n) ≡ first_due (first_recorded_order b (n ∷ ns))
first_number b n ns = register_recorded_number b.queue b.log b.used n

in_turn_next : (b : Bench) (ns : List ℕ) → Next ns (recorded_in_turn b.queue ns b.log b.used)
unfolding recorded_in_turn
in_turn_next b [] = refl
in_turn_next b (n ∷ ns) =
    by_first b n ns (Next (n ∷ ns)) (λ token e. in_turn_next (called b (register n)) ns)
    (λ refusal given e.
    sym (ap (λ (a : Registered). (registered_says a).number) e)
    ∙ (first_number b n ns ∙ ap (λ (x : Bench). first_due (first_recorded_order x (n ∷ ns))) (sym (refused_leaves b n ns refusal given e))))

-- ---- the call
module _ (b : Bench) (ns : List ℕ) where
  abbrev sound : Bool
  sound = well_formed b.queue

  abbrev fits : Bool
  fits = rows_fit (length b.log) b.used

  abbrev none : Kept RegisteredAll
  none = kept_as (took_as 0 (Some Broken)) b.queue b.used b.log

  unfit_none : fits ≡ false → list_recorded b ns ≡ none
  unfolding register_all_recorded
  unfit_none f = hit _ (ap not f)

  broken_none : fits ≡ true → sound ≡ false → list_recorded b ns ≡ none
  unfolding register_all_recorded
  broken_none f w = miss _ (ap not f) ∙ hit _ (ap not w)

  in_turn_all : fits ≡ true → sound ≡ true → list_recorded b ns ≡ recorded_in_turn b.queue ns b.log b.used
  unfolding register_all_recorded
  in_turn_all f w = miss _ (ap not f) ∙ miss _ (ap not w)

  -- a fact of what it gives, from the fact of none taken, and of each in turn
  by_soundness : (P : Kept RegisteredAll → Type 0) → (fits ≡ false → P none) → (fits ≡ true → sound ≡ false → P none)
      → (fits ≡ true → sound ≡ true → P (recorded_in_turn b.queue ns b.log b.used)) → P (list_recorded b ns)
  by_soundness P unfit bad good = by fits refl sound refl
    where
      by : (f : Bool) → fits ≡ f → (w : Bool) → sound ≡ w → P (list_recorded b ns)
      by false f w h = subst P (sym (unfit_none f)) (unfit f)
      by true f false w = subst P (sym (broken_none f w)) (bad f w)
      by true f true w = subst P (sym (in_turn_all f w)) (good f w)

  -- where it leads: there the separate recorded registers lead that were taken, each accepted
  pub list_made : Made b (registers_of (take (list_answer b ns).taken ns)) (listed_to b ns)
  list_made = by_soundness (Leads b ns) (λ _. no_call) (λ _ _. no_call) (λ _ _. in_turn_made b ns)

  -- its number: 1, or that of the recorded register of the next one, behind them
  pub list_number_lem : result_number (list_answer b ns).refusal ≡ first_due (list_order b ns)
  list_number_lem =
      by_soundness (λ (k : Kept RegisteredAll). result_number k.answer.refusal ≡ first_due (order_behind k)) (λ f. sym (hit _ (ap not f)))
      (λ f w. sym (miss _ (ap not f) ∙ hit _ (ap not w))) (λ f w. in_turn_next b ns ∙ sym (miss _ (ap not f) ∙ miss _ (ap not w)))
    where
      order_behind : Kept RegisteredAll → List Ground
      order_behind k = due Broken (not fits) ∷ (broken_only b.queue ++ first_recorded_order (stands_at k) (drop k.answer.taken ns))

  -- ---- how many, and what they leave
  -- decided at once
  decided : fits ≡ true → sound ≡ true → list_recorded b ns ≡ kept_of b.queue ns b.log b.used (decided_of (length b.log) b.used ns b.queue.count)
  decided f w = all_recorded b.queue ns b.log b.used w f

  -- what is decided of the list, and of it with the rows
  abbrev plain : ℕ
  plain = taken_of ns b.queue.count

  abbrev free : ℕ
  free = free_rows (length b.log) b.used

  within_rows : (took_within free plain (refusal_of ns b.queue.count)).taken ≡ min plain free
  within_rows =
      if_by (λ (r : RegisteredAll). r.taken ≡ min plain free) (ltb free plain) _ _
      (λ h. let l : free < plain = ltb-true _ _ h in omega arith) (λ h. let l : plain ≤ free = ltb-false _ _ h in omega arith)

  -- the least of those before the first 0, the free slots and the free rows
  pub list_counted_lem : fits ≡ true → sound ≡ true → (list_answer b ns).taken ≡ min (before_zero ns) (min (64 - b.queue.count) free)
  list_counted_lem f w =
      let e : (list_answer b ns).taken ≡ min plain free = ap (λ (k : Kept RegisteredAll). k.answer.taken) (decided f w) ∙ within_rows in
      omega (arith, e, taken_exactly ns b.queue.count)

  -- a fact of what it gives, from the fact of none taken, and of what is decided
  by_decision : (P : Kept RegisteredAll → Type 0) → (fits ≡ false → P none) → (fits ≡ true → sound ≡ false → P none)
      → (fits ≡ true → sound ≡ true → P (kept_of b.queue ns b.log b.used (decided_of (length b.log) b.used ns b.queue.count))) → P (list_recorded b ns)
  by_decision P unfit bad good = by_soundness P unfit bad (λ f w. subst P (sym (decided f w) ∙ in_turn_all f w) (good f w))

  -- a row for each
  pub list_used : (listed_to b ns).used ≡ b.used + (list_answer b ns).taken
  list_used = by_decision (λ (k : Kept RegisteredAll). k.used ≡ b.used + k.answer.taken) (λ _. omega arith) (λ _ _. omega arith) (λ _ _. refl)

  -- not refused exactly if the used rows fit, the record is well formed and all are taken
  abbrev Unrefused : RegisteredAll → Type 0
  Unrefused r = (r.refusal ≡ None) ↔ ((fits ≡ true) × (sound ≡ true) × (r.taken ≡ length ns))

  decided_done : fits ≡ true → sound ≡ true → Unrefused (decided_of (length b.log) b.used ns b.queue.count)
  decided_done f w =
      let all = whole_exactly ns b.queue.count in
      if_by Unrefused (ltb free plain) _ _
      (λ h. let l : free < plain = ltb-true _ _ h in (λ z. some_none z, λ a. absurd (omega (arith, a.2, taken_within ns b.queue.count))))
      (λ h. (λ z. (f, w, all.0 z), λ a. all.1 a.2))

  pub list_done : Unrefused (list_answer b ns)
  list_done =
      by_decision (λ (k : Kept RegisteredAll). Unrefused k.answer) (λ f. (λ z. some_none z, λ a. clash a.0 f))
      (λ f w. (λ z. some_none z, λ a. clash a.1 w)) decided_done

  -- none taken changes nothing, neither the record nor the used count nor the log
  pub list_none : (list_answer b ns).taken ≡ 0 → listed_to b ns ≡ b
  list_none z = made_none (subst (λ (t : ℕ). Made b (registers_of (take t ns)) (listed_to b ns)) z list_made)

  -- the record is that of the separate calls
  pub list_queue : (listed_to b ns).queue ≡ after_all b.queue (registers_of (take (list_answer b ns).taken ns))
  list_queue = made_after list_made

  -- with a row free for each that could be taken, it answers as the plain call
  pub list_as_plain : fits ≡ true → sound ≡ true → (registered_all b.queue ns).answer.taken ≤ free → list_answer b ns ≡ (registered_all b.queue ns).answer
  list_as_plain f w l =
      let p : (registered_all b.queue ns).answer ≡ took_as plain (refusal_of ns b.queue.count) = ap (λ (r : Answered RegisteredAll). r.answer) (all_decided b.queue ns w) in
      ap (λ (k : Kept RegisteredAll). k.answer) (decided f w) ∙ (miss _ (le-ltb free plain (omega (arith, l, ap (λ (r : RegisteredAll). r.taken) p))) ∙ sym p)

-- an empty list: none taken, and refused with 1 or not, but never with 17
pub list_empty_lem : (b : Bench) → (list_answer b [] ≡ took_as 0 (first_refusal (due Broken (not (rows_fit (length b.log) b.used)) ∷ broken_only b.queue))) × (listed_to b [] ≡ b)
unfolding recorded_in_turn
list_empty_lem b = (answer, list_none b [] (ap (λ (r : RegisteredAll). r.taken) answer))
  where
    answer : list_answer b [] ≡ took_as 0 (first_refusal (due Broken (not (rows_fit (length b.log) b.used)) ∷ broken_only b.queue))
    answer =
        by_soundness b [] (λ (k : Kept RegisteredAll). k.answer ≡ took_as 0 (first_refusal (due Broken (not (rows_fit (length b.log) b.used)) ∷ broken_only b.queue)))
        (λ f. ap (took_as 0) (sym (hit _ (ap not f)))) (λ f w. ap (took_as 0) (sym (miss _ (ap not f) ∙ hit _ (ap not w))))
        (λ f w. ap (took_as 0) (sym (miss _ (ap not f) ∙ miss _ (ap not w))))
