-- A list of numbers decided one by one: what is known where the first i of them are taken
use Prim.Native.Nat.{ℕ, suc, ◌+◌, ◌-◌, ◌<◌, ◌≤◌}
use mathlib.Core.Path.{◌≡◌, sym, ap, ◌∙◌}
use mathlib.Core.List.{List, [], ◌∷◌}
use native.Mathlib.Omega.{arith}
use native.Mathlib.Numerals.{add-one}
use Rattle.std.specs.Prelude.{Option, Some, None, is_none}
use lib.ListN.{length, take, drop, get_or, set, replicate, drop_of_length-le, length-append}
use lib.Seq.{drop-cons, take-append-le, take-take, length-take-le}
use Rattle.choice.proofs.Ways.{hit, miss, if_by}
use Rattle.queue_record.specs.declared.refusal.Refusal.{Refusal}
use Rattle.queue_record.proofs.Refused.{is_nothing, nothing_is, is_something}
use Rattle.queue_record.proofs.Padding.{filled_more, filled_is}
use Rattle.queue_decisions.specs.Births.{register_refusal}
use Rattle.queue_decisions.specs.Sequences.{taken_of, refusal_of, copied, taking_of}
use Rattle.queue_decisions.specs.declared.sequences.Taking.{Taking}
use Rattle.queue_decisions.proofs.BirthLaws.{register_room}

-- what is left from a place on begins with the number there
pub next_first : (numbers : List ℕ) (i : ℕ) → i < length numbers → drop i numbers ≡ get_or numbers i 0 ∷ drop (i + 1) numbers
next_first numbers i h = rw add-one (drop-cons numbers i 0 h)

-- ---- by the first number
module _ (number : ℕ) (rest : List ℕ) (count : ℕ) where
  pub taken_one : register_refusal number count ≡ None → taken_of (number ∷ rest) count ≡ suc (taken_of rest (count + 1))
  unfolding taken_of
  taken_one e = hit _ (is_nothing e)

  pub taken_none : (r : Refusal) → register_refusal number count ≡ Some r → taken_of (number ∷ rest) count ≡ 0
  unfolding taken_of
  taken_none r e = miss _ (is_something e)

  pub refusal_behind : register_refusal number count ≡ None → refusal_of (number ∷ rest) count ≡ refusal_of rest (count + 1)
  unfolding refusal_of
  refusal_behind e = hit _ (is_nothing e)

  pub refusal_here : (r : Refusal) → register_refusal number count ≡ Some r → refusal_of (number ∷ rest) count ≡ register_refusal number count
  unfolding refusal_of
  refusal_here r e = miss _ (is_something e)

-- ---- no more are taken than there are, and than there are slots for
pub taken_within : (numbers : List ℕ) (count : ℕ) → taken_of numbers count ≤ length numbers
unfolding taken_of
taken_within [] count = omega arith
taken_within (n ∷ ns) count =
    if_by (λ (t : ℕ). t ≤ suc (length ns)) (is_none (register_refusal n count)) _ _
    (λ _. let l : taken_of ns (count + 1) ≤ length ns = taken_within ns (count + 1) in omega arith) (λ _. omega arith)

pub taken_room : (numbers : List ℕ) (count : ℕ) → count ≤ 64 → count + taken_of numbers count ≤ 64
unfolding taken_of
taken_room [] count h = omega arith
taken_room (n ∷ ns) count h =
    if_by (λ (t : ℕ). count + t ≤ 64) (is_none (register_refusal n count)) _ _
    (λ e.
    let r : count < 64 = register_room n count (nothing_is e) in
    let l : count + 1 + taken_of ns (count + 1) ≤ 64 = taken_room ns (count + 1) (omega arith) in
    omega arith)
    (λ _. omega arith)

-- ---- the copy
-- the taken numbers are its first ones
copied_front : (numbers : List ℕ) (n m : ℕ) → n ≤ m → m ≤ length numbers → take n (copied numbers m) ≡ take n numbers
copied_front numbers n m h l =
    let k : length (take m numbers) ≡ m = length-take-le m numbers l in
    take-append-le n (take m numbers) (replicate (64 - m) 0) (omega arith) ∙ take-take n m numbers h

pub copied_more : (given : List ℕ) (i : ℕ) → i < 64 → i < length given → set (copied given i) i (get_or given i 0) ≡ copied given (i + 1)
copied_more given i h l =
    ap (λ (xs : List ℕ). set xs i (get_or given i 0)) (sym (filled_is 64 given i)) ∙ (filled_more 64 given i h l ∙ filled_is 64 given (i + 1))

-- what is decided where so many are taken
abbrev pub decided : List ℕ → ℕ → Option Refusal → Taking
decided given taken refusal = record { numbers = copied given taken; taken = taken; refusal = refusal }

-- ---- where the first i are taken, with so many tokens: what is decided of the rest is what is decided of the whole
module _ (given : List ℕ) (count : ℕ) where
  pub record SoFar (tokens i : ℕ) : Type 0 where
    pub taken : taken_of given count ≡ i + taken_of (drop i given) tokens
    pub refusal : refusal_of given count ≡ refusal_of (drop i given) tokens

  module _ (tokens i : ℕ) (s : SoFar tokens i) where
    here : i < length given → drop i given ≡ get_or given i 0 ∷ drop (i + 1) given
    here h = next_first given i h

    pub so_far_more : i < length given → register_refusal (get_or given i 0) tokens ≡ None → SoFar (tokens + 1) (i + 1)
    so_far_more h e =
        let t : taken_of (drop i given) tokens ≡ suc (taken_of (drop (i + 1) given) (tokens + 1)) =
        ap (λ (xs : List ℕ). taken_of xs tokens) (here h) ∙ taken_one (get_or given i 0) (drop (i + 1) given) tokens e in
        record {
          taken = omega (arith, s.taken);
          refusal = s.refusal ∙ (ap (λ (xs : List ℕ). refusal_of xs tokens) (here h) ∙ refusal_behind (get_or given i 0) (drop (i + 1) given) tokens e);
        }

    -- ended here, by such a number
    ended : (refusal : Option Refusal) → taken_of (drop i given) tokens ≡ 0 → refusal_of (drop i given) tokens ≡ refusal → taking_of given count ≡ decided given i refusal
    unfolding taking_of
    ended refusal t r =
        let e : taken_of given count ≡ i = omega (arith, s.taken) in
        ap (λ (n : ℕ). decided given n (refusal_of given count)) e ∙ ap (decided given i) (s.refusal ∙ r)

    pub so_far_refused : i < length given → (r : Refusal) → register_refusal (get_or given i 0) tokens ≡ Some r
        → taking_of given count ≡ decided given i (register_refusal (get_or given i 0) tokens)
    so_far_refused h r e =
        ended _ (ap (λ (xs : List ℕ). taken_of xs tokens) (here h) ∙ taken_none (get_or given i 0) (drop (i + 1) given) tokens r e)
        (ap (λ (xs : List ℕ). refusal_of xs tokens) (here h) ∙ refusal_here (get_or given i 0) (drop (i + 1) given) tokens r e)

    pub so_far_all : length given ≤ i → taking_of given count ≡ decided given i None
    unfolding taken_of refusal_of
    so_far_all h =
        let none : drop i given ≡ [] = drop_of_length-le given h in
        ended None (ap (λ (xs : List ℕ). taken_of xs tokens) none) (ap (λ (xs : List ℕ). refusal_of xs tokens) none)

-- ---- what was decided, as who asked sees it: the first n of the copy can be lent, and are the first n of the list
module _ (given : List ℕ) (count : ℕ) (s : Taking) (e : s ≡ taking_of given count) where
  pub sequence_taken : s.taken ≡ taken_of given count
  unfolding taking_of
  sequence_taken = ap (λ (r : Taking). r.taken) e

  pub sequence_refusal : s.refusal ≡ refusal_of given count
  unfolding taking_of
  sequence_refusal = ap (λ (r : Taking). r.refusal) e

  sequence_numbers : s.numbers ≡ copied given (taken_of given count)
  unfolding taking_of
  sequence_numbers = ap (λ (r : Taking). r.numbers) e

  module _ (n : ℕ) (h : n ≤ s.taken) where
    pub sequence_front : take n s.numbers ≡ take n given
    sequence_front =
        ap (take n) sequence_numbers ∙ copied_front given n (taken_of given count) (omega (arith, sequence_taken)) (taken_within given count)

    pub sequence_lends : n ≤ length s.numbers
    sequence_lends =
        let t : ℕ = taken_of given count in
        let l : length (copied given t) ≡ length (take t given) + length (replicate {A = ℕ} (64 - t) 0) = length-append (take t given) (replicate (64 - t) 0) in
        let k : length (take t given) ≡ t = length-take-le t given (taken_within given count) in
        omega (arith, sequence_taken, ap (λ (xs : List ℕ). length xs) sequence_numbers)

    pub sequence_part : length (take n s.numbers) ≡ n
    sequence_part = length-take-le n s.numbers sequence_lends

    pub sequence_room : count ≤ 64 → count + length (take n s.numbers) ≤ 64
    sequence_room l = omega (arith, sequence_part, sequence_taken, taken_room given count l)
