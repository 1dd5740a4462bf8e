-- Each registered in turn is what is decided at once: so many taken, a token more for each of them
use Prim.Native.Nat.{ℕ, suc, ◌+◌, ◌<◌, ◌≤◌}
use mathlib.Core.Path.{◌≡◌, refl, sym, ap, ◌∙◌}
use mathlib.Core.Bool.{true, not}
use mathlib.Core.List.{List, [], ◌∷◌}
use Rattle.std.specs.Prelude.{Option, Some, None}
use lib.ListN.{length, take, drop, get_or, drop_of_length-le}
use Rattle.choice.proofs.Ways.{miss}
use Rattle.queue_record.specs.declared.refusal.Refusal.{Refusal}
use Rattle.queue_record.specs.WellFormed.{well_formed}
use Rattle.queue_record.specs.declared.record.Queue.{Queue}
use Rattle.queue_decisions.specs.Births.{register_refusal}
use Rattle.queue_decisions.specs.Sequences.{taken_of, refusal_of, taking_of}
use Rattle.queue_decisions.specs.declared.sequences.Taking.{Taking}
use Rattle.queue_decisions.proofs.BirthLaws.{register_room}
use Rattle.queue_decisions.proofs.SequenceLaws.{next_first, taken_one, taken_none, refusal_behind, refusal_here, sequence_taken, sequence_refusal}
use Rattle.queue_births.specs.Births.{born, refused_birth, grown, born_by, registered}
use Rattle.queue_births.specs.Sequences.{took_as, took_none, until_refused, in_turn, registered_all, grown_all}
use Rattle.queue_births.proofs.Grown.{grown_fits}
use Rattle.queue_record.specs.declared.answered.Answered.{Answered}
use Rattle.queue_births.specs.Types.{Registered}
use Rattle.queue_births.specs.declared.sequences.RegisteredAll.{RegisteredAll}

-- ---- register of a well-formed record is what its decision says
module _ (q : Queue) (n : ℕ) (w : well_formed q ≡ true) where
  registered_by : registered q n ≡ born_by q n (grown q n) (register_refusal n q.count)
  unfolding registered
  registered_by = miss _ (ap not w)

  pub registered_born : register_refusal n q.count ≡ None → registered q n ≡ born q (grown q n)
  registered_born e = registered_by ∙ ap (born_by q n (grown q n)) e

  pub registered_refused : (r : Refusal) → register_refusal n q.count ≡ Some r → registered q n ≡ refused_birth q r n
  registered_refused r e = registered_by ∙ ap (born_by q n (grown q n)) e

-- so many taken of a list, and what refuses the next one
abbrev pub took_of : Queue → List ℕ → ℕ → Option Refusal → Answered RegisteredAll
took_of q numbers taken refusal = record { answer = took_as taken refusal; queue = grown_all q (take taken numbers) }

grown_none : (q : Queue) → grown_all q [] ≡ q
unfolding grown_all
grown_none q = refl

none_left : (q : Queue) → in_turn q [] ≡ took_of q [] (taken_of [] q.count) (refusal_of [] q.count)
unfolding in_turn taken_of refusal_of grown_all
none_left q = refl

-- one more in front
took_more_lem : (q : Queue) (n : ℕ) (ns : List ℕ) (t : ℕ) (r : Option Refusal)
    → until_refused (born q (grown q n)).answer (grown q n) (took_of (grown q n) ns t r) ≡ took_of q (n ∷ ns) (suc t) r
unfolding grown_all
took_more_lem q n ns t r = refl

-- by a step's answer and record, whatever the step
abbrev onward : Answered Registered → List ℕ → Answered RegisteredAll
onward step ns = until_refused step.answer step.queue (in_turn step.queue ns)

onward_is : (q : Queue) (n : ℕ) (ns : List ℕ) → in_turn q (n ∷ ns) ≡ onward (registered q n) ns
unfolding in_turn
onward_is q n ns = refl

-- a list whose first number is taken or refused, where what is decided of the rest behind it is known
module _ (q : Queue) (n : ℕ) (ns : List ℕ) (w : well_formed q ≡ true)
    (rest : well_formed (grown q n) ≡ true → in_turn (grown q n) ns ≡ took_of (grown q n) ns (taken_of ns (q.count + 1)) (refusal_of ns (q.count + 1))) where
  abbrev Decided : Type 0
  Decided = in_turn q (n ∷ ns) ≡ took_of q (n ∷ ns) (taken_of (n ∷ ns) q.count) (refusal_of (n ∷ ns) q.count)

  first_taken : register_refusal n q.count ≡ None → Decided
  first_taken e =
      onward_is q n ns
      ∙ (ap (λ (r : Answered Registered). onward r ns) (registered_born q n w e)
      ∙ (ap (until_refused (born q (grown q n)).answer (grown q n)) (rest (grown_fits q n w (register_room n q.count e)))
      ∙ (took_more_lem q n ns (taken_of ns (q.count + 1)) (refusal_of ns (q.count + 1))
      ∙ (ap (λ (t : ℕ). took_of q (n ∷ ns) t (refusal_of ns (q.count + 1))) (sym (taken_one n ns q.count e))
      ∙ ap (took_of q (n ∷ ns) (taken_of (n ∷ ns) q.count)) (sym (refusal_behind n ns q.count e))))))

  first_refused : (r : Refusal) → register_refusal n q.count ≡ Some r → Decided
  first_refused r e =
      onward_is q n ns
      ∙ (ap (λ (a : Answered Registered). onward a ns) (registered_refused q n w r e)
      ∙ (none_grown (Some r)
      ∙ (ap (took_of q (n ∷ ns) 0) (sym (refusal_here n ns q.count r e ∙ e))
      ∙ ap (λ (t : ℕ). took_of q (n ∷ ns) t (refusal_of (n ∷ ns) q.count)) (sym (taken_none n ns q.count r e)))))
    where
      none_grown : (o : Option Refusal) → took_none q o ≡ took_of q (n ∷ ns) 0 o
      none_grown o = ap (λ (p : Queue). record { answer = took_as 0 o; queue = p }) (sym (grown_none q))

  first_decided : Decided
  first_decided = by (register_refusal n q.count) refl
    where
      by : (o : Option Refusal) → register_refusal n q.count ≡ o → Decided
      by None e = first_taken e
      by (Some r) e = first_refused r e

pub in_turn_decided : (q : Queue) (ns : List ℕ) → well_formed q ≡ true → in_turn q ns ≡ took_of q ns (taken_of ns q.count) (refusal_of ns q.count)
in_turn_decided q [] w = none_left q
in_turn_decided q (n ∷ ns) w = first_decided q n ns w (in_turn_decided (grown q n) ns)

-- the call, decided at once
pub all_decided : (q : Queue) (ns : List ℕ) → well_formed q ≡ true → registered_all q ns ≡ took_of q ns (taken_of ns q.count) (refusal_of ns q.count)
unfolding registered_all
all_decided q ns w = miss _ (ap not w) ∙ in_turn_decided q ns w

-- and by what was decided, as who asked has it
pub all_taken : (q : Queue) (ns : List ℕ) → well_formed q ≡ true → (s : Taking) → s ≡ taking_of ns q.count → took_of q ns s.taken s.refusal ≡ registered_all q ns
all_taken q ns w s e =
    ap (λ (t : ℕ). took_of q ns t s.refusal) (sequence_taken ns q.count s e)
    ∙ (ap (took_of q ns (taken_of ns q.count)) (sequence_refusal ns q.count s e) ∙ sym (all_decided q ns w))

-- ---- a token more for each of a list, one by one
module _ (ns : List ℕ) where
  pub grown_more : (after : Queue) (i : ℕ) → i < length ns → grown_all after (drop i ns) ≡ grown_all (grown after (get_or ns i 0)) (drop (i + 1) ns)
  unfolding grown_all
  grown_more after i h = ap (grown_all after) (next_first ns i h)

  pub grown_end : (after : Queue) (i : ℕ) → length ns ≤ i → grown_all after (drop i ns) ≡ after
  grown_end after i h = ap (grown_all after) (drop_of_length-le ns h) ∙ grown_none after
