-- A whole list on words: a token more for each number, one by one, and the call by what was decided
use Prim.Native.Nat.{ℕ, ◌+◌, ◌<◌, ◌≤◌}
use mathlib.Core.Path.{◌≡◌, refl, sym, ap, ◌∙◌}
use mathlib.Core.Bool.{true, false, not}
use mathlib.Core.List.{List}
use native.Mathlib.Omega.{arith}
use lib.ListN.{length, take, drop, get_or, length-set}
use Rattle.choice.proofs.Ways.{hit}
use Rattle.queue_record.specs.declared.refusal.Refusal.TheVariants.{Broken}
use Rattle.queue_record.specs.Record.{Sized}
use Rattle.queue_record.specs.declared.record.Queue.{Queue}
use Rattle.queue_decisions.specs.Sequences.{taking_of}
use Rattle.queue_decisions.specs.declared.sequences.Taking.{Taking}
use Rattle.queue_decisions.proofs.SequenceLaws.{sequence_front, sequence_part, sequence_room}
use Rattle.queue_births.specs.Births.{grown}
use Rattle.queue_births.specs.Sequences.{took_as, grown_all, registered_all}
use Rattle.queue_births.proofs.Grown.{grown_fits}
use Rattle.queue_births.proofs.SequenceLaws.{all_taken, grown_more, grown_end}
use Rattle.queue_words.specs.Layout.{at_count}
use Rattle.queue_words.specs.Words.{word, queue_of, words_of, is_sound}
use Rattle.queue_words.specs.Exported.{refused_on, born_all_said, born_all_exported, register_all_on}
use Rattle.queue_words.proofs.RoundTrip.{queue_again, queue_sized}
use Rattle.queue_words.proofs.OnWords.{record_sound, sound_fits, sound_length, sound_on, same_words_lem, few_tokens, unsound_on}

-- ---- one token more: the words stay sound, and are read as the grown record
module _ (ws : List ℕ) (s : is_sound ws ≡ true) (n : ℕ) where
  abbrev more : Queue
  more = grown (queue_of ws) n

  more_sized : Sized more
  more_sized =
      let z = queue_sized ws (sound_length ws s) in
      record { slots = length-set (queue_of ws).slots (queue_of ws).count n ∙ z.slots; bindings = z.bindings }

  more_sound : word ws at_count < 64 → is_sound (words_of more) ≡ true
  unfolding queue_of
  more_sound room = record_sound more more_sized (grown_fits (queue_of ws) n (sound_fits ws s) room)

  more_read : queue_of (words_of more) ≡ more
  more_read = queue_again more more_sized

  more_count : word (words_of more) at_count ≡ word ws at_count + 1
  unfolding queue_of
  more_count = ap (λ (q : Queue). q.count) more_read

-- ---- the walk: where the first i numbers are stored, and the words have come to be ws
module _ (was numbers : List ℕ) where
  pub record Stored (ws : List ℕ) (i : ℕ) : Type 0 where
    pub sound : is_sound ws ≡ true
    pub count : word ws at_count ≡ word was at_count + i
    pub left : grown_all (queue_of ws) (drop i numbers) ≡ grown_all (queue_of was) numbers
    pub within : i ≤ length numbers

  pub stored_none : is_sound was ≡ true → Stored was 0
  stored_none s = record { sound = s; count = omega arith; left = refl; within = omega arith }

  module _ (ws : List ℕ) (i : ℕ) (at : Stored ws i) where
    pub stored_room : word was at_count + length numbers ≤ 64 → i < length numbers → word ws at_count < 64
    stored_room few h = omega (arith, at.count)

    pub stored_more : word was at_count + length numbers ≤ 64 → i < length numbers → (next : List ℕ) → next ≡ words_of (grown (queue_of ws) (get_or numbers i 0)) → Stored next (i + 1)
    stored_more few h next e =
        let n = get_or numbers i 0 in
        record {
          sound = ap is_sound e ∙ more_sound ws at.sound n (stored_room few h);
          count = ap (λ (vs : List ℕ). word vs at_count) e ∙ (more_count ws at.sound n ∙ omega (arith, at.count));
          left = ap (λ (vs : List ℕ). grown_all (queue_of vs) (drop (i + 1) numbers)) e
              ∙ (ap (λ (q : Queue). grown_all q (drop (i + 1) numbers)) (more_read ws at.sound n) ∙ (sym (grown_more numbers (queue_of ws) i h) ∙ at.left));
          within = omega arith;
        }

    pub stored_all : length numbers ≤ i → ws ≡ words_of (grown_all (queue_of was) numbers)
    stored_all h = sym (same_words_lem ws at.sound) ∙ ap words_of (sym (grown_end numbers (queue_of ws) i h) ∙ at.left)

-- ---- by what was decided of the list: stored from the copy, the call is the queue's
module _ (ws numbers : List ℕ) (s : is_sound ws ≡ true) (decided : Taking) (e : decided ≡ taking_of numbers (word ws at_count)) where
  abbrev part : List ℕ
  part = take decided.taken decided.numbers

  pub part_room : word ws at_count + length part ≤ 64
  part_room = sequence_room numbers (word ws at_count) decided e decided.taken (omega arith) (few_tokens ws s)

  pub all_from_part : born_all_said (took_as (length part) decided.refusal) (words_of (grown_all (queue_of ws) part)) ≡ register_all_on ws numbers
  unfolding register_all_on queue_of
  all_from_part =
      let t = decided.taken in
      ap (λ (k : ℕ). born_all_said (took_as k decided.refusal) (words_of (grown_all (queue_of ws) part))) (sequence_part numbers (word ws at_count) decided e t (omega arith))
      ∙ (ap (λ (ns : List ℕ). born_all_said (took_as t decided.refusal) (words_of (grown_all (queue_of ws) ns))) (sequence_front numbers (word ws at_count) decided e t (omega arith))
      ∙ (ap born_all_exported (all_taken (queue_of ws) numbers (sound_fits ws s) decided e) ∙ sym (sound_on ws s 0 _)))

-- words that are not sound are refused with 1, and none is taken
pub register_all_unsound : (ws numbers : List ℕ) → is_sound ws ≡ false → register_all_on ws numbers ≡ refused_on Broken 0 ws
unfolding register_all_on registered_all
register_all_unsound ws numbers u = unsound_on ws 0 _ u (λ w. ap born_all_exported (hit _ (ap not w)))
