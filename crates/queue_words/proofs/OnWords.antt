-- A call on sound words is the call on their record; on others it is refused with 1, and the words stay
use Prim.Native.Nat.{ℕ, ◌+◌, ◌-◌, ◌<◌, ◌≤◌}
use mathlib.Core.Path.{◌≡◌, refl, sym, ap, ◌∙◌}
use mathlib.Core.Bool.{Bool, true, false, not}
use mathlib.Core.List.{List}
use native.Mathlib.Omega.{arith}
use lib.ListN.{length, take, drop}
use lib.Seq.{take-take}
use Rattle.choice.proofs.Ways.{hit, miss, pass, and_left, and_right}
use Rattle.queue_record.specs.declared.refusal.Refusal.TheVariants.{Broken}
use Rattle.queue_record.specs.WellFormed.{rest_zero, well_formed}
use Rattle.queue_record.specs.Record.{Sized}
use Rattle.queue_record.specs.Waiting.{occupied}
use Rattle.queue_record.specs.declared.record.Queue.{Queue}
use Rattle.queue_record.specs.declared.record.Ticket.{Ticket}
use Rattle.queue_record.proofs.Fit.{fit, selected_below}
use Rattle.queue_record.proofs.Waiting.{occupied_take}
use Rattle.queue_words.specs.Layout.{at_slots, at_count, at_bound, word_count}
use Rattle.queue_words.specs.Words.{word, slots_in, selection_in, queue_of, words_of, encodes, is_sound}
use Rattle.queue_words.specs.Exported.{Exported, refused_on, on_record}
use Rattle.queue_words.proofs.RoundTrip.{encoded, words_again, queue_again, words_encode, queue_sized}
use Rattle.queue_words.proofs.Setters.{Held}
use Rattle.std.specs.Prelude.{Some}

-- the words of a well-formed record are sound
pub record_sound : (q : Queue) → Sized q → well_formed q ≡ true → is_sound (words_of q) ≡ true
unfolding is_sound
record_sound q s w = pass _ (words_encode q s) ∙ (ap well_formed (queue_again q s) ∙ w)

module _ (ws : List ℕ) where
  pub unsound_by : (given : ℕ) (answered : Exported) → is_sound ws ≡ false
      → (encodes ws ≡ true → well_formed (queue_of ws) ≡ false → answered ≡ refused_on Broken given ws) → on_record ws given answered ≡ refused_on Broken given ws
  unfolding is_sound
  unsound_by given answered u f = by (encodes ws) refl
    where
      by : (b : Bool) → encodes ws ≡ b → on_record ws given answered ≡ refused_on Broken given ws
      by false e = hit _ (ap not e)
      by true e = miss _ (ap not e) ∙ f e (sym (pass (well_formed (queue_of ws)) e) ∙ u)

  pub unsound_on : (given : ℕ) (answered : Exported) → is_sound ws ≡ false
      → (well_formed (queue_of ws) ≡ false → answered ≡ refused_on Broken given (words_of (queue_of ws))) → on_record ws given answered ≡ refused_on Broken given ws
  unsound_on given answered u f = unsound_by given answered u (λ e w. f w ∙ ap (refused_on Broken given) (words_again ws e))

  module _ (s : is_sound ws ≡ true) where
    pub sound_encodes : encodes ws ≡ true
    unfolding is_sound
    sound_encodes = and_left (encodes ws) (well_formed (queue_of ws)) s

    pub sound_fits : well_formed (queue_of ws) ≡ true
    unfolding is_sound
    sound_fits = and_right (encodes ws) (well_formed (queue_of ws)) s

    pub not_broken : not (well_formed (queue_of ws)) ≡ false
    not_broken = ap not sound_fits

    pub same_words_lem : words_of (queue_of ws) ≡ ws
    same_words_lem = words_again ws sound_encodes

    pub sound_on : (given : ℕ) (answered : Exported) → on_record ws given answered ≡ answered
    sound_on given answered = miss _ (ap not sound_encodes)

    pub sound_length : length ws ≡ word_count
    sound_length = (encoded ws sound_encodes).long

    pub held : Held (queue_of ws) ws
    held = record { words = same_words_lem; slots = (queue_sized ws sound_length).slots }

    pub few_tokens : word ws at_count ≤ 64
    unfolding queue_of
    few_tokens = (fit (queue_of ws) sound_fits).count

    pub rest_zero_lem : rest_zero (word ws at_count) (slots_in ws) ≡ true
    unfolding queue_of
    rest_zero_lem = (fit (queue_of ws) sound_fits).slots

    -- the tokens' slots, a part of the words, hold all that is occupied
    pub issued_occupied : occupied 0 (take (at_slots + word ws at_count - at_slots) (drop at_slots ws)) ≡ occupied 0 (slots_in ws)
    issued_occupied =
        let e : at_slots + word ws at_count - at_slots ≡ word ws at_count = omega arith in
        ap (λ (n : ℕ). occupied 0 (take n (drop at_slots ws))) e
        ∙ (ap (occupied 0) (sym (take-take (word ws at_count) 64 (drop at_slots ws) few_tokens)) ∙ occupied_take 0 (word ws at_count) (slots_in ws) rest_zero_lem)

    pub few_bindings : word ws at_bound ≤ 16
    unfolding queue_of
    few_bindings = (fit (queue_of ws) sound_fits).given.bound

    -- the selected ticket names one of the 64 slots
    pub own_place : (t : Ticket) → selection_in ws ≡ Some t → t.token < 64
    unfolding queue_of
    own_place t e = selected_below (queue_of ws) t sound_fits e
