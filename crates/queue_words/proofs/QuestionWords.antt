-- The questions on the words
use Prim.Native.Nat.{ℕ, ◌+◌, ◌-◌, ◌≤◌}
use mathlib.Core.Path.{◌≡◌, refl, sym, ap, ◌∙◌}
use mathlib.Core.Bool.{Bool, true, false, not}
use mathlib.Core.List.{List}
use native.Mathlib.Omega.{arith}
use lib.ListN.{take, drop}
use lib.Seq.{take-take}
use Rattle.choice.proofs.Ways.{hit, miss}
use Rattle.queue_record.specs.Refusals.{done}
use Rattle.queue_record.specs.declared.refusal.Refusal.TheVariants.{Broken}
use Rattle.queue_record.specs.Waiting.{occupied, others}
use Rattle.queue_record.specs.Newest.{newest}
use Rattle.queue_questions.specs.Questions.{yes_or_no, asked, nothing_left, committed, domain_told}
use Rattle.queue_questions.proofs.Left.{none_left}
use Rattle.queue_words.specs.Layout.{at_domain, at_selected, at_bindings, at_bound}
use Rattle.queue_words.specs.Words.{word, slots_in, selection_in, queue_of, is_sound}
use Rattle.queue_words.specs.Exported.{exported, answer_of, refused_on, told_said, told_on, domain_said, domain_on}
use Rattle.queue_words.specs.InPlace.{said_in}
use Rattle.queue_words.proofs.CheckParts.{free_in}
use Rattle.queue_words.proofs.OnWords.{unsound_by, sound_on, not_broken}
use Rattle.std.specs.Prelude.{Option, is_none}
use Rattle.queue_record.specs.declared.record.Ticket.{Ticket}
use Rattle.queue_questions.specs.Types.{DomainTold, Told}

-- yes or no is its word
pub told_word : (ws : List ℕ) (b : Bool) → told_said (yes_or_no b) ws ≡ said_in ws b
told_word ws true = refl
told_word ws false = refl

module _ (ws : List ℕ) where
  pub told_unsound : (b : Bool) → is_sound ws ≡ false → told_on ws (asked (queue_of ws) b) ≡ refused_on Broken 0 ws
  told_unsound b u = unsound_by ws 0 _ u (λ e w. ap (λ (t : Told). told_said t ws) (hit _ (ap not w)))

  pub told_sound : (b : Bool) → is_sound ws ≡ true → told_on ws (asked (queue_of ws) b) ≡ said_in ws b
  told_sound b s = sound_on ws s 0 _ ∙ (ap (λ (t : Told). told_said t ws) (miss _ (not_broken ws s)) ∙ told_word ws b)

  -- ---- nothing left
  abbrev left : Option Ticket → Bool
  left s = nothing_left s (others s (occupied 0 (slots_in ws)))

  pub left_found : word ws at_selected ≡ 0 → left (selection_in ws) ≡ is_none (newest (occupied 0 (slots_in ws)))
  left_found e = none_left (selection_in ws) (occupied 0 (slots_in ws)) (ap is_none (free_in ws e))

  -- ---- the committed bindings
  pub committed_words : word ws at_bound ≤ 16 → take (at_bindings + word ws at_bound - at_bindings) (drop at_bindings ws) ≡ committed (queue_of ws)
  unfolding queue_of
  committed_words few =
      let e : at_bindings + word ws at_bound - at_bindings ≡ word ws at_bound = omega arith in
      ap (λ (n : ℕ). take n (drop at_bindings ws)) e ∙ sym (take-take (word ws at_bound) 16 (drop at_bindings ws) few)

  -- ---- the domain
  pub domain_unsound : is_sound ws ≡ false → domain_on ws ≡ refused_on Broken 0 ws
  unfolding domain_on domain_told
  domain_unsound u = unsound_by ws 0 _ u (λ e w. ap (λ (t : DomainTold). domain_said t ws) (hit _ (ap not w)))

  pub domain_sound : is_sound ws ≡ true → domain_on ws ≡ exported done (answer_of 1 (word ws at_domain)) ws
  unfolding domain_on domain_told queue_of
  domain_sound s = sound_on ws s 0 _ ∙ ap (λ (t : DomainTold). domain_said t ws) (miss _ (not_broken ws s))
