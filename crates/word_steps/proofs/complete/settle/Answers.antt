-- Done, or Failed
use Prim.Native.Nat.{◌+◌}
use mathlib.Core.Path.{sym, ap, ◌∙◌}
use mathlib.Core.Bool.{true, false}
use mathlib.Core.List.{List}
use Prim.Native.Nat.{ℕ, ◌<◌}
use mathlib.Core.Path.{◌≡◌}
use borrow.Author.Tests.{eq-eqb, ne_eqb}
use lib.ListN.{set}
use Rattle.std.specs.Prelude.{None}
use Rattle.choice.proofs.Ways.{hit, miss}
use Rattle.queue_steps.specs.Attempts.{took_back}
use Rattle.queue_words.specs.Layout.{at_slots, at_issued}
use Rattle.queue_words.specs.Words.{queue_of, words_of, is_sound}
use Rattle.queue_words.proofs.Setters.{Held, hold_slot, hold_selection, hold_failed, hold_issued}
use Rattle.queue_words.proofs.OnWords.{held}
use Rattle.word_steps.proofs.complete.settle.Goals as goal

-- what both outcomes store
took : (ws : List ℕ) (token kept : ℕ) → is_sound ws ≡ true → token < 64 → Held (took_back (queue_of ws) token kept) (set (set ws (at_slots + token) kept) at_issued 0)
took ws token kept s h = hold_issued (hold_slot (held ws s) token kept h) false

pub returns-then-outcome-eq0 : goal.returns-then-outcome-eq0
returns-then-outcome-eq0 c =
    c.deselect.ensures
    ∙ sym (ap words_of (hit _ (eq-eqb _ _ c.if-outcome-eq0.true))
    ∙ (hold_selection (took c.args.queue.now c.args.token c.args.kept c.requires.0 c.requires.1) None).words)

pub returns : goal.returns
returns c =
    sym (ap words_of (miss _ (ne_eqb _ _ c.if-outcome-eq0.false))
    ∙ (hold_failed (took c.args.queue.now c.args.token c.args.kept c.requires.0 c.requires.1) true).words)
