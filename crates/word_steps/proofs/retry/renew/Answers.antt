-- The stores one by one
use Prim.Native.Nat.{◌+◌}
use mathlib.Core.Path.{sym}
use mathlib.Core.Bool.{false}
use Rattle.std.specs.Prelude.{Some}
use Rattle.queue_words.proofs.Setters.{hold_next, hold_selection, hold_failed}
use Rattle.queue_words.proofs.OnWords.{held}
use Rattle.word_steps.proofs.retry.renew.Goals as goal

pub returns : goal.returns
returns c =
    let a = c.args in
    let selected = hold_selection (held a.queue.now c.requires.0) (Some a.ticket) in
    rw c.select.ensures (sym (hold_failed (hold_next selected (a.ticket.attempt + 1)) false).words)
