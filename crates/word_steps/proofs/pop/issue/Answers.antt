-- The stores one by one
use mathlib.Core.Path.{sym}
use mathlib.Core.Bool.{true}
use Rattle.std.specs.Prelude.{Some}
use Rattle.queue_words.proofs.Setters.{hold_next, hold_slot, hold_selection, hold_issued}
use Rattle.queue_words.proofs.OnWords.{held}
use Rattle.word_steps.proofs.pop.issue.Goals as goal

pub returns : goal.returns
returns c =
    let a = c.args in
    let selected = hold_selection (held a.queue.now c.requires.0) (Some a.ticket) in
    rw c.select.ensures (sym (hold_issued (hold_next (hold_slot selected a.ticket.token 0 c.requires.1) a.next) true).words)
