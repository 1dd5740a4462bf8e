use Rattle.std.proofs.Common.{sym, ap, ◌∙◌, slice_set}
use Rattle.queue_words.specs.Layout.{at_phase}
use Rattle.queue_words.proofs.Setters.{hold_phase}
use Rattle.queue_words.proofs.OnWords.{held}
use Rattle.queue_words.proofs.steps.put_phase.Goals as goal

pub returns : goal.returns
returns c = ap (slice_set c.args.queue.now at_phase) c.from.ensures ∙ sym (hold_phase (held c.args.queue.now c.requires) c.args.phase).words
