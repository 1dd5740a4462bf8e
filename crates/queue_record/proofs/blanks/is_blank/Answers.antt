use Rattle.std.proofs.Common.{rules, ap, ◌∙◌}
use Rattle.queue_record.specs.contracts.record.QueuePartialEq.TheImpl.{ghosts}
use Rattle.queue_record.proofs.BlankOnly.{same_as_blank}
use Rattle.queue_record.proofs.blanks.is_blank.Goals as goal

-- src/blanks.rt:8:1
pub returns : goal.returns
returns c = c.eq.ensures ∙ (ap (ghosts.eq c.args.q) c.blank.ensures ∙ same_as_blank c.args.q (record { slots = search rules; bindings = search rules }))
