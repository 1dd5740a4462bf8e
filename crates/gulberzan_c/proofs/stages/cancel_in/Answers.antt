-- The stage moved
use Rattle.std.proofs.Common.{◌≡◌, false}
use mathlib.Core.Path.{sym, ap, ◌∙◌}
use Rattle.stage.specs.Phases.{phase_after}
use Rattle.stage.specs.declared.phases.Phase.{Phase}
use Rattle.stage.specs.declared.phases.Event.TheVariants.{Cancel}
use Rattle.queue_record.specs.Record.{with_phase}
use Rattle.queue_words.specs.Words.{queue_of, words_of}
use Rattle.queue_words.specs.InPlace.{said_in}
use Rattle.queue_words.proofs.StageWords.{phase_in, cancel_moved}
use Rattle.gulberzan_c.proofs.stages.cancel_in.Goals as goal

pub returns : goal.returns
returns c =
    let ws = c.args.queue.now in
    let moved : c.next_phase-phase.result ≡ phase_after (phase_in ws) Cancel = c.next_phase-phase.ensures ∙ ap (λ (p : Phase). phase_after p Cancel) c.from-was.ensures in
    c.move_stage.ensures ∙ (ap (λ (p : Phase). said_in (words_of (with_phase (queue_of ws) p)) false) moved ∙ sym (cancel_moved ws c.requires))
