-- The stage moved as the target says
use Rattle.std.proofs.Common.{◌≡◌}
use mathlib.Core.Path.{sym, ap, ◌∙◌}
use Rattle.stage.specs.Phases.{is_pending}
use Rattle.stage.specs.declared.phases.Phase.{Phase}
use Rattle.queue_record.specs.Record.{with_phase}
use Rattle.queue_stages.specs.Stages.{after_admit}
use Rattle.queue_words.specs.Words.{queue_of, words_of}
use Rattle.queue_words.specs.InPlace.{said_in}
use Rattle.queue_words.proofs.StageWords.{phase_in, admit_by_moved}
use Rattle.gulberzan_c.proofs.stages.admit_in.Goals as goal

pub returns : goal.returns
returns c =
    let ws = c.args.queue.now in
    let moved : c.after_admit-phase.result ≡ after_admit (phase_in ws) c.args.matched =
    c.after_admit-phase.ensures ∙ ap (λ (p : Phase). after_admit p c.args.matched) c.from.ensures in
    c.move_stage.ensures
    ∙ (ap (λ (p : Phase). said_in (words_of (with_phase (queue_of ws) p)) c.is_pending.result) moved
    ∙ (ap (said_in _) (c.is_pending.ensures ∙ ap is_pending moved) ∙ sym (admit_by_moved ws c.requires c.args.matched)))
