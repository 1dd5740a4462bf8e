-- One accepted recorded call: all as it was, or one row more behind the used ones, replayed to what the plain call leaves
use Prim.Native.Nat.{◌+◌}
use mathlib.Core.Path.{◌≡◌, refl, ap, ◌∙◌}
use mathlib.Core.Bool.{true}
use mathlib.Core.Logic.{◌⊎◌, inl, inr, ⊎_elim}
use Rattle.queue_record.specs.Refusals.{done}
use Rattle.queue_record.specs.WellFormed.{well_formed}
use Rattle.cleanup_queue.specs.Runs.{Call, after}
use Rattle.log_rows.specs.Rows.{flat, written}
use Rattle.log_rows.specs.declared.Row.{Row}
use Rattle.log_entries.specs.Noting.{changes}
use Rattle.log_entries.proofs.NoteLaws.{Put, note_tells}
use Rattle.cleanup_log.specs.Entries.{entry_of}
use Rattle.cleanup_log.proofs.Changes.{call_changes}
use Rattle.history.specs.Histories.{Bench, bench, called, number_of}
use Rattle.history.proofs.RowOfCall.{Replays, call_row}
use Rattle.history.proofs.Written.{benches, accepted_is}

-- what an accepted call did
pub record Wrote (b : Bench) (c : Call) : Type 0 where
  pub row : Row
  pub put : Put b.log b.used
  pub left : called b c ≡ bench (after b.queue c) (b.used + 1) (written b.log b.used (flat row))
  pub replays : Replays b.queue row (after b.queue c)

abbrev pub Step : Bench → Call → Type 0
Step b c = (called b c ≡ b) ⊎ Wrote b c

pub step : (b : Bench) → well_formed b.queue ≡ true → (c : Call) → number_of b c ≡ done → Step b c
step b w c h =
    let a = accepted_is b c h in
    ⊎_elim
    (λ s. inl (a.2 ∙ benches ((call_changes b.queue c).0 (ap changes s.0)) s.1 s.2))
    (λ t. inr (record { row = t.0; put = t.2; left = a.2 ∙ benches refl t.3 t.4; replays = call_row b.queue w c t.0 t.1 }))
    ((note_tells b.log b.used (entry_of b.queue c)).1 a.0 a.1)
