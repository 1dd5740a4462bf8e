-- Attempts rise by 1 from the first: what holds of every history
use Prim.Native.Nat.{ℕ, ◌+◌, ◌<◌}
use mathlib.Core.Path.{◌≡◌}
use lib.ListN.{length, get_or}
use Rattle.log_rows.specs.declared.Row.{Row}
use Rattle.log_language.specs.Readings.{keep}
use Rattle.log_language.specs.RowKinds.{is}
use Rattle.log_language.specs.RowKinds.RowKind.{pop}
use Rattle.log_language.specs.Language.{grants}
use Rattle.log_language.proofs.Attempts.{attempts_at}
use Rattle.log_language.proofs.Pops.{pops_carry}
use Rattle.history.specs.Histories.{Bench, Start, History, rows_of, setting}
use Rattle.history.proofs.Spoken.{history_belongs}

-- attempts granted, to first pops and retries, rise by 1 from the first
pub history_grants : (s : Start) (b : Bench) → History s b → (k : ℕ) (d : Row) → k < length (grants (rows_of b)) → (get_or (grants (rows_of b)) k d).attempt ≡ s.opening.heading.first + k
history_grants s b h k d l = attempts_at (setting s).first (grants (rows_of b)) (history_belongs s b h).attempts_in_order.0 k d l

-- attempts handed out rise by 1 from the first: the pop at place k, fresh or ready, carries first + k
pub history_attempts : (s : Start) (b : Bench) → History s b → (k : ℕ) (d : Row) → k < length (keep (is pop) (rows_of b))
    → (get_or (keep (is pop) (rows_of b)) k d).attempt ≡ s.opening.heading.first + k
history_attempts s b h k d l = pops_carry (setting s) (rows_of b) (history_belongs s b h) k d l
