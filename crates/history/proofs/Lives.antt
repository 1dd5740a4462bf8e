-- A token is born once and ends with its Done: what holds of every history
use Prim.Native.Nat.{ℕ, ◌<◌}
use mathlib.Core.Path.{◌≡◌, sym, ap, ◌∙◌}
use mathlib.Core.Bool.{true}
use mathlib.Core.List.{List, [], ◌∷◌, ◌++◌}
use borrow.Author.Tests.{eq-eqb}
use lib.ListN.{length, get_or}
use Rattle.log_rows.specs.declared.Row.{Row}
use Rattle.log_language.specs.RowKinds.{is}
use Rattle.log_language.specs.RowKinds.RowKind.{complete}
use Rattle.log_language.specs.Language.{births_of, own, life}
use Rattle.log_language.proofs.Births.{births_at}
use Rattle.log_language.proofs.Conditions.{both}
use Rattle.log_language.proofs.Standing.{done_last}
use Rattle.history.specs.Histories.{Bench, Start, History, rows_of}
use Rattle.history.proofs.Spoken.{history_belongs}

-- a token is born once: the births carry 0, 1, 2 and so on
pub history_born : (s : Start) (b : Bench) → History s b → (k : ℕ) (d : Row) → k < length (births_of (rows_of b)) → (get_or (births_of (rows_of b)) k d).token ≡ k
history_born s b h k d l = births_at (rows_of b) (history_belongs s b h).born_in_order k d l

-- a token's Done row is the last of its own rows: it is never handed out again
pub history_done : (s : Start) (b : Bench) → History s b → (t : ℕ) (before behind : List Row) (r : Row)
    → own t (rows_of b) ≡ before ++ (r ∷ behind) → is complete r ≡ true → r.outcome ≡ 0 → behind ≡ []
history_done s b h t before behind r e c d = done_last before behind r (both c (eq-eqb _ _ d)) (sym (ap life e) ∙ (history_belongs s b h).lives_by_turns t)
