-- Calls that a bench can make: each input is a word of 64 bits
use Rattle.std.specs.Prelude.{ℕ, ◌≡◌, Bool, true, List, [], ◌∷◌, leb}
use Rattle.log_rows.specs.Rows.{flat}
use Rattle.log_rows.specs.declared.Row.{Row}
use Rattle.log_language.specs.Readings.{every}
use Rattle.cleanup_queue.specs.Runs.{Call, register, land, pop, complete, retry, admit, end, cancel}
use Rattle.history.specs.Histories.{Bench, bench, Start, Made, rows_of, opened_queue}

unfoldable pub is_word : ℕ → Bool
is_word n = leb n 18446744073709551615

-- the numbers that a call is given
abbrev pub inputs : Call → List ℕ
inputs (register n) = n ∷ []
inputs (land n) = n ∷ []
inputs pop = []
inputs (complete t outcome kept) = t.domain ∷ t.token ∷ t.attempt ∷ outcome ∷ kept ∷ []
inputs retry = []
inputs (admit matched) = []
inputs end = []
inputs cancel = []

abbrev pub fits : Call → Bool
fits c = every is_word (inputs c)

-- the five words of a row
abbrev pub row_fits : Row → Bool
row_fits r = every is_word (flat r)

-- these calls, from the opening on, each accepted and each with inputs of 64 bits, leave exactly these rows
pub record LeftByFitting (s : Start) (rs : List Row) : Type 0 where
  pub calls : List Call
  pub fitting : every fits calls ≡ true
  pub end : Bench
  pub made : Made (bench (opened_queue s) 0 s.memory) calls end
  pub wrote : rows_of end ≡ rs
