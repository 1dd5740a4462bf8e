-- The name of each number that a call returns
use Rattle.std.specs.Prelude.{ℕ, ◌-◌, List, [], ◌∷◌, ◌++◌, get_or, replicate}
use Prim.Native.Char.{code}
use Prim.Native.String.{String, len, [] as ended, ◌∷◌ as before}
use Rattle.queue_record.specs.Refusals.{done, broken, bad_number, no_slot, not_pending, no_attempt, not_out, kept_on_done, no_retry, hollow, no_group, groups_full, sealed, not_drained, too_many_bindings, bad_outcome, bad_log, log_full, bad_text, no_id, nothing_kept, no_further_attempt}

-- the results in the order of their numbers
abbrev pub results : List ℕ
results =
    done ∷ broken ∷ bad_number ∷ no_slot ∷ not_pending ∷
    no_attempt ∷ not_out ∷ kept_on_done ∷ no_retry ∷ hollow ∷
    no_group ∷ groups_full ∷ sealed ∷ not_drained ∷ too_many_bindings ∷
    bad_outcome ∷ bad_log ∷ log_full ∷ bad_text ∷ no_id ∷
    nothing_kept ∷ no_further_attempt ∷ []

-- and their names in the same order
abbrev pub result_names : List String
result_names =
    "ok" ∷ "broken" ∷ "bad_number" ∷ "no_slot" ∷ "not_pending" ∷
    "no_attempt" ∷ "not_out" ∷ "kept_on_done" ∷ "no_retry" ∷ "hollow" ∷
    "no_group" ∷ "groups_full" ∷ "sealed" ∷ "not_drained" ∷ "too_many_bindings" ∷
    "bad_outcome" ∷ "bad_log" ∷ "log_full" ∷ "bad_text" ∷ "no_id" ∷
    "nothing_kept" ∷ "no_further_attempt" ∷ []

-- a number past the last is unknown
abbrev pub result_name : ℕ → String
result_name number = get_or result_names number "unknown"

abbrev pub bytes_of : String → List ℕ
bytes_of ended = []
bytes_of (before c s) = code c ∷ bytes_of s

-- a name's bytes, and 0 behind them up to 24
abbrev pub in_places : String → List ℕ
in_places s = bytes_of s ++ replicate (24 - len s) 0

unfoldable pub result_text : ℕ → List ℕ
result_text number = in_places (result_name number)

unfoldable pub result_length : ℕ → ℕ
result_length number = len (result_name number)
