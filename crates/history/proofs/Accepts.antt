-- The reader accepts exactly the logs that some history leaves, and finds the record that it leaves
use Prim.Native.Nat.{ℕ, ◌*◌, ◌/◌, ◌≤◌}
use mathlib.Core.Path.{◌≡◌, sym, ap, ◌∙◌, subst}
use mathlib.Core.Logic.{◌↔◌}
use mathlib.Core.List.{List}
use native.Mathlib.Omega.{arith}
use lib.ListN.{length, take, drop_of_length-le}
use lib.Seq.{length-take-le}
use Rattle.queue_record.specs.Refusals.{done, bad_log, refusal_number}
use Rattle.queue_record.proofs.Refused.{err_ok}
use Rattle.queue_record.specs.Openings.{Opening, opened_as}
use Rattle.queue_record.proofs.OpenedLaws.{opened_refused}
use Rattle.log_rows.specs.Rows.{rows}
use Rattle.log_rows.proofs.RowList.{rows_length, same_words_lem}
use Rattle.log_language.specs.FirstBad.{WordsBelong}
use Rattle.log_language.proofs.FirstBad.{bad_place_stop, words_belong}
use Rattle.log_reader.specs.Reader.{end_of, setting_of, reading, read_says, ReadsAs, refused_opening, bad_at, good_log}
use Rattle.history.specs.Histories.{Bench, Start, History, opens, calls, words_written, rows_of, setting, opened_queue, Leaves, LeftBy}
use Rattle.history.proofs.Spoken.{Stands, stands, history_belongs, history_ends}
use Rattle.history.proofs.Demand.{language_spoken}
use Rattle.std.specs.Prelude.{Ok}
use Rattle.queue_record.specs.declared.answered.Answered.{Answered}
use Rattle.log_reader.specs.Types.{Read}

-- no history starts from a refused opening
unrefused : (s : Start) (b : Bench) → History s b → (opened_as s.opening).answer ≡ Ok tt
unrefused s _ (opens e) = e
unrefused s _ (calls {b} h c a) = unrefused s b h

-- the words that a history leaves are whole rows, and belong
pub history_words : (s : Start) (b : Bench) → History s b → WordsBelong (setting s) (words_written b)
history_words s b h =
    let w : b.used * 5 ≤ length b.log = (stands s b h).within in
    let t : length (words_written b) ≡ b.used * 5 = length-take-le (b.used * 5) b.log w in
    record { whole = drop_of_length-le (words_written b) {i = length (words_written b) / 5 * 5} (omega arith); rows_belong = history_belongs s b h }

-- of what a history leaves the reader says: good, as many rows as were written, and the record in the bench's hands
pub history_read : (s : Start) (b : Bench) → History s b → (r : Answered Read) → ReadsAs s.opening (words_written b) r → r ≡ reading (Ok b.used) b.queue
history_read s b h r (refused_opening e) = err_ok (sym e ∙ unrefused s b h)
history_read s b h r (bad_at place o bad) = absurd (((bad_place_stop (setting s) (words_written b) place).0 bad).1 (history_words s b h))
history_read s b h r (good_log o w) = ap (λ (n : ℕ). reading (Ok n) (end_of (opened_queue s) (rows_of b))) (stands s b h).counted ∙ ap (reading (Ok b.used)) (sym (history_ends s b h))

-- of a log with a bad row it gives the record that any history leaves which wrote the rows before that row
pub bad_read : (s : Start) (b : Bench) → History s b → (log : List ℕ) (r : Answered Read) → ReadsAs s.opening log r
    → (read_says r.answer).0 ≡ bad_log → rows_of b ≡ take (read_says r.answer).1 (rows log) → r.queue ≡ b.queue
bad_read s b h log r (refused_opening {n} e) z same = absurd (omega (arith, ap refusal_number (opened_refused n s.opening e).0))
bad_read s b h log r (bad_at place o bad) z same = sym (history_ends s b h ∙ ap (end_of (opened_queue s)) same)
bad_read s b h log r (good_log o w) z same = absurd (omega arith)

module _ (o : Opening) (log : List ℕ) where
  abbrev from : List ℕ → Start
  from memory = record { opening = o; memory = memory }

  -- a log that belongs is left by a history in memory of its own length
  left : (opened_as o).answer ≡ Ok tt → WordsBelong (setting_of o) log → LeftBy o log
  left u w =
      let n : length (rows log) ≡ length log / 5 = rows_length log in
      let whole = (words_belong (setting_of o) log).0 w in
      let l : Leaves (from log) (rows log) = language_spoken (from log) u (rows log) w.rows_belong (omega arith) in
      let i : Stands (from log) l.end = stands (from log) l.end l.history in
      let t : length (words_written l.end) ≡ l.end.used * 5 = length-take-le (l.end.used * 5) l.end.log i.within in
      let u : l.end.used ≡ length (rows log) = l.used in
      record { memory = log; end = l.end; history = l.history; words = same_words_lem l.end.used (words_written l.end) log t (omega arith) l.wrote }

  good : (r : Answered Read) → ReadsAs o log r → (read_says r.answer).0 ≡ done → LeftBy o log
  good r (refused_opening {n} e) z = absurd (omega (arith, ap refusal_number (opened_refused n o e).0))
  good r (bad_at place u b) z = absurd (omega arith)
  good r (good_log u w) z = left u w

  -- the reader accepts a log exactly if some history of that opening leaves it; history_read says with which record
  pub reader_histories : (r : Answered Read) → ReadsAs o log r → ((read_says r.answer).0 ≡ done) ↔ LeftBy o log
  reader_histories r a = (good r a, back)
    where
      back : LeftBy o log → (read_says r.answer).0 ≡ done
      back l =
          ap (λ (x : Answered Read). (read_says x.answer).0)
          (history_read (from l.memory) l.end l.history r (subst (λ (x : List ℕ). ReadsAs o x r) (sym l.words) a))
