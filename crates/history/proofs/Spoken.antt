-- Every history's rows belong to the language of its opening, and its record is what the reader's end state says
use Prim.Native.Nat.{ℕ, ◌+◌, ◌*◌, ◌<◌, ◌≤◌}
use mathlib.Core.Path.{◌≡◌, refl, sym, ap, ◌∙◌, subst}
use mathlib.Core.Logic.{⊎_elim}
use mathlib.Core.Bool.{true}
use mathlib.Core.List.{List, [], ◌∷◌, ◌++◌}
use native.Mathlib.Omega.{arith}
use lib.ListN.{length, drop, length-append}
use lib.Seq.{drop-drop}
use Rattle.queue_record.specs.Record.{Sized}
use Rattle.queue_record.specs.WellFormed.{well_formed}
use Rattle.queue_record.specs.declared.record.Queue.{Queue}
use Rattle.queue_record.proofs.OpenedLaws.{opened_well_formed, opened_sized}
use Rattle.cleanup_queue.specs.Runs.{Call, after}
use Rattle.log_rows.specs.Rows.{rows, flat, written}
use Rattle.log_rows.specs.declared.Row.{Row}
use Rattle.log_rows.proofs.RowList.{rows_written}
use Rattle.log_rows.proofs.OtherWords.{words_behind_lem}
use Rattle.log_rows.proofs.Space.{room_fits, room_few}
use Rattle.log_rows.proofs.Written.{written_length}
use Rattle.log_language.specs.Language.{Belongs}
use Rattle.log_language.proofs.RowSteps.{State, opened, may, leave, end_state}
use Rattle.log_language.proofs.Core.{empty_belongs, one_more_may, end_snoc}
use Rattle.log_replay.specs.Replay.{replayed}
use Rattle.queue_record.specs.Openings.{opened_as}
use Rattle.log_reader.specs.Reader.{end_of}
use Rattle.log_replay.proofs.StateOf.{state_of}
use Rattle.log_replay.proofs.StageRows.{row_agrees}
use Rattle.log_replay.proofs.RowsKeep.{row_keeps, row_sized}
use Rattle.log_reader.proofs.Rightly.{opened_state}
use Rattle.history.specs.Histories.{Bench, bench, Start, History, opens, calls, rows_of, opened_queue, setting}
use Rattle.log_entries.proofs.NoteLaws.{Put}
use Rattle.history.proofs.Steps.{Wrote, step}
use Rattle.std.specs.Prelude.{Ok}

end_more : (q : Queue) (rs : List Row) (r : Row) → end_of q (rs ++ (r ∷ [])) ≡ (replayed (end_of q rs) r).queue
end_more q [] r = refl
end_more q (x ∷ rs) r = end_more (replayed q x).queue rs r

-- one row more behind the used ones: the rows that are then written
pub rows_after : (b : Bench) (r : Row) → Put b.log b.used → (p : Queue) → rows_of (bench p (b.used + 1) (written b.log b.used (flat r))) ≡ rows_of b ++ (r ∷ [])
rows_after b r put p = rows_written b.log b.used r (room_fits (length b.log) b.used put.room)

-- where a history stands
pub record Stands (s : Start) (b : Bench) : Type 0 where
  pub sound : well_formed b.queue ≡ true
  pub sized : Sized b.queue
  pub within : b.used * 5 ≤ length b.log
  pub spoken : Belongs (setting s) (rows_of b)
  pub counted : length (rows_of b) ≡ b.used
  pub ended : b.queue ≡ end_of (opened_queue s) (rows_of b)
  pub state : state_of b.queue ≡ end_state (opened (setting s)) (rows_of b)
  -- the memory behind the rows is as it was
  pub long : length b.log ≡ length s.memory
  pub behind : drop (b.used * 5) b.log ≡ drop (b.used * 5) s.memory

starts : (s : Start) → (opened_as s.opening).answer ≡ Ok tt → Stands s (bench (opened_queue s) 0 s.memory)
unfolding rows
starts s e = record {
  sound = opened_well_formed s.opening;
  sized = opened_sized s.opening;
  within = omega arith;
  spoken = empty_belongs (setting s);
  counted = refl;
  ended = refl;
  state = opened_state s.opening e;
  long = refl;
  behind = refl;
}

-- ---- one row more
module _ (s : Start) (b : Bench) (c : Call) (i : Stands s b) (w : Wrote b c) where
  abbrev now : Bench
  now = bench (after b.queue c) (b.used + 1) (written b.log b.used (flat w.row))

  fits_in : b.used * 5 + 5 ≤ length b.log
  fits_in = room_fits (length b.log) b.used w.put.room

  rows_are : rows_of now ≡ rows_of b ++ (w.row ∷ [])
  rows_are = rows_after b w.row w.put (after b.queue c)

  long_is : length (written b.log b.used (flat w.row)) ≡ length b.log
  long_is = written_length b.log b.used w.row fits_in

  abbrev taken : Queue
  taken = (replayed b.queue w.row).queue

  more : Stands s now
  more =
      let a = row_agrees b.queue i.sound i.sized w.row in
      let few : b.used < 4096 = room_few (length b.log) b.used w.put.room in
      let five : (b.used + 1) * 5 ≡ b.used * 5 + 5 = omega arith in
      let k : length (rows_of b) ≡ b.used = i.counted in
      let f : b.used * 5 + 5 ≤ length b.log = fits_in in
      let l : length (written b.log b.used (flat w.row)) ≡ length b.log = long_is in
      let m : may (end_state (opened (setting s)) (rows_of b)) w.row ≡ true = sym (ap (λ (x : State). may x w.row) i.state) ∙ (sym a.fits ∙ w.replays.fits) in
      record {
        sound = sym (ap well_formed w.replays.leaves) ∙ row_keeps b.queue i.sound w.row;
        sized = subst (λ (p : Queue). Sized p) w.replays.leaves (row_sized b.queue i.sized w.row);
        within = omega arith;
        spoken = rw rows_are ((one_more_may (setting s) (rows_of b) w.row).1 (i.spoken, omega arith, m));
        counted = ap length rows_are ∙ (length-append (rows_of b) (w.row ∷ []) ∙ ap (λ (n : ℕ). n + 1) k);
        ended =
            sym w.replays.leaves
            ∙ (ap (λ (p : Queue). (replayed p w.row).queue) i.ended ∙ (sym (end_more (opened_queue s) (rows_of b) w.row) ∙ ap (end_of (opened_queue s)) (sym rows_are)));
        state =
            sym (ap state_of w.replays.leaves)
            ∙ (a.leaves w.replays.fits
            ∙ (ap (λ (x : State). leave x w.row) i.state ∙ (sym (end_snoc (opened (setting s)) (rows_of b) w.row) ∙ ap (end_state (opened (setting s))) (sym rows_are))));
        long = l ∙ i.long;
        behind =
            words_behind_lem b.log b.used w.row fits_in
            ∙ (ap (λ (n : ℕ). drop n b.log) five
            ∙ (sym (drop-drop 5 (b.used * 5) b.log) ∙ (ap (drop 5) i.behind ∙ (drop-drop 5 (b.used * 5) s.memory ∙ ap (λ (n : ℕ). drop n s.memory) (sym five)))));
      }

pub stands : (s : Start) (b : Bench) → History s b → Stands s b
stands s _ (opens e) = starts s e
stands s _ (calls {b} h c a) =
    ⊎_elim (λ e. subst (λ (x : Bench). Stands s x) (sym e) (stands s b h))
    (λ w. subst (λ (x : Bench). Stands s x) (sym w.left) (more s b c (stands s b h) w)) (step b (stands s b h).sound c a)

-- every log that a history leaves belongs to the language of its opening
pub history_belongs : (s : Start) (b : Bench) → History s b → Belongs (setting s) (rows_of b)
history_belongs s b h = (stands s b h).spoken

-- the record at the end of a history is the reader's end state for its log
pub history_ends : (s : Start) (b : Bench) → History s b → b.queue ≡ end_of (opened_queue s) (rows_of b)
history_ends s b h = (stands s b h).ended
