-- Demand 3: recorded histories and the language are the same set, and the reader's end state is the one state that they leave
use Prim.Native.Nat.{ℕ, ◌+◌, ◌*◌, ◌<◌, ◌≤◌}
use mathlib.Core.Path.{◌≡◌, refl, sym, ap, ◌∙◌, subst}
use mathlib.Core.Logic.{◌↔◌}
use mathlib.Core.Bool.{true}
use mathlib.Core.List.{List, [], ◌∷◌, ◌++◌}
use native.Mathlib.Omega.{arith}
use borrow.Author.Tests.{le-leb}
use lib.ListN.{length, drop, length-append}
use Rattle.queue_record.specs.declared.record.Queue.{Queue}
use Rattle.log_rows.specs.Rows.{rows}
use Rattle.cleanup_queue.specs.Runs.{after}
use Rattle.log_rows.specs.Appending.{rows_fit}
use Rattle.log_rows.specs.declared.Row.{Row}
use Rattle.log_rows.proofs.Space.{room_there}
use Rattle.log_language.specs.Language.{Belongs}
use Rattle.log_language.proofs.RowSteps.{State, opened, may, end_state}
use Rattle.log_language.proofs.Core.{one_more_may}
use Rattle.log_language.proofs.Lists.{snoc_ind}
use Rattle.log_replay.specs.Replay.{replayed}
use Rattle.queue_record.specs.Openings.{opened_as}
use Rattle.log_reader.specs.Reader.{end_of}
use Rattle.log_replay.proofs.StageRows.{row_agrees}
use Rattle.history.specs.Histories.{Bench, bench, called, Start, History, opens, calls, rows_of, opened_queue, setting, Leaves}
use Rattle.log_entries.proofs.NoteLaws.{Put}
use Rattle.history.proofs.CallOfRow.{Writes, writes}
use Rattle.history.proofs.Spoken.{Stands, stands, history_belongs, history_ends, rows_after}
use Rattle.std.specs.Prelude.{Ok}

fitted : (x : Bench) → x.used * 5 ≤ length x.log → rows_fit (length x.log) x.used ≡ true
unfolding rows_fit
fitted x a = le-leb _ _ a

module _ (s : Start) (unrefused : (opened_as s.opening).answer ≡ Ok tt) where
  abbrev Spoken : List Row → Type 0
  Spoken rs = Belongs (setting s) rs → length rs * 5 ≤ length s.memory → Leaves s rs

  first_of : Spoken []
  unfolding rows
  first_of b l = record { end = bench (opened_queue s) 0 s.memory; history = opens unrefused; wrote = refl; used = refl; behind = refl }

  -- one row more: the call that writes it, behind any history that wrote the rows before it
  pub record More (x : Bench) (rs : List Row) (r : Row) : Type 0 where
    pub write : Writes x r
    pub wrote : rows_of (called x write.call) ≡ rs ++ (r ∷ [])

  pub row_more : (x : Bench) → History s x → (rs : List Row) (r : Row) → rows_of x ≡ rs → Belongs (setting s) (rs ++ (r ∷ [])) → length (rs ++ (r ∷ [])) * 5 ≤ length s.memory → More x rs r
  row_more x h rs r e b l =
      let m = (one_more_may (setting s) rs r).0 b in
      let n : length (rs ++ (r ∷ [])) ≡ length rs + 1 = length-append rs (r ∷ []) in
      let i : Stands s x = stands s x h in
      let u : x.used ≡ length rs = sym i.counted ∙ ap length e in
      let few : length rs < 4096 = m.1 in
      let long : length x.log ≡ length s.memory = i.long in
      let k : may (end_state (opened (setting s)) (rows_of x)) r ≡ true = ap (λ (y : List Row). may (end_state (opened (setting s)) y) r) e ∙ m.2 in
      let f : (replayed x.queue r).fits ≡ true = (row_agrees x.queue i.sound i.sized r).fits ∙ (ap (λ (y : State). may y r) i.state ∙ k) in
      let p : Put x.log x.used = record { fits = fitted x i.within; room = room_there (length x.log) x.used (omega arith) (omega arith) } in
      let w : Writes x r = writes x i.sound p r f in
      record { write = w; wrote = ap rows_of w.left ∙ (rows_after x r p (after x.queue w.call) ∙ ap (λ (y : List Row). y ++ (r ∷ [])) e) }

  -- a history that wrote these rows leaves the memory behind them
  leaves : (x : Bench) → History s x → (rs : List Row) → rows_of x ≡ rs → Leaves s rs
  leaves x h rs e =
      let i : Stands s x = stands s x h in
      let u : x.used ≡ length rs = sym i.counted ∙ ap length e in
      record { end = x; history = h; wrote = e; used = u; behind = subst (λ (n : ℕ). drop (n * 5) x.log ≡ drop (n * 5) s.memory) u i.behind }

  one_more : (rs : List Row) (r : Row) → Spoken rs → Spoken (rs ++ (r ∷ []))
  one_more rs r ih b l =
      let n : length (rs ++ (r ∷ [])) ≡ length rs + 1 = length-append rs (r ∷ []) in
      let h : Leaves s rs = ih ((one_more_may (setting s) rs r).0 b).0 (omega arith) in
      let m : More h.end rs r = row_more h.end h.history rs r h.wrote b l in
      leaves (called h.end m.write.call) (calls h.history m.write.call m.write.fine) (rs ++ (r ∷ [])) m.wrote

  -- every log in the language, given memory with room for its rows, is left by some history
  pub language_spoken : (rs : List Row) → Spoken rs
  language_spoken = snoc_ind Spoken first_of one_more

-- any two histories with the same opening and the same rows leave the same record
pub same_record : (s t : Start) (a b : Bench) → opened_queue s ≡ opened_queue t → History s a → History t b → rows_of a ≡ rows_of b → a.queue ≡ b.queue
same_record s t a b o h k e = history_ends s a h ∙ (ap (λ (q : Queue). end_of q (rows_of a)) o ∙ (ap (end_of (opened_queue t)) e ∙ sym (history_ends t b k)))

-- the logs of histories are exactly the language: with room for the rows, some history leaves them if and only if they belong
pub histories_language : (s : Start) (rs : List Row) → (opened_as s.opening).answer ≡ Ok tt
    → length rs * 5 ≤ length s.memory → Leaves s rs ↔ Belongs (setting s) rs
histories_language s rs unrefused room = (λ l. subst (λ (x : List Row). Belongs (setting s) x) l.wrote (history_belongs s l.end l.history), λ b. language_spoken s unrefused rs b room)
