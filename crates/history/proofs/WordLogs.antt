-- The logs that calls with 64-bit inputs leave, in any memory with room, are exactly the logs of 64-bit words that belong
use Prim.Native.Nat.{ℕ, ◌*◌, ◌/◌, ◌≤◌}
use mathlib.Core.Path.{◌≡◌, refl, sym, ap, ◌∙◌, subst}
use mathlib.Core.Logic.{⊎_elim, ◌↔◌}
use mathlib.Core.Bool.{Bool, true, false, ◌&&◌, and_assoc}
use mathlib.Core.List.{List, [], ◌∷◌, ◌++◌}
use native.Mathlib.Omega.{arith}
use borrow.Author.Tests.{leb-true}
use lib.ListN.{length, take}
use lib.Seq.{length-take-le, take-append_seam}
use Rattle.choice.proofs.Ways.{pass, and_left, and_right}
use Rattle.queue_record.specs.WellFormed.{well_formed}
use Rattle.queue_record.specs.Refusals.{done}
use Rattle.queue_record.specs.Openings.{Opening, kept_bindings, opened_as}
use Rattle.queue_record.specs.declared.record.Kind.{Kind}
use Rattle.queue_record.specs.declared.record.Kind.TheVariants.{Scope, Iterator}
use Rattle.queue_record.specs.declared.record.Queue.{Queue}
use Rattle.queue_decisions.specs.Slots.{no_more}
use Rattle.queue_questions.specs.Questions.{committed}
use Rattle.cleanup_queue.specs.Runs.{Call, register, land, pop, complete, retry, admit, end, cancel, after}
use Rattle.cleanup_queue.proofs.Upstream.{call_keeps_opening}
use Rattle.cleanup_queue.proofs.Targets.{target_there}
use Rattle.cleanup_queue.proofs.Exactly.{Tight, call_tight, opened_parts, opened_tight}
use Rattle.log_rows.specs.Rows.{rows, flat, flats}
use Rattle.log_rows.specs.declared.Row.{Row}
use Rattle.log_rows.proofs.RowList.{rows_length, same_words_lem, words_again}
use Rattle.log_entries.specs.Noting.{changes}
use Rattle.log_entries.proofs.NoteLaws.{note_tells}
use Rattle.log_language.specs.Readings.{every}
use Rattle.log_language.specs.FirstBad.{WordsBelong}
use Rattle.log_language.proofs.Lists.{every_snoc}
use Rattle.log_language.proofs.FirstBad.{words_belong}
use Rattle.log_reader.specs.Reader.{setting_of}
use Rattle.cleanup_log.specs.Entries.{entry_of}
use Rattle.cleanup_log.proofs.Changes.{call_changes}
use Rattle.history.specs.Histories.{Bench, called, number_of, Start, History, opens, calls, Made, no_call, one_call, words_written, rows_of}
use Rattle.history.specs.Fits.{is_word, fits, row_fits, LeftByFitting}
use Rattle.history.specs.Benches.{BenchCall, call_on, words_given, Called, called_none, called_one, WordOpening, LeftIn}
use Rattle.history.proofs.Written.{benches, accepted_is}
use Rattle.history.proofs.Spoken.{Stands, stands, rows_after}
use Rattle.history.proofs.Computed.{made_history}
use Rattle.history.proofs.Accepts.{history_words}
use Rattle.history.proofs.RowWords.{entry_fits}
use Rattle.history.proofs.Fitting.{language_spoken_fits}

-- ---- words of whole rows are words exactly if each row's are
pub every_append : {A : Type 0} (p : A → Bool) (xs ys : List A) → every p (xs ++ ys) ≡ (every p xs && every p ys)
every_append p [] ys = refl
every_append p (x ∷ xs) ys = rw (every_append p xs ys) (sym (and_assoc (p x) (every p xs) (every p ys)))

flats_words : (rs : List Row) → every is_word (flats rs) ≡ every row_fits rs
flats_words [] = refl
flats_words (r ∷ rs) = every_append is_word (flat r) (flats rs) ∙ ap (λ (b : Bool). every is_word (flat r) && b) (flats_words rs)

-- ---- what a fitting call keeps
given_fits : (q : Queue) (c : BenchCall) → words_given c ≡ true → fits (call_on q c) ≡ true
given_fits q (BenchCall.register n) g = g
given_fits q (BenchCall.land n) g = g
given_fits q BenchCall.pop g = refl
given_fits q (BenchCall.complete t o k) g = g
given_fits q BenchCall.retry g = refl
given_fits q (BenchCall.admit target) g = refl
given_fits q BenchCall.admit_without g = refl
given_fits q BenchCall.end g = refl
given_fits q BenchCall.cancel g = refl

module _ (b : Bench) (c : Call) (h : number_of b c ≡ done) where
  -- an accepted call leaves the plain call's record
  left_queue : (called b c).queue ≡ after b.queue c
  left_queue = ap (λ (x : Bench). x.queue) (accepted_is b c h).2

  tight_step : Tight b.queue → Tight (called b c).queue
  tight_step t = subst Tight (sym left_queue) (call_tight b.queue t c)

  committed_step : committed (called b c).queue ≡ committed b.queue
  committed_step = let o = call_keeps_opening b.queue c in ap committed left_queue ∙ rw (o.2, o.3)

  row_step : well_formed b.queue ≡ true → b.queue.next ≤ no_more → fits c ≡ true → every row_fits (rows_of b) ≡ true → every row_fits (rows_of (called b c)) ≡ true
  row_step w l f k =
      let a = accepted_is b c h in
      ⊎_elim
      (λ s. ap (λ (x : Bench). every row_fits (rows_of x)) (a.2 ∙ benches ((call_changes b.queue c).0 (ap changes s.0)) s.1 s.2) ∙ k)
      (λ t. ap (λ (x : Bench). every row_fits (rows_of x)) (a.2 ∙ benches refl t.3 t.4)
      ∙ (ap (every row_fits) (rows_after b t.0 t.2 (after b.queue c))
      ∙ (every_snoc row_fits (rows_of b) t.0 ∙ (pass _ k ∙ entry_fits b.queue w l c f t.0 t.1))))
      ((note_tells b.log b.used (entry_of b.queue c)).1 a.0 a.1)

-- ---- calls leave words that belong
called_history : {s : Start} {a e : Bench} {cs : List BenchCall} → History s a → Called a cs e → History s e
called_history h called_none = h
called_history h (called_one {a} {b} {c} n m) = called_history (calls h (call_on a.queue c) n) m

fitted : (s : Start) {a e : Bench} {cs : List BenchCall} → History s a → Tight a.queue → every row_fits (rows_of a) ≡ true → every words_given cs ≡ true
    → Called a cs e → every row_fits (rows_of e) ≡ true
fitted s h t k g called_none = k
fitted s h t k g (called_one {a} {b} {c} {cs} n m) =
    let d = call_on a.queue c in
    let f : fits d ≡ true = given_fits a.queue c (and_left (words_given c) (every words_given cs) g) in
    fitted s (calls h d n) (tight_step a d n t) (row_step a d n (stands s a h).sound t.1 f k) (and_right (words_given c) (every words_given cs) g) m

-- ---- and words that belong are left by calls
-- a bench's call that is this one
abbrev asked : Queue → Call → BenchCall
asked q (register n) = BenchCall.register n
asked q (land n) = BenchCall.land n
asked q pop = BenchCall.pop
asked q (complete t o k) = BenchCall.complete t o k
asked q retry = BenchCall.retry
asked q (admit true) = BenchCall.admit (committed q)
asked q (admit false) = BenchCall.admit_without
asked q end = BenchCall.end
asked q cancel = BenchCall.cancel

asked_is : (q : Queue) (c : Call) → call_on q (asked q c) ≡ c
asked_is q (register n) = refl
asked_is q (land n) = refl
asked_is q pop = refl
asked_is q (complete t o k) = refl
asked_is q retry = refl
asked_is q (admit true) = ap Call.admit (target_there q)
asked_is q (admit false) = refl
asked_is q end = refl
asked_is q cancel = refl

asked_given : (q : Queue) (c : Call) → every is_word (committed q) ≡ true → fits c ≡ true → words_given (asked q c) ≡ true
asked_given q (register n) w f = f
asked_given q (land n) w f = f
asked_given q pop w f = refl
asked_given q (complete t o k) w f = f
asked_given q retry w f = refl
asked_given q (admit true) w f = w
asked_given q (admit false) w f = refl
asked_given q end w f = refl
asked_given q cancel w f = refl

abbrev Asked : Bench → Bench → Type 0
Asked a e = (cs : List BenchCall) × (every words_given cs ≡ true) × Called a cs e

made_called : {a e : Bench} {cs : List Call} → every is_word (committed a.queue) ≡ true → every fits cs ≡ true → Made a cs e → Asked a e
made_called w f no_call = ([], refl, called_none)
made_called w f (one_call {a} {b} {c} {cs} n m) =
    let i = asked_is a.queue c in
    let r : Asked (called a c) b = made_called (ap (every is_word) (committed_step a c n) ∙ w) (and_right (fits c) (every fits cs) f) m in (
      asked a.queue c ∷ r.0,
      pass _ (asked_given a.queue c w (and_left (fits c) (every fits cs) f)) ∙ r.1,
      called_one (ap (number_of a) i ∙ n) (subst (λ (d : Call). Called (called a d) r.0 b) (sym i) r.2),
    )

-- the bindings that an opening keeps are words if those given are
kept_words : (k : Kind) (bindings : List ℕ) → every is_word bindings ≡ true → every is_word (kept_bindings k bindings) ≡ true
kept_words Scope bindings h = refl
kept_words Iterator bindings h = h

module _ (o : Opening) (w : WordOpening o) (memory log : List ℕ) where
  abbrev start : Start
  start = record { opening = o; memory = memory }

  committed_words : every is_word (committed (opened_as o).queue) ≡ true
  committed_words =
      let p = opened_parts o w.unrefused in
      let k : List ℕ = kept_bindings o.heading.kind o.bindings in
      let e : committed (opened_as o).queue ≡ k = ap (λ (n : ℕ). take n (opened_as o).queue.bindings) p.bound ∙ (ap (take (length k)) p.bindings ∙ take-append_seam k _) in
      ap (every is_word) e ∙ kept_words o.heading.kind o.bindings w.bindings

  first_most : o.heading.first ≤ no_more
  unfolding is_word
  first_most = leb-true _ _ w.first

  -- what calls with 64-bit inputs leave is words of 64 bits, and belongs
  left_belongs : LeftIn o memory log → WordsBelong (setting_of o) log × (every is_word log ≡ true)
  unfolding rows
  left_belongs l =
      let h : History start l.end = called_history (opens w.unrefused) l.made in
      let i : Stands start l.end = stands start l.end h in
      let t : length (words_written l.end) ≡ l.end.used * 5 = length-take-le (l.end.used * 5) l.end.log i.within in
      let f : every row_fits (rows_of l.end) ≡ true = fitted start (opens w.unrefused) (opened_tight o w.unrefused first_most) refl l.given l.made in
      let e : every is_word (words_written l.end) ≡ true =
      ap (every is_word) (sym (words_again l.end.used (words_written l.end) t)) ∙ (flats_words (rows_of l.end) ∙ f) in
      subst (λ (x : List ℕ). WordsBelong (setting_of o) x × (every is_word x ≡ true)) l.words (history_words start l.end h, e)

  -- and whatever words of 64 bits belong, with room for them, some such calls leave
  belongs_left : length log ≤ length memory → WordsBelong (setting_of o) log → every is_word log ≡ true → LeftIn o memory log
  belongs_left room b words =
      let n : length (rows log) ≡ length log / 5 = rows_length log in
      let whole = (words_belong (setting_of o) log).0 b in
      let z : length log ≡ length (rows log) * 5 = omega arith in
      let f : every row_fits (rows log) ≡ true = sym (flats_words (rows log)) ∙ (ap (every is_word) (words_again (length (rows log)) log z) ∙ words) in
      let l : LeftByFitting start (rows log) = language_spoken_fits start w.unrefused w.domain (rows log) f b.rows_belong (omega arith) in
      let h : History start l.end = made_history (opens w.unrefused) l.made in
      let i : Stands start l.end = stands start l.end h in
      let t : length (words_written l.end) ≡ l.end.used * 5 = length-take-le (l.end.used * 5) l.end.log i.within in
      let u : l.end.used ≡ length (rows log) = sym i.counted ∙ ap length l.wrote in
      let a = made_called committed_words l.fitting l.made in
      record { calls = a.0; given = a.1; end = l.end; made = a.2; words = same_words_lem l.end.used (words_written l.end) log t (omega arith) l.wrote }

  -- the two as one
  pub word_logs : length log ≤ length memory → LeftIn o memory log ↔ (WordsBelong (setting_of o) log × (every is_word log ≡ true))
  word_logs room = (left_belongs, λ b. belongs_left room b.0 b.1)
