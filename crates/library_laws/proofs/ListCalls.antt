-- A whole list for C leaves what the separate calls leave that were taken: the words, and recorded also the log and the used rows
use Prim.Native.Nat.{ℕ}
use mathlib.Core.Path.{◌≡◌, refl, sym, ap, ◌∙◌, subst}
use mathlib.Core.Bool.{Bool, true, false}
use mathlib.Core.List.{List, [], ◌∷◌}
use lib.ListN.{take}
use Rattle.queue_record.specs.Record.{Sized}
use Rattle.queue_record.specs.declared.record.Queue.{Queue}
use Rattle.queue_births.specs.Births.{registered}
use Rattle.queue_births.specs.Sequences.{registered_all}
use Rattle.cleanup_queue.specs.Runs.{Call, after_all}
use Rattle.cleanup_queue.specs.WholeLists.{registers_of}
use Rattle.cleanup_queue.proofs.Sizes.{call_sized}
use Rattle.cleanup_queue.proofs.ListLaws.{all_separate}
use Rattle.queue_words.specs.Layout.{at_value}
use Rattle.queue_words.specs.Words.{word, queue_of, words_of, encodes}
use Rattle.queue_words.specs.Exported.{Exported, register_on, register_all_on}
use Rattle.queue_words.proofs.RoundTrip.{words_again, words_encode, queue_again, queue_sized, encoded}
use Rattle.gulberzan_c.specs.Recorded.{Recorded}
use Rattle.history.specs.Histories.{Bench, bench, called, Made, no_call, one_call}
use Rattle.history.specs.ListedHistories.{listed_to, list_answer}
use Rattle.history.proofs.Written.{accepted_is}
use Rattle.history.proofs.ListMade.{list_made}
use Rattle.library_laws.specs.CallWords.{WordCall}
use Rattle.library_laws.specs.Sessions.{Session, session, logged_by, logged_all, logged_to, LibraryCall, session_after, session_after_all, registers_each}
use Rattle.library_laws.proofs.AsCalls.{register_as, register_logged}
use Rattle.library_laws.proofs.WholeLists.{session_of, all_as_the_call, all_no_record, all_logged_as_the_call, all_no_record_logged}

-- ---- a register on a record's words
module _ (q : Queue) (z : Sized q) (n : ℕ) where
  register_words : (register_on (words_of q) n).words ≡ words_of (registered q n).queue
  register_words =
      ap (λ (x : Exported). x.words) (register_as (words_of q) (words_encode q z) n) ∙ ap (λ (p : Queue). words_of (registered p n).queue) (queue_again q z)

  register_session : (log : List ℕ) (used : ℕ) → logged_to (logged_by (session (words_of q) log used) (WordCall.register n)) ≡ session_of (called (bench q used log) (Call.register n))
  register_session log used =
      ap logged_to (register_logged (words_of q) (words_encode q z) log used n) ∙ ap (λ (p : Queue). session_of (called (bench p used log) (Call.register n))) (queue_again q z)

-- ---- and one for each of a list
plain_run : (log : List ℕ) (used : ℕ) (ns : List ℕ) (q : Queue) → Sized q
    → session_after_all (session (words_of q) log used) (registers_each LibraryCall.makes ns) ≡ session (words_of (after_all q (registers_of ns))) log used
plain_run log used [] q z = refl
plain_run log used (n ∷ ns) q z =
    ap (λ (ws : List ℕ). session_after_all (session ws log used) (registers_each LibraryCall.makes ns)) (register_words q z n)
    ∙ plain_run log used ns (registered q n).queue (call_sized q (Call.register n) z)

made_run : (ns : List ℕ) (a b : Bench) → Sized a.queue → Made a (registers_of ns) b → session_after_all (session_of a) (registers_each LibraryCall.records ns) ≡ session_of b
made_run [] a b z no_call = refl
made_run (n ∷ ns) a b z (one_call e m) =
    ap (λ (s : Session). session_after_all s (registers_each LibraryCall.records ns)) (register_session a.queue z n a.log a.used)
    ∙ made_run ns (called a (Call.register n)) b (subst (λ (x : Bench). Sized x.queue) (sym (accepted_is a (Call.register n) e).2) (call_sized a.queue (Call.register n) z)) m

-- ---- the call: as many as its answer says
module _ (s : Session) (ns : List ℕ) where
  -- the session's own words, where they are a record's
  own_words : encodes s.words ≡ true → session (words_of (queue_of s.words)) s.log s.used ≡ s
  own_words e = ap (λ (ws : List ℕ). session ws s.log s.used) (words_again s.words e)

  own_sized : encodes s.words ≡ true → Sized (queue_of s.words)
  own_sized e = queue_sized s.words (encoded s.words e).long

  -- what a plain call hands back, and what a recorded one does, is what so many separate calls leave
  abbrev AsMany : Exported → Type 0
  AsMany x = session x.words s.log s.used ≡ session_after_all s (registers_each LibraryCall.makes (take (word x.answer at_value) ns))

  abbrev AsManyLogged : Recorded → Type 0
  AsManyLogged r = logged_to r ≡ session_after_all s (registers_each LibraryCall.records (take (word r.call.answer at_value) ns))

  pub all_is_calls : session_after s (LibraryCall.registers_all ns) ≡ session_after_all s (registers_each LibraryCall.makes (take (word (register_all_on s.words ns).answer at_value) ns))
  all_is_calls = by (encodes s.words) refl
    where
      by : (b : Bool) → encodes s.words ≡ b → AsMany (register_all_on s.words ns)
      by false e = subst AsMany (sym (all_no_record s.words ns e)) refl
      by true e =
          let q = queue_of s.words in
          let some = take (registered_all q ns).answer.taken ns in
          subst AsMany (sym (all_as_the_call s.words ns e))
          (ap (λ (p : Queue). session (words_of p) s.log s.used) (all_separate q ns)
          ∙ (sym (plain_run s.log s.used some q (own_sized e)) ∙ ap (λ (u : Session). session_after_all u (registers_each LibraryCall.makes some)) (own_words e)))

  pub all_logged_is_calls : session_after s (LibraryCall.records_all ns) ≡ session_after_all s (registers_each LibraryCall.records (take (word (logged_all s ns).call.answer at_value) ns))
  all_logged_is_calls = by (encodes s.words) refl
    where
      by : (b : Bool) → encodes s.words ≡ b → AsManyLogged (logged_all s ns)
      by false e = subst AsManyLogged (sym (all_no_record_logged s ns e)) refl
      by true e =
          let b = bench (queue_of s.words) s.used s.log in
          let some = take (list_answer b ns).taken ns in
          subst AsManyLogged (sym (all_logged_as_the_call s ns e))
          (sym (made_run some b (listed_to b ns) (own_sized e) (list_made b ns)) ∙ ap (λ (u : Session). session_after_all u (registers_each LibraryCall.records some)) (own_words e))
