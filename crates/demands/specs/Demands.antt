-- The three demands, and one on the library, a field for each sentence, over the definitions that the contracts of the public calls cite
use Rattle.std.specs.Prelude.{ℕ, ◌+◌, ◌-◌, ◌<◌, ◌≤◌, min, ◌≡◌, ◌↔◌, Bool, true, false, not, List, [], ◌∷◌, length, take, set, replicate, Some, None, Ok, Err}
use Rattle.queue_record.specs.declared.refusal.Refusal.{Refusal}
use Rattle.queue_record.specs.Record.{Sized}
use Rattle.choice.specs.Choice.{when◌then◌else◌}
use Rattle.stage.specs.Bindings.{member, SameMembers}
use Rattle.stage.specs.Phases.{phase_after, is_pending, is_cancelled}
use Rattle.stage.specs.declared.phases.Phase.{Phase}
use Rattle.stage.specs.declared.phases.Event.{Event}
use Rattle.queue_record.specs.declared.refusal.Refusal.TheVariants.{Broken, NoGroup}
use Rattle.queue_record.specs.Refusals.{done, broken, hollow, no_group, bad_log, refusal_number, result_number}
use Rattle.queue_record.specs.WellFormed.{well_formed}
use Rattle.queue_record.specs.Blank.{is_blank}
use Rattle.queue_record.specs.Waiting.{waiting}
use Rattle.queue_record.specs.Openings.{Opening, blank, scope_of, iterator_of, opened_as}
use Rattle.queue_record.specs.declared.record.Ticket.{Ticket}
use Rattle.queue_record.specs.declared.record.Queue.{Queue}
use Rattle.queue_decisions.specs.Slots.{no_more}
use Rattle.queue_births.specs.Births.{registered, landed}
use Rattle.queue_births.specs.Sequences.{took_as, took_none, registered_all}
use Rattle.queue_steps.specs.Attempts.{slot, popped, completed, retried}
use Rattle.queue_stages.specs.Stages.{admitted, ended, cancelled_by}
use Rattle.queue_questions.specs.Questions.{yes_or_no, committed, matches, is_empty_told, can_retry_told, can_finish_told}
use Rattle.cleanup_queue.specs.Answers.{says, opened_says, told_says}
use Rattle.cleanup_queue.specs.Marked.{table, definition_says, paper_says}
use Rattle.cleanup_queue.specs.Orders.{Ground, due, first_refusal, first_due, first_said, RefusedAs, opening_order, broken_only}
use Rattle.cleanup_queue.specs.Parts.{OpenedParts, SameOpening, LeavesSelected, Pushes, Appends, Drops, TakesNext, TakesBack, RenewsTo, StaysButPhase}
use Rattle.cleanup_queue.specs.Promises.{hands_out, may_hand_out, HandedOut, Finishable}
use Rattle.cleanup_queue.specs.SoundQueues.{SoundQueue}
use Rattle.cleanup_queue.specs.Runs.{Call, after, after_all, attempts, tokens, Rising, counted_from, Counts}
use Rattle.cleanup_queue.specs.WholeLists.{registered_all_says, registers_of, register_all_order, before_zero, PushesAll}
use Rattle.group_record.specs.Record.{place_at, queue_at, free_place, with_place, with_queue, with_opened, empty_of}
use Rattle.group_record.specs.declared.record.Groups.{Groups}
use Rattle.group_check.specs.WellFormed.{last_base, well_grouped}
use Rattle.group_check.specs.Count.{live_count}
use Rattle.group_check.specs.Ids.{got}
use Rattle.group_questions.specs.ById.{accepts_in}
use Rattle.group_survey.specs.Whole.{can_retry_all_of, len_of}
use Rattle.group_openings.specs.Openings.{new_of, next_domain, added_scope, added_iterator}
use Rattle.group_endings.specs.Endings.{removed, sealed_in}
use Rattle.group_steps.specs.Sequences.{registered_all_in}
use Rattle.group_rounds.specs.Rounds.{retried_all}
use Rattle.cleanup_groups.specs.Answers.{len_says, got_says}
use Rattle.cleanup_groups.specs.Orders.{new_order, id_order, step_order}
use Rattle.cleanup_groups.specs.Promises.{LiveAt, id_at, IsLive, DrainedQueue, RoomToOpen, AddedAs, Frame, Sound}
use Rattle.cleanup_groups.specs.Runs.{GroupCall, groups_after, groups_after_all}
use Rattle.cleanup_groups.specs.Sequences.{registers_in, took_none_in}
use Rattle.log_rows.specs.Rows.{rows, flat, written}
use Rattle.log_rows.specs.declared.Row.{Row}
use Rattle.log_rows.specs.Appending.{rows_fit, has_room, free_rows}
use Rattle.log_entries.specs.Noting.{changes}
use Rattle.log_births.specs.Births.{register_recorded, land_recorded}
use Rattle.log_attempts.specs.Attempts.{complete_recorded}
use Rattle.log_language.specs.Readings.{every}
use Rattle.log_language.specs.FirstBad.{WordsBelong}
use Rattle.log_reader.specs.Reader.{ReadsAs, read_says, reading, setting_of}
use Rattle.log_reader.specs.Walk.{read_from}
use Rattle.log_reader.specs.InLanguage.{InLanguage}
use Rattle.cleanup_log.specs.RecordedOrders.{recorded_order, read_order}
use Rattle.cleanup_log.specs.Entries.{entry_of}
use Rattle.history.specs.Histories.{Bench, bench, called, number_of, Start, History, Made, words_written, rows_of, opened_queue}
use Rattle.history.specs.Fits.{is_word}
use Rattle.history.specs.Benches.{BenchCall, call_on, WordOpening, LeftIn}
use Rattle.history.specs.ListedHistories.{listed_to, list_answer, list_order, ListedHistory, LeftListed}
use Rattle.queue_words.specs.InPlace.{sound_number}
use Rattle.queue_words.specs.Layout.{at_value}
use Rattle.queue_words.specs.Words.{word, queue_of, words_of, encodes, is_sound}
use Rattle.queue_words.specs.Exported.{Exported, OpensOn, register_all_on}
use Rattle.gulberzan_c.specs.ReadBack.{ReadOn}
use Rattle.library_laws.specs.Sessions.{Session, LibraryCall, session_after, session_after_all, opening_by, Recorder, used_words, logged_by, logged_all, logged_to}
use Rattle.library_laws.specs.Results.{WordQuestion, asked_on, Returned, IsOne, made_by}
use Rattle.demands.specs.CallTables.{said_by, order_of, given_to, NotRefusedWith0, RecordedNotRefusedWith0, left_by, own_values, phase_line, QueueQuestion, told_to, meant_by}
use Rattle.gulberzan_c.specs.Recorded.{recorded_on}
use Rattle.library_laws.specs.CallWords.{WordCall}
use Rattle.library_laws.specs.Values.{plain_words, written_as, read_written}
use Rattle.demands.specs.CallTables.{said_of_groups, groups_order, given_to_groups, GroupsNotRefusedWith0, GroupsRefusedAs, by_id, is_for, told_by_id}
use Rattle.demands.specs.CallTables.{RecordQuestion, record_told, YesMeans, GroupQuestion, groups_told, groups_asked_order, SixteenPlaces}
use Rattle.demands.specs.CallTables.{LiveGroup}
use Rattle.demands.specs.RecordedTables.{said_recorded}
use Rattle.demands.specs.LibraryTables.{bench_of, form_of, question_of, form_asked, bench_in, logged_as, LeavesSession}
use Rattle.queue_record.specs.declared.answered.Answered.{Answered}
use Rattle.log_reader.specs.Types.{Read}

-- ---- demand 1: every record and every input gets one answer, a refusal has one number, changes nothing and gives the number back; of a
-- whole list from the refusal on.
-- That each call ends, on every input, is what its contract says by asking for nothing
pub record Demand1 : Type 0 where
  -- each refusal has a number of its own (R63: refusal_number); first_due is the number of the first that is due, and 0 where none is
  pub own_number : (r s : Refusal) → refusal_number r ≡ refusal_number s → r ≡ s
  pub first_number : (ds : List Ground) → result_number (first_refusal ds) ≡ first_due ds
  pub one_number : (q : Queue) (c : BenchCall) → (said_by q c).number ≡ first_due (order_of q c)
  pub one_number_asked : (q : Queue) (a : QueueQuestion) → (told_to q a).number ≡ first_due (broken_only q)
  pub one_number_opening : (o : Opening) → (opened_says (opened_as o).answer).number ≡ first_due (opening_order o)
  pub one_number_recorded : (b : Bench) (c : BenchCall)
      → number_of b (call_on b.queue c) ≡ first_due (recorded_order (length b.log) b.used (order_of b.queue c) (changes (entry_of b.queue (call_on b.queue c))))
  -- what is refused is told from what is done by its number
  pub refusal_is_not0 : ((q : Queue) (c : BenchCall) → NotRefusedWith0 q c) × ((o : Opening) (refusal : Refusal) → (opened_as o).answer ≡ Err refusal → refusal_number refusal ≡ done → ⊥)
  pub recorded_refusal_is_not0 : (q : Queue) (log : List ℕ) (used : ℕ) (c : BenchCall) → RecordedNotRefusedWith0 q log used c
  -- nor is a question refused with 0: what it says with 0 has a value
  pub asked_refusal_is_not0 : ((q : Queue) (a : QueueQuestion) → told_to q a ≡ says done [] → ⊥) × ((g : Groups) (id : ℕ) (a : QueueQuestion) → told_by_id g id a ≡ says done [] → ⊥)
      × ((g : Groups) (id : ℕ) → told_says (accepts_in g id) ≡ says done [] → ⊥) × ((g : Groups) (a : RecordQuestion) → told_says (record_told g a) ≡ says done [] → ⊥)
      × ((g : Groups) → len_says (len_of g) ≡ says done [] → ⊥)
  -- 9 has its place in pop's order, and is never given
  pub never_hollow : (q : Queue) (refusal : Refusal) → (popped q).answer ≡ Err refusal → refusal_number refusal ≡ hollow → ⊥
  pub nothing_changed : (q : Queue) (c : BenchCall) → RefusedAs q (given_to c) (said_by q c) (left_by q c)
  pub blank_opening : (o : Opening) → RefusedAs blank [] (opened_says (opened_as o).answer) (opened_as o).queue
  pub nothing_changed_recorded : (b : Bench) (c : BenchCall) → (number_of b (call_on b.queue c) ≡ done → ⊥) → called b (call_on b.queue c) ≡ b
  pub given_back_recorded : (q : Queue) (log : List ℕ) (used : ℕ) → ((n : ℕ) (refusal : Refusal) (given : ℕ) → (register_recorded q n log used).answer ≡ Err (refusal, given) → given ≡ n)
      × ((n : ℕ) (refusal : Refusal) (given : ℕ) → (land_recorded q n log used).answer ≡ Err (refusal, given) → given ≡ n)
      × ((t : Ticket) (outcome kept : ℕ) (refusal : Refusal) (given : ℕ) → (complete_recorded q t outcome kept log used).answer ≡ Err (refusal, given) → given ≡ kept)
  -- a recorded call says, and leaves in the queue, what the plain one does, or it is refused and gives back the number that it was given
  pub recorded_answers : (b : Bench) (c : BenchCall) → ((said_recorded b c).number ≡ number_of b (call_on b.queue c))
      × (number_of b (call_on b.queue c) ≡ done → (said_recorded b c ≡ said_by b.queue c) × ((called b (call_on b.queue c)).queue ≡ left_by b.queue c))
  pub refused_recorded : (b : Bench) (c : BenchCall) → ((said_recorded b c).number ≡ done → ⊥) → (said_recorded b c).values ≡ given_to c
  -- a whole list: 1, of an empty one too; then the number of the separate register of the next one, behind those that were taken
  pub list_number : (q : Queue) (ns : List ℕ) → result_number (registered_all q ns).answer.refusal ≡ first_due (register_all_order q ns (registered_all q ns).answer.taken)
  pub list_number_recorded : (b : Bench) (ns : List ℕ) → result_number (list_answer b ns).refusal ≡ first_due (list_order b ns)
  pub list_unrefused : ((q : Queue) (ns : List ℕ) → (result_number (registered_all q ns).answer.refusal ≡ done) ↔ ((well_formed q ≡ true) × ((registered_all q ns).answer.taken ≡ length ns)))
      × ((b : Bench) (ns : List ℕ) → (result_number (list_answer b ns).refusal ≡ done) ↔ ((rows_fit (length b.log) b.used ≡ true) × (well_formed b.queue ≡ true) × ((list_answer b ns).taken ≡ length ns)))
  -- from that refusal on nothing is taken: what is left is what the separate calls of the first ones leave (of the log demand 3 says so).
  -- The list itself can't change: it is lent to be read. None taken changes nothing
  pub list_keeps : ((q : Queue) (ns : List ℕ) → (registered_all q ns).queue ≡ after_all q (registers_of (take (registered_all q ns).answer.taken ns)))
      × ((b : Bench) (ns : List ℕ) → (listed_to b ns).queue ≡ after_all b.queue (registers_of (take (list_answer b ns).taken ns)))
      × ((g : Groups) (id : ℕ) (ns : List ℕ) → SixteenPlaces g
      → (registered_all_in g id ns).groups ≡ groups_after_all g (registers_in id (take (registered_all_in g id ns).answer.taken ns)))
  pub list_none_taken : ((q : Queue) (ns : List ℕ) → (registered_all q ns).answer.taken ≡ 0 → (registered_all q ns).queue ≡ q)
      × ((b : Bench) (ns : List ℕ) → (list_answer b ns).taken ≡ 0 → listed_to b ns ≡ b)
  pub list_empty : ((q : Queue) → registered_all q [] ≡ took_none q (first_refusal (broken_only q)))
      × ((b : Bench) → (list_answer b [] ≡ took_as 0 (first_refusal (due Broken (not (rows_fit (length b.log) b.used)) ∷ broken_only b.queue))) × (listed_to b [] ≡ b))
  -- the reader: 14 where the opening is refused, with place 0 and the blank queue; then 16 exactly if the log does not belong
  pub one_number_read : (o : Opening) (log : List ℕ) (r : Answered Read) → ReadsAs o log r
      → (belongs : Bool) × ((belongs ≡ true) ↔ WordsBelong (setting_of o) log) × ((read_says r.answer).0 ≡ first_due (read_order o belongs))
  pub blank_read : (o : Opening) (log : List ℕ) (r : Answered Read) → ReadsAs o log r → (first_due (opening_order o) ≡ done → ⊥)
      → (refusal : Refusal) × (refusal_number refusal ≡ first_due (opening_order o)) × (r ≡ reading (Err (refusal, 0)) blank)
  -- the groups: every call, every question, a new record; what a refused one leaves, and what stands beside a refused get
  pub one_number_groups : (g : Groups) (c : GroupCall) → (said_of_groups g c).number ≡ first_due (groups_order g c)
  pub one_number_groups_asked : (g : Groups) (a : GroupQuestion) → (groups_told g a).number ≡ first_due (groups_asked_order g a)
  pub one_number_new : (base : ℕ) → (opened_says (new_of base).answer).number ≡ first_due (new_order base)
  pub groups_refusal_is_not0 : ((g : Groups) (c : GroupCall) → GroupsNotRefusedWith0 g c) × ((base : ℕ) (refusal : Refusal) → (new_of base).answer ≡ Err refusal → refusal_number refusal ≡ done → ⊥)
      × ((g : Groups) (id : ℕ) (refusal : Refusal) → (got g id).answer ≡ Err refusal → refusal_number refusal ≡ done → ⊥)
  pub groups_unchanged : (g : Groups) (c : GroupCall) → GroupsRefusedAs g (given_to_groups c) (said_of_groups g c) (groups_after g c)
  -- a whole list of a group: 1, 10, then the queue's; an empty one too
  pub list_number_groups : (g : Groups) (id : ℕ) (ns : List ℕ) → result_number (registered_all_in g id ns).answer.refusal ≡ first_due (step_order g id (λ q. register_all_order q ns (registered_all q ns).answer.taken))
  pub list_unrefused_groups : (g : Groups) (id : ℕ) (ns : List ℕ) → SixteenPlaces g
      → (result_number (registered_all_in g id ns).answer.refusal ≡ done) ↔ ((well_grouped g ≡ true) × IsLive g id × ((registered_all_in g id ns).answer.taken ≡ length ns))
  pub list_none_taken_groups : (g : Groups) (id : ℕ) (ns : List ℕ) → (registered_all_in g id ns).answer.taken ≡ 0 → (registered_all_in g id ns).groups ≡ g
  pub list_empty_groups : (g : Groups) (id : ℕ) → SixteenPlaces g → registered_all_in g id [] ≡ took_none_in g (first_refusal (id_order g id))
  pub empty_new : (base : ℕ) → GroupsRefusedAs (empty_of 0) [] (opened_says (new_of base).answer) (new_of base).groups
  pub blank_get : (g : Groups) (id : ℕ) → RefusedAs blank [] (got_says (got g id).answer) (got g id).queue

-- ---- demand 2: what the calls' equations come to
pub record Demand2 : Type 0 where
  -- the check says yes to exactly the records of R13 to R20
  pub well_formed_means : (q : Queue) → (well_formed q ≡ true) ↔ SoundQueue q
  -- every call leaves what the opening gave: kind, domain and bindings. What becomes of the other parts follows, call by call
  pub opening_stays : (q : Queue) (c : Call) → SameOpening q (after q c)
  -- a token given: the number stands in its slot, the count rises by 1; nothing else changes, but the phase by a land
  pub birth_stores : (q : Queue) → Sized q → (n : ℕ) → Pushes q n (registered q n) × Pushes q n (landed q n)
  pub birth_leaves : (q : Queue) (n : ℕ) → LeavesSelected q (registered q n).queue × ((registered q n).queue.phase ≡ q.phase) × LeavesSelected q (landed q n).queue
  pub land_moves : (q : Queue) (n token : ℕ) → (landed q n).answer ≡ Ok token → (is_pending q.phase ≡ true) × ((landed q n).queue.phase ≡ phase_after q.phase Event.Land)
  -- a whole list is the separate registers of its first numbers: each gives the next token
  pub list_tokens : (q : Queue) (ns : List ℕ) → tokens q (registers_of (take (registered_all q ns).answer.taken ns)) ≡ counted_from q.count (registered_all q ns).answer.taken
  pub list_stores : (q : Queue) (ns : List ℕ) → Sized q → PushesAll q ns (registered_all q ns)
  -- as many as lie before the first 0, as slots are unused, and, recorded, as rows are free
  pub list_counted : ((q : Queue) (ns : List ℕ) → well_formed q ≡ true → (registered_all q ns).answer.taken ≡ min (before_zero ns) (64 - q.count))
      × ((b : Bench) (ns : List ℕ) → rows_fit (length b.log) b.used ≡ true → well_formed b.queue ≡ true
      → (list_answer b ns).taken ≡ min (before_zero ns) (min (64 - b.queue.count) (free_rows (length b.log) b.used)))
  -- work handed out: its slot empties, its ticket is selected and issued, next rises by 1 with a fresh ticket; without work nothing changes
  pub pop_leaves : (q : Queue) (t : Ticket) (number : ℕ) → (popped q).answer ≡ Ok (Some (t, number))
      → ((popped q).queue.slots ≡ set q.slots t.token 0) × ((popped q).queue.selection ≡ Some t) × ((popped q).queue.issued ≡ true) × TakesNext q (popped q).queue
  pub pop_stays : (q : Queue) → ((popped q).queue.phase ≡ q.phase) × ((popped q).queue.failed ≡ q.failed) × ((popped q).queue.count ≡ q.count)
  pub pop_nothing : (q : Queue) → hands_out (popped q).answer ≡ false → (popped q).queue ≡ q
  -- a reply is taken in exactly if its ticket is out, and Done keeps nothing: then the slot has the kept number, and failed says the outcome
  pub settles_exactly : (q : Queue) (t : Ticket) (outcome kept : ℕ) → ((completed q t outcome kept).answer ≡ Ok tt)
      ↔ ((well_formed q ≡ true) × (q.issued ≡ true) × (q.selection ≡ Some t) × (outcome ≤ 1) × (outcome ≡ 0 → kept ≡ 0))
  pub complete_leaves : (q : Queue) (t : Ticket) (outcome kept : ℕ) → (completed q t outcome kept).answer ≡ Ok tt → TakesBack q t outcome kept (completed q t outcome kept).queue
      × ((completed q t outcome kept).queue.phase ≡ q.phase) × ((completed q t outcome kept).queue.next ≡ q.next)
  -- a ticket is renewed exactly if it has failed, its slot is full and an attempt is left: it takes next, and next rises by 1
  pub retries_exactly : (q : Queue) → ((t : Ticket) × ((retried q).answer ≡ Ok t))
      ↔ ((well_formed q ≡ true) × (q.failed ≡ true) × (q.next < no_more) × ((s : Ticket) × (q.selection ≡ Some s) × (slot q s.token ≡ 0 → ⊥)))
  pub retry_leaves : (q : Queue) (t : Ticket) → (retried q).answer ≡ Ok t
      → (s : Ticket) × (q.selection ≡ Some s) × (t ≡ record { domain = s.domain; token = s.token; attempt = q.next }) × RenewsTo q t (retried q).queue
  -- R28 to R32, row by row: Idle, Pending, Ended, Stopping, Closed
  pub stage_table : (phase_line Phase.Idle ≡ 1 ∷ 0 ∷ 0 ∷ 4 ∷ 0 ∷ 0 ∷ 0 ∷ []) × (phase_line Phase.Pending ≡ 1 ∷ 0 ∷ 2 ∷ 3 ∷ 1 ∷ 0 ∷ 0 ∷ []) × (phase_line Phase.Ended ≡ 2 ∷ 2 ∷ 2 ∷ 4 ∷ 0 ∷ 1 ∷ 0 ∷ [])
      × (phase_line Phase.Stopping ≡ 3 ∷ 4 ∷ 4 ∷ 3 ∷ 1 ∷ 0 ∷ 1 ∷ []) × (phase_line Phase.Closed ≡ 4 ∷ 4 ∷ 4 ∷ 4 ∷ 0 ∷ 1 ∷ 1 ∷ [])
  -- admit, end and cancel move the phase by the table of R28, and nothing else; admit only where a target is given that matches
  pub stage_leaves : (q : Queue) (matched : Bool) → StaysButPhase q (admitted q matched).queue × StaysButPhase q (ended q).queue × StaysButPhase q (cancelled_by q).queue
  pub stage_moves : (q : Queue) (matched : Bool) → well_formed q ≡ true → ((admitted q matched).queue.phase ≡ (when matched then phase_after q.phase Event.Admit else q.phase))
      × ((ended q).queue.phase ≡ phase_after q.phase Event.End) × ((cancelled_by q).queue.phase ≡ phase_after q.phase Event.Cancel)
  pub match_means : (q : Queue) (target : List ℕ) → (matches q target ≡ true) ↔ SameMembers target (committed q)
  -- what each call and each question says: the first refusal that is due with what it gives back, or 0 with its own values
  pub calls_say : (q : Queue) (c : BenchCall) → said_by q c ≡ first_said (order_of q c) (given_to c) (own_values q c)
  pub asks_say : (q : Queue) (a : QueueQuestion) → told_to q a ≡ first_said (broken_only q) [] (meant_by q a ∷ [])
  pub empty_means : (q : Queue) → (is_empty_told q ≡ Ok true) ↔ ((well_formed q ≡ true) × (q.selection ≡ None) × (waiting q ≡ []))
  pub can_retry_means : (q : Queue) → (can_retry_told q ≡ Ok true) ↔ ((t : Ticket) × ((retried q).answer ≡ Ok t))
  -- the cases W1 to W12 that were worked out by hand
  pub marked_cases : definition_says table ≡ paper_says table
  -- pop hands out exactly when something may be handed out, and then the ready ticket or the newest waiting token's
  pub hands_out_exactly : (q : Queue) → hands_out (popped q).answer ≡ may_hand_out q
  pub hands_out_this : (q : Queue) (t : Ticket) (number : ℕ) → (popped q).answer ≡ Ok (Some (t, number)) → HandedOut q t number
  -- a token waits exactly if its slot is full and it is not the selected one
  pub waits_exactly : (q : Queue) (k : ℕ) → (member k (waiting q) ≡ true) ↔ ((slot q k ≡ 0 → ⊥) × ((t : Ticket) → q.selection ≡ Some t → t.token ≡ k → ⊥))
  -- the waiting order: ascending; a birth comes behind all, a fresh ticket takes the last
  pub waiting_rises : (q : Queue) → Rising (waiting q)
  pub birth_waits_last : (q : Queue) → Sized q → (n : ℕ) → Appends q (registered q n) × Appends q (landed q n)
  pub pop_takes_last : (q : Queue) → Drops q (popped q)
  -- and a ready ticket takes none; any other call leaves the list
  pub ready_keeps_waiting : (q : Queue) (t : Ticket) → q.selection ≡ Some t → waiting (popped q).queue ≡ waiting q
  pub others_keep_waiting : (q : Queue) → ((t : Ticket) (outcome kept : ℕ) → waiting (completed q t outcome kept).queue ≡ waiting q) × (waiting (retried q).queue ≡ waiting q)
      × ((matched : Bool) → waiting (admitted q matched).queue ≡ waiting q) × (waiting (ended q).queue ≡ waiting q) × (waiting (cancelled_by q).queue ≡ waiting q)
  -- can_finish, both ways, and one that is not empty
  pub finish_means : (q : Queue) (target : List ℕ) → (can_finish_told q target ≡ Ok true) ↔ Finishable q target
  pub finish_happens : can_finish_told (iterator_of 0 0 (4 ∷ 9 ∷ [])) (9 ∷ 4 ∷ 9 ∷ []) ≡ Ok true
  -- what an opening leaves, every part
  pub opened_as_given : (o : Opening) → (opened_as o).answer ≡ Ok tt → OpenedParts o (opened_as o).queue
  -- the blank queue is the scope of domain 0 and first attempt 0, and its test says yes to no other
  pub blank_means : (blank ≡ scope_of 0 0) × ((q : Queue) → Sized q → (is_blank q ≡ true) ↔ (q ≡ blank))
  -- from it on, whatever is called: well formed, attempts first, plus 1, plus 2, and tokens 0 to 63
  pub stays_sound : (o : Opening) (cs : List Call) → well_formed (after_all (opened_as o).queue cs) ≡ true
  pub attempts_exactly : (o : Opening) → (opened_as o).answer ≡ Ok tt → o.heading.first ≤ no_more → (cs : List Call)
      → Counts o.heading.first no_more (attempts (opened_as o).queue cs)
  pub tokens_exactly : (o : Opening) → (opened_as o).answer ≡ Ok tt → (cs : List Call) → Counts 0 64 (tokens (opened_as o).queue cs)
  -- and from any other well-formed queue on
  pub sound_queue_stays : (q : Queue) (cs : List Call) → well_formed q ≡ true → well_formed (after_all q cs) ≡ true
  -- the groups. A call on a live id says what the queue's own call says, and that place alone has the queue that it leaves
  pub group_as_queue : (g : Groups) (i : ℕ) → LiveGroup g i → (c : BenchCall) → (said_of_groups g (by_id (id_at g i) c) ≡ said_by (queue_at g i) c)
      × (groups_after g (by_id (id_at g i) c) ≡ with_queue g i (left_by (queue_at g i) c))
  pub group_asked_as_queue : (g : Groups) (i : ℕ) → LiveGroup g i → (a : QueueQuestion) → told_by_id g (id_at g i) a ≡ told_to (queue_at g i) a
  pub accepts_means : (g : Groups) (i : ℕ) → LiveGroup g i → accepts_in g (id_at g i) ≡ yes_or_no (not (is_cancelled (queue_at g i).phase))
  pub get_gives : (g : Groups) (i : ℕ) → LiveGroup g i → got g (id_at g i) ≡ record { answer = Ok tt; queue = queue_at g i }
  -- on any other id it says 10
  pub no_such_group : (g : Groups) (id : ℕ) → SixteenPlaces g → well_grouped g ≡ true → (IsLive g id → ⊥)
      → ((c : BenchCall) → (said_of_groups g (by_id id c)).number ≡ no_group) × ((said_of_groups g (GroupCall.remove id)).number ≡ no_group) × ((a : QueueQuestion) → (told_by_id g id a).number ≡ no_group)
      × ((told_says (accepts_in g id)).number ≡ no_group) × ((got_says (got g id).answer).number ≡ no_group)
  -- a whole list of a live id is the queue's, in that place alone; on any other id none is taken
  pub list_of_group : (g : Groups) (i : ℕ) → LiveGroup g i → (ns : List ℕ) → registered_all_in g (id_at g i) ns
      ≡ record { answer = (registered_all (queue_at g i) ns).answer; groups = with_queue g i (registered_all (queue_at g i) ns).queue }
  pub list_of_no_group : (g : Groups) (id : ℕ) (ns : List ℕ) → SixteenPlaces g → (well_grouped g ≡ false → registered_all_in g id ns ≡ took_none_in g (Some Broken))
      × (well_grouped g ≡ true → (IsLive g id → ⊥) → registered_all_in g id ns ≡ took_none_in g (Some NoGroup))
  -- a live group that a call is not for keeps its whole place
  pub other_groups_stay : (g : Groups) → SixteenPlaces g → (c : GroupCall) (j : ℕ) → LiveAt g j → is_for c (id_at g j) ≡ false → place_at (groups_after g c) j ≡ place_at g j
  -- the check says yes to exactly the sound records; a new one has the root alone; from it on, whatever is called, it is sound
  pub check_means_sound : (g : Groups) → SixteenPlaces g → (well_grouped g ≡ true) ↔ Sound g
  pub new_has_root : (base : ℕ) → base ≤ last_base → new_of base ≡ record { answer = Ok tt; groups = with_opened (empty_of base) 0 (scope_of base 0) }
  pub groups_stay_sound : (base : ℕ) (cs : List GroupCall) → (well_grouped (groups_after_all (new_of base).groups cs) ≡ true) × SixteenPlaces (groups_after_all (new_of base).groups cs)
  -- and from any other sound record on
  pub sound_groups_stay : (g : Groups) (cs : List GroupCall) → SixteenPlaces g → well_grouped g ≡ true → (well_grouped (groups_after_all g cs) ≡ true) × SixteenPlaces (groups_after_all g cs)
  -- an opening is done exactly if there is room for it; it gave the next id, and put a fresh queue into the lowest free place and nowhere else
  pub opens_exactly : (g : Groups) → SixteenPlaces g → (((n : ℕ) × ((added_scope g).answer ≡ Ok n)) ↔ RoomToOpen g)
      × ((bindings : List ℕ) → ((n : ℕ) × ((added_iterator g bindings).answer ≡ Ok n)) ↔ ((length bindings ≤ 16) × RoomToOpen g))
  pub opened_group : (g : Groups) → SixteenPlaces g → (n : ℕ) → ((added_scope g).answer ≡ Ok n → AddedAs g n (scope_of (next_domain g) 0) (added_scope g).groups)
      × ((bindings : List ℕ) → (added_iterator g bindings).answer ≡ Ok n → AddedAs g n (iterator_of (next_domain g) 0 bindings) (added_iterator g bindings).groups)
  -- ids: one that was given and is not live never is again, that of a closed group too; live groups have domains of their own
  pub gone_for_good : (g : Groups) (cs : List GroupCall) (id : ℕ) → SixteenPlaces g → id < g.next → (IsLive g id → ⊥) → IsLive (groups_after_all g cs) id → ⊥
  pub closed_for_good : (g : Groups) (id : ℕ) (cs : List GroupCall) → SixteenPlaces g → (removed g id).answer ≡ Ok tt → IsLive (groups_after_all (removed g id).groups cs) id → ⊥
  pub domains_differ : (g : Groups) (i j : ℕ) → LiveGroup g i → LiveGroup g j → (queue_at g i).domain ≡ (queue_at g j).domain → i ≡ j
  -- close is done exactly if the id is live and nothing is left in its queue, and frees that place alone
  pub closes_exactly : (g : Groups) (id : ℕ) → SixteenPlaces g → ((removed g id).answer ≡ Ok tt) ↔ ((i : ℕ) × LiveGroup g i × (id_at g i ≡ id) × DrainedQueue (queue_at g i))
  pub close_frees : (g : Groups) (i : ℕ) → LiveGroup g i → (removed g (id_at g i)).answer ≡ Ok tt → (removed g (id_at g i)).groups ≡ with_place g i free_place
  -- seal is done exactly if nothing is left in any group, and then none is live any more, whatever is called
  pub seals_exactly : (g : Groups) → SixteenPlaces g → ((sealed_in g).answer ≡ Ok tt)
      ↔ ((well_grouped g ≡ true) × (g.sealed ≡ false) × ((i : ℕ) → i < 16 → LiveAt g i → DrainedQueue (queue_at g i)))
  pub seal_leaves : (g : Groups) → SixteenPlaces g → (sealed_in g).answer ≡ Ok tt → (sealed_in g).groups ≡ record { base = g.base; next = g.next; sealed = true; places = replicate 16 free_place }
  pub sealed_for_good : (g : Groups) → SixteenPlaces g → (sealed_in g).answer ≡ Ok tt → (cs : List GroupCall) (id : ℕ) → IsLive (groups_after_all (sealed_in g).groups cs) id → ⊥
  -- retry_all: yes exactly if can_retry_all says so, and else it changes nothing
  pub round_exactly : (g : Groups) → ((retried_all g).answer ≡ Ok true) ↔ (can_retry_all_of g ≡ Ok true)
  pub round_else_nothing : (g : Groups) → ((retried_all g).answer ≡ Ok true → ⊥) → (retried_all g).groups ≡ g
  -- each failed group is retried as a queue, and gets a new ticket; one that had not failed keeps its whole place
  pub round_retries : (g : Groups) (i : ℕ) → LiveGroup g i → (retried_all g).answer ≡ Ok true → (queue_at g i).failed ≡ true
      → (queue_at (retried_all g).groups i ≡ (retried (queue_at g i)).queue) × ((t : Ticket) × ((retried (queue_at g i)).answer ≡ Ok t))
  pub round_keeps : (g : Groups) (i : ℕ) → (queue_at g i).failed ≡ false → place_at (retried_all g).groups i ≡ place_at g i
  -- and what groups there are stays; it does say yes, here of a record whose root has failed
  pub round_frame : (g : Groups) → Frame g (retried_all g).groups
  pub round_happens : (retried_all (groups_after_all (new_of 0).groups (GroupCall.register 0 72 ∷ GroupCall.pop 0 ∷ GroupCall.complete 0 (record { domain = 0; token = 0; attempt = 0 }) 1 72 ∷ []))).answer ≡ Ok true
  -- what a yes means, and how many are live: none, and 1 more with an opening, 1 less with a closing
  pub yes_means : (g : Groups) → SixteenPlaces g → (a : RecordQuestion) → (record_told g a ≡ Ok true) ↔ ((well_grouped g ≡ true) × YesMeans g a)
  pub len_tells : (g : Groups) → well_grouped g ≡ true → len_says (len_of g) ≡ says done (live_count g.places ∷ [])
  pub len_counts : (g : Groups) → SixteenPlaces g → ((live_count g.places ≡ 0) ↔ ((i : ℕ) → i < 16 → (place_at g i).live ≡ false))
      × ((n : ℕ) → (added_scope g).answer ≡ Ok n → live_count (added_scope g).groups.places ≡ live_count g.places + 1)
      × ((bindings : List ℕ) (n : ℕ) → (added_iterator g bindings).answer ≡ Ok n → live_count (added_iterator g bindings).groups.places ≡ live_count g.places + 1)
      × ((id : ℕ) → (removed g id).answer ≡ Ok tt → live_count (removed g id).groups.places + 1 ≡ live_count g.places)

-- ---- demand 3: a log names each change; the reader accepts exactly the logs that recorded calls can leave, and finds what they leave
pub record Demand3 : Type 0 where
  -- a call writes its row exactly if it changes the queue
  pub rows_name_changes : (q : Queue) (c : Call) → (changes (entry_of q c) ≡ false → after q c ≡ q) × (changes (entry_of q c) ≡ true → after q c ≡ q → ⊥)
  -- one that does not, accepted, leaves record, used count and log
  pub quiet_call : (b : Bench) (c : Call) → number_of b c ≡ done → changes (entry_of b.queue c) ≡ false → called b c ≡ b
  -- one that does, with room, is accepted, and its row stands behind the used ones
  pub row_is_written : (b : Bench) (c : Call) → rows_fit (length b.log) b.used ≡ true → has_room (length b.log) b.used ≡ true
      → changes (entry_of b.queue c) ≡ true
      → (number_of b c ≡ done) × ((row : Row) × (entry_of b.queue c ≡ Ok (Some row)) × (called b c ≡ bench (after b.queue c) (b.used + 1) (written b.log b.used (flat row))))
  -- a whole list counts as the separate recorded calls that were taken, each accepted, a row each
  pub list_is_recorded : (b : Bench) (ns : List ℕ) → Made b (registers_of (take (list_answer b ns).taken ns)) (listed_to b ns)
  pub list_rows : (b : Bench) (ns : List ℕ) → (listed_to b ns).used ≡ b.used + (list_answer b ns).taken
  -- so a history may contain it: these are the same histories, and they leave the same logs
  pub listed_same : (s : Start) (b : Bench) → ListedHistory s b ↔ History s b
  pub same_logs : (o : Opening) (memory log : List ℕ) → LeftListed o memory log ↔ LeftIn o memory log
  -- the reader has a right answer for every log, accepts a log exactly when it belongs, and one answer is right
  pub every_log_read : (o : Opening) (log : List ℕ) → ReadsAs o log (read_from (opened_as o) log)
  pub reader_accepts : (o : Opening) (log : List ℕ) (r : Answered Read) → ReadsAs o log r → ((read_says r.answer).0 ≡ done) ↔ InLanguage o log
  pub one_reading : (o : Opening) (log : List ℕ) (r s : Answered Read) → ReadsAs o log r → ReadsAs o log s → r ≡ s
  -- recorded histories and the language are one set: of words, by calls of words, whole rows, in any memory with room
  pub one_set : (o : Opening) → WordOpening o → (memory log : List ℕ) → length log ≤ length memory
      → LeftIn o memory log ↔ (WordsBelong (setting_of o) log × (every is_word log ≡ true))
  -- the reader's end state is the one that the calls leave, and before a bad row the one that the calls before it leave
  pub end_state : (s : Start) (b : Bench) → ListedHistory s b → (r : Answered Read) → ReadsAs s.opening (words_written b) r → r ≡ reading (Ok b.used) b.queue
  pub state_before : (s : Start) (b : Bench) → ListedHistory s b → (log : List ℕ) (r : Answered Read) → ReadsAs s.opening log r
      → (read_says r.answer).0 ≡ bad_log → rows_of b ≡ take (read_says r.answer).1 (rows log) → r.queue ≡ b.queue
  pub one_state : (s t : Start) (a b : Bench) → opened_queue s ≡ opened_queue t → ListedHistory s a → ListedHistory t b → rows_of a ≡ rows_of b → a.queue ≡ b.queue

-- ---- of the library for C
pub record LibraryDemand : Type 0 where
  -- every record is encoded by its own words alone, and what encodes one is told; sound are those of a well-formed one
  pub words_are_records : ((q : Queue) → Sized q → (encodes (words_of q) ≡ true) × (queue_of (words_of q) ≡ q))
      × ((ws : List ℕ) → encodes ws ≡ true → (words_of (queue_of ws) ≡ ws) × Sized (queue_of ws))
  pub sound_told : (ws : List ℕ) → ((sound_number (is_sound ws) ≡ 1) ↔ ((encodes ws ≡ true) × (well_formed (queue_of ws) ≡ true))) × (sound_number (is_sound ws) ≤ 1)
  -- on a record's words each call is the queue's: its number, its answer's five words and the words that it leaves
  pub opens_as_the_call : (o : Opening) (n : ℕ) (words : List ℕ) → OpensOn (opened_as o) n words
      ↔ ((n ≡ (opened_says (opened_as o).answer).number) × (words ≡ words_of (opened_as o).queue))
  pub as_the_call : (ws : List ℕ) (c : WordCall) → encodes ws ≡ true → made_by ws c ≡ written_as (form_of c) (said_by (queue_of ws) (bench_of c)) (words_of (left_by (queue_of ws) (bench_of c)))
  pub asked_as_the_call : (ws : List ℕ) (a : WordQuestion) → encodes ws ≡ true → asked_on ws a ≡ written_as (form_asked a) (told_to (queue_of ws) (question_of a)) ws
  pub recorded_as_the_call : (s : Session) (c : WordCall) → encodes s.words ≡ true
      → logged_by s c ≡ logged_as (form_of c) (said_recorded (bench_in s) (bench_of c)) (called (bench_in s) (call_on (queue_of s.words) (bench_of c)))
  -- the reader's is the reader's by value; a kind that there is not says 1
  pub reads_as_the_reader : (ws : List ℕ) (kind domain first : ℕ) (bindings log : List ℕ) (x : Exported)
      → (kind ≤ 1 → ReadOn ws kind domain first bindings log x ↔ (x ≡ read_written (read_from (opened_as (opening_by kind domain first bindings)) log)))
      × (1 < kind → ReadOn ws kind domain first bindings log x ↔ (x ≡ written_as plain_words (says broken []) ws))
  -- other words say 1, stay, and the undo number that was given comes back; so do words, log and used rows of each of these that is refused
  pub no_record : (ws : List ℕ) → encodes ws ≡ false → ((c : WordCall) → made_by ws c ≡ written_as (form_of c) (says broken (given_to (bench_of c))) ws)
      × ((a : WordQuestion) → asked_on ws a ≡ written_as (form_asked a) (says broken []) ws)
  pub no_record_logged : (s : Session) (c : WordCall) → encodes s.words ≡ false
      → logged_by s c ≡ recorded_on (written_as (form_of c) (says broken (given_to (bench_of c))) s.words) s.log s.used
  pub refused_words : ((ws : List ℕ) (c : WordCall) → ((made_by ws c).result ≡ done → ⊥) → (made_by ws c).words ≡ ws)
      × ((s : Session) (c : WordCall) → ((logged_by s c).call.result ≡ done → ⊥) → logged_to (logged_by s c) ≡ s)
  -- a whole list is the queue's too, plain and recorded: its number, and how many were taken. On other words it says 1 and takes none, and none taken
  -- leaves words, log and used rows
  pub list_as_the_call : (ws ns : List ℕ) → (encodes ws ≡ true → register_all_on ws ns
      ≡ written_as plain_words (registered_all_says (registered_all (queue_of ws) ns).answer) (words_of (registered_all (queue_of ws) ns).queue))
      × (encodes ws ≡ false → register_all_on ws ns ≡ written_as plain_words (says broken (0 ∷ [])) ws)
  pub list_logged_as_the_call : (s : Session) (ns : List ℕ) → (encodes s.words ≡ true → logged_all s ns
      ≡ logged_as plain_words (registered_all_says (list_answer (bench_in s) ns)) (listed_to (bench_in s) ns))
      × (encodes s.words ≡ false → logged_all s ns ≡ recorded_on (written_as plain_words (says broken (0 ∷ [])) s.words) s.log s.used)
  pub list_none_words : ((ws ns : List ℕ) → word (register_all_on ws ns).answer at_value ≡ 0 → (register_all_on ws ns).words ≡ ws)
      × ((s : Session) (ns : List ℕ) → word (logged_all s ns).call.answer at_value ≡ 0 → logged_to (logged_all s ns) ≡ s)
  -- a session's steps are these calls
  pub session_steps : (s : Session) (c : LibraryCall) (t : Session) → LeavesSession s c t ↔ (t ≡ session_after s c)
  -- an opening makes sound words of any, and whatever is called they stay sound
  pub opens_sound : (s : Session) (domain first : ℕ) (bindings : List ℕ) → (is_sound (session_after s (LibraryCall.opens_scope domain first)).words ≡ true)
      × (is_sound (session_after s (LibraryCall.opens_iterator domain first bindings)).words ≡ true)
  pub never_broken : (s : Session) → is_sound s.words ≡ true → (cs : List LibraryCall) → is_sound (session_after_all s cs).words ≡ true
  -- so who only calls it never gets 1 for its queue: not from a call that may write there, nor from a question
  pub never_one : (s : Session) → is_sound s.words ≡ true → (cs : List LibraryCall) (c : LibraryCall) (n : ℕ) → Returned (session_after_all s cs) c n
      → (n ≡ broken) ↔ IsOne (session_after_all s cs) c
  pub never_one_asked : (s : Session) → is_sound s.words ≡ true → (cs : List LibraryCall) (a : WordQuestion) → (asked_on (session_after_all s cs).words a).result ≡ broken → ⊥
  -- and what its recorded calls left is read back: case 1, all the used rows, and the very same words
  pub same_words : (kind domain first : ℕ) (bindings memory : List ℕ) (s : Session) → kind ≤ 1 → Recorder (opening_by kind domain first bindings) memory s
      → (ws : List ℕ) (x : Exported) → ReadOn ws kind domain first bindings (used_words s) x → x ≡ written_as plain_words (says done (s.used ∷ [])) s.words
