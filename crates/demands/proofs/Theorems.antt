-- The three demands hold, and the library's: each field by the law that says it
use Prim.Native.Nat.{ℕ, ◌<◌}
use mathlib.Core.Path.{◌≡◌, refl, sym, ap, ◌∙◌}
use mathlib.Core.Logic.{◌↔◌}
use mathlib.Core.Bool.{false}
use mathlib.Core.List.{List, []}
use native.Mathlib.Omega.{arith}
use lib.ListN.{length}
use Rattle.std.specs.Prelude.{Option, None}
use Rattle.queue_record.specs.Refusals.{done, result_number}
use Rattle.queue_record.specs.declared.refusal.Refusal.{Refusal}
use Rattle.queue_record.specs.Blank.{is_blank}
use Rattle.queue_record.specs.Openings.{blank, scope_of, opened_as}
use Rattle.queue_record.specs.declared.record.Queue.{Queue}
use Rattle.queue_record.proofs.OpenedLaws.{opened_well_formed}
use Rattle.queue_record.proofs.BlankOnly.{blank_passes, blank_only}
use Rattle.stage.proofs.Sets.{same_means, means_same}
use Rattle.queue_questions.specs.Questions.{committed, matches}
use Rattle.cleanup_queue.specs.Orders.{first_due, first_said, RefusedAs, broken_only}
use Rattle.cleanup_queue.proofs.Numbers.{refusal_due, opening_number, register_number, land_number, pop_number, complete_number, retry_number, questions_number}
use Rattle.cleanup_queue.proofs.Numbers.{admit_number, end_number, cancel_number, domain_number}
use Rattle.cleanup_queue.proofs.Said.{opening_refused, register_refused, land_refused, pop_refused, complete_refused, retry_refused, admit_refused}
use Rattle.cleanup_queue.proofs.Said.{end_refused, cancel_refused, opening_no_zero, register_no_zero, land_no_zero, pop_no_zero, complete_no_zero}
use Rattle.cleanup_queue.proofs.Said.{retry_no_zero, admit_no_zero, end_no_zero, cancel_no_zero}
use Rattle.cleanup_queue.proofs.Said.{register_said, land_said, pop_said_lem, complete_said_lem, retry_said_lem, admit_said, end_said, cancel_said_lem}
use Rattle.cleanup_queue.proofs.HandsOut.{pop_exactly, pop_hands}
use Rattle.cleanup_queue.proofs.Upstream.{waiting_rises_lem, waits_exactly_lem, call_keeps_opening, register_leaves, land_leaves, register_pushes, land_pushes, land_moves_lem}
use Rattle.cleanup_queue.proofs.Upstream.{pop_empties, pop_leaves_lem, pop_next, pop_issues, complete_leaves_lem, complete_takes_back, told_retries, retries_told}
use Rattle.cleanup_queue.proofs.Upstream.{admit_leaves, end_leaves, cancel_leaves, admit_moves, end_moves, cancel_moves}
use Rattle.cleanup_queue.proofs.Precisely.{settles_exactly_lem, retry_leaves_whole, retries_exactly_lem, empty_exactly}
use Rattle.cleanup_queue.proofs.SoundFits.{well_formed_means_lem}
use Rattle.cleanup_queue.proofs.Cases.{marked_cases_lem}
use Rattle.cleanup_queue.proofs.Waits.{register_appends, land_appends, fresh_pop_drops, ready_pop_keeps, idle_pop_keeps, complete_keeps_waiting, retry_keeps_waiting}
use Rattle.cleanup_queue.proofs.Waits.{admit_keeps_waiting, end_keeps_waiting, cancel_keeps_waiting}
use Rattle.cleanup_queue.proofs.Finish.{finish_means_lem, means_finish, finish_with_bindings}
use Rattle.cleanup_queue.proofs.Keeps.{run_keeps}
use Rattle.cleanup_queue.proofs.Exactly.{opened_parts, attempts_exactly_lem, tokens_exactly_lem}
use Rattle.cleanup_queue.proofs.ListLaws.{all_separate, all_tokens, all_number, all_counted, all_done, all_none, all_empty, all_pushes}
use Rattle.history.proofs.ListMade.{list_made, list_number_lem, list_counted_lem, list_used, list_queue, list_done, list_none, list_empty_lem}
use Rattle.history.proofs.ListedSame.{listed_history, history_listed, left_same}
use Rattle.cleanup_log.specs.RecordedOrders.{recorded_order}
use Rattle.cleanup_log.specs.Entries.{entry_of}
use Rattle.cleanup_log.proofs.Changes.{call_changes}
use Rattle.cleanup_log.proofs.RecordedNumbers.{register_recorded_number, land_recorded_number, pop_recorded_number, complete_recorded_number}
use Rattle.cleanup_log.proofs.RecordedNumbers.{retry_recorded_number}
use Rattle.cleanup_log.proofs.RecordedApart.{register_recorded_apart, land_recorded_apart, pop_recorded_apart, complete_recorded_apart}
use Rattle.cleanup_log.proofs.RecordedApart.{retry_recorded_apart, admit_recorded_apart, end_recorded_apart, cancel_recorded_apart}
use Rattle.cleanup_log.proofs.RecordedNumbers.{admit_recorded_number, end_recorded_number, cancel_recorded_number}
use Rattle.cleanup_log.proofs.RecordedNumbers.{register_recorded_returns, land_recorded_returns, complete_recorded_returns}
use Rattle.group_record.specs.Record.{place_at}
use Rattle.group_record.specs.declared.record.Groups.{Groups}
use Rattle.group_check.specs.Count.{live_count}
use Rattle.group_openings.specs.Openings.{new_of}
use Rattle.cleanup_groups.specs.Promises.{id_at}
use Rattle.cleanup_groups.proofs.Numbers.{new_number}
use Rattle.cleanup_groups.proofs.Counts.{count_none, none_count, scope_counts, iterator_counts, close_counts}
use Rattle.cleanup_groups.proofs.Sounds.{sound_means, means_sound}
use Rattle.cleanup_groups.proofs.Keeps as groups
use Rattle.cleanup_groups.proofs.Live.{accepts_as, register_all_as}
use Rattle.cleanup_groups.proofs.NumbersById.{register_all_number}
use Rattle.cleanup_groups.proofs.WholeLists.{groups_broken, groups_none_taken, groups_dead, groups_empty_list, groups_in_turn_lem, groups_done_exactly}
use Rattle.cleanup_groups.proofs.Ids.{gone_stays, closed_for_good_lem, domains_differ_lem}
use Rattle.cleanup_groups.proofs.Room.{scope_opens_exactly, iterator_opens_exactly}
use Rattle.cleanup_groups.proofs.Rounds.{round_no}
use Rattle.cleanup_groups.proofs.Upstream.{scope_as, iterator_as}
use Rattle.cleanup_groups.proofs.Says.{len_says_lem, new_numbered, get_numbered}
use Rattle.cleanup_log.proofs.ReaderNumbers.{reader_number}
use Rattle.log_entries.specs.Noting.{changes}
use Rattle.log_reader.proofs.ReaderLanguage.{reader_language}
use Rattle.log_reader.proofs.Rightly.{reads_from}
use Rattle.log_reader.proofs.Unique.{reads_one}
use Rattle.history.specs.Histories.{Bench, number_of}
use Rattle.history.specs.Benches.{BenchCall, call_on}
use Rattle.history.proofs.Written.{refused_stays, quiet_stays}
use Rattle.history.proofs.Accepts.{history_read, bad_read}
use Rattle.history.proofs.Demand.{same_record}
use Rattle.history.proofs.WordLogs.{word_logs}
use Rattle.library_laws.proofs.WholeLists.{all_as_the_call, all_no_record, all_none_words, all_logged_as_the_call, all_no_record_logged, all_none_logged}
use Rattle.library_laws.proofs.Sounds.{scope_sound, iterator_sound}
use Rattle.library_laws.proofs.OneAnswer.{read_on_is, read_on_none}
use Rattle.library_laws.proofs.Sessions.{logged_refused, session_sound, read_back_same}
use Rattle.library_laws.proofs.NeverOne.{never_one_lem, never_one_asked_lem}
use Rattle.demands.specs.CallTables.{said_by, order_of, given_to, NotRefusedWith0, RecordedNotRefusedWith0, left_by, own_values, QueueQuestion, asks_empty, asks_issued, asks_pending, asks_settled}
use Rattle.demands.specs.CallTables.{asks_cancelled, asks_failed, asks_retry, asks_finish, asks_domain, told_to, SixteenPlaces}
use Rattle.demands.specs.Demands.{Demand1, Demand2, Demand3, LibraryDemand}
use Rattle.demands.proofs.OwnNumbers.{own_number_lem, never_9, unrefused, blank_read_lem}
use Rattle.demands.proofs.QuestionTheorems.{asks_say_lem, asked_valued, asked_valued_by_id, accepts_valued, record_valued, len_tells_lem}
use Rattle.demands.proofs.GroupTheorems.{one_number_groups_lem, one_number_groups_asked_lem, groups_not_refused_with_0, groups_unchanged_lem, empty_new_lem, blank_get_lem, new_has_root_lem}
use Rattle.demands.proofs.GroupTheorems.{group_as_queue_lem, asked_as_queue, get_gives_lem, no_such_group_lem, other_groups_stay_lem, closes_exactly_lem, close_frees_lem}
use Rattle.demands.proofs.RoundHappens.{round_said_yes}
use Rattle.demands.proofs.GroupTheorems.{seals_exactly_lem, seal_leaves_lem, round_stays, sealed_for_good_lem, round_exactly_lem, round_retries_lem, round_keeps_place, yes_means_lem}
use Rattle.demands.proofs.RecordedTheorems.{recorded_answers_lem, refused_recorded_lem, row_is_written_lem}
use Rattle.demands.proofs.LibraryTheorems.{words_are_records_lem, sound_told_lem, opens_as_the_call_lem, as_the_call_lem, asked_as_the_call_lem, recorded_as_the_call_lem}
use Rattle.demands.proofs.LibraryTheorems.{no_record_lem, no_record_logged_lem, made_refused, session_steps_lem}

one_number_lem : (q : Queue) (c : BenchCall) → (said_by q c).number ≡ first_due (order_of q c)
one_number_lem q (BenchCall.register n) = register_number q n
one_number_lem q (BenchCall.land n) = land_number q n
one_number_lem q BenchCall.pop = pop_number q
one_number_lem q (BenchCall.complete t o k) = complete_number q t o k
one_number_lem q BenchCall.retry = retry_number q
one_number_lem q (BenchCall.admit target) = admit_number q (matches q target)
one_number_lem q BenchCall.admit_without = admit_number q false
one_number_lem q BenchCall.end = end_number q
one_number_lem q BenchCall.cancel = cancel_number q

one_number_asked_lem : (q : Queue) (a : QueueQuestion) → (told_to q a).number ≡ first_due (broken_only q)
one_number_asked_lem q asks_empty = (questions_number q []).0
one_number_asked_lem q asks_issued = (questions_number q []).1
one_number_asked_lem q asks_pending = (questions_number q []).2
one_number_asked_lem q asks_settled = (questions_number q []).3
one_number_asked_lem q asks_cancelled = (questions_number q []).4
one_number_asked_lem q asks_failed = (questions_number q []).5
one_number_asked_lem q asks_retry = (questions_number q []).6
one_number_asked_lem q (asks_finish target) = (questions_number q target).7
one_number_asked_lem q asks_domain = domain_number q

one_number_recorded_lem : (b : Bench) (c : BenchCall)
    → number_of b (call_on b.queue c) ≡ first_due (recorded_order (length b.log) b.used (order_of b.queue c) (changes (entry_of b.queue (call_on b.queue c))))
one_number_recorded_lem b (BenchCall.register n) = register_recorded_number b.queue b.log b.used n
one_number_recorded_lem b (BenchCall.land n) = land_recorded_number b.queue b.log b.used n
one_number_recorded_lem b BenchCall.pop = pop_recorded_number b.queue b.log b.used
one_number_recorded_lem b (BenchCall.complete t o k) = complete_recorded_number b.queue b.log b.used t o k
one_number_recorded_lem b BenchCall.retry = retry_recorded_number b.queue b.log b.used
one_number_recorded_lem b (BenchCall.admit target) = admit_recorded_number b.queue b.log b.used (matches b.queue target)
one_number_recorded_lem b BenchCall.admit_without = admit_recorded_number b.queue b.log b.used false
one_number_recorded_lem b BenchCall.end = end_recorded_number b.queue b.log b.used
one_number_recorded_lem b BenchCall.cancel = cancel_recorded_number b.queue b.log b.used

not_refused_with_0 : (q : Queue) (c : BenchCall) → NotRefusedWith0 q c
not_refused_with_0 q (BenchCall.register n) = register_no_zero q n
not_refused_with_0 q (BenchCall.land n) = land_no_zero q n
not_refused_with_0 q BenchCall.pop = pop_no_zero q
not_refused_with_0 q (BenchCall.complete t o k) = complete_no_zero q t o k
not_refused_with_0 q BenchCall.retry = retry_no_zero q
not_refused_with_0 q (BenchCall.admit target) = admit_no_zero q (matches q target)
not_refused_with_0 q BenchCall.admit_without = admit_no_zero q false
not_refused_with_0 q BenchCall.end = end_no_zero q
not_refused_with_0 q BenchCall.cancel = cancel_no_zero q

recorded_not_refused_with_0 : (q : Queue) (log : List ℕ) (used : ℕ) (c : BenchCall) → RecordedNotRefusedWith0 q log used c
recorded_not_refused_with_0 q log used (BenchCall.register n) = register_recorded_apart q log used n
recorded_not_refused_with_0 q log used (BenchCall.land n) = land_recorded_apart q log used n
recorded_not_refused_with_0 q log used BenchCall.pop = pop_recorded_apart q log used
recorded_not_refused_with_0 q log used (BenchCall.complete t o k) = complete_recorded_apart q log used t o k
recorded_not_refused_with_0 q log used BenchCall.retry = retry_recorded_apart q log used
recorded_not_refused_with_0 q log used (BenchCall.admit target) = admit_recorded_apart q log used (matches q target)
recorded_not_refused_with_0 q log used BenchCall.admit_without = admit_recorded_apart q log used false
recorded_not_refused_with_0 q log used BenchCall.end = end_recorded_apart q log used
recorded_not_refused_with_0 q log used BenchCall.cancel = cancel_recorded_apart q log used

nothing_changed_lem : (q : Queue) (c : BenchCall) → RefusedAs q (given_to c) (said_by q c) (left_by q c)
nothing_changed_lem q (BenchCall.register n) = register_refused q n
nothing_changed_lem q (BenchCall.land n) = land_refused q n
nothing_changed_lem q BenchCall.pop = pop_refused q
nothing_changed_lem q (BenchCall.complete t o k) = complete_refused q t o k
nothing_changed_lem q BenchCall.retry = retry_refused q
nothing_changed_lem q (BenchCall.admit target) = admit_refused q (matches q target)
nothing_changed_lem q BenchCall.admit_without = admit_refused q false
nothing_changed_lem q BenchCall.end = end_refused q
nothing_changed_lem q BenchCall.cancel = cancel_refused q

calls_say_lem : (q : Queue) (c : BenchCall) → said_by q c ≡ first_said (order_of q c) (given_to c) (own_values q c)
calls_say_lem q (BenchCall.register n) = register_said q n
calls_say_lem q (BenchCall.land n) = land_said q n
calls_say_lem q BenchCall.pop = pop_said_lem q
calls_say_lem q (BenchCall.complete t o k) = complete_said_lem q t o k
calls_say_lem q BenchCall.retry = retry_said_lem q
calls_say_lem q (BenchCall.admit target) = admit_said q (matches q target)
calls_say_lem q BenchCall.admit_without = admit_said q false
calls_say_lem q BenchCall.end = end_said q
calls_say_lem q BenchCall.cancel = cancel_said_lem q

blank_is : blank ≡ scope_of 0 0
unfolding blank
blank_is = refl

counts_none : (g : Groups) → SixteenPlaces g → (live_count g.places ≡ 0) ↔ ((i : ℕ) → i < 16 → (place_at g i).live ≡ false)
counts_none g l = (λ h i k. count_none g.places h i (omega arith), λ f. none_count g.places (λ i k. f i (omega arith)))

-- of a list that nothing refuses exactly if A holds, the number says so
unrefused_if : {A : Type 0} {o : Option Refusal} → (o ≡ None) ↔ A → (result_number o ≡ done) ↔ A
unrefused_if {o = o} h = (λ z. h.0 (unrefused o z), λ a. ap result_number (h.1 a))

pub demand1 : Demand1
demand1 = record {
  own_number = own_number_lem;
  first_number = λ ds. sym (refusal_due ds);
  one_number = one_number_lem;
  one_number_asked = one_number_asked_lem;
  one_number_opening = opening_number;
  one_number_recorded = one_number_recorded_lem;
  refusal_is_not0 = (not_refused_with_0, opening_no_zero);
  recorded_refusal_is_not0 = recorded_not_refused_with_0;
  asked_refusal_is_not0 = (asked_valued, asked_valued_by_id, accepts_valued, record_valued, len_tells_lem);
  never_hollow = never_9;
  nothing_changed = nothing_changed_lem;
  blank_opening = opening_refused;
  nothing_changed_recorded = λ b c. refused_stays b (call_on b.queue c);
  given_back_recorded = λ q log used. (register_recorded_returns q log used, land_recorded_returns q log used, complete_recorded_returns q log used);
  recorded_answers = recorded_answers_lem;
  refused_recorded = refused_recorded_lem;
  list_number = all_number;
  list_number_recorded = list_number_lem;
  list_unrefused = (λ q ns. unrefused_if (all_done q ns), λ b ns. unrefused_if (list_done b ns));
  list_keeps = (all_separate, list_queue, λ g id ns l. groups_in_turn_lem g id l ns);
  list_none_taken = (all_none, list_none);
  list_empty = (all_empty, list_empty_lem);
  one_number_read = reader_number;
  blank_read = blank_read_lem;
  one_number_groups = one_number_groups_lem;
  one_number_groups_asked = one_number_groups_asked_lem;
  one_number_new = new_number;
  groups_refusal_is_not0 = (groups_not_refused_with_0, new_numbered, get_numbered);
  groups_unchanged = groups_unchanged_lem;
  list_number_groups = register_all_number;
  list_unrefused_groups = λ g id ns l. unrefused_if (groups_done_exactly g id l ns);
  list_none_taken_groups = groups_none_taken;
  list_empty_groups = groups_empty_list;
  empty_new = empty_new_lem;
  blank_get = blank_get_lem;
}

pub demand2 : Demand2
demand2 = record {
  well_formed_means = well_formed_means_lem;
  opening_stays = call_keeps_opening;
  birth_stores = λ q z n. (register_pushes q n z, land_pushes q n z);
  birth_leaves = λ q n. ((register_leaves q n).0, (register_leaves q n).1, land_leaves q n);
  land_moves = λ q n token h. let m = land_moves_lem q n token h in (m.0, m.3);
  list_tokens = all_tokens;
  list_stores = all_pushes;
  list_counted = (all_counted, list_counted_lem);
  pop_leaves = λ q t number h. ((pop_empties q t number h).0, (pop_issues q t number h).1, (pop_issues q t number h).0, pop_next q t number h);
  pop_stays = pop_leaves_lem;
  pop_nothing = idle_pop_keeps;
  settles_exactly = settles_exactly_lem;
  complete_leaves = λ q t o k h. let l = complete_leaves_lem q t o k in (complete_takes_back q t o k h, l.0, l.1);
  retries_exactly = retries_exactly_lem;
  retry_leaves = retry_leaves_whole;
  stage_table = (refl, refl, refl, refl, refl);
  stage_leaves = λ q m. (admit_leaves q m, end_leaves q, cancel_leaves q);
  stage_moves = λ q m w. (admit_moves q m w, end_moves q w, cancel_moves q w);
  match_means = λ q target. (same_means target (committed q), means_same target (committed q));
  calls_say = calls_say_lem;
  asks_say = asks_say_lem;
  empty_means = empty_exactly;
  can_retry_means = λ q. (told_retries q, λ r. retries_told q r.0 r.1);
  marked_cases = marked_cases_lem;
  hands_out_exactly = pop_exactly;
  hands_out_this = pop_hands;
  waits_exactly = waits_exactly_lem;
  waiting_rises = waiting_rises_lem;
  birth_waits_last = λ q z n. (register_appends q n z, land_appends q n z);
  pop_takes_last = fresh_pop_drops;
  ready_keeps_waiting = ready_pop_keeps;
  others_keep_waiting = λ q. (complete_keeps_waiting q, retry_keeps_waiting q, admit_keeps_waiting q, end_keeps_waiting q, cancel_keeps_waiting q);
  finish_means = λ q target. (finish_means_lem q target, means_finish q target);
  finish_happens = finish_with_bindings;
  opened_as_given = opened_parts;
  blank_means = (blank_is, λ q z. (blank_only q z, λ e. ap is_blank e ∙ blank_passes));
  stays_sound = λ o cs. run_keeps (opened_as o).queue cs (opened_well_formed o);
  sound_queue_stays = run_keeps;
  attempts_exactly = attempts_exactly_lem;
  tokens_exactly = tokens_exactly_lem;
  group_as_queue = group_as_queue_lem;
  group_asked_as_queue = asked_as_queue;
  accepts_means = λ g i p. accepts_as g (id_at g i) i p.places p.sound p.inside p.live refl;
  get_gives = get_gives_lem;
  no_such_group = no_such_group_lem;
  list_of_group = λ g i p ns. register_all_as g (id_at g i) i p.places p.sound p.inside p.live refl ns;
  list_of_no_group = λ g id ns l. (λ w. groups_broken g id w ns, λ w d. groups_dead g id l w d ns);
  other_groups_stay = other_groups_stay_lem;
  check_means_sound = λ g l. (sound_means g l, means_sound g l);
  new_has_root = new_has_root_lem;
  groups_stay_sound = λ base cs. let l = groups.new_whole base in (groups.run_keeps (new_of base).groups cs l (groups.new_keeps base), groups.run_whole (new_of base).groups cs l);
  sound_groups_stay = λ g cs l w. (groups.run_keeps g cs l w, groups.run_whole g cs l);
  opens_exactly = λ g l. (scope_opens_exactly g l, iterator_opens_exactly g l);
  opened_group = λ g l n. (scope_as g l n, λ bindings h. (iterator_as g l n bindings h).1);
  gone_for_good = gone_stays;
  closed_for_good = closed_for_good_lem;
  domains_differ = λ g i j p r. domains_differ_lem g p.places p.sound i j p.inside r.inside p.live r.live;
  closes_exactly = λ g id l. closes_exactly_lem g l id;
  close_frees = λ g i p. close_frees_lem g p.places i p;
  seals_exactly = seals_exactly_lem;
  seal_leaves = seal_leaves_lem;
  sealed_for_good = sealed_for_good_lem;
  round_exactly = round_exactly_lem;
  round_else_nothing = round_no;
  round_retries = round_retries_lem;
  round_keeps = round_keeps_place;
  round_frame = round_stays;
  round_happens = round_said_yes;
  yes_means = yes_means_lem;
  len_tells = len_says_lem;
  len_counts = λ g l. (counts_none g l, scope_counts g l, λ bindings n. iterator_counts g l n bindings, close_counts g l);
}

pub demand3 : Demand3
demand3 = record {
  rows_name_changes = call_changes;
  quiet_call = quiet_stays;
  row_is_written = row_is_written_lem;
  list_is_recorded = list_made;
  list_rows = list_used;
  listed_same = λ s b. (listed_history, history_listed);
  same_logs = left_same;
  every_log_read = reads_from;
  reader_accepts = reader_language;
  one_reading = reads_one;
  one_set = word_logs;
  end_state = λ s b h. history_read s b (listed_history h);
  state_before = λ s b h. bad_read s b (listed_history h);
  one_state = λ s t a b e h k. same_record s t a b e (listed_history h) (listed_history k);
}

pub library_demand : LibraryDemand
library_demand = record {
  words_are_records = words_are_records_lem;
  sound_told = sound_told_lem;
  opens_as_the_call = opens_as_the_call_lem;
  as_the_call = as_the_call_lem;
  asked_as_the_call = asked_as_the_call_lem;
  recorded_as_the_call = recorded_as_the_call_lem;
  reads_as_the_reader = λ ws kind domain first bindings log x. (
    λ l. read_on_is ws kind domain first bindings log l x,
    λ l. read_on_none ws kind domain first bindings log l x,
  );
  no_record = no_record_lem;
  no_record_logged = no_record_logged_lem;
  refused_words = (made_refused nothing_changed_lem, logged_refused);
  list_as_the_call = λ ws ns. (all_as_the_call ws ns, all_no_record ws ns);
  list_logged_as_the_call = λ s ns. (all_logged_as_the_call s ns, all_no_record_logged s ns);
  list_none_words = (all_none_words, all_none_logged);
  session_steps = session_steps_lem;
  opens_sound = λ s domain first bindings. (scope_sound domain first, iterator_sound domain first bindings);
  never_broken = session_sound;
  never_one = never_one_lem;
  never_one_asked = never_one_asked_lem;
  same_words = read_back_same;
}
