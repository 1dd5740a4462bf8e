-- The groups' part of the demands, call by call and question by question
use Prim.Native.Nat.{ℕ, ◌<◌, ◌≤◌}
use mathlib.Core.Path.{◌≡◌, refl, sym, ap, ◌∙◌}
use mathlib.Core.Logic.{◌↔◌}
use mathlib.Core.Bool.{Bool, true, false, not, ◌&&◌, ◌||◌}
use mathlib.Core.List.{List, [], ◌∷◌}
use borrow.Author.Tests.{eqb-false, ne_eqb, le-ltb, not-true, not-false}
use lib.Dec.{eqb, ltb}
use lib.ListN.{replicate}
use Rattle.stage.specs.Phases.{is_pending}
use Rattle.choice.proofs.Ways.{if_by, hit, miss, pass, stop, either, other, and_left, and_right, clash}
use Rattle.queue_record.specs.declared.refusal.Refusal.{Refusal}
use Rattle.queue_record.specs.Refusals.{no_group}
use Rattle.queue_record.proofs.Refused.{err_ok, ok_err}
use Rattle.queue_record.specs.Openings.{blank, scope_of}
use Rattle.queue_record.specs.declared.record.Queue.{Queue}
use Rattle.queue_record.specs.declared.record.Ticket.{Ticket}
use Rattle.queue_steps.specs.Attempts.{retried}
use Rattle.queue_questions.specs.Questions.{is_empty_told, is_issued_told, is_pending_told, is_settled_told, is_cancelled_told, has_failed_told, can_retry_told, can_finish_told, domain_told}
use Rattle.cleanup_queue.specs.Answers.{Said, opened_says, registered_says, popped_says, completed_says, retried_says, told_says, cancelled_says, domain_says}
use Rattle.cleanup_queue.specs.Orders.{first_due, RefusedAs, broken_only, register_order, land_order, pop_order, complete_order, retry_order}
use Rattle.cleanup_queue.proofs.Numbers.{questions_number}
use Rattle.group_record.specs.Record.{place_at, queue_at, free_place, with_place, with_queue, with_opened, empty_of, sealing}
use Rattle.group_record.specs.declared.record.Place.{Place}
use Rattle.group_record.specs.declared.record.Groups.{Groups}
use Rattle.group_asking.specs.Questions.{is_yes, stuck, finishes}
use Rattle.group_asking.specs.Scan.{some_yes}
use Rattle.group_asking.specs.Question.{HoldsId, Live, Pending, Issued, Failed, Unfinished, Undrained}
use Rattle.group_check.specs.WellFormed.{last_base, well_grouped}
use Rattle.group_check.specs.Ids.{spot_of, got_at, got}
use Rattle.group_check.proofs.Spots.{spot_means}
use Rattle.group_questions.specs.ById.{told_by, domain_by, accepts_in}
use Rattle.group_survey.specs.Whole.{retries_all, room_for, can_retry_all_of, can_seal_of}
use Rattle.group_openings.specs.Openings.{new_of}
use Rattle.group_openings.proofs.Room.{unsealed_means}
use Rattle.group_endings.specs.Endings.{removed, sealed_in}
use Rattle.group_rounds.specs.Rounds.{retried_all}
use Rattle.cleanup_groups.specs.Answers.{added_says, closed_says, got_says}
use Rattle.cleanup_groups.specs.Orders.{step_order}
use Rattle.cleanup_groups.specs.Promises.{LiveAt, id_at, IsLive, DrainedQueue, Frame, Sound}
use Rattle.cleanup_groups.specs.Runs.{GroupCall, groups_after, groups_after_all}
use Rattle.cleanup_groups.proofs.ByCase.{by_spot, seal_by}
use Rattle.cleanup_groups.proofs.Sounds.{sound_means}
use Rattle.cleanup_groups.proofs.Keeps.{spot_live, by_round, call_whole, call_keeps, run_whole, run_keeps}
use Rattle.cleanup_groups.proofs.Asked.{told_yes, yes_told, pending_means, means_pending, issued_means, means_issued, failed_means, means_failed}
use Rattle.cleanup_groups.proofs.Asked.{retry_all_means, means_retry_all, finish_means_lem, means_finish, seal_means, means_seal, contains_means, means_contains}
use Rattle.cleanup_groups.proofs.Drains.{yes_is, drained_means, means_drained, close_means, seal_drops, drained_seals}
use Rattle.cleanup_groups.proofs.Numbers.{scope_number, iterator_number, get_number, close_number, seal_number}
use Rattle.cleanup_groups.proofs.NumbersById.{register_number, land_number, pop_number, complete_number, retry_number, admit_number, admit_without_number}
use Rattle.cleanup_groups.proofs.NumbersById.{end_number, cancel_number, told_number, domain_number, accepts_number, whole_number, len_number, retry_all_number, dead_next}
use Rattle.cleanup_groups.proofs.Says.{scope_numbered, iterator_numbered, close_numbered, seal_numbered, retry_all_numbered}
use Rattle.cleanup_groups.proofs.SaysById.{register_numbered, land_numbered, pop_numbered, complete_numbered, retry_numbered, admit_numbered}
use Rattle.cleanup_groups.proofs.SaysById.{admit_without_numbered, end_numbered, cancel_numbered}
use Rattle.cleanup_groups.proofs.Refusals.{register_refused, land_refused, pop_refused, complete_refused, retry_refused, admit_refused, admit_without_refused}
use Rattle.cleanup_groups.proofs.Refusals.{end_refused, cancel_refused, close_refused, seal_refused, scope_refused, iterator_refused}
use Rattle.cleanup_groups.proofs.Live.{live_spot, register_as, land_as, pop_as, complete_as, retry_as, admit_as, admit_without_as, end_as, cancel_as, get_as, told_as, drained_closes}
use Rattle.cleanup_groups.proofs.Others.{register_others, land_others, pop_others, complete_others, retry_others, admit_others, admit_without_others}
use Rattle.cleanup_groups.proofs.Others.{end_others, cancel_others, close_others, scope_others, iterator_others}
use Rattle.cleanup_groups.proofs.Room.{may_open, opened_may, empty_means_lem, means_empty}
use Rattle.cleanup_groups.proofs.Frames.{round_frame_lem, run_sealed}
use Rattle.cleanup_groups.proofs.Rounds.{round_no, round_yes, round_renews, round_happens_lem}
use Rattle.cleanup_groups.proofs.Upstream.{round_at}
use Rattle.history.specs.Benches.{BenchCall}
use Rattle.demands.specs.CallTables.{said_by, left_by, told_to, QueueQuestion, asks_empty, asks_issued, asks_pending, asks_settled, asks_cancelled, asks_failed, asks_retry, asks_finish, asks_domain}
use Rattle.demands.specs.CallTables.{said_of_groups, groups_order, given_to_groups, GroupsNotRefusedWith0, GroupsRefusedAs, by_id, is_for, told_by_id, RecordQuestion, record_told, Finishes, YesMeans}
use Rattle.demands.specs.CallTables.{asks_contains, asks_none_live, asks_some_pending, asks_some_issued, asks_some_failed, asks_retry_all, asks_all_finish, asks_seal, asks_room}
use Rattle.demands.specs.CallTables.{GroupQuestion, asks_group, asks_accepts, asks_queue, asks_record, asks_len, groups_told, groups_asked_order, SixteenPlaces, LiveGroup}
use Rattle.std.specs.Prelude.{Some, None, Ok, Err}
use Rattle.queue_record.specs.declared.answered.Answered.{Answered}
use Rattle.group_record.specs.declared.answered.GroupsAnswered.{GroupsAnswered}
use Rattle.group_check.specs.Types.{Got}
use Rattle.group_endings.specs.Types.{Closed}
use Rattle.group_openings.specs.Types.{Added}
use Rattle.queue_births.specs.Types.{Registered}
use Rattle.queue_questions.specs.Types.{Told}
use Rattle.queue_record.specs.Types.{Opened}
use Rattle.queue_stages.specs.Types.{Cancelled}
use Rattle.queue_steps.specs.Types.{Completed, Popped, Retried}

-- ---- one number
pub one_number_groups_lem : (g : Groups) (c : GroupCall) → (said_of_groups g c).number ≡ first_due (groups_order g c)
one_number_groups_lem g GroupCall.add_scope = scope_number g
one_number_groups_lem g (GroupCall.add_iterator bindings) = iterator_number g bindings
one_number_groups_lem g (GroupCall.remove id) = close_number g id
one_number_groups_lem g GroupCall.seal = seal_number g
one_number_groups_lem g (GroupCall.register id n) = register_number g id n
one_number_groups_lem g (GroupCall.land id n) = land_number g id n
one_number_groups_lem g (GroupCall.pop id) = pop_number g id
one_number_groups_lem g (GroupCall.complete id t o k) = complete_number g id t o k
one_number_groups_lem g (GroupCall.retry id) = retry_number g id
one_number_groups_lem g (GroupCall.admit id target) = admit_number g id target
one_number_groups_lem g (GroupCall.admit_without id) = admit_without_number g id
one_number_groups_lem g (GroupCall.end id) = end_number g id
one_number_groups_lem g (GroupCall.cancel id) = cancel_number g id
one_number_groups_lem g GroupCall.retry_all = retry_all_number g

by_id_number : (g : Groups) (id : ℕ) (a : QueueQuestion) → (told_by_id g id a).number ≡ first_due (step_order g id broken_only)
by_id_number g id asks_empty = told_number g id is_empty_told (λ q. (questions_number q []).0)
by_id_number g id asks_issued = told_number g id is_issued_told (λ q. (questions_number q []).1)
by_id_number g id asks_pending = told_number g id is_pending_told (λ q. (questions_number q []).2)
by_id_number g id asks_settled = told_number g id is_settled_told (λ q. (questions_number q []).3)
by_id_number g id asks_cancelled = told_number g id is_cancelled_told (λ q. (questions_number q []).4)
by_id_number g id asks_failed = told_number g id has_failed_told (λ q. (questions_number q []).5)
by_id_number g id asks_retry = told_number g id can_retry_told (λ q. (questions_number q []).6)
by_id_number g id (asks_finish target) = told_number g id (λ q. can_finish_told q target) (λ q. (questions_number q target).7)
by_id_number g id asks_domain = domain_number g id

record_number : (g : Groups) (a : RecordQuestion) → (told_says (record_told g a)).number ≡ first_due (groups_asked_order g (asks_record a))
record_number g (asks_contains id) = whole_number g (some_yes g (HoldsId id) [])
record_number g asks_none_live = whole_number g (not (some_yes g Live []))
record_number g asks_some_pending = whole_number g (some_yes g Pending [])
record_number g asks_some_issued = whole_number g (some_yes g Issued [])
record_number g asks_some_failed = whole_number g (some_yes g Failed [])
record_number g asks_retry_all = whole_number g (retries_all g)
record_number g (asks_all_finish target) = whole_number g (not (some_yes g Unfinished target))
record_number g asks_seal = whole_number g (not (some_yes g Undrained []))
record_number g asks_room = whole_number g (room_for g)

pub one_number_groups_asked_lem : (g : Groups) (a : GroupQuestion) → (groups_told g a).number ≡ first_due (groups_asked_order g a)
one_number_groups_asked_lem g (asks_group id a) = by_id_number g id a
one_number_groups_asked_lem g (asks_accepts id) = accepts_number g id
one_number_groups_asked_lem g (asks_queue id) = get_number g id
one_number_groups_asked_lem g (asks_record a) = record_number g a
one_number_groups_asked_lem g asks_len = len_number g

-- ---- a refusal is not numbered 0
pub groups_not_refused_with_0 : (g : Groups) (c : GroupCall) → GroupsNotRefusedWith0 g c
groups_not_refused_with_0 g GroupCall.add_scope = scope_numbered g
groups_not_refused_with_0 g (GroupCall.add_iterator bindings) = iterator_numbered g bindings
groups_not_refused_with_0 g (GroupCall.remove id) = close_numbered g id
groups_not_refused_with_0 g GroupCall.seal = seal_numbered g
groups_not_refused_with_0 g (GroupCall.register id n) = λ refusal given. register_numbered g id n given refusal
groups_not_refused_with_0 g (GroupCall.land id n) = λ refusal given. land_numbered g id n given refusal
groups_not_refused_with_0 g (GroupCall.pop id) = pop_numbered g id
groups_not_refused_with_0 g (GroupCall.complete id t o k) = λ refusal given. complete_numbered g id t o k given refusal
groups_not_refused_with_0 g (GroupCall.retry id) = retry_numbered g id
groups_not_refused_with_0 g (GroupCall.admit id target) = admit_numbered g id target
groups_not_refused_with_0 g (GroupCall.admit_without id) = admit_without_numbered g id
groups_not_refused_with_0 g (GroupCall.end id) = end_numbered g id
groups_not_refused_with_0 g (GroupCall.cancel id) = cancel_numbered g id
groups_not_refused_with_0 g GroupCall.retry_all = retry_all_numbered g

-- ---- a refusal by its number: what it leaves and gives back
module _ (g h : Groups) where
  born_refused : (n : ℕ) (a : Registered) → ((r : Refusal) (m : ℕ) → a ≡ Err (r, m) → (m ≡ n) × (h ≡ g)) → GroupsRefusedAs g (n ∷ []) (registered_says a) h
  born_refused n (Ok t) f z = absurd (z refl)
  born_refused n (Err (r, m)) f z = let w = f r m refl in (ap (λ (k : ℕ). k ∷ []) w.0, w.1)

  settle_refused : (n : ℕ) (a : Completed) → ((r : Refusal) (m : ℕ) → a ≡ Err (r, m) → (m ≡ n) × (h ≡ g)) → GroupsRefusedAs g (n ∷ []) (completed_says a) h
  settle_refused n (Ok tt) f z = absurd (z refl)
  settle_refused n (Err (r, m)) f z = let w = f r m refl in (ap (λ (k : ℕ). k ∷ []) w.0, w.1)

  work_refused : (a : Popped) → ((r : Refusal) → a ≡ Err r → h ≡ g) → GroupsRefusedAs g [] (popped_says a) h
  work_refused (Ok (Some (t, n))) f z = absurd (z refl)
  work_refused (Ok None) f z = absurd (z refl)
  work_refused (Err r) f z = (refl, f r refl)

  again_refused : (a : Retried) → ((r : Refusal) → a ≡ Err r → h ≡ g) → GroupsRefusedAs g [] (retried_says a) h
  again_refused (Ok t) f z = absurd (z refl)
  again_refused (Err r) f z = (refl, f r refl)

  told_refused : (a : Told) → ((r : Refusal) → a ≡ Err r → h ≡ g) → GroupsRefusedAs g [] (told_says a) h
  told_refused (Ok true) f z = absurd (z refl)
  told_refused (Ok false) f z = absurd (z refl)
  told_refused (Err r) f z = (refl, f r refl)

  stop_refused : (a : Cancelled) → ((r : Refusal) → a ≡ Err r → h ≡ g) → GroupsRefusedAs g [] (cancelled_says a) h
  stop_refused (Ok tt) f z = absurd (z refl)
  stop_refused (Err r) f z = (refl, f r refl)

  shut_refused : (a : Closed) → ((r : Refusal) → a ≡ Err r → h ≡ g) → GroupsRefusedAs g [] (closed_says a) h
  shut_refused (Ok tt) f z = absurd (z refl)
  shut_refused (Err r) f z = (refl, f r refl)

  add_refused : (a : Added) → ((r : Refusal) → a ≡ Err r → h ≡ g) → GroupsRefusedAs g [] (added_says a) h
  add_refused (Ok n) f z = absurd (z refl)
  add_refused (Err r) f z = (refl, f r refl)

round_refused : (g : Groups) (r : Refusal) → (retried_all g).answer ≡ Err r → (retried_all g).groups ≡ g
round_refused g r h = round_no g (λ y. ok_err (sym y ∙ h))

pub groups_unchanged_lem : (g : Groups) (c : GroupCall) → GroupsRefusedAs g (given_to_groups c) (said_of_groups g c) (groups_after g c)
groups_unchanged_lem g GroupCall.add_scope = add_refused g _ _ (scope_refused g)
groups_unchanged_lem g (GroupCall.add_iterator bindings) = add_refused g _ _ (iterator_refused g bindings)
groups_unchanged_lem g (GroupCall.remove id) = shut_refused g _ _ (close_refused g id)
groups_unchanged_lem g GroupCall.seal = shut_refused g _ _ (seal_refused g)
groups_unchanged_lem g (GroupCall.register id n) = born_refused g _ n _ (register_refused g id n)
groups_unchanged_lem g (GroupCall.land id n) = born_refused g _ n _ (land_refused g id n)
groups_unchanged_lem g (GroupCall.pop id) = work_refused g _ _ (pop_refused g id)
groups_unchanged_lem g (GroupCall.complete id t o k) = settle_refused g _ k _ (complete_refused g id t o k)
groups_unchanged_lem g (GroupCall.retry id) = again_refused g _ _ (retry_refused g id)
groups_unchanged_lem g (GroupCall.admit id target) = told_refused g _ _ (admit_refused g id target)
groups_unchanged_lem g (GroupCall.admit_without id) = told_refused g _ _ (admit_without_refused g id)
groups_unchanged_lem g (GroupCall.end id) = told_refused g _ _ (end_refused g id)
groups_unchanged_lem g (GroupCall.cancel id) = stop_refused g _ _ (cancel_refused g id)
groups_unchanged_lem g GroupCall.retry_all = told_refused g _ _ (round_refused g)

pub empty_new_lem : (base : ℕ) → GroupsRefusedAs (empty_of 0) [] (opened_says (new_of base).answer) (new_of base).groups
unfolding new_of
empty_new_lem base = if_by (λ (r : GroupsAnswered Opened). GroupsRefusedAs (empty_of 0) [] (opened_says r.answer) r.groups) (ltb last_base base) _ _ (λ _ _. (refl, refl)) (λ _ z. absurd (z refl))

pub blank_get_lem : (g : Groups) (id : ℕ) → RefusedAs blank [] (got_says (got g id).answer) (got g id).queue
unfolding got
blank_get_lem g id = by_spot (λ (r : Answered Got). RefusedAs blank [] (got_says r.answer) r.queue) (got_at g) (spot_of g id) (λ _ _ _. (refl, refl)) (λ _ _ z. absurd (z refl))

pub new_has_root_lem : (base : ℕ) → base ≤ last_base → new_of base ≡ record { answer = Ok tt; groups = with_opened (empty_of base) 0 (scope_of base 0) }
unfolding new_of
new_has_root_lem base h = miss _ (le-ltb last_base base h)

-- ---- a live id
module _ (g : Groups) (i : ℕ) (p : LiveGroup g i) where
  -- what a call's answer says and leaves, from the answer as a whole
  both : {A : Type 0} (said : A → Said) (left : A → Groups) {x y : A} → x ≡ y → (said x ≡ said y) × (left x ≡ left y)
  both said left e = (ap said e, ap left e)

  abbrev AsQueue : BenchCall → Type 0
  AsQueue c = (said_of_groups g (by_id (id_at g i) c) ≡ said_by (queue_at g i) c) × (groups_after g (by_id (id_at g i) c) ≡ with_queue g i (left_by (queue_at g i) c))

  pub group_as_queue_lem : (c : BenchCall) → AsQueue c
  group_as_queue_lem (BenchCall.register n) =
      both (λ (r : GroupsAnswered Registered). registered_says r.answer) (λ r. r.groups) (register_as g (id_at g i) i p.places p.sound p.inside p.live refl n)
  group_as_queue_lem (BenchCall.land n) =
      both (λ (r : GroupsAnswered Registered). registered_says r.answer) (λ r. r.groups) (land_as g (id_at g i) i p.places p.sound p.inside p.live refl n)
  group_as_queue_lem BenchCall.pop =
      both (λ (r : GroupsAnswered Popped). popped_says r.answer) (λ r. r.groups) (pop_as g (id_at g i) i p.places p.sound p.inside p.live refl)
  group_as_queue_lem (BenchCall.complete t o k) =
      both (λ (r : GroupsAnswered Completed). completed_says r.answer) (λ r. r.groups) (complete_as g (id_at g i) i p.places p.sound p.inside p.live refl t o k)
  group_as_queue_lem BenchCall.retry =
      both (λ (r : GroupsAnswered Retried). retried_says r.answer) (λ r. r.groups) (retry_as g (id_at g i) i p.places p.sound p.inside p.live refl)
  group_as_queue_lem (BenchCall.admit target) =
      both (λ (r : GroupsAnswered Told). told_says r.answer) (λ r. r.groups) (admit_as g (id_at g i) i p.places p.sound p.inside p.live refl target)
  group_as_queue_lem BenchCall.admit_without =
      both (λ (r : GroupsAnswered Told). told_says r.answer) (λ r. r.groups) (admit_without_as g (id_at g i) i p.places p.sound p.inside p.live refl)
  group_as_queue_lem BenchCall.end =
      both (λ (r : GroupsAnswered Told). told_says r.answer) (λ r. r.groups) (end_as g (id_at g i) i p.places p.sound p.inside p.live refl)
  group_as_queue_lem BenchCall.cancel =
      both (λ (r : GroupsAnswered Cancelled). cancelled_says r.answer) (λ r. r.groups) (cancel_as g (id_at g i) i p.places p.sound p.inside p.live refl)

  asked_as : (tells : Queue → Told) → told_says (told_by (got g (id_at g i)).answer (tells (got g (id_at g i)).queue)) ≡ told_says (tells (queue_at g i))
  asked_as tells = ap told_says (told_as g (id_at g i) i p.places p.sound p.inside p.live refl tells)

  pub get_gives_lem : got g (id_at g i) ≡ record { answer = Ok tt; queue = queue_at g i }
  get_gives_lem = get_as g (id_at g i) i p.places p.sound p.inside p.live refl

  pub asked_as_queue : (a : QueueQuestion) → told_by_id g (id_at g i) a ≡ told_to (queue_at g i) a
  asked_as_queue asks_empty = asked_as is_empty_told
  asked_as_queue asks_issued = asked_as is_issued_told
  asked_as_queue asks_pending = asked_as is_pending_told
  asked_as_queue asks_settled = asked_as is_settled_told
  asked_as_queue asks_cancelled = asked_as is_cancelled_told
  asked_as_queue asks_failed = asked_as has_failed_told
  asked_as_queue asks_retry = asked_as can_retry_told
  asked_as_queue (asks_finish target) = asked_as (λ q. can_finish_told q target)
  asked_as_queue asks_domain = ap (λ (r : Answered Got). domain_says (domain_by r.answer (domain_told r.queue))) get_gives_lem

-- ---- an id that is not live
module _ (g : Groups) (id : ℕ) (l : SixteenPlaces g) (w : well_grouped g ≡ true) (n : IsLive g id → ⊥) where
  unheld : some_yes g (HoldsId id) [] ≡ false
  unheld = go (some_yes g (HoldsId id) []) refl
    where
      go : (b : Bool) → some_yes g (HoldsId id) [] ≡ b → some_yes g (HoldsId id) [] ≡ false
      go true e = absurd (n (contains_means g l id (yes_told g (some_yes g (HoldsId id) []) w e)))
      go false e = e

  dead_step : (c : BenchCall) → (said_of_groups g (by_id id c)).number ≡ no_group
  dead_step (BenchCall.register k) = register_number g id k ∙ dead_next g id (λ q. register_order q k) w unheld
  dead_step (BenchCall.land k) = land_number g id k ∙ dead_next g id (λ q. land_order q k) w unheld
  dead_step BenchCall.pop = pop_number g id ∙ dead_next g id pop_order w unheld
  dead_step (BenchCall.complete t o k) = complete_number g id t o k ∙ dead_next g id (λ q. complete_order q t o k) w unheld
  dead_step BenchCall.retry = retry_number g id ∙ dead_next g id retry_order w unheld
  dead_step (BenchCall.admit target) = admit_number g id target ∙ dead_next g id broken_only w unheld
  dead_step BenchCall.admit_without = admit_without_number g id ∙ dead_next g id broken_only w unheld
  dead_step BenchCall.end = end_number g id ∙ dead_next g id broken_only w unheld
  dead_step BenchCall.cancel = cancel_number g id ∙ dead_next g id broken_only w unheld

  dead_close : (said_of_groups g (GroupCall.remove id)).number ≡ no_group
  dead_close = close_number g id ∙ (miss _ (ap not w) ∙ hit _ (ap not unheld))

  pub no_such_group_lem : ((c : BenchCall) → (said_of_groups g (by_id id c)).number ≡ no_group) × ((said_of_groups g (GroupCall.remove id)).number ≡ no_group)
      × ((a : QueueQuestion) → (told_by_id g id a).number ≡ no_group) × ((told_says (accepts_in g id)).number ≡ no_group) × ((got_says (got g id).answer).number ≡ no_group)
  no_such_group_lem = (
    dead_step,
    dead_close,
    λ a. by_id_number g id a ∙ dead_next g id broken_only w unheld,
    accepts_number g id ∙ dead_next g id broken_only w unheld,
    get_number g id ∙ (miss _ (ap not w) ∙ hit _ (ap not unheld)),
  )

-- ---- the groups that a call is not for
module _ (g : Groups) (l : SixteenPlaces g) where
  pub other_groups_stay_lem : (c : GroupCall) (j : ℕ) → LiveAt g j → is_for c (id_at g j) ≡ false → place_at (groups_after g c) j ≡ place_at g j
  other_groups_stay_lem GroupCall.add_scope j a e = scope_others g l j a
  other_groups_stay_lem (GroupCall.add_iterator bindings) j a e = iterator_others g l j a bindings
  other_groups_stay_lem (GroupCall.remove id) j a e = close_others g l j id (eqb-false _ _ e)
  other_groups_stay_lem GroupCall.seal j a e = clash {b = true} refl e
  other_groups_stay_lem (GroupCall.register id n) j a e = register_others g l j id (eqb-false _ _ e) n
  other_groups_stay_lem (GroupCall.land id n) j a e = land_others g l j id (eqb-false _ _ e) n
  other_groups_stay_lem (GroupCall.pop id) j a e = pop_others g l j id (eqb-false _ _ e)
  other_groups_stay_lem (GroupCall.complete id t o k) j a e = complete_others g l j id (eqb-false _ _ e) t o k
  other_groups_stay_lem (GroupCall.retry id) j a e = retry_others g l j id (eqb-false _ _ e)
  other_groups_stay_lem (GroupCall.admit id target) j a e = admit_others g l j id (eqb-false _ _ e) target
  other_groups_stay_lem (GroupCall.admit_without id) j a e = admit_without_others g l j id (eqb-false _ _ e)
  other_groups_stay_lem (GroupCall.end id) j a e = end_others g l j id (eqb-false _ _ e)
  other_groups_stay_lem (GroupCall.cancel id) j a e = cancel_others g l j id (eqb-false _ _ e)
  other_groups_stay_lem GroupCall.retry_all j a e = clash {b = true} refl e

  -- ---- closing
  pub closes_exactly_lem : (id : ℕ) → ((removed g id).answer ≡ Ok tt) ↔ ((i : ℕ) × LiveGroup g i × (id_at g i ≡ id) × DrainedQueue (queue_at g i))
  closes_exactly_lem id = (closed_was, drained_may)
    where
      closed_was : (removed g id).answer ≡ Ok tt → (i : ℕ) × LiveGroup g i × (id_at g i ≡ id) × DrainedQueue (queue_at g i)
      closed_was h =
          let c = close_means g id l h in
          let s = spot_live g id c.0 l c.1 in
          (c.0, record { places = l; sound = (spot_means g id c.0 c.1).0; inside = s.0; live = s.1 }, s.2, c.2)

      drained_may : (i : ℕ) × LiveGroup g i × (id_at g i ≡ id) × DrainedQueue (queue_at g i) → (removed g id).answer ≡ Ok tt
      drained_may d = drained_closes g id d.0 l d.1.sound d.1.inside d.1.live d.2 d.3

  pub close_frees_lem : (i : ℕ) → LiveGroup g i → (removed g (id_at g i)).answer ≡ Ok tt → (removed g (id_at g i)).groups ≡ with_place g i free_place
  close_frees_lem i p h =
      let c = close_means g (id_at g i) l h in
      let e : Ok c.0 ≡ Ok i = sym c.1 ∙ live_spot g (id_at g i) l p.sound i p.inside p.live refl in
      let z : c.0 ≡ i = cc in
      c.3 ∙ ap (λ (m : ℕ). with_place g m free_place) z

  -- ---- sealing
  sealed_was : (sealed_in g).answer ≡ Ok tt → (well_grouped g ≡ true) × (g.sealed ≡ false)
  sealed_was =
      seal_by (λ (r : GroupsAnswered Closed). r.answer ≡ Ok tt → (well_grouped g ≡ true) × (g.sealed ≡ false)) g
      (λ _ h. err_ok h) (λ u _ _. unsealed_means g u)

  pub seals_exactly_lem : ((sealed_in g).answer ≡ Ok tt) ↔ ((well_grouped g ≡ true) × (g.sealed ≡ false) × ((i : ℕ) → i < 16 → LiveAt g i → DrainedQueue (queue_at g i)))
  seals_exactly_lem = (λ h. ((sealed_was h).0, (sealed_was h).1, (seal_drops g l h).0), λ d. drained_seals g l d.0 d.1 d.2)

  -- the whole record that sealing leaves
  pub seal_leaves_lem : (sealed_in g).answer ≡ Ok tt → (sealed_in g).groups ≡ record { base = g.base; next = g.next; sealed = true; places = replicate 16 free_place }
  unfolding sealing
  seal_leaves_lem h = (seal_drops g l h).1

  pub sealed_for_good_lem : (sealed_in g).answer ≡ Ok tt → (cs : List GroupCall) (id : ℕ) → IsLive (groups_after_all (sealed_in g).groups cs) id → ⊥
  unfolding sealing
  sealed_for_good_lem h cs id v =
      let s : (sealed_in g).groups.sealed ≡ true = ap (λ (r : Groups). r.sealed) (seal_drops g l h).1 in
      let k : SixteenPlaces (sealed_in g).groups = call_whole g GroupCall.seal l in
      let w : well_grouped (sealed_in g).groups ≡ true = call_keeps g l GroupCall.seal (sealed_was h).0 in
      let o : Sound (groups_after_all (sealed_in g).groups cs) = sound_means _ (run_whole (sealed_in g).groups cs k) (run_keeps (sealed_in g).groups cs k w) in
      clash v.2 (o.sealed (run_sealed (sealed_in g).groups cs s) v.0 v.1)

-- ---- a round of retries
same_frame : (g : Groups) → Frame g g
same_frame g = record { base = refl; next = refl; sealed = refl; marks = λ i. refl; ids = λ i. refl }

pub round_exactly_lem : (g : Groups) → ((retried_all g).answer ≡ Ok true) ↔ (can_retry_all_of g ≡ Ok true)
round_exactly_lem g = (λ h. let y = round_yes g h in yes_told g (retries_all g) y.0 y.1, λ h. let y = told_yes g (retries_all g) h in round_happens_lem g y.0 y.1)

pub round_retries_lem : (g : Groups) (i : ℕ) → LiveGroup g i → (retried_all g).answer ≡ Ok true → (queue_at g i).failed ≡ true
    → (queue_at (retried_all g).groups i ≡ (retried (queue_at g i)).queue) × ((t : Ticket) × ((retried (queue_at g i)).answer ≡ Ok t))
round_retries_lem g i p h f =
    let y = round_yes g h in
    (ap (λ (r : Groups). queue_at r i) y.2 ∙ round_at g i p.live f, round_renews g p.places y.1 i p.inside p.live f)

-- any answer: the groups that there are stay
pub round_stays : (g : Groups) → Frame g (retried_all g).groups
unfolding retried_all
round_stays g =
    if_by (λ (r : GroupsAnswered Told). Frame g r.groups) (not (well_grouped g)) _ _ (λ _. same_frame g)
    (λ _. if_by (λ (r : GroupsAnswered Told). Frame g r.groups) (not (retries_all g)) _ _ (λ _. same_frame g) (λ _. round_frame_lem g))

pub round_keeps_place : (g : Groups) (i : ℕ) → (queue_at g i).failed ≡ false → place_at (retried_all g).groups i ≡ place_at g i
unfolding retried_all
round_keeps_place g i n =
    if_by (λ (r : GroupsAnswered Told). place_at r.groups i ≡ place_at g i) (not (well_grouped g)) _ _ (λ _. refl)
    (λ _. if_by (λ (r : GroupsAnswered Told). place_at r.groups i ≡ place_at g i) (not (retries_all g)) _ _ (λ _. refl)
    (λ _. by_round (λ (p : Place). p ≡ place_at g i) g i (λ _ f. clash f n) (λ _. refl)))

-- ---- what a yes means
module _ (q : Queue) where
  may_retry_lem : not (stuck q) ≡ true → q.failed ≡ true → can_retry_told q ≡ Ok true
  may_retry_lem h f = yes_is (can_retry_told q) (not-false _ (sym (pass _ f) ∙ not-true _ h))

  retry_may : (q.failed ≡ true → can_retry_told q ≡ Ok true) → not (stuck q) ≡ true
  retry_may h = go q.failed refl
    where
      go : (b : Bool) → q.failed ≡ b → not (stuck q) ≡ true
      go true f = ap not (pass _ f ∙ ap (λ (t : Told). not (is_yes t)) (h f))
      go false f = ap not (stop _ f)

module _ (g : Groups) (target : List ℕ) (i : ℕ) where
  abbrev last_asked : Bool
  last_asked = eqb (id_at g i) 0 || is_yes (can_finish_told (queue_at g i) target)

  may_finish : finishes (id_at g i) (queue_at g i) target ≡ true → Finishes g target i
  may_finish h =
      let r : (not (queue_at g i).failed && last_asked) ≡ true = and_right (not (is_pending (queue_at g i).phase)) _ h in (
        not-true _ (and_left (not (is_pending (queue_at g i).phase)) _ h),
        not-true _ (and_left (not (queue_at g i).failed) _ r),
        λ n. yes_is _ (sym (other _ (ne_eqb (id_at g i) 0 n)) ∙ and_right (not (queue_at g i).failed) last_asked r),
      )

  finish_may : Finishes g target i → finishes (id_at g i) (queue_at g i) target ≡ true
  finish_may f = pass _ (ap not f.0) ∙ (pass _ (ap not f.1) ∙ go (eqb (id_at g i) 0) refl)
    where
      go : (b : Bool) → eqb (id_at g i) 0 ≡ b → last_asked ≡ true
      go true e = either _ e
      go false e = other _ e ∙ ap is_yes (f.2 (eqb-false (id_at g i) 0 e))

module _ (g : Groups) (l : SixteenPlaces g) where
  abbrev Meaning : RecordQuestion → Type 0
  Meaning a = (record_told g a ≡ Ok true) ↔ ((well_grouped g ≡ true) × YesMeans g a)

  seal_yes : can_seal_of g ≡ Ok true → (well_grouped g ≡ true) × ((i : ℕ) → i < 16 → LiveAt g i → DrainedQueue (queue_at g i))
  seal_yes h =
      let w : well_grouped g ≡ true = (told_yes g (not (some_yes g Undrained [])) h).0 in
      (w, λ i k a. drained_means (queue_at g i) ((sound_means g l w).queues i k a) (seal_means g l h i k a))

  yes_seal : well_grouped g ≡ true → ((i : ℕ) → i < 16 → LiveAt g i → DrainedQueue (queue_at g i)) → can_seal_of g ≡ Ok true
  yes_seal w d = means_seal g l w (λ i k a. means_drained (queue_at g i) ((sound_means g l w).queues i k a) (d i k a))

  pub yes_means_lem : (a : RecordQuestion) → Meaning a
  yes_means_lem (asks_contains id) = (λ h. ((told_yes g (some_yes g (HoldsId id) []) h).0, contains_means g l id h), λ m. means_contains g l id m.0 m.1)
  yes_means_lem asks_none_live = (λ h. ((told_yes g (not (some_yes g Live [])) h).0, empty_means_lem g l h), λ m. means_empty g l m.0 m.1)
  yes_means_lem asks_some_pending = (λ h. ((told_yes g (some_yes g Pending []) h).0, pending_means g l h), λ m. means_pending g l m.0 m.1)
  yes_means_lem asks_some_issued = (λ h. ((told_yes g (some_yes g Issued []) h).0, issued_means g l h), λ m. means_issued g l m.0 m.1)
  yes_means_lem asks_some_failed = (λ h. ((told_yes g (some_yes g Failed []) h).0, failed_means g l h), λ m. means_failed g l m.0 m.1)
  yes_means_lem asks_retry_all = (
    λ h. let r = retry_all_means g l h in ((told_yes g (retries_all g) h).0, (r.0, λ i k a. may_retry_lem (queue_at g i) (r.1 i k a))),
    λ m. means_retry_all g l m.0 m.1.0 (λ i k a. retry_may (queue_at g i) (m.1.1 i k a)),
  )
  yes_means_lem (asks_all_finish target) = (
    λ h. ((told_yes g (not (some_yes g Unfinished target)) h).0, λ i k a. may_finish g target i (finish_means_lem g l target h i k a)),
    λ m. means_finish g l target m.0 (λ i k a. finish_may g target i (m.1 i k a)),
  )
  yes_means_lem asks_seal = (seal_yes, λ m. yes_seal m.0 m.1)
  yes_means_lem asks_room = (λ h. ((told_yes g (room_for g) h).0, may_open g h), λ m. opened_may g g.next m.1)
