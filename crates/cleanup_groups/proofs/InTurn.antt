-- A list registered in a group number by number: the record of the separate calls, and the next of them refused by the same number
use Prim.Native.Nat.{ℕ, zero, suc, ◌+◌, ◌<◌, ◌≤◌}
use mathlib.Core.Path.{◌≡◌, refl, sym, ap, ◌∙◌, subst}
use mathlib.Core.List.{List, [], ◌∷◌}
use native.Mathlib.Omega.{arith}
use lib.ListN.{length, take, get_or}
use lib.Seq.{set-set}
use Rattle.queue_record.specs.declared.refusal.Refusal.{Refusal}
use Rattle.queue_record.proofs.Refused.{some_none}
use Rattle.queue_record.specs.declared.record.Queue.{Queue}
use Rattle.queue_births.specs.Births.{registered}
use Rattle.queue_births.specs.Sequences.{until_refused, in_turn}
use Rattle.cleanup_queue.proofs.ByCase.{register_by}
use Rattle.group_record.specs.Record.{place_at, queue_at, holding, with_place, with_queue, with_places}
use Rattle.group_record.specs.declared.record.Place.{Place}
use Rattle.group_record.specs.declared.record.Groups.{Groups}
use Rattle.group_check.specs.Ids.{spot_of}
use Rattle.group_check.proofs.Spots.{spot_means}
use Rattle.group_steps.specs.Births.{born_at, registered_at, registered_in}
use Rattle.group_steps.specs.Sequences.{took_at}
use Rattle.cleanup_groups.specs.Runs.{GroupCall, groups_after_all}
use Rattle.cleanup_groups.specs.Sequences.{registers_in, separate_call, took_none_in, took_more_in, until_refused_in, groups_in_turn}
use Rattle.cleanup_groups.proofs.Placed.{put_there, same_length}
use Rattle.cleanup_groups.proofs.Keeps.{spot_live, call_whole, call_keeps}
use Rattle.cleanup_groups.proofs.Frames.{register_frame}
use Rattle.cleanup_groups.proofs.Live.{live_spot}
use Rattle.cleanup_groups.proofs.Refusals.{put_back, register_refused}
use Rattle.queue_births.specs.declared.sequences.RegisteredAll.{RegisteredAll}
use Rattle.std.specs.Prelude.{Some, None, Ok, Err}
use Rattle.queue_record.specs.declared.answered.Answered.{Answered}
use Rattle.group_record.specs.declared.answered.GroupsAnswered.{GroupsAnswered}
use Rattle.queue_births.specs.Types.{Registered}

-- ---- the fold by its first number: it has a token, and the rest comes behind it; or it is refused, and the record stays
turn_by : (P : GroupsAnswered RegisteredAll → Type 0) (g : Groups) (id n : ℕ) (ns : List ℕ)
    → ((token : ℕ) → (registered_in g id n).answer ≡ Ok token → P (took_more_in (groups_in_turn (registered_in g id n).groups id ns)))
    → ((refusal : Refusal) → (registered_in g id n).answer ≡ Err (refusal, n) → P (took_none_in g (Some refusal))) → P (groups_in_turn g id (n ∷ ns))
unfolding groups_in_turn
turn_by P g id n ns taken refused = go (registered_in g id n).answer refl
  where
    go : (a : Registered) → (registered_in g id n).answer ≡ a → P (until_refused_in a (registered_in g id n).groups (groups_in_turn (registered_in g id n).groups id ns))
    go (Ok token) e = taken token e
    go (Err (refusal, given)) e =
        let w = register_refused g id n refusal given e in
        subst (λ (h : Groups). P (took_none_in h (Some refusal))) (sym w.1) (refused refusal (e ∙ ap ((λ b. Err (refusal, b))) w.0))

-- the record is that of the separate calls of the taken numbers
pub turn_calls : (g : Groups) (id : ℕ) (ns : List ℕ) → (groups_in_turn g id ns).groups ≡ groups_after_all g (registers_in id (take (groups_in_turn g id ns).answer.taken ns))
unfolding groups_in_turn
turn_calls g id [] = refl
turn_calls g id (n ∷ ns) =
    turn_by (λ (r : GroupsAnswered RegisteredAll). r.groups ≡ groups_after_all g (registers_in id (take r.answer.taken (n ∷ ns)))) g id n ns
    (λ _ _. turn_calls (registered_in g id n).groups id ns) (λ _ _. refl)

-- where numbers are left, what refuses the next one is told
abbrev pub RefusedNext : Groups → ℕ → List ℕ → RegisteredAll → Type 0
RefusedNext g id ns a = (r : Refusal) × (a.refusal ≡ Some r) × ((separate_call g id ns a.taken).answer ≡ Err (r, get_or ns a.taken 0))

pub turn_refused : (g : Groups) (id : ℕ) (ns : List ℕ) → (groups_in_turn g id ns).answer.taken < length ns → RefusedNext g id ns (groups_in_turn g id ns).answer
unfolding groups_in_turn
turn_refused g id [] = λ h. absurd (omega arith)
turn_refused g id (n ∷ ns) =
    turn_by (λ (r : GroupsAnswered RegisteredAll). r.answer.taken < suc (length ns) → RefusedNext g id (n ∷ ns) r.answer) g id n ns
    (λ _ _ h. turn_refused (registered_in g id n).groups id ns (omega arith)) (λ r e _. (r, refl, e))

pub turn_within : (g : Groups) (id : ℕ) (ns : List ℕ) → (groups_in_turn g id ns).answer.taken ≤ length ns
unfolding groups_in_turn
turn_within g id [] = omega arith
turn_within g id (n ∷ ns) =
    turn_by (λ (r : GroupsAnswered RegisteredAll). r.answer.taken ≤ suc (length ns)) g id n ns
    (λ _ _. let h : (groups_in_turn (registered_in g id n).groups id ns).answer.taken ≤ length ns = turn_within (registered_in g id n).groups id ns in omega arith) (λ _ _. omega arith)

-- not refused exactly if all are taken
pub turn_done : (g : Groups) (id : ℕ) (ns : List ℕ) → (groups_in_turn g id ns).answer.refusal ≡ None → (groups_in_turn g id ns).answer.taken ≡ length ns
unfolding groups_in_turn
turn_done g id [] = λ _. refl
turn_done g id (n ∷ ns) =
    turn_by (λ (r : GroupsAnswered RegisteredAll). r.answer.refusal ≡ None → r.answer.taken ≡ suc (length ns)) g id n ns
    (λ _ _ h. ap suc (turn_done (registered_in g id n).groups id ns h)) (λ _ _ h. some_none h)

pub turn_all : (g : Groups) (id : ℕ) (ns : List ℕ) → (groups_in_turn g id ns).answer.taken ≡ length ns → (groups_in_turn g id ns).answer.refusal ≡ None
unfolding groups_in_turn
turn_all g id [] = λ _. refl
turn_all g id (n ∷ ns) =
    turn_by (λ (r : GroupsAnswered RegisteredAll). r.answer.taken ≡ suc (length ns) → r.answer.refusal ≡ None) g id n ns
    (λ _ _ h. turn_all (registered_in g id n).groups id ns (omega arith)) (λ _ _ h. absurd (omega arith))

-- ---- the fold of the queue at the place of a live id is the fold of the groups
-- a queue put over one that was put there before
put_again : (g : Groups) (i : ℕ) (p q : Queue) → length g.places ≡ 16 → i < 16 → with_queue (with_queue g i p) i q ≡ with_queue g i q
put_again g i p q l k =
    ap (λ (was : Place). with_place (with_queue g i p) i (holding was q)) (put_there g i (holding (place_at g i) p) l k)
    ∙ ap (with_places g) (set-set g.places i (holding (place_at g i) p) (holding (place_at g i) q))

-- after a register of the id it is found where it was
spot_again : (g : Groups) (id i n : ℕ) → length g.places ≡ 16 → spot_of g id ≡ Ok i → spot_of (registered_in g id n).groups id ≡ Ok i
spot_again g id i n l e =
    let s = spot_live g id i l e in
    let f = register_frame g l id n in
    let h = (registered_in g id n).groups in
    live_spot h id (call_whole g (GroupCall.register id n) l) (call_keeps g l (GroupCall.register id n) (spot_means g id i e).0) i s.0 (f.marks i ∙ s.1) (f.ids i ∙ s.2)

-- what the groups' fold makes of a step
abbrev pub onward : GroupsAnswered Registered → ℕ → List ℕ → GroupsAnswered RegisteredAll
onward step id ns = until_refused_in step.answer step.groups (groups_in_turn step.groups id ns)

module _ (g : Groups) (id i : ℕ) (ns : List ℕ) (l : length g.places ≡ 16) (k : i < 16) (p : Queue)
    (rest : took_at (with_queue g i p) i (in_turn (queue_at (with_queue g i p) i) ns) ≡ groups_in_turn (with_queue g i p) id ns) where
  put_first : took_at g i (in_turn p ns) ≡ groups_in_turn (with_queue g i p) id ns
  put_first =
      let h = with_queue g i p in
      let r = in_turn p ns in
      ap (λ (w : Groups). record { answer = r.answer; groups = w }) (sym (put_again g i p r.queue l k))
      ∙ (ap (λ (q : Queue). took_at h i (in_turn q ns)) (sym (ap (λ (q : Place). q.queue) (put_there g i (holding (place_at g i) p) l k))) ∙ rest)

  step_first : (a : Registered) → took_at g i (until_refused a p (in_turn p ns)) ≡ until_refused_in a (with_queue g i p) (groups_in_turn (with_queue g i p) id ns)
  step_first (Ok token) = ap took_more_in put_first
  step_first (Err (refusal, given)) = refl

pub at_in_turn : (g : Groups) (id i : ℕ) (ns : List ℕ) → length g.places ≡ 16 → spot_of g id ≡ Ok i → took_at g i (in_turn (queue_at g i) ns) ≡ groups_in_turn g id ns
unfolding in_turn groups_in_turn registered_in
at_in_turn g id i [] l e = ap (λ (h : Groups). took_none_in h None) (put_back g i (queue_at g i) refl)
at_in_turn g id i (n ∷ ns) l e =
    let step = registered (queue_at g i) n in
    let r : registered_in g id n ≡ born_at g i step = ap (registered_at g n) e in
    let h : (registered_in g id n).groups ≡ with_queue g i step.queue = ap (λ (a : GroupsAnswered Registered). a.groups) r in
    let there : spot_of (with_queue g i step.queue) id ≡ Ok i = subst (λ (w : Groups). spot_of w id ≡ Ok i) h (spot_again g id i n l e) in
    step_first g id i ns l (spot_live g id i l e).0 step.queue (at_in_turn (with_queue g i step.queue) id i ns (same_length g i (holding (place_at g i) step.queue) l) there) step.answer
    ∙ sym (ap (λ (a : GroupsAnswered Registered). onward a id ns) r)

-- ---- the tokens of those that are taken: the count of tokens before, and from there on
born_token : (q : Queue) (n token : ℕ) → (registered q n).answer ≡ Ok token → (token ≡ q.count) × ((registered q n).queue.count ≡ q.count + 1)
born_token q n token =
    register_by (λ (r : Answered Registered). r.answer ≡ Ok token → (token ≡ q.count) × (r.queue.count ≡ q.count + 1)) q n
    (λ _ h. let z : ◌≡◌ {A = ℕ} 0 1 = cc in absurd (omega arith)) (λ _ _ _ h. (cc, refl))

-- a register of the id that gives a token
module _ (g : Groups) (id i n : ℕ) (l : length g.places ≡ 16) (e : spot_of g id ≡ Ok i) (token : ℕ) (h : (registered_in g id n).answer ≡ Ok token) where
  as_queue : registered_in g id n ≡ born_at g i (registered (queue_at g i) n)
  unfolding registered_in
  as_queue = ap (registered_at g n) e

  own : (token ≡ (queue_at g i).count) × ((registered (queue_at g i) n).queue.count ≡ (queue_at g i).count + 1)
  own = born_token (queue_at g i) n token (sym (ap (λ (a : GroupsAnswered Registered). a.answer) as_queue) ∙ h)

  one_token : (queue_at (registered_in g id n).groups i).count ≡ (queue_at g i).count + 1
  one_token =
      ap (λ (a : GroupsAnswered Registered). (queue_at a.groups i).count) as_queue
      ∙ (ap (λ (p : Place). p.queue.count) (put_there g i (holding (place_at g i) (registered (queue_at g i) n).queue) l (spot_live g id i l e).0) ∙ own.1)

pub turn_tokens : (g : Groups) (id i : ℕ) (ns : List ℕ) (k : ℕ) → length g.places ≡ 16 → spot_of g id ≡ Ok i → k < (groups_in_turn g id ns).answer.taken
    → (separate_call g id ns k).answer ≡ Ok ((queue_at g i).count + k)
unfolding groups_in_turn
turn_tokens g id i [] k l e = λ h. absurd (omega arith)
turn_tokens g id i (n ∷ ns) zero l e =
    turn_by (λ (r : GroupsAnswered RegisteredAll). 0 < r.answer.taken → (registered_in g id n).answer ≡ Ok ((queue_at g i).count + 0)) g id n ns
    (λ token h _. let t : token ≡ (queue_at g i).count = (own g id i n l e token h).0 in h ∙ ap (λ (m : ℕ). Ok m) (omega arith)) (λ _ _ h. absurd (omega arith))
turn_tokens g id i (n ∷ ns) (suc k) l e =
    turn_by (λ (r : GroupsAnswered RegisteredAll). suc k < r.answer.taken → (separate_call g id (n ∷ ns) (suc k)).answer ≡ Ok ((queue_at g i).count + suc k)) g id n ns
    (λ token h b.
    let c : (queue_at (registered_in g id n).groups i).count ≡ (queue_at g i).count + 1 = one_token g id i n l e token h in
    turn_tokens (registered_in g id n).groups id i ns k (call_whole g (GroupCall.register id n) l) (spot_again g id i n l e) (omega arith)
    ∙ ap (λ (m : ℕ). Ok m) (omega arith)) (λ _ _ h. absurd (omega arith))
