-- Sound words stay sound: a bench that only calls the library never meets refusal 1
use Prim.Native.Nat.{ℕ}
use mathlib.Core.Path.{◌≡◌, refl, ap, ◌∙◌}
use mathlib.Core.Bool.{true, false}
use mathlib.Core.List.{List, [], ◌∷◌}
use Rattle.queue_record.specs.Openings.{scope_of, iterator_opened}
use Rattle.queue_record.proofs.OpenedLaws.{scope_well_formed, scope_sized, opening_well_formed, opening_sized}
use Rattle.queue_births.specs.Births.{registered, landed}
use Rattle.queue_steps.specs.Attempts.{popped, completed, retried}
use Rattle.queue_questions.specs.Questions.{matches}
use Rattle.queue_stages.specs.Stages.{admitted, ended, cancelled_by}
use Rattle.cleanup_queue.specs.Runs.{Call, after}
use Rattle.cleanup_queue.proofs.Keeps.{call_keeps}
use Rattle.cleanup_queue.proofs.Sizes.{call_sized}
use Rattle.queue_words.specs.Words.{word, ticket_of, queue_of, words_of, is_sound}
use Rattle.queue_words.specs.Exported.{Exported, born_said, pop_said, complete_said, retry_said, told_said, cancel_said, register_on, land_on, pop_on}
use Rattle.queue_words.specs.Exported.{complete_on, retry_on, admit_on, admit_without_on, end_on, cancel_on}
use Rattle.queue_words.proofs.RoundTrip.{queue_sized}
use Rattle.queue_words.proofs.OnWords.{record_sound, sound_fits, sound_on, sound_length}
use Rattle.library_laws.specs.CallWords.{WordCall, register, land, pop, complete, retry, admit, admit_without, end, cancel, words_after, words_after_all}
use Rattle.std.specs.Prelude.{Some, None, Ok, Err}
use Rattle.queue_births.specs.Types.{Registered}
use Rattle.queue_questions.specs.Types.{Told}
use Rattle.queue_stages.specs.Types.{Cancelled}
use Rattle.queue_steps.specs.Types.{Completed, Popped, Retried}

-- ---- whatever an answer is, the words are those that it was given
pub born_words : (a : Registered) (ws : List ℕ) → (born_said a ws).words ≡ ws
born_words (Ok t) ws = refl
born_words (Err (n, given)) ws = refl

pub pop_words : (a : Popped) (ws : List ℕ) → (pop_said a ws).words ≡ ws
pop_words (Ok (Some (t, n))) ws = refl
pop_words (Ok None) ws = refl
pop_words (Err n) ws = refl

pub complete_words : (a : Completed) (ws : List ℕ) → (complete_said a ws).words ≡ ws
complete_words (Ok tt) ws = refl
complete_words (Err (n, kept)) ws = refl

pub retry_words : (a : Retried) (ws : List ℕ) → (retry_said a ws).words ≡ ws
retry_words (Ok t) ws = refl
retry_words (Err n) ws = refl

pub told_words : (a : Told) (ws : List ℕ) → (told_said a ws).words ≡ ws
told_words (Ok true) ws = refl
told_words (Ok false) ws = refl
told_words (Err n) ws = refl

pub cancel_words : (a : Cancelled) (ws : List ℕ) → (cancel_said a ws).words ≡ ws
cancel_words (Ok tt) ws = refl
cancel_words (Err n) ws = refl

-- the queue's call of which an exported one is
abbrev pub call_of : List ℕ → WordCall → Call
call_of ws (register number) = Call.register number
call_of ws (land number) = Call.land number
call_of ws pop = Call.pop
call_of ws (complete ticket outcome kept) = Call.complete (ticket_of (word ticket 0) (word ticket 1) (word ticket 2)) outcome kept
call_of ws retry = Call.retry
call_of ws (admit target) = Call.admit (matches (queue_of ws) target)
call_of ws admit_without = Call.admit false
call_of ws end = Call.end
call_of ws cancel = Call.cancel

module _ (ws : List ℕ) (s : is_sound ws ≡ true) where
  -- on sound words an exported call leaves the words of what the queue's call leaves
  pub words_after_lem : (c : WordCall) → words_after ws c ≡ words_of (after (queue_of ws) (call_of ws c))
  unfolding register_on land_on pop_on complete_on retry_on admit_on admit_without_on end_on cancel_on
  words_after_lem (register n) = ap (λ (x : Exported). x.words) (sound_on ws s n _) ∙ born_words (registered (queue_of ws) n).answer _
  words_after_lem (land n) = ap (λ (x : Exported). x.words) (sound_on ws s n _) ∙ born_words (landed (queue_of ws) n).answer _
  words_after_lem pop = ap (λ (x : Exported). x.words) (sound_on ws s 0 _) ∙ pop_words (popped (queue_of ws)).answer _
  words_after_lem (complete t o k) = ap (λ (x : Exported). x.words) (sound_on ws s k _) ∙ complete_words (completed (queue_of ws) (ticket_of (word t 0) (word t 1) (word t 2)) o k).answer _
  words_after_lem retry = ap (λ (x : Exported). x.words) (sound_on ws s 0 _) ∙ retry_words (retried (queue_of ws)).answer _
  words_after_lem (admit t) = ap (λ (x : Exported). x.words) (sound_on ws s 0 _) ∙ told_words (admitted (queue_of ws) (matches (queue_of ws) t)).answer _
  words_after_lem admit_without = ap (λ (x : Exported). x.words) (sound_on ws s 0 _) ∙ told_words (admitted (queue_of ws) false).answer _
  words_after_lem end = ap (λ (x : Exported). x.words) (sound_on ws s 0 _) ∙ told_words (ended (queue_of ws)).answer _
  words_after_lem cancel = ap (λ (x : Exported). x.words) (sound_on ws s 0 _) ∙ cancel_words (cancelled_by (queue_of ws)).answer _

  pub sound_after : (c : WordCall) → is_sound (words_after ws c) ≡ true
  sound_after c =
      ap is_sound (words_after_lem c) ∙
      record_sound (after (queue_of ws) (call_of ws c)) (call_sized (queue_of ws) (call_of ws c) (queue_sized ws (sound_length ws s))) (call_keeps (queue_of ws) (call_of ws c) (sound_fits ws s))

pub sound_run : (cs : List WordCall) (ws : List ℕ) → is_sound ws ≡ true → is_sound (words_after_all ws cs) ≡ true
sound_run [] ws s = s
sound_run (c ∷ cs) ws s = sound_run cs (words_after ws c) (sound_after ws s c)

-- and an opening's words are sound, a refused one's too
pub scope_sound : (domain first : ℕ) → is_sound (words_of (scope_of domain first)) ≡ true
scope_sound domain first = record_sound (scope_of domain first) (scope_sized domain first) (scope_well_formed domain first)

pub iterator_sound : (domain first : ℕ) (bindings : List ℕ) → is_sound (words_of (iterator_opened domain first bindings).queue) ≡ true
iterator_sound domain first bindings = record_sound (iterator_opened domain first bindings).queue (opening_sized domain first bindings) (opening_well_formed domain first bindings)
