-- R138: what the library hands back is the number and the values of each case of each answer
use Prim.Native.Nat.{ℕ, suc}
use mathlib.Core.Path.{◌≡◌, refl}
use mathlib.Core.Bool.{Bool, true, false}
use mathlib.Core.List.{List}
use Rattle.queue_births.specs.declared.sequences.RegisteredAll.{RegisteredAll}
use Rattle.queue_questions.specs.Questions.{yes_or_no}
use Rattle.cleanup_queue.specs.Answers.{opened_says, registered_says, popped_says, completed_says, retried_says, told_says, cancelled_says, domain_says}
use Rattle.cleanup_queue.specs.WholeLists.{registered_all_says}
use Rattle.log_reader.specs.Reader.{read_says}
use Rattle.queue_words.specs.Words.{word}
use Rattle.queue_words.specs.Exported.{open_number, born_said, born_all_said, pop_said, complete_said, retry_said, told_said, cancel_said, domain_said}
use Rattle.gulberzan_c.specs.ReadBack.{read_said}
use Rattle.library_laws.specs.Values.{TellsWords}
use Rattle.std.specs.Prelude.{Some, None, Ok, Err}
use Rattle.log_reader.specs.Types.{Read}
use Rattle.queue_births.specs.Types.{Registered}
use Rattle.queue_questions.specs.Types.{DomainTold, Told}
use Rattle.queue_record.specs.Types.{Opened}
use Rattle.queue_stages.specs.Types.{Cancelled}
use Rattle.queue_steps.specs.Types.{Completed, Popped, Retried}

pub opening_tells : (a : Opened) → open_number a ≡ (opened_says a).number
opening_tells (Ok tt) = refl
opening_tells (Err n) = refl

module _ (ws : List ℕ) where
  pub born_tells : (a : Registered) → TellsWords (born_said a ws) (registered_says a)
  born_tells (Ok t) = record { number = refl; values = refl }
  born_tells (Err (n, given)) = record { number = refl; values = refl }

  pub all_tells : (a : RegisteredAll) → TellsWords (born_all_said a ws) (registered_all_says a)
  all_tells a = record { number = refl; values = refl }

  pub pop_tells : (a : Popped) → TellsWords (pop_said a ws) (popped_says a)
  pop_tells (Ok (Some (t, n))) = record { number = refl; values = refl }
  pop_tells (Ok None) = record { number = refl; values = refl }
  pop_tells (Err n) = record { number = refl; values = refl }

  pub complete_tells : (a : Completed) → TellsWords (complete_said a ws) (completed_says a)
  complete_tells (Ok tt) = record { number = refl; values = refl }
  complete_tells (Err (n, kept)) = record { number = refl; values = refl }

  pub retry_tells : (a : Retried) → TellsWords (retry_said a ws) (retried_says a)
  retry_tells (Ok t) = record { number = refl; values = refl }
  retry_tells (Err n) = record { number = refl; values = refl }

  pub cancel_tells : (a : Cancelled) → TellsWords (cancel_said a ws) (cancelled_says a)
  cancel_tells (Ok tt) = record { number = refl; values = refl }
  cancel_tells (Err n) = record { number = refl; values = refl }

  pub domain_tells : (a : DomainTold) → TellsWords (domain_said a ws) (domain_says a)
  domain_tells (Ok d) = record { number = refl; values = refl }
  domain_tells (Err n) = record { number = refl; values = refl }

  -- yes and no are cases here, so the value stands in the case: no 1, yes 2
  pub told_number : (a : Told) → (told_said a ws).result ≡ (told_says a).number
  told_number (Ok true) = refl
  told_number (Ok false) = refl
  told_number (Err n) = refl

  pub told_case : (b : Bool) → word (told_said (yes_or_no b) ws).answer 0 ≡ suc (word (told_says (yes_or_no b)).values 0)
  told_case true = refl
  told_case false = refl

  pub read_tells : (a : Read) → ((read_said a ws).result ≡ (read_says a).0) × (word (read_said a ws).answer 1 ≡ (read_says a).1)
  read_tells (Ok rows) = (refl, refl)
  read_tells (Err (n, place)) = (refl, refl)
