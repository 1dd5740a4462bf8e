-- The recorded calls of a queue, a line each: what one says
use Rattle.std.specs.Prelude.{false}
use Rattle.queue_questions.specs.Questions.{matches}
use Rattle.cleanup_queue.specs.Answers.{Said, registered_says, popped_says, completed_says, retried_says, told_says, cancelled_says}
use Rattle.log_births.specs.Births.{register_recorded, land_recorded}
use Rattle.log_attempts.specs.Attempts.{pop_recorded, complete_recorded, retry_recorded}
use Rattle.log_stages.specs.Stages.{admit_recorded, end_recorded, cancel_recorded}
use Rattle.history.specs.Histories.{Bench}
use Rattle.history.specs.Benches.{BenchCall}

-- the answer whole: what history's number_of keeps of it is the number alone
abbrev pub said_recorded : Bench → BenchCall → Said
said_recorded b (BenchCall.register n) = registered_says (register_recorded b.queue n b.log b.used).answer
said_recorded b (BenchCall.land n) = registered_says (land_recorded b.queue n b.log b.used).answer
said_recorded b BenchCall.pop = popped_says (pop_recorded b.queue b.log b.used).answer
said_recorded b (BenchCall.complete t outcome kept) = completed_says (complete_recorded b.queue t outcome kept b.log b.used).answer
said_recorded b BenchCall.retry = retried_says (retry_recorded b.queue b.log b.used).answer
said_recorded b (BenchCall.admit target) = told_says (admit_recorded b.queue (matches b.queue target) b.log b.used).answer
said_recorded b BenchCall.admit_without = told_says (admit_recorded b.queue false b.log b.used).answer
said_recorded b BenchCall.end = told_says (end_recorded b.queue b.log b.used).answer
said_recorded b BenchCall.cancel = cancelled_says (cancel_recorded b.queue b.log b.used).answer
