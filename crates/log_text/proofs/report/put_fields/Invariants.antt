-- What was put is the numbers passed
use Rattle.std.proofs.Common.{take}
use Rattle.log_text.proofs.Fields.{Put}
use Rattle.log_text.proofs.report.put_fields.Given as goal

abbrev pub invariant-loop-number : goal.invariant-loop-number
invariant-loop-number l = Put l.fn.out l.from (take l.number-index l.numbers) l.at l.out
