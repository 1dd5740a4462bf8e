-- What is read from here on is what is read from the start
use Rattle.std.proofs.Common.{◌≡◌, drop}
use Rattle.csv_lines.specs.Reading.{more_digits}
use Rattle.csv_lines.proofs.number.more_digits.Given as goal

abbrev pub invariant-loop-at : goal.invariant-loop-at
invariant-loop-at l = more_digits l.value l.at (drop l.at l.text) ≡ more_digits l.first l.from (drop l.from l.text)
