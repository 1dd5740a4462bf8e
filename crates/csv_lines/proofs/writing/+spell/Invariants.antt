-- One digit less each time
use Rattle.csv_lines.proofs.writing.+spell.Given as goal

abbrev pub decreases-spell : goal.decreases-spell
decreases-spell l = l.most
