-- `digits::put_long` ends: the measure is the number, of which the call puts the hundreds.
use Rattle.digits.proofs.+put_long.Given as goal

abbrev pub decreases-put_long : goal.decreases-put_long
decreases-put_long l = l.n
