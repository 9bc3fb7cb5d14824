-- The number falls with each digit that is said. Assumes nothing.
use Rattle.text.proofs.number.+say_decimal.Given as goal

abbrev pub decreases-say_decimal : goal.decreases-say_decimal
decreases-say_decimal l = l.n
