-- The measure of `put_decimal` is the number itself, of which a tenth is less.
use Rattle.text.proofs.word.Text.+put_decimal.Given as goal

abbrev pub decreases-put_decimal : goal.decreases-put_decimal
decreases-put_decimal l = l.n
