-- What is known of a number and of a string that were read.
use Rattle.std.specs.Prelude.{ℕ, ◌+◌, ◌*◌, ◌≤◌, ◌≡◌, List, get_or, Option, Some, None}
use Rattle.std.proofs.Common.{arith}
use Rattle.rules.specs.Lists.{number_at}

-- The bytes that a string holds are among those lent.
abbrev pub Fits : Option ℕ → ℕ → Type 0
Fits (Some n) lent = n ≤ lent
Fits None lent = Unit {0}

-- A four-byte number by its bytes.
pub number_four : (b : List ℕ)
    → number_at 4 b 0 ≡ get_or b 0 0 + 256 * get_or b 1 0 + 65536 * get_or b 2 0 + 16777216 * get_or b 3 0
unfolding number_at
number_four b = omega arith
