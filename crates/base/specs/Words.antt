-- A two-byte number by its bytes.
use Rattle.std.specs.Prelude.{ℕ, ◌+◌, ◌*◌, ◌≡◌, List, get_or}
use Rattle.std.proofs.Common.{arith, add-one}
use Rattle.rules.specs.Lists.{number_at}

pub number-two : (file : List ℕ) (p : ℕ) → number_at 2 file p ≡ get_or file p 0 + 256 * get_or file (p + 1) 0
unfolding number_at
number-two file p = rw add-one (omega arith)
