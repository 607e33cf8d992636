-- Heads put one after another: so far they are the first ones of a list.
use Rattle.std.specs.Prelude.{ℕ, ◌+◌, ◌<◌, ◌≡◌, List, length, get_or, take, set}
use Rattle.std.proofs.Common.{arith}
use Rattle.std.proofs.lemmas.Grind.{common_steps}

pub heads_more : (q s : List ℕ) (i v : ℕ) → take i s ≡ take i q → i < length s → i < length q → v ≡ get_or q i 0
    → take (i + 1) (set s i v) ≡ take (i + 1) q
heads_more q s i v e h l p = grind (arith, common_steps)
