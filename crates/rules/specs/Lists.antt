-- Numbers in bytes, and the few words on lists that the rules are said with; those cite no rule.
use Rattle.std.specs.Prelude.{ℕ, zero, suc, ◌+◌, ◌*◌, ◌/◌, ◌%◌, Bool, true, false, ◌||◌, List, [], ◌∷◌, get_or, eqb, ltb}
use Rattle.rules.specs.Verdict.{Verdict, refuse_if}

-- R5: the number in the k bytes from a place on, low byte first.
unfoldable pub number_at : ℕ → List ℕ → ℕ → ℕ
number_at zero file p = 0
number_at (suc k) file p = get_or file p 0 + 256 * number_at k file (suc p)

-- R5: the k bytes of a number, low byte first.
unfoldable pub bytes_of : ℕ → ℕ → List ℕ
bytes_of zero n = []
bytes_of (suc k) n = n % 256 ∷ bytes_of k (n / 256)

-- The n numbers from i on.
unfoldable pub from : ℕ → ℕ → List ℕ
from i zero = []
from i (suc n) = i ∷ from (suc i) n

-- Whether a number is in a list.
unfoldable pub elem : ℕ → List ℕ → Bool
elem k [] = false
elem k (x ∷ xs) = eqb k x || elem k xs

-- a where the test holds, else the rest, which is computed only then.
abbrev pub or_else : {A : Type 0} → Bool → A → (Unit {0} → A) → A
or_else true a rest = a
or_else false a rest = rest tt

-- The first of the n numbers from i on that passes the test, or i + n where none does.
unfoldable pub seek : (ℕ → Bool) → ℕ → ℕ → ℕ
seek f zero i = i
seek f (suc n) i = or_else (f i) i (λ u. seek f n (suc i))

-- R47: refuses at the first of the numbers below n that passes the test.
abbrev pub refuse_first : (ℕ → Bool) → ℕ → ℕ → (ℕ → ℕ) → Verdict (Unit {0})
refuse_first bad n number place = refuse_if (ltb (seek bad n 0) n) number (place (seek bad n 0))
