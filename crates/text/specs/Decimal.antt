-- Numbers in decimal: the digits one by one, and how many there are.
use Rattle.std.specs.Prelude.{ℕ, zero, suc, ◌+◌, ◌/◌, ◌%◌, ◌^◌, ◌≤◌, ◌<◌, ◌≡◌, refl, List, [], ◌∷◌, ◌++◌, length}
use Rattle.std.proofs.Common.{sym, ap, ◌∙◌, arith, length-append, lt-ltb, le-ltb}
use Rattle.std.proofs.Math.Decide.{dec_lt}
use Rattle.rules.specs.Lines.{digits, decimal}

-- R60: a number below ten is its digit; any other is the digits before the last, and the last.
digits-one : (k n : ℕ) → n < 10 → digits (suc k) n ≡ (48 + n) ∷ []
unfolding digits
digits-one k n h = rw (lt-ltb n 10 h) refl

digits_last : (k n : ℕ) → 10 ≤ n → digits (suc k) n ≡ digits k (n / 10) ++ ((48 + n % 10) ∷ [])
unfolding digits
digits_last k n h = rw (le-ltb n 10 h) refl

-- One more digit than enough changes nothing.
digits_more : (k n : ℕ) → n < 10 ^ suc k → digits (suc (suc k)) n ≡ digits (suc k) n
digits_more zero n h = digits-one 1 n (omega arith) ∙ sym (digits-one 0 n (omega arith))
digits_more (suc k) n h = elim (dec_lt n 10) [
  | yes p ↦ digits-one (suc (suc k)) n p ∙ sym (digits-one (suc k) n p)
  | no p ↦ digits_last (suc (suc k)) n (omega arith)
      ∙ ap (λ (d : List ℕ). d ++ ((48 + n % 10) ∷ [])) (digits_more k (n / 10) (omega arith))
      ∙ sym (digits_last (suc k) n (omega arith))
]

-- R60: the same of the numbers that are printed.
pub decimal-one : (n : ℕ) → n < 10 → decimal n ≡ (48 + n) ∷ []
decimal-one n h = digits-one 19 n h

pub decimal-last : (n : ℕ) → 10 ≤ n → n < 2 ^ 64 → decimal n ≡ decimal (n / 10) ++ ((48 + n % 10) ∷ [])
decimal-last n h g = digits_last 19 n h
    ∙ ap (λ (d : List ℕ). d ++ ((48 + n % 10) ∷ [])) (sym (digits_more 18 (n / 10) (omega arith)))

pub ruleset by_digits = (decimal-one, decimal-last)

-- A number below 10 ^ (j + 1) has at most j + 1 digits.
length_digits : (k j n : ℕ) → n < 10 ^ suc j → length (digits k n) ≤ suc j
unfolding digits
length_digits zero j n h = omega arith
length_digits (suc k) j n h = elim (dec_lt n 10) [
  | yes p ↦ rw (digits-one k n p) (omega arith)
  | no p ↦ rw (digits_last k n (omega arith)) (more k j n h (omega arith) (length_digits k))
]
  where
    more : (k j n : ℕ) → n < 10 ^ suc j → 10 ≤ n → ((j n : ℕ) → n < 10 ^ suc j → length (digits k n) ≤ suc j)
        → length (digits k (n / 10) ++ ((48 + n % 10) ∷ [])) ≤ suc j
    more k zero n h g rest = absurd (omega arith)
    more k (suc j) n h g rest =
        omega (arith, length-append (digits k (n / 10)) ((48 + n % 10) ∷ []), rest j (n / 10) (omega arith))

-- No more digits than are asked for.
length-fuel : (k n : ℕ) → length (digits k n) ≤ k
unfolding digits
length-fuel zero n = omega arith
length-fuel (suc k) n = elim (dec_lt n 10) [
  | yes p ↦ rw (digits-one k n p) (omega arith)
  | no p ↦ rw (digits_last k n (omega arith))
      (omega (arith, length-append (digits k (n / 10)) ((48 + n % 10) ∷ []), length-fuel k (n / 10)))
]

-- R60: a number of at most 65,535 has at most five digits, and no number has more than 20.
pub length_word : (n : ℕ) → n ≤ 65535 → length (decimal n) ≤ 5
length_word n h = length_digits 20 4 n (omega arith)

pub length-decimal : (n : ℕ) → length (decimal n) ≤ 20
length-decimal n = length-fuel 20 n
