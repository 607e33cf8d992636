-- Granted or refused, and checks in a row.
use Rattle.std.specs.Prelude.{ℕ, Bool, true, false}

infixl 10 ◌>>=◌
-- R46: what was asked for, or a refusal's number and place.
pub data Verdict (A : Type 0) : Type 0 where
  granted : A → Verdict A
  refused : ℕ → ℕ → Verdict A

-- R47: the first refusal is the answer. A `do` block is a chain of checks in their order.
abbrev pub ◌>>=◌ : {A B : Type 0} → Verdict A → (A → Verdict B) → Verdict B
granted a >>= f = f a
refused n p >>= f = refused n p

-- R47: one check, with the number and the place of its refusal.
abbrev pub refuse_if : Bool → ℕ → ℕ → Verdict (Unit {0})
refuse_if true n p = refused n p
refuse_if false n p = granted tt
