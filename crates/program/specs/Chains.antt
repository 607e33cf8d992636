-- The place where a chain of checks ends.
use Rattle.std.specs.Prelude.{ℕ, ◌≡◌, refl, Bool, true, false}
use Rattle.rules.specs.Verdict.{Verdict, granted, refused, refuse_if, ◌>>=◌}
use Rattle.rules.specs.Expr.{Read}
use Rattle.program.specs.Stages.{ends}

-- Where a chain ends is known from where its first part ends.
pub ends_then : {A B : Type 0} (m : Verdict (Read A)) (g : Read A → Verdict (Read B)) (h : ℕ → Verdict ℕ)
    → ((x : Read A) → ends (g x) ≡ h x.next) → ends (m >>= g) ≡ (ends m >>= h)
ends_then (granted x) g h e = e x
ends_then (refused n p) g h e = refl

-- What is made of what was read does not move its end.
pub ends-made : {A B : Type 0} (m : Verdict (Read A)) (f : A → B)
    → ends (m >>= λ x. granted (record { got = f x.got; next = x.next })) ≡ ends m
ends-made (granted x) f = refl
ends-made (refused n p) f = refl

-- Two checks move no end.
pub ends-checked : {A : Type 0} (s t : Bool) (a b c d q : ℕ) (x : A)
    → ends (refuse_if s a b >>= λ _. refuse_if t c d >>= λ _. granted (record { got = x; next = q }))
    ≡ (refuse_if s a b >>= λ _. refuse_if t c d >>= λ _. granted q)
ends-checked true t a b c d q x = refl
ends-checked false true a b c d q x = refl
ends-checked false false a b c d q x = refl
