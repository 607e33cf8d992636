-- What lent slices are tested for.
use Rattle.std.specs.Prelude.{Bool, true, false, List}
use Rattle.std.specs.List.{list_all}

-- Whether every element is x.
abbrev pub all_are : {A : Type 0} → (A → A → Bool) → A → List A → Bool
all_are same x s = list_all (λ y. same y x) s

-- A test tells whether P holds.
abbrev pub Tells : Bool → Type 0 → Type 0
Tells true P = P
Tells false P = P → ⊥
