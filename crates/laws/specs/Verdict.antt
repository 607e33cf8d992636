-- What a granted chain of checks tells.
use Rattle.std.specs.Prelude.{ℕ, ◌≤◌, ◌≡◌, refl, Bool, true, false, not, ◌&&◌, ◌||◌, leb}
use Rattle.std.proofs.Common.{sym, subst, arith, leb-true}
use Rattle.std.proofs.lemmas.Bool.{not-false}
use Rattle.rules.specs.Verdict.{Verdict, granted, refused, ◌>>=◌, refuse_if}

-- What is granted is not refused.
pub never-refused : {A : Type 0} {a : A} {n p : ℕ} → granted a ≡ refused n p → ⊥
never-refused e =
    let z : ◌≡◌ {A = ℕ} 0 1 = cc in
    omega arith

-- Equal refusals have one number and one place, and equal grants one thing granted.
pub same_refusal : {A : Type 0} {n p m q : ℕ} → ◌≡◌ {A = Verdict A} (refused n p) (refused m q) → (n ≡ m) × (p ≡ q)
same_refusal e = (cc, cc)

pub same_grant : {A : Type 0} {a b : A} → granted a ≡ granted b → a ≡ b
same_grant e = cc

-- A chain is granted only if its first part is, and the rest on what that hands back.
pub bind_granted : {A B : Type 0} (m : Verdict A) (g : A → Verdict B) {b : B} → (m >>= g) ≡ granted b
    → (a : A) × (m ≡ granted a) × (g a ≡ granted b)
bind_granted (granted a) g e = (a, refl, e)
bind_granted (refused n p) g {b = b} e =
    let z : ◌≡◌ {A = ℕ} 0 1 = cc in
    absurd (omega arith)

-- A check that lets the rest be granted has found nothing.
pub check_granted : {B : Type 0} (t : Bool) (n p : ℕ) (g : Unit {0} → Verdict B) {b : B} → (refuse_if t n p >>= g) ≡ granted b
    → (t ≡ false) × (g tt ≡ granted b)
check_granted true n p g e =
    let z : ◌≡◌ {A = ℕ} 0 1 = cc in
    absurd (omega arith)
check_granted false n p g e = (refl, e)

-- A check before the same refusal changes nothing.
pub check_same : {B : Type 0} (t : Bool) (n p : ℕ) (g : Unit {0} → Verdict B) → g tt ≡ refused n p → (refuse_if t n p >>= g) ≡ refused n p
check_same true n p g e = refl
check_same false n p g e = e

-- A last check that is granted has found nothing.
pub refuse_granted : (t : Bool) (n p : ℕ) → refuse_if t n p ≡ granted tt → t ≡ false
refuse_granted true n p e =
    let z : ◌≡◌ {A = ℕ} 0 1 = cc in
    absurd (omega arith)
refuse_granted false n p e = refl

-- No test both fails and holds.
pub no_false : false ≡ true → ⊥
no_false e =
    let z : ◌≡◌ {A = ℕ} 0 1 = cc in
    omega arith

-- Two tests that hold together hold each.
pub both_true : (a b : Bool) → a && b ≡ true → (a ≡ true) × (b ≡ true)
both_true true b e = (refl, e)
both_true false b e =
    let z : ◌≡◌ {A = ℕ} 0 1 = cc in
    absurd (omega arith)

-- Two tests of which neither holds.
pub both_false : (a b : Bool) → a || b ≡ false → (a ≡ false) × (b ≡ false)
both_false true b e = absurd (no_false (sym e))
both_false false b e = (refl, e)

-- A check of two bounds that found nothing tells both; `ltb a b` is `leb (suc a) b`.
pub within : (a b c d : ℕ) → not (leb a b && leb c d) ≡ false → (a ≤ b) × (c ≤ d)
within a b c d = go (leb a b) (leb-true a b)
  where
    go : (t : Bool) → (t ≡ true → a ≤ b) → not (t && leb c d) ≡ false → (a ≤ b) × (c ≤ d)
    go true h e = (h refl, leb-true c d (not-false (leb c d) e))
    go false h e =
        let z : ◌≡◌ {A = ℕ} 0 1 = cc in
        absurd (omega arith)

-- Whatever a verdict hands back has the property.
pub data Grants {A : Type 0} (Q : A → Type 0) : Verdict A → Type 0 where
  grants : {a : A} → Q a → Grants Q (granted a)
  refuses : {n p : ℕ} → Grants Q (refused n p)

-- What a granted verdict hands back has the property.
pub grants_of : {A : Type 0} {Q : A → Type 0} {m : Verdict A} {b : A} → Grants Q m → m ≡ granted b → Q b
grants_of {Q = Q} {b = b} (grants {a = a} q) e =
    let z : a ≡ b = cc in
    subst Q z q
grants_of refuses e =
    let z : ◌≡◌ {A = ℕ} 0 1 = cc in
    absurd (omega arith)

-- Any verdict hands back what it was granted.
pub grants_self : {A : Type 0} (m : Verdict A) → Grants (λ a. m ≡ granted a) m
grants_self (granted a) = grants refl
grants_self (refused n p) = refuses

-- A property that follows from another.
pub grants-map : {A : Type 0} {Q R : A → Type 0} {m : Verdict A} → Grants Q m → ((a : A) → Q a → R a) → Grants R m
grants-map (grants {a = a} q) h = grants (h a q)
grants-map refuses h = refuses

-- A chain hands back what its rest does, on whatever its first part hands back.
pub grants_bind : {A B : Type 0} {Q : A → Type 0} {R : B → Type 0} {m : Verdict A} {g : A → Verdict B} → Grants Q m
    → ((a : A) → Q a → Grants R (g a)) → Grants R (m >>= g)
grants_bind (grants {a = a} q) h = h a q
grants_bind refuses h = refuses

-- The rest of a chain may use that the check before it found nothing.
pub grants_check : {B : Type 0} {R : B → Type 0} (t : Bool) (n p : ℕ) (g : Unit {0} → Verdict B) → (t ≡ false → Grants R (g tt))
    → Grants R (refuse_if t n p >>= g)
grants_check true n p g h = refuses
grants_check false n p g h = h refl

-- The rest of a chain may use both bounds that a check before it asked for.
pub grants-within : {B : Type 0} {R : B → Type 0} (a b c d n p : ℕ) (g : Unit {0} → Verdict B)
    → (a ≤ b → c ≤ d → Grants R (g tt))
    → Grants R (refuse_if (not (leb a b && leb c d)) n p >>= g)
grants-within a b c d n p g h =
    grants_check (not (leb a b && leb c d)) n p g λ q.
    let w = within a b c d q in
    h w.0 w.1

-- What holds of a chain: of a refusal of its first part, and of its rest on whatever that hands back.
pub cases_bind : {A B : Type 0} (S : Verdict B → Type 0) (m : Verdict A) (g : A → Verdict B)
    → ((n p : ℕ) → m ≡ refused n p → S (refused n p)) → ((a : A) → m ≡ granted a → S (g a)) → S (m >>= g)
cases_bind S (granted a) g r h = h a refl
cases_bind S (refused n p) g r h = r n p refl

-- What holds of a chain that begins with a check: where it finds something, and where it finds nothing.
pub cases_check : {B : Type 0} (S : Verdict B → Type 0) (t : Bool) (n p : ℕ) (g : Unit {0} → Verdict B) → (t ≡ true → S (refused n p))
    → (t ≡ false → S (g tt)) → S (refuse_if t n p >>= g)
cases_check S true n p g r h = r refl
cases_check S false n p g r h = h refl
