-- Laws of reaching: heads are reached, operands of a reached row are reached, and nothing else is.
use Prim.Native.Nat.{ℕ, zero, suc, ◌≤◌, ◌<◌}
use Rattle.std.specs.Prelude.{◌≡◌, Bool, cond, ◌||◌, List, ◌++◌, ◌⊎◌, length, eqb}
use Rattle.std.proofs.Math.Path.{refl}
use Rattle.std.proofs.Common.{sym, ◌∙◌, inl, inr, arith, eq-eqb, ne_eqb}
use Rattle.std.proofs.Math.Bool.{true, false, or-true}
use Rattle.std.proofs.Math.Decide.{dec_lt}
use Rattle.rules.specs.Lists.{elem}
use Rattle.rules.specs.Rows.{Row, leaf, inv, bin, row_at}
use Rattle.rules.specs.Sets.{operands, needs, reaches}
use Rattle.laws.specs.Lists.{elem-append}
use Rattle.laws.specs.Canonical.{Operands, Below, Canonical}
use Rattle.laws.specs.Rule.{canonical-below}

-- Numbers from k on are no operands of a row whose operands are below k.
pub operands-low : (k j : ℕ) (r : Row) → Below k r → k ≤ j → elem j (operands r) ≡ false
unfolding elem
operands-low k j (leaf i) h g = refl
operands-low k j (inv a) h g = rw (ne_eqb j a (omega arith))
operands-low k j (bin o a b) h g = rw (ne_eqb j a (omega arith), ne_eqb j b (omega arith))

-- One turn of the walk.
abbrev more : List Row → ℕ → List ℕ → List ℕ
more t k x = cond (elem k x) (operands (row_at t k) ++ x) x

more_keeps : (t : List Row) (k j : ℕ) (x : List ℕ) → elem j x ≡ true → elem j (more t k x) ≡ true
more_keeps t k j x e = go (elem k x)
  where
    go : (b : Bool) → elem j (cond b (operands (row_at t k) ++ x) x) ≡ true
    go true = elem-append j (operands (row_at t k)) x ∙ rw e (or-true (elem j (operands (row_at t k))))
    go false = e

-- What is needed stays needed.
pub needs_keeps : (t : List Row) (k j : ℕ) (x : List ℕ) → elem j x ≡ true → elem j (needs t k x) ≡ true
unfolding needs
needs_keeps t zero j x e = e
needs_keeps t (suc k) j x e = needs_keeps t k j (more t k x) (more_keeps t k j x e)

module _ (t : List Row) (b : (i : ℕ) → i < length t → Below i (row_at t i)) where
  -- The walk below k says nothing new of the numbers from k on.
  needs-high : (k j : ℕ) (x : List ℕ) → k ≤ length t → k ≤ j → elem j (needs t k x) ≡ elem j x
  unfolding needs
  needs-high zero j x h g = refl
  needs-high (suc k) j x h g = needs-high k j (more t k x) (omega arith) (omega arith) ∙ go (elem k x)
    where
      go : (c : Bool) → elem j (cond c (operands (row_at t k) ++ x) x) ≡ elem j x
      go true = elem-append j (operands (row_at t k)) x ∙ rw (operands-low k j (row_at t k) (b k (omega arith)) (omega arith))
      go false = refl

  -- The operands of a needed row are needed.
  pub needs-closed : (k i a : ℕ) (x : List ℕ) → k ≤ length t → i < k → elem i (needs t k x) ≡ true
      → elem a (operands (row_at t i)) ≡ true → elem a (needs t k x) ≡ true
  unfolding needs
  needs-closed zero i a x h g e q = absurd (omega arith)
  needs-closed (suc k) i a x h g e q =
      elim (dec_lt i k) [ yes p ↦ needs-closed k i a (more t k x) (omega arith) p e q | no p ↦ top (omega arith) ]
    where
      put : (c : Bool) → elem k x ≡ c → elem k (more t k x) ≡ true → i ≡ k → elem a (more t k x) ≡ true
      put true n m z = rw n (elem-append a (operands (row_at t k)) x ∙ rw (← z, q))
      put false n m z =
          let p : elem k x ≡ true = rw n at m in
          cc

      top : i ≡ k → elem a (needs t k (more t k x)) ≡ true
      top z = needs_keeps t k a (more t k x)
          (put (elem k x) refl (sym (needs-high k k (more t k x) (omega arith) (omega arith)) ∙ rw z at e) z)

-- The operands of a reached row are reached.
pub reaches-operands : {C : ℕ} (t : List Row) → Canonical C t → (x : List ℕ) (k : ℕ) (r : Row)
    → k < length t → row_at t k ≡ r
    → reaches t x k ≡ true → Operands (λ a. reaches t x a ≡ true) r
unfolding elem
reaches-operands t w x k (leaf i) h e q = tt
reaches-operands t w x k (inv a) h e q = needs-closed t (canonical-below w) (length t) k a x (omega arith) h q (rw (e, eq-eqb a a refl))
reaches-operands t w x k (bin o a c) h e q = (
  needs-closed t (canonical-below w) (length t) k a x (omega arith) h q (rw (e, eq-eqb a a refl)),
  needs-closed t (canonical-below w) (length t) k c x (omega arith) h q (rw (e, eq-eqb c c refl) (or-true (eqb c a))),
)

-- A needed number is one of those asked for, or an operand of a needed row.
pub record NamedBy (t : List Row) (k j : ℕ) (x : List ℕ) : Type 0 where
  pub by : ℕ
  pub low : by < k
  pub needed : elem by (needs t k x) ≡ true
  pub names : elem j (operands (row_at t by)) ≡ true

pub needs_origin : (t : List Row) (k j : ℕ) (x : List ℕ) → elem j (needs t k x) ≡ true → (elem j x ≡ true) ⊎ NamedBy t k j x
unfolding needs
needs_origin t zero j x e = inl e
needs_origin t (suc k) j x e = go (needs_origin t k j (more t k x) e)
  where
    old : (b : Bool) → elem j (operands (row_at t k)) ≡ b → elem k x ≡ true → b || elem j x ≡ true
        → (elem j x ≡ true) ⊎ NamedBy t (suc k) j x
    old true q m p = inr
        (record { by = k; low = omega arith; needed = needs_keeps t k k (more t k x) (more_keeps t k k x m); names = q })
    old false q m p = inl p

    here : (b : Bool) → elem k x ≡ b → elem j (cond b (operands (row_at t k) ++ x) x) ≡ true
        → (elem j x ≡ true) ⊎ NamedBy t (suc k) j x
    here true m p = old (elem j (operands (row_at t k))) refl m (sym (elem-append j (operands (row_at t k)) x) ∙ p)
    here false m p = inl p

    go : (elem j (more t k x) ≡ true) ⊎ NamedBy t k j (more t k x) → (elem j x ≡ true) ⊎ NamedBy t (suc k) j x
    go (inl p) = here (elem k x) refl p
    go (inr n) = inr (record { by = n.by; low = omega (arith, n.low); needed = n.needed; names = n.names })
