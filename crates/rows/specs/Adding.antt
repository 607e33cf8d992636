-- Laws of adding to a table in a lent slice.
use Rattle.std.specs.Prelude.{ℕ, zero, suc, ◌+◌, ◌-◌, ◌/◌, ◌%◌, ◌≤◌, ◌<◌, min, max, ◌≡◌, refl}
use Rattle.std.specs.Prelude.{Bool, true, false, cond, eqb, Ok, Err, List, [], ◌∷◌, map, length, get_or}
use Rattle.std.proofs.Common.{ap, sym, ◌∙◌, arith, length-append}
use Rattle.rules.specs.Lists.{seek}
use Rattle.rules.specs.Room.{room}
use Rattle.rules.specs.Rows.{Row, leaf, inv, bin, row_at, have, make, plan, plan_not, plan_bin, absorbing, neutral, settle, insert, find, add, same}
use Rattle.laws.specs.Canonical.{Below, Canonical}
use Rattle.laws.specs.Grow.{ext_length, add_extends}
use Rattle.laws.specs.Rows.{Inserts, stood, fresh, inserts}
use Rattle.laws.specs.Rule.{Ready, ready-below, Right, below_more, plan-kept, plan-right, canonical-below}
use Rattle.laws.specs.Search.{last_of, last-low, find-from, none_to_last}
use Rattle.base.specs.Answers.{Answer}
use Rattle.base.specs.declared.kinds.Row as K
use Rattle.base.specs.declared.refusal.Refusal.{Refusal}
use Rattle.table.specs.declared.LentTable.{LentTable}
use Rattle.table.specs.Append.{More, Full}
use Rattle.rows.specs.declared.node.Node.{Node}
use Rattle.rows.specs.declared.node.Node.TheVariants.{Not, Two}
use Rattle.rows.specs.declared.rule.Plan as P
use Rattle.rows.specs.declared.rule.Plan.TheVariants.{Have, Make}
use Rattle.rows.specs.Entries.{node_row, plan_row, entry, row_of_entry, Narrow, entry-same}
use Rattle.rows.specs.Table.{StoredIn, Stored, Exceeds, Gives, Addable, Settles, Adds}
use Rattle.rows.specs.Stored.{slice_row, stored-length, stored_row, stored_more, exceeds-full}

-- ---- nodes by their case

module _ (n : Node) where
  pub below-not : (a : K.Row) (k : ℕ) → n ≡ Not a → Below k (node_row n) → a.0 < k
  below-not a k e h = rw e at h

  pub plan_of_not : (a : K.Row) (m : Node) (rows : List ℕ) → n ≡ Not a → node_row m ≡ row_of_entry (get_or rows a.0 0) → (p : P.Plan)
      → plan_row p ≡ plan_not a.0 (node_row m) → plan_row p ≡ plan (map row_of_entry rows) (node_row n)
  plan_of_not a m rows e q p h = rw e (h ∙ ap (plan_not a.0) (q ∙ sym (slice_row rows a.0)))

  pub plan_of_two : (o : Bool) (a b : K.Row) (rows : List ℕ) → n ≡ Two o a b → (p : P.Plan)
      → ((x y : Row) → plan_row p ≡ plan_bin o a.0 x b.0 y) → plan_row p ≡ plan (map row_of_entry rows) (node_row n)
  plan_of_two o a b rows e p h = rw e (h _ _)

-- ---- plans

-- A row that is made for an operation over rows below k is one itself.
plan-ready : (t : List Row) (k : ℕ) (r q : Row) → Ready k r → plan t r ≡ make q → Ready k q
unfolding plan_bin
plan-ready t k (leaf i) q h e = absurd h
plan-ready t k (inv a) q h e = go a (row_at t a) h e
  where
    go : (a : ℕ) (p : Row) → a < k → plan_not a p ≡ make q → Ready k q
    go zero p h e =
        let z : ◌≡◌ {A = ℕ} 0 1 = cc in
        absurd (omega arith)
    go (suc zero) p h e =
        let z : ◌≡◌ {A = ℕ} 0 1 = cc in
        absurd (omega arith)
    go (suc (suc a)) (leaf i) h e =
        let z : inv (suc (suc a)) ≡ q = cc in
        rw (← z) h
    go (suc (suc a)) (inv b) h e =
        let z : ◌≡◌ {A = ℕ} 0 1 = cc in
        absurd (omega arith)
    go (suc (suc a)) (bin o b c) h e =
        let z : inv (suc (suc a)) ≡ q = cc in
        rw (← z) h
plan-ready t k (bin o a b) q h e =
    go (eqb a (absorbing o)) (eqb b (absorbing o)) (eqb a (neutral o)) (eqb b (neutral o)) (eqb a b) e
  where
    never : (i : ℕ) → have i ≡ make q → Ready k q
    never i e =
        let z : ◌≡◌ {A = ℕ} 0 1 = cc in
        absurd (omega arith)

    go : (v w x y z : Bool)
        → cond v (have a) (cond w (have b) (cond x (have b) (cond y (have a) (cond z (have a) (make (bin o (min a b) (max a b))))))) ≡ make q
        → Ready k q
    go true w x y z e = never a e
    go false true x y z e = never b e
    go false false true y z e = never b e
    go false false false true z e = never a e
    go false false false false true e = never a e
    go false false false false false e =
        let z : bin o (min a b) (max a b) ≡ q = cc in
        rw (← z) (omega (arith, h.0, h.1), omega (arith, h.0, h.1))

-- ---- settling

-- Every number holds a row whose operands fit.
pub entry_narrow : (n : ℕ) → Narrow (row_of_entry n)
unfolding row_of_entry
entry_narrow n = go (eqb (n / 4294967296) 0) (eqb (n / 4294967296) 1) (eqb (n / 4294967296) 2)
  where
    go : (x y z : Bool)
        → Narrow (cond x (leaf (n / 65536 % 65536)) (cond y (inv (n / 65536 % 65536)) (bin z (n / 65536 % 65536) (n % 65536))))
    go true y z = record { one = omega arith; two = omega arith }
    go false true z = record { one = omega arith; two = omega arith }
    go false false z = record { one = omega arith; two = omega arith }

-- Searches by tests that agree find the same.
pub seek_ext : (f g : ℕ → Bool) (n i : ℕ) → ((k : ℕ) → i ≤ k → k < i + n → f k ≡ g k) → seek f n i ≡ seek g n i
unfolding seek
seek_ext f g zero i e = refl
seek_ext f g (suc n) i e =
    let p : f i ≡ g i = e i (omega arith) (omega arith) in
    let rest : seek f n (suc i) ≡ seek g n (suc i) = seek_ext f g n (suc i) (λ k a b. e k (omega arith) (omega arith)) in
    rw (p, rest)

-- The search by numbers, from there on, finds the row that the rule finds.
module _ (s : LentTable) (n : Node) (e last at : ℕ) (made : (e ≡ entry (node_row n)) × Narrow (node_row n))
    (from : last ≡ last_of (node_row n)) (found : at ≡ seek (λ i. eqb (get_or s.rows.now i 0) e) (s.state.used - (last + 1)) (last + 1)) where
  abbrev q : Row
  q = node_row n

  found-row : {C : ℕ} {t : List Row} → Canonical C t → Stored s t → Ready (length t) q → at ≡ find t q
  found-row {t = t} w st h =
      let size = stored-length st in
      let low = last-low (length t) q h in
      let next : last + 1 ≡ suc (last_of q) = omega arith in
      let same_test : (k : ℕ) → last + 1 ≤ k → k < last + 1 + (s.state.used - (last + 1)) → eqb (get_or s.rows.now k 0) e ≡ same (row_at t k) q
      = λ k a b.
      (let l : k < s.state.used = omega (arith, low) in
      let row = stored_row st k l in
      let own : get_or s.rows.now k 0 ≡ entry (row_at t k) = sym (st.entries k l) ∙ ap entry (sym row) in
      rw (own, made.0) (entry-same (row_at t k) q (rw row (entry_narrow (get_or s.rows.now k 0))) made.1)) in
      found ∙ seek_ext _ (λ i. same (row_at t i) q) (s.state.used - (last + 1)) (last + 1) same_test
      ∙ rw (next, ← size) (sym (find-from t q (suc (last_of q)) low (none_to_last t q (length t) h (canonical-below w))))

  -- The row stands.
  pub settle-stood : at < s.state.used → (x : K.Row) → x.0 ≡ at → Settles s n (Ok x) s
  settle-stood l x i C t w st h m = go (inserts t q)
    where
      go : Inserts t q → Gives s (Ok x) s (settle t (make q))
      go (stood a b c) = rw a (st, i ∙ found-row w st h)
      go (fresh a b c) = absurd (omega (arith, found-row w st h, stored-length st))

  -- The row is not there, and is appended, or no row is left.
  module _ (l : s.state.used ≤ at) {s' : LentTable} where
    pub settle-append : More s e s' → (x : K.Row) → x.0 ≡ at → Settles s n (Ok x) s'
    settle-append p x i C t w st h m = go (inserts t q)
      where
        go : Inserts t q → Gives s (Ok x) s' (settle t (make q))
        go (stood a b c) = absurd (omega (arith, found-row w st h, stored-length st))
        go (fresh a b c) = rw a (stored_more st q made p, i ∙ found-row w st h)

    pub settle-full : (x : Refusal) → Full s x s' → Settles s n (Err x) s'
    settle-full x p C t w st h m = go (inserts t q)
      where
        go : Inserts t q → Exceeds s x (insert t q)
        go (stood a b c) = absurd (omega (arith, found-row w st h, stored-length st))
        go (fresh a b c) = exceeds-full st p (omega (arith, ap length a, length-append t (q ∷ [])))

-- ---- adding

-- An operation over used rows is one over rows of the slice.
pub ready_slice : (rows : List ℕ) (used : ℕ) (r : Row) → used ≤ room (length rows) → Ready used r → Below (length rows) r
ready_slice rows used r h b = below_more used (length rows) r (omega arith) (ready-below used r b)

-- A slice of rows plans as the table that it stores.
stored-plan : {rows : List ℕ} {used : ℕ} {t : List Row} → StoredIn rows used t → (r : Row) → Below (length t) r
    → plan (map row_of_entry rows) r ≡ plan t r
stored-plan {rows} {t = t} w r h =
    plan-kept t (map row_of_entry rows) (λ i l. slice_row rows i ∙ sym (stored_row w i (omega (arith, stored-length w)))) r h

module _ (s : LentTable) (n : Node) (p : P.Plan) (planned : plan_row p ≡ plan (map row_of_entry s.rows.now) (node_row n)) where
  -- The plan over the table.
  plan-is : {t : List Row} → Stored s t → Ready (length t) (node_row n) → plan t (node_row n) ≡ plan_row p
  plan-is st h = sym (planned ∙ stored-plan st (node_row n) (ready-below _ (node_row n) h))

  pub add-have : (i : K.Row) → p ≡ Have i → Adds s n (Ok i) s
  add-have i z = record {
    gives = λ C t w st h.
        let is : plan t (node_row n) ≡ have i.0 = plan-is st h ∙ ap plan_row z in
        rw is (st, refl);
  }

  pub add-make : (m : Node) → p ≡ Make m → (r : Answer K.Row) (s' : LentTable) → Settles s m r s' → Adds s n r s'
  add-make m z r s' g = record {
    gives = λ C t w st h.
        let is : plan t (node_row n) ≡ make (node_row m) = plan-is st h ∙ ap plan_row z in
        let right : Right t (node_row n) (make (node_row m)) = rw is at (plan-right w (node_row n) h) in
        rw is (g C t w st right.0 right.2);
  }

  -- A row that is made is one that can be settled.
  pub make-addable : (m : Node) → p ≡ Make m → Addable s (node_row n) → Addable s (node_row m)
  make-addable m z a = record {
    held = a.held;
    ready = plan-ready (map row_of_entry s.rows.now) s.state.used (node_row n) (node_row m) a.ready (sym planned ∙ ap plan_row z);
  }

-- R54: what an addition answers and leaves stands for the table after the rule's.
pub holds-add : {C : ℕ} {s s' : LentTable} {t : List Row} {n : Node} {x : Answer K.Row} → Canonical C t → Stored s t
    → Adds s n x s' → (r : Row) → Ready (length t) r → node_row n ≡ r → Gives s x s' (add t r)
holds-add {C} {t = t} w g a r h same = rw same at (a.gives C t w g (rw same h))

-- R54: what was refused before an addition stands refused for the table after the rule's, too.
pub refused-add : {s : LentTable} {x : Refusal} {t : List Row} → Exceeds s x t → (r : Row) → Exceeds s x (add t r).tab
refused-add {t = t} o r = record { place = o.place; more = omega (arith, o.more, ext_length (add_extends t r)) }
