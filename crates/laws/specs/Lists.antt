-- Laws of counting, searching and maps on lists.
use Prim.Native.Nat.{ℕ, zero, suc, ◌+◌, ◌-◌, ◌≤◌, ◌<◌}
use Rattle.std.specs.Prelude.{◌≡◌, Bool, true, false, not, ◌||◌, length, get_or, eqb, ltb}
use Rattle.std.proofs.Math.Path.{refl, ap}
use Rattle.std.proofs.Common.{ap₂, sym, ◌∙◌, arith, add-zero, add-suc, suc-add, zero-add, ltb-false, le-ltb, eq-eqb}
use Rattle.std.proofs.Math.Bool.{or_assoc, or-true}
use mathlib.Core.List.{List, [], ◌∷◌, ◌++◌, map}
use Rattle.std.proofs.Math.Decide.{dec_lt}
use Rattle.std.proofs.lemmas.Bool.{not-false}
use Rattle.rules.specs.Lists.{from, elem, or_else, seek}

-- ---- from

pub length_from : (i n : ℕ) → length (from i n) ≡ n
unfolding from
length_from i zero = refl
length_from i (suc n) = ap suc (length_from (suc i) n)

pub get_or-from : (i n k d : ℕ) → k < n → get_or (from i n) k d ≡ i + k
unfolding from
get_or-from i zero k d h = absurd (omega arith)
get_or-from i (suc n) zero d h = omega arith
get_or-from i (suc n) (suc k) d h = get_or-from (suc i) n k d (omega arith) ∙ omega arith

-- ---- maps, by the elements; the default stands for what is past the end

module _ {A B : Type 0} where
  pub map_ext : (g h : A → B) (d : A) (l : List A) → ((k : ℕ) → k < length l → g (get_or l k d) ≡ h (get_or l k d))
      → map g l ≡ map h l
  map_ext g h d [] e = refl
  map_ext g h d (x ∷ l) e = ap₂ {C = List B} ◌∷◌ (e 0 (omega arith)) (map_ext g h d l (λ k p. e (suc k) (omega arith)))

pub map_id : {A : Type 0} (l : List A) → map (λ x. x) l ≡ l
map_id [] = refl
map_id {A} (x ∷ l) = ap {B = List A} (λ m. x ∷ m) (map_id l)

pub map-low : (g : ℕ → ℕ) (n : ℕ) → ((h : ℕ) → g h < n) → (l : List ℕ) (k : ℕ) → get_or (map g l) k 0 < n
map-low g n e [] k = omega (arith, e 0)
map-low g n e (x ∷ l) zero = e x
map-low g n e (x ∷ l) (suc k) = map-low g n e l k

-- An element of the images of a list.
pub get_d_map : {A B : Type 0} (f : A → B) (l : List A) (i : ℕ) (d : A) (e : B) → i < length l → get_or (map f l) i e ≡ f (get_or l i d)
get_d_map f [] i d e h = absurd (omega arith)
get_d_map f (x ∷ l) zero d e h = refl
get_d_map f (x ∷ l) (suc i) d e h = get_d_map f l i d e (omega arith)

module _ {A : Type 0} where
  -- The images of the numbers from i + 1 on, by the numbers from i on.
  pub map_shift : (f : ℕ → A) (i n : ℕ) → map f (from (suc i) n) ≡ map (λ k. f (suc k)) (from i n)
  unfolding from
  map_shift f i zero = refl
  map_shift f i (suc n) = ap (λ l. f (suc i) ∷ l) (map_shift f (suc i) n)

  -- The images of the first numbers are the elements of a list, if each is.
  pub map-from : (f : ℕ → A) (d : A) (l : List A) → ((k : ℕ) → k < length l → f k ≡ get_or l k d) → map f (from 0 (length l)) ≡ l
  unfolding from
  map-from f d [] e = refl
  map-from f d (x ∷ l)
      e = rw (map_shift f 0 (length l), e 0 (omega arith), map-from (λ k. f (suc k)) d l (λ k h. e (suc k) (omega arith)))

  -- The image of number k among those of the first n numbers.
  pub get_or-map-from : (f : ℕ → A) (d : A) (n k : ℕ) → k < n → get_or (map f (from 0 n)) k d ≡ f k
  unfolding from
  get_or-map-from f d zero k h = absurd (omega arith)
  get_or-map-from f d (suc n) zero h = refl
  get_or-map-from f d (suc n) (suc k) h = rw (map_shift f 0 n) (get_or-map-from (λ i. f (suc i)) d n k (omega arith))

-- ---- seek

-- Where a search among n numbers from i on comes to the end, no number passed the test.
pub seek-none : (f : ℕ → Bool) (n i : ℕ) → i + n ≤ seek f n i → (k : ℕ) → k < n → f (i + k) ≡ false
unfolding seek
seek-none f zero i e k h = absurd (omega arith)
seek-none f (suc n) i e k h = go (f i) refl e (seek-none f n (suc i)) k h
  where
    go : (t : Bool) → f i ≡ t → i + suc n ≤ or_else t i (λ u. seek f n (suc i))
        → (suc i + n ≤ seek f n (suc i) → (k : ℕ) → k < n → f (suc i + k) ≡ false)
        → (k : ℕ) → k < suc n → f (i + k) ≡ false
    go true q g rest k p = absurd (omega arith)
    go false q g rest zero p = rw add-zero q
    go false q g rest (suc k) p = rw (add-suc, ← suc-add i k) (rest (omega arith) k (omega arith))

-- Where no number passes the test, a search comes to the end.
pub seek_end : (f : ℕ → Bool) (n i : ℕ) → ((k : ℕ) → k < n → f (i + k) ≡ false) → seek f n i ≡ i + n
unfolding seek
seek_end f zero i e = omega arith
seek_end f (suc n) i e =
    let q : f i ≡ false = ap f (sym (add-zero i)) ∙ e 0 (omega arith) in
    let rest : seek f n (suc i) ≡ suc i + n = seek_end f n (suc i) (λ k h. ap f (omega arith) ∙ e (suc k) (omega arith)) in
    ap (λ t. or_else t i (λ u. seek f n (suc i))) q ∙ rest ∙ omega arith

-- Where number k from i on passes the test and none before it does, a search finds it.
pub seek-first : (f : ℕ → Bool) (n i k : ℕ) → k < n → f (i + k) ≡ true → ((j : ℕ) → j < k → f (i + j) ≡ false)
    → seek f n i ≡ i + k
unfolding seek
seek-first f zero i k h p e = absurd (omega arith)
seek-first f (suc n) i zero h p e =
    let q : f i ≡ true = ap f (sym (add-zero i)) ∙ p in
    ap (λ t. or_else t i (λ u. seek f n (suc i))) q ∙ omega arith
seek-first f (suc n) i (suc k) h p e =
    let q : f i ≡ false = ap f (sym (add-zero i)) ∙ e 0 (omega arith) in
    let none : (j : ℕ) → j < k → f (suc i + j) ≡ false = λ j l. ap f (omega arith) ∙ e (suc j) (omega arith) in
    let rest = seek-first f n (suc i) k (omega arith) (ap f (omega arith) ∙ p) none in
    ap (λ t. or_else t i (λ u. seek f n (suc i))) q ∙ rest ∙ omega arith

-- A search from i on has come to k and found none.
pub record Searching (f : ℕ → Bool) (i k : ℕ) : Type 0 where
  pub low : i ≤ k
  pub none : (j : ℕ) → i ≤ j → j < k → f j ≡ false

module _ {f : ℕ → Bool} {i : ℕ} where
  pub searching_start : Searching f i i
  searching_start = record { low = omega arith; none = λ j p q. absurd (omega arith) }

  pub searching_more : (k : ℕ) → Searching f i k → f k ≡ false → Searching f i (k + 1)
  searching_more k s e = record {
    low = omega (arith, s.low);
    none = λ j p q. elim (dec_lt j k) [
      | yes h ↦ s.none j p h
      | no h ↦ (let z : j ≡ k = omega arith in rw z e)
    ];
  }

  -- It ends where the test is passed, or at its end.
  pub searching_hit : (n k : ℕ) → Searching f i k → k < i + n → f k ≡ true → k ≡ seek f n i
  searching_hit n k s h e =
      let z : i + (k - i) ≡ k = omega (arith, s.low) in
      let at = seek-first f n i (k - i) (omega arith) (rw z e) (λ j q. s.none (i + j) (omega arith) (omega arith)) in
      sym (at ∙ z)

  pub searching_end : (n k : ℕ) → Searching f i k → k ≡ i + n → k ≡ seek f n i
  searching_end n k s e = e ∙ sym (seek_end f n i (λ j q. s.none (i + j) (omega arith) (omega arith)))

-- Where a search below n comes to the end, no number below n passes the test.
pub search_none : (f : ℕ → Bool) (n : ℕ) → ltb (seek f n 0) n ≡ false → (k : ℕ) → k < n → f k ≡ false
search_none f n e k h = rw zero-add at (seek-none f n 0 (omega (arith, ltb-false (seek f n 0) n e)) k h)

-- Where no number below n passes the test, a search below n comes to the end.
pub none_search : (f : ℕ → Bool) (n : ℕ) → ((k : ℕ) → k < n → f k ≡ false) → ltb (seek f n 0) n ≡ false
none_search f n e = le-ltb (seek f n 0) n (omega (arith, seek_end f n 0 (λ k h. rw zero-add (e k h))))

-- Where a search among the n numbers from l on for one that fails the test comes to the end, all of them pass it.
pub search_all : (f : ℕ → Bool) (l n : ℕ) → ltb (seek (λ j. not (f (l + j))) n 0) n ≡ false → (i : ℕ) → l ≤ i → i < l + n
    → f i ≡ true
search_all f l n e i p q =
    let k : l + (i - l) ≡ i = omega arith in
    rw k at (not-false (f (l + (i - l))) (search_none (λ j. not (f (l + j))) n e (i - l) (omega arith)))

-- ---- elem

pub elem-append : (k : ℕ) (l m : List ℕ) → elem k (l ++ m) ≡ (elem k l || elem k m)
unfolding elem
elem-append k [] m = refl
elem-append k (x ∷ l) m = ap (λ t. eqb k x || t) (elem-append k l m) ∙ sym (or_assoc (eqb k x) (elem k l) (elem k m))

-- A number is in a list exactly where it stands at some place.
pub elem_at : (l : List ℕ) (c d : ℕ) → c < length l → elem (get_or l c d) l ≡ true
unfolding elem
elem_at [] c d h = absurd (omega arith)
elem_at (x ∷ l) zero d h = rw (eq-eqb x x refl)
elem_at (x ∷ l) (suc c) d h = rw (elem_at l c d (omega arith)) (or-true (eqb (get_or l c d) x))
