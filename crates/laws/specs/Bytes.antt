-- Numbers and tables of fixed-width records in bytes, for every width: what is written reads back, and what is read is written again.
use Prim.Native.Nat.{ℕ, zero, suc, ◌+◌, ◌*◌, ◌/◌, ◌%◌, ◌^◌, ◌≤◌, ◌<◌}
use Rattle.std.specs.Prelude.{◌≡◌, length, take, drop}
use Rattle.std.proofs.Math.Path.{refl}
use Rattle.std.proofs.Common.{sym, ap, ◌∙◌, add-zero, add-one, length-append, drop-cons, drop-drop, drop_at, take-add, get_or-drop}
use mathlib.Core.List.{List, [], ◌∷◌, ◌++◌, map, flat_map, append_assoc}
use native.Mathlib.Omega.{arith}
use Rattle.std.proofs.Math.Nat.{mul-zero, mul-suc}
use Rattle.std.proofs.Math.ListN.{get_or}
use Rattle.rules.specs.Lists.{number_at, bytes_of, from}
use Rattle.laws.specs.Lists.{map_shift}

-- All numbers of a list are bytes.
abbrev pub Bytes : List ℕ → Type 0
Bytes l = (i : ℕ) → get_or l i 0 < 256

-- Lists of bytes are put together to lists of bytes.
pub bytes-none : Bytes []
bytes-none i = omega arith

pub bytes-cons : (x : ℕ) (l : List ℕ) → x < 256 → Bytes l → Bytes (x ∷ l)
bytes-cons x l h b zero = h
bytes-cons x l h b (suc i) = b i

pub bytes-append : (l m : List ℕ) → Bytes l → Bytes m → Bytes (l ++ m)
bytes-append [] m b c = c
bytes-append (x ∷ l) m b c = bytes-cons x (l ++ m) (b 0) (bytes-append l m (λ i. b (suc i)) c)

-- ---- places in a file

module _ {A : Type 0} (file : List A) (p : ℕ) where
  -- What a file has at p is the first of what it has from p on.
  pub get_d_part : (x d : A) (rest : List A) → drop p file ≡ x ∷ rest → get_or file p d ≡ x
  get_d_part x d rest e = ap (λ i. get_or file i d) (sym (add-zero p)) ∙ sym (get_or-drop p file 0 d) ∙ ap (λ l. get_or l 0 d) e

  -- Past a part of k elements comes what follows it.
  pub drop-part : (k : ℕ) (l rest : List A) → length l ≡ k → drop p file ≡ l ++ rest → drop (p + k) file ≡ rest
  drop-part k l rest h e = sym (drop-drop k p file) ∙ ap (drop k) e ∙ drop_at l rest k h

  -- An element and the part after it are one part.
  pub take-cons : (k : ℕ) (d : A) → p < length file → get_or file p d ∷ take k (drop (suc p) file) ≡ take (suc k) (drop p file)
  take-cons k d h = sym (ap (take (suc k)) (drop-cons file p d h))

  -- Two parts, one right after the other, are one part.
  pub take-parts : (a b : ℕ) → take a (drop p file) ++ take b (drop (p + a) file) ≡ take (a + b) (drop p file)
  take-parts a b = rw (take-add, drop-drop)

-- ---- numbers

-- A number of k bytes is k bytes long.
pub length-bytes : (k n : ℕ) → length (bytes_of k n) ≡ k
unfolding bytes_of
length-bytes zero n = refl
length-bytes (suc k) n = ap suc (length-bytes k (n / 256))

-- It is written in bytes.
pub bytes-number : (k n : ℕ) → Bytes (bytes_of k n)
unfolding bytes_of
bytes-number zero n = bytes-none
bytes-number (suc k) n = bytes-cons (n % 256) (bytes_of k (n / 256)) (omega arith) (bytes-number k (n / 256))

-- Reading at p what was written there.
pub number_read : (k n p : ℕ) (file rest : List ℕ) → n < 256 ^ k → drop p file ≡ bytes_of k n ++ rest → number_at k file p ≡ n
unfolding number_at bytes_of
number_read zero n p file rest h e = omega arith
number_read (suc k) n p file rest h e =
    let high = bytes_of k (n / 256) ++ rest in
    let next : drop (suc p) file ≡ high = rw add-one at (drop-part file p 1 (n % 256 ∷ []) high refl e) in
    omega (arith, get_d_part file p (n % 256) 0 high e, number_read k (n / 256) (suc p) file rest (omega arith) next)

module _ (file : List ℕ) (b : Bytes file) where
  -- A number of k bytes is below 256 ^ k.
  pub number_small : (k p : ℕ) → number_at k file p < 256 ^ k
  unfolding number_at
  number_small zero p = omega arith
  number_small (suc k) p = omega (arith, b p, number_small k (suc p))

  -- Writing what was read at p.
  pub number_write : (k p : ℕ) → p + k ≤ length file → bytes_of k (number_at k file p) ≡ take k (drop p file)
  unfolding number_at bytes_of
  number_write zero p h = refl
  number_write (suc k) p h =
      let low : (get_or file p 0 + 256 * number_at k file (suc p)) % 256 ≡ get_or file p 0 = omega (arith, b p) in
      let high : (get_or file p 0 + 256 * number_at k file (suc p)) / 256 ≡ number_at k file (suc p) = omega (arith, b p) in
      rw (low, high, number_write k (suc p) (omega arith)) (take-cons file p k 0 (omega arith))

-- ---- tables: records of w bytes each

-- A table of records that are bytes is bytes.
pub bytes-table : {A : Type 0} (g : A → List ℕ) → ((x : A) → Bytes (g x)) → (xs : List A) → Bytes (flat_map g xs)
unfolding flat_map
bytes-table g b [] = bytes-none
bytes-table g b (x ∷ xs) = bytes-append (g x) (flat_map g xs) (b x) (bytes-table g b xs)

module _ {A : Type 0} (g : A → List ℕ) (w : ℕ) (same : (x : A) → length (g x) ≡ w) where
  -- The length of a table.
  pub length-table : (xs : List A) → length (flat_map g xs) ≡ w * length xs
  unfolding flat_map
  length-table [] = rw mul-zero
  length-table (x ∷ xs) = rw (length-append, same, length-table xs, mul-suc) (omega arith)

  -- Record j of a table that begins at p.
  pub table-read : (xs : List A) (j p : ℕ) (d : A) (file rest : List ℕ) → j < length xs → drop p file ≡ flat_map g xs ++ rest
      → drop (p + w * j) file ≡ g (get_or xs j d) ++ (flat_map g (drop (suc j) xs) ++ rest)
  unfolding flat_map
  table-read [] j p d file rest h e = absurd (omega arith)
  table-read (x ∷ xs) zero p d file rest h e = rw (mul-zero, add-zero) (e ∙ append_assoc (g x) (flat_map g xs) rest)
  table-read (x ∷ xs) (suc j) p d file rest h e =
      let next = drop-part file p w (g x) (flat_map g xs ++ rest) (same x) (e ∙ append_assoc (g x) (flat_map g xs) rest) in
      let q : p + w * suc j ≡ p + w + w * j = omega (arith, mul-suc w j) in
      rw q (table-read xs j (p + w) d file rest (omega arith) next)

-- Records that are written as they stand in a file from p on are that part of the file.
pub table_write : {A : Type 0} (g : A → List ℕ) (f : ℕ → A) (w p : ℕ) (file : List ℕ) (n : ℕ)
    → ((j : ℕ) → j < n → g (f j) ≡ take w (drop (p + w * j) file)) → flat_map g (map f (from 0 n)) ≡ take (w * n) (drop p file)
unfolding flat_map from
table_write g f w p file zero h = rw mul-zero
table_write g f w p file (suc n) h =
    let first : g (f 0) ≡ take w (drop p file) = rw (mul-zero, add-zero) at (h 0 (omega arith)) in
    let rest = table_write g (λ j. f (suc j)) w (p + w) file n next in
    let more : w * suc n ≡ w + w * n = omega (arith, mul-suc w n) in
    rw (first, map_shift f 0 n, rest, more) (take-parts file p w (w * n))
  where
    next : (j : ℕ) → j < n → g (f (suc j)) ≡ take w (drop (p + w + w * j) file)
    next j l =
        let q : p + w * suc j ≡ p + w + w * j = omega (arith, mul-suc w j) in
        rw q at (h (suc j) (omega arith))
