-- The heads of every T(l) in one slice: one slot put, and the later ones kept (R38).
use Rattle.std.specs.Prelude.{ℕ, suc, ◌+◌, ◌-◌, ◌*◌, ◌≤◌, ◌<◌, ◌≡◌, List, ◌++◌, length, take, drop}
use Rattle.std.proofs.Common.{sym, ap, ◌∙◌, arith, mul-le-mul_right, length-append, length-drop, length-take-le, drop-drop, take_at, drop_at}
use Rattle.turn.specs.Turning.{slot}

pub slot-inside : (l n C : ℕ) → l < n → l * C + C ≤ n * C
slot-inside l n C h =
    let a : suc l * C ≤ n * C = mul-le-mul_right C h in
    omega arith

-- As many heads as there are cells.
pub slot-length : (C : ℕ) (heads : List ℕ) (l : ℕ) → l * C + C ≤ length heads → length (slot C heads l) ≡ C
slot-length C heads l h = length-take-le C (drop (l * C) heads) (omega (arith, length-drop (l * C) heads))

-- The heads with ys from place a on.
abbrev pub put_at : ℕ → ℕ → List ℕ → List ℕ → List ℕ
put_at a k heads ys = take a heads ++ (ys ++ drop k (drop a heads))

module _ (C : ℕ) (heads : List ℕ) (i : ℕ) (ys : List ℕ) (size : length ys ≡ C) (inside : i * C + C ≤ length heads) where
  front : length (take (i * C) heads) ≡ i * C
  front = length-take-le (i * C) heads (omega arith)

  pub length-put : length (put_at (i * C) C heads ys) ≡ length heads
  length-put = omega (
    arith,
    front,
    size,
    length-append (take (i * C) heads) (ys ++ drop C (drop (i * C) heads)),
    length-append ys (drop C (drop (i * C) heads)),
    length-drop C (drop (i * C) heads),
    length-drop (i * C) heads,
  )

  -- The slot that was put.
  pub slot-put : slot C (put_at (i * C) C heads ys) i ≡ ys
  slot-put = ap (take C) (drop_at (take (i * C) heads) (ys ++ drop C (drop (i * C) heads)) (i * C) front)
      ∙ take_at ys (drop C (drop (i * C) heads)) C size

  -- Later ones are kept.
  past : drop (i * C + C) (put_at (i * C) C heads ys) ≡ drop (i * C + C) heads
  past = sym (drop-drop C (i * C) (put_at (i * C) C heads ys)) ∙ ap (drop C) (drop_at (take (i * C) heads) (ys ++ drop C (drop (i * C) heads)) (i * C) front)
      ∙ drop_at ys (drop C (drop (i * C) heads)) C size ∙ drop-drop C (i * C) heads

  pub slot_kept : (l : ℕ) → i < l → slot C (put_at (i * C) C heads ys) l ≡ slot C heads l
  slot_kept l h =
      let a : i * C + C ≤ l * C = slot-inside i l C h in
      let z : i * C + C + (l * C - (i * C + C)) ≡ l * C = omega arith in
      let cut : (xs : List ℕ) → drop (l * C) xs ≡ drop (l * C - (i * C + C)) (drop (i * C + C) xs)
      = λ xs. ap (λ k. drop k xs) (sym z) ∙ sym (drop-drop (l * C - (i * C + C)) (i * C + C) xs) in
      ap (take C) (cut (put_at (i * C) C heads ys) ∙ ap (drop (l * C - (i * C + C))) past ∙ sym (cut heads))

-- A slot from a on, as the code cuts it out by c cells.
module _ (C l a c : ℕ) (e : a ≡ l * c) (q : c ≡ C) where
  pub slot-fits : (m : ℕ) → l * C + C ≤ m → a + c ≤ m
  slot-fits m h =
      let z : a ≡ l * C = rw q at e in
      omega arith
