-- A loop that replaces the end of a list from some place on, one store a turn.
use Rattle.std.specs.Prelude.{ℕ, suc, ◌+◌, ◌-◌, ◌≤◌, ◌<◌, ◌≡◌, List, [], ◌∷◌, ◌++◌, length, get_or, set, take, drop}
use Rattle.std.proofs.Common.{ap, ◌∙◌, append-nil, append_assoc, arith, add-one, length-set, length-drop}
use Rattle.std.proofs.Common.{get_or-set_other, get_or-drop, take_all, take-suc, length-take-le}
use Rattle.std.proofs.lemmas.List.{set_at}
use Rattle.std.proofs.Math.ListN.{get_or-append}
use Rattle.std.proofs.Math.Seq.{paste, paste-suc, drop-length}

-- After the turns for the places from `at` up to i, s is d with the first elements of q there.
pub record Replacing (d : List ℕ) (at : ℕ) (q s : List ℕ) (i : ℕ) : Type 0 where
  pub low : at ≤ i
  pub high : i ≤ length d
  pub size : length s ≡ length d
  pub is : s ≡ paste d at q (i - at)
  pub later : (k : ℕ) → i ≤ k → get_or s k 0 ≡ get_or d k 0

module _ {d : List ℕ} {at : ℕ} {q : List ℕ} where
  pub replacing_more : {s : List ℕ} {i v : ℕ} → Replacing d at q s i → i < length d → length d ≤ at + length q
      → v ≡ get_or q (i - at) 0 → Replacing d at q (set s i v) (i + 1)
  replacing_more {s} {i} {v} r h l e =
      let j = i - at in
      let a : i ≡ at + j = omega arith in
      let b : i + 1 - at ≡ suc j = omega arith in
      let more = paste-suc d at q j 0 (omega arith) (omega arith) in
      record {
        low = omega arith;
        high = omega arith;
        size = length-set s i v ∙ r.size;
        is = cc more;
        later = λ k p. get_or-set_other s i k v 0 (omega arith) ∙ r.later k (omega arith);
      }

  pub replacing_all : {s : List ℕ} {i : ℕ} → Replacing d at q s i → length d ≤ i → s ≡ take at d ++ take (length d - at) q
  replacing_all {i = i} r h =
      let a : i ≡ length d = omega arith in
      let b : at + (length d - at) ≡ length d = omega arith in
      let none : drop (length d) d ≡ [] = drop-length d in
      r.is ∙ rw (a, b, none) (append-nil (take at d ++ take (length d - at) q))

  pub replacing_whole : {s : List ℕ} {i : ℕ} → Replacing d at q s i → length d ≤ i → length q ≤ length d - at → s ≡ take at d ++ q
  replacing_whole r h l = replacing_all r h ∙ ap (λ m. take at d ++ m) (take_all (length d - at) q l)

-- An element of a list that begins with the end of another.
pub get_d_tail : (n : ℕ) (d t : List ℕ) (i : ℕ) → n + i < length d → get_or (drop n d ++ t) i 0 ≡ get_or d (n + i) 0
get_d_tail n d t i h =
    let p : i < length (drop n d) = omega (arith, length-drop n d) in
    rw (get_or-append, get_or-drop)

-- A store to the last element before the end that was replaced.
pub set_front : (d : List ℕ) (i v : ℕ) (q : List ℕ) → i < length d → set (take (i + 1) d ++ q) i v ≡ take i d ++ (v ∷ q)
set_front d i v q h =
    let z : length (take i d) ≡ i = length-take-le i d (omega arith) in
    rw (add-one, take-suc d i 0, append_assoc, set_at)
