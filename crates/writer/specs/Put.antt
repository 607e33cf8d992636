-- Bytes written into an output one after another, and tables of them.
use Rattle.std.specs.Prelude.{ℕ, suc, ◌+◌, ◌*◌, ◌≤◌, ◌<◌, ◌≡◌, length, get_or, set, take, drop}
use Rattle.std.proofs.Math.Path.{refl}
use Rattle.std.proofs.Common.{◌∙◌, arith, add-zero, add-suc, suc-add, zero-add, take_all, length-take-le, add-one}
use mathlib.Core.List.{List, [], ◌∷◌, ◌++◌, map, flat_map, append_assoc, append-nil}
use Rattle.std.proofs.lemmas.List.{length-map, drop-drop, take_more}
use borrow.Rule.Slice.PartMut.{put_mid}
use Rattle.std.proofs.lemmas.List.Edits.{sets, sets-eq}
use Rattle.std.proofs.Math.Seq.{length-sets}
use Rattle.rules.specs.Lists.{bytes_of}
use Rattle.rules.specs.Sets.{unchanging}
use Rattle.laws.specs.Lists.{get_d_map}
use Rattle.laws.specs.Bytes.{length-bytes, length-table}
use Rattle.laws.specs.Squeeze.{unchanging-at, unchanging-stands}

-- R52: the output with some bytes written from a place on.
unfoldable pub put_at : List ℕ → ℕ → List ℕ → List ℕ
put_at out at x = sets out at x

pub length-put : (out : List ℕ) (at : ℕ) (x : List ℕ) → length (put_at out at x) ≡ length out
unfolding put_at
length-put out at x = length-sets out at x

-- Bytes after bytes are bytes.
pub put-put : (out : List ℕ) (at : ℕ) (x y : List ℕ) → put_at (put_at out at x) (at + length x) y ≡ put_at out at (x ++ y)
unfolding put_at
put-put out at [] y = rw add-zero
put-put out at (b ∷ x) y = rw (add-suc, ← suc-add at (length x)) (put-put (set out at b) (suc at) x y)

-- Bytes from the start on are what the output begins with.
pub put_whole : (out x : List ℕ) → length x ≤ length out → put_at out 0 x ≡ x ++ drop (length x) out
unfolding put_at
put_whole out x h = rw zero-add at (sets-eq x out 0 (omega arith))

-- A part overwritten with as many bytes.
pub put_part : (out : List ℕ) (at n : ℕ) (x : List ℕ) → n ≡ length x → at + n ≤ length out → put_mid at n out x ≡ put_at out at x
unfolding put_at
put_part out at n x e h = rw (sets-eq x out at (omega arith), append_assoc, ← e, ← drop-drop n at out) refl

-- R42: a store and two numbers make a row.
pub put_five : {mid end : List ℕ} (out : List ℕ) (at k a b : ℕ) → mid ≡ put_at (set out at k) (at + 1) (bytes_of 2 a)
    → end ≡ put_at mid (at + 3) (bytes_of 2 b)
    → end ≡ put_at out at (k ∷ (bytes_of 2 a ++ bytes_of 2 b))
unfolding put_at bytes_of
put_five out at k a b e q =
    let p : at + 3 ≡ suc (suc (suc at)) = omega arith in
    q ∙ rw (e, add-one, p)

-- ---- tables

pub flat_map-append : {A : Type 0} (g : A → List ℕ) (xs ys : List A) → flat_map g (xs ++ ys) ≡ flat_map g xs ++ flat_map g ys
unfolding flat_map
flat_map-append g [] ys = refl
flat_map-append g (x ∷ xs) ys = rw (flat_map-append g xs ys, append_assoc)

pub flat_map-one : {A : Type 0} (g : A → List ℕ) (x : A) → flat_map g (x ∷ []) ≡ g x
unfolding flat_map
flat_map-one g x = append-nil (g x)

-- A table grows by what is written behind it.
pub put-more : {A : Type 0} (g : A → List ℕ) (w : ℕ) → ((x : A) → length (g x) ≡ w)
    → (out : List ℕ) (at : ℕ) (xs ys : List A) (p : ℕ)
    → p ≡ at + w * length xs
    → put_at (put_at out at (flat_map g xs)) p (flat_map g ys) ≡ put_at out at (flat_map g (xs ++ ys))
put-more g w same out at xs ys p e =
    let q : p ≡ at + length (flat_map g xs) = omega (arith, length-table g w same xs) in
    rw (q, flat_map-append g xs ys) (put-put out at (flat_map g xs) (flat_map g ys))

-- Words written one after another: none, and one more after the first i of xs.
pub words_none : (out : List ℕ) (at : ℕ) → put_at out at (flat_map (bytes_of 2) []) ≡ out
unfolding put_at flat_map
words_none out at = refl

words-next : (out : List ℕ) (at : ℕ) (xs : List ℕ) (i : ℕ) → i < length xs
    → put_at (put_at out at (flat_map (bytes_of 2) (take i xs))) (at + 2 * i) (bytes_of 2 (get_or xs i 0))
    ≡ put_at out at (flat_map (bytes_of 2) (take (i + 1) xs))
words-next out at xs i h =
    let place : at + 2 * i ≡ at + 2 * length (take i xs) = omega (arith, length-take-le i xs (omega arith)) in
    rw (take_more xs i 0 h, ← flat_map-one (bytes_of 2) (get_or xs i 0))
    (put-more (bytes_of 2) 2 (length-bytes 2) out at (take i xs) (get_or xs i 0 ∷ []) (at + 2 * i) place)

-- R32, R41: the heads of the set that changes nothing: head i is row 2 + i.
pub own_next : (out : List ℕ) (C i : ℕ) → i < C
    → put_at (put_at out 7 (flat_map (bytes_of 2) (take i (unchanging C)))) (7 + 2 * i) (bytes_of 2 (2 + i))
    ≡ put_at out 7 (flat_map (bytes_of 2) (take (i + 1) (unchanging C)))
own_next out C i h =
    let own : 2 + i ≡ get_or (unchanging C) i 0 = omega (arith, unchanging-at C (suc (suc i)) (omega arith)) in
    rw own (words-next out 7 (unchanging C) i (omega (arith, (unchanging-stands C).count)))

pub own_all : (C i : ℕ) → C ≤ i → take i (unchanging C) ≡ unchanging C
own_all C i h = take_all i (unchanging C) (omega (arith, (unchanging-stands C).count))

-- R36, R41: the heads of a set, renumbered.
abbrev pub new_heads : List ℕ → List ℕ → List ℕ
new_heads numbers heads = map (λ h. get_or numbers h 0) heads

pub heads_next : (out numbers heads : List ℕ) (i : ℕ) → i < length heads
    → put_at (put_at out 7 (flat_map (bytes_of 2) (take i (new_heads numbers heads)))) (7 + 2 * i)
    (bytes_of 2 (get_or numbers (get_or heads i 0) 0))
    ≡ put_at out 7 (flat_map (bytes_of 2) (take (i + 1) (new_heads numbers heads)))
heads_next out numbers heads i h =
    rw (← get_d_map (λ h. get_or numbers h 0) heads i 0 0 h)
    (words-next out 7 (new_heads numbers heads) i (omega (arith, length-map heads (λ h. get_or numbers h 0))))
