-- What each instruction gives the cells: the laws above the bytes and bits of Stores.
use Prim.Native.Nat.{ℕ, zero, suc, ◌+◌, ◌-◌, ◌≤◌, ◌<◌}
use Rattle.std.specs.Prelude.{◌≡◌, Bool, cond, set, drop, replicate}
use Rattle.std.proofs.Math.Path.{refl, ap, sym}
use Rattle.std.proofs.Common.{◌∙◌, length-append, length-take, length-drop, length-take-le, get_or-append-add, get_or-set_same, get_or-set_other, get_or-drop}
use Rattle.std.proofs.Math.Bool.{true, false}
use mathlib.Core.List.{List, [], ◌∷◌, ◌++◌, map}
use native.Mathlib.Omega.{arith}
use Rattle.std.proofs.Math.Decide.{dec_lt}
use Rattle.std.proofs.Math.ListN.{length, get_or, take, length-set, get_or-map, get_or-append}
use Rattle.std.proofs.lemmas.List.{length-map, length-replicate, get_or-replicate}
use Rattle.std.proofs.Math.Seq.{get_or-take, ext_get_or, get_or_at}
use Rattle.std.proofs.Math.Dec.{eqb}
use borrow.Author.Tests.{eqb-true, eqb-false, lt-ltb, le-ltb, eq-eqb, ne_eqb}
use Rattle.rules.specs.Lists.{from}
use Rattle.rules.specs.Shape.{Shape, flag, cells}
use Rattle.rules.specs.Expr.{Exp, con, eval}
use Rattle.rules.specs.Instr.{Plain, INIT, NOT, TAND, TOR, PUSH, POP, DROP, DUP, FSWP, ESWP}
use Rattle.rules.specs.Instr.{LOAD, AND, OR, EPUSH, STORE, SET, RES, REDGE, FEDGE}
use Rattle.rules.specs.Instr.{put, keep, stack, e, pushed, popped, effect, effects}
use Rattle.rules.specs.Machine.{perform}
use Rattle.rules.specs.Operations.{bit, storage_bytes}
use Rattle.laws.specs.Lists.{length_from, get_or-map-from}
use Rattle.storage.specs.Moves.{get_d_tail, set_front}
use Rattle.storage.specs.Cells.{bits_of, byte_of, Storage, push_on, drop_top, reset_from, stored}
use Rattle.storage.specs.Stores.{cell-byte, bit_not, bit_and, bit_or}

-- ---- what a list of expressions gives the cells

-- Where a list ends that begins with the first n of another.
module _ {A : Type 0} (n : ℕ) (s t : List A) (d : A) (h : n ≤ length s) where
  get_d_front : (k : ℕ) → k < n → get_or (take n s ++ t) k d ≡ get_or s k d
  get_d_front k p =
      let q : k < length (take n s) = omega (arith, length-take-le n s h) in
      rw (get_or-append, get_or-take)

  get_or-back : (k : ℕ) → get_or (take n s ++ t) (n + k) d ≡ get_or t k d
  get_or-back k = rw (length-take-le n s h) at (get_or-append-add (take n s) t k d)

module _ (sh : Shape) (s : List ℕ) (w : Storage sh s) (deep : 1 ≤ sh.depth) where
  -- The bytes t are what the expressions g give the cells of s.
  record Gives (g : ℕ → Exp) (t : List ℕ) : Type 0 where
    size : length t ≡ cells sh
    each : (c : ℕ) → c < cells sh → byte_of s (g c) ≡ get_or t c 0

  byte : (c : ℕ) → bit (get_or (bits_of s) c false) ≡ get_or s c 0
  byte = cell-byte s w.bits

  gives_all : (g : ℕ → Exp) (t : List ℕ) → Gives g t → storage_bytes (map (eval (bits_of s)) (map g (from 0 (cells sh)))) ≡ t
  unfolding eval
  gives_all g t v =
      let given = map g (from 0 (cells sh)) in
      ext_get_or 0 _ t (simp (length-map, length_from) (sym v.size)) λ c h.
      let i : c < cells sh = simp (length-map, length_from) at h in
      let x = get_or-map bit (map (eval (bits_of s)) given) c false in
      let y = get_or-map (eval (bits_of s)) given c (con false) in
      cc (x, y, get_or-map-from g (con false) (cells sh) c i, v.each c i)

  gives-keep : Gives keep s
  unfolding eval
  gives-keep = record { size = w.size; each = λ c h. byte c }

  gives-put : (b : ℕ) (x : Exp) (n : ℕ) (g : ℕ → Exp) (t : List ℕ) → byte_of s x ≡ n → Gives g t → Gives (put b x g) (set t b n)
  unfolding put
  gives-put b x n g t r v = record { size = length-set t b n ∙ v.size; each = λ c h. go c h (eqb c b) refl }
    where
      go : (c : ℕ) → c < cells sh → (q : Bool) → eqb c b ≡ q → byte_of s (cond q x (g c)) ≡ get_or (set t b n) c 0
      go c h true q = rw (eqb-true c b q) (r ∙ sym (get_or-set_same t b n 0 (omega (arith, v.size, eqb-true c b q))))
      go c h false q = v.each c h ∙ sym (get_or-set_other t b c n 0 (eqb-false c b q))

  -- The expressions of e_1, e_2, .. give the bytes t of the stack.
  gives-stack : (g : ℕ → Exp) (t : List ℕ) → length t ≡ sh.depth
      → ((k : ℕ) → k < sh.depth → byte_of s (g (suc k)) ≡ get_or t k 0)
      → Gives (stack sh g) (take (flag sh + 1) s ++ t)
  unfolding stack eval
  gives-stack g t l v =
      record {
        size = simp (length-append, length-take) (omega (arith, w.size));
        each = λ c h. elim (dec_lt (flag sh) c) [
          | yes p ↦
              let k = c - flag sh - 1 in
              let i : c - flag sh ≡ suc k = omega arith in
              let j : c ≡ flag sh + 1 + k = omega arith in
              let back = get_or-back (flag sh + 1) s t 0 (omega (arith, w.size)) k in
              rw (lt-ltb (flag sh) c p, i) (v k (omega arith) ∙ sym back ∙ ap (λ n. get_or (take (flag sh + 1) s ++ t) n 0) (sym j))
          | no p ↦
              let front = get_d_front (flag sh + 1) s t 0 (omega (arith, w.size)) c (omega arith) in
              rw (le-ltb (flag sh) c (omega arith), front) (byte c)
        ];
      }

  gives-pushed : (x : Exp) (n : ℕ) → byte_of s x ≡ n → Gives (pushed sh x) (push_on (flag sh) n s)
  unfolding pushed eval
  gives-pushed x n r = gives-stack _ _ (simp (length-take, length-drop) (omega (arith, w.size))) each
    where
      each : (k : ℕ) → k < sh.depth
          → byte_of s (cond (eqb (suc k) 1) x (e sh (suc k - 1)))
          ≡ get_or (n ∷ take (length s - flag sh - 2) (drop (flag sh + 1) s)) k 0
      each zero h = r
      each (suc k) h =
          let i : k < length s - flag sh - 2 = omega (arith, w.size) in
          let j : flag sh + (suc (suc k) - 1) ≡ flag sh + 1 + k = omega arith in
          rw (ne_eqb (suc (suc k)) 1 (omega arith), j, get_or-take, get_or-drop) (byte (flag sh + 1 + k))

  gives-popped : Gives (popped sh) (drop_top (flag sh) s)
  unfolding popped eval
  gives-popped =
      gives-stack _ _ (simp (length-append, length-drop) (omega (arith, w.size))) λ k h. elim (dec_lt (suc k) sh.depth) [
        | yes p ↦
            let j : flag sh + suc (suc k) ≡ flag sh + 2 + k = omega arith in
            let tail = get_d_tail (flag sh + 2) s (0 ∷ []) k (omega (arith, w.size)) in
            rw (ne_eqb (suc k) sh.depth (omega arith), tail, j) (byte (flag sh + 2 + k))
        | no p ↦
            let last = get_or_at (drop (flag sh + 2) s) 0 [] 0 k (length-drop (flag sh + 2) s ∙ omega (arith, w.size)) in
            rw (eq-eqb (suc k) sh.depth (omega arith), last)
      ]

  gives_reset : Gives (effect sh INIT) (reset_from (flag sh) s)
  unfolding effect eval
  gives_reset =
      let zeros = gives-stack (λ k. con false) (replicate sh.depth 0) (length-replicate sh.depth 0)
      (λ k h. sym (get_or-replicate sh.depth k 0 0 h)) in
      let i : flag sh < length s = omega (arith, w.size) in
      let j : length s - flag sh - 1 ≡ sh.depth = omega (arith, w.size) in
      let all = gives-put (flag sh) (con true) 1 _ _ refl zeros in
      rw j (rw set_front at all)

  -- One cell, and two.
  one : (b : ℕ) (x : Exp) (n : ℕ) → byte_of s x ≡ n → Gives (put b x keep) (set s b n)
  one b x n q = gives-put b x n keep s q gives-keep

  two : (c d : ℕ) (x y : Exp) (m n : ℕ) → byte_of s x ≡ m → byte_of s y ≡ n
      → Gives (put c x (put d y keep)) (set (set s d n) c m)
  two c d x y m n p q = gives-put c x m _ _ p (one d y n q)

  gives-stored : (p : Plain) → Gives (effect sh p) (stored sh s p)
  unfolding effect stored eval
  gives-stored INIT = gives_reset
  gives-stored (LOAD x) = one _ _ _ refl
  gives-stored (AND x) = one _ _ _ (simp (bit_and, byte))
  gives-stored (OR x) = one _ _ _ (simp (bit_or, byte))
  gives-stored NOT = one _ _ _ (simp (bit_not, byte))
  gives-stored TAND = one _ _ _ (simp (bit_and, byte))
  gives-stored TOR = one _ _ _ (simp (bit_or, byte))
  gives-stored (STORE b) = one _ _ _ (byte _)
  gives-stored (SET b) = one _ _ _ (simp (bit_or, byte))
  gives-stored (RES b) = one _ _ _ (simp (bit_and, bit_not, byte))
  gives-stored (REDGE b) = two _ _ _ _ _ _ (simp (bit_and, bit_not, byte)) (byte _)
  gives-stored (FEDGE b) = two _ _ _ _ _ _ (simp (bit_and, bit_not, byte)) (byte _)
  gives-stored PUSH = gives-pushed _ _ (byte _)
  gives-stored (EPUSH x) = gives-pushed _ _ refl
  gives-stored POP = gives-put _ _ _ _ _ (byte _) gives-popped
  gives-stored DROP = gives-popped
  gives-stored DUP = gives-pushed _ _ (byte _)
  gives-stored FSWP = two _ _ _ _ _ _ (byte _) (byte _)
  gives-stored ESWP = two _ _ _ _ _ _ (byte _) (byte _)

  -- R16 to R19: an instruction leaves the bytes of the table.
  pub perform-stored : (p : Plain) → storage_bytes (perform sh p (bits_of s)) ≡ stored sh s p
  unfolding perform effects
  perform-stored p = gives_all (effect sh p) (stored sh s p) (gives-stored p)
