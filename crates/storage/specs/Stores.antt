-- What each instruction does to the bytes of a storage: a store or two, or a move of the stack.
use Prim.Native.Nat.{ℕ, zero, suc, ◌-◌, ◌≤◌, min, max}
use Rattle.std.specs.Prelude.{◌≡◌, Bool, not, ◌&&◌, ◌||◌}
use Rattle.std.proofs.Math.Path.{refl, ap}
use Rattle.std.proofs.Common.{ap₂}
use Rattle.std.proofs.Math.Bool.{true, false}
use mathlib.Core.List.{List, [], ◌∷◌}
use native.Mathlib.Omega.{arith}
use Rattle.std.proofs.Math.ListN.{get_or, get_or-map}
use Rattle.std.proofs.lemmas.List.{length-map}
use Rattle.std.proofs.Math.Dec.{eqb}
use Rattle.rules.specs.Shape.{Shape}
use Rattle.rules.specs.Instr.{Plain}
use Rattle.rules.specs.Instr.{effects}
use Rattle.rules.specs.Machine.{perform}
use Rattle.rules.specs.Operations.{bit, storage_bytes}
use Rattle.laws.specs.Lists.{length_from}
use Rattle.storage.specs.Cells.{bits_of, Bits, Storage}

-- ---- bytes and bits

pub bit_eqb : (n : ℕ) → n ≤ 1 → bit (eqb 1 n) ≡ n
bit_eqb zero h = refl
bit_eqb (suc zero) h = refl
bit_eqb (suc (suc n)) h = absurd (omega arith)

-- The bit of a cell, and its byte.
pub get_d_bits : (s : List ℕ) (c : ℕ) → get_or (bits_of s) c false ≡ eqb 1 (get_or s c 0)
get_d_bits s c = get_or-map (eqb 1) s c 0

pub cell-byte : (s : List ℕ) → Bits s → (c : ℕ) → bit (get_or (bits_of s) c false) ≡ get_or s c 0
cell-byte s h c = rw get_d_bits (bit_eqb (get_or s c 0) (h c))

-- R3: bytes of 0 and 1 are the bytes of their bits.
pub bytes_back : (s : List ℕ) → Bits s → storage_bytes (bits_of s) ≡ s
bytes_back [] h = refl
bytes_back (x ∷ s) h = ap₂ {C = List ℕ} ◌∷◌ (bit_eqb x (h 0)) (bytes_back s (λ c. h (suc c)))

-- R3: bits are the bits of their bytes, which are 0 and 1.
pub bits_back : (b : List Bool) → bits_of (storage_bytes b) ≡ b
bits_back [] = refl
bits_back (true ∷ b) = ap {B = List Bool} (λ l. true ∷ l) (bits_back b)
bits_back (false ∷ b) = ap {B = List Bool} (λ l. false ∷ l) (bits_back b)

pub bytes_bits : (b : List Bool) → Bits (storage_bytes b)
bytes_bits [] c = omega arith
bytes_bits (true ∷ b) zero = omega arith
bytes_bits (false ∷ b) zero = omega arith
bytes_bits (x ∷ b) (suc c) = bytes_bits b c

-- R11: the operations on bits as bytes.
pub bit_not : (a : Bool) → bit (not a) ≡ 1 - bit a
bit_not true = refl
bit_not false = refl

pub bit_and : (a b : Bool) → bit (a && b) ≡ min (bit a) (bit b)
bit_and true true = refl
bit_and true false = refl
bit_and false true = refl
bit_and false false = refl

pub bit_or : (a b : Bool) → bit (a || b) ≡ max (bit a) (bit b)
bit_or true true = refl
bit_or true false = refl
bit_or false true = refl
bit_or false false = refl

-- R16: the storage after an instruction is one of the same shape.
pub performed_storage : (sh : Shape) (p : Plain) (b : List Bool) → Storage sh (storage_bytes (perform sh p b))
unfolding perform effects
performed_storage sh p b =
    record {
      size = simp (length-map, length_from);
      bits = bytes_bits (perform sh p b);
    }
