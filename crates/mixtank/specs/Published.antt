-- The published formulas of the mix tank, on the bytes of a storage (R2, R3).
use Rattle.std.specs.Prelude.{ℕ, ◌-◌, min, max, ◌≡◌, refl, List, get_or, set}
use Rattle.storage.specs.Cells.{reset_from}
use Rattle.mixtank.specs.declared.published.Tank.{Tank}

-- The operations on bits that are bytes.
infixl 40 ◌and◌
infixl 30 ◌or◌
abbrev pub not : ℕ → ℕ
not x = 1 - x

abbrev pub ◌and◌ : ℕ → ℕ → ℕ
x and y = min x y

abbrev pub ◌or◌ : ℕ → ℕ → ℕ
x or y = max x y

-- R2: the variables of a storage, by their numbers.
abbrev pub tank_of : List ℕ → Tank
tank_of s = record {
  clr = get_or s 0 0;
  dn = get_or s 1 0;
  dne = get_or s 2 0;
  swrspd = get_or s 3 0;
  up = get_or s 4 0;
  upe = get_or s 5 0;
  pmpspd = get_or s 6 0;
  pmp = get_or s 7 0;
  swr = get_or s 8 0;
  erru = get_or s 9 0;
  errd = get_or s 10 0;
  eu1 = get_or s 11 0;
  clredge = get_or s 12 0;
}

-- The formulas, as they stand on page 114. That of eu1 is clr.
abbrev pub new_pmp : Tank → ℕ
new_pmp t = (not t.up and not t.upe) and ((not t.swrspd and (t.dn or t.dne)) or t.pmp)

abbrev pub new_swr : Tank → ℕ
new_swr t = (not t.dn and not t.dne) and (not t.pmpspd or t.swr)

abbrev pub new_clredge : Tank → ℕ
new_clredge t = t.clr and not t.eu1

abbrev pub new_erru : Tank → ℕ
new_erru t = not (t.clr and not t.eu1) and (t.upe or t.erru)

abbrev pub new_errd : Tank → ℕ
new_errd t = not (t.clr and not t.eu1) and (t.dne or t.errd)

-- The outputs and the memory bits get what their formulas say.
abbrev pub outputs_put : Tank → List ℕ → List ℕ
outputs_put t s = set (set (set (set s 7 (new_pmp t)) 8 (new_swr t)) 9 (new_erru t)) 10 (new_errd t)

abbrev pub memory_put : Tank → List ℕ → List ℕ
memory_put t s = set (set s 11 t.clr) 12 (new_clredge t)

-- The whole storage after: each formula is worked out on the storage before, and flag and stack, from cell 13 on, are as END leaves them (R20).
abbrev pub published : List ℕ → List ℕ
published s = reset_from 13 (memory_put (tank_of s) (outputs_put (tank_of s) s))

-- The steps that the code takes, one after the other, give the whole.
pub published-steps : (t : Tank) (s s1 s2 s3 s4 : List ℕ)
    → t ≡ tank_of s → s1 ≡ s → s2 ≡ outputs_put t s1 → s3 ≡ memory_put t s2 → s4 ≡ reset_from 13 s3 → s4 ≡ published s
published-steps t s s1 s2 s3 s4 taken copied outputs memory ends = rw (ends, memory, outputs, copied, taken) refl
