-- Tables only grow, one row at a time, so an append finds no row left exactly where the finished table is longer than the room.
use Rattle.std.specs.Prelude.{ℕ, suc, ◌≤◌, ◌<◌, ◌≡◌, List, [], ◌∷◌, ◌↔◌, length}
use Rattle.std.proofs.Common.{ap, arith, length-append}
use Rattle.std.proofs.Math.Decide.{dec_lt}
use Rattle.rules.specs.Shape.{Shape, cells}
use Rattle.rules.specs.Instr.{Instr}
use Rattle.rules.specs.ProgramFile.{Program}
use Rattle.rules.specs.Rows.{Row, base, Plan, have, make, plan, insert, settle, add}
use Rattle.rules.specs.Build.{set_at, turn, turns, transfer}
use Rattle.rules.specs.SetFile.{TransferSet, leaves}
use Rattle.rules.specs.Operations.{composed}
use Rattle.laws.specs.Rows.{Inserts, stood, fresh, inserts, length-base}
use Rattle.laws.specs.Grow.{ext_length, Grown, bare, plus, grown_trans, grown_ext}
use Rattle.laws.specs.After.{after-grown}
use Rattle.laws.specs.Build.{turn_heads-grown}

-- ---- every stage of building is additions to the one before

pub turn-grown : (sh : Shape) (i : ℕ) (x : Instr) (xs : List Instr)
    → Grown (turns sh (suc i) xs).tab (turns sh i (x ∷ xs)).tab
unfolding turns turn
turn-grown sh i x xs =
    let b = turns sh (suc i) xs in
    turn_heads-grown sh i x b.tab (set_at b (suc i))

pub turns-grown : (sh : Shape) (i : ℕ) (xs : List Instr) → Grown (base (cells sh)) (turns sh i xs).tab
unfolding turns
turns-grown sh i [] = bare (base (cells sh))
turns-grown sh i (x ∷ xs) = grown_trans (turns-grown sh (suc i) xs) (turn-grown sh i x xs)

-- A program's table is additions to the bare one, and a composed table additions to that of the first set.
pub transfer-grown : (P : Program) → Grown (base (cells P.shape)) (transfer P).tab
unfolding transfer
transfer-grown P = turns-grown P.shape 0 P.instrs

pub composed-grown : (X Y : TransferSet) → Grown X.tab (composed X Y).tab
composed-grown X Y = after-grown X.tab X.heads Y.tab Y.heads

-- ---- an append that finds no row left

-- Among the additions from t to u there is one that appends a row to a table of n rows.
pub record Met (n : ℕ) (t u : List Row) : Type 0 where
  pub full : List Row
  pub row : Row
  pub from_start : Grown t full
  pub holds : length full ≡ n
  pub appends : length (add full row).tab ≡ suc n
  pub to_end : Grown (add full row).tab u

-- One addition appends at most one row.
pub add-one-row : (t : List Row) (r : Row) → length (add t r).tab ≤ suc (length t)
add-one-row t r = go (plan t r)
  where
    inserted : (q : Row) → Inserts t q → length (insert t q) ≤ suc (length t)
    inserted q (stood a b c) = omega (arith, ap length a)
    inserted q (fresh a b c) = omega (arith, ap length a, length-append t (q ∷ []))

    go : (p : Plan) → length (settle t p).tab ≤ suc (length t)
    go (have i) = omega arith
    go (make q) = inserted q (inserts t q)

-- The finished table is longer than the room exactly where an append met a table that held as many rows as there is room.
pub room_met : {t u : List Row} (n : ℕ) → Grown t u → length t ≤ n → n < length u → Met n t u
room_met n (bare t) h g = absurd (omega arith)
room_met n (plus {u = u} p r) h g = elim (dec_lt n (length u)) [
  | yes l ↦ (let m = room_met n p h l in record {
    full = m.full;
    row = m.row;
    from_start = m.from_start;
    holds = m.holds;
    appends = m.appends;
    to_end = plus m.to_end r;
  })
  | no l ↦ (let z : length u ≡ n = omega
      (arith, add-one-row u r) in record {
        full = u;
        row = r;
        from_start = p;
        holds = z;
        appends = omega (arith, add-one-row u r);
        to_end = bare (add u r).tab;
      })
]

pub met_room : {t u : List Row} (n : ℕ) → Met n t u → n < length u
met_room n m = omega (arith, m.appends, ext_length (grown_ext m.to_end))

-- So building and composing meet a full table exactly where the finished one is longer than the room.
pub build-room : (P : Program) (n : ℕ) → leaves P.shape ≤ n
    → (n < length (transfer P).tab) ↔ Met n (base (cells P.shape)) (transfer P).tab
build-room P n h = (room_met n (transfer-grown P) (omega (arith, length-base (cells P.shape))), met_room n)

pub compose-room : (X Y : TransferSet) (n : ℕ) → length X.tab ≤ n
    → (n < length (composed X Y).tab) ↔ Met n X.tab (composed X Y).tab
compose-room X Y n h = (room_met n (composed-grown X Y) h, met_room n)
