-- What carrying rows to their own table has to know and leaves, after so many rows.
use Rattle.std.specs.Prelude.{ℕ, ◌+◌, ◌≤◌, ◌<◌, ◌≡◌, not, List, length, get_or, eqb}
use Rattle.rules.specs.Rows.{Row, leaf, inv, bin, add}
use Rattle.rules.specs.Sets.{Carried, reaches, carry_one, carry}
use Rattle.laws.specs.Canonical.{Canonical}
use Rattle.laws.specs.After.{Stands, over}
use Rattle.base.specs.Answers.{Answer}
use Rattle.base.specs.declared.kinds.Row as K
use Rattle.table.specs.declared.LentTable.{LentTable}
use Rattle.rows.specs.Table.{Stored, Ends, Addable, Gives}

-- R31: two sets of so many cells over one table; the first has the heads x.
pub record Both (x : List ℕ) : Type 0 where
  pub width : ℕ
  pub tab : List Row
  pub second : List ℕ
  pub one : Stands width (over tab x)
  pub two : Stands width (over tab second)

-- R34: those of the first k rows that the second set reaches, carried to the table.
abbrev pub carried : {x : List ℕ} → Both x → ℕ → Carried
carried {x} b k = carry add b.tab x b.tab b.second k

-- R34: after k rows what the rules have carried is stored. The first k numbers are theirs; the later ones are still marks.
pub record Carrying {x : List ℕ} (b : Both x) (s : LentTable) (numbers : List ℕ) (k : ℕ) : Type 0 where
  pub low : k ≤ length b.tab
  pub long : length b.tab ≤ length numbers
  pub stored : Stored s (carried b k).tab
  pub noted : (i : ℕ) → i < k → get_or numbers i 0 ≡ get_or (carried b k).new i 0
  pub marked : (i : ℕ) → k ≤ i → i < length b.tab → eqb (get_or numbers i 0) 0 ≡ not (reaches b.tab b.second i)

-- R34: a row that can be carried: a leaf that has a head, or an operation that can be added when its operands are renumbered.
abbrev pub Fits : List ℕ → LentTable → List ℕ → Row → Type 0
Fits x s numbers (leaf i) = i < 2 + length x
Fits x s numbers (inv a) = (a < length numbers) × Addable s (inv (get_or numbers a 0))
Fits x s numbers (bin o a b) = (a < length numbers) × (b < length numbers)
    × Addable s (bin o (get_or numbers a 0) (get_or numbers b 0))

-- R34: carrying a row r by those numbers, from any table that is stored.
abbrev pub Puts : List ℕ → LentTable → List ℕ → Row → Answer K.Row → LentTable → Type 0
Puts x s numbers r v s' = (C : ℕ) (t : List Row) → Canonical C t → Stored s t
    → Gives s v s' (carry_one add x (record { tab = t; new = numbers }) r)

-- R34: row k of some two sets is the next one to carry.
pub record Turn (x : List ℕ) (s : LentTable) (numbers : List ℕ) (k : ℕ) : Type 0 where
  pub both : Both x
  pub state : Carrying both s numbers k
  pub more : k < length both.tab

-- R34: row k of any such two sets has been carried.
abbrev pub Turns : List ℕ → LentTable → List ℕ → ℕ → Answer (Unit {0}) → LentTable → List ℕ → Type 0
Turns x s numbers k r s' numbers' = (w : Turn x s numbers k)
    → Ends s r (carried w.both (k + 1)).tab (λ _. Carrying w.both s' numbers' (k + 1))

-- R34: the rows of some two sets are marked, and none is carried.
pub record Start (x : List ℕ) (s : LentTable) (numbers : List ℕ) : Type 0 where
  pub both : Both x
  pub state : Carrying both s numbers 0

-- R34: all rows of any two sets that were marked have been carried.
abbrev pub Carries : List ℕ → LentTable → List ℕ → Answer (Unit {0}) → LentTable → List ℕ → Type 0
Carries x s numbers r s' numbers' = (w : Start x s numbers)
    → Ends s r (carried w.both s.state.used).tab (λ _. Carrying w.both s' numbers' s.state.used)

-- Heads that have numbers, and as many places for these.
pub record Moving (numbers y : List ℕ) (places : ℕ) : Type 0 where
  pub known : (c : ℕ) → get_or y c 0 < length numbers
  pub count : places ≡ length y
