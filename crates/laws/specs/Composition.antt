-- Composition, of files: evaluating what was composed is evaluating the first file and then the second, and either grouping of three gives
-- equal values. The sets in the files do so by their rows' meaning, which needs no room; so `evaluate` of files does where there is room.
use Rattle.std.specs.Prelude.{ℕ, ◌≡◌, refl, Bool, true, false, eqb}
use Rattle.std.proofs.Math.Path.{sym, ap}
use Rattle.std.proofs.Common.{◌∙◌}
use mathlib.Core.List.{List, [], ◌∷◌, map}
use Rattle.std.proofs.Math.ListN.{length, length-map}
use Rattle.rules.specs.Verdict.{granted}
use Rattle.rules.specs.Edition.{Edition}
use Rattle.rules.specs.Shape.{cells}
use Rattle.rules.specs.SetFile.{TransferSet, read_set}
use Rattle.rules.specs.Operations.{storage_bytes, evaluate_set, set_of, compose_sets, evaluate, compose}
use Rattle.laws.specs.Verdict.{bind_granted}
use Rattle.laws.specs.Canonical.{Sensible}
use Rattle.laws.specs.SetFile.{read_proper}
use Rattle.laws.specs.Compose.{Whole, proper_whole, compose-value, compose_grouping}
use Rattle.laws.specs.ExactRows.{Both}
use Rattle.laws.specs.Files.{Composes, compose-accepted, evaluate-granted}

-- What a granted composition has read, and what it has written.
record Composed (e : Edition) (first second bytes : List ℕ) : Type 0 where
  one : TransferSet
  two : TransferSet
  read_one : read_set e first ≡ granted one
  read-two : read_set e second ≡ granted two
  made : Composes e one two bytes

compose-granted : (e : Edition) → Sensible e → (first second : List ℕ) (rows numbers out : ℕ) (bytes : List ℕ)
    → compose e first second rows numbers out ≡ granted bytes → Composed e first second bytes
unfolding compose
compose-granted e s first second rows numbers out bytes q =
    let (X, x, rest) = bind_granted (read_set e first) _ q in
    let (Y, y, _) = bind_granted (read_set e second) _ rest in
    record { one = X; two = Y; read_one = x; read-two = y; made = compose-accepted e s first second rows numbers out X Y bytes x y q }

-- Two sets that were read from one file are the same.
one_set : (e : Edition) (file : List ℕ) (X Y : TransferSet) → read_set e file ≡ granted X → read_set e file ≡ granted Y → X ≡ Y
one_set e file X Y x y = cc

-- ---- the rows' meaning

module _ (e : Edition) (s : Sensible e) where
  whole : (file : List ℕ) (X : TransferSet) → read_set e file ≡ granted X → Whole X
  whole file X r = proper_whole (read_proper e file X r)

  module _ (first second : List ℕ) (rows numbers out : ℕ) (file : List ℕ)
      (q : compose e first second rows numbers out ≡ granted file) where
    -- R40: both files are accepted, and so is what is written: it is the composition of the two sets, which have one shape.
    pub compose-granted_both : (b : Both e first second) × Composes e b.X b.Y file
    compose-granted_both =
        let c = compose-granted e s first second rows numbers out file q in
        (record { X = c.one; Y = c.two; read_first = c.read_one; read-second = c.read-two }, c.made)

    -- R40: the set in the file composed is the composition of the two sets, which have one shape.
    pub compose-is : (X Y Z : TransferSet) → read_set e first ≡ granted X → read_set e second ≡ granted Y → read_set e file ≡ granted Z
        → (X.shape ≡ Y.shape) × (Z ≡ compose_sets X Y)
    compose-is X Y Z x y z =
        let c = compose-accepted e s first second rows numbers out X Y file x y q in
        (c.shape, one_set e file Z (compose_sets X Y) z c.accepted)

    -- R40: on every storage, the set in the file composed gives what the first set and then the second give.
    pub compose-meaning : (X Y Z : TransferSet) → read_set e first ≡ granted X → read_set e second ≡ granted Y
        → read_set e file ≡ granted Z → (t : List Bool) → length t ≡ cells X.shape
        → evaluate_set Z t ≡ evaluate_set Y (evaluate_set X t)
    compose-meaning X Y Z x y z t long =
        let (shape, is) = compose-is X Y Z x y z in
        ap (λ a. evaluate_set a t) is ∙ compose-value X Y shape (whole first X x) (whole second Y y) t long

  -- R40: either grouping of three files means the same.
  pub grouping_meaning : (x y z xy yz left right : List ℕ) (a b c d f g h i j k l m : ℕ)
      → compose e x y a b c ≡ granted xy → compose e xy z d f g ≡ granted left
      → compose e y z h i j ≡ granted yz → compose e x yz k l m ≡ granted right
      → (L R : TransferSet) → read_set e left ≡ granted L → read_set e right ≡ granted R
      → (t : List Bool) → length t ≡ cells L.shape → evaluate_set L t ≡ evaluate_set R t
  unfolding set_of
  grouping_meaning x y z xy yz left right a b c d f g h i j k l m p q r u L R rl rr t long =
      let (A, made-xy) = compose-granted_both x y a b c xy p in
      let (B, made-yz) = compose-granted_both y z h i j yz r in
      let X = A.X in
      let Y = A.Y in
      let Z = B.Y in
      let same-Y : B.X ≡ Y = one_set e y B.X Y B.read_first A.read-second in
      let y-z : Y.shape ≡ Z.shape = ap (λ (v : TransferSet). v.shape) (sym same-Y) ∙ made-yz.shape in
      let (_, left_is) = compose-is xy z d f g left q (compose_sets X Y) Z L made-xy.accepted B.read-second rl in
      let (_, right_is) = compose-is x yz k l m right u X (compose_sets B.X Z) R A.read_first made-yz.accepted rr in
      ap (λ v. evaluate_set v t) left_is
      ∙ compose_grouping X Y Z made-xy.shape y-z (whole x X A.read_first) (whole y Y A.read-second)
      (whole z Z B.read-second) t (long ∙ ap (λ (v : TransferSet). cells v.shape) left_is)
      ∙ sym (ap (λ v. evaluate_set v t) (right_is ∙ ap (λ v. compose_sets X (compose_sets v Z)) same-Y))

-- ---- files, evaluated

-- A storage is read back from its bytes.
bits-read : (u : List Bool) → map (eqb 1) (storage_bytes u) ≡ u
bits-read [] = refl
bits-read (true ∷ u) = ap (λ l. true ∷ l) (bits-read u)
bits-read (false ∷ u) = ap (λ l. false ∷ l) (bits-read u)

module _ (e : Edition) (s : Sensible e) where
  -- R40: a composed file evaluates as the first and then the second.
  pub compose_files : (first second : List ℕ) (rows numbers out : ℕ) (bytes : List ℕ)
      → compose e first second rows numbers out ≡ granted bytes
      → (storage : List ℕ) (k l m : ℕ) (u v w : List Bool) → evaluate e first storage k ≡ granted u
      → evaluate e second (storage_bytes u) l ≡ granted v → evaluate e bytes storage m ≡ granted w → w ≡ v
  compose_files first second rows numbers out bytes q storage k l m u v w p r t =
      let x = evaluate-granted e first storage k u p in
      let y = evaluate-granted e second (storage_bytes u) l v r in
      let z = evaluate-granted e bytes storage m w t in
      let means = compose-meaning e s first second rows numbers out bytes q x.set y.set z.set x.read y.read z.read in
      z.is ∙ means (map (eqb 1) storage) (length-map storage (eqb 1) ∙ x.long)
      ∙ sym (y.is ∙ ap (evaluate_set y.set) (bits-read u ∙ x.is))

  -- R40: either grouping of three files gives equal values.
  pub compose_groupings : (x y z xy yz left right : List ℕ) (a b c d f g h i j k l m : ℕ)
      → compose e x y a b c ≡ granted xy → compose e xy z d f g ≡ granted left
      → compose e y z h i j ≡ granted yz → compose e x yz k l m ≡ granted right
      → (storage : List ℕ) (n o : ℕ) (v w : List Bool) → evaluate e left storage n ≡ granted v
      → evaluate e right storage o ≡ granted w
      → v ≡ w
  compose_groupings x y z xy yz left right a b c d f g h i j k l m p q r t storage n o v w ev ew =
      let L = evaluate-granted e left storage n v ev in
      let R = evaluate-granted e right storage o w ew in
      let means = grouping_meaning e s x y z xy yz left right a b c d f g h i j k l m p q r t L.set R.set L.read R.read in
      L.is ∙ means (map (eqb 1) storage) (length-map storage (eqb 1) ∙ L.long) ∙ sym R.is
