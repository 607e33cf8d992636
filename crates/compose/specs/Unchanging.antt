-- The laws of the unchanging set, of what the code leaves: composed with it, on either side, a file comes out as it went in.
use Rattle.std.specs.Prelude.{ℕ, ◌≡◌, Ok, List, length, take, ltb}
use Rattle.rules.specs.Verdict.{granted}
use Rattle.rules.specs.Edition.{old}
use Rattle.rules.specs.Shape.{Shape, check_shape}
use Rattle.rules.specs.SetFile.{TransferSet, write_set, read_set}
use Rattle.rules.specs.Operations.{unchanging_set, write_into, write_unchanging, compose}
use Rattle.laws.specs.Verdict.{bind_granted, check_granted}
use Rattle.laws.specs.Bytes.{Bytes}
use Rattle.laws.specs.Files.{old_sensible, unchanging-first, unchanging-second}
use Rattle.writer.specs.Writes.{Writes, writes_front}
use Rattle.compose.specs.Contract.{answer, Composes}

-- R59: what composing leaves at the front of the output is the file that the rules compose.
pub composed-front : (first second : List ℕ) (rows numbers n : ℕ) (before after : List ℕ)
    → Composes first second rows numbers (Ok n) before after
    → compose old first second rows numbers (length before) ≡ granted (take n after)
composed-front first second rows numbers n before after c =
    writes_front (answer first second rows numbers before) n before after (record { answer = c.answers; output = c.output })

-- R58: what writing the unchanging set leaves there is its file.
still-front : (sh : Shape) (n : ℕ) (before after : List ℕ)
    → Writes (write_unchanging old sh (length before)) (Ok n) before after
    → take n after ≡ write_set old (unchanging_set sh)
unfolding write_unchanging write_into
still-front sh n before after w =
    let v = writes_front (write_unchanging old sh (length before)) n before after w in
    let (_, _, rest) = bind_granted (check_shape old sh) _ v in
    let (_, is) = check_granted (ltb (length before) (length (write_set old (unchanging_set sh)))) 10 _
    (λ _. granted (write_set old (unchanging_set sh))) rest in
    cc

-- R32, R40: a file that is accepted as a set of the shape sh, and the unchanging set of sh as it was written.
module _ (file : List ℕ) (b : Bytes file) (z : TransferSet) (r : read_set old file ≡ granted z) (n : ℕ) (blank still : List ℕ)
    (w : Writes (write_unchanging old z.shape (length blank)) (Ok n) blank still) where
  -- Composed after the unchanging set it gives back its bytes.
  pub still-first : (rows numbers k : ℕ) (before after : List ℕ) → Composes (take n still) file rows numbers (Ok k) before after
      → take k after ≡ file
  still-first rows numbers k before after c =
      let front = rw (still-front z.shape n blank still w) at
      (composed-front (take n still) file rows numbers k before after c) in
      unchanging-first old old_sensible file b z r rows numbers (length before) (take k after) front

  -- Composed before it, too.
  pub still-second : (rows numbers k : ℕ) (before after : List ℕ)
      → Composes file (take n still) rows numbers (Ok k) before after
      → take k after ≡ file
  still-second rows numbers k before after c =
      let front = rw (still-front z.shape n blank still w) at
      (composed-front file (take n still) rows numbers k before after c) in
      unchanging-second old old_sensible file b z r rows numbers (length before) (take k after) front
