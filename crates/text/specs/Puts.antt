-- A text that is put into an output, word after word.
use Rattle.std.specs.Prelude.{ℕ, ◌+◌, ◌≤◌, ◌≡◌, List, ◌++◌, length}
use Rattle.std.proofs.Math.Path.{refl}
use Rattle.std.proofs.Common.{add_assoc, length-append}
use Rattle.writer.specs.Put.{put_at, put-put, length-put}
use Rattle.text.specs.declared.word.Text.{Text}

-- R61: the place after what is put, and the size of the output.
unfoldable pub place : Text → ℕ
place t = t.at

unfoldable pub size : Text → ℕ
size t = length t.out.now

-- R61: there is room for a word. Each call needs its own, so no invariant of a `Text` says it.
abbrev pub Fits : List ℕ → Text → Type 0
Fits x t = place t + length x ≤ size t

-- R61: the text once a word is put behind it.
unfoldable pub with_word : Text → List ℕ → Text
with_word t x = record t { out = record t.out { now = put_at t.out.now t.at x }; at = t.at + length x }

-- Where it ends, in the same output.
pub place_after : (t : Text) (x : List ℕ) → place (with_word t x) ≡ place t + length x
unfolding with_word place
place_after t x = refl

pub size_after : (t : Text) (x : List ℕ) → size (with_word t x) ≡ size t
unfolding with_word size
size_after t x = length-put t.out.now t.at x

-- A word and one after it are one word.
pub word_after : (t : Text) (x y : List ℕ) → with_word (with_word t x) y ≡ with_word t (x ++ y)
unfolding with_word
word_after t x y = rw (put-put t.out.now t.at x y, length-append x y, add_assoc t.at (length x) (length y)) refl

-- A word that has room ends within the output.
pub ends : (t u : Text) (x : List ℕ) → u ≡ with_word t x → Fits x t → place u ≤ size u
ends t u x e f = rw (e, place_after t x, size_after t x) f

-- What the proofs of lines use: each place follows from the one before, and words make a line.
pub ruleset words = (place_after, size_after, word_after, length-append)
