-- The text that is printed of a set and of a refusal, as bytes.
use Rattle.std.specs.Prelude.{ℕ, zero, suc, ◌+◌, ◌-◌, ◌/◌, ◌%◌, cond, length, get_or, take, ltb}
use Prim.Native.String.{String}
use mathlib.Core.List.{List, [], ◌∷◌, ◌++◌, flat_map}
use Rattle.rules.specs.Verdict.{Verdict, granted, refused, ◌>>=◌}
use Rattle.rules.specs.Lists.{from, or_else}
use Rattle.rules.specs.Text.{ascii}
use Rattle.rules.specs.Shape.{cells}
use Rattle.rules.specs.Rows.{Row, leaf, inv, bin, row_at}
use Rattle.rules.specs.SetFile.{TransferSet, leaves, read_set}
use Rattle.rules.specs.Operations.{build}
use Rattle.rules.specs.Edition.{old}

-- R60: a number in decimal, without leading zeros; k digits are enough.
unfoldable pub digits : ℕ → ℕ → List ℕ
digits zero n = []
digits (suc k) n = or_else (ltb n 10) ((48 + n) ∷ []) (λ u. digits k (n / 10) ++ ((48 + n % 10) ∷ []))

-- R60: the numbers that are printed have at most 20 digits.
abbrev pub decimal : ℕ → List ℕ
decimal n = digits 20 n

-- R61: a word of letters and a number.
abbrev pub numbered : String → ℕ → List ℕ
numbered w n = ascii w ++ decimal n

-- R61: one space between words, a line feed at the end.
unfoldable pub line : List ℕ → List (List ℕ) → List ℕ
line w [] = w ++ (10 ∷ [])
line w (v ∷ ws) = w ++ (32 ∷ line v ws)

-- R61: how a cell and a row are named.
abbrev pub cell_name : ℕ → List ℕ
cell_name c = numbered "c" c

abbrev pub row_name : ℕ → List ℕ
row_name r = numbered "r" r

-- R62: the operation of a row, in words.
abbrev pub operation : Row → List (List ℕ)
operation (leaf i) = []
operation (inv a) = ascii "not" ∷ row_name a ∷ []
operation (bin o a b) = cond o (ascii "and") (ascii "or") ∷ row_name a ∷ row_name b ∷ []

-- R62: the text of a set: cells and operation rows, each cell's head, each operation row.
unfoldable pub set_text : TransferSet → List ℕ
set_text z =
    let C = cells z.shape in
    let r = length z.tab - leaves z.shape in
    line (ascii "cells") (decimal C ∷ ascii "rows" ∷ decimal r ∷ [])
    ++ (flat_map (λ c. line (cell_name c) (ascii "=" ∷ row_name (get_or z.heads c 0) ∷ [])) (from 0 C)
    ++ flat_map (λ k. line (row_name k) (ascii "=" ∷ operation (row_at z.tab k))) (from (leaves z.shape) r))

-- R62, R63: the text of an answer: the set, or the one line of a refusal.
abbrev pub answer_text : Verdict TransferSet → List ℕ
answer_text (granted z) = set_text z
answer_text (refused n p) = line (ascii "refused") (decimal n ∷ ascii "at" ∷ decimal p ∷ [])

-- R64: what `tset` prints of its standard input: the set in the file just built, which is always accepted.
unfoldable pub tset : List ℕ → List ℕ
tset input = answer_text (build old (take 34312 input) 8192 8192 16384 40957 >>= read_set old)
