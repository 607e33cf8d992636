-- The bench examples: one table of what is done and what it must give, and one theorem over it, by computing.
use Rattle.std.specs.Prelude.{ℕ, zero, suc, ◌≡◌, refl, Bool, true, false, take, set}
use mathlib.Core.List.{List, [], ◌∷◌, ◌++◌, map, flat_map, zip_with, zip}
use Rattle.rules.specs.Verdict.{Verdict, granted, refused, ◌>>=◌}
use Rattle.rules.specs.Lists.{number_at, bytes_of, from, elem, seek}
use Rattle.rules.specs.Edition.{old}
use Rattle.rules.specs.Shape.{Shape, shape_at, read_header, write_header}
use Rattle.rules.specs.Expr.{Exp, con, cell, neg, bin, eval, announced, read_expr, write_expr}
use Rattle.rules.specs.Instr.{NOT, TAND, PUSH, POP, DUP, LOAD, EPUSH, STORE, SET, REDGE, put, stack, pushed, popped, effect, effects}
use Rattle.rules.specs.Instr.{Instr, plain, JP, JPC, JS, JSC, END}
use Rattle.rules.specs.ProgramFile.{form_of, read_instr, read_instrs, read_program, body_of, entries, write_program}
use Rattle.rules.specs.Machine.{perform, scan_from}
use Rattle.rules.specs.Rows.{base, values, value, plan_bin, find, insert}
use Rattle.rules.specs.Sets.{act, unchanging, needs, carry, after, squeeze, four_rows, choose, each, choice}
use Rattle.rules.specs.Build.{add_exp, own, turn, turns, transfer}
use Rattle.rules.specs.SetFile.{write_set, row_of, spelt, all_below, fits, named, check_rows, read_set}
use Rattle.rules.specs.Operations.{storage_bytes, check_storage, scan, set_of, write_into, finish, build, evaluate, compose, write_unchanging}
use Rattle.rules.specs.Text.{ascii}
use Rattle.rules.specs.Lines.{digits, line, set_text, tset}

-- R65: one example: the operation, and what it is given, in the order of Operations.
pub data Deed : Type 0 where
  checksProgram checksSet prints : List ℕ → Deed
  scans evaluates : List ℕ → List ℕ → ℕ → Deed
  builds : List ℕ → ℕ → ℕ → ℕ → ℕ → Deed
  composes : List ℕ → List ℕ → ℕ → ℕ → ℕ → Deed
  writes_unchanging : Shape → ℕ → Deed

-- What it gives: the bare grant, the steps and the storage, or bytes.
unfoldable pub answer : Deed → Verdict (List ℕ)
answer (checksProgram file) = read_program old file >>= λ P. granted []
answer (checksSet file) = read_set old file >>= λ z. granted []
answer (prints input) = granted (tset input)
answer (scans file s budget) = scan old file s budget >>= λ z. granted (z.steps ∷ storage_bytes z.storage)
answer (evaluates file s lent) = evaluate old file s lent >>= λ z. granted (storage_bytes z)
answer (builds file rows numbers heads out) = build old file rows numbers heads out
answer (composes a b rows numbers out) = compose old a b rows numbers out
answer (writes_unchanging sh out) = write_unchanging old sh out

-- Short ways to write a shape, instructions, the file of a program, and the bytes of a set file.
abbrev shape : ℕ → ℕ → ℕ → ℕ → Shape
shape d I O M = record { depth = d; inputs = I; outputs = O; memory = M }

abbrev load : ℕ → Instr
load c = plain (LOAD (cell c))

abbrev store : ℕ → Instr
store b = plain (STORE b)

abbrev file : Shape → List Instr → List ℕ
file sh xs = write_program old (record { shape = sh; instrs = xs })

abbrev set_bytes : Shape → ℕ → List ℕ → List ℕ → List ℕ
set_bytes sh r heads rows = 2 ∷ sh.depth ∷ sh.inputs ∷ sh.outputs ∷ sh.memory ∷ r ∷ 0 ∷ (flat_map (bytes_of 2) heads ++ rows)

-- The named programs, and the sets that they must give.
abbrev pub swap : List ℕ
swap = file (shape 2 0 2 0) (load 0 ∷ plain PUSH ∷ load 1 ∷ store 0 ∷ plain POP ∷ store 1 ∷ END ∷ [])

abbrev pub swap_set : List ℕ
swap_set = set_bytes (shape 2 0 2 0) 0 (3 ∷ 2 ∷ 1 ∷ 0 ∷ 0 ∷ []) []

abbrev pub edge : List ℕ
edge = file (shape 2 1 1 1) (load 0 ∷ plain (REDGE 2) ∷ plain (SET 1) ∷ END ∷ [])

abbrev pub edge_set : List ℕ
edge_set = set_bytes (shape 2 1 1 1) 3 (2 ∷ 10 ∷ 2 ∷ 1 ∷ 0 ∷ 0 ∷ [])
    (1 ∷ 4 ∷ 0 ∷ 0 ∷ 0 ∷ 2 ∷ 2 ∷ 0 ∷ 8 ∷ 0 ∷ 3 ∷ 3 ∷ 0 ∷ 9 ∷ 0 ∷ [])

abbrev pub edge_unchanging : List ℕ
edge_unchanging = set_bytes (shape 2 1 1 1) 0 (2 ∷ 3 ∷ 4 ∷ 5 ∷ 6 ∷ 7 ∷ []) []

abbrev pub skip : List ℕ
skip = file (shape 2 1 1 0) (load 0 ∷ JPC 3 ∷ store 1 ∷ END ∷ [])

-- The set of skip, where a and b are the operands of row 9.
abbrev pub skip_set : ℕ → ℕ → List ℕ
skip_set a b = set_bytes (shape 2 1 1 0) 4 (2 ∷ 10 ∷ 1 ∷ 0 ∷ 0 ∷ [])
    (1 ∷ 2 ∷ 0 ∷ 0 ∷ 0 ∷ 2 ∷ 2 ∷ 0 ∷ 3 ∷ 0 ∷ 2 ∷ a ∷ 0 ∷ b ∷ 0 ∷ 3 ∷ 8 ∷ 0 ∷ 9 ∷ 0 ∷ [])

abbrev pub calls : List ℕ
calls = file (shape 2 0 1 0) (JS 1 ∷ JS 2 ∷ END ∷ [])

abbrev push : Bool → Instr
push b = plain (EPUSH (con b))

abbrev pub deep : ℕ → List ℕ
deep d = file (shape d 0 1 0) (push true ∷ push false ∷ push false ∷ plain POP ∷ plain POP ∷ plain POP ∷ store 0 ∷ END ∷ [])

abbrev nots : ℕ → Exp
nots zero = cell 0
nots (suc k) = neg (nots k)

abbrev pub negated : ℕ → List ℕ
negated k = file (shape 2 0 2 0) (plain (LOAD (nots k)) ∷ store 1 ∷ END ∷ [])

-- Examples of our own, for what the named ones leave open.
abbrev pub copy_set : List ℕ
copy_set = set_bytes (shape 2 0 2 0) 0 (2 ∷ 2 ∷ 1 ∷ 0 ∷ 0 ∷ []) []

abbrev pub maybe_call : List ℕ
maybe_call = file (shape 2 0 1 0) (JSC 2 ∷ store 0 ∷ END ∷ [])

abbrev pub called : List ℕ
called = file (shape 2 0 2 0) (JS 3 ∷ store 1 ∷ END ∷ plain NOT ∷ store 0 ∷ END ∷ [])

abbrev pub doubled : List ℕ
doubled = file (shape 2 0 1 0) (plain DUP ∷ plain POP ∷ plain TAND ∷ store 0 ∷ END ∷ [])

abbrev pub ordered : List ℕ
ordered = file (shape 2 2 1 0) (plain (LOAD (bin true (neg (cell 0)) (neg (cell 1)))) ∷ store 2 ∷ END ∷ [])

abbrev pub bench : List (Deed × Verdict (List ℕ))
bench =
    -- swap: exact bytes; 7 rows suffice and 6 do not; swap after swap
    (builds swap 7 7 35 17, granted swap_set)
    ∷ (builds swap 6 7 35 17, refused 10 0)
    ∷ (composes swap_set swap_set 7 7 17, granted (set_bytes (shape 2 0 2 0) 0 (2 ∷ 3 ∷ 1 ∷ 0 ∷ 0 ∷ []) []))
    -- edge: exact bytes; 14 rows suffice and 13 do not; the other slices; the text that is printed
    ∷ (
      builds (1 ∷ 2 ∷ 1 ∷ 1 ∷ 1 ∷ 4 ∷ 0 ∷ 0 ∷ 0 ∷ 2 ∷ 0 ∷ 4 ∷ 0 ∷ 6 ∷ 0 ∷ 16 ∷ 0 ∷ 35 ∷ 2 ∷ 33 ∷ 1 ∷ 10 ∷ []) 14 14 24 34,
      granted edge_set,
    )
    ∷ (builds edge 14 14 24 34, granted edge_set)
    ∷ (builds edge 13 13 24 34, refused 10 13)
    ∷ (builds edge 14 13 24 34, refused 10 0)
    ∷ (builds edge 14 14 23 34, refused 10 0)
    ∷ (builds edge 14 14 24 33, refused 10 14)
    ∷ (prints edge, granted (ascii "cells 6 rows 3\nc0 = r2\nc1 = r10\nc2 = r2\nc3 = r1\nc4 = r0\nc5 = r0\nr8 = not r4\nr9 = and r2 r8\nr10 = or r3 r9\n"))
    -- edge on a storage, in 4 steps, and again
    ∷ (scans edge (1 ∷ 0 ∷ 0 ∷ 1 ∷ 0 ∷ 0 ∷ []) 4, granted (4 ∷ 1 ∷ 1 ∷ 1 ∷ 1 ∷ 0 ∷ 0 ∷ []))
    ∷ (scans edge (1 ∷ 1 ∷ 1 ∷ 1 ∷ 0 ∷ 0 ∷ []) 4, granted (4 ∷ 1 ∷ 1 ∷ 1 ∷ 1 ∷ 0 ∷ 0 ∷ []))
    ∷ (evaluates edge_set (1 ∷ 0 ∷ 0 ∷ 1 ∷ 0 ∷ 0 ∷ []) 11, granted (1 ∷ 1 ∷ 1 ∷ 1 ∷ 0 ∷ 0 ∷ []))
    ∷ (evaluates edge_set (1 ∷ 0 ∷ 0 ∷ 1 ∷ 0 ∷ 0 ∷ []) 10, refused 10 0)
    -- edge with the unchanging set on each side
    ∷ (writes_unchanging (shape 2 1 1 1) 19, granted edge_unchanging)
    ∷ (composes edge_set edge_unchanging 11 11 34, granted edge_set)
    ∷ (composes edge_unchanging edge_set 11 11 34, granted edge_set)
    -- skip: rows 7 to 10; 15 rows suffice and 14 do not
    ∷ (builds skip 15 15 20 37, granted (skip_set 2 7))
    ∷ (builds skip 14 14 20 37, refused 10 14)
    -- nested calls: 7 steps; END resets f and the stack
    ∷ (scans calls (1 ∷ 0 ∷ 1 ∷ 0 ∷ []) 7, granted (7 ∷ 1 ∷ 1 ∷ 0 ∷ 0 ∷ []))
    ∷ (scans calls (1 ∷ 0 ∷ 1 ∷ 0 ∷ []) 6, refused 11 2)
    -- what a push loses, at both depths
    ∷ (scans (deep 2) (1 ∷ 0 ∷ 0 ∷ 0 ∷ []) 8, granted (8 ∷ 0 ∷ 1 ∷ 0 ∷ 0 ∷ []))
    ∷ (scans (deep 3) (0 ∷ 0 ∷ 0 ∷ 0 ∷ 0 ∷ []) 8, granted (8 ∷ 1 ∷ 1 ∷ 0 ∷ 0 ∷ 0 ∷ []))
    -- 63 nots and a variable, and 64 nots
    ∷ (builds (negated 63) 8 8 15 22, granted (set_bytes (shape 2 0 2 0) 1 (2 ∷ 7 ∷ 1 ∷ 0 ∷ 0 ∷ []) (1 ∷ 2 ∷ 0 ∷ 0 ∷ 0 ∷ [])))
    ∷ (checksProgram (negated 64), refused 6 78)
    -- labels
    ∷ (checksProgram (file (shape 2 0 1 0) (JP 1 ∷ END ∷ [])), granted [])
    ∷ (checksProgram (file (shape 2 0 1 0) (JP 0 ∷ END ∷ [])), refused 8 12)
    -- damaged files
    ∷ (checksProgram [], refused 1 0)
    ∷ (checksProgram (take 21 edge), refused 1 21)
    ∷ (checksProgram (edge ++ (0 ∷ [])), refused 4 22)
    ∷ (checksProgram (set edge 9 3), refused 4 9)
    ∷ (checksProgram (file (shape 2 1 1 1) (load 0 ∷ plain (REDGE 2) ∷ store 0 ∷ END ∷ [])), refused 7 20)
    ∷ (checksSet (skip_set 2 7), granted [])
    ∷ (checksSet (skip_set 7 2), refused 13 27)
    -- our own: first then second
    ∷ (composes copy_set swap_set 7 7 17, granted copy_set)
    ∷ (composes swap_set copy_set 7 7 17, granted (set_bytes (shape 2 0 2 0) 0 (3 ∷ 3 ∷ 1 ∷ 0 ∷ 0 ∷ []) []))
    ∷ (builds called 8 8 30 22, granted (set_bytes (shape 2 0 2 0) 1 (7 ∷ 1 ∷ 1 ∷ 0 ∷ 0 ∷ []) (1 ∷ 4 ∷ 0 ∷ 0 ∷ 0 ∷ [])))
    ∷ (
      builds maybe_call 9 9 12 30,
      granted (set_bytes (shape 2 0 1 0) 3 (8 ∷ 1 ∷ 0 ∷ 0 ∷ [])
          (1 ∷ 3 ∷ 0 ∷ 0 ∷ 0 ∷ 2 ∷ 3 ∷ 0 ∷ 6 ∷ 0 ∷ 3 ∷ 3 ∷ 0 ∷ 7 ∷ 0 ∷ [])),
    )
    -- our own: JSC not taken keeps f, and taken resets it; DUP keeps e1; a left operand's rows come first; an entry is judged before
    -- what stands there
    ∷ (scans maybe_call (1 ∷ 0 ∷ 1 ∷ 0 ∷ []) 3, granted (3 ∷ 0 ∷ 1 ∷ 0 ∷ 0 ∷ []))
    ∷ (scans maybe_call (0 ∷ 1 ∷ 1 ∷ 0 ∷ []) 4, granted (4 ∷ 1 ∷ 1 ∷ 0 ∷ 0 ∷ []))
    ∷ (scans doubled (0 ∷ 0 ∷ 1 ∷ 0 ∷ []) 5, granted (5 ∷ 1 ∷ 1 ∷ 0 ∷ 0 ∷ []))
    ∷ (
      builds ordered 99 99 18 34,
      granted (set_bytes (shape 2 2 1 0) 3 (2 ∷ 3 ∷ 10 ∷ 1 ∷ 0 ∷ 0 ∷ [])
          (1 ∷ 2 ∷ 0 ∷ 0 ∷ 0 ∷ 1 ∷ 3 ∷ 0 ∷ 0 ∷ 0 ∷ 2 ∷ 8 ∷ 0 ∷ 9 ∷ 0 ∷ [])),
    )
    ∷ (checksProgram (set (set edge 9 3) 17 99), refused 4 9)
    ∷ (checksProgram (take 17 (set edge 9 3)), refused 4 9)
    ∷ []

-- Every example of the table gives what the table says.
pub bench-holds : map (λ x. answer x.0) bench ≡ map (λ x. x.1) bench
unfolding answer ascii number_at bytes_of from elem seek shape_at read_header write_header eval announced read_expr write_expr put stack pushed popped effect effects form_of read_instr read_instrs read_program body_of entries write_program perform scan_from base values value plan_bin find insert act unchanging needs carry after squeeze four_rows choose each choice zip_with zip add_exp own turn turns transfer write_set row_of spelt all_below fits named check_rows read_set check_storage scan set_of write_into finish build evaluate compose write_unchanging digits line set_text tset flat_map
bench-holds = refl
