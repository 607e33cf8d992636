-- The row and heads that the code makes are an instruction's own set.
use Rattle.std.specs.Prelude.{ℕ, ◌<◌, ◌≡◌, List, map, length, get_or, set, Ok, Err}
use Rattle.std.proofs.Common.{sym, ap, ◌∙◌, arith, length-set, ext_get_or, get_or-set_same, get_or-set_other}
use Rattle.std.proofs.Math.Decide.{ℕ_discrete}
use Rattle.std.proofs.lemmas.List.{length-map}
use Rattle.rules.specs.Lists.{from}
use Rattle.rules.specs.Shape as R
use Rattle.rules.specs.Shape.{cells}
use Rattle.rules.specs.Expr.{cell}
use Rattle.rules.specs.Instr.{Plain, effect}
use Rattle.rules.specs.Rows.{Row, row_of_cell}
use Rattle.rules.specs.Build.{own, add_exp}
use Rattle.laws.specs.Canonical.{Canonical}
use Rattle.laws.specs.After.{over}
use Rattle.laws.specs.Lists.{length_from, get_or-map-from}
use Rattle.laws.specs.Own.{Simple, simple_row, own-one}
use Rattle.base.specs.declared.kinds.Row as K
use Rattle.base.specs.declared.refusal.Refusal.{Refusal}
use Rattle.table.specs.declared.LentTable.{LentTable}
use Rattle.rows.specs.Table.{Stored, Exceeds}
use Rattle.own.specs.declared.heads.Change.{Change}
use Rattle.spell.specs.Made.{Made}
use Rattle.own.specs.Changes.{place_of, main_of, moved_by, moved_heads, rest_by, changed, Changes}
use Rattle.own.specs.ChangeLaws.{put-here, put_other, rest-simple}
use Rattle.own.specs.Owning.{Owns}

module _ (sh : R.Shape) (p : Plain) (x : Change) (g : Changes sh p x) where
  -- R16: the row of each cell's expression.
  abbrev heads : List ℕ
  heads = map (λ c. simple_row (effect sh p c)) (from 0 (cells sh))

  size : (f : ℕ → ℕ) → length (map f (from 0 (cells sh))) ≡ cells sh
  size f = length-map (from 0 (cells sh)) f ∙ length_from 0 (cells sh)

  -- Before the main cell's row is put, a cell has the row of what the change gives it.
  rest-row : (c : ℕ) → c < cells sh
      → get_or (set (moved_heads sh x.stack) x.target.0 (row_of_cell x.source.0)) c 0 ≡ simple_row (rest_by sh x c)
  rest-row c h = elim (ℕ_discrete c x.target.0) [
    | yes q ↦
        let wide = size (λ k. simple_row (moved_by sh x.stack k)) in
        rw (q, put-here) (get_or-set_same (moved_heads sh x.stack) x.target.0 _ 0 (omega (arith, g.target)))
    | no q ↦ rw (put_other x.target.0 (cell x.source.0) (moved_by sh x.stack) c q)
        (get_or-set_other (moved_heads sh x.stack) x.target.0 c _ 0 q ∙ get_or-map-from _ 0 (cells sh) c h)
  ]

  heads-changed : (r : ℕ) → changed sh x r ≡ set heads x.main.0 r
  heads-changed r =
      let moved = set (moved_heads sh x.stack) x.target.0 (row_of_cell x.source.0) in
      let long : length moved ≡ cells sh
      = length-set (moved_heads sh x.stack) x.target.0 _ ∙ size (λ k. simple_row (moved_by sh x.stack k)) in
      let wide : length heads ≡ cells sh = size (λ k. simple_row (effect sh p k)) in
      ext_get_or 0 (changed sh x r) (set heads x.main.0 r)
      (length-set moved x.main.0 r ∙ long ∙ sym (length-set heads x.main.0 r ∙ wide))
      (λ c h. elim (ℕ_discrete c x.main.0) [
        | yes q ↦ rw q (get_or-set_same moved x.main.0 r 0 (omega (arith, g.main))
            ∙ sym (get_or-set_same heads x.main.0 r 0 (omega (arith, g.main))))
        | no q ↦
            let l : c < cells sh = omega (arith, length-set moved x.main.0 r) in
            get_or-set_other moved x.main.0 c r 0 q ∙ rest-row c l ∙ ap simple_row (sym (g.rest c q))
            ∙ sym (get_or-set_other heads x.main.0 c r 0 q ∙ get_or-map-from _ 0 (cells sh) c l)
      ])

  -- R37: the main row, and the heads by the change.
  own-is : (t : List Row)
      → own t sh p ≡ over (add_exp t (main_of sh p)).tab (set heads (place_of sh p) (add_exp t (main_of sh p)).row)
  own-is t =
      let simple : (c : ℕ) → (c ≡ place_of sh p → ⊥) → Simple (effect sh p c)
      = λ c n. rw (g.rest c (λ q. n (q ∙ g.place))) (rest-simple sh x c) in
      own-one t sh p (place_of sh p) (omega (arith, g.main, g.place)) simple

  pub own-drawn : {s s' : LentTable} {a : K.Row} → Made (cells sh) s (main_of sh p) (Ok a) s' → (made : List ℕ)
      → made ≡ changed sh x a.0 → Owns sh p s (Ok tt) s' made
  own-drawn {a = a} m made e t w h =
      let z = m.gives t w h in
      rw (own-is t) (record { stored = z.0; same = e ∙ heads-changed a.0 ∙ rw (g.place, z.1) })

  -- No row is left for it.
  pub own-full : {s s' : LentTable} {e : Refusal} → Made (cells sh) s (main_of sh p) (Err e) s' → (t : List Row) → Canonical (cells sh) t
      → Stored s t → Exceeds s e (own t sh p).tab
  own-full m t w h = rw (own-is t) (m.gives t w h)
