-- The laws of a grid.
use Rattle.std.specs.Prelude.{◌≡◌, ℕ, ◌+◌, ◌*◌, ◌<◌, ◌≤◌, true, false, not, ◌&&◌, List, [], ◌∷◌, ◌==◌, ◌≢◌, nat_eq, nat_lt}
use Rattle.std.proofs.Common.{sym, ap, ◌∙◌, arith}
use Rattle.std.proofs.lemmas.Bool.{and_parts, ltb-true, ne_eqb}
use Rattle.std.proofs.lemmas.Bool.Decides.{nat_tests}
use Rattle.std.proofs.lemmas.Nat.{mul-add-lt, div-mul-add, mod-mul-add}
use Rattle.sums.specs.Sums.{Apart, Within, passing}
use Rattle.sums.proofs.CountAmong.{count_among}
use Rattle.layouts.specs.Shape.{Laws, is_leaf, two_leaves, leaving, entering}
use Rattle.layouts.specs.Layouts.{grid, place, row, column}

module _ (R C : ℕ) where
  row_place : (r c : ℕ) → c ≤ C → row R C (place R C r c) ≡ r
  row_place r c h = div-mul-add r (C + 1) c (omega arith)

  column_place : (r c : ℕ) → c ≤ C → column R C (place R C r c) ≡ c
  column_place r c h = mod-mul-add r (C + 1) c (omega arith)

  place_below : (r c : ℕ) → r ≤ R → c ≤ C → place R C r c < (R + 1) * (C + 1)
  place_below r c h k = omega (arith, mul-add-lt r (C + 1) c (R + 1) (omega arith) (omega arith))

  -- what differs from a place in its row, or in its column, does not stand there
  off_row : (k r c : ℕ) → c ≤ C → (row R C k ≢ r) → (k == place R C r c) ≡ false
  off_row k r c h ne = ne_eqb k (place R C r c) (λ e. ne (ap (row R C) e ∙ row_place r c h))

  off_column : (k r c : ℕ) → c ≤ C → (column R C k ≢ c) → (k == place R C r c) ≡ false
  off_column k r c h ne = ne_eqb k (place R C r c) (λ e. ne (ap (column R C) e ∙ column_place r c h))

  -- a leaf stands inside
  inside : (l : ℕ) → is_leaf (grid R C) l ≡ true → (l < (R + 1) * (C + 1)) × (row R C l < R) × (column R C l < C)
  inside l e = let p = and_parts (nat_lt l ((R + 1) * (C + 1))) ((grid R C).leaf l) e in (ltb-true l ((R + 1) * (C + 1)) p.0, grind (arith, nat_tests), grind (arith, nat_tests))

  -- the cells that a leaf counts under
  abbrev above : ℕ → List ℕ
  above l = l ∷ place R C (row R C l) C ∷ place R C R (column R C l) ∷ place R C R C ∷ []

  abbrev At : ℕ → ℕ → ℕ → Type 0
  At k r c = (row R C k ≡ r) × (column R C k ≡ c)

  at_place : (r c : ℕ) → c ≤ C → At (place R C r c) r c
  at_place r c h = (row_place r c h, column_place r c h)

  -- the relations of the cells that a leaf counts under go round
  round : (l r : ℕ) → row R C l < R → column R C l < C → passing (λ c. nat_eq ((grid R C).leaves c) r) (above l) ≡ passing (λ c. nat_eq ((grid R C).enters c) r) (above l)
  round l r hr hc =
      let p = at_place (row R C l) C (omega arith) in
      let q = at_place R (column R C l) (omega arith) in
      let z = at_place R C (omega arith) in
      grind (arith, nat_tests)

  above_within : (l : ℕ) → l < (R + 1) * (C + 1) → row R C l < R → column R C l < C → Within ((R + 1) * (C + 1)) (above l)
  above_within l h hr hc = (h, (place_below (row R C l) C (omega arith) (omega arith), (place_below R (column R C l) (omega arith) (omega arith), (place_below R C (omega arith) (omega arith), tt))))

  above_apart : (l : ℕ) → row R C l < R → column R C l < C → Apart (above l)
  above_apart l hr hc =
      let p = at_place (row R C l) C (omega arith) in
      let q = at_place R (column R C l) (omega arith) in
      let z = at_place R C (omega arith) in
      grind (arith, nat_tests)

  grid_alone : (k l : ℕ) → two_leaves (grid R C) k l ≡ true → (grid R C).counts k l ≡ false
  grid_alone k l e =
      let p = and_parts (is_leaf (grid R C) k && is_leaf (grid R C) l) (not (k == l)) e in
      let q = and_parts (is_leaf (grid R C) k) (is_leaf (grid R C) l) p.0 in
      let i = inside k q.0 in
      let j = inside l q.1 in
      let a = at_place (row R C l) C (omega arith) in
      let b = at_place R (column R C l) (omega arith) in
      let c = at_place R C (omega arith) in
      grind (arith, nat_tests)

  grid_balanced : (l r : ℕ) → is_leaf (grid R C) l ≡ true → leaving (grid R C) l r ≡ entering (grid R C) l r
  grid_balanced l r e =
      let i = inside l e in
      let a = above_apart l i.1 i.2 in
      let w = above_within l i.0 i.1 i.2 in
      count_among ((R + 1) * (C + 1)) (λ c. nat_eq ((grid R C).leaves c) r) (above l) a w
      ∙ round l r i.1 i.2
      ∙ sym (count_among ((R + 1) * (C + 1)) (λ c. nat_eq ((grid R C).enters c) r) (above l) a w)

  pub grid_laws : Laws (grid R C)
  grid_laws = record {
    left = λ c h. grind (arith, nat_tests);
    entered = λ c h. grind (arith, nat_tests);
    apart = λ c h. grind (arith, nat_tests);
    itself = λ l e. grind (arith, nat_tests);
    alone = grid_alone;
    balanced = grid_balanced;
  }
