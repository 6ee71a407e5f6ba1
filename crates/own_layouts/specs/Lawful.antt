-- The laws of shops in districts.
use Rattle.std.specs.Prelude.{◌≡◌, ℕ, ◌+◌, ◌*◌, ◌/◌, ◌<◌, ◌≤◌, true, List, [], ◌∷◌, ◌≢◌, nat_eq}
use Rattle.std.proofs.Common.{sym, ◌∙◌, arith}
use Rattle.std.proofs.lemmas.Bool.Decides.{nat_tests}
use Rattle.std.proofs.lemmas.Nat.{div_below}
use Rattle.sums.specs.Sums.{Apart, Within, passing}
use Rattle.sums.proofs.CountAmong.{count_among}
use Rattle.layouts.specs.Shape.{Laws, is_leaf, leaving, entering}
use Rattle.own_layouts.specs.Districts.{districts}

module _ (D S : ℕ) (some : 1 ≤ S) where
  district_below : (l : ℕ) → l < D * S → l / S < D
  district_below l h = div_below l S D some h

  districts_entered : (c : ℕ) → c < D * S + D + 1 → (districts D S).enters c < D + 2
  districts_entered c h = grind (arith, nat_tests, district_below c)

  districts_apart : (c : ℕ) → c < D * S + D + 1 → (districts D S).leaves c ≢ (districts D S).enters c
  districts_apart c h = grind (arith, nat_tests, district_below c)

  -- the cells that a shop counts under
  abbrev above : ℕ → List ℕ
  above l = l ∷ (D * S + l / S) ∷ (D * S + D) ∷ []

  above_apart : (l : ℕ) → l < D * S → Apart (above l)
  above_apart l h = let d = district_below l h in grind (arith, nat_tests)

  above_within : (l : ℕ) → l < D * S → Within (D * S + D + 1) (above l)
  above_within l h = let d = district_below l h in grind arith

  -- the relations of the cells that a shop counts under go round
  round : (l r : ℕ) → l < D * S → passing (λ c. nat_eq ((districts D S).leaves c) r) (above l) ≡ passing (λ c. nat_eq ((districts D S).enters c) r) (above l)
  round l r h = let d = district_below l h in grind (arith, nat_tests)

  districts_balanced : (l r : ℕ) → is_leaf (districts D S) l ≡ true → leaving (districts D S) l r ≡ entering (districts D S) l r
  districts_balanced l r e =
      let lt : l < D * S = grind (arith, nat_tests) in
      let a = above_apart l lt in
      let w = above_within l lt in
      count_among (D * S + D + 1) (λ c. nat_eq ((districts D S).leaves c) r) (above l) a w
      ∙ round l r lt
      ∙ sym (count_among (D * S + D + 1) (λ c. nat_eq ((districts D S).enters c) r) (above l) a w)

  pub districts_laws : Laws (districts D S)
  districts_laws = record {
    left = λ c h. grind (arith, nat_tests);
    entered = districts_entered;
    apart = districts_apart;
    itself = λ l e. grind (arith, nat_tests);
    alone = λ k l e. grind (arith, nat_tests);
    balanced = districts_balanced;
  }
