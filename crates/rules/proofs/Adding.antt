-- One amount more in a summary.
use Rattle.std.proofs.Common.{◌≡◌, ℕ, ◌+◌, min, max, List, [], ◌∷◌, ◌++◌, get_or, ap, arith, length-append}
use Rattle.std.proofs.lemmas.List.Sums.{sum_by_push}
use Rattle.rules.specs.Largest.{placed, descending, nth_largest}
use Rattle.rules.specs.Told.{Told}
use Rattle.rules.specs.declared.summary.Summary.{Summary}
use Rattle.rules.proofs.Descending.{descending_push, placed_first, placed_second, placed_third}

module _ (s t : Summary) (xs : List ℕ) (a : ℕ) (h : Told s xs) where
  at : (i : ℕ) → nth_largest i (xs ++ a ∷ []) ≡ get_or (placed a (descending xs)) i 0
  at i = ap (λ d. get_or d i 0) (descending_push xs a)

  pub told_more : t.total ≡ s.total + a → t.first ≡ max a s.first → t.second ≡ max (min a s.first) s.second → t.third ≡ max (min (min a s.first) s.second) s.third → t.count ≡ s.count + 1 → Told t (xs ++ a ∷ [])
  told_more e0 e1 e2 e3 e4 =
      record {
        total = omega (arith, sum_by_push (λ x. x) xs a, h.total);
        first = omega (arith, at 0, placed_first a (descending xs), h.first);
        second = omega (arith, at 1, placed_second a (descending xs), h.first, h.second);
        third = omega (arith, at 2, placed_third a (descending xs), h.first, h.second, h.third);
        count = omega (arith, length-append xs (a ∷ []), h.count);
      }
