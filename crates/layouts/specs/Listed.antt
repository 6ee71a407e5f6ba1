-- The laws of a list.
use Rattle.std.specs.Prelude.{◌≡◌, ℕ, ◌+◌, [], ◌∷◌, nat_eq, nat_lt, refl}
use Rattle.std.proofs.Common.{sym, ◌∙◌, arith}
use Rattle.std.proofs.lemmas.Bool.{and_parts, ltb-true}
use Rattle.std.proofs.lemmas.Bool.Decides.{nat_tests}
use Rattle.sums.specs.Sums.{Apart, Within, passing}
use Rattle.sums.proofs.CountAmong.{count_among}
use Rattle.layouts.specs.Shape.{Laws}
use Rattle.layouts.specs.Layouts.{listed}

pub listed_laws : (n : ℕ) → Laws (listed n)
listed_laws n = record {
  left = λ c h. grind (arith, nat_tests);
  entered = λ c h. grind (arith, nat_tests);
  apart = λ c h. grind (arith, nat_tests);
  itself = λ l e. grind (arith, nat_tests);
  alone = λ k l e. grind (arith, nat_tests);
  balanced = λ l r e.
      let p = and_parts (nat_lt l (n + 1)) (nat_lt l n) e in
      let lt = ltb-true l n p.1 in
      let apart : Apart (l ∷ n ∷ []) = (grind (arith, nat_tests), (refl, tt)) in
      let within : Within (n + 1) (l ∷ n ∷ []) = (omega arith, (omega arith, tt)) in
      let a = count_among (n + 1) (λ c. nat_eq ((listed n).leaves c) r) (l ∷ n ∷ []) apart within in
      let b = count_among (n + 1) (λ c. nat_eq ((listed n).enters c) r) (l ∷ n ∷ []) apart within in
      let round : passing (λ c. nat_eq ((listed n).leaves c) r) (l ∷ n ∷ []) ≡ passing (λ c. nat_eq ((listed n).enters c) r) (l ∷ n ∷ []) = grind (arith, nat_tests) in
      a ∙ round ∙ sym b;
}
