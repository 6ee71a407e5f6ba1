-- One cell is changed by d: the relation that d was taken out of, or put into, moves along it.
use Rattle.std.proofs.Common.{◌≡◌, ℕ, ◌+◌, ◌<◌, Bool, true, false, cond, eqb, refl, ap, arith}
use Rattle.sums.specs.Sums.{sum_below}
use Rattle.sums.proofs.SumBelow.{sum_but}
use Rattle.layouts.specs.Shape.{Shape}
use Rattle.readings.specs.Balance.{Balanced}
use Rattle.readings.specs.Paths.{Carries, SameBut}

cond_add : (b : Bool) (u w d : ℕ) → w ≡ u + d → cond b w 0 ≡ cond b u 0 + cond b d 0
cond_add true u w d e = e
cond_add false u w d e = refl

meeting_more : (n : ℕ) (end : ℕ → ℕ) (r c d : ℕ) (x z : ℕ → ℕ) → c < n → ((e : ℕ) → e < n → (e ≡ c → ⊥) → z e ≡ x e) → z c ≡ x c + d
    → sum_below n (λ i. cond (eqb (end i) r) (z i) 0) ≡ sum_below n (λ i. cond (eqb (end i) r) (x i) 0) + cond (eqb (end c) r) d 0
meeting_more n end r c d x z l same e =
    omega (
      arith,
      cond_add (eqb (end c) r) (x c) (z c) d e,
      sum_but n c (λ i. cond (eqb (end i) r) (z i) 0) (λ i. cond (eqb (end i) r) (x i) 0) l (λ i k ne. ap (λ u. cond (eqb (end i) r) u 0) (same i k ne)),
    )

pub carries_none : (sh : Shape) (d a : ℕ) (x : ℕ → ℕ) → Balanced sh x → Carries sh d a a x
carries_none sh d a x b r l = omega (arith, b r l)

pub carries_all : (sh : Shape) (d a : ℕ) (x : ℕ → ℕ) → Carries sh d a a x → Balanced sh x
carries_all sh d a x k r l = omega (arith, k r l)

module _ (sh : Shape) (d a b : ℕ) (x z : ℕ → ℕ) (c : ℕ) (l : c < sh.cells) (k : Carries sh d a b x) where
  pub raise_last : sh.leaves c ≡ b → SameBut sh c x z → z c ≡ x c + d → Carries sh d a (sh.enters c) z
  raise_last at same e r h =
      omega (arith, k r h, ap (λ u. cond (eqb u r) d 0) at, meeting_more sh.cells sh.enters r c d x z l same e, meeting_more sh.cells sh.leaves r c d x z l same e)

  pub lower_last : sh.enters c ≡ b → SameBut sh c z x → x c ≡ z c + d → Carries sh d a (sh.leaves c) z
  lower_last at same e r h =
      omega (arith, k r h, ap (λ u. cond (eqb u r) d 0) at, meeting_more sh.cells sh.enters r c d z x l same e, meeting_more sh.cells sh.leaves r c d z x l same e)

  pub raise_first : sh.enters c ≡ a → SameBut sh c x z → z c ≡ x c + d → Carries sh d (sh.leaves c) b z
  raise_first at same e r h =
      omega (arith, k r h, ap (λ u. cond (eqb u r) d 0) at, meeting_more sh.cells sh.enters r c d x z l same e, meeting_more sh.cells sh.leaves r c d x z l same e)

  pub lower_first : sh.leaves c ≡ a → SameBut sh c z x → x c ≡ z c + d → Carries sh d (sh.enters c) b z
  lower_first at same e r h =
      omega (arith, k r h, ap (λ u. cond (eqb u r) d 0) at, meeting_more sh.cells sh.enters r c d z x l same e, meeting_more sh.cells sh.leaves r c d z x l same e)
