-- What a balanced table brings into a set of relations is what it takes out of it.
use Rattle.std.proofs.Common.{◌≡◌, ℕ, ◌<◌, Bool, true, false, cond, eqb, sym, refl, ap, ◌∙◌, arith}
use Rattle.std.proofs.lemmas.Bool.{eq-eqb, ne_eqb}
use Rattle.refusals.specs.declared.Side.{Side}
use Rattle.refusals.specs.declared.Side.TheVariants.{Up, Down}
use Rattle.sums.specs.Sums.{sum_below}
use Rattle.sums.proofs.SumBelow.{sum_same, sum_zero, sum_exchange, sum_but, sum_cond}
use Rattle.layouts.specs.Shape.{Shape}
use Rattle.readings.specs.Balance.{Balanced, Sound}
use Rattle.readings.specs.Paths.{turned}

-- the only relation that counts is k
pick : (m k a : ℕ) (S : ℕ → Bool) → k < m → sum_below m (λ r. cond (S r) (cond (eqb k r) a 0) 0) ≡ cond (S k) a 0
pick m k a S l =
    omega (arith, sum_but m k _ (λ r. 0) l (λ r _ ne. other r ne), sum_zero m, same)
  where
    other : (r : ℕ) → (r ≡ k → ⊥) → cond (S r) (cond (eqb k r) a 0) 0 ≡ 0
    other r ne = rw (ne_eqb k r (λ e. ne (sym e))) (elim (S r) as (λ b. ◌≡◌ {A = ℕ} (cond b 0 0) 0) [ true ↦ refl | false ↦ refl ])

    same : cond (S k) (cond (eqb k k) a 0) 0 ≡ cond (S k) a 0
    same = rw (eq-eqb k k refl)

-- the sums at the relations of S, added up
over : (m n : ℕ) (end x : ℕ → ℕ) (S : ℕ → Bool) → ((c : ℕ) → c < n → end c < m)
    → sum_below m (λ r. cond (S r) (sum_below n (λ c. cond (eqb (end c) r) (x c) 0)) 0) ≡ sum_below n (λ c. cond (S (end c)) (x c) 0)
over m n end x S h =
    sum_same m _ _ (λ r _. sum_cond n (S r) (λ c. cond (eqb (end c) r) (x c) 0))
    ∙ sum_exchange m n (λ r c. cond (S r) (cond (eqb (end c) r) (x c) 0) 0)
    ∙ sum_same n _ _ (λ c l. pick m (end c) (x c) S (h c l))

pub crossing : (sh : Shape) (x : ℕ → ℕ) (S : ℕ → Bool) → Sound sh → Balanced sh x
    → sum_below sh.cells (λ c. cond (S (sh.enters c)) (x c) 0) ≡ sum_below sh.cells (λ c. cond (S (sh.leaves c)) (x c) 0)
crossing sh x S ok b =
    sym (over sh.relations sh.cells sh.enters x S ok.entered)
    ∙ sum_same sh.relations _ _ (λ r l. ap (λ k. cond (S r) k 0) (b r l))
    ∙ over sh.relations sh.cells sh.leaves x S ok.left

-- Turned round, a layout has the same balanced tables.
pub turned_balanced : (sh : Shape) (side : Side) (x : ℕ → ℕ) → Balanced sh x → Balanced (turned sh side) x
turned_balanced sh Up x b r l = b r l
turned_balanced sh Down x b r l = sym (b r l)

pub balanced_turned : (sh : Shape) (side : Side) (x : ℕ → ℕ) → Balanced (turned sh side) x → Balanced sh x
balanced_turned sh Up x b r l = b r l
balanced_turned sh Down x b r l = sym (b r l)

pub turned_sound : (sh : Shape) (side : Side) → Sound sh → Sound (turned sh side)
turned_sound sh Up ok = record { left = ok.left; entered = ok.entered }
turned_sound sh Down ok = record { left = ok.entered; entered = ok.left }
