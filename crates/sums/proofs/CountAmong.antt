-- A count over the numbers below n that asks only of some places is made at those places.
use Rattle.std.proofs.Common.{◌≡◌, ℕ, ◌+◌, ◌<◌, Bool, true, false, cond, ◌&&◌, eqb, List, [], ◌∷◌, sym, refl, subst, ⊎_elim, arith}
use Rattle.std.proofs.lemmas.Bool.{eqb-true, eq-eqb, ne_eqb, cases_eq, or_cases}
use Rattle.sums.specs.Sums.{among, Within}
use Rattle.sums.specs.Laws.{CountAmong}
use Rattle.sums.proofs.SumBelow.{sum_same, sum_add, sum_zero, sum_hit}

pub among_below : (n c : ℕ) (places : List ℕ) → Within n places → among c places ≡ true → c < n
among_below n c [] w e = let z : ◌≡◌ {A = ℕ} 0 1 = cc in omega arith
among_below n c (a ∷ bs) w e =
    ⊎_elim
    (λ (h : eqb c a ≡ true). omega (arith, eqb-true c a h, w.0))
    (λ (h : among c bs ≡ true). among_below n c bs w.1 h)
    (or_cases (eqb c a) (among c bs) e)

-- a place of its own is counted beside the others
among_more : (test : ℕ → Bool) (a : ℕ) (bs : List ℕ) → among a bs ≡ false → (c : ℕ) → cond (among c (a ∷ bs) && test c) 1 0 ≡ cond (eqb c a) (cond (test a) 1 0) 0 + cond (among c bs && test c) 1 0
among_more test a bs h c =
    ⊎_elim
    (λ (e : c ≡ a). subst (λ x. cond (among x (a ∷ bs) && test x) 1 0 ≡ cond (eqb x a) (cond (test a) 1 0) 0 + cond (among x bs && test x) 1 0) (sym e) (rw (eq-eqb a a refl, h) (omega arith)))
    (λ (d : c ≡ a → ⊥). rw (ne_eqb c a d) (omega arith))
    (cases_eq c a)

pub count_among : CountAmong
count_among n test [] h w = sum_zero n
count_among n test (a ∷ bs) h w =
    let here : ℕ → ℕ = λ c. cond (eqb c a) (cond (test a) 1 0) 0 in
    let rest : ℕ → ℕ = λ c. cond (among c bs && test c) 1 0 in
    omega (
      arith,
      sum_same n (λ c. cond (among c (a ∷ bs) && test c) 1 0) (λ c. here c + rest c) (λ c _. among_more test a bs h.0 c),
      sum_add n here rest,
      sum_hit n a (cond (test a) 1 0) w.0,
      count_among n test bs h.1 w.1,
    )
