-- Tests over numbers and sets.
use Rattle.std.proofs.Common.{◌≡◌, ℕ, zero, suc, ◌<◌, ◌≤◌, Bool, true, false, ◌||◌, eqb, sym, refl, ap, ◌∙◌, inl, inr, ⊎_elim, not-suc-le-zero, arith}
use Rattle.std.proofs.lemmas.Bool.{cases_eq, cases_Bool, eq-eqb, ne_eqb, false≢true, or_cases, or_parts, or_left, or_right, or_from}
use Rattle.readings.specs.Exposure.{any_below, any_set}

pub any_below_none : (n : ℕ) (test : ℕ → Bool) → any_below n test ≡ false → (c : ℕ) → c < n → test c ≡ false
unfolding any_below
any_below_none zero test e c l = absurd (not-suc-le-zero l)
any_below_none (suc n) test e c l =
    let p = or_parts (any_below n test) (test n) e in
    ⊎_elim (λ (i : c ≡ n). ap test i ∙ p.1) (λ (ne : c ≡ n → ⊥). any_below_none n test p.0 c (omega arith)) (cases_eq c n)

pub none_any_below : (n : ℕ) (test : ℕ → Bool) → ((c : ℕ) → c < n → test c ≡ false) → any_below n test ≡ false
unfolding any_below
none_any_below zero test h = refl
none_any_below (suc n) test h =
    or_from (any_below n test) (test n) (none_any_below n test (λ c l. h c (omega arith))) (h n (omega arith))

pub any_below_some : (n : ℕ) (test : ℕ → Bool) → any_below n test ≡ true → (c : ℕ) × (c < n) × (test c ≡ true)
unfolding any_below
any_below_some zero test e = absurd (false≢true e)
any_below_some (suc n) test e =
    elim (or_cases (any_below n test) (test n) e) [
      | inl h ↦ let w = any_below_some n test h in (w.0, omega (arith, w.1), w.2)
      | inr h ↦ (n, omega arith, h)
    ]

pub some_any_below : (n : ℕ) (test : ℕ → Bool) (c : ℕ) → c < n → test c ≡ true → any_below n test ≡ true
unfolding any_below
some_any_below zero test c l h = absurd (not-suc-le-zero l)
some_any_below (suc n) test c l h =
    ⊎_elim (λ (e : c ≡ n). or_right (any_below n test) (test n) (ap test (sym e) ∙ h))
    (λ (ne : c ≡ n → ⊥). or_left (any_below n test) (test n) (some_any_below n test c (omega arith) h)) (cases_eq c n)

pub any_set_more : (m : ℕ) (t u : (ℕ → Bool) → Bool) → ((S : ℕ → Bool) → t S ≡ true → u S ≡ true) → any_set m t ≡ true → any_set m u ≡ true
unfolding any_set
any_set_more zero t u h e = h (λ r. false) e
any_set_more (suc m) t u h e =
    elim (or_cases (any_set m t) (any_set m (λ S. t (λ r. eqb r m || S r))) e) [
      | inl i ↦ or_left (any_set m u) (any_set m (λ S. u (λ r. eqb r m || S r))) (any_set_more m t u h i)
      | inr i ↦ or_right (any_set m u) (any_set m (λ S. u (λ r. eqb r m || S r)))
          (any_set_more m (λ S. t (λ r. eqb r m || S r)) (λ S. u (λ r. eqb r m || S r)) (λ S. h (λ r. eqb r m || S r)) i)
    ]

-- some set has it
pub any_set_some : (m : ℕ) (test : (ℕ → Bool) → Bool) → any_set m test ≡ true → (S : ℕ → Bool) × (test S ≡ true)
unfolding any_set
any_set_some zero test e = (λ r. false, e)
any_set_some (suc m) test e =
    elim (or_cases (any_set m test) (any_set m (λ S. test (λ r. eqb r m || S r))) e) [
      | inl h ↦ any_set_some m test h
      | inr h ↦ let w = any_set_some m (λ S. test (λ r. eqb r m || S r)) h in (λ r. eqb r m || w.0 r, w.1)
    ]

-- T is what of S lies below m
pub record Part (m : ℕ) (S T : ℕ → Bool) : Type 0 where
  pub below : (r : ℕ) → r < m → T r ≡ S r
  pub above : (r : ℕ) → m ≤ r → T r ≡ false

-- a test that holds of what of S lies below m finds it
pub some_any_set : (m : ℕ) (test : (ℕ → Bool) → Bool) (S : ℕ → Bool) → ((T : ℕ → Bool) → Part m S T → test T ≡ true) → any_set m test ≡ true
unfolding any_set
some_any_set zero test S h = h (λ r. false) (record { below = λ r l. absurd (not-suc-le-zero l); above = λ r l. refl })
some_any_set (suc m) test S h =
    elim (cases_Bool (S m)) [
      | inr out ↦ or_left (any_set m test) more (some_any_set m test S (λ T p. h T (left_out T p out)))
      | inl here ↦ or_right (any_set m test) more (some_any_set m (λ U. test (λ r. eqb r m || U r)) S (λ T p. h (λ r. eqb r m || T r) (put_in T p here)))
    ]
  where
    more : Bool
    more = any_set m (λ U. test (λ r. eqb r m || U r))

    left_out : (T : ℕ → Bool) → Part m S T → S m ≡ false → Part (suc m) S T
    left_out T p out = record {
      below = λ r l. ⊎_elim (λ (e : r ≡ m). p.above r (omega arith) ∙ sym out ∙ ap S (sym e)) (λ (ne : r ≡ m → ⊥). p.below r (omega arith)) (cases_eq r m);
      above = λ r l. p.above r (omega arith);
    }

    put_in : (T : ℕ → Bool) → Part m S T → S m ≡ true → Part (suc m) S (λ r. eqb r m || T r)
    put_in T p here = record {
      below = λ r l. ⊎_elim (λ (e : r ≡ m). or_left (eqb r m) (T r) (eq-eqb r m e) ∙ sym here ∙ ap S (sym e))
          (λ (ne : r ≡ m → ⊥). ap (λ b. b || T r) (ne_eqb r m ne) ∙ p.below r (omega arith)) (cases_eq r m);
      above = λ r l. or_from (eqb r m) (T r) (ne_eqb r m (omega arith)) (p.above r (omega arith));
    }
