-- The first of a row of numbers that has something.
use Rattle.std.proofs.Common.{◌≡◌, ℕ, zero, suc, ◌+◌, ◌-◌, ◌<◌, ◌≤◌, Some, None, Option, refl, ap, ◌∙◌, ⊎_elim, add-one, arith}
use Rattle.std.proofs.lemmas.Bool.{cases_eq}
use Rattle.readings.specs.Exposure.{or_else, first_from}

module _ {A : Type 0} where
  or_else_none : (x y : Option A) → or_else x y ≡ None → (x ≡ None) × (y ≡ None)
  or_else_none (Some a) y e = cc
  or_else_none None y e = (refl, e)

  pub first_none : (n k : ℕ) (f : ℕ → Option A) → first_from n k f ≡ None → (c : ℕ) → k ≤ c → c < k + n → f c ≡ None
  unfolding first_from
  first_none zero k f e c lo hi = absurd (omega arith)
  first_none (suc n) k f e c lo hi =
      let p = or_else_none (f k) (first_from n (suc k) f) e in
      ⊎_elim (λ (i : c ≡ k). ap f i ∙ p.0) (λ (ne : c ≡ k → ⊥). first_none n (suc k) f p.1 c (omega arith) (omega arith)) (cases_eq c k)

  pub none_first : (n k : ℕ) (f : ℕ → Option A) → ((c : ℕ) → k ≤ c → c < k + n → f c ≡ None) → first_from n k f ≡ None
  unfolding first_from
  none_first zero k f h = refl
  none_first (suc n) k f h = rw (h k (omega arith) (omega arith)) (none_first n (suc k) f (λ c lo hi. h c (omega arith) (omega arith)))

  -- what was found, and where
  pub record FoundFirst (n k : ℕ) (f : ℕ → Option A) (a : A) : Type 0 where
    pub at : ℕ
    pub low : k ≤ at
    pub high : at < k + n
    pub here : f at ≡ Some a
    pub before : (b : ℕ) → k ≤ b → b < at → f b ≡ None

  pub first_some : (n k : ℕ) (f : ℕ → Option A) (a : A) → first_from n k f ≡ Some a → FoundFirst n k f a
  unfolding first_from
  first_some zero k f a e = cc
  first_some (suc n) k f a e = by (λ h. first_some n (suc k) f a h) (f k) refl e
    where
      by : (first_from n (suc k) f ≡ Some a → FoundFirst n (suc k) f a) → (x : Option A) → f k ≡ x → or_else x (first_from n (suc k) f) ≡ Some a → FoundFirst (suc n) k f a
      by again (Some b) i h = record { at = k; low = omega arith; high = omega arith; here = i ∙ h; before = λ b lo hi. absurd (omega arith) }
      by again None i h =
          let w = again h in
          record {
            at = w.at;
            low = omega (arith, w.low);
            high = omega (arith, w.high);
            here = w.here;
            before = λ b lo hi. ⊎_elim (λ (j : b ≡ k). ap f j ∙ i) (λ (ne : b ≡ k → ⊥). w.before b (omega arith) hi) (cases_eq b k);
          }

  -- the steps of a loop that counts up from k to n
  pub first_from_more : (n k : ℕ) (f : ℕ → Option A) → k < n → f k ≡ None → first_from (n - k) k f ≡ first_from (n - (k + 1)) (k + 1) f
  unfolding first_from
  first_from_more n k f l e =
      let s : n - k ≡ suc (n - (k + 1)) = omega arith in
      rw (s, e) (rw add-one refl)

  pub first_from_here : (n k : ℕ) (f : ℕ → Option A) (a : A) → k < n → f k ≡ Some a → first_from (n - k) k f ≡ Some a
  unfolding first_from
  first_from_here n k f a l e =
      let s : n - k ≡ suc (n - (k + 1)) = omega arith in
      rw (s, e) refl

  pub first_from_all : (n k : ℕ) (f : ℕ → Option A) → n ≤ k → first_from (n - k) k f ≡ None
  unfolding first_from
  first_from_all n k f l =
      let s : n - k ≡ 0 = omega arith in
      rw s refl
