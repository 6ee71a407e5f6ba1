-- From the relation that has one to spare, either a way to the one that lacks it, or a closed set.
use Rattle.std.proofs.Common.{◌≡◌, ℕ, zero, suc, ◌+◌, ◌-◌, ◌<◌, ◌≤◌, Bool, true, false, cond, ◌||◌, eqb, ◌⊎◌, sym, refl, ap, ◌∙◌, subst, inl, inr, ⊎_elim, not-suc-le-zero, arith}
use Rattle.std.proofs.lemmas.Bool.{cases_lt, cases_Bool, eq-eqb, ne_eqb, eqb-true, both_ways, or_cases, or_parts, or_left, or_right}
use Rattle.sums.specs.Sums.{sum_below}
use Rattle.sums.proofs.SumBelow.{sum_but}
use Rattle.layouts.specs.Shape.{Shape}
use Rattle.readings.specs.Balance.{Balanced, Sound}
use Rattle.readings.specs.Paths.{Carries, Closed}
use Rattle.readings.proofs.Steps.{carries_all, raise_last, lower_last}

-- P at some number below n, or else Q at each
find : (P Q : ℕ → Type 0) → ((c : ℕ) → P c ⊎ Q c) → (n : ℕ) → ((c : ℕ) × (c < n) × P c) ⊎ ((c : ℕ) → c < n → Q c)
find P Q look zero = inr (λ c l. absurd (not-suc-le-zero l))
find P Q look (suc n) =
    elim (find P Q look n) [
      | inl w ↦ inl (w.0, omega arith, w.2)
      | inr all ↦ elim (look n) [
        | inl p ↦ inl (n, omega arith, p)
        | inr q ↦ inr (λ c l. ⊎_elim (λ (k : c < n). all c k) (λ (k : n ≤ c). subst Q (omega arith) q) (cases_lt c n))
      ]
    ]

-- x with w at c
abbrev pub put : (ℕ → ℕ) → ℕ → ℕ → ℕ → ℕ
put x c w e = cond (eqb e c) w (x e)

pub put_same : (x : ℕ → ℕ) (c w : ℕ) → put x c w c ≡ w
put_same x c w = rw (eq-eqb c c refl)

pub put_other : (x : ℕ → ℕ) (c w e : ℕ) → (e ≡ c → ⊥) → put x c w e ≡ x e
put_other x c w e ne = rw (ne_eqb e c ne)

-- R with q
abbrev with : (ℕ → Bool) → ℕ → ℕ → Bool
with R q r = eqb r q || R r

with_new : (R : ℕ → Bool) (q : ℕ) → with R q q ≡ true
with_new R q = or_left (eqb q q) (R q) (eq-eqb q q refl)

with_old : (R : ℕ → Bool) (q r : ℕ) → R r ≡ true → with R q r ≡ true
with_old R q r h = or_right (eqb r q) (R r) h

without_old : (R : ℕ → Bool) (q r : ℕ) → with R q r ≡ false → R r ≡ false
without_old R q r h = (or_parts (eqb r q) (R r) h).1

-- how many of the relations below m are not in R
abbrev missing : ℕ → (ℕ → Bool) → ℕ
missing m R = sum_below m (λ r. cond (R r) 0 1)

missing_less : (m q : ℕ) (R : ℕ → Bool) → q < m → R q ≡ false → missing m (with R q) + 1 ≡ missing m R
missing_less m q R l out =
    omega (arith, sum_but m q (λ r. cond (with R q r) 0 1) (λ r. cond (R r) 0 1) l same, now, was)
  where
    same : (r : ℕ) → r < m → (r ≡ q → ⊥) → ◌≡◌ {A = ℕ} (cond (with R q r) 0 1) (cond (R r) 0 1)
    same r _ ne = rw (ne_eqb r q ne)

    now : ◌≡◌ {A = ℕ} (cond (with R q q) 0 1) 0
    now = rw (with_new R q)

    was : ◌≡◌ {A = ℕ} (cond (R q) 0 1) 1
    was = rw out

-- The table y lacks one at the relation o, and has it to spare at another.
module _ (sh : Shape) (pass : ℕ → Bool) (y : ℕ → ℕ) (o : ℕ) where
  -- A table that lacks one at o and has it to spare at r. It is y but at the cells of `pass` that lie within R.
  record Partway (R : ℕ → Bool) (r : ℕ) : Type 0 where
    x : ℕ → ℕ
    carries : Carries sh 1 o r x
    keeps : (c : ℕ) → c < sh.cells → pass c ≡ false → x c ≡ y c
    agrees : (c : ℕ) → c < sh.cells → (R (sh.leaves c) ≡ false) ⊎ (R (sh.enters c) ≡ false) → x c ≡ y c

  Ways : (ℕ → Bool) → Type 0
  Ways R = (r : ℕ) → R r ≡ true → Partway R r

  -- a way out of R, by the cell c
  data Exit (R : ℕ → Bool) (c : ℕ) : Type 0 where
    raising : pass c ≡ true → R (sh.leaves c) ≡ true → R (sh.enters c) ≡ false → Exit R c
    lowering : pass c ≡ true → R (sh.enters c) ≡ true → R (sh.leaves c) ≡ false → 1 ≤ y c → Exit R c

  Shut : (ℕ → Bool) → ℕ → Type 0
  Shut R c =
      (pass c ≡ true → R (sh.leaves c) ≡ true → R (sh.enters c) ≡ true)
      × (pass c ≡ true → R (sh.enters c) ≡ true → 1 ≤ y c → R (sh.leaves c) ≡ true)

  look : (R : ℕ → Bool) (c : ℕ) → Exit R c ⊎ Shut R c
  unfolding Shut
  look R c =
      elim (cases_Bool (pass c)) [
        | inr f ↦ inr (λ h. absurd (both_ways (pass c) f h), λ h. absurd (both_ways (pass c) f h))
        | inl p ↦ elim (cases_Bool (R (sh.leaves c))) [
          | inl a ↦ elim (cases_Bool (R (sh.enters c))) [
            | inl b ↦ inr (λ _ _. b, λ _ _ _. a)
            | inr b ↦ inl (raising p a b)
          ]
          | inr a ↦ elim (cases_Bool (R (sh.enters c))) [
            | inl b ↦ elim (cases_lt 0 (y c)) [
              | inl some ↦ inl (lowering p b a (omega arith))
              | inr none ↦ inr (λ _ h. absurd (both_ways (R (sh.leaves c)) a h), λ _ _ q. absurd (omega arith))
            ]
            | inr b ↦ inr (λ _ h. absurd (both_ways (R (sh.leaves c)) a h), λ _ h _. absurd (both_ways (R (sh.enters c)) b h))
          ]
        ]
      ]

  closed : (R : ℕ → Bool) → ((c : ℕ) → c < sh.cells → Shut R c) → Closed sh pass y 1 R
  unfolding Shut
  closed R all = record { no_raise = λ c l. (all c l).0; no_lower = λ c l. (all c l).1 }

  -- Through the cell c, from R to the relation q that is new: all that changes lies in R and q.
  extend : (R : ℕ → Bool) (r q c u : ℕ) (p : Partway R r) → pass c ≡ true
      → with R q (sh.leaves c) ≡ true → with R q (sh.enters c) ≡ true
      → Carries sh 1 o q (put p.x c u) → Partway (with R q) q
  extend R r q c u p f a b k =
      record {
        x = put p.x c u;
        carries = k;
        keeps = λ e l h. put_other p.x c u e (λ i. both_ways (pass e) h (ap pass i ∙ f)) ∙ p.keeps e l h;
        agrees = λ e l h. put_other p.x c u e (apart e h) ∙ p.agrees e l (out e h);
      }
    where
      out : (e : ℕ) → (with R q (sh.leaves e) ≡ false) ⊎ (with R q (sh.enters e) ≡ false) → (R (sh.leaves e) ≡ false) ⊎ (R (sh.enters e) ≡ false)
      out e (inl h) = inl (without_old R q (sh.leaves e) h)
      out e (inr h) = inr (without_old R q (sh.enters e) h)

      apart : (e : ℕ) → (with R q (sh.leaves e) ≡ false) ⊎ (with R q (sh.enters e) ≡ false) → e ≡ c → ⊥
      apart e (inl h) i = both_ways (with R q (sh.leaves e)) h (ap (λ z. with R q (sh.leaves z)) i ∙ a)
      apart e (inr h) i = both_ways (with R q (sh.enters e)) h (ap (λ z. with R q (sh.enters z)) i ∙ b)

  -- R has grown by one relation
  record Grown (R : ℕ → Bool) : Type 0 where
    q : ℕ
    inside : q < sh.relations
    new : R q ≡ false
    way : Partway (with R q) q

  grow : Sound sh → (R : ℕ → Bool) → Ways R → (c : ℕ) → c < sh.cells → Exit R c → Grown R
  unfolding Ways
  grow ok R ways c l (raising f a b) =
      let p = ways (sh.leaves c) a in
      record {
        q = sh.enters c;
        inside = ok.entered c l;
        new = b;
        way = extend R (sh.leaves c) (sh.enters c) c (p.x c + 1) p f (with_old R (sh.enters c) (sh.leaves c) a) (with_new R (sh.enters c))
            (raise_last sh 1 o (sh.leaves c) p.x (put p.x c (p.x c + 1)) c l p.carries refl (λ e _ i. put_other p.x c (p.x c + 1) e i) (put_same p.x c (p.x c + 1)));
      }
  grow ok R ways c l (lowering f b a h) =
      let p = ways (sh.enters c) b in
      let u : ℕ = p.x c - 1 in
      let back : p.x c ≡ put p.x c u c + 1 = omega (arith, p.agrees c l (inl a), put_same p.x c u) in
      record {
        q = sh.leaves c;
        inside = ok.left c l;
        new = a;
        way = extend R (sh.enters c) (sh.leaves c) c u p f (with_new R (sh.leaves c)) (with_old R (sh.leaves c) (sh.enters c) b)
            (lower_last sh 1 o (sh.enters c) p.x (put p.x c u) c l p.carries refl (λ e _ i. sym (put_other p.x c u e i)) back);
      }

  -- the old ways serve in the larger set
  keep : (R : ℕ → Bool) (q r : ℕ) → Partway R r → Partway (with R q) r
  keep R q r p = record {
    x = p.x;
    carries = p.carries;
    keeps = p.keeps;
    agrees = λ e l h. p.agrees e l (⊎_elim (λ (a : with R q (sh.leaves e) ≡ false). inl (without_old R q (sh.leaves e) a)) (λ (a : with R q (sh.enters e) ≡ false). inr (without_old R q (sh.enters e) a)) h);
  }

  grown : (R : ℕ → Bool) → Ways R → (g : Grown R) → Ways (with R g.q)
  unfolding Ways
  grown R ways g r h =
      ⊎_elim
      (λ (e : eqb r g.q ≡ true). subst (Partway (with R g.q)) (sym (eqb-true r g.q e)) g.way)
      (λ (e : R r ≡ true). keep R g.q r (ways r e))
      (or_cases (eqb r g.q) (R r) h)

  -- a balanced table that is y but at the cells of `pass`
  abbrev pub Mended : Type 0
  Mended = (z : ℕ → ℕ) × Balanced sh z × ((c : ℕ) → c < sh.cells → pass c ≡ false → z c ≡ y c)

  -- a closed set with the relation `start` and without o
  abbrev pub ShutIn : ℕ → Type 0
  ShutIn start = (S : ℕ → Bool) × Closed sh pass y 1 S × (S start ≡ true) × (S o ≡ false)

  round : Sound sh → (start : ℕ) (R : ℕ → Bool) → Ways R → R start ≡ true → (Mended ⊎ ShutIn start) ⊎ Grown R
  unfolding Ways
  round ok start R ways h =
      elim (cases_Bool (R o)) [
        | inl i ↦ let p = ways o i in inl (inl (p.x, carries_all sh 1 o p.x p.carries, p.keeps))
        | inr i ↦ elim (find (Exit R) (Shut R) (look R) sh.cells) [
          | inr all ↦ inl (inr (R, closed R all, h, i))
          | inl e ↦ inr (grow ok R ways e.0 e.1 e.2)
        ]
      ]

  -- each round adds a relation, so there are at most as many rounds as relations are missing
  rounds : Sound sh → (start k : ℕ) (R : ℕ → Bool) → Ways R → R start ≡ true → missing sh.relations R ≤ k → Mended ⊎ ShutIn start
  rounds ok start zero R ways h m =
      ⊎_elim (λ (d : Mended ⊎ ShutIn start). d)
      (λ (g : Grown R). absurd (omega (arith, missing_less sh.relations g.q R g.inside g.new)))
      (round ok start R ways h)
  rounds ok start (suc k) R ways h m =
      ⊎_elim (λ (d : Mended ⊎ ShutIn start). d)
      (λ (g : Grown R). rounds ok start k (with R g.q) (grown R ways g) (with_old R g.q start h)
      (omega (arith, missing_less sh.relations g.q R g.inside g.new)))
      (round ok start R ways h)

  pub mended_or_shut_in : Sound sh → (start : ℕ) → Carries sh 1 o start y → Mended ⊎ ShutIn start
  unfolding Ways
  mended_or_shut_in ok start k =
      rounds ok start (missing sh.relations R) R ways (eq-eqb start start refl) (omega arith)
    where
      R : ℕ → Bool
      R r = eqb r start

      ways : (r : ℕ) → R r ≡ true → Partway R r
      ways r h = subst (Partway R) (sym (eqb-true r start h)) (record { x = y; carries = k; keeps = λ c _ _. refl; agrees = λ c _ _. refl })
