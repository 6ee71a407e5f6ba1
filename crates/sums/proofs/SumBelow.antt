-- The laws of sums and counts below n.
use Rattle.std.proofs.Common.{◌≡◌, ℕ, zero, suc, ◌+◌, ◌*◌, ◌<◌, ◌≤◌, Bool, true, false, cond, ◌&&◌, eqb, sym, refl, ap, ◌∙◌, ⊎_elim, mul-zero, mul-one, mul-add, add-one, arith}
use Rattle.std.proofs.lemmas.Bool.{eq-eqb, ne_eqb, cases_eq, cond_both}
use Rattle.sums.specs.Sums.{sum_below, count_below}
use Rattle.sums.specs.Laws.{Exchange}

-- one number more, as a loop that counts up has it
pub sum_more : (n : ℕ) (f : ℕ → ℕ) → sum_below (n + 1) f ≡ sum_below n f + f n
sum_more n f = rw add-one refl

pub sum_same : (n : ℕ) (f g : ℕ → ℕ) → ((k : ℕ) → k < n → f k ≡ g k) → sum_below n f ≡ sum_below n g
sum_same zero f g h = refl
sum_same (suc n) f g h = omega (arith, sum_same n f g (λ k lt. h k (omega arith)), h n (omega arith))

pub sum_le : (n : ℕ) (f g : ℕ → ℕ) → ((k : ℕ) → k < n → f k ≤ g k) → sum_below n f ≤ sum_below n g
sum_le zero f g h = omega arith
sum_le (suc n) f g h = omega (arith, sum_le n f g (λ k lt. h k (omega arith)), h n (omega arith))

pub sum_add : (n : ℕ) (f g : ℕ → ℕ) → sum_below n (λ k. f k + g k) ≡ sum_below n f + sum_below n g
sum_add zero f g = refl
sum_add (suc n) f g = omega (arith, sum_add n f g)

pub sum_zero : (n : ℕ) → sum_below n (λ _. 0) ≡ 0
sum_zero zero = refl
sum_zero (suc n) = omega (arith, sum_zero n)

-- a sum of nothing but zeros
pub sum_none : (n : ℕ) (f : ℕ → ℕ) → ((k : ℕ) → k < n → f k ≡ 0) → sum_below n f ≡ 0
sum_none n f h = sum_same n f (λ _. 0) h ∙ sum_zero n

pub sum_ones : (n : ℕ) → sum_below n (λ _. 1) ≡ n
sum_ones zero = refl
sum_ones (suc n) = omega (arith, sum_ones n)

pub sum_scale : (n a : ℕ) (f : ℕ → ℕ) → sum_below n (λ k. a * f k) ≡ a * sum_below n f
sum_scale zero a f = sym (mul-zero a)
sum_scale (suc n) a f = omega (arith, sum_scale n a f, mul-add a (sum_below n f) (f n))

-- what is bounded at each number is bounded in all
pub sum_bound : (n a : ℕ) (f : ℕ → ℕ) → ((k : ℕ) → k < n → f k ≤ a) → sum_below n f ≤ a * n
sum_bound zero a f h = omega (arith, mul-zero a)
sum_bound (suc n) a f h = omega (arith, sum_bound n a f (λ k lt. h k (omega arith)), h n (omega arith), mul-add a n 1, mul-one a)

pub sum_exchange : Exchange
sum_exchange zero n f = sym (sum_zero n)
sum_exchange (suc m) n f = omega (arith, sum_exchange m n f, sum_add n (λ c. sum_below m (λ r. f r c)) (f m))

-- what differs nowhere but at s has f s instead of g s in its sum
pub sum_but_le : (n s : ℕ) (f g : ℕ → ℕ) → s < n → ((k : ℕ) → k < n → (k ≡ s → ⊥) → f k ≤ g k) → sum_below n f + g s ≤ sum_below n g + f s
sum_but_le zero s f g lt h = omega arith
sum_but_le (suc n) s f g lt h =
    ⊎_elim
    (λ (e : s ≡ n). omega (arith, ap f e, ap g e, sum_le n f g (λ k l. h k (omega arith) (omega arith))))
    (λ (ne : s ≡ n → ⊥). omega (arith, sum_but_le n s f g (omega arith) (λ k l. h k (omega arith)), h n (omega arith) (λ e. ne (sym e))))
    (cases_eq s n)

pub sum_but : (n s : ℕ) (f g : ℕ → ℕ) → s < n → ((k : ℕ) → k < n → (k ≡ s → ⊥) → f k ≡ g k) → sum_below n f + g s ≡ sum_below n g + f s
sum_but n s f g lt h =
    omega (arith, sum_but_le n s f g lt (λ k l ne. omega (arith, h k l ne)), sum_but_le n s g f lt (λ k l ne. omega (arith, h k l ne)))

-- a sum with one number that counts
pub sum_hit : (n s v : ℕ) → s < n → sum_below n (λ k. cond (eqb k s) v 0) ≡ v
sum_hit n s v lt =
    let at : cond (eqb s s) v 0 ≡ v = rw (eq-eqb s s refl) in
    omega (arith, sum_but n s (λ k. cond (eqb k s) v 0) (λ _. 0) lt (λ k _ ne. rw (ne_eqb k s ne)), sum_zero n)

-- a member is at most the sum
pub member_le_sum : (n s : ℕ) (f : ℕ → ℕ) → s < n → f s ≤ sum_below n f
member_le_sum n s f lt = omega (arith, sum_but_le n s (λ _. 0) f lt (λ k _ _. omega arith), sum_zero n)

-- a test that does not change from number to number
pub sum_cond : (n : ℕ) (b : Bool) (f : ℕ → ℕ) → cond b (sum_below n f) 0 ≡ sum_below n (λ k. cond b (f k) 0)
sum_cond n true f = refl
sum_cond n false f = sym (sum_zero n)

pub count_same : (n : ℕ) (p q : ℕ → Bool) → ((k : ℕ) → k < n → p k ≡ q k) → count_below n p ≡ count_below n q
count_same n p q h = sum_same n (λ k. cond (p k) 1 0) (λ k. cond (q k) 1 0) (λ k lt. ap (λ b. cond b 1 0) (h k lt))

pub count_le : (n : ℕ) (p : ℕ → Bool) → count_below n p ≤ n
count_le n p = omega (arith, sum_le n (λ k. cond (p k) 1 0) (λ _. 1) (λ k _. cond_both (p k) 1 0 (λ x. x ≤ 1) (λ _. omega arith) (λ _. omega arith)), sum_ones n)

weighed : (a : ℕ) (p q : Bool) → cond q (cond p a 0) 0 ≡ a * cond (p && q) 1 0
weighed a true true = sym (mul-one a)
weighed a true false = sym (mul-zero a)
weighed a false true = sym (mul-zero a)
weighed a false false = sym (mul-zero a)

-- one amount, taken wherever both tests pass
pub sum_weighed : (n a : ℕ) (p q : ℕ → Bool) → sum_below n (λ k. cond (q k) (cond (p k) a 0) 0) ≡ a * count_below n (λ k. p k && q k)
sum_weighed n a p q =
    sum_same n (λ k. cond (q k) (cond (p k) a 0) 0) (λ k. a * cond (p k && q k) 1 0) (λ k _. weighed a (p k) (q k))
    ∙ sum_scale n a (λ k. cond (p k && q k) 1 0)
