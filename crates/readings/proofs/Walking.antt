-- The steps of a walk along a path, from its goal back to its start.
use Rattle.std.proofs.Common.{◌≡◌, ℕ, ◌+◌, ◌-◌, ◌<◌, ◌≤◌, Bool, true, false, ◌⊎◌, List, length, get_or, set, sym, refl, ap, ◌∙◌, subst, inl, inr, ⊎_elim, arith, get_or-set_other, get_or-set_same}
use Rattle.std.proofs.lemmas.Bool.{cases_eq, both_ways, true≢false, false≢true}
use Rattle.refusals.specs.declared.Side.{Side}
use Rattle.refusals.specs.declared.Side.TheVariants.{Up, Down}
use Rattle.layouts.specs.Shape.{Shape}
use Rattle.readings.specs.Balance.{Balanced, Sound}
use Rattle.readings.specs.Paths.{turned, at, Came, Carries, Changed, Explored, Moves, SameBut, Walked}
use Rattle.readings.specs.Theorems.{Room}
use Rattle.readings.proofs.Crossing.{balanced_turned}
use Rattle.readings.proofs.Steps.{carries_none, carries_all, raise_first, lower_first}

module _ (sh : Shape) (pass : ℕ → Bool) (y : ℕ → ℕ) (d : ℕ) (layer : ℕ → ℕ) (goal : ℕ) where
  pub walk_start : Balanced sh y → Walked sh pass y d layer goal goal y
  walk_start b = record { carries = carries_none sh d goal y b; only = λ c _ _. refl; below = λ c _ _. refl; near = λ c _. omega arith }

  -- Both relations of c are of the layer of r or lower, and it is left for p, which is of a lower one.
  module _ (r p c : ℕ) (x z : ℕ → ℕ) (l : c < sh.cells) (f : pass c ≡ true) (w : Walked sh pass y d layer goal r x)
      (lower : layer p < layer r) (from : layer p ≤ layer (sh.leaves c)) (to : layer p ≤ layer (sh.enters c))
      (same : SameBut sh c x z) (was : x c ≡ y c) (rises : z c ≤ x c + d) (k : Carries sh d p goal z) where
    walk_more : Walked sh pass y d layer goal p z
    walk_more =
        record {
          carries = k;
          only = λ i li h. same i li (λ j. both_ways (pass i) h (ap pass j ∙ f)) ∙ w.only i li h;
          below = λ i li h. same i li (apart i h) ∙ w.below i li (deeper i h);
          near = λ i li. ⊎_elim (λ (j : i ≡ c). here i j) (λ (j : i ≡ c → ⊥). omega (arith, same i li j, w.near i li)) (cases_eq i c);
        }
      where
        here : (i : ℕ) → i ≡ c → z i ≤ y i + d
        here i j = omega (arith, ap z j, ap y j)

        deeper : (i : ℕ) → (layer (sh.leaves i) < layer p) ⊎ (layer (sh.enters i) < layer p) → (layer (sh.leaves i) < layer r) ⊎ (layer (sh.enters i) < layer r)
        deeper i (inl h) = inl (omega arith)
        deeper i (inr h) = inr (omega arith)

        apart : (i : ℕ) → (layer (sh.leaves i) < layer p) ⊎ (layer (sh.enters i) < layer p) → i ≡ c → ⊥
        apart i (inl h) j = omega (arith, ap (λ k. layer (sh.leaves k)) j)
        apart i (inr h) j = omega (arith, ap (λ k. layer (sh.enters k)) j)

-- the same walk, from a goal that is known as g
pub walked_from : (sh : Shape) (pass : ℕ → Bool) (y : ℕ → ℕ) (d : ℕ) (layer : ℕ → ℕ) (goal g r : ℕ) (x : ℕ → ℕ) → goal ≡ g → Walked sh pass y d layer goal r x → Walked sh pass y d layer g r x
walked_from sh pass y d layer goal g r x e w = subst (λ i. Walked sh pass y d layer i r x) e w

-- one cell of the path, in a list
module _ (sh : Shape) (pass : ℕ → Bool) (y : ℕ → ℕ) (d : ℕ) (layer : ℕ → ℕ) (goal r c : ℕ) (xs : List ℕ) (ok : Sound sh)
    (lc : sh.cells ≤ length xs) (k : Came sh pass y d layer r c) (w : Walked sh pass y d layer goal r (at xs)) (lr : layer r < sh.relations) where
  -- the walk has come to the relation p
  pub record Stepped (p : ℕ) (zs : List ℕ) : Type 0 where
    pub walked : Walked sh pass y d layer goal p (at zs)
    pub inside : p < sh.relations
    pub is_reached : layer p < sh.relations
    pub lower : layer p < layer r

  set_same_but : (u : ℕ) → SameBut sh c (at xs) (at (set xs c u))
  set_same_but u e l ne = get_or-set_other xs c e u 0 ne

  set_here : (u : ℕ) → at (set xs c u) c ≡ u
  set_here u = get_or-set_same xs c u 0 (omega (arith, k.inside))

  pub step_raise : sh.enters c ≡ r → Stepped (sh.leaves c) (set xs c (get_or xs c 0 + d))
  step_raise e =
      ⊎_elim
      (λ (h : (sh.enters c ≡ r) × (layer (sh.leaves c) < layer r)).
      let u : ℕ = get_or xs c 0 + d in
      record {
        walked = walk_more sh pass y d layer goal r (sh.leaves c) c (at xs) (at (set xs c u)) k.inside k.passes w h.1
            (omega arith) (omega (arith, h.1, ap layer e)) (set_same_but u) (w.below c k.inside (inl h.1)) (omega (arith, set_here u))
            (raise_first sh d r goal (at xs) (at (set xs c u)) c k.inside w.carries e (set_same_but u) (set_here u));
        inside = ok.left c k.inside;
        is_reached = omega (arith, h.1);
        lower = h.1;
      })
      (λ (h : (sh.leaves c ≡ r) × (layer (sh.enters c) < layer r) × (d ≤ y c)). absurd (omega (arith, h.1, ap layer e)))
      k.ways

  -- the way back by a cell that is lowered
  pub back : (sh.enters c ≡ r → ⊥) → (sh.leaves c ≡ r) × (layer (sh.enters c) < layer r) × (d ≤ at xs c)
  back ne =
      ⊎_elim
      (λ (h : (sh.enters c ≡ r) × (layer (sh.leaves c) < layer r)). absurd (ne h.0))
      (λ (h : (sh.leaves c ≡ r) × (layer (sh.enters c) < layer r) × (d ≤ y c)). (h.0, h.1, omega (arith, h.2, w.below c k.inside (inr h.1))))
      k.ways

  pub step_lower : (sh.enters c ≡ r → ⊥) → Stepped (sh.enters c) (set xs c (get_or xs c 0 - d))
  step_lower ne =
      let h = back ne in
      let u : ℕ = get_or xs c 0 - d in
      record {
        walked = walk_more sh pass y d layer goal r (sh.enters c) c (at xs) (at (set xs c u)) k.inside k.passes w h.1
            (omega (arith, h.1, ap layer h.0)) (omega arith) (set_same_but u) (w.below c k.inside (inr h.1)) (omega (arith, set_here u))
            (lower_first sh d r goal (at xs) (at (set xs c u)) c k.inside w.carries h.0 (λ i li j. sym (set_same_but u i li j)) (omega (arith, set_here u, h.2)));
        inside = ok.entered c k.inside;
        is_reached = omega (arith, h.1);
        lower = h.1;
      }

  -- the same, where a and b are the relations ahead of the cell and behind it
  module _ (a b : ℕ) (at_a : a ≡ sh.enters c) (at_b : b ≡ sh.leaves c) where
    pub walked_raise : a ≡ r → Walked sh pass y d layer goal b (at (set xs c (get_or xs c 0 + d))) × (b < sh.relations) × (layer b < sh.relations)
    walked_raise e =
        let g = step_raise (sym at_a ∙ e) in
        (subst (λ p. Walked sh pass y d layer goal p (at (set xs c (get_or xs c 0 + d)))) (sym at_b) g.walked, omega (arith, g.inside), omega (arith, g.is_reached, ap layer at_b))

    pub walked_lower : (a ≡ r → ⊥) → Walked sh pass y d layer goal a (at (set xs c (get_or xs c 0 - d))) × (a < sh.relations) × (layer a < sh.relations)
    walked_lower ne =
        let g = step_lower (λ e. ne (at_a ∙ e)) in
        (subst (λ p. Walked sh pass y d layer goal p (at (set xs c (get_or xs c 0 - d)))) (sym at_a) g.walked, omega (arith, g.inside), omega (arith, g.is_reached, ap layer at_a))

-- The walk is over, and the tried cell is changed too: the table balances again.
module _ (sh : Shape) (pass : ℕ → Bool) (t d : ℕ) (y : ℕ → ℕ) (layer : ℕ → ℕ) (xs : List ℕ) (l : t < sh.cells) (lx : sh.cells ≤ length xs) (f : pass t ≡ false) where
  changed_by : (side : Side) (u : ℕ) → Walked (turned sh side) pass y d layer (sh.leaves t) (sh.enters t) (at xs)
      → u ≤ y t + d → Moves side d (y t) u → Balanced sh (at (set xs t u)) → Changed sh side pass t d y (at (set xs t u)) true
  changed_by side u w few moves b =
      let here = get_or-set_same xs t u 0 (omega arith) in
      record {
        balanced = b;
        only = λ c lc p ne. get_or-set_other xs t c u 0 ne ∙ w.only c lc p;
        near = λ c lc. ⊎_elim (λ (e : c ≡ t). omega (arith, ap (at (set xs t u)) e, ap y e))
            (λ (e : c ≡ t → ⊥). omega (arith, get_or-set_other xs t c u 0 e, w.near c lc)) (cases_eq c t);
        moves = λ _. subst (Moves side d (y t)) (sym here) moves;
        stays = λ e. absurd (true≢false e);
        stuck = λ e. absurd (true≢false e);
      }

  pub changed_up : Walked (turned sh Up) pass y d layer (sh.leaves t) (sh.enters t) (at xs) → Changed sh Up pass t d y (at (set xs t (get_or xs t 0 + d))) true
  changed_up w =
      let u : ℕ = get_or xs t 0 + d in
      let was = w.only t l f in
      changed_by Up u w (omega (arith, was)) (omega (arith, was))
      (carries_all sh d (sh.leaves t) (at (set xs t u)) (raise_first sh d (sh.enters t) (sh.leaves t) (at xs) (at (set xs t u)) t l w.carries refl
      (λ e _ ne. get_or-set_other xs t e u 0 ne) (get_or-set_same xs t u 0 (omega arith))))

  pub changed_down : d ≤ y t → Walked (turned sh Down) pass y d layer (sh.leaves t) (sh.enters t) (at xs) → Changed sh Down pass t d y (at (set xs t (get_or xs t 0 - d))) true
  changed_down room w =
      let u : ℕ = get_or xs t 0 - d in
      let was = w.only t l f in
      changed_by Down u w (omega (arith, was)) (omega (arith, was))
      (balanced_turned sh Down (at (set xs t u)) (carries_all (turned sh Down) d (sh.leaves t) (at (set xs t u)) (lower_first (turned sh Down) d (sh.enters t) (sh.leaves t) (at xs) (at (set xs t u)) t l w.carries refl
      (λ e _ ne. sym (get_or-set_other xs t e u 0 ne)) (omega (arith, was, get_or-set_same xs t u 0 (omega arith))))))

  -- the same, where the walk ended at r and the side is known by a match
  module _ (side : Side) (r : ℕ) (w : Walked (turned sh side) pass y d layer (sh.leaves t) r (at xs)) (e : r ≡ sh.enters t) where
    at_start : Walked (turned sh side) pass y d layer (sh.leaves t) (sh.enters t) (at xs)
    at_start = subst (λ p. Walked (turned sh side) pass y d layer (sh.leaves t) p (at xs)) e w

    pub changed_in_Up : side ≡ Up → Changed sh side pass t d y (at (set xs t (get_or xs t 0 + d))) true
    changed_in_Up u =
        subst (λ s. Changed sh s pass t d y (at (set xs t (get_or xs t 0 + d))) true) (sym u)
        (changed_up (subst (λ s. Walked (turned sh s) pass y d layer (sh.leaves t) (sh.enters t) (at xs)) u at_start))

    pub changed_in_Down : side ≡ Down → Room y d t side → Changed sh side pass t d y (at (set xs t (get_or xs t 0 - d))) true
    changed_in_Down u room =
        subst (λ s. Changed sh s pass t d y (at (set xs t (get_or xs t 0 - d))) true) (sym u)
        (changed_down (subst (Room y d t) u room) (subst (λ s. Walked (turned sh s) pass y d layer (sh.leaves t) (sh.enters t) (at xs)) u at_start))

-- No path was found: nothing is changed.
pub not_changed : (sh : Shape) (side : Side) (pass : ℕ → Bool) (t d : ℕ) (y layer via : ℕ → ℕ) → Balanced sh y
    → Explored (turned sh side) pass y d (sh.enters t) (sh.leaves t) layer via false → Changed sh side pass t d y y false
not_changed sh side pass t d y layer via b k = record {
  balanced = b;
  only = λ c _ _ _. refl;
  near = λ c _. omega arith;
  moves = λ e. absurd (false≢true e);
  stays = λ _ c. refl;
  stuck = λ _. (_, k.closed refl, k.start_inside refl, k.goal_outside refl);
}
