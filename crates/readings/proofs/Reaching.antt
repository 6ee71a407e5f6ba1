-- The steps of a search for a path.
use Rattle.std.proofs.Common.{◌≡◌, ℕ, ◌+◌, ◌-◌, ◌<◌, ◌≤◌, Bool, true, false, cond, not, ◌&&◌, ltb, leb, ◌⊎◌, List, length, set, replicate, is_some, Some, None, Option, sym, refl, ap, ◌∙◌, subst, inl, inr, ⊎_elim, arith, get_or-set_other, get_or-set_same}
use mathlib.Core.Path.{fun_ext}
use Rattle.std.proofs.lemmas.List.{get_or-replicate, get_or_past, length-replicate}
use Rattle.std.proofs.lemmas.Bool.{cases_eq, cases_lt, cases_Bool, false≢true, true≢false, both_ways, lt-ltb, le-ltb, ltb-true, ltb-false, leb-true, le-leb}
use Rattle.refusals.specs.declared.Side.{Side}
use Rattle.refusals.specs.declared.Side.TheVariants.{Up, Down}
use Rattle.sums.proofs.SumBelow.{sum_but, sum_but_le, sum_zero, sum_ones}
use Rattle.layouts.specs.Shape.{Shape}
use Rattle.layouts.specs.declared.memory.Reach.{Reach}
use Rattle.readings.specs.Balance.{Sound}
use Rattle.readings.specs.Exposure.{ahead, behind}
use Rattle.readings.specs.Paths.{turned, reached, way_to, is_reached, layer_of, layer_in, via_of, via_in, is_leading, next_cell, far_end_of, Came, Closed, Explored, Searched}
use Rattle.readings.proofs.Crossing.{turned_sound}
use Rattle.readings.proofs.Firsts.{first_none, first_some}

-- where a relation is not reached, the count can rise
pub searched_room : (sh : Shape) (pass : ℕ → Bool) (y : ℕ → ℕ) (d start : ℕ) (layer via : ℕ → ℕ) (count q : ℕ)
    → Searched sh pass y d start layer via count → q < sh.relations → sh.relations ≤ layer q → count < sh.relations
searched_room sh pass y d start layer via count q k lq out =
    omega (arith, sum_but_le sh.relations q (λ r. 0) old lq (λ r _ _. omega arith), sum_zero sh.relations, was, k.counted)
  where
    old : ℕ → ℕ
    old r = cond (reached sh.relations layer r) 0 1

    was : old q ≡ 1
    was = rw (le-ltb (layer q) sh.relations out)

-- q is reached as the next
module _ (sh : Shape) (pass : ℕ → Bool) (y : ℕ → ℕ) (d start : ℕ) (layer via layer' via' : ℕ → ℕ) (count q : ℕ) where
  -- the layers of the relations that were reached are as they were
  came_kept : ((r : ℕ) → (r ≡ q → ⊥) → layer' r ≡ layer r) → sh.relations ≤ layer q
      → (r c : ℕ) → (r ≡ q → ⊥) → layer r < sh.relations → Came sh pass y d layer r c → Came sh pass y d layer' r c
  came_kept same out r c ne lr k = record { inside = k.inside; passes = k.passes; ways = ways k.ways }
    where
      kept : (p : ℕ) → layer p < layer r → layer' p < layer' r
      kept p h = omega (arith, same r ne, same p (λ e. omega (arith, ap layer e)))

      ways : ((sh.enters c ≡ r) × (layer (sh.leaves c) < layer r)) ⊎ ((sh.leaves c ≡ r) × (layer (sh.enters c) < layer r) × (d ≤ y c))
          → ((sh.enters c ≡ r) × (layer' (sh.leaves c) < layer' r)) ⊎ ((sh.leaves c ≡ r) × (layer' (sh.enters c) < layer' r) × (d ≤ y c))
      ways (inl h) = inl (h.0, kept (sh.leaves c) h.1)
      ways (inr h) = inr (h.0, kept (sh.enters c) h.1, h.2)

  searched_more : Searched sh pass y d start layer via count → q < sh.relations → sh.relations ≤ layer q
      → ((r : ℕ) → (r ≡ q → ⊥) → layer' r ≡ layer r) → layer' q ≡ count
      → ((r : ℕ) → (r ≡ q → ⊥) → via' r ≡ via r) → Came sh pass y d layer' q (via' q)
      → Searched sh pass y d start layer' via' (count + 1)
  searched_more k lq out same at_q same_via came =
      record {
        tree = λ r lr l ne. ⊎_elim
            (λ (e : r ≡ q). subst (λ i. Came sh pass y d layer' i (via' i)) (sym e) came)
            (λ (e : r ≡ q → ⊥). subst (Came sh pass y d layer' r) (sym (same_via r e))
            (came_kept same out r (via r) e (omega (arith, same r e)) (k.tree r lr (omega (arith, same r e)) ne)))
            (cases_eq r q);
        started = omega (arith, k.started, same start (λ e. omega (arith, k.started, ap layer e)));
        ranks = λ r lr l. ⊎_elim
            (λ (e : r ≡ q). omega (arith, ap layer' e))
            (λ (e : r ≡ q → ⊥). omega (arith, same r e, k.ranks r lr (omega (arith, same r e))))
            (cases_eq r q);
        counted = omega (arith, k.counted, sum_but sh.relations q new old lq rest, was, now);
      }
    where
      old : ℕ → ℕ
      old r = cond (reached sh.relations layer r) 0 1

      new : ℕ → ℕ
      new r = cond (reached sh.relations layer' r) 0 1

      was : old q ≡ 1
      was = rw (le-ltb (layer q) sh.relations out)

      rest : (r : ℕ) → r < sh.relations → (r ≡ q → ⊥) → new r ≡ old r
      rest r _ ne = ap (λ i. cond (ltb i sh.relations) 0 1) (same r ne)

      now : new q ≡ 0
      now = rw (lt-ltb (layer' q) sh.relations (omega (arith, searched_room sh pass y d start layer via count q k lq out)))

-- What the test of a cell says: p that a path may pass it, a that what lies behind it is reached, b what lies ahead, e that it has the amount.
lead_true : (p a b e : Bool) → (p && cond a (not b) (b && e)) ≡ true → (p ≡ true) × (((a ≡ true) × (b ≡ false)) ⊎ ((a ≡ false) × (b ≡ true) × (e ≡ true)))
lead_true true true true e h = absurd (false≢true h)
lead_true true true false e h = (refl, inl (refl, refl))
lead_true true false true e h = (refl, inr (refl, refl, h))
lead_true true false false e h = absurd (false≢true h)
lead_true false a b e h = absurd (false≢true h)

lead_false : (p a b e : Bool) → (p && cond a (not b) (b && e)) ≡ false → p ≡ true → (a ≡ true → b ≡ true) × (b ≡ true → e ≡ true → a ≡ true)
lead_false true true true e h q = (λ _. refl, λ _ _. refl)
lead_false true true false e h q = absurd (true≢false h)
lead_false true false true e h q = (λ x. absurd (false≢true x), λ _ x. absurd (both_ways e h x))
lead_false true false false e h q = (λ x. absurd (false≢true x), λ x. absurd (false≢true x))
lead_false false a b e h q = absurd (false≢true q)

module _ (sh : Shape) (side : Side) (pass : ℕ → Bool) (y : ℕ → ℕ) (d : ℕ) (layer : ℕ → ℕ) where
  abbrev R : ℕ → Bool
  R = reached sh.relations layer

  -- the two ways in which a cell leads on
  pub record Raised (c : ℕ) : Type 0 where
    pub passes : pass c ≡ true
    pub from : layer (behind sh side c) < sh.relations
    pub to : sh.relations ≤ layer (ahead sh side c)
    pub end : far_end_of sh R c ≡ ahead sh side c

  pub record Lowered (c : ℕ) : Type 0 where
    pub passes : pass c ≡ true
    pub from : layer (ahead sh side c) < sh.relations
    pub to : sh.relations ≤ layer (behind sh side c)
    pub end : far_end_of sh R c ≡ behind sh side c
    pub holds : d ≤ y c

  -- the end of a cell that is not reached, by its side
  ahead_end : (s : Side) (c : ℕ) → reached sh.relations layer (behind sh s c) ≡ true → reached sh.relations layer (ahead sh s c) ≡ false → far_end_of sh R c ≡ ahead sh s c
  ahead_end Up c a b = rw a
  ahead_end Down c a b = rw b

  behind_end : (s : Side) (c : ℕ) → reached sh.relations layer (behind sh s c) ≡ false → reached sh.relations layer (ahead sh s c) ≡ true → far_end_of sh R c ≡ behind sh s c
  behind_end Up c a b = rw a
  behind_end Down c a b = rw b

  leads_ways : (c : ℕ) → is_leading sh side pass y d R c ≡ true → Raised c ⊎ Lowered c
  leads_ways c h =
      let w = lead_true (pass c) (reached sh.relations layer (behind sh side c)) (reached sh.relations layer (ahead sh side c)) (leb d (y c)) h in
      elim w.1 [
        | inl i ↦ inl (record {
          passes = w.0;
          from = ltb-true (layer (behind sh side c)) sh.relations i.0;
          to = ltb-false (layer (ahead sh side c)) sh.relations i.1;
          end = ahead_end side c i.0 i.1;
        })
        | inr i ↦ inr (record {
          passes = w.0;
          from = ltb-true (layer (ahead sh side c)) sh.relations i.1;
          to = ltb-false (layer (behind sh side c)) sh.relations i.0;
          end = behind_end side c i.0 i.1;
          holds = leb-true d (y c) i.2;
        })
      ]

  -- where no cell leads on, the reached relations are closed
  pub none_leads_closed : next_cell sh side pass y d R 0 ≡ None → Closed (turned sh side) pass y d (reached sh.relations layer)
  none_leads_closed e = record {
    no_raise = λ c l p. (shut c l p).0;
    no_lower = λ c l p b h. (shut c l p).1 b (le-leb d (y c) h);
  }
    where
      none : (c : ℕ) → cond (is_leading sh side pass y d R c) (Some c) None ≡ None → is_leading sh side pass y d R c ≡ false
      none c h =
          elim (cases_Bool (is_leading sh side pass y d R c)) [
            | inr f ↦ f
            | inl f ↦ let g : Some c ≡ None = rw f at h in cc
          ]

      shut : (c : ℕ) → c < sh.cells → pass c ≡ true
          → (reached sh.relations layer (behind sh side c) ≡ true → reached sh.relations layer (ahead sh side c) ≡ true)
          × (reached sh.relations layer (ahead sh side c) ≡ true → leb d (y c) ≡ true → reached sh.relations layer (behind sh side c) ≡ true)
      shut c l = lead_false (pass c) (reached sh.relations layer (behind sh side c)) (reached sh.relations layer (ahead sh side c)) (leb d (y c))
          (none c (first_none (sh.cells - 0) 0 _ e c (omega arith) (omega arith)))

  -- what the scan found
  pub record Next (from c : ℕ) : Type 0 where
    pub inside : c < sh.cells
    pub onward : from ≤ c
    pub leads : Raised c ⊎ Lowered c

  pub scan_found : (from c : ℕ) → next_cell sh side pass y d R from ≡ Some c → Next from c
  scan_found from c e =
      let w = first_some (sh.cells - from) from _ c e in
      let i = here w.at w.here in
      subst (Next from) i.1 (record { inside = omega (arith, w.high, w.low); onward = w.low; leads = leads_ways w.at i.0 })
    where
      here : (i : ℕ) → cond (is_leading sh side pass y d R i) (Some i) None ≡ Some c → (is_leading sh side pass y d R i ≡ true) × (i ≡ c)
      here i h =
          elim (cases_Bool (is_leading sh side pass y d R i)) [
            | inl f ↦ let g : Some i ≡ Some c = rw f at h in (f, cc)
            | inr f ↦ let g : None ≡ Some c = rw f at h in cc
          ]

-- The search goes on by the cell c.
module _ (sh : Shape) (side : Side) (pass : ℕ → Bool) (y : ℕ → ℕ) (d start : ℕ) (ways : List (Option Reach)) (count from c : ℕ) (ok : Sound sh)
    (l : sh.relations ≤ length ways) (k : Searched (turned sh side) pass y d start (layer_in sh.relations ways) (via_in ways) count)
    (n : Next sh side pass y d (layer_in sh.relations ways) from c) where
  abbrev layer : ℕ → ℕ
  layer = layer_in sh.relations ways

  abbrev q : ℕ
  q = far_end_of sh (reached sh.relations layer) c

  abbrev more : List (Option Reach)
  more = set ways q (Some (record { layer = count; via = c }))

  here : q < sh.relations → way_to more q ≡ Some (record { layer = count; via = c })
  here lq = get_or-set_same ways q (Some (record { layer = count; via = c })) None (omega arith)

  other : (r : ℕ) → (r ≡ q → ⊥) → way_to more r ≡ way_to ways r
  other r ne = get_or-set_other ways q r (Some (record { layer = count; via = c })) None ne

  abbrev layer' : ℕ → ℕ
  layer' = layer_in sh.relations more

  mark : (p : ℕ) → p < sh.relations → q < sh.relations → sh.relations ≤ layer q → layer p < sh.relations → pass c ≡ true
      → (layer' p < layer' q
      → ((ahead sh side c ≡ q) × (layer' (behind sh side c) < layer' q)) ⊎ ((behind sh side c ≡ q) × (layer' (ahead sh side c) < layer' q) × (d ≤ y c)))
      → Searched (turned sh side) pass y d start layer' (via_in more) (count + 1)
  mark p lp lq out in_p f ways' =
      let at_q : layer' q ≡ count = ap (layer_of sh.relations) (here lq) in
      let same : (r : ℕ) → (r ≡ q → ⊥) → layer' r ≡ layer r = λ r i. ap (layer_of sh.relations) (other r i) in
      searched_more (turned sh side) pass y d start layer (via_in ways) layer' (via_in more) count q k lq out same at_q (λ r i. ap via_of (other r i))
      (subst (Came (turned sh side) pass y d layer' q) (sym (ap via_of (here lq)))
      (record { inside = n.inside; passes = f; ways = ways' (omega (arith, k.ranks p lp in_p, at_q, same p (λ e. omega (arith, ap layer e)))) }))

  -- the far end is a relation that was not reached
  pub record Onward : Type 0 where
    pub inside : q < sh.relations
    pub new : sh.relations ≤ layer q
    pub searched : Searched (turned sh side) pass y d start layer' (via_in more) (count + 1)

  pub onward : Onward
  onward =
      let g = turned_sound sh side ok in
      elim n.leads [
        | inl r ↦
            let lq : q < sh.relations = omega (arith, r.end, g.entered c n.inside) in
            let out : sh.relations ≤ layer q = omega (arith, r.to, ap layer r.end) in
            record { inside = lq; new = out; searched = mark (behind sh side c) (g.left c n.inside) lq out r.from r.passes (λ i. inl (sym r.end, i)) }
        | inr r ↦
            let lq : q < sh.relations = omega (arith, r.end, g.left c n.inside) in
            let out : sh.relations ≤ layer q = omega (arith, r.to, ap layer r.end) in
            record { inside = lq; new = out; searched = mark (ahead sh side c) (g.entered c n.inside) lq out r.from r.passes (λ i. inr (sym r.end, i, r.holds)) }
      ]

-- The search begins: only the start is reached.
pub searched_start : (sh : Shape) (pass : ℕ → Bool) (y : ℕ → ℕ) (d start : ℕ) (layer via : ℕ → ℕ) → start < sh.relations
    → layer start ≡ 0 → ((r : ℕ) → r < sh.relations → (r ≡ start → ⊥) → layer r ≡ sh.relations)
    → Searched sh pass y d start layer via 1
searched_start sh pass y d start layer via l e h =
    record {
      tree = λ r lr i ne. absurd (omega (arith, h r lr ne));
      started = omega arith;
      ranks = λ r lr i. ⊎_elim (λ (j : r ≡ start). omega (arith, ap layer j)) (λ (j : r ≡ start → ⊥). absurd (omega (arith, h r lr j))) (cases_eq r start);
      counted = omega (arith, sum_but sh.relations start out (λ r. 1) l rest, sum_ones sh.relations, now);
    }
  where
    out : ℕ → ℕ
    out r = cond (reached sh.relations layer r) 0 1

    now : out start ≡ 0
    now = rw (lt-ltb (layer start) sh.relations (omega arith))

    rest : (r : ℕ) → r < sh.relations → (r ≡ start → ⊥) → out r ≡ 1
    rest r lr ne = rw (le-ltb (layer r) sh.relations (omega (arith, h r lr ne)))

-- A search that ends with nothing more to reach.
module _ (sh : Shape) (side : Side) (pass : ℕ → Bool) (y : ℕ → ℕ) (d start goal : ℕ) (layer via : ℕ → ℕ) (count : ℕ)
    (k : Searched (turned sh side) pass y d start layer via count) where
  pub explored_shut : sh.relations ≤ layer goal → next_cell sh side pass y d (reached sh.relations layer) 0 ≡ None → Explored (turned sh side) pass y d start goal layer via false
  explored_shut h e = record {
    tree = k.tree;
    goal_reached = λ f. absurd (false≢true f);
    closed = λ _. none_leads_closed sh side pass y d layer e;
    start_inside = λ _. lt-ltb (layer start) sh.relations k.started;
    goal_outside = λ _. le-ltb (layer goal) sh.relations h;
  }

-- the same, where the start is known as a and the goal as b
pub explored_at : (sh : Shape) (pass : ℕ → Bool) (y : ℕ → ℕ) (d start goal a b : ℕ) (layer via : ℕ → ℕ) (found : Bool) → start ≡ a → goal ≡ b
    → Explored sh pass y d start goal layer via found → Explored sh pass y d a b layer via found
explored_at sh pass y d start goal a b layer via found e f k =
    subst (λ i. Explored sh pass y d i b layer via found) e (subst (λ j. Explored sh pass y d start j layer via found) f k)

-- The ways of a search: the relations that have one are those with a layer below m.
abbrev pub Ranked : ℕ → List (Option Reach) → Type 0
Ranked m ways = (r : ℕ) → is_reached ways r ≡ reached m (layer_in m ways) r

pub ranked_reached : (m : ℕ) (ways : List (Option Reach)) → Ranked m ways → is_reached ways ≡ reached m (layer_in m ways)
ranked_reached m ways h = fun_ext h

-- one more relation has a way
pub ranked_set : (m : ℕ) (ways : List (Option Reach)) (q : ℕ) (w : Reach) → q < length ways → w.layer < m → Ranked m ways → Ranked m (set ways q (Some w))
ranked_set m ways q w l lw h r =
    ⊎_elim
    (λ (e : r ≡ q). subst (λ i. is_reached (set ways q (Some w)) i ≡ reached m (layer_in m (set ways q (Some w))) i) (sym e)
    (ap is_some here ∙ sym (ap (λ o. ltb (layer_of m o) m) here ∙ lt-ltb w.layer m lw)))
    (λ (ne : r ≡ q → ⊥). let same = get_or-set_other ways q r (Some w) None ne in ap is_some same ∙ h r ∙ sym (ap (λ o. ltb (layer_of m o) m) same))
    (cases_eq r q)
  where
    here : way_to (set ways q (Some w)) q ≡ Some w
    here = get_or-set_same ways q (Some w) None l

-- the ways at the beginning of a search
module _ (m start : ℕ) (w : Reach) (l : start < m) (first : w.layer ≡ 0) where
  abbrev first_ways : List (Option Reach)
  first_ways = set (replicate m None) start (Some w)

  no_way : (r : ℕ) → way_to (replicate m None) r ≡ None
  no_way r = ⊎_elim (λ (h : r < m). get_or-replicate m r None None h) (λ (h : m ≤ r). get_or_past (replicate m None) r None (omega (arith, length-replicate {A = Option Reach} m None))) (cases_lt r m)

  begun_ranked : Ranked m first_ways
  begun_ranked =
      ranked_set m (replicate m None) start w (omega (arith, length-replicate {A = Option Reach} m None)) (omega arith)
      (λ r. ap is_some (no_way r) ∙ sym (ap (λ o. ltb (layer_of m o) m) (no_way r) ∙ le-ltb m m (omega arith)))

  begun_searched : (sh : Shape) (pass : ℕ → Bool) (y : ℕ → ℕ) (d : ℕ) → sh.relations ≡ m → Searched sh pass y d start (layer_in m first_ways) (via_in first_ways) 1
  begun_searched sh pass y d e =
      searched_start sh pass y d start (layer_in m first_ways) (via_in first_ways) (omega arith)
      (ap (layer_of m) (get_or-set_same (replicate m None) start (Some w) None (omega (arith, length-replicate {A = Option Reach} m None))) ∙ first)
      (λ r _ ne. ap (layer_of m) (get_or-set_other (replicate m None) start r (Some w) None ne ∙ no_way r) ∙ sym e)

  pub begun : (sh : Shape) (pass : ℕ → Bool) (y : ℕ → ℕ) (d : ℕ) → sh.relations ≡ m → (ways : List (Option Reach)) → ways ≡ replicate m None
      → Searched sh pass y d start (layer_in m (set ways start (Some w))) (via_in (set ways start (Some w))) 1 × Ranked m (set ways start (Some w))
  begun sh pass y d e ways none =
      subst (λ xs. Searched sh pass y d start (layer_in m (set xs start (Some w))) (via_in (set xs start (Some w))) 1 × Ranked m (set xs start (Some w))) (sym none)
      (begun_searched sh pass y d e, begun_ranked)

-- The search goes on, from what the look for a cell answered and what the far end is.
module _ (sh : Shape) (side : Side) (pass : ℕ → Bool) (y : ℕ → ℕ) (d start : ℕ) (ways : List (Option Reach)) (count from c r : ℕ) (ok : Sound sh)
    (l : sh.relations ≤ length ways) (h : Ranked sh.relations ways)
    (k : Searched (turned sh side) pass y d start (layer_in sh.relations ways) (via_in ways) count)
    (e : Some c ≡ next_cell sh side pass y d (is_reached ways) from) (f : r ≡ far_end_of sh (is_reached ways) c) where
  on : Onward sh side pass y d start ways count from c ok l k (scan_found sh side pass y d (layer_in sh.relations ways) from c
      (sym (subst (λ R. Some c ≡ next_cell sh side pass y d R from) (ranked_reached sh.relations ways h) e)))
  on = onward sh side pass y d start ways count from c ok l k (scan_found sh side pass y d (layer_in sh.relations ways) from c
      (sym (subst (λ R. Some c ≡ next_cell sh side pass y d R from) (ranked_reached sh.relations ways h) e)))

  end : r ≡ far_end_of sh (reached sh.relations (layer_in sh.relations ways)) c
  end = subst (λ R. r ≡ far_end_of sh R c) (ranked_reached sh.relations ways h) f

  pub reached_room : count < sh.relations
  reached_room = searched_room (turned sh side) pass y d start (layer_in sh.relations ways) (via_in ways) count (far_end_of sh (reached sh.relations (layer_in sh.relations ways)) c) k on.inside on.new

  abbrev longer : List (Option Reach)
  longer = set ways r (Some (record { layer = count; via = c }))

  pub reached_more : Searched (turned sh side) pass y d start (layer_in sh.relations longer) (via_in longer) (count + 1) × Ranked sh.relations longer
  reached_more = (
    subst (λ q. Searched (turned sh side) pass y d start (layer_in sh.relations (set ways q (Some (record { layer = count; via = c })))) (via_in (set ways q (Some (record { layer = count; via = c })))) (count + 1)) (sym end) on.searched,
    ranked_set sh.relations ways r (record { layer = count; via = c }) (omega (arith, end, on.inside)) reached_room h,
  )

-- a relation with no way is in no layer below m
pub way_none : (m : ℕ) (ways : List (Option Reach)) (r : ℕ) → is_reached ways r ≡ false → m ≤ layer_in m ways r
way_none m ways r = of (way_to ways r)
  where
    of : (o : Option Reach) → is_some o ≡ false → m ≤ layer_of m o
    of (Some w) e = absurd (true≢false e)
    of None e = omega arith
