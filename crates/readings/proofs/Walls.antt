-- Walls tell which cells are exposed.
use Rattle.std.proofs.Common.{◌≡◌, ℕ, zero, suc, ◌+◌, ◌-◌, ◌<◌, ◌≤◌, Bool, true, false, cond, not, ◌&&◌, eqb, ltb, ◌⊎◌, sym, refl, ap, ◌∙◌, inl, inr, ⊎_elim, arith}
use Rattle.std.proofs.lemmas.Bool.{cases_lt, eq-eqb, ne_eqb, false≢true, both_ways, and_parts, and_from, and_left, and_right, not-true, not_from_false, not_from_true, lt-ltb, ltb-true}
use Rattle.refusals.specs.declared.Side.{Side}
use Rattle.refusals.specs.declared.Side.TheVariants.{Up, Down}
use Rattle.sums.specs.Sums.{sum_below}
use Rattle.sums.proofs.SumBelow.{sum_le, sum_but_le, sum_but, sum_add}
use Rattle.layouts.specs.Shape.{Shape}
use Rattle.readings.specs.Balance.{Balanced, Sound}
use Rattle.readings.specs.Readings.{Reading, Far}
use Rattle.readings.specs.Exposure.{Exposed, behind, ahead, besides, raised_out, lowered_out, any_below, is_wall, is_exposed}
use Rattle.readings.specs.Paths.{turned, Carries, Closed}
use Rattle.readings.specs.Theorems.{Room, WallsTell, WallsStay}
use Rattle.readings.proofs.Crossing.{crossing, turned_balanced, balanced_turned, turned_sound}
use Rattle.readings.proofs.Steps.{carries_none, raise_last, lower_last}
use Rattle.readings.proofs.Sets.{any_below_none, none_any_below, any_set_some, some_any_set, any_set_more, Part}
use Rattle.readings.proofs.Rounds.{put, put_same, put_other, Mended, ShutIn, mended_or_shut_in}

-- The withheld cells besides t: t is none, and any other cell that is none is not withheld.
pub besides_t : (withheld : ℕ → Bool) (t : ℕ) → besides withheld t t ≡ false
besides_t withheld t = and_right (withheld t) (not (eqb t t)) (not_from_true (eqb t t) (eq-eqb t t refl))

pub besides_other : (withheld : ℕ → Bool) (t c : ℕ) → (c ≡ t → ⊥) → besides withheld t c ≡ withheld c
besides_other withheld t c ne = rw (ne_eqb c t ne) (elim (withheld c) as (λ b. (b && true) ≡ b) [ true ↦ refl | false ↦ refl ])

pub besides_not_t : (withheld : ℕ → Bool) (t c : ℕ) → besides withheld t c ≡ true → c ≡ t → ⊥
besides_not_t withheld t c h e = both_ways (besides withheld t c) (ap (besides withheld t) e ∙ besides_t withheld t) h

-- A cell other than t: p that a path may pass it, a that the set has what lies ahead of it, b that it has what lies behind.
-- Of what may be lowered, a reading z may have any less than v.
less_cell : (p a b : Bool) (v z : ℕ) → (p ≡ false → z ≡ v) → (p && (b && not a)) ≡ false
    → cond a v 0 + cond b z 0 ≤ cond (p && (a && not b)) v 0 + (cond a z 0 + cond b v 0)
less_cell true true true v z keep none = omega arith
less_cell true true false v z keep none = omega arith
less_cell true false true v z keep none = absurd (false≢true (sym none))
less_cell true false false v z keep none = omega arith
less_cell false a b v z keep none = rw (keep refl) (omega arith)

-- What may be lowered on a way out of a closed set has 0.
zero_cell : (p a b : Bool) (v y : ℕ) → (p ≡ false → y ≡ v)
    → (p ≡ true → b ≡ true → a ≡ true) → (p ≡ true → a ≡ true → 1 ≤ y → b ≡ true)
    → cond (p && (a && not b)) v 0 + (cond a y 0 + cond b v 0) ≡ cond a v 0 + cond b y 0
zero_cell true true true v y keep out back = omega arith
zero_cell true true false v y keep out back =
    ⊎_elim (λ (l : 0 < y). absurd (false≢true (back refl refl (omega arith)))) (λ (l : y ≤ 0). omega arith) (cases_lt 0 y)
zero_cell true false true v y keep out back = absurd (false≢true (out refl refl))
zero_cell true false false v y keep out back = omega arith
zero_cell false a b v y keep out back = rw (keep refl) (omega arith)

-- a closed set has no way out
shut_cell : (p a b : Bool) → (p ≡ true → b ≡ true → a ≡ true) → (p && (b && not a)) ≡ false
shut_cell true true true out = refl
shut_cell true true false out = refl
shut_cell true false true out = sym (out refl refl)
shut_cell true false false out = refl
shut_cell false a b out = refl

module _ (sh : Shape) (withheld : ℕ → Bool) (v : ℕ → ℕ) (t : ℕ) (side : Side) (S : ℕ → Bool) where
  abbrev into : (ℕ → ℕ) → ℕ → ℕ
  into x c = cond (S (ahead sh side c)) (x c) 0

  abbrev out_of : (ℕ → ℕ) → ℕ → ℕ
  out_of x c = cond (S (behind sh side c)) (x c) 0

  abbrev lowerable : ℕ → ℕ
  lowerable c = cond (lowered_out sh side (besides withheld t) S c) (v c) 0

  at_t : lowerable t ≡ 0
  at_t = ap (λ b. cond b (v t) 0) (and_left (besides withheld t t) (S (ahead sh side t) && not (S (behind sh side t))) (besides_t withheld t))

  keep : (y : ℕ → ℕ) → Reading sh withheld v y → (c : ℕ) → c < sh.cells → (c ≡ t → ⊥) → besides withheld t c ≡ false → y c ≡ v c
  keep y ry c lc ne e = ry.true_figures c lc (sym (besides_other withheld t c ne) ∙ e)

  module _ (ok : Sound sh) (bv : Balanced sh v) (l : t < sh.cells) where
    across : (x : ℕ → ℕ) → Balanced sh x → sum_below sh.cells (into x) ≡ sum_below sh.cells (out_of x)
    across x b = crossing (turned sh side) x S (turned_sound sh side ok) (turned_balanced sh side x b)

    -- Where no cell can be raised on a way out, what t changes by is taken from what can be lowered.
    wall_holds : (z : ℕ → ℕ) → Reading sh withheld v z → ((c : ℕ) → c < sh.cells → raised_out sh side (besides withheld t) S c ≡ false)
        → into z t + out_of v t ≤ sum_below sh.cells lowerable + (into v t + out_of z t)
    wall_holds z rz none =
        omega (
          arith,
          at_t,
          across v bv,
          across z rz.balanced,
          sum_add sh.cells (into v) (out_of z),
          sum_add sh.cells (into z) (out_of v),
          sum_add sh.cells lowerable (λ c. into z c + out_of v c),
          sum_but_le sh.cells t (λ c. into v c + out_of z c) (λ c. lowerable c + (into z c + out_of v c)) l
              (λ c lc ne. less_cell (besides withheld t c) (S (ahead sh side c)) (S (behind sh side c)) (v c) (z c) (keep z rz c lc ne) (none c lc)),
        )

    -- What can be lowered on a way out of a closed set has 0 in the reading y, so v's figures there are what t changed by.
    wall_stands : (y : ℕ → ℕ) → Reading sh withheld v y → Closed (turned sh side) (besides withheld t) y 1 S
        → sum_below sh.cells lowerable + (into v t + out_of y t) ≡ into y t + out_of v t
    wall_stands y ry k =
        omega (
          arith,
          at_t,
          across v bv,
          across y ry.balanced,
          sum_add sh.cells (into v) (out_of y),
          sum_add sh.cells (into y) (out_of v),
          sum_add sh.cells lowerable (λ c. into y c + out_of v c),
          sum_but sh.cells t (λ c. lowerable c + (into y c + out_of v c)) (λ c. into v c + out_of y c) l
              (λ c lc ne. zero_cell (besides withheld t c) (S (ahead sh side c)) (S (behind sh side c)) (v c) (y c) (keep y ry c lc ne) (k.no_raise c lc) (k.no_lower c lc)),
        )

-- the parts of a wall
record Wall (sh : Shape) (withheld : ℕ → Bool) (v : ℕ → ℕ) (k t : ℕ) (side : Side) (S : ℕ → Bool) : Type 0 where
  has : S (sh.enters t) ≡ true
  lacks : S (sh.leaves t) ≡ false
  shut : (c : ℕ) → c < sh.cells → raised_out sh side (besides withheld t) S c ≡ false
  few : sum_below sh.cells (lowerable sh withheld v t side S) < k

module _ (sh : Shape) (withheld : ℕ → Bool) (v : ℕ → ℕ) (k t : ℕ) (side : Side) (S : ℕ → Bool) where
  abbrev crosses : Bool
  crosses = S (sh.enters t) && not (S (sh.leaves t))

  abbrev some_out : Bool
  some_out = any_below sh.cells (raised_out sh side (besides withheld t) S)

  abbrev enough : Bool
  enough = ltb (sum_below sh.cells (lowerable sh withheld v t side S)) k

  wall_parts : is_wall sh withheld v k t side S ≡ true → Wall sh withheld v k t side S
  wall_parts e =
      let p = and_parts (crosses && not some_out) enough e in
      let q = and_parts crosses (not some_out) p.0 in
      let r = and_parts (S (sh.enters t)) (not (S (sh.leaves t))) q.0 in
      record {
        has = r.0;
        lacks = not-true (S (sh.leaves t)) r.1;
        shut = any_below_none sh.cells (raised_out sh side (besides withheld t) S) (not-true some_out q.1);
        few = ltb-true (sum_below sh.cells (lowerable sh withheld v t side S)) k p.1;
      }

  parts_wall : Wall sh withheld v k t side S → is_wall sh withheld v k t side S ≡ true
  parts_wall w =
      and_from (crosses && not some_out) enough
      (and_from crosses (not some_out) (and_from (S (sh.enters t)) (not (S (sh.leaves t))) w.has (not_from_false (S (sh.leaves t)) w.lacks))
      (not_from_false some_out (none_any_below sh.cells (raised_out sh side (besides withheld t) S) w.shut)))
      (lt-ltb (sum_below sh.cells (lowerable sh withheld v t side S)) k w.few)

-- Fewer cells are withheld: a wall stays one.
fewer_out : (w w' n x : Bool) → (w' ≡ true → w ≡ true) → ((w && n) && x) ≡ false → ((w' && n) && x) ≡ false
fewer_out true true n x h e = e
fewer_out false true n x h e = absurd (false≢true (h refl))
fewer_out w false n x h e = refl

fewer_lowered : (w w' n x : Bool) (v : ℕ) → (w' ≡ true → w ≡ true) → cond ((w' && n) && x) v 0 ≤ cond ((w && n) && x) v 0
fewer_lowered true true n x v h = omega arith
fewer_lowered false true n x v h = absurd (false≢true (h refl))
fewer_lowered w false n x v h = omega arith

pub walls_stay_lem : WallsStay
unfolding is_exposed
walls_stay_lem sh less more v k t side h =
    any_set_more sh.relations (is_wall sh more v k t side) (is_wall sh less v k t side) (λ S e.
    let p = wall_parts sh more v k t side S e in
    parts_wall sh less v k t side S (record {
      has = p.has;
      lacks = p.lacks;
      shut = λ c l. fewer_out (more c) (less c) (not (eqb c t)) (S (behind sh side c) && not (S (ahead sh side c))) (h c l) (p.shut c l);
      few = omega (
        arith,
        p.few,
        sum_le sh.cells (lowerable sh less v t side S) (lowerable sh more v t side S)
            (λ c l. fewer_lowered (more c) (less c) (not (eqb c t)) (S (ahead sh side c) && not (S (behind sh side c))) (v c) (h c l)),
      );
    }))

module _ (sh : Shape) (withheld : ℕ → Bool) (v : ℕ → ℕ) (t : ℕ) (ok : Sound sh) (bv : Balanced sh v) (l : t < sh.cells) where
  -- no reading is k away past a wall
  wall_exposed : (k : ℕ) (side : Side) (S : ℕ → Bool) → Wall sh withheld v k t side S → Exposed sh withheld v k t side
  wall_exposed k Up S w far = omega (arith, w.few, far.1.away, simp (w.has, w.lacks) at (wall_holds sh withheld v t Up S ok bv l far.0 far.1.reading w.shut))
  wall_exposed k Down S w far = omega (arith, w.few, far.1.away, simp (w.has, w.lacks) at (wall_holds sh withheld v t Down S ok bv l far.0 far.1.reading w.shut))

  pub exposed_near : (k : ℕ) (side : Side) → is_exposed sh withheld v k t side ≡ true → Exposed sh withheld v k t side
  unfolding is_exposed
  exposed_near k side e =
      let w = any_set_some sh.relations (is_wall sh withheld v k t side) e in
      wall_exposed k side w.0 (wall_parts sh withheld v k t side w.0 w.1)

  -- the value n at t is less than k away from its figure
  abbrev pub Near : ℕ → Side → ℕ → Type 0
  Near k Up n = n < v t + k
  Near k Down n = v t < n + k

  -- A reading y, less than k away from v, with a closed set around the relation that t enters.
  pub record Walled (k : ℕ) (side : Side) : Type 0 where
    pub y : ℕ → ℕ
    pub reads : Reading sh withheld v y
    pub S : ℕ → Bool
    pub closed : Closed (turned sh side) (besides withheld t) y 1 S
    pub has : S (sh.enters t) ≡ true
    pub lacks : S (sh.leaves t) ≡ false
    pub near : Near k side (y t)

  part_closed : (side : Side) (y : ℕ → ℕ) (S T : ℕ → Bool) → Part sh.relations S T
      → Closed (turned sh side) (besides withheld t) y 1 S → Closed (turned sh side) (besides withheld t) y 1 T
  part_closed side y S T p k =
      let g = turned_sound sh side ok in
      record {
        no_raise = λ c lc f h. p.below (ahead sh side c) (g.entered c lc) ∙ k.no_raise c lc f (sym (p.below (behind sh side c) (g.left c lc)) ∙ h);
        no_lower = λ c lc f h i. p.below (behind sh side c) (g.left c lc) ∙ k.no_lower c lc f (sym (p.below (ahead sh side c) (g.entered c lc)) ∙ h) i;
      }

  closed_few : (k : ℕ) (side : Side) (y : ℕ → ℕ) (S : ℕ → Bool) → Reading sh withheld v y → Closed (turned sh side) (besides withheld t) y 1 S
      → S (sh.enters t) ≡ true → S (sh.leaves t) ≡ false → Near k side (y t) → sum_below sh.cells (lowerable sh withheld v t side S) < k
  closed_few k Up y S ry h has lacks near = omega (arith, simp (has, lacks) at (wall_stands sh withheld v t Up S ok bv l y ry h))
  closed_few k Down y S ry h has lacks near = omega (arith, simp (has, lacks) at (wall_stands sh withheld v t Down S ok bv l y ry h))

  pub walled_exposed : (k : ℕ) (side : Side) → Walled k side → is_exposed sh withheld v k t side ≡ true
  unfolding is_exposed
  walled_exposed k side g = some_any_set sh.relations (is_wall sh withheld v k t side) g.S wall
    where
      wall : (T : ℕ → Bool) → Part sh.relations g.S T → is_wall sh withheld v k t side T ≡ true
      wall T p =
          let closed = part_closed side g.y g.S T p g.closed in
          let has = p.below (sh.enters t) (ok.entered t l) ∙ g.has in
          let lacks = p.below (sh.leaves t) (ok.left t l) ∙ g.lacks in
          parts_wall sh withheld v k t side T (record {
            has = has;
            lacks = lacks;
            shut = λ c lc. shut_cell (besides withheld t c) (T (ahead sh side c)) (T (behind sh side c)) (closed.no_raise c lc);
            few = closed_few k side g.y T g.reads closed has lacks g.near;
          })

  module _ (w : withheld t ≡ true) where
    -- With w at t, one is out of place: a way mends it, or a closed set stops it.
    step : (side : Side) (y : ℕ → ℕ) (u : ℕ) → Reading sh withheld v y → Carries (turned sh side) 1 (sh.leaves t) (sh.enters t) (put y t u)
        → ((z : ℕ → ℕ) × Reading sh withheld v z × (z t ≡ u))
        ⊎ ((S : ℕ → Bool) × Closed (turned sh side) (besides withheld t) y 1 S × (S (sh.enters t) ≡ true) × (S (sh.leaves t) ≡ false))
    step side y u ry k =
        ⊎_elim
        (λ (m : Mended (turned sh side) (besides withheld t) (put y t u) (sh.leaves t)). inl (
          m.0,
          record {
            balanced = balanced_turned sh side m.0 m.1;
            true_figures = λ c lc f.
                let ne : c ≡ t → ⊥ = λ e. both_ways (withheld c) f (ap withheld e ∙ w) in
                m.2 c lc (besides_other withheld t c ne ∙ f) ∙ put_other y t u c ne ∙ ry.true_figures c lc f;
          },
          m.2 t l (besides_t withheld t) ∙ put_same y t u,
        ))
        (λ (d : ShutIn (turned sh side) (besides withheld t) (put y t u) (sh.leaves t) (sh.enters t)). inr (
          d.0,
          record {
            no_raise = d.1.no_raise;
            no_lower = λ c lc f h i. d.1.no_lower c lc f h (omega (arith, put_other y t u c (besides_not_t withheld t c f)));
          },
          d.2,
          d.3,
        ))
        (mended_or_shut_in (turned sh side) (besides withheld t) (put y t u) (sh.leaves t) (turned_sound sh side ok) (sh.enters t) k)

    further : (k : ℕ) (side : Side) → Walled k side → Walled (suc k) side
    further k Up g = record { y = g.y; reads = g.reads; S = g.S; closed = g.closed; has = g.has; lacks = g.lacks; near = omega (arith, g.near) }
    further k Down g = record { y = g.y; reads = g.reads; S = g.S; closed = g.closed; has = g.has; lacks = g.lacks; near = omega (arith, g.near) }

    more : (k : ℕ) → Far sh withheld v k t Up → Far sh withheld v (suc k) t Up ⊎ Walled (suc k) Up
    more k (y, w) =
        let ry = w.reading in
        elim (cases_lt (v t + k) (y t)) [
          | inl past ↦ inl (y, record { reading = ry; away = omega arith })
          | inr at ↦ elim (step Up y (y t + 1) ry
              (raise_last sh 1 (sh.leaves t) (sh.leaves t) y (put y t (y t + 1)) t l (carries_none sh 1 (sh.leaves t) y ry.balanced) refl (λ e _ i. put_other y t (y t + 1) e i) (put_same y t (y t + 1)))) [
                | inl z ↦ inl (z.0, record { reading = z.1; away = omega (arith, z.2, w.away) })
                | inr d ↦ inr (record { y = y; reads = ry; S = d.0; closed = d.1; has = d.2; lacks = d.3; near = omega (arith, w.away) })
              ]
        ]

    less : (k : ℕ) → k < v t → Far sh withheld v k t Down → Far sh withheld v (suc k) t Down ⊎ Walled (suc k) Down
    less k room (y, w) =
        let ry = w.reading in
        let u : ℕ = y t - 1 in
        elim (cases_lt (y t + k) (v t)) [
          | inl past ↦ inl (y, record { reading = ry; away = omega arith })
          | inr at ↦ elim (step Down y u ry
              (lower_last (turned sh Down) 1 (sh.leaves t) (sh.leaves t) y (put y t u) t l (carries_none (turned sh Down) 1 (sh.leaves t) y (turned_balanced sh Down y ry.balanced)) refl
              (λ e _ i. sym (put_other y t u e i)) (omega (arith, put_same y t u)))) [
                | inl z ↦ inl (z.0, record { reading = z.1; away = omega (arith, z.2, w.away) })
                | inr d ↦ inr (record { y = y; reads = ry; S = d.0; closed = d.1; has = d.2; lacks = d.3; near = omega (arith, w.away) })
              ]
        ]

    -- step by step, until a reading is far enough or a closed set stops it
    far_or_walled : (k : ℕ) (side : Side) → Room v k t side → Far sh withheld v k t side ⊎ Walled k side
    far_or_walled zero Up room = inl (v, record { reading = record { balanced = bv; true_figures = λ c _ _. refl }; away = omega arith })
    far_or_walled zero Down room = inl (v, record { reading = record { balanced = bv; true_figures = λ c _ _. refl }; away = omega arith })
    far_or_walled (suc k) Up room =
        ⊎_elim (more k) (λ (g : Walled k Up). inr (further k Up g)) (far_or_walled k Up room)
    far_or_walled (suc k) Down room =
        ⊎_elim (less k room) (λ (g : Walled k Down). inr (further k Down g)) (far_or_walled k Down (omega arith))

    pub far_or_exposed : (k : ℕ) (side : Side) → Room v k t side → Far sh withheld v k t side ⊎ (is_exposed sh withheld v k t side ≡ true)
    far_or_exposed k side room =
        elim (far_or_walled k side room) [ inl far ↦ inl far | inr g ↦ inr (walled_exposed k side g) ]

pub walls_tell_lem : WallsTell
walls_tell_lem sh withheld v k t side ok b l w room =
    let far = far_or_exposed sh withheld v t ok b l w k side room in (
      (exposed_near sh withheld v t ok b l k side, λ no. ⊎_elim (λ (u : Far sh withheld v k t side). absurd (no u)) (λ (e : is_exposed sh withheld v k t side ≡ true). e) far),
      λ e. ⊎_elim (λ (u : Far sh withheld v k t side). u) (λ (h : is_exposed sh withheld v k t side ≡ true). absurd (both_ways (is_exposed sh withheld v k t side) e h)) far,
    )
