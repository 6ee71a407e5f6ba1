-- The steps of a trial.
use Rattle.std.proofs.Common.{◌≡◌, ℕ, ◌<◌, ◌≤◌, Bool, true, false, List, length, get_or, set, sym, refl, ap, ◌∙◌, subst, inl, inr, ⊎_elim, arith, get_or-set_other, get_or-set_same}
use mathlib.Core.Path.{fun_ext}
use Rattle.std.proofs.lemmas.List.{set-set, set-get_or}
use Rattle.std.proofs.lemmas.Bool.{cases_Bool, cases_eq, both_ways}
use Rattle.refusals.specs.declared.Side.{Side}
use Rattle.refusals.specs.declared.Side.TheVariants.{Up, Down}
use Rattle.layouts.specs.Shape.{Shape}
use Rattle.layouts.specs.declared.memory.Cover.{Cover}
use Rattle.layouts.specs.declared.memory.Cover.TheVariants.{Shown, Barred}
use Rattle.readings.specs.Balance.{Balanced, Sound}
use Rattle.readings.specs.Readings.{Away, Reading, Witness}
use Rattle.readings.specs.Exposure.{besides, is_exposed}
use Rattle.readings.specs.Paths.{turned, is_withheld, withheld_by, Changed, Closed, Partly, Trying}
use Rattle.readings.proofs.Walls.{besides_t, besides_other, exposed_near, Near, walled_exposed}

-- The cells that are withheld once t is barred are the withheld ones besides t.
pub barred_besides : (covers : List Cover) (bar : Cover) (t : ℕ) → t < length covers → bar ≡ Barred → withheld_by (set covers t bar) ≡ besides (withheld_by covers) t
barred_besides covers bar t l e = fun_ext (λ c. ⊎_elim (here c) (other c) (cases_eq c t))
  where
    here : (c : ℕ) → c ≡ t → withheld_by (set covers t bar) c ≡ besides (withheld_by covers) t c
    here c i = subst (λ k. withheld_by (set covers t bar) k ≡ besides (withheld_by covers) t k) (sym i)
        (ap is_withheld (get_or-set_same covers t bar Shown l ∙ e) ∙ sym (besides_t (withheld_by covers) t))

    other : (c : ℕ) → (c ≡ t → ⊥) → withheld_by (set covers t bar) c ≡ besides (withheld_by covers) t c
    other c ne = ap is_withheld (get_or-set_other covers t c bar Shown ne) ∙ sym (besides_other (withheld_by covers) t c ne)

-- the saved cover, put back over the bar, gives the covers as they were
pub put_back : (covers : List Cover) (bar saved : Cover) (t : ℕ) → saved ≡ get_or covers t Shown → set (set covers t bar) t saved ≡ covers
put_back covers bar saved t e = rw e (simp (set-set, set-get_or))

module _ (sh : Shape) (side : Side) (pass : ℕ → Bool) (v : ℕ → ℕ) (k t : ℕ) where
  partly_start : (s : Side) (n : ℕ) → Partly s k k n n
  partly_start Up n = refl
  partly_start Down n = refl

  pub trying_start : (left : ℕ) (y : ℕ → ℕ) → left ≡ k → y ≡ v → Balanced sh v → Trying sh side pass v k t left left y
  trying_start left y n e b = subst (λ (i : ℕ). Trying sh side pass v k t i i y) (sym n) (subst (Trying sh side pass v k t k k) (sym e) (record {
    balanced = b;
    only = λ c _ _ _. refl;
    moved = partly_start side (v t);
    near = λ c _. omega arith;
    at_most = omega arith;
    some = λ h. h;
  }))

-- What a trial tells of its cell, where it passes the withheld cells besides t.
module _ (sh : Shape) (side : Side) (withheld pass : ℕ → Bool) (v : ℕ → ℕ) (k t left d : ℕ) (y : ℕ → ℕ) (ok : Sound sh) (b : Balanced sh v) (l : t < sh.cells)
    (h : withheld t ≡ true) (p : pass ≡ besides withheld t) (w : Trying sh side pass v k t left d y) where
  reads : Reading sh withheld v y
  reads = record {
    balanced = w.balanced;
    true_figures = λ c lc f.
        let ne : c ≡ t → ⊥ = λ e. both_ways (withheld c) f (ap withheld e ∙ h) in
        w.only c lc (ap (λ (g : ℕ → Bool). g c) p ∙ besides_other withheld t c ne ∙ f) ne;
  }

  near_by : (s : Side) → 0 < left → Partly s k left (v t) (y t) → Near sh withheld v t ok b l k s (y t)
  near_by Up some e = omega arith
  near_by Down some e = omega arith

  -- no path of the amount 1 is left
  pub tried_exposed : 0 < left → d ≤ 1 → (z : ℕ → ℕ) → Changed sh side pass t d y z false → true ≡ is_exposed sh withheld v k t side
  tried_exposed some few z ch =
      let s = ch.stuck refl in
      let one : d ≡ 1 = omega (arith, w.some some) in
      sym (walled_exposed sh withheld v t ok b l k side (record {
        y = y;
        reads = reads;
        S = s.0;
        closed = subst (λ (g : ℕ → Bool). Closed (turned sh side) g y 1 s.0) p (subst (λ i. Closed (turned sh side) pass y i s.0) one s.1);
        has = s.2;
        lacks = s.3;
        near = near_by side some w.moved;
      }))

  away : (s : Side) → left ≤ 0 → Partly s k left (v t) (y t) → Away s k (v t) (y t)
  away Up none e = omega arith
  away Down none e = omega arith

  -- the need is met
  pub tried_shown : left ≤ 0 → Witness sh withheld v k t side y
  tried_shown none = record { reading = reads; away = away side none w.moved }

  pub tried_hidden : left ≤ 0 → false ≡ is_exposed sh withheld v k t side
  tried_hidden none =
      elim (cases_Bool (is_exposed sh withheld v k t side)) [
        | inl e ↦ absurd (exposed_near sh withheld v t ok b l k side e (y, tried_shown none))
        | inr e ↦ sym e
      ]
