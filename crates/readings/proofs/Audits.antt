-- The audit names the first cell that is exposed.
use Rattle.std.proofs.Common.{◌≡◌, ℕ, ◌<◌, ◌≤◌, Bool, true, false, cond, Some, None, Option, sym, refl, ap, subst, inl, inr, ⊎_elim, arith}
use Rattle.std.proofs.lemmas.Bool.{cases_Bool, false≢true, both_ways, and_parts, and_from}
use Rattle.refusals.specs.declared.Side.{Side}
use Rattle.refusals.specs.declared.Side.TheVariants.{Up, Down}
use Rattle.readings.specs.Exposure.{is_exposed, Figures, sensitive, is_told, exposure_at, audit}
use Rattle.readings.specs.Theorems.{Room, Fit, Hidden, Safe, Told, AuditRight}
use Rattle.readings.proofs.Walls.{exposed_near, far_or_exposed}
use Rattle.readings.proofs.Firsts.{first_none, none_first, first_some}

-- What the answer at a cell says of its two tests.
pub picked_none : (a b : Bool) (c : ℕ) → ◌≡◌ {A = Option (ℕ × Side)} (cond a (Some (c, Up)) (cond b (Some (c, Down)) None)) None → (a ≡ false) × (b ≡ false)
picked_none true b c e = cc
picked_none false true c e = cc
picked_none false false c e = (refl, refl)

pub none_picked : (a b : Bool) (c : ℕ) → a ≡ false → b ≡ false → ◌≡◌ {A = Option (ℕ × Side)} (cond a (Some (c, Up)) (cond b (Some (c, Down)) None)) None
none_picked true b c p q = absurd (false≢true (sym p))
none_picked false true c p q = absurd (false≢true (sym q))
none_picked false false c p q = refl

some_same : {A : Type 0} (x y : A) → Some x ≡ Some y → x ≡ y
some_same x y e = cc

abbrev PickSide : Bool → Bool → Side → Type 0
PickSide a b Up = a ≡ true
PickSide a b Down = (a ≡ false) × (b ≡ true)

picked : (a b : Bool) (c i : ℕ) (side : Side) → ◌≡◌ {A = Option (ℕ × Side)} (cond a (Some (c, Up)) (cond b (Some (c, Down)) None)) (Some (i, side))
    → (i ≡ c) × PickSide a b side
picked true b c i side e = let p = some_same (c, Up) (i, side) e in (sym (ap (λ (t : ℕ × Side). t.0) p), subst (PickSide true b) (ap (λ (t : ℕ × Side). t.1) p) refl)
picked false true c i side e = let p = some_same (c, Down) (i, side) e in (sym (ap (λ (t : ℕ × Side). t.0) p), subst (PickSide false true) (ap (λ (t : ℕ × Side). t.1) p) (refl, refl))
picked false false c i side e = cc

room_at : (v : ℕ → ℕ) (k t : ℕ) (side : Side) → k ≤ v t → Room v k t side
room_at v k t Up h = tt
room_at v k t Down h = h

module _ (F : Figures) (withheld : ℕ → Bool) where
  two_sides : (c : ℕ) → is_told F withheld c Up ≡ false → is_told F withheld c Down ≡ false → (side : Side) → is_told F withheld c side ≡ false
  two_sides c p q Up = p
  two_sides c p q Down = q

  module _ (fit : Fit F withheld) where
    told_exposed : (c : ℕ) → c < F.shape.cells → (side : Side) → is_told F withheld c side ≡ true → Told F withheld c side
    told_exposed c l side e =
        let p = and_parts (sensitive F.need c) (is_exposed F.shape withheld F.figure (F.need c) c side) e in
        record { inside = l; is_sensitive = p.0; exposed = exposed_near F.shape withheld F.figure c fit.sound fit.balanced l (F.need c) side p.1 }

    not_told_hidden : (c : ℕ) → c < F.shape.cells → sensitive F.need c ≡ true → (side : Side) → is_told F withheld c side ≡ false → Hidden F withheld c side
    not_told_hidden c l h side e =
        ⊎_elim (λ (far : Hidden F withheld c side). far)
        (λ (x : is_exposed F.shape withheld F.figure (F.need c) c side ≡ true).
        absurd (both_ways (is_told F withheld c side) e (and_from (sensitive F.need c) (is_exposed F.shape withheld F.figure (F.need c) c side) h x)))
        (far_or_exposed F.shape withheld F.figure c fit.sound fit.balanced l (fit.hidden c l h) (F.need c) side
        (room_at F.figure (F.need c) c side (fit.within c l h)))

    safe_not_told : Safe F withheld → (c : ℕ) → c < F.shape.cells → (side : Side) → is_told F withheld c side ≡ false
    safe_not_told safe c l side =
        elim (cases_Bool (is_told F withheld c side)) [
          | inr h ↦ h
          | inl h ↦ let u = told_exposed c l side h in absurd (u.exposed (safe c l u.is_sensitive side))
        ]

    none_told : (c : ℕ) → exposure_at F withheld c ≡ None → (side : Side) → is_told F withheld c side ≡ false
    none_told c e = let p = picked_none (is_told F withheld c Up) (is_told F withheld c Down) c e in two_sides c p.0 p.1

    picked_told : (i : ℕ) (side : Side) → PickSide (is_told F withheld i Up) (is_told F withheld i Down) side → is_told F withheld i side ≡ true
    picked_told i Up h = h
    picked_told i Down h = h.1

    picked_up : (i : ℕ) (side : Side) → PickSide (is_told F withheld i Up) (is_told F withheld i Down) side → side ≡ Down → is_told F withheld i Up ≡ false
    picked_up i Up h e = cc
    picked_up i Down h e = h.0

    -- what the audit's answer says of the tests
    record Named (c : ℕ) (side : Side) : Type 0 where
      inside : c < F.shape.cells
      told : is_told F withheld c side ≡ true
      before : (b : ℕ) → b < c → (other : Side) → is_told F withheld b other ≡ false
      not_up : side ≡ Down → is_told F withheld c Up ≡ false

    named : (c : ℕ) (side : Side) → audit F withheld ≡ Some (c, side) → Named c side
    named c side e =
        let w = first_some F.shape.cells 0 (exposure_at F withheld) (c, side) e in
        let p = picked (is_told F withheld w.at Up) (is_told F withheld w.at Down) w.at c side w.here in
        subst (λ i. Named i side) (sym p.0) (record {
          inside = omega (arith, w.high);
          told = picked_told w.at side p.1;
          before = λ b l. none_told b (w.before b (omega arith) l);
          not_up = picked_up w.at side p.1;
        })

pub audit_right_lem : AuditRight
audit_right_lem F withheld fit = record {
  passes = (
    λ e c l h side. not_told_hidden F withheld fit c l h side (none_told F withheld fit c (first_none F.shape.cells 0 (exposure_at F withheld) e c (omega arith) (omega arith)) side),
    λ safe. none_first F.shape.cells 0 (exposure_at F withheld) (λ c _ l. none_picked (is_told F withheld c Up) (is_told F withheld c Down) c
        (safe_not_told F withheld fit safe c (omega arith) Up) (safe_not_told F withheld fit safe c (omega arith) Down)),
  );
  names = λ c side e. let w = named F withheld fit c side e in told_exposed F withheld fit c w.inside side w.told;
  first = λ c side e b l h other. let w = named F withheld fit c side e in not_told_hidden F withheld fit b (omega (arith, w.inside)) h other (w.before b l other);
  up_first = λ c e. let w = named F withheld fit c Down e in
      not_told_hidden F withheld fit c w.inside (and_parts (sensitive F.need c) _ w.told).0 Up (w.not_up refl);
}
