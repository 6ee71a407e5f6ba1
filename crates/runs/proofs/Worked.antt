-- The worked run is a run.
use Rattle.std.proofs.Common.{◌≡◌, ℕ, zero, suc, ◌^◌, ◌<◌, ◌≤◌, true, [], ◌∷◌, Some, None, Option, sym, refl, ap, ◌∙◌, subst, arith, lit<, lit≤}
use Rattle.std.specs.Fmt.{digits}
use Rattle.std.proofs.lemmas.Bool.{false≢true}
use Rattle.refusals.specs.declared.Side.{Side}
use Rattle.refusals.specs.declared.Side.TheVariants.{Up, Down}
use Rattle.layouts.specs.Gridded.{grid_laws}
use Rattle.page.specs.Page.{page as bytes, line}
use Rattle.readings.specs.Balance.{Balanced}
use Rattle.readings.specs.Readings.{Withholds}
use Rattle.readings.specs.Exposure.{sensitive, audit}
use Rattle.readings.specs.Theorems.{Hidden, Audited}
use Rattle.readings.specs.Worked.{grid_a, figures_a, withheld_a, lowest_a, highest_a}
use Rattle.readings.proofs.Audits.{audit_right_lem}
use Rattle.readings.proofs.Ends.{runs_from_0_to_220}
use Rattle.runs.specs.Acts.{Standing, withhold, fresh, exposure, withheld, page_of, accepted, unless, page}
use Rattle.runs.specs.Pairs.{Settled}
use Rattle.runs.specs.Worked.{sheet_a, page_a, WorkedRun}
use Rattle.runs.proofs.Hiding.{reading_more, fit}

-- THE SHEET
figures_balanced : Balanced grid_a figures_a
figures_balanced zero l = refl
figures_balanced (suc zero) l = refl
figures_balanced (suc (suc zero)) l = refl
figures_balanced (suc (suc (suc zero))) l = refl
figures_balanced (suc (suc (suc (suc zero)))) l = refl
figures_balanced (suc (suc (suc (suc (suc zero))))) l = refl
figures_balanced (suc (suc (suc (suc (suc (suc r)))))) l = absurd (omega arith)

needs_within : (c : ℕ) → c < 9 → sheet_a.need c ≤ figures_a c
needs_within zero l = lit≤ tt
needs_within (suc c) l = let none : sheet_a.need (suc c) ≡ 0 = refl in omega arith

figures_small : (c : ℕ) → c < 9 → figures_a c < 10 ^ 13
figures_small zero l = lit< tt
figures_small (suc zero) l = lit< tt
figures_small (suc (suc zero)) l = lit< tt
figures_small (suc (suc (suc zero))) l = lit< tt
figures_small (suc (suc (suc (suc zero)))) l = lit< tt
figures_small (suc (suc (suc (suc (suc zero))))) l = lit< tt
figures_small (suc (suc (suc (suc (suc (suc zero)))))) l = lit< tt
figures_small (suc (suc (suc (suc (suc (suc (suc zero))))))) l = lit< tt
figures_small (suc (suc (suc (suc (suc (suc (suc (suc zero)))))))) l = lit< tt
figures_small (suc (suc (suc (suc (suc (suc (suc (suc (suc c))))))))) l = absurd (omega arith)

settled : Settled sheet_a
settled = record {
  sound = record { left = (grid_laws 2 2).left; entered = (grid_laws 2 2).entered };
  few = lit≤ tt;
  balanced = figures_balanced;
  within = needs_within;
  small = figures_small;
}

only_cell_0 : (c : ℕ) → sensitive sheet_a.need c ≡ true → c ≡ 0
only_cell_0 zero e = refl
only_cell_0 (suc c) e = absurd (false≢true e)

-- THE COMPLEMENTS 1 AND 3
abbrev weak : Standing
weak = accepted sheet_a fresh (withhold (1 ∷ 3 ∷ []))

-- row 0 and column 0 then give cell 0 away
weak_exposes : Hidden sheet_a (withheld sheet_a weak) 0 Up → ⊥
weak_exposes (y, w) =
    let r = w.reading in
    let far = w.away in
    omega (
      arith,
      r.balanced 1 (lit< tt),
      r.balanced 2 (lit< tt),
      r.true_figures 4 (lit< tt) refl,
      r.true_figures 5 (lit< tt) refl,
      r.true_figures 6 (lit< tt) refl,
    )

weak_audit : audit sheet_a (withheld sheet_a weak) ≡ Some (0, Up)
weak_audit = go (audit sheet_a (withheld sheet_a weak)) refl
  where
    right : Audited sheet_a (withheld sheet_a weak)
    right = audit_right_lem sheet_a (withheld sheet_a weak) (fit sheet_a settled weak)

    at : (c : ℕ) (side : Side) → c ≡ 0 → audit sheet_a (withheld sheet_a weak) ≡ Some (c, side) → ◌≡◌ {A = Option (ℕ × Side)} (Some (c, side)) (Some (0, Up))
    at c Up is e = ap (λ i. Some (i, Up)) is
    at c Down is e = absurd (weak_exposes (right.up_first 0 (e ∙ ap (λ i. Some (i, Down)) is)))

    go : (o : Option (ℕ × Side)) → audit sheet_a (withheld sheet_a weak) ≡ o → audit sheet_a (withheld sheet_a weak) ≡ Some (0, Up)
    go None e = absurd (weak_exposes (right.passes.0 e 0 (lit< tt) refl Up))
    go (Some p) e = e ∙ at p.0 p.1 (only_cell_0 p.0 (right.names p.0 p.1 e).is_sensitive) e

-- THE COMPLEMENTS 1, 3 AND 4
abbrev enough : Standing
enough = accepted sheet_a weak (withhold (1 ∷ 3 ∷ 4 ∷ []))

enough_withholds : Withholds 9 withheld_a (withheld sheet_a enough)
enough_withholds zero l e = refl
enough_withholds (suc zero) l e = refl
enough_withholds (suc (suc zero)) l e = absurd (false≢true e)
enough_withholds (suc (suc (suc zero))) l e = refl
enough_withholds (suc (suc (suc (suc zero)))) l e = refl
enough_withholds (suc (suc (suc (suc (suc zero))))) l e = absurd (false≢true e)
enough_withholds (suc (suc (suc (suc (suc (suc zero)))))) l e = absurd (false≢true e)
enough_withholds (suc (suc (suc (suc (suc (suc (suc zero))))))) l e = absurd (false≢true e)
enough_withholds (suc (suc (suc (suc (suc (suc (suc (suc zero)))))))) l e = absurd (false≢true e)
enough_withholds (suc (suc (suc (suc (suc (suc (suc (suc (suc c))))))))) l e = absurd (omega arith)

-- the readings of cell 0 run far enough on both sides
enough_hides : (side : Side) → Hidden sheet_a (withheld sheet_a enough) 0 side
enough_hides Up = (highest_a, record { reading = reading_more grid_a withheld_a (withheld sheet_a enough) figures_a highest_a enough_withholds runs_from_0_to_220.highest; away = lit≤ tt })
enough_hides Down = (lowest_a, record { reading = reading_more grid_a withheld_a (withheld sheet_a enough) figures_a lowest_a enough_withholds runs_from_0_to_220.lowest; away = lit≤ tt })

enough_audit : audit sheet_a (withheld sheet_a enough) ≡ None
enough_audit =
    (audit_right_lem sheet_a (withheld sheet_a enough) (fit sheet_a settled enough)).passes.1
    (λ c l h side. subst (λ i. Hidden sheet_a (withheld sheet_a enough) i side) (sym (only_cell_0 c h)) (enough_hides side))

page_of_enough : page_of sheet_a enough ≡ page_a
unfolding bytes line digits
page_of_enough = refl

pub worked_run_lem : WorkedRun
worked_run_lem = record {
  settled = settled;
  is_run = (
    (
      (
        (
          (tt, refl),
          sym (ap (λ o. unless (exposure o) (page (page_of sheet_a weak))) weak_audit),
        ),
        refl,
      ),
      refl,
    ),
    ap page (sym page_of_enough) ∙ sym (ap (λ o. unless (exposure o) (page (page_of sheet_a enough))) enough_audit),
  );
}
