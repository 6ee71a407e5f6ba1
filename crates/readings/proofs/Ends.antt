-- The readings of cell 0 of grid A run from 0 to 220.
use Rattle.std.proofs.Common.{◌≡◌, ℕ, zero, suc, ◌<◌, false, refl, arith, lit<}
use Rattle.std.proofs.lemmas.Bool.{true≢false}
use Rattle.readings.specs.Balance.{Balanced}
use Rattle.readings.specs.Worked.{grid_a, figures_a, withheld_a, lowest_a, highest_a, RunsFrom0To220}

low_balanced : Balanced grid_a lowest_a
low_balanced zero l = refl
low_balanced (suc zero) l = refl
low_balanced (suc (suc zero)) l = refl
low_balanced (suc (suc (suc zero))) l = refl
low_balanced (suc (suc (suc (suc zero)))) l = refl
low_balanced (suc (suc (suc (suc (suc zero))))) l = refl
low_balanced (suc (suc (suc (suc (suc (suc r)))))) l = absurd (omega arith)

high_balanced : Balanced grid_a highest_a
high_balanced zero l = refl
high_balanced (suc zero) l = refl
high_balanced (suc (suc zero)) l = refl
high_balanced (suc (suc (suc zero))) l = refl
high_balanced (suc (suc (suc (suc zero)))) l = refl
high_balanced (suc (suc (suc (suc (suc zero))))) l = refl
high_balanced (suc (suc (suc (suc (suc (suc r)))))) l = absurd (omega arith)

low_true : (c : ℕ) → c < 9 → withheld_a c ≡ false → lowest_a c ≡ figures_a c
low_true zero l e = absurd (true≢false e)
low_true (suc zero) l e = absurd (true≢false e)
low_true (suc (suc zero)) l e = refl
low_true (suc (suc (suc zero))) l e = absurd (true≢false e)
low_true (suc (suc (suc (suc zero)))) l e = absurd (true≢false e)
low_true (suc (suc (suc (suc (suc c))))) l e = refl

high_true : (c : ℕ) → c < 9 → withheld_a c ≡ false → highest_a c ≡ figures_a c
high_true zero l e = absurd (true≢false e)
high_true (suc zero) l e = absurd (true≢false e)
high_true (suc (suc zero)) l e = refl
high_true (suc (suc (suc zero))) l e = absurd (true≢false e)
high_true (suc (suc (suc (suc zero)))) l e = absurd (true≢false e)
high_true (suc (suc (suc (suc (suc c))))) l e = refl

pub runs_from_0_to_220 : RunsFrom0To220
runs_from_0_to_220 = record {
  lowest = record { balanced = low_balanced; true_figures = low_true };
  lowest_is = refl;
  highest = record { balanced = high_balanced; true_figures = high_true };
  highest_is = refl;
  none_beyond = λ y ry. omega (arith, ry.balanced 0 (lit< tt), ry.true_figures 2 (lit< tt) refl);
}
