-- Which refusal comes first.
use Rattle.std.proofs.Common.{◌≡◌, ℕ, true, false, Some, None, Ok, Err, Option, refl, arith}
use Rattle.std.proofs.lemmas.Bool.Decides.{nat_tests}
use Rattle.refusals.specs.declared.Refusal.{Refusal}
use Rattle.refusals.specs.declared.Refusal.TheVariants.{LayoutSize, RuleRange}
use Rattle.layouts.specs.Admission.{admissible}
use Rattle.settings.specs.declared.choices.Settings.{Settings}
use Rattle.settings.specs.Asked.{shape_asked}
use Rattle.job.specs.Chosen.{layout_range, rule_range}
use Rattle.layouts.specs.Shape.{Shape}
use Rattle.job.specs.Job.{early, too_large, unless_refused}

module _ (s : Settings) (size : ℕ) where
  pub early_layout : layout_range s.layout ≡ false → early s size ≡ Some LayoutSize
  early_layout l = rw l

  pub early_rule : layout_range s.layout ≡ true → rule_range s.rule ≡ false → early s size ≡ Some RuleRange
  early_rule l r = rw (l, r)

  pub early_size : layout_range s.layout ≡ true → rule_range s.rule ≡ true → early s size ≡ too_large (shape_asked s.layout) size
  early_size l r = rw (l, r)

pub size_refused : (o : Option Refusal) (e : Refusal) → Err e ≡ unless_refused o → o ≡ Some e
size_refused (Some x) e h = cc
size_refused None e h = absurd cc

pub size_passed : (o : Option Refusal) (u : Unit {0}) → Ok u ≡ unless_refused o → o ≡ None
size_passed (Some x) u h = absurd cc
size_passed None u h = refl

-- a job that is not too large is admitted
pub passed_admissible : (s : Shape) (size : ℕ) → too_large s size ≡ None → admissible s ≡ true
passed_admissible s size h = grind (arith, nat_tests)
