-- A table that is written at the front of longer memory.
use Rattle.std.proofs.Common.{◌≡◌, ℕ, ◌<◌, Bool, cond, eqb, List, ◌++◌, length, drop, sym, ap, ◌∙◌, subst}
use Rattle.std.proofs.lemmas.List.{get_or_append_left}
use Rattle.refusals.specs.declared.Side.{Side}
use Rattle.sums.proofs.SumBelow.{sum_same}
use Rattle.layouts.specs.Shape.{Shape}
use Rattle.readings.specs.Readings.{Away, Witness}
use Rattle.readings.specs.Paths.{at}

pub front_inside : (memory table written : List ℕ) → written ≡ table ++ drop (length table) memory → (c : ℕ) → c < length table → at written c ≡ at table c
front_inside memory table written e c l = ap (λ (xs : List ℕ). at xs c) e ∙ get_or_append_left table (drop (length table) memory) 0 c l

-- A table with the same values at the cells is a witness too.
pub witness_same : (sh : Shape) (withheld : ℕ → Bool) (v : ℕ → ℕ) (k t : ℕ) (side : Side) (y z : ℕ → ℕ) → t < sh.cells
    → ((c : ℕ) → c < sh.cells → z c ≡ y c) → Witness sh withheld v k t side y → Witness sh withheld v k t side z
witness_same sh withheld v k t side y z l same w = record {
  reading = record {
    balanced = λ r lr.
        sum_same sh.cells _ _ (λ c lc. ap (λ n. cond (eqb (sh.enters c) r) n 0) (same c lc))
        ∙ w.reading.balanced r lr
        ∙ sum_same sh.cells _ _ (λ c lc. ap (λ n. cond (eqb (sh.leaves c) r) n 0) (sym (same c lc)));
    true_figures = λ c lc h. same c lc ∙ w.reading.true_figures c lc h;
  };
  away = subst (Away side k (v t)) (sym (same t l)) w.away;
}
