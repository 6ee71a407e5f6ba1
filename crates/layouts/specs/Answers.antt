-- What a layout answers, by its meaning: a number beyond the layout, or a total in place of a leaf, has no answer.
use Rattle.std.specs.Prelude.{ℕ, Bool, cond, ◌&&◌, Some, None, Option, nat_lt}
use Rattle.layouts.specs.declared.Kind.{Kind}
use Rattle.layouts.specs.declared.Kind.TheVariants.{Leaf, Total}
use Rattle.layouts.specs.Shape.{Shape, is_leaf}

-- x where the test passes, and otherwise nothing
abbrev pub only : {X : Type 0} → Bool → X → Option X
only test x = cond test (Some x) None

abbrev pub kind_of : Shape → ℕ → Option Kind
kind_of s c = only (nat_lt c s.cells) (cond (s.leaf c) Leaf Total)

abbrev pub leaves_of : Shape → ℕ → Option ℕ
leaves_of s c = only (nat_lt c s.cells) (s.leaves c)

abbrev pub enters_of : Shape → ℕ → Option ℕ
enters_of s c = only (nat_lt c s.cells) (s.enters c)

abbrev pub counts_of : Shape → ℕ → ℕ → Option Bool
counts_of s c l = only (nat_lt c s.cells && is_leaf s l) (s.counts c l)
