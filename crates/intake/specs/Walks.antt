-- What a walk over a deposit's chains reads.
use Rattle.std.specs.Prelude.{◌≡◌, ℕ, ◌+◌, ◌*◌, ◌≤◌, true, List, [], ◌∷◌}
use Rattle.layouts.specs.Shape.{Shape, is_leaf}
use Rattle.layouts.specs.declared.memory.Contribution.{Contribution}

-- contributions that can be entered: each at a leaf, and no amount above the largest
abbrev pub Good : Shape → List Contribution → Type 0
Good s [] = Unit {0}
Good s (x ∷ xs) = (is_leaf s x.leaf ≡ true) × (x.amount ≤ 1000000000) × Good s xs

-- the record at that place lies within so many bytes
abbrev pub RecordInside : ℕ → ℕ → ℕ → Type 0
RecordInside size cells at = (8 + 4 * cells + 12 * (at + 1) ≤ size) × (size ≤ 8 + 4 * 512 + 12 * 2048) × (cells ≤ 512)
