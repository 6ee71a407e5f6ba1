-- The layout that a list of edges stands for, and the lists of a layout's answers. They name no network, so that its ghost fields may cite them.
use Rattle.std.specs.Prelude.{ℕ, Bool, false, ◌&&◌, List, [], map, length, vec_items, slice_index, slice_index_or}
use Rattle.std.specs.List.{range_with_len}
use Rattle.layouts.specs.declared.network.Edge.{Edge}
use Rattle.layouts.specs.Shape.{Shape, is_leaf}

-- what the edge of a cell says
abbrev pub leaves_at : List Edge → ℕ → ℕ
leaves_at edges c = slice_index (map (λ e. e.leaves) edges) c

abbrev pub enters_at : List Edge → ℕ → ℕ
enters_at edges c = slice_index (map (λ e. e.enters) edges) c

abbrev pub leaf_at : List Edge → ℕ → Bool
leaf_at edges c = slice_index_or (map (λ e. e.leaf) edges) c false

abbrev pub under_at : List Edge → ℕ → List Bool
under_at edges l = slice_index_or (map (λ e. vec_items e.under) edges) l []

-- The edge of a leaf says at c whether it counts under the cell c.
abbrev pub copied : ℕ → List Edge → Shape
copied relations edges = record {
  cells = length edges;
  relations = relations;
  leaf = leaf_at edges;
  leaves = leaves_at edges;
  enters = enters_at edges;
  counts = λ c l. slice_index_or (under_at edges l) c false;
}

-- f 0, f 1, .., f (n - 1)
abbrev pub values : {X : Type 0} → ℕ → (ℕ → X) → List X
values n f = map f (range_with_len 0 n)

-- the marks of the cell l: where it is a leaf, whether it counts under each cell; where it is a total, nothing but false
abbrev pub marks_of : Shape → ℕ → ℕ → Bool
marks_of s l c = is_leaf s l && s.counts c l
