-- When a layout is admitted, and what its network stands for.
use Rattle.std.specs.Prelude.{◌≡◌, ℕ, Bool, cond, ◌&&◌, List, map, vec_items, nat_le}
use Rattle.refusals.specs.declared.Refusal.{Refusal}
use Rattle.refusals.specs.declared.Refusal.TheVariants.{LayoutTooLarge, OutOfMemory}
use Rattle.layouts.specs.declared.network.Edge.{Edge}
use Rattle.layouts.specs.declared.network.Network.{Network}
use Rattle.layouts.specs.Shape.{Shape}
use Rattle.layouts.specs.Copied.{copied, marks_of, values}

abbrev pub shape_of : Network → Shape
shape_of n = copied n.relations (vec_items n.edges)

-- the edge says what the layout answers of the cell c
pub record EdgeOf (s : Shape) (c : ℕ) (e : Edge) : Type 0 where
  pub leaves : e.leaves ≡ s.leaves c
  pub enters : e.enters ≡ s.enters c
  pub leaf : e.leaf ≡ s.leaf c
  pub under : vec_items e.under ≡ values s.cells (marks_of s c)

-- the edges say what the layout answers of each cell below n
pub record EdgesOf (s : Shape) (n : ℕ) (edges : List Edge) : Type 0 where
  pub leaves : map (λ e. e.leaves) edges ≡ values n s.leaves
  pub enters : map (λ e. e.enters) edges ≡ values n s.enters
  pub leaf : map (λ e. e.leaf) edges ≡ values n s.leaf
  pub under : map (λ e. vec_items e.under) edges ≡ values n (λ l. values s.cells (marks_of s l))

-- at most 512 cells and at most 128 relations
abbrev pub admissible : Shape → Bool
admissible s = nat_le s.cells 512 && nat_le s.relations 128

-- the one refusal that a layout may meet
abbrev pub layout_refusal : Shape → Refusal
layout_refusal s = cond (admissible s) OutOfMemory LayoutTooLarge
