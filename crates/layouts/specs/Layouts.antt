-- The meaning of a list and of a grid, and the sizes that they may have.
use Rattle.std.specs.Prelude.{ℕ, ◌+◌, ◌*◌, ◌/◌, ◌%◌, Bool, true, false, cond, ◌&&◌, [], ◌∷◌, nat_le, nat_lt}
use Rattle.sums.specs.Sums.{among}
use Rattle.layouts.specs.Shape.{Shape}

-- n is one of low, low + 1, .., high
abbrev pub between : ℕ → ℕ → ℕ → Bool
between low high n = nat_le low n && nat_le n high

abbrev pub list_size : ℕ → Bool
list_size n = between 1 1023 n

abbrev pub grid_size : ℕ → ℕ → Bool
grid_size R C = between 1 31 R && between 1 31 C

-- n leaves, then their total; every leaf leaves relation 0 and enters relation 1, the total goes the other way
abbrev pub listed : ℕ → Shape
listed n = record {
  cells = n + 1;
  relations = 2;
  leaf = λ c. nat_lt c n;
  leaves = λ c. cond (nat_lt c n) 0 1;
  enters = λ c. cond (nat_lt c n) 1 0;
  counts = λ c l. among c (l ∷ n ∷ []);
}

-- R rows and C columns, with the totals of the rows in column C and those of the columns in row R
module _ (R C : ℕ) where
  abbrev pub place : ℕ → ℕ → ℕ
  place r c = r * (C + 1) + c

  abbrev pub row : ℕ → ℕ
  row k = k / (C + 1)

  abbrev pub column : ℕ → ℕ
  column k = k % (C + 1)

  -- a choice by where a cell stands: inside, at a row's end, at a column's foot, or in the corner
  abbrev pub by : {X : Type 0} → ℕ → X → X → X → X → X
  by k inside end foot corner = cond (nat_lt (row k) R) (cond (nat_lt (column k) C) inside end) (cond (nat_lt (column k) C) foot corner)

  -- relation r < R is row r, relation R + c is column c, relation R + C has the row totals, R + C + 1 the column totals
  abbrev pub grid : Shape
  grid = record {
    cells = (R + 1) * (C + 1);
    relations = R + C + 2;
    leaf = λ k. by k true false false false;
    leaves = λ k. by k (row k) (R + C) (R + column k) (R + C + 1);
    enters = λ k. by k (R + column k) (row k) (R + C + 1) (R + C);
    counts = λ k l. among k (l ∷ place (row l) C ∷ place R (column l) ∷ place R C ∷ []);
  }
