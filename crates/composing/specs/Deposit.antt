-- A deposit: the chain of each leaf through the records, in the order of the contributions, as numbers and as bytes.
use Rattle.std.specs.Prelude.{◌≡◌, ℕ, ◌+◌, ◌/◌, ◌%◌, ◌<◌, cond, List, [], ◌∷◌, ◌++◌, length, drop, ◌==◌, slice_index, slice_index_or}
use Rattle.std.specs.List.{flat_map}
use Rattle.layouts.specs.Copied.{values}
use Rattle.layouts.specs.declared.memory.Contribution.{Contribution}

-- The number of the first contribution to the leaf l, where they are numbered from n on; 0 where there is none.
abbrev pub first_of : ℕ → ℕ → List Contribution → ℕ
first_of l n [] = 0
first_of l n (x ∷ xs) = cond (x.leaf == l) n (first_of l (n + 1) xs)

-- the head of each leaf's chain
abbrev pub heads : ℕ → List Contribution → List ℕ
heads cells xs = values cells (λ l. first_of l 1 xs)

-- the records numbered from n on: company, amount, and the number of the next record of the same leaf
abbrev pub records : ℕ → List Contribution → List ℕ
records n [] = []
records n (x ∷ xs) = x.company ∷ x.amount ∷ first_of x.leaf (n + 1) xs ∷ records (n + 1) xs

abbrev pub numbers : ℕ → List Contribution → List ℕ
numbers cells xs = cells ∷ length xs ∷ (heads cells xs ++ records 1 xs)

-- a number in four bytes, the low byte first
abbrev pub number_bytes : ℕ → List ℕ
number_bytes n = (n % 256) ∷ (n / 256 % 256) ∷ (n / 65536 % 256) ∷ (n / 16777216 % 256) ∷ []

abbrev pub deposit : ℕ → List Contribution → List ℕ
deposit cells xs = flat_map number_bytes (numbers cells xs)

-- the next record of the leaf of the contribution at k, which is the record k + 1
abbrev pub next_at : List Contribution → ℕ → ℕ
next_at xs k = first_of (slice_index_or xs k (record { leaf = 0; company = 0; amount = 0 })).leaf (k + 2) (drop (k + 1) xs)

-- `hs` holds the heads, and `ns` the next of each record.
pub record Linked (xs : List Contribution) (hs ns : List ℕ) : Type 0 where
  pub heads : (l : ℕ) → l < length hs → slice_index hs l ≡ first_of l 1 xs
  pub nexts : (k : ℕ) → k < length xs → slice_index ns k ≡ next_at xs k

-- A head for each cell and a next for each record, linked.
pub record Chained (cells : ℕ) (xs : List Contribution) (hs ns : List ℕ) : Type 0 where
  pub many_heads : length hs ≡ cells
  pub many_nexts : length ns ≡ length xs
  pub linked : Linked xs hs ns
