-- The chain of each leaf through the records: from the latest record of the leaf back to its first.
use Rattle.std.specs.Prelude.{◌≡◌, ℕ, zero, suc, ◌<◌, ◌≤◌, Bool, cond, Some, None, Option, List, [], ◌∷◌, ◌++◌, length, map, ◌==◌, slice_index, slice_index_or}
use Rattle.layouts.specs.declared.memory.Contribution.{Contribution}
use Rattle.layouts.specs.declared.memory.Record.{Record}

-- The contributions held, in the order in which they were entered.
abbrev pub held : List Record → List Contribution
held = map (λ r. r.contribution)

abbrev pub leaf_list : List Contribution → List ℕ
leaf_list = map (λ x. x.leaf)

abbrev pub amount_list : List Contribution → List ℕ
amount_list = map (λ x. x.amount)

abbrev pub next_list : List Record → List (Option ℕ)
next_list = map (λ r. r.next)

-- The place of the last of the first n records whose leaf is l, if there is one.
abbrev pub latest : ℕ → List ℕ → ℕ → Option ℕ
latest l leaves zero = None
latest l leaves (suc n) = cond (slice_index leaves n == l) (Some n) (latest l leaves n)

-- The amounts of the leaf l among the first n records, the latest first.
abbrev pub chain_amounts : ℕ → List ℕ → List ℕ → ℕ → List ℕ
chain_amounts l leaves amounts zero = []
chain_amounts l leaves amounts (suc n) =
    cond (slice_index leaves n == l) (slice_index amounts n ∷ chain_amounts l leaves amounts n) (chain_amounts l leaves amounts n)

-- The chains of those of the k leaves from m on that pass the test, one after another.
abbrev pub chains_from : (ℕ → Bool) → List ℕ → List ℕ → ℕ → ℕ → ℕ → List ℕ
chains_from test leaves amounts n m zero = []
chains_from test leaves amounts n m (suc k) =
    cond (test m) (chain_amounts m leaves amounts n) [] ++ chains_from test leaves amounts n (suc m) k

-- Records whose links are the chains of the leaves: each head is the latest record of its leaf, each link the one before.
pub record Chained (rs : List Record) (heads : List (Option ℕ)) : Type 0 where
  pub few : length rs ≤ 2048
  pub leafy : (i : ℕ) → i < length rs → slice_index (leaf_list (held rs)) i < length heads
  pub small : (i : ℕ) → i < length rs → slice_index (amount_list (held rs)) i ≤ 1000000000
  pub headed : (l : ℕ) → l < length heads → slice_index_or heads l None ≡ latest l (leaf_list (held rs)) (length rs)
  pub linked : (i : ℕ) → i < length rs → slice_index_or (next_list rs) i None ≡ latest (slice_index (leaf_list (held rs)) i) (leaf_list (held rs)) i

-- the amounts of the leaf l, the latest first
abbrev pub chain_of : List Record → ℕ → List ℕ
chain_of rs l = chain_amounts l (leaf_list (held rs)) (amount_list (held rs)) (length rs)
