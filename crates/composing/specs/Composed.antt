-- What composing answers: the deposit, or the first contribution that none can hold.
use Rattle.std.specs.Prelude.{◌≡◌, ℕ, ◌+◌, cond, ◌⊎◌, List, [], ◌∷◌, length, Some, None, Ok, Err, vec_items, Option, Result, Vec, nat_le, nat_lt}
use Rattle.std.specs.declared.alloc.Global.{Global}
use Rattle.layouts.specs.declared.memory.Contribution.{Contribution}
use Rattle.composing.specs.declared.faults.Fault.{Fault}
use Rattle.composing.specs.declared.faults.Fault.TheVariants.{TooLarge, UnknownLeaf, TooMany, OutOfMemory}
use Rattle.composing.specs.Deposit.{deposit}

-- the first contribution that names no cell or has an amount of more than 32 bits; they stand from the line n on
abbrev pub fault_from : ℕ → ℕ → List Contribution → Option Fault
fault_from cells n [] = None
fault_from cells n (x ∷ xs) =
    cond (nat_le cells x.leaf) (Some (UnknownLeaf n))
    (cond (nat_lt 4294967295 x.amount) (Some (TooLarge n)) (fault_from cells (n + 1) xs))

abbrev pub fault_of : ℕ → List Contribution → Option Fault
fault_of cells xs = cond (nat_lt 4294967295 (length xs)) (Some TooMany) (fault_from cells 2 xs)

-- the deposit where there is no fault, and else the fault; memory may be wanting in either case
abbrev pub Composes : ℕ → List Contribution → Result (Vec ℕ Global) Fault → Type 0
Composes cells xs (Ok v) = (fault_of cells xs ≡ None) × (vec_items v ≡ deposit cells xs)
Composes cells xs (Err e) = (e ≡ OutOfMemory) ⊎ (fault_of cells xs ≡ Some e)
