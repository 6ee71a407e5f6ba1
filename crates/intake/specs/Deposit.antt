-- A deposit: numbers of four bytes, the chain of each cell through its records, and the walk over them up to the first fault.
use Rattle.std.specs.Prelude.{ℕ, zero, suc, ◌+◌, ◌*◌, Bool, true, false, cond, not, ◌&&◌, List, [], ◌∷◌, ◌++◌, length, replicate, Some, None, Ok, Err, Option, Result, is_some, ◌==◌, nat_le, nat_lt, slice_index, slice_index_or, slice_set}
use Rattle.std.specs.Result.{result_and}
use Rattle.refusals.specs.declared.Refusal.{Refusal}
use Rattle.refusals.specs.declared.Refusal.TheVariants.{NotALeaf, AmountTooLarge, TooManyContributions, DepositLength, DepositCells, LinkTooLarge, RecordReached, RecordUnreached}
use Rattle.layouts.specs.Shape.{Shape}
use Rattle.layouts.specs.declared.memory.Contribution.{Contribution}

-- the number at place i: four bytes, low byte first
abbrev pub word : List ℕ → ℕ → ℕ
word bytes i = slice_index bytes (4 * i) + 256 * slice_index bytes (4 * i + 1) + 65536 * slice_index bytes (4 * i + 2) + 16777216 * slice_index bytes (4 * i + 3)

abbrev pub cell_count : List ℕ → ℕ
cell_count bytes = word bytes 0

abbrev pub record_count : List ℕ → ℕ
record_count bytes = word bytes 1

-- a link, which is written as a number counted from 1, or as 0 where there is none: the place of a record
abbrev pub link : ℕ → Option ℕ
link zero = None
link (suc at) = Some at

-- After the two counts come the heads of the cells, and then the records: company, amount, next.
abbrev pub head : List ℕ → ℕ → Option ℕ
head bytes c = link (word bytes (2 + c))

abbrev pub record_place : ℕ → ℕ → ℕ
record_place cells at = 2 + cells + 3 * at

-- the record at that place, as a contribution at the cell c
abbrev pub contribution : ℕ → List ℕ → ℕ → ℕ → Contribution
contribution cells bytes c at = record {
  leaf = c;
  company = word bytes (record_place cells at);
  amount = word bytes (record_place cells at + 1);
}

abbrev pub next : ℕ → List ℕ → ℕ → Option ℕ
next cells bytes at = link (word bytes (record_place cells at + 2))

-- the records that no chain has reached yet
abbrev pub unseen : List Bool → ℕ
unseen [] = 0
unseen (b ∷ bs) = cond b 0 1 + unseen bs

-- the contributions read so far, before those to come; or the fault
abbrev pub after_these : List Contribution → Result (List Contribution) Refusal → Result (List Contribution) Refusal
after_these xs (Ok ys) = Ok (xs ++ ys)
after_these xs (Err e) = Err e

module _ (s : Shape) (bytes : List ℕ) (records : ℕ) where
  -- the chain of the cell c from a link on, and what comes after it; it goes on at most as often as there are records unseen
  abbrev pub chain : ℕ → ℕ → List Bool → Option ℕ → (List Bool → Result (List Contribution) Refusal) → Result (List Contribution) Refusal
  chain n c seen None rest = rest seen
  chain zero c seen (Some at) rest = cond (nat_le records at) (Err (LinkTooLarge c)) (Err (RecordReached c))
  chain (suc n) c seen (Some at) rest =
      cond (nat_le records at) (Err (LinkTooLarge c))
      (cond (slice_index_or seen at false) (Err (RecordReached c))
      (cond (nat_lt 1000000000 (contribution s.cells bytes c at).amount) (Err (AmountTooLarge c))
      (after_these (contribution s.cells bytes c at ∷ []) (chain n c (slice_set seen at true) (next s.cells bytes at) rest))))

  -- the chains of k cells from c on; at the end no record may be unseen
  abbrev pub walk : ℕ → ℕ → List Bool → Result (List Contribution) Refusal
  walk zero c seen = cond (nat_lt 0 (unseen seen)) (Err RecordUnreached) (Ok [])
  walk (suc k) c seen =
      cond (is_some (head bytes c) && not (s.leaf c)) (Err (NotALeaf c))
      (chain (unseen seen) c seen (head bytes c) (walk k (suc c)))

-- the length is that of the counts
abbrev pub fitting : List ℕ → Bool
fitting bytes = not (nat_lt (length bytes) 8) && length bytes == 8 + 4 * cell_count bytes + 12 * record_count bytes

-- the record count, for a layout of so many cells and an intake that holds so many contributions already; or why it is refused
abbrev pub counted : ℕ → ℕ → List ℕ → Result ℕ Refusal
counted cells held bytes =
    cond (not (fitting bytes)) (Err DepositLength)
    (cond (not (cell_count bytes == cells)) (Err DepositCells)
    (cond (nat_lt 2048 (held + record_count bytes)) (Err TooManyContributions) (Ok (record_count bytes))))

-- what a deposit holds, in the order of its chains; or why it is refused
abbrev pub deposited : Shape → ℕ → List ℕ → Result (List Contribution) Refusal
deposited s held bytes = result_and (counted s.cells held bytes) (walk s bytes (record_count bytes) s.cells 0 (replicate (record_count bytes) false))

-- what is held once that was read
abbrev pub held_then : Result (List Contribution) Refusal → List Contribution → List Contribution
held_then (Ok xs) held = held ++ xs
held_then (Err e) held = held
