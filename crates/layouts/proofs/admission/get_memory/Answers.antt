-- Each list is new, and filled or empty as it is asked for.
use Rattle.std.proofs.Common.{◌≡◌, ℕ, None, Some, Option, refl, rules}
use Rattle.layouts.proofs.admission.get_memory.Goals as goal

-- nothing but none is a clone of none
none_alone : (C : Option ℕ → Type 0) → ((n : ℕ) → C (Some n) → ⊥) → (y : Option ℕ) → C y → y ≡ None
none_alone C never None h = refl
none_alone C never (Some n) h = absurd (never n h)

pub returns : goal.returns
returns c = record {
  records = c.in_ok-with_capacity.ensures.items;
  pending = c.in_ok-with_capacity-2.ensures.items;
  room = c.in_ok-with_capacity.ensures.capacity;
  pending_room = c.in_ok-with_capacity-2.ensures.capacity;
  heads = c.in_ok-vec.ensures.items_if_clones_equal (none_alone _ (λ n h. h));
  seen = search rules;
  rows = search rules;
  bench = c.in_ok-get_bench.ensures;
}
