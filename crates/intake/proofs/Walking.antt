-- A walk along a chain: what stands at a link, and what the rule is told.
use Rattle.std.proofs.Common.{◌≡◌, ℕ, suc, ◌+◌, ◌<◌, ◌≤◌, Some, None, Option, List, [], ◌∷◌, ◌++◌, length, get_or, Ok, Result, sym, ap, ◌∙◌, subst, append_assoc, arith, length-append}
use Rattle.std.proofs.lemmas.List.{get_or-map, length-map}
use Rattle.std.proofs.lemmas.Bool.Decides.{nat_tests}
use Rattle.refusals.specs.declared.Refusal.{Refusal}
use Rattle.rules.specs.Telling.{verdict, after}
use Rattle.layouts.specs.declared.memory.Record.{Record}
use Rattle.intake.specs.Chains.{Chained, held, leaf_list, amount_list, latest, chain_amounts}
use Rattle.intake.proofs.Links.{up_to, latest_within, chain_more, latest_again, chain_latest}

-- the record r at a place of the chain of l
module _ (rs : List Record) (heads : List (Option ℕ)) (k : Chained rs heads) (l at : ℕ) (r : Record) (is : r ≡ get_or rs at r) (inside : at < length rs)
    (own : latest l (leaf_list (held rs)) (suc at) ≡ Some at) where
  amount_is : get_or (amount_list (held rs)) at 0 ≡ r.contribution.amount
  amount_is =
      get_or-map (λ x. x.amount) (held rs) at r.contribution 0 (omega (arith, length-map rs (λ (r : Record). r.contribution)))
      ∙ ap (λ x. x.amount) (get_or-map (λ r. r.contribution) rs at r r.contribution inside)
      ∙ ap (λ r. r.contribution.amount) (sym is)

  steps : (get_or (leaf_list (held rs)) at 0 ≡ l) × (chain_amounts l (leaf_list (held rs)) (amount_list (held rs)) (suc at) ≡ get_or (amount_list (held rs)) at 0 ∷ chain_amounts l (leaf_list (held rs)) (amount_list (held rs)) at)
  steps = chain_more l (leaf_list (held rs)) (amount_list (held rs)) (suc at) at own

  pub next_is : r.next ≡ latest l (leaf_list (held rs)) at
  next_is =
      ap (λ r. r.next) is ∙ sym (get_or-map (λ r. r.next) rs at r None inside) ∙ k.linked at inside
      ∙ ap (λ m. latest m (leaf_list (held rs)) at) steps.0

  pub next_before : up_to r.next ≤ at
  next_before = rw next_is (latest_within l (leaf_list (held rs)) at)

  pub next_own : latest l (leaf_list (held rs)) (up_to r.next) ≡ r.next
  next_own = rw next_is (latest_again l (leaf_list (held rs)) at)

  pub amount_small : r.contribution.amount ≤ 1000000000
  amount_small = omega (arith, k.small at inside, amount_is)

  pub chain_step : chain_amounts l (leaf_list (held rs)) (amount_list (held rs)) (suc at) ≡ r.contribution.amount ∷ chain_amounts l (leaf_list (held rs)) (amount_list (held rs)) (up_to r.next)
  chain_step =
      steps.1
      ∙ ap (λ a. a ∷ chain_amounts l (leaf_list (held rs)) (amount_list (held rs)) at) amount_is
      ∙ ap (λ t. r.contribution.amount ∷ t) (chain_latest l (leaf_list (held rs)) (amount_list (held rs)) at ∙ ap (λ m. chain_amounts l (leaf_list (held rs)) (amount_list (held rs)) (up_to m)) (sym next_is))

-- one amount more was told
pub told_more : (whole told rest end : List ℕ) (a : ℕ) → whole ≡ told ++ rest → rest ≡ a ∷ end → whole ≡ (told ++ a ∷ []) ++ end
told_more whole told rest end a e d = e ∙ ap (λ t. told ++ t) d ∙ sym (append_assoc told (a ∷ []) end)

-- an amount within the limits is accepted
pub told_accepted : (S : List ℕ → Type 0) (r : Result (Unit {0}) Refusal) (a : ℕ) (xs told whole rest : List ℕ) → a ≤ 1000000000
    → whole ≡ told ++ a ∷ rest → length xs + length whole ≤ 2048
    → r ≡ verdict 0 a (length (xs ++ told)) → S (after r (xs ++ told) a) → S (xs ++ (told ++ a ∷ []))
told_accepted S r a xs told whole rest small e room is stands =
    let long : length whole ≡ length told + (length rest + 1) = ap length e ∙ simp length-append (omega arith) in
    let short : length (xs ++ told) < 2048 = simp length-append (omega arith) in
    let yes : verdict 0 a (length (xs ++ told)) ≡ Ok tt = grind (arith, nat_tests) in
    subst S (append_assoc xs told (a ∷ [])) (subst (λ v. S (after v (xs ++ told) a)) (is ∙ yes) stands)
