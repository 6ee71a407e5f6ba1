-- What a link of a chain leads to.
use Rattle.std.proofs.Common.{◌≡◌, ℕ, zero, suc, ◌≤◌, Some, None, Option, List, [], ◌∷◌, ◌++◌, length, get_or, refl, ⊎_elim, arith}
use Rattle.std.proofs.lemmas.Bool.{cases_eq, eq-eqb, ne_eqb}
use Rattle.std.proofs.lemmas.List.{get_or_append_left}
use Rattle.intake.specs.Chains.{latest, chain_amounts}

-- how many records there are up to the one that a link names
abbrev pub up_to : Option ℕ → ℕ
up_to None = 0
up_to (Some at) = suc at

-- the latest of the first n is one of them
pub latest_within : (l : ℕ) (leaves : List ℕ) (n : ℕ) → up_to (latest l leaves n) ≤ n
latest_within l leaves zero = omega arith
latest_within l leaves (suc n) =
    ⊎_elim (λ (e : get_or leaves n 0 ≡ l). rw (eq-eqb (get_or leaves n 0) l e) (omega arith))
    (λ (d : get_or leaves n 0 ≡ l → ⊥). rw (ne_eqb (get_or leaves n 0) l d) (omega (arith, latest_within l leaves n)))
    (cases_eq (get_or leaves n 0) l)

-- it is of the leaf, and the chain goes on before it
pub chain_more : (l : ℕ) (leaves amounts : List ℕ) (n at : ℕ) → latest l leaves n ≡ Some at
    → (get_or leaves at 0 ≡ l) × (chain_amounts l leaves amounts n ≡ get_or amounts at 0 ∷ chain_amounts l leaves amounts at)
chain_more l leaves amounts zero at e = cc
chain_more l leaves amounts (suc n) at e =
    ⊎_elim (λ (y : get_or leaves n 0 ≡ l).
    let t = rw (eq-eqb (get_or leaves n 0) l y) at e in
    let same : at ≡ n = cc in
    rw same (y, rw (eq-eqb (get_or leaves n 0) l y)))
    (λ (d : get_or leaves n 0 ≡ l → ⊥).
    let t = rw (ne_eqb (get_or leaves n 0) l d) at e in
    let r = chain_more l leaves amounts n at t in
    (r.0, rw (ne_eqb (get_or leaves n 0) l d) r.1))
    (cases_eq (get_or leaves n 0) l)

-- one record more leaves the earlier ones as they were
pub latest_push : (l : ℕ) (leaves : List ℕ) (x n : ℕ) → n ≤ length leaves → latest l (leaves ++ x ∷ []) n ≡ latest l leaves n
latest_push l leaves x zero h = refl
latest_push l leaves x (suc n) h =
    rw (get_or_append_left leaves (x ∷ []) 0 n (omega arith), latest_push l leaves x n (omega arith))

-- the latest is its own latest
pub latest_again : (l : ℕ) (leaves : List ℕ) (n : ℕ) → latest l leaves (up_to (latest l leaves n)) ≡ latest l leaves n
latest_again l leaves zero = refl
latest_again l leaves (suc n) =
    ⊎_elim (λ (e : get_or leaves n 0 ≡ l). rw (eq-eqb (get_or leaves n 0) l e, eq-eqb (get_or leaves n 0) l e))
    (λ (d : get_or leaves n 0 ≡ l → ⊥). rw (ne_eqb (get_or leaves n 0) l d) (latest_again l leaves n))
    (cases_eq (get_or leaves n 0) l)

-- and the chain from it on is the whole chain
pub chain_latest : (l : ℕ) (leaves amounts : List ℕ) (n : ℕ) → chain_amounts l leaves amounts n ≡ chain_amounts l leaves amounts (up_to (latest l leaves n))
chain_latest l leaves amounts zero = refl
chain_latest l leaves amounts (suc n) =
    ⊎_elim (λ (e : get_or leaves n 0 ≡ l). rw (eq-eqb (get_or leaves n 0) l e, eq-eqb (get_or leaves n 0) l e))
    (λ (d : get_or leaves n 0 ≡ l → ⊥). rw (ne_eqb (get_or leaves n 0) l d) (chain_latest l leaves amounts n))
    (cases_eq (get_or leaves n 0) l)
