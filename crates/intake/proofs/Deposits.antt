-- One link and one cell of the walk over a deposit, by what the code tests there.
use Rattle.std.proofs.Common.{◌≡◌, ℕ, zero, suc, ◌+◌, ◌-◌, ◌<◌, ◌≤◌, Bool, true, false, not, ◌&&◌, Some, None, is_some, List, [], ◌∷◌, ◌++◌, map, length, get_or, set, replicate, Ok, Err, vec_items, Result, sym, refl, ap, ◌∙◌, append_assoc, le_of_suc-le-suc, not-suc-le-zero, add-one, arith}
use Rattle.std.proofs.lemmas.Bool.{true≢false, lt-ltb, le-ltb, lt-leb}
use Rattle.refusals.specs.declared.Refusal.{Refusal}
use Rattle.refusals.specs.declared.Refusal.TheVariants.{NotALeaf, AmountTooLarge}
use Rattle.std.proofs.lemmas.List.{get_or-map}
use Rattle.layouts.specs.Admission.{shape_of}
use Rattle.layouts.specs.Shape.{Shape}
use Rattle.layouts.specs.declared.network.Edge.{Edge}
use Rattle.layouts.specs.declared.network.Network.{Network}
use Rattle.layouts.specs.declared.memory.Contribution.{Contribution}
use Rattle.intake.specs.Deposit.{after_these, chain, contribution, head, next, unseen, walk}

pub unseen_set : (seen : List Bool) (i : ℕ) → i < length seen → get_or seen i false ≡ false → unseen seen ≡ suc (unseen (set seen i true))
unseen_set [] i h e = absurd (not-suc-le-zero h)
unseen_set (true ∷ bs) zero h e = absurd (true≢false e)
unseen_set (false ∷ bs) zero h e = omega arith
unseen_set (b ∷ bs) (suc i) h e = omega (arith, unseen_set bs i (le_of_suc-le-suc h) e)

pub unseen_all : (n : ℕ) → unseen (replicate n false) ≡ n
unseen_all zero = refl
unseen_all (suc n) = omega (arith, unseen_all n)

pub after_none : (r : Result (List Contribution) Refusal) → after_these [] r ≡ r
after_none (Ok xs) = refl
after_none (Err e) = refl

pub after_more : (xs ys : List Contribution) (r : Result (List Contribution) Refusal) → after_these xs (after_these ys r) ≡ after_these (xs ++ ys) r
after_more xs ys (Ok zs) = ap Ok (sym (append_assoc xs ys zs))
after_more xs ys (Err e) = refl

module _ (s : Shape) (bytes : List ℕ) (records c : ℕ) where
  module _ (seen : List Bool) (rest : List Bool → Result (List Contribution) Refusal) where
    pub chain_end : (n : ℕ) → chain s bytes records n c seen None rest ≡ rest seen
    chain_end zero = refl
    chain_end (suc n) = refl

    pub chain_large : (at : ℕ) → at < records → at < length seen → get_or seen at false ≡ false
        → 1000000000 < (contribution s.cells bytes c at).amount → chain s bytes records (unseen seen) c seen (Some at) rest ≡ Err (AmountTooLarge c)
    chain_large at h k w a =
        ap (λ n. chain s bytes records n c seen (Some at) rest) (unseen_set seen at k w)
        ∙ rw (lt-leb records at h, w, lt-ltb 1000000000 (contribution s.cells bytes c at).amount a)

    pub chain_on : (at : ℕ) → at < records → at < length seen → get_or seen at false ≡ false
        → (contribution s.cells bytes c at).amount ≤ 1000000000
        → chain s bytes records (unseen seen) c seen (Some at) rest
        ≡ after_these (contribution s.cells bytes c at ∷ []) (chain s bytes records (unseen (set seen at true)) c (set seen at true) (next s.cells bytes at) rest)
    chain_on at h k w a =
        ap (λ n. chain s bytes records n c seen (Some at) rest) (unseen_set seen at k w)
        ∙ rw (lt-leb records at h, w, le-ltb 1000000000 (contribution s.cells bytes c at).amount a)

  module _ (k : ℕ) (seen : List Bool) where
    pub walk_total : c < k → (is_some (head bytes c) && not (s.leaf c)) ≡ true → walk s bytes records (k - c) c seen ≡ Err (NotALeaf c)
    walk_total h e = let more : k - c ≡ suc (k - (c + 1)) = omega arith in rw (more, e)

    pub walk_cell : c < k → (is_some (head bytes c) && not (s.leaf c)) ≡ false
        → walk s bytes records (k - c) c seen ≡ chain s bytes records (unseen seen) c seen (head bytes c) (walk s bytes records (k - (c + 1)) (c + 1))
    walk_cell h e =
        let more : k - c ≡ suc (k - (c + 1)) = omega arith in
        rw (more, e) (ap (λ n. chain s bytes records (unseen seen) c seen (head bytes c) (walk s bytes records (k - (c + 1)) n)) (sym (add-one c)))

    pub walk_all : k ≤ c → unseen seen ≡ 0 → walk s bytes records (k - c) c seen ≡ Ok []
    walk_all h u = let none : k - c ≡ 0 = omega arith in rw (none, le-ltb 0 (unseen seen) (omega arith))

-- what the edge of a cell says
pub leaf_of_edge : (n : Network) (es : List Edge) (l : ℕ) (e : Edge) → es ≡ vec_items n.edges → l < length es → e ≡ get_or es l e → (shape_of n).leaf l ≡ e.leaf
leaf_of_edge n es l e all h is = ap (λ (es : List Edge). get_or (map (λ e. e.leaf) es) l false) (sym all) ∙ get_or-map (λ (e : Edge). e.leaf) es l e false h ∙ ap (λ e. e.leaf) (sym is)
