-- One record more keeps the chains.
use Rattle.std.proofs.Common.{◌≡◌, ℕ, ◌+◌, ◌<◌, ◌≤◌, Some, None, Option, List, [], ◌∷◌, ◌++◌, length, get_or, set, vec_items, vec_len, Vec, sym, refl, ap, ◌∙◌, subst, ⊎_elim, add-one, arith, get_or-set_other, get_or-set_same, below_more, length-set}
use Rattle.std.proofs.lemmas.List.{get_or_append_left, get_or_push, length-map, length_push, map_push}
use Rattle.std.proofs.lemmas.Bool.{cases_eq, eq-eqb, ne_eqb}
use Rattle.std.specs.declared.alloc.Global.{Global}
use Rattle.layouts.specs.declared.memory.Record.{Record}
use Rattle.intake.specs.Chains.{Chained, held, leaf_list, amount_list, next_list, latest}
use Rattle.intake.proofs.Links.{latest_push}

-- what holds of each number of a list, and of one more
pub each_push : (P : ℕ → Type 0) (xs : List ℕ) (y n : ℕ) → length xs ≡ n → ((i : ℕ) → i < n → P (get_or xs i 0)) → P y → (i : ℕ) → i < n + 1 → P (get_or (xs ++ y ∷ []) i 0)
each_push P xs y n e h p =
    below_more (λ i. P (get_or (xs ++ y ∷ []) i 0)) n
    (λ i lt. subst P (sym (get_or_append_left xs (y ∷ []) 0 i (omega arith))) (h i lt))
    (subst P (sym (get_or_push xs y 0 n e)) p)

module _ (leaves : List ℕ) (leaf n : ℕ) (long : length leaves ≡ n) where
  -- the latest of its leaf is the new one
  pub latest_same : latest leaf (leaves ++ leaf ∷ []) (n + 1) ≡ Some n
  latest_same = rw (add-one, get_or_push leaves leaf 0 n long, eq-eqb leaf leaf refl)

  -- and of the other leaves what it was
  pub latest_other : (l : ℕ) → (leaf ≡ l → ⊥) → latest l (leaves ++ leaf ∷ []) (n + 1) ≡ latest l leaves n
  latest_other l d = rw (add-one, get_or_push leaves leaf 0 n long, ne_eqb leaf l d, latest_push l leaves leaf n (omega arith))

  pub heads_more : (heads : List (Option ℕ)) → ((l : ℕ) → l < length heads → get_or heads l None ≡ latest l leaves n)
      → (l : ℕ) → l < length heads → get_or (set heads leaf (Some n)) l None ≡ latest l (leaves ++ leaf ∷ []) (n + 1)
  heads_more heads h l lt =
      ⊎_elim
      (λ (same : leaf ≡ l). subst (λ k. get_or (set heads leaf (Some n)) k None ≡ latest k (leaves ++ leaf ∷ []) (n + 1)) same
      (let within : leaf < length heads = omega arith in rw (get_or-set_same, latest_same)))
      (λ (d : leaf ≡ l → ⊥). let ne : (l ≡ leaf → ⊥) = λ z. d (sym z) in rw (get_or-set_other, latest_other l d) (h l lt))
      (cases_eq leaf l)

  pub links_more : (nexts : List (Option ℕ)) (next : Option ℕ) → length nexts ≡ n → next ≡ latest leaf leaves n
      → ((i : ℕ) → i < n → get_or nexts i None ≡ latest (get_or leaves i 0) leaves i)
      → (i : ℕ) → i < n + 1 → get_or (nexts ++ next ∷ []) i None ≡ latest (get_or (leaves ++ leaf ∷ []) i 0) (leaves ++ leaf ∷ []) i
  links_more nexts next e d h =
      below_more (λ i. get_or (nexts ++ next ∷ []) i None ≡ latest (get_or (leaves ++ leaf ∷ []) i 0) (leaves ++ leaf ∷ []) i) n
      (λ i lt.
      rw (get_or_append_left nexts (next ∷ []) None i (omega arith), get_or_append_left leaves (leaf ∷ []) 0 i (omega arith), latest_push (get_or leaves i 0) leaves leaf i (omega arith))
      (h i lt))
      (rw (get_or_push nexts next None n e, get_or_push leaves leaf 0 n long, latest_push leaf leaves leaf n (omega arith)) d)

-- the same of records
module _ (rs : List Record) (r : Record) where
  pub held_more : held (rs ++ r ∷ []) ≡ held rs ++ r.contribution ∷ []
  held_more = map_push (λ r. r.contribution) rs r

  leaves_more : leaf_list (held (rs ++ r ∷ [])) ≡ leaf_list (held rs) ++ r.contribution.leaf ∷ []
  leaves_more = ap leaf_list held_more ∙ map_push (λ x. x.leaf) (held rs) r.contribution

  amounts_more : amount_list (held (rs ++ r ∷ [])) ≡ amount_list (held rs) ++ r.contribution.amount ∷ []
  amounts_more = ap amount_list held_more ∙ map_push (λ x. x.amount) (held rs) r.contribution

  pub held_long : length (held rs) ≡ length rs
  held_long = length-map rs (λ r. r.contribution)

  leaves_long : length (leaf_list (held rs)) ≡ length rs
  leaves_long = length-map (held rs) (λ x. x.leaf) ∙ held_long

  amounts_long : length (amount_list (held rs)) ≡ length rs
  amounts_long = length-map (held rs) (λ x. x.amount) ∙ held_long

  pub chained_more : (heads : List (Option ℕ)) → Chained rs heads → r.contribution.leaf < length heads → r.contribution.amount ≤ 1000000000 → length rs < 2048
      → r.next ≡ latest r.contribution.leaf (leaf_list (held rs)) (length rs) → Chained (rs ++ r ∷ []) (set heads r.contribution.leaf (Some (length rs)))
  chained_more heads k inside small room next =
      let long : length (rs ++ r ∷ []) ≡ length rs + 1 = length_push rs r in
      let wide : length (set heads r.contribution.leaf (Some (length rs))) ≡ length heads = length-set heads r.contribution.leaf (Some (length rs)) in
      record {
        few = omega arith;
        leafy = rw (leaves_more, wide) (λ i h. each_push (λ l. l < length heads) (leaf_list (held rs)) r.contribution.leaf (length rs) leaves_long k.leafy inside i (omega arith));
        small = rw amounts_more (λ i h. each_push (λ a. a ≤ 1000000000) (amount_list (held rs)) r.contribution.amount (length rs) amounts_long k.small small i (omega arith));
        headed = rw (leaves_more, long) (λ l h. heads_more (leaf_list (held rs)) r.contribution.leaf (length rs) leaves_long heads k.headed l (omega arith));
        linked = rw (leaves_more, map_push (λ (r : Record). r.next) rs r)
            (λ i h. links_more (leaf_list (held rs)) r.contribution.leaf (length rs) leaves_long (next_list rs) r.next (length-map rs (λ (r : Record). r.next)) next k.linked i (omega arith));
      }

pub held_count : (v : Vec Record Global) → length (held (vec_items v)) ≡ vec_len v
held_count v = length-map (vec_items v) (λ r. r.contribution) ∙ sym v.ok.0
