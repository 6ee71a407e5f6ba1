-- The numbers of a deposit as they are linked and written.
use Rattle.std.proofs.Common.{◌≡◌, ℕ, ◌+◌, ◌<◌, ◌≤◌, List, [], ◌∷◌, ◌++◌, length, get_or, take, set, None, sym, refl, ap, ◌∙◌, ⊎_elim, append_assoc, arith, length-append}
use Rattle.std.proofs.lemmas.Bool.{cases_eq}
use Rattle.std.proofs.lemmas.Grind.{common_steps}
use Rattle.std.specs.List.{flat_map}
use Rattle.std.proofs.lemmas.List.{flat_map_more, get_or_at, drop_at, take_more}
use Rattle.layouts.specs.declared.memory.Contribution.{Contribution}
use Rattle.composing.specs.Composed.{fault_of}
use Rattle.composing.specs.Deposit.{first_of, next_at, number_bytes}
use Rattle.composing.proofs.Fitting.{blank, each_fits}

-- Of the contributions the last ones are linked, and the rest comes before them.
pub record Linking (xs rest : List Contribution) (hs ns : List ℕ) : Type 0 where
  pub done : List Contribution
  pub whole : xs ≡ rest ++ done
  pub heads : (k : ℕ) → k < length hs → get_or hs k 0 ≡ first_of k (length rest + 1) done
  pub nexts : (k : ℕ) → length rest ≤ k → k < length xs → get_or ns k 0 ≡ next_at xs k

-- x is the next to be linked
module _ {xs before : List Contribution} {hs ns : List ℕ} (s : Linking xs before hs ns) (rest : List Contribution) (x : Contribution) (last : before ≡ rest ++ x ∷ []) where
  whole_more : xs ≡ rest ++ x ∷ s.done
  whole_more = s.whole ∙ ap (λ b. b ++ s.done) last ∙ append_assoc rest (x ∷ []) s.done

  pub leaf_within : (cells : ℕ) → fault_of cells xs ≡ None → x.leaf < cells
  leaf_within cells none =
      let here : get_or xs (length rest) blank ≡ x = rw whole_more (get_or_at rest x s.done blank (length rest) refl) in
      let fits = each_fits cells xs none (length rest) (omega (arith, ap length whole_more, length-append rest (x ∷ s.done))) in
      rw here at fits.leaf

  -- its next is its leaf's head so far, and it becomes the head
  pub linking_more : length ns ≡ length xs → x.leaf < length hs → (i head next : ℕ) → i ≡ length rest → head ≡ i + 1 → next ≡ get_or hs x.leaf 0
      → Linking xs rest (set hs x.leaf head) (set ns i next)
  linking_more many within i head next at h n = record {
    done = x ∷ s.done;
    whole = whole_more;
    heads = λ k l. grind (arith, common_steps, s.heads k, last);
    nexts = λ k lo hi. ⊎_elim
        (λ (e : length rest ≡ k). grind (arith, common_steps, whole_more, s.heads x.leaf within, get_or_at rest x s.done blank k e, drop_at (rest ++ x ∷ []) s.done))
        (λ (d : length rest ≡ k → ⊥). grind (arith, common_steps, s.nexts k))
        (cases_eq (length rest) k);
  }

-- one number more is written
pub written_more : (ns : List ℕ) (i : ℕ) → i < length ns → (before after bytes : List ℕ)
    → before ≡ flat_map number_bytes (take i ns) → bytes ≡ number_bytes (get_or ns i 0) → after ≡ before ++ bytes
    → after ≡ flat_map number_bytes (take (i + 1) ns)
written_more ns i h before after bytes e b a =
    a ∙ rw (e, b) (flat_map_more number_bytes [] (take i ns) (get_or ns i 0) ∙ ap (flat_map number_bytes) (sym (take_more ns i 0 h)))
