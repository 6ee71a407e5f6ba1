-- Layouts that give the same answers obey the same laws; lists of a layout's answers are such a copy of it; and so a network obeys the laws.
use Rattle.std.proofs.Common.{◌≡◌, ℕ, ◌<◌, true, false, not, ◌&&◌, eqb, ltb, List, [], length, get_or, vec_len, sym, refl, ap, ◌∙◌, arith}
use Rattle.std.proofs.lemmas.Bool.{and_parts, and_from, ltb-true, lt-ltb}
use Rattle.std.proofs.lemmas.List.{length-map}
use Rattle.sums.specs.Sums.{count_below}
use Rattle.sums.proofs.SumBelow.{count_same}
use Rattle.layouts.specs.Shape.{Shape, Laws, Same, is_leaf}
use Rattle.layouts.specs.Copied.{copied, marks_of, under_at, values}
use Rattle.layouts.specs.Admission.{EdgesOf, shape_of}
use Rattle.layouts.specs.declared.network.Edge.{Edge}
use Rattle.layouts.specs.declared.network.Network.{Network}
use Rattle.layouts.proofs.Values.{length_values, get_or_values}

pub leaf_below : (s : Shape) (l : ℕ) → is_leaf s l ≡ true → l < s.cells
leaf_below s l e = ltb-true l s.cells (and_parts (ltb l s.cells) (s.leaf l) e).0

pub leaf_is : (s : Shape) (l : ℕ) → is_leaf s l ≡ true → s.leaf l ≡ true
leaf_is s l e = (and_parts (ltb l s.cells) (s.leaf l) e).1

module _ (s t : Shape) (same : Same s t) where
  same_below : (c : ℕ) → c < t.cells → c < s.cells
  same_below c h = omega (arith, same.cells)

  pub same_is_leaf : (l : ℕ) → is_leaf t l ≡ true → is_leaf s l ≡ true
  same_is_leaf l e =
      let below = same_below l (leaf_below t l e) in
      and_from (ltb l s.cells) (s.leaf l) (lt-ltb l s.cells below) (sym (same.leaf l below) ∙ leaf_is t l e)

  -- a leaf counts under the same cells in both
  same_counts : (c l : ℕ) → c < s.cells → is_leaf t l ≡ true → t.counts c l ≡ s.counts c l
  same_counts c l h e = let i = same_is_leaf l e in same.counts c l h (leaf_below s l i) (leaf_is s l i)

  same_count : (f g : ℕ → ℕ) → ((c : ℕ) → c < s.cells → f c ≡ g c) → (l r : ℕ) → is_leaf t l ≡ true
      → count_below t.cells (λ c. t.counts c l && eqb (f c) r) ≡ count_below s.cells (λ c. s.counts c l && eqb (g c) r)
  same_count f g fg l r e =
      ap (λ n. count_below n (λ c. t.counts c l && eqb (f c) r)) same.cells
      ∙ count_same s.cells (λ c. t.counts c l && eqb (f c) r) (λ c. s.counts c l && eqb (g c) r) (λ c h. rw (same_counts c l h e, fg c h))

  pub same_laws : Laws s → Laws t
  same_laws laws = record {
    left = λ c h. let k = same_below c h in omega (arith, laws.left c k, same.leaves c k, same.relations);
    entered = λ c h. let k = same_below c h in omega (arith, laws.entered c k, same.enters c k, same.relations);
    apart = λ c h e. let k = same_below c h in laws.apart c k (sym (same.leaves c k) ∙ e ∙ same.enters c k);
    itself = λ l e. let i = same_is_leaf l e in same_counts l l (leaf_below s l i) e ∙ laws.itself l i;
    alone = λ k l e.
        let p = and_parts (is_leaf t k && is_leaf t l) (not (eqb k l)) e in
        let q = and_parts (is_leaf t k) (is_leaf t l) p.0 in
        let i = same_is_leaf k q.0 in
        let j = same_is_leaf l q.1 in
        same_counts k l (leaf_below s k i) q.1
        ∙ laws.alone k l (and_from (is_leaf s k && is_leaf s l) (not (eqb k l)) (and_from (is_leaf s k) (is_leaf s l) i j) p.1);
    balanced = λ l r e.
        same_count t.leaves s.leaves same.leaves l r e
        ∙ laws.balanced l r (same_is_leaf l e)
        ∙ sym (same_count t.enters s.enters same.enters l r e);
  }

module _ (s : Shape) (relations : ℕ) (edges : List Edge) (rs : relations ≡ s.relations) (of : EdgesOf s s.cells edges) where
  pub edges_length : length edges ≡ s.cells
  edges_length = sym (length-map edges (λ (e : Edge). e.leaves)) ∙ ap length of.leaves ∙ length_values s.cells s.leaves

  pub edges_under : (l : ℕ) → l < s.cells → under_at edges l ≡ values s.cells (marks_of s l)
  edges_under l h = ap (λ xs. get_or xs l []) of.under ∙ get_or_values s.cells (λ k. values s.cells (marks_of s k)) l [] h

  copied_counts : (c l : ℕ) → c < s.cells → l < s.cells → s.leaf l ≡ true → get_or (under_at edges l) c false ≡ s.counts c l
  copied_counts c l hc hl e =
      ap (λ xs. get_or xs c false) (edges_under l hl) ∙ get_or_values s.cells (marks_of s l) c false hc ∙ rw (lt-ltb l s.cells hl, e) refl

  pub copied_same : Same s (copied relations edges)
  copied_same = record {
    cells = edges_length;
    relations = rs;
    leaf = λ c h. ap (λ xs. get_or xs c false) of.leaf ∙ get_or_values s.cells s.leaf c false h;
    leaves = λ c h. ap (λ xs. get_or xs c 0) of.leaves ∙ get_or_values s.cells s.leaves c 0 h;
    enters = λ c h. ap (λ xs. get_or xs c 0) of.enters ∙ get_or_values s.cells s.enters c 0 h;
    counts = copied_counts;
  }

pub network_cells : (n : Network) → (shape_of n).cells ≡ vec_len n.edges
network_cells n = sym n.edges.ok.0

pub network_laws : (n : Network) → Laws (shape_of n)
network_laws n = n.lawful
