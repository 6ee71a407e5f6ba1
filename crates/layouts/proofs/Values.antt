-- Lists of the values of a function, made one push after another.
use Rattle.std.proofs.Common.{◌≡◌, ℕ, ◌+◌, ◌<◌, List, [], ◌∷◌, ◌++◌, map, length, get_or, vec_items, sym, ap, ◌∙◌, arith}
use Rattle.std.proofs.lemmas.List.{append_assoc, map-append}
use Rattle.std.proofs.lemmas.List.FromFn.{length-map-range_with_len, get_or-map-range_with_len, map-range_with_len_more}
use Rattle.layouts.specs.Shape.{Shape}
use Rattle.layouts.specs.declared.network.Edge.{Edge}
use Rattle.layouts.specs.Copied.{values, marks_of}
use Rattle.layouts.specs.Admission.{EdgeOf, EdgesOf}

pub length_values : {X : Type 0} (n : ℕ) (f : ℕ → X) → length (values n f) ≡ n
length_values n f = length-map-range_with_len f 0 n

pub get_or_values : {X : Type 0} (n : ℕ) (f : ℕ → X) (k : ℕ) (d : X) → k < n → get_or (values n f) k d ≡ f k
get_or_values n f k d h = get_or-map-range_with_len f 0 n k k d h (omega arith)

pub values_push : {X : Type 0} (ws xs ys : List X) (n : ℕ) (f : ℕ → X) (x : X) → xs ≡ ws ++ values n f → ys ≡ xs ++ (x ∷ []) → x ≡ f n → ys ≡ ws ++ values (n + 1) f
values_push ws xs ys n f x e d h =
    d ∙ rw (e, h) (append_assoc ws (values n f) (f n ∷ []) ∙ ap (λ vs. ws ++ vs) (sym (map-range_with_len_more f 0 n n (omega arith))))

-- one edge more
module _ (s : Shape) (n : ℕ) (e : Edge) (xs ys : List Edge) (of : EdgesOf s n xs) (more : ys ≡ xs ++ (e ∷ [])) (is : EdgeOf s n e) where
  mapped : {X : Type 0} (f : Edge → X) (g : ℕ → X) → map f xs ≡ values n g → f e ≡ g n → map f ys ≡ values (n + 1) g
  mapped f g h k = values_push [] (map f xs) (map f ys) n g (f e) h (ap (map f) more ∙ map-append f xs (e ∷ [])) k

  pub edges_push : EdgesOf s (n + 1) ys
  edges_push = record {
    leaves = mapped (λ x. x.leaves) s.leaves of.leaves is.leaves;
    enters = mapped (λ x. x.enters) s.enters of.enters is.enters;
    leaf = mapped (λ x. x.leaf) s.leaf of.leaf is.leaf;
    under = mapped (λ x. vec_items x.under) (λ l. values s.cells (marks_of s l)) of.under is.under;
  }
