-- What a layout's answers say of its meaning, and what a failed push says of a refusal.
use Rattle.std.proofs.Common.{◌≡◌, ℕ, ◌<◌, Bool, true, false, cond, ◌&&◌, ltb, is_some, Some, Option, unwrap_or, refl, ap, ◌∙◌}
use Rattle.std.proofs.lemmas.Bool.{lt-ltb}
use Rattle.layouts.specs.declared.Kind.{Kind}
use Rattle.layouts.specs.declared.Kind.TheVariants.{Leaf, Total}
use Rattle.layouts.specs.Shape.{Shape, is_leaf}
use Rattle.layouts.specs.Answers.{only, counts_of}
use Rattle.layouts.specs.Copied.{marks_of}

pub some_answer : {X : Type 0} (c n : ℕ) (v : X) (o : Option X) → c < n → o ≡ only (ltb c n) v → is_some o ≡ true
some_answer c n v o h e = ap is_some e ∙ rw (lt-ltb c n h)

pub the_answer : {X : Type 0} (c n : ℕ) (v x : X) (o : Option X) → c < n → o ≡ only (ltb c n) v → o ≡ Some x → x ≡ v
the_answer c n v x o h e d = let t = rw (lt-ltb c n h) at e in cc

pub leaf_told : (b m : Bool) (k : Kind) → k ≡ cond b Leaf Total → m ≡ true → k ≡ Leaf → m ≡ b
leaf_told true m k e d h = d
leaf_told false m k e d h = cc

pub total_told : (b m : Bool) (k : Kind) → k ≡ cond b Leaf Total → m ≡ false → k ≡ Total → m ≡ b
total_told true m k e d h = cc
total_told false m k e d h = d

or_false : (a b : Bool) → unwrap_or (only a b) false ≡ a && b
or_false true b = refl
or_false false b = refl

-- what `counts(..).unwrap_or(false)` gives at a cell of the layout
pub mark_told : (s : Shape) (c l : ℕ) (o : Option Bool) (r : Bool) → c < s.cells → o ≡ counts_of s c l → r ≡ unwrap_or o false → r ≡ marks_of s l c
mark_told s c l o r h e d = d ∙ ap (λ o. unwrap_or o false) e ∙ rw (lt-ltb c s.cells h) (or_false (is_leaf s l) (s.counts c l))
