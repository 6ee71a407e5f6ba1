-- Texts written one after another are one text.
use Rattle.std.proofs.Common.{ℕ, List, [], ◌∷◌, ◌++◌, sym, ap, ◌∙◌, subst}
use Rattle.std.specs.Fmt.{HasWritten}
use Rattle.std.specs.List.{FoldsTo, concat}
use Rattle.std.specs.declared.fmt.Formatter.{Formatter}
use Rattle.std.proofs.lemmas.List.Folds.{concat-append}

folds_then : {P A : Type 0} (R : P → A → P → Type 0) (p : P) (xs : List A) (q : P) (ys : List A) (r : P) → FoldsTo R p xs q → FoldsTo R q ys r → FoldsTo R p (xs ++ ys) r
folds_then R p [] q ys r a b = subst (λ x. FoldsTo R x ys r) (sym a) b
folds_then R p (x ∷ xs) q ys r a b = (a.0, a.1, folds_then R a.0 xs q ys r a.2 b)

pub written_then : {W : Type 0} (took : W → List ℕ → W → Type 0) (f : Formatter W) (bs : List ℕ) (g : Formatter W) (cs : List ℕ) (h : Formatter W)
    → HasWritten took f bs g → HasWritten took g cs h → HasWritten took f (bs ++ cs) h
written_then took f bs g cs h a b = record {
  wrote = record {
    parts = a.wrote.parts ++ b.wrote.parts;
    calls = folds_then took _ a.wrote.parts _ b.wrote.parts _ a.wrote.calls b.wrote.calls;
    whole = concat-append a.wrote.parts b.wrote.parts ∙ ap (λ xs. xs ++ concat b.wrote.parts) a.wrote.whole ∙ ap (λ ys. bs ++ ys) b.wrote.whole;
  };
  plain = b.plain;
}
