-- What a summary says of the list of amounts that it stands for.
use Rattle.std.specs.Prelude.{◌≡◌, ℕ, List, length, sum}
use Rattle.rules.specs.Largest.{nth_largest}
use Rattle.rules.specs.declared.summary.Summary.{Summary}

pub record Told (s : Summary) (xs : List ℕ) : Type 0 where
  pub total : s.total ≡ sum xs
  pub first : s.first ≡ nth_largest 0 xs
  pub second : s.second ≡ nth_largest 1 xs
  pub third : s.third ≡ nth_largest 2 xs
  pub count : s.count ≡ length xs
