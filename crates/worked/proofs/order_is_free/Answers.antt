-- Figures and needs are taken of the amounts under a cell, which come in another order.
use Rattle.std.proofs.lemmas.List.Sorted.{sum_by-IsPermutation}
use Rattle.intake.specs.Contributions.{amounts_under}
use Rattle.worked.proofs.Orders.{amounts_under_shuffled}
use Rattle.worked.proofs.order_is_free.Goals as goal

pub returns : goal.returns
returns c = record {
  amounts = λ s xs ys k h. amounts_under_shuffled s k xs ys h;
  figures = λ s xs ys k h. sum_by-IsPermutation (λ a. a) (amounts_under s xs k) (amounts_under s ys k) (amounts_under_shuffled s k xs ys h);
  needs = λ s meaning any xs ys k h. any (amounts_under s xs k) (amounts_under s ys k) (amounts_under_shuffled s k xs ys h);
}
