-- The law is proved with the laws of sums.
use Rattle.sums.proofs.SumBelow.{sum_exchange}
use Rattle.sums.proofs.sums_exchange.Goals as goal

pub returns : goal.returns
returns c = sum_exchange
