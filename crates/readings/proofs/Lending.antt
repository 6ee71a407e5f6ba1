-- What the engine is lent is fit for an audit.
use Rattle.std.proofs.Common.{List, vec_items, arith}
use Rattle.std.proofs.lemmas.Bool.{ltb-true}
use Rattle.layouts.specs.Admission.{shape_of}
use Rattle.layouts.specs.declared.memory.Bench.{Bench}
use Rattle.layouts.specs.declared.memory.Row.{Row}
use Rattle.layouts.specs.declared.network.Network.{Network}
use Rattle.layouts.proofs.Kept.{network_cells}
use Rattle.readings.specs.Paths.{withheld_by}
use Rattle.readings.specs.Rows.{looked_at, needs}
use Rattle.readings.specs.Tables.{Lent}
use Rattle.readings.specs.Theorems.{Fit}
use Rattle.readings.proofs.Networks.{network_sound}

pub lent_fit : (n : Network) (rows : List Row) (b : Bench) → Lent n rows b → Fit (looked_at (shape_of n) rows) (withheld_by (vec_items b.covers))
lent_fit n rows b lent = record {
  sound = network_sound n;
  balanced = lent.tabled.balanced;
  hidden = λ c l s. lent.hidden c l (ltb-true 0 (needs rows c) s);
  within = λ c l _. lent.tabled.within c (omega (arith, network_cells n));
}
