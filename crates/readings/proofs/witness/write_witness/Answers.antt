-- The table that the trial came to is the witness, at the front of the memory.
use Rattle.std.proofs.Common.{vec_items, refl, arith, ap, ◌∙◌}
use Rattle.layouts.specs.Admission.{shape_of}
use Rattle.layouts.proofs.Kept.{network_cells}
use Rattle.readings.specs.Paths.{at}
use Rattle.readings.proofs.Written.{front_inside, witness_same}
use Rattle.readings.proofs.witness.write_witness.Goals as goal

pub returns-clause-written : goal.returns-clause-written
returns-clause-written c = λ _. witness_same (shape_of c.args.network.now) _ _ _ c.args.cell c.args.side (at (vec_items c.trial.new.bench.table)) (at c.write_front.new.memory) (omega (arith, network_cells c.args.network.now))
    (λ i l. front_inside c.args.memory.now c.as_slice.result.now c.write_front.new.memory c.write_front.ensures i (omega (arith, network_cells c.args.network.now)) ∙ ap (λ xs. at xs i) c.as_slice.ensures.value) (c.if-trial.ensures.tried.shown refl)
