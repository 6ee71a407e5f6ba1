-- What was read can be entered.
use Rattle.std.proofs.Common.{false, replicate, vec_len, arith}
use Rattle.layouts.specs.Admission.{shape_of}
use Rattle.layouts.proofs.Kept.{network_cells}
use Rattle.intake.proofs.Goods.{walk_good}
use Rattle.intake.proofs.held.Intake.load.Goals as goal

pub enter_pending-requires-clause-good : goal.enter_pending-requires-clause-good
enter_pending-requires-clause-good g c =
    let s = c.args.self.now in
    let q = c.in_ok-records.records in
    walk_good (shape_of s.network) c.args.bytes.now q (vec_len s.network.edges) 0 (replicate q false) _ (omega (arith, network_cells s.network)) c.in_ok-read_chains.ensures.walked
