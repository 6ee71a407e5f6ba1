-- The relations of an edge are among the network's.
use Rattle.readings.proofs.Networks.{edge_inside}
use Rattle.readings.proofs.paths.ends.Goals as goal

pub returns-in-Up-clause-inside : goal.returns-in-Up-clause-inside
returns-in-Up-clause-inside c = edge_inside c.args.network.now c.args.cell c.index-edge.result.now c.requires c.index-edge.ensures

pub returns-in-Down-clause-inside : goal.returns-in-Down-clause-inside
returns-in-Down-clause-inside c =
    let h = edge_inside c.args.network.now c.args.cell c.index-edge.result.now c.requires c.index-edge.ensures in (h.1, h.0)
