-- One cell more meets what is given for it.
use Rattle.std.proofs.Common.{arith}
use Rattle.sheet.proofs.Meetings.{met_more}
use Rattle.sheet.proofs.held.Sheet.meet_all.Goals as goal

pub loop-cell-preserved : goal.loop-cell-preserved
loop-cell-preserved g c =
    met_more c.args.self.now c.loop-cell.self c.meet.new.self (goal.F-post g c.args.event_at) c.loop-cell.cell c.loop-cell.invariant (omega arith)
    c.event_at.result c.event_at.ensures c.meet.ensures.network c.meet.ensures.rows
