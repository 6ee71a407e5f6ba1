-- The cells so far have met an event each.
use Rattle.sheet.proofs.Meetings.{MetBelow}
use Rattle.sheet.proofs.held.Sheet.meet_all.Given as goal

abbrev pub invariant-loop-cell : goal.invariant-loop-cell
invariant-loop-cell g l = MetBelow l.initial.self (goal.F-post g l.event_at) l.cell l.self
