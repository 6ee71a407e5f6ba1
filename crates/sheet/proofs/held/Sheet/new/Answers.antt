use Rattle.std.proofs.Common.{vec_items, arith}
use Rattle.intake.specs.Marks.{mark_at}
use Rattle.readings.specs.Rows.{needs}
use Rattle.sheet.proofs.Begun.{first_goes, begun_fresh}
use Rattle.sheet.proofs.held.Sheet.new.Goals as goal

pub invariant_of-result-clause-tied : goal.invariant_of-result-clause-tied
invariant_of-result-clause-tied c = let s = c.args.settled in λ x l. first_goes (needs (vec_items s.rows) x) (mark_at (vec_items s.rows) x) (s.begun x l)

pub returns-clause-fresh : goal.returns-clause-fresh
returns-clause-fresh c =
    let s = c.args.settled in
    begun_fresh (vec_items s.rows) (λ x l. s.begun x (omega (arith, s.rows.ok.0, s.tabled.celled)))
