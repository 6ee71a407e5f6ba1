-- An accepted list leaves the sheet as its act says.
use Rattle.std.proofs.Common.{Ok, ap, rules}
use Rattle.sheet.specs.Sheets.{listing}
use Rattle.sheet.proofs.Answering.{no_reason}
use Rattle.sheet.proofs.Meetings.{met_each}
use Rattle.sheet.proofs.Withheld.{counts_withheld, acted_withheld}
use Rattle.sheet.proofs.held.Sheet.withhold.Goals as goal

pub returns-clause-answer : goal.returns-clause-answer
returns-clause-answer c =
    let s = c.args.self.now in
    let l = c.args.cells.now in
    let good = no_reason _ c.in_ok-check_entries.ensures in
    let met = met_each (listing l) c.meet_all.ensures (λ x e k. search rules) in
    rw good (ap Ok (counts_withheld s c.meet_all.new.self l good met c.complements.result c.complements.ensures))

pub returns-clause-acted : goal.returns-clause-acted
returns-clause-acted c =
    let s = c.args.self.now in
    let l = c.args.cells.now in
    let met = met_each (listing l) c.meet_all.ensures (λ x e k. search rules) in
    acted_withheld s c.meet_all.new.self l (no_reason _ c.in_ok-check_entries.ensures) met c.complements.result c.complements.ensures
