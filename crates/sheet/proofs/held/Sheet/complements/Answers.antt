-- The rows that pass the filter are counted.
use Rattle.std.proofs.Common.{◌∙◌, rules, tests}
use Rattle.std.proofs.lemmas.Iterator.{YieldsList-from_slice}
use Rattle.std.proofs.lemmas.Iterator.Consumers.{count_from_yields_List, YieldsList-from_filter}
use Rattle.layouts.specs.declared.memory.Row.{Row}
use Rattle.sheet.specs.Standing.{is_complement_mark}
use Rattle.sheet.specs.Sheets.{rows_of}
use Rattle.sheet.proofs.Facts.{rows_long}
use Rattle.sheet.proofs.Marking.{marks_counted}
use Rattle.sheet.proofs.held.Sheet.complements.Goals as goal

pub returns : goal.returns
returns c =
    let rows = rows_of c.args.self.now in
    count_from_yields_List c.filter.result c.count.result c.count.ensures.ran
    (YieldsList-from_filter _ (λ (r : Row). is_complement_mark r.mark) (YieldsList-from_slice rows cc) c.filter.ensures.closure (λ x r q k. search (rules, tests)))
    ∙ marks_counted is_complement_mark rows _ (rows_long c.args.self.now)
