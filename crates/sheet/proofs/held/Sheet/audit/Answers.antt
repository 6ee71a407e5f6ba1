use Rattle.std.proofs.Common.{List, vec_items, sym, subst}
use Rattle.layouts.specs.Admission.{shape_of}
use Rattle.layouts.specs.declared.memory.Row.{Row}
use Rattle.readings.specs.Rows.{looked_at}
use Rattle.readings.specs.Tables.{CoverNeeds, Tabled}
use Rattle.sheet.proofs.held.Sheet.audit.Goals as goal

pub invariant_of-audit : goal.invariant_of-audit
invariant_of-audit c =
    let s = c.args.self.now in
    let same = sym c.as_slice.ensures.value in
    record {
      lent = record {
        tabled = subst (Tabled s.network) same s.tabled;
        fits = s.fits;
        hidden = subst (λ (rows : List Row). CoverNeeds (looked_at (shape_of s.network) rows) (vec_items s.bench.covers)) same c.requires;
      };
    }
