-- A row of a sheet is the record of a cell, and what holds of a sheet holds once the cell has met an event.
use Rattle.std.proofs.Common.{◌<◌, length, length-set, vec_len, vec_items, ap, ◌∙◌, sym, ltb, arith}
use Rattle.sheet.proofs.Marking.{cell_at, met_figures, met_needs, met_goes}
use Rattle.sheet.proofs.held.Sheet.meet.Goals as goal

pub meet-requires-clause-cell : goal.meet-requires-clause-cell
meet-requires-clause-cell c =
    let s = c.args.self.now in
    let inside : c.args.cell < vec_len s.network.edges = omega (arith, s.network.edges.ok.0, c.requires) in
    cell_at (vec_items s.table.rows) c.args.cell (s.tabled.within c.args.cell inside) (s.tied c.args.cell inside)

pub invariant_of-self : goal.invariant_of-self
invariant_of-self c =
    let s = c.args.self.now in
    let rows = vec_items s.table.rows in
    let f = met_figures rows (vec_items c.meet.new.self.rows) c.args.cell c.args.event c.meet.ensures in
    let n = met_needs rows (vec_items c.meet.new.self.rows) c.args.cell c.args.event c.meet.ensures in
    record {
      tabled = record {
        celled = omega (arith, simp length-set at (ap length c.meet.ensures), s.tabled.celled);
        balanced = simp f s.tabled.balanced;
        within = λ x l. rw (f x, n x) (s.tabled.within x l);
        small = λ x l. rw (f x) (s.tabled.small x l);
      };
      fits = s.fits;
      tied = λ x l. met_goes rows _ c.args.cell c.args.event c.meet.ensures (omega (arith, s.network.edges.ok.0, c.requires, s.tabled.celled)) x (s.tied x l);
      grounded = λ x l h. s.grounded x l (ap (ltb 0) (sym (n x)) ∙ h);
    }
