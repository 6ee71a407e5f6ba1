-- What the engine answers and writes is the witness of the sheet as it stands.
use Rattle.std.proofs.Common.{ℕ, List, vec_items, sym, refl, subst}
use Rattle.layouts.specs.Admission.{shape_of}
use Rattle.layouts.specs.declared.memory.Row.{Row}
use Rattle.sheet.proofs.Borne.{witness_answers, witness_acted, witness_beyond}
use Rattle.sheet.proofs.Stood.{stood_hidden}
use Rattle.readings.specs.Rows.{looked_at}
use Rattle.readings.specs.Tables.{CoverNeeds, Tabled}
use Rattle.sheet.proofs.held.Sheet.witness.Goals as goal

pub invariant_of-witness : goal.invariant_of-witness
invariant_of-witness c =
    let t = c.set_covers.new.self in
    let same = sym c.as_slice.ensures.value in
    record {
      lent = record {
        tabled = subst (Tabled t.network) same t.tabled;
        fits = t.fits;
        hidden = subst (λ (rows : List Row). CoverNeeds (looked_at (shape_of t.network) rows) (vec_items t.bench.covers)) same
            (stood_hidden c.args.self.now t c.set_covers.ensures.same c.set_covers.ensures.covers);
      };
    }

pub returns : goal.returns
returns c =
    let s = c.args.self.now in
    let t = c.set_covers.new.self in
    let rows : List Row = c.as_slice.result.now in
    let same = c.set_covers.ensures.same in
    let covers = c.set_covers.ensures.covers in
    let lent = c.as_slice.ensures.value in
    let before : List ℕ = c.args.memory.now in
    let memory : List ℕ = c.witness.new.memory in
    record {
      answer = witness_answers s t t rows c.args.cell c.args.side c.from.result before memory c.witness.result same covers lent c.from.ensures c.witness.ensures.answer;
      acted = witness_acted s t _ rows c.args.cell c.args.side c.from.result before memory c.witness.result same covers lent c.from.ensures c.witness.ensures.answer
          (record { same_network = refl; same_rows = refl }) c.witness.auto.memory c.witness.ensures.written;
      beyond = witness_beyond s t t rows c.args.cell c.args.side c.from.result before memory c.witness.result same covers lent c.from.ensures c.witness.ensures.answer
          c.witness.auto.memory c.witness.ensures.beyond;
      untouched = c.witness.ensures.untouched;
    }
