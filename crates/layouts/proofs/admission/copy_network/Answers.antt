-- The copy gives the layout's answers, so the layout's laws are its laws.
use Rattle.std.proofs.Common.{◌≡◌, leb, length, vec_items, vec_len, ap, ◌∙◌, sym, arith}
use Rattle.std.proofs.lemmas.Bool.{and_parts, leb-true}
use Rattle.layouts.specs.Copied.{copied, marks_of}
use Rattle.layouts.proofs.Kept.{copied_same, edges_length, edges_under, same_laws}
use Rattle.layouts.proofs.Values.{length_values}
use Rattle.layouts.proofs.admission.copy_network.Goals as goal

pub invariant_of-result : goal.invariant_of-result
invariant_of-result g c =
    let x = c.args.layout.now in
    let s = g.L.Layout.shape x in
    let v = c.in_ok-copy_edges.field-0 in
    let n = c.relations.result in
    let of = c.in_ok-copy_edges.ensures in
    let limits = and_parts (leb s.cells 512) (leb s.relations 128) c.requires in
    let laws = same_laws s (copied n (vec_items v)) (copied_same s n (vec_items v) c.relations.ensures of) (g.met.L.Layout.lawful x) in
    let cells : vec_len v ≡ s.cells = v.ok.0 ∙ edges_length s n (vec_items v) c.relations.ensures of in
    record {
      small = (omega (arith, cells, leb-true s.cells 512 limits.0), omega (arith, c.relations.ensures, leb-true s.relations 128 limits.1));
      square = λ l h. ap length (edges_under s n (vec_items v) c.relations.ensures of l (omega (arith, cells))) ∙ length_values s.cells (marks_of s l) ∙ sym cells;
      lawful = laws;
    }

pub returns : goal.returns
returns g c =
    copied_same (g.L.Layout.shape c.args.layout.now) c.relations.result (vec_items c.in_ok-copy_edges.field-0) c.relations.ensures c.in_ok-copy_edges.ensures
