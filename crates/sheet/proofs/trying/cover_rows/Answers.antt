-- The lists are equally long, and equal place by place.
use Rattle.std.proofs.Common.{arith}
use Rattle.std.proofs.lemmas.List.{ext_get_or, length-map}
use Rattle.layouts.specs.declared.memory.Cover.TheVariants.{Shown}
use Rattle.sheet.specs.Trying.{covers_of}
use Rattle.sheet.proofs.trying.cover_rows.Goals as goal

pub returns : goal.returns
returns c = ext_get_or Shown c.loop-cell.covers (covers_of c.args.chosen c.args.rows.now) (rw length-map (omega arith)) (λ k l. c.loop-cell.invariant k (omega arith))
