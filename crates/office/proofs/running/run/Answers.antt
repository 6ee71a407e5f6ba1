-- What is entered at the copy is what the layout takes in.
use Rattle.std.proofs.Common.{rules}
use Rattle.office.specs.Office.{entered}
use Rattle.office.proofs.Turns.{fills_from, filled_entered}
use Rattle.office.proofs.running.run.Goals as goal

pub returns : goal.returns
returns g c =
    let s = g.L.Layout.shape c.args.layout.now in
    let xs = c.args.contributions.now in
    c.run_filled.ensures (entered s xs)
    (fills_from _ _ s (entered s xs) (λ p q r none same called. filled_entered s p.now q.now r none same (search rules) xs (search rules)))
