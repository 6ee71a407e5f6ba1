-- What is loaded at the copy is what the deposit holds for the layout.
use Rattle.std.proofs.Common.{rules}
use Rattle.intake.specs.Deposit.{deposited}
use Rattle.office.proofs.Turns.{fills_from, filled_loaded}
use Rattle.office.proofs.running.run_deposit.Goals as goal

pub returns : goal.returns
returns g c =
    let s = g.L.Layout.shape c.args.layout.now in
    let bytes = c.args.deposit.now in
    c.run_filled.ensures (deposited s 0 bytes)
    (fills_from _ _ s (deposited s 0 bytes) (λ p q r none same called. filled_loaded s p.now q.now r none same (search rules) bytes (search rules) (search rules)))
