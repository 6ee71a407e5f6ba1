-- Calls that each do their act come by a run.
use Rattle.std.proofs.Common.{sym, refl, ap, ◌∙◌, subst}
use Rattle.runs.specs.Acts.{step, Right}
use Rattle.runs.specs.Runs.{CallsRun}

pub calls_run : CallsRun
calls_run = record {
  begins = λ F. record { run = tt; led = refl };
  goes_on = λ F h before after act a k d. record {
    run = (k.run, subst (λ x. Right F x act a) (sym k.led) d.right);
    led = ap (λ x. step F x act a) k.led ∙ sym d.leaves;
  };
}
