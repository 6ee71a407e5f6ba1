-- Each turn appends the bytes of one number.
use Rattle.std.proofs.Common.{ap, ◌∙◌}
use Rattle.std.specs.List.{flat_map}
use Rattle.std.proofs.lemmas.List.{take_all}
use Rattle.composing.specs.Deposit.{number_bytes}
use Rattle.composing.proofs.Numbers.{written_more}
use Rattle.composing.proofs.deposit.write_numbers.Goals as goal

pub loop-number-preserved : goal.loop-number-preserved
loop-number-preserved c = written_more c.args.numbers.now c.loop-number.number-index c.loop-number-test.true _ _ _ c.loop-number.invariant c.to_le_bytes.ensures c.in_ok-extend_from_slice.ensures.items

pub returns : goal.returns
returns c = c.loop-number.invariant ∙ ap (flat_map number_bytes) (take_all c.loop-number.number-index c.args.numbers.now c.loop-number-test.false)
