-- Each exit tells what the digits so far and the byte here come to.
use Rattle.std.proofs.Common.{◌+◌, ◌∙◌, arith, rules}
use Rattle.std.proofs.lemmas.List.{take_rest}
use Rattle.settings.proofs.Numerals.{number_here, form_here, large_here, stops, scanned_more}
use Rattle.settings.proofs.numbers.read_number.Goals as goal

pub returns-then-i-gt0 : goal.returns-then-i-gt0
returns-then-i-gt0 c =
    number_here c.loop-i.invariant c.ranges.greatest.fits c.args.end
    c.loop-i-test.true c.if-i-gt0.true (c.if-b-end.true ∙ c.byte-end.ensures) _ (take_rest c.args.bytes.now (c.loop-i.i + 1))

pub returns-then-not-is_ascii_digit : goal.returns-then-not-is_ascii_digit
returns-then-not-is_ascii_digit c =
    form_here c.loop-i.invariant c.ranges.greatest.fits c.args.end (stops c.loop-i.invariant c.loop-i-test.true (search rules)) (search rules)

pub returns-then-number-from : goal.returns-then-number-from
returns-then-number-from c =
    large_here c.loop-i.invariant c.loop-i-test.true (search rules) (search rules) c.ranges.greatest.fits c.args.end (omega arith)

pub loop-i-preserved : goal.loop-i-preserved
loop-i-preserved c = scanned_more c.loop-i.invariant c.loop-i-test.true (search rules) (search rules) _ (search rules) (search rules)

pub returns : goal.returns
returns c = form_here c.loop-i.invariant c.ranges.greatest.fits c.args.end (λ k t. omega (arith, t.within)) (search rules)
