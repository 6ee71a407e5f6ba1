-- Each turn reads one contribution more.
use Rattle.std.proofs.Common.{vec_items, ◌∙◌, inr, rules}
use Rattle.std.proofs.lemmas.Result.{err_from_is_err_and}
use Rattle.composing.proofs.Lines.{begun_more, begun_never, begun_all}
use Rattle.composing.proofs.text.read_contributions.Goals as goal

pub returns-in_err-contribution : goal.returns-in_err-contribution
returns-in_err-contribution c =
    let p = err_from_is_err_and c.from_residual.result c.from_residual.ensures.1 in
    rw (p.1, p.2) (inr (begun_never c.args.text.now (vec_items c.loop-rest.contributions) c.loop-rest.rest.now c.loop-rest.invariant (search rules)
    c.in_err-contribution.field-0.0 c.len-line.result (c.len-line.ensures ∙ c.loop-rest.contributions.ok.0)
    c.in_err-contribution.ensures.0 c.in_err-contribution.ensures.1))

pub loop-rest-preserved : goal.loop-rest-preserved
loop-rest-preserved c =
    begun_more c.args.text.now (vec_items c.loop-rest.contributions) c.loop-rest.rest.now c.loop-rest.invariant (search rules)
    c.in_ok-contribution.contribution c.in_ok-contribution.after.now c.in_ok-contribution.ensures
    (vec_items c.push.new.self) c.in_ok-push.ensures.items

pub returns : goal.returns
returns c = begun_all c.args.text.now (vec_items c.loop-rest.contributions) c.loop-rest.rest.now c.loop-rest.invariant (search rules)
