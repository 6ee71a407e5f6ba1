-- Each record on the way is the leaf's, and the next one stands before it.
use Rattle.std.proofs.Common.{◌≡◌, ◌<◌, None, [], ◌∷◌, ◌++◌, length, vec_items, sym, refl, ap, ◌∙◌, subst, append-nil, arith}
use Rattle.std.proofs.lemmas.List.{get_or_read}
use Rattle.std.proofs.lemmas.List.Sums.{sum_by_push}
use Rattle.intake.specs.Chains.{chain_of, held, latest, leaf_list, amount_list}
use Rattle.intake.proofs.Links.{latest_within, latest_again, chain_latest}
use Rattle.intake.proofs.Walking.{next_before, next_own, amount_small, chain_step, told_more, told_accepted}
use Rattle.intake.proofs.chains.Chains.tell_chain.Goals as goal

pub loop-link-init : goal.loop-link-init
loop-link-init g c =
    let rs = vec_items c.args.self.now.records in
    let heads = vec_items c.args.self.now.heads in
    let leaves = leaf_list (held rs) in
    let amounts = amount_list (held rs) in
    let l = c.args.leaf in
    let inside : l < length heads = omega (arith, c.args.self.now.heads.ok.0) in
    let head : c.index-link.result.now ≡ latest l leaves (length rs) = get_or_read heads l _ inside c.index-link.ensures None ∙ c.args.self.now.chained.headed l inside in
    let low = latest_within l leaves (length rs) in
    rw head (
      low,
      latest_again l leaves (length rs),
      omega arith,
      λ xs. refl,
      ([], chain_latest l leaves amounts (length rs), refl, λ xs h room. subst (g.R.Rule.stands c.args.rule.now) (sym (append-nil xs)) h),
    )

pub loop-link-smaller : goal.loop-link-smaller
loop-link-smaller g c =
    let s = c.args.self.now in
    let inv = c.loop-link.invariant in
    let within = rw c.in-Some.is at inv.0 in
    rw c.in-Some.is (omega (arith, next_before (vec_items s.records) (vec_items s.heads) s.chained c.args.leaf c.in-Some.at c.index-record.result.now c.index-record.ensures within (rw c.in-Some.is at inv.1)))

pub overflow_add-sum : goal.overflow_add-sum
overflow_add-sum g c =
    let s = c.args.self.now in
    let inv = c.loop-link.invariant in
    let few = s.chained.few in
    let within = rw c.in-Some.is at inv.0 in
    omega (arith, inv.2, amount_small (vec_items s.records) (vec_items s.heads) s.chained c.args.leaf c.in-Some.at c.index-record.result.now c.index-record.ensures within (rw c.in-Some.is at inv.1))

pub loop-link-preserved : goal.loop-link-preserved
loop-link-preserved g c =
    let s = c.args.self.now in
    let inv = c.loop-link.invariant in
    let rs = vec_items s.records in
    let heads = vec_items s.heads in
    let l = c.args.leaf in
    let at = c.in-Some.at in
    let r = c.index-record.result.now in
    let a = r.contribution.amount in
    let is = c.index-record.ensures in
    let within = rw c.in-Some.is at inv.0 in
    let own = rw c.in-Some.is at inv.1 in
    let sums = rw c.in-Some.is at inv.2 in
    let before = next_before rs heads s.chained l at r is within own in
    let small = amount_small rs heads s.chained l at r is within own in
    let step = chain_step rs heads s.chained l at r is within own in
    let told = inv.4.0 in
    let whole = rw c.in-Some.is at inv.4.1 in (
      omega arith,
      next_own rs heads s.chained l at r is within own,
      omega arith,
      λ xs. c.tell.ensures.same xs ∙ inv.3 xs,
      (
        told ++ a ∷ [],
        told_more _ told _ _ a whole step,
        omega (arith, sum_by_push (λ x. x) told a, inv.4.2),
        λ xs h room.
            let stood = inv.4.3 xs h room in
            told_accepted (g.R.Rule.stands c.tell.new.self) c.tell.result a xs told (chain_of rs l) _ small (whole ∙ ap (λ t. told ++ t) step) room
            (c.tell.ensures.refused (xs ++ told) stood) (c.tell.ensures.stands (xs ++ told) stood),
      ),
    )
