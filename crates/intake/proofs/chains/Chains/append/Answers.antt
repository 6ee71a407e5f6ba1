-- The new record is the latest of its leaf, and before it stands the one that was.
use Rattle.std.proofs.Common.{◌≡◌, ◌<◌, Some, None, [], ◌∷◌, ◌++◌, length, set, vec_items, sym, ◌∙◌, subst, arith}
use Rattle.std.proofs.lemmas.List.{get_or_read}
use Rattle.layouts.specs.declared.memory.Record.{Record}
use Rattle.intake.specs.Chains.{Chained}
use Rattle.intake.proofs.Entered.{chained_more}
use Rattle.intake.proofs.chains.Chains.append.Goals as goal

pub invariant_of-self : goal.invariant_of-self
invariant_of-self c =
    let s = c.args.self.now in
    let x = c.args.x in
    let rs = vec_items s.records in
    let heads = vec_items s.heads in
    let next = c.index-next.result.now in
    let r : Record = record { contribution = x; next = next } in
    let place : c.len-place.result ≡ length rs = c.len-place.ensures ∙ s.records.ok.0 in
    let inside : x.leaf < length heads = omega (arith, c.requires.inside, s.heads.ok.0) in
    let before = get_or_read heads x.leaf next inside c.index-next.ensures None ∙ s.chained.headed x.leaf inside in
    let more = chained_more rs r heads s.chained inside c.requires.small (omega (arith, c.requires.room, s.records.ok.0)) before in
    record {
      room = omega (arith, c.push_reserved.ensures.capacity, s.room);
      chained = subst (λ ys. Chained ys (set heads x.leaf (Some c.len-place.result))) (sym c.push_reserved.ensures.items)
          (subst (λ n. Chained (rs ++ r ∷ []) (set heads x.leaf (Some n))) (sym place) more);
    }
