-- What was read so far, and what the rest of the walk reads, make up what the whole walk reads.
use Rattle.std.proofs.Common.{◌≡◌, ◌+◌, ◌-◌, ◌≤◌, vec_items, vec_len, vec_capacity}
use Rattle.layouts.specs.Admission.{shape_of}
use Rattle.intake.specs.Deposit.{after_these, chain, unseen, walk}
use Rattle.intake.proofs.deposit.walk_chains.Given as goal

abbrev pub invariant-loop-cell : goal.invariant-loop-cell
invariant-loop-cell l =
    let s = shape_of l.network in
    let k = vec_len l.network.edges in
    (walk s l.bytes l.records k 0 l.initial.seen ≡ after_these (vec_items l.pending) (walk s l.bytes l.records (k - l.cell) l.cell l.seen))
    × (vec_len l.pending + unseen l.seen ≡ l.records) × (2048 ≤ vec_capacity l.pending)

abbrev pub invariant-loop-next : goal.invariant-loop-next
invariant-loop-next l =
    let s = shape_of l.network in
    let k = vec_len l.network.edges in
    (after_these (vec_items l.initial.pending) (walk s l.bytes l.records (k - l.cell) l.cell l.initial.seen)
    ≡ after_these (vec_items l.pending) (chain s l.bytes l.records (unseen l.seen) l.cell l.seen l.next (walk s l.bytes l.records (k - (l.cell + 1)) (l.cell + 1))))
    × (vec_len l.pending + unseen l.seen ≡ l.records) × (2048 ≤ vec_capacity l.pending)

abbrev pub decreases-loop-next : goal.decreases-loop-next
decreases-loop-next l = unseen l.seen
