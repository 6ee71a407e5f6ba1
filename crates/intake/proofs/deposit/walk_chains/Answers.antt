-- Each test of the code is one of the walk.
use Rattle.std.proofs.Common.{◌≡◌, ◌+◌, ◌-◌, ◌*◌, ◌<◌, ◌≤◌, true, false, not, ◌&&◌, is_some, [], ◌∷◌, ◌++◌, length, set, Ok, vec_items, vec_len, sym, ap, ◌∙◌, arith}
use Rattle.std.proofs.lemmas.List.{append-nil}
use Rattle.std.proofs.lemmas.Bool.{and_right}
use Rattle.layouts.specs.Admission.{shape_of}
use Rattle.layouts.proofs.Kept.{network_cells}
use Rattle.intake.specs.Deposit.{after_these, chain, contribution, head, link, next, record_place, unseen, walk, word}
use Rattle.intake.proofs.Deposits.{unseen_set, unseen_all, after_none, after_more, chain_end, chain_large, chain_on, walk_total, walk_cell, walk_all, leaf_of_edge}
use Rattle.intake.proofs.deposit.walk_chains.Goals as goal
use Rattle.intake.proofs.deposit.walk_chains.Goals.{else-is_some-via-then-is_some+else-not-edge, else-is_some-via-else-is_some}

pub loop-cell-init : goal.loop-cell-init
loop-cell-init c =
    let k = vec_len c.args.network.now.edges in
    let seen = c.args.seen.now in
    let all : k - 0 ≡ k = omega arith in
    let w = walk (shape_of c.args.network.now) c.args.bytes.now (length seen) (k - 0) 0 seen in
    let none = ap (λ xs. after_these xs w) c.requires.none.0 ∙ after_none w in
    let empty : vec_len c.args.pending.now ≡ 0 = c.args.pending.now.ok.0 ∙ ap length c.requires.none.0 in (
      ap (λ n. walk (shape_of c.args.network.now) c.args.bytes.now (length seen) n 0 seen) (sym all) ∙ sym none,
      omega (arith, ap unseen c.requires.none.1, unseen_all (length seen)),
      c.requires.room.1,
    )

pub loop-next-init : goal.loop-next-init
loop-next-init c =
    let n = c.args.network.now in
    let s = shape_of n in
    let b = c.args.bytes.now in
    let i = c.loop-cell.cell in
    let k = vec_len n.edges in
    let inside : i < k = omega (arith, c.loop-cell-test.true, c.deref-edge-items.ensures.len) in
    let is : c.link-next.result ≡ head b i = c.link-next.ensures in
    let leaf = leaf_of_edge n _ i c.edge-item.result c.deref-edge-items.ensures.value c.loop-cell-test.true c.edge-item.is in
    let fine : (is_some (head b i) && not (s.leaf i)) ≡ false =
    elim c.else-is_some.branch [
      | else-is_some-via-then-is_some+else-not-edge w ↦ and_right _ _ (ap not (leaf ∙ w.if-not-edge.false))
      | else-is_some-via-else-is_some w ↦
          (let none : is_some (head b i) ≡ false = ap is_some (sym is) ∙ sym c.is_some.ensures ∙ w.if-is_some.false in rw none)
    ] in
    let step = walk_cell s b (length c.args.seen.now) i k c.loop-cell.seen inside fine in (
      ap (after_these (vec_items c.loop-cell.pending))
          (step ∙ ap (λ l. chain s b (length c.args.seen.now) (unseen c.loop-cell.seen) i c.loop-cell.seen l (walk s b (length c.args.seen.now) (k - (i + 1)) (i + 1))) (sym is)),
      c.loop-cell.invariant.1,
      c.loop-cell.invariant.2,
    )

pub push_reserved-requires : goal.push_reserved-requires
push_reserved-requires c =
    let seen = c.loop-next.seen in
    let some : c.in-Some.at < length seen = omega (arith, c.if-at-records.false, c.loop-next.auto.seen, c.loop-cell.auto.seen) in
    omega (arith, unseen_set seen c.in-Some.at some c.if-seen-at.false, c.loop-next.invariant.1, c.loop-next.invariant.2, c.requires.room.0)

pub loop-next-smaller : goal.loop-next-smaller
loop-next-smaller c =
    let seen = c.loop-next.seen in
    let some : c.in-Some.at < length seen = omega (arith, c.if-at-records.false, c.loop-next.auto.seen, c.loop-cell.auto.seen) in
    omega (arith, unseen_set seen c.in-Some.at some c.if-seen-at.false)

pub loop-next-preserved : goal.loop-next-preserved
loop-next-preserved c =
    let n = c.args.network.now in
    let s = shape_of n in
    let b = c.args.bytes.now in
    let i = c.loop-cell.cell in
    let at = c.in-Some.at in
    let k = vec_len n.edges in
    let q = length c.args.seen.now in
    let seen = c.loop-next.seen in
    let some : at < length seen = omega (arith, c.if-at-records.false, c.loop-next.auto.seen, c.loop-cell.auto.seen) in
    let cells : c.len-cells.result ≡ s.cells = c.len-cells.ensures ∙ sym (network_cells n) in
    let x : c.contribution-x.result ≡ contribution s.cells b i at = c.contribution-x.ensures ∙ ap (λ m. contribution m b i at) cells in
    let small : (contribution s.cells b i at).amount ≤ 1000000000 = omega (arith, ap (λ y. y.amount) x, c.if-x-gt-LARGEST_AMOUNT.false) in
    let rest = walk s b q (k - (i + 1)) (i + 1) in
    let place : 4 + c.len-cells.result + 3 * at ≡ record_place s.cells at + 2 = omega arith in
    let on : c.link-next-in-Some.result ≡ next s.cells b at = c.link-next-in-Some.ensures ∙ ap (λ p. link (word b p)) place in
    let step = chain_on s b q i seen rest at c.if-at-records.false some c.if-seen-at.false small in
    let tail = chain s b q (unseen (set seen at true)) i (set seen at true) (next s.cells b at) rest in (
      rw c.in-Some.is at c.loop-next.invariant.0
          ∙ ap (after_these (vec_items c.loop-next.pending)) step
          ∙ after_more (vec_items c.loop-next.pending) (contribution s.cells b i at ∷ []) tail
          ∙ ap (λ y. after_these (vec_items c.loop-next.pending ++ y ∷ []) tail) (sym x)
          ∙ ap (λ ys. after_these ys tail) (sym c.push_reserved.ensures.items)
          ∙ ap (λ m. after_these (vec_items c.push_reserved.new.self) (chain s b q (unseen (set seen at true)) i (set seen at true) m rest)) (sym on),
      omega (arith, unseen_set seen at some c.if-seen-at.false, c.loop-next.invariant.1, c.push_reserved.ensures.len),
      omega (arith, c.push_reserved.ensures.capacity, c.loop-next.invariant.2),
    )

pub loop-cell-preserved : goal.loop-cell-preserved
loop-cell-preserved c =
    let n = c.args.network.now in
    let i = c.loop-cell.cell in
    let q = length c.args.seen.now in
    let rest = walk (shape_of n) c.args.bytes.now q (vec_len n.edges - (i + 1)) (i + 1) in (
      c.loop-cell.invariant.0 ∙ rw c.in_default.is at c.loop-next.invariant.0
          ∙ ap (after_these (vec_items c.loop-next.pending)) (chain_end (shape_of n) c.args.bytes.now q i c.loop-next.seen rest (unseen c.loop-next.seen)),
      c.loop-next.invariant.1,
      c.loop-next.invariant.2,
    )

pub returns-then-not-edge-clause-walked : goal.returns-then-not-edge-clause-walked
returns-then-not-edge-clause-walked c =
    let n = c.args.network.now in
    let s = shape_of n in
    let i = c.loop-cell.cell in
    let b = c.args.bytes.now in
    let inside : i < vec_len n.edges = omega (arith, c.loop-cell-test.true, c.deref-edge-items.ensures.len) in
    let some : is_some (head b i) ≡ true = ap is_some (sym c.link-next.ensures) ∙ sym c.is_some.ensures ∙ c.if-is_some.true in
    let total : s.leaf i ≡ false = leaf_of_edge n _ i c.edge-item.result c.deref-edge-items.ensures.value c.loop-cell-test.true c.edge-item.is ∙ c.if-not-edge.true in
    c.loop-cell.invariant.0
    ∙ ap (after_these (vec_items c.loop-cell.pending)) (walk_total s b (length c.args.seen.now) i (vec_len n.edges) c.loop-cell.seen inside (rw (some, total)))

pub returns-then-x-gt-LARGEST_AMOUNT-clause-walked : goal.returns-then-x-gt-LARGEST_AMOUNT-clause-walked
returns-then-x-gt-LARGEST_AMOUNT-clause-walked c =
    let n = c.args.network.now in
    let s = shape_of n in
    let b = c.args.bytes.now in
    let i = c.loop-cell.cell in
    let at = c.in-Some.at in
    let q = length c.args.seen.now in
    let seen = c.loop-next.seen in
    let some : at < length seen = omega (arith, c.if-at-records.false, c.loop-next.auto.seen, c.loop-cell.auto.seen) in
    let cells : c.len-cells.result ≡ s.cells = c.len-cells.ensures ∙ sym (network_cells n) in
    let x : c.contribution-x.result ≡ contribution s.cells b i at = c.contribution-x.ensures ∙ ap (λ m. contribution m b i at) cells in
    let large : 1000000000 < (contribution s.cells b i at).amount = omega (arith, ap (λ y. y.amount) x, c.if-x-gt-LARGEST_AMOUNT.true) in
    c.loop-cell.invariant.0 ∙ rw c.in-Some.is at c.loop-next.invariant.0
    ∙ ap (after_these (vec_items c.loop-next.pending)) (chain_large s b q i seen (walk s b q (vec_len n.edges - (i + 1)) (i + 1)) at c.if-at-records.false some c.if-seen-at.false large)

pub returns-else-len-records-clause-walked : goal.returns-else-len-records-clause-walked
returns-else-len-records-clause-walked c =
    let n = c.args.network.now in
    let end : vec_len n.edges ≤ c.loop-cell.cell = omega (arith, c.loop-cell-test.false, c.deref-edge-items.ensures.len) in
    c.loop-cell.invariant.0
    ∙ ap (after_these (vec_items c.loop-cell.pending))
    (walk_all (shape_of n) c.args.bytes.now (length c.args.seen.now) c.loop-cell.cell (vec_len n.edges) c.loop-cell.seen end (omega (arith, c.loop-cell.invariant.1)))
    ∙ ap Ok (append-nil (vec_items c.loop-cell.pending))
