-- The chains go leaf by leaf, and the order makes no difference.
use Rattle.std.proofs.Common.{◌≡◌, ℕ, ◌+◌, ◌-◌, ◌<◌, Bool, true, false, cond, List, [], ◌++◌, length, get_or, vec_items, vec_len, sum, sym, ap, ◌∙◌, subst, arith}
use Rattle.std.proofs.lemmas.List.{get_or-map, get_or_read}
use Rattle.std.proofs.lemmas.List.Sums.{sum_by-append}
use Rattle.layouts.specs.Admission.{shape_of}
use Rattle.layouts.specs.Copied.{under_at}
use Rattle.layouts.specs.declared.network.Edge.{Edge}
use Rattle.layouts.specs.declared.network.Network.{Network}
use Rattle.intake.specs.Chains.{chain_of, held, leaf_list, amount_list, chains_from}
use Rattle.intake.proofs.Settles.{chains_more, chains_all, whole_shuffled, whole_short, whole_sum, told_chain, told_room, told_whole, row_made}
use Rattle.intake.proofs.settling.settle_cell.Goals as goal
use Rattle.intake.proofs.settling.settle_cell.Goals.{then-index, else-index}

-- the marks of the edge of a leaf
module _ (n : Network) (es : List Edge) (l : ℕ) (e : Edge) (all : es ≡ vec_items n.edges) (h : l < length es) (is : e ≡ get_or es l e) where
  marks_are : under_at (vec_items n.edges) l ≡ vec_items e.under
  marks_are = ap (λ (es : List Edge). under_at es l) (sym all) ∙ get_or-map (λ (e : Edge). vec_items e.under) es l e [] h ∙ ap (λ (e : Edge). vec_items e.under) (sym is)

  marks_long : l < vec_len n.edges → vec_len e.under ≡ vec_len n.edges
  marks_long inside = e.under.ok.0 ∙ ap length (sym marks_are) ∙ n.square l inside

  mark_read : (c : ℕ) (b : Bool) → c < vec_len e.under → b ≡ get_or (vec_items e.under) c b → (shape_of n).counts c l ≡ b
  mark_read c b k r = ap (λ bs. get_or bs c false) marks_are ∙ sym (get_or_read (vec_items e.under) c b (omega (arith, e.under.ok.0)) r false)

pub index-requires : goal.index-requires
index-requires g c =
    let long = c.deref-edge-items.ensures.len in
    omega (arith, marks_long c.args.network.now _ c.loop-leaf.leaf c.edge-item.result c.deref-edge-items.ensures.value c.loop-leaf-test.true c.edge-item.is (omega arith), c.requires.inside)

pub loop-leaf-preserved : goal.loop-leaf-preserved
loop-leaf-preserved g c =
    let n = c.args.network.now in
    let rs = vec_items c.args.chains.now.records in
    let hs = vec_items c.args.chains.now.heads in
    let k = vec_len n.edges in
    let l = c.loop-leaf.leaf in
    let inv = c.loop-leaf.invariant in
    let told = inv.2.0 in
    let all = inv.2.1 in
    let inside : l < k = omega (arith, c.loop-leaf-test.true, c.deref-edge-items.ensures.len) in
    let value = c.deref-edge-items.ensures.value in
    let long = marks_long n _ l c.edge-item.result value c.loop-leaf-test.true c.edge-item.is inside in
    let is = mark_read n _ l c.edge-item.result value c.loop-leaf-test.true c.edge-item.is c.args.cell c.index.result.now (omega (arith, long, c.requires.inside)) c.index.ensures in
    let more = chains_more ((shape_of n).counts c.args.cell) (leaf_list (held rs)) (amount_list (held rs)) (length rs) l k inside in
    let after = chains_from ((shape_of n).counts c.args.cell) (leaf_list (held rs)) (amount_list (held rs)) (length rs) (l + 1) (k - (l + 1)) in
    elim c.if-index.branch [
      | then-index w ↦
          (let yes : (shape_of n).counts c.args.cell l ≡ true = is ∙ w.if-index.true in
          let chain = chain_of rs l in
          let step = more ∙ ap (λ b. cond b chain [] ++ after) yes in
          let all' = told_chain _ told chain _ after all step in
          let wide : k ≡ length hs = sym c.requires.wide ∙ c.args.chains.now.heads.ok.0 in
          let short = whole_short (shape_of n) rs hs c.args.chains.now.chained c.args.cell in
          let room = told_room _ told chain after (rw wide short) all' in
          let said = w.tell_chain-figure.ensures in (
            omega (arith, w.figure-is, said.bound, inv.0),
            λ xs. ap (λ r. g.R.Rule.meaning r xs) w.rule-is ∙ said.same xs ∙ inv.1 xs,
            (
              told ++ chain,
              all',
              w.figure-is ∙ omega (arith, said.sum, inv.2.2, sum_by-append (λ x. x) told chain),
              subst (λ r. g.R.Rule.stands r (told ++ chain)) (sym w.rule-is) (said.told told inv.2.3 room),
            ),
          ))
      | else-index w ↦
          (let no : (shape_of n).counts c.args.cell l ≡ false = is ∙ w.if-index.false in
          let step = more ∙ ap (λ b. cond b (chain_of rs l) [] ++ after) no in (
            omega (arith, w.figure-is, inv.0),
            λ xs. ap (λ r. g.R.Rule.meaning r xs) w.rule-is ∙ inv.1 xs,
            (
              told,
              all ∙ ap (λ t. told ++ t) step,
              w.figure-is ∙ inv.2.2,
              subst (λ r. g.R.Rule.stands r told) (sym w.rule-is) inv.2.3,
            ),
          ))
    ]

pub returns-clause-row : goal.returns-clause-row
returns-clause-row g c =
    let n = c.args.network.now in
    let s = shape_of n in
    let rs = vec_items c.args.chains.now.records in
    let hs = vec_items c.args.chains.now.heads in
    let chained = c.args.chains.now.chained in
    let k = vec_len n.edges in
    let inv = c.loop-leaf.invariant in
    let wide : length hs ≡ k = sym c.args.chains.now.heads.ok.0 ∙ c.requires.wide in
    let under = chains_from (s.counts c.args.cell) (leaf_list (held rs)) (amount_list (held rs)) (length rs) 0 in
    let told : inv.2.0 ≡ under (length hs) =
    told_whole _ inv.2.0 _ inv.2.1 (chains_all (s.counts c.args.cell) (leaf_list (held rs)) (amount_list (held rs)) (length rs) c.loop-leaf.leaf k (omega (arith, c.deref-edge-items.ensures.len, c.loop-leaf-test.false)))
    ∙ ap under (sym wide) in
    let same = λ (xs : List ℕ). inv.1 xs ∙ c.begin.ensures.same xs in
    let figure = inv.2.2 ∙ ap sum told ∙ whole_sum s rs hs chained c.args.cell in
    let needed = c.need-need.ensures inv.2.0 inv.2.3 ∙ same inv.2.0 ∙ ap (g.R.Rule.meaning c.args.rule.now) told
    ∙ g.met.R.Rule.order c.args.rule.now _ _ (whole_shuffled s rs hs chained c.args.cell) in
    row_made s (g.R.Rule.meaning c.args.rule.now) (held rs) c.args.cell _ _ figure needed _ c.mark_of-mark.ensures
