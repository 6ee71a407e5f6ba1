-- For every list of acts there is a run.
use Rattle.std.proofs.Common.{◌≡◌, ℕ, ◌<◌, ◌≤◌, Bool, true, false, cond, not, ltb, leb, List, [], ◌∷◌, map, get_or, Some, None, refl, ap, arith}
use Rattle.std.specs.List.{range_with_len}
use Rattle.std.proofs.lemmas.List.FromFn.{length-map-range_with_len, get_or-map-range_with_len}
use Rattle.std.proofs.lemmas.Bool.{leb-false, not-false}
use Rattle.refusals.specs.declared.Side.{Side}
use Rattle.refusals.specs.declared.Side.TheVariants.{Up, Down}
use Rattle.refusals.specs.declared.Refusal.TheVariants.{MemorySize, UnknownCell, NotSensitive, Exposed}
use Rattle.refusals.specs.Refusals.{side_of}
use Rattle.readings.specs.Readings.{Witness}
use Rattle.readings.proofs.Written.{witness_same}
use Rattle.readings.specs.Exposure.{Figures, sensitive, is_exposed}
use Rattle.readings.specs.Theorems.{Room, Hidden}
use Rattle.readings.proofs.Walls.{walls_tell_lem}
use Rattle.runs.specs.Acts.{Act, withhold, seek, print, witness, Answer, refused, table, Standing, withheld, Witnesses, WitnessAnswer, Right}
use Rattle.runs.specs.Runs.{standing}
use Rattle.runs.specs.Pairs.{Settled}
use Rattle.runs.specs.Law.{EveryListRuns}
use Rattle.runs.proofs.Hiding.{fit}

room : (F : Figures) (c : ℕ) (side : Side) → F.need c ≤ F.figure c → Room F.figure (F.need c) c side
room F c Up l = tt
room F c Down l = l

module _ (F : Figures) (ok : Settled F) (st : Standing) where
  -- a reading, listed cell by cell
  hidden_witnesses : (c : ℕ) (side : Side) → c < F.shape.cells → Hidden F (withheld F st) c side → (figures : List ℕ) × Witnesses F st c side figures
  hidden_witnesses c side l far = (
    listed,
    record { each = length-map-range_with_len far.0 0 F.shape.cells; reading = w.reading; far = w.away },
  )
    where
      listed : List ℕ
      listed = map far.0 (range_with_len 0 F.shape.cells)

      same : (x : ℕ) → x < F.shape.cells → get_or listed x 0 ≡ far.0 x
      same x m = get_or-map-range_with_len far.0 0 F.shape.cells x x 0 m (omega arith)

      w : Witness F.shape (withheld F st) F.figure (F.need c) c side (λ x. get_or listed x 0)
      w = witness_same F.shape (withheld F st) F.figure (F.need c) c side far.0 (λ x. get_or listed x 0) l same far.1

  right_answer : (act : Act) → (a : Answer) × Right F st act a
  right_answer (withhold cs) = (_, refl)
  right_answer seek = (_, refl)
  right_answer (print memory) = (_, refl)
  right_answer (witness c side memory) =
      go (leb F.shape.cells c) (not (sensitive F.need c)) (ltb memory F.shape.cells)
      (is_exposed F.shape (withheld F st) F.figure (F.need c) c (side_of side)) refl refl refl
    where
      go : (b n d x : Bool) → leb F.shape.cells c ≡ b → not (sensitive F.need c) ≡ n
          → is_exposed F.shape (withheld F st) F.figure (F.need c) c (side_of side) ≡ x
          → (a : Answer) × WitnessAnswer (cond b (Some (UnknownCell c)) (cond n (Some (NotSensitive c)) (cond d (Some MemorySize)
          (cond x (Some (Exposed c (side_of side))) None)))) (Witnesses F st c (side_of side)) a
      go true n d x e g i = (refused (UnknownCell c), refl)
      go false true d x e g i = (refused (NotSensitive c), refl)
      go false false true x e g i = (refused MemorySize, refl)
      go false false false true e g i = (refused (Exposed c (side_of side)), refl)
      go false false false false e g i =
          let l = leb-false F.shape.cells c e in
          let w = hidden_witnesses c (side_of side) l
          ((walls_tell_lem F.shape (withheld F st) F.figure (F.need c) c (side_of side) ok.sound ok.balanced l
          ((fit F ok st).hidden c l (not-false _ g)) (room F c (side_of side) (ok.within c l))).1 i) in
          (table w.0, (w.0, w.1, refl))

pub every_list_runs : EveryListRuns
every_list_runs F ok [] = ([], tt, refl)
every_list_runs F ok (act ∷ acts) =
    let h = every_list_runs F ok acts in
    let a = right_answer F ok (standing F h.0) act in
    ((act, a.0) ∷ h.0, (h.1, a.1), ap (λ l. act ∷ l) h.2)
