-- A witness that the engine has written is one of the sheet as it stands.
use Rattle.std.proofs.Common.{◌≡◌, ℕ, ◌+◌, ◌-◌, ◌<◌, ◌≤◌, Bool, true, false, cond, not, ◌&&◌, ltb, leb, List, length, get_or, take, drop, is_ok, Some, None, Ok, Err, vec_items, Option, Result, sym, refl, ap, ◌∙◌, subst, inl, inr, arith, length-drop}
use Rattle.std.proofs.lemmas.List.{get_or-take, get_or-drop, length-take-le, ext_get_or}
use Rattle.std.proofs.lemmas.Bool.{cases_lt, lt-ltb, le-ltb, le-leb, lt-leb, ltb-false, leb-false}
use Rattle.refusals.specs.declared.Side.{Side}
use Rattle.refusals.specs.declared.Refusal.{Refusal}
use Rattle.refusals.specs.declared.Refusal.TheVariants.{UnknownCell, NotSensitive, MemorySize, Exposed}
use Rattle.refusals.specs.Refusals.{side_of}
use Rattle.layouts.specs.Admission.{shape_of}
use Rattle.layouts.specs.declared.memory.Cover.TheVariants.{Shown}
use Rattle.layouts.specs.declared.memory.Row.{Row}
use Rattle.readings.specs.Exposure.{Figures, sensitive, is_exposed}
use Rattle.readings.specs.Paths.{withheld_by}
use Rattle.readings.specs.Readings.{Witness}
use Rattle.readings.specs.Rows.{figures, needs, looked_at}
use Rattle.readings.specs.Witnesses.{witness_answer}
use Rattle.readings.proofs.Written.{witness_same}
use Rattle.runs.specs.Acts.{Standing, withheld, witness, refusal, Witnesses, WitnessAnswer, step}
use Rattle.sheet.specs.declared.held.Sheet.{Sheet}
use Rattle.sheet.specs.Calls.{tabled, answered}
use Rattle.sheet.specs.Sheets.{figures_of, stands, rows_of, Acted}
use Rattle.sheet.specs.Standing.{standing_of}
use Rattle.sheet.specs.Trying.{covers_of, SameTable}
use Rattle.sheet.proofs.Facts.{rows_long, same_table_figures}
use Rattle.sheet.proofs.Stood.{covers_stood}

not_below : (c n : ℕ) → not (ltb c n) ≡ leb n c
not_below c n = elim (cases_lt c n) [
  | inl l ↦ ap not (lt-ltb c n l) ∙ sym (lt-leb n c l)
  | inr l ↦ ap not (le-ltb c n l) ∙ sym (le-leb n c l)
]

-- THE ANSWER
module _ (F : Figures) (st : Standing) (c side memory : ℕ) where
  -- the engine refuses for the same reasons
  pub engine_answers : witness_answer F (withheld F st) c (side_of side) memory ≡ answered (refusal F st (witness c side memory)) F.shape.cells
  engine_answers =
      rw (not_below c F.shape.cells)
      (go (leb F.shape.cells c) (sensitive F.need c) (ltb memory F.shape.cells) (is_exposed F.shape (withheld F st) F.figure (F.need c) c (side_of side)))
    where
      go : (b s m e : Bool)
          → cond b (Err (UnknownCell c)) (cond (not s) (Err (NotSensitive c)) (cond m (Err MemorySize) (cond (s && e) (Err (Exposed c (side_of side))) (Ok F.shape.cells))))
          ≡ answered (cond b (Some (UnknownCell c)) (cond (not s) (Some (NotSensitive c)) (cond m (Some MemorySize) (cond e (Some (Exposed c (side_of side))) None)))) F.shape.cells
      go true s m e = refl
      go false false m e = refl
      go false true true e = refl
      go false true false true = refl
      go false true false false = refl

  -- an accepted witness is of a cell, and has room
  pub witness_room : refusal F st (witness c side memory) ≡ None → (c < F.shape.cells) × (F.shape.cells ≤ memory)
  witness_room e = go (leb F.shape.cells c) (not (sensitive F.need c)) (ltb memory F.shape.cells) refl refl e
    where
      go : (b s m : Bool) → leb F.shape.cells c ≡ b → ltb memory F.shape.cells ≡ m
          → cond b (Some (UnknownCell c)) (cond s (Some (NotSensitive c)) (cond m (Some MemorySize)
          (cond (is_exposed F.shape (withheld F st) F.figure (F.need c) c (side_of side)) (Some (Exposed c (side_of side))) None))) ≡ None
          → (c < F.shape.cells) × (F.shape.cells ≤ memory)
      go true s m in_it is f = cc
      go false true m in_it is f = cc
      go false false true in_it is f = cc
      go false false false in_it is f = (leb-false F.shape.cells c in_it, ltb-false memory F.shape.cells is)

-- THE TABLE
module _ (F : Figures) (st : Standing) (c : ℕ) (side : Side) (memory : List ℕ) (l : c < F.shape.cells) (room : F.shape.cells ≤ length memory)
    (w : Witness F.shape (withheld F st) F.figure (F.need c) c side (λ x. get_or memory x 0)) where
  front : (x : ℕ) → x < F.shape.cells → get_or (take F.shape.cells memory) x 0 ≡ get_or memory x 0
  front x h = get_or-take F.shape.cells memory x 0 h

  pub front_witnesses : Witnesses F st c side (take F.shape.cells memory)
  front_witnesses =
      let v = witness_same F.shape (withheld F st) F.figure (F.need c) c side (λ x. get_or memory x 0) (λ x. get_or (take F.shape.cells memory) x 0) l front w in
      record { each = length-take-le F.shape.cells memory room; reading = v.reading; far = v.away }

-- THE CALL
-- the answer is right, whether the witness is refused or not
right_by : (o : Option Refusal) (W : List ℕ → Type 0) (n : ℕ) (r : Result ℕ Refusal) (memory : List ℕ) → r ≡ answered o n → (o ≡ None → W (take n memory))
    → WitnessAnswer o W (tabled r memory)
right_by (Some e) W n r memory is w = ap (λ (x : Result ℕ Refusal). tabled x memory) is
right_by None W n r memory is w = (take n memory, w refl, ap (λ (x : Result ℕ Refusal). tabled x memory) is)

-- a witness moves no mark, whatever its answer
witness_stays : (F : Figures) (st : Standing) (c side m : ℕ) (r : Result ℕ Refusal) (memory : List ℕ) → step F st (witness c side m) (tabled r memory) ≡ st
witness_stays F st c side m (Ok n) memory = refl
witness_stays F st c side m (Err e) memory = refl

module _ (s t after : Sheet) (rows : List Row) (c side : ℕ) (asked : Side) (before memory : List ℕ) (r : Result ℕ Refusal)
    (same : SameTable s t) (covers : vec_items t.bench.covers ≡ covers_of Shown (rows_of s)) (lent : rows ≡ rows_of t) (side_is : asked ≡ side_of side)
    (answer : r ≡ witness_answer (looked_at (shape_of t.network) rows) (withheld_by (vec_items t.bench.covers)) c asked (length before)) where
  abbrev F : Figures
  F = figures_of s

  abbrev st : Standing
  st = stands s

  lent_figures : looked_at (shape_of t.network) rows ≡ F
  lent_figures = ap (looked_at (shape_of t.network)) lent ∙ same_table_figures s t same

  pub witness_answers : r ≡ answered (refusal F st (witness c side (length before))) F.shape.cells
  witness_answers =
      answer
      ∙ ap (λ (G : Figures). witness_answer G (withheld_by (vec_items t.bench.covers)) c asked (length before)) lent_figures
      ∙ ap (λ (w : ℕ → Bool). witness_answer F w c asked (length before)) (covers_stood s t same covers)
      ∙ ap (λ (d : Side). witness_answer F (withheld F st) c d (length before)) side_is
      ∙ engine_answers F st c side (length before)

  pub witness_acted : SameTable t after → length memory ≡ length before
      → (is_ok r ≡ true → Witness (shape_of t.network) (withheld_by (vec_items t.bench.covers)) (figures rows) (needs rows c) c asked (λ x. get_or memory x 0))
      → Acted s (witness c side (length before)) (tabled r memory) after
  witness_acted stays long written = record {
    does = record {
      right = right_by (refusal F st (witness c side (length before))) (Witnesses F st c (side_of side)) F.shape.cells r memory witness_answers bears;
      leaves = ap standing_of (stays.same_rows ∙ same.same_rows) ∙ sym (witness_stays F st c side (length before) r memory);
    };
    same_network = stays.same_network ∙ same.same_network;
    same_figures = same_table_figures t after stays ∙ same_table_figures s t same;
    same_rows = λ _ _. stays.same_rows ∙ same.same_rows;
  }
    where
      bears : refusal F st (witness c side (length before)) ≡ None → Witnesses F st c (side_of side) (take F.shape.cells memory)
      bears none =
          let room = witness_room F st c side (length before) none in
          let ok : is_ok r ≡ true = ap is_ok (witness_answers ∙ ap (λ (o : Option Refusal). answered o F.shape.cells) none) in
          front_witnesses F st c (side_of side) memory room.0 (omega (arith, long, room.1))
          (subst (λ (d : Side). Witness F.shape (withheld F st) F.figure (F.need c) c d (λ x. get_or memory x 0)) side_is
          (subst (λ (w : ℕ → Bool). Witness F.shape w F.figure (F.need c) c asked (λ x. get_or memory x 0)) (covers_stood s t same covers)
          (subst (λ (G : Figures). Witness G.shape (withheld_by (vec_items t.bench.covers)) G.figure (G.need c) c asked (λ x. get_or memory x 0)) lent_figures (written ok))))

  -- nothing beyond the cells is other than it was
  pub witness_beyond : length memory ≡ length before → ((x : ℕ) → length rows ≤ x → get_or memory x 0 ≡ get_or before x 0)
      → drop F.shape.cells memory ≡ drop F.shape.cells before
  witness_beyond long rest =
      ext_get_or 0 (drop F.shape.cells memory) (drop F.shape.cells before) (simp length-drop (ap (λ n. n - F.shape.cells) long))
      (λ i h. get_or-drop F.shape.cells memory i 0
      ∙ rest (F.shape.cells + i) (omega (arith, ap length lent, rows_long t, ap (λ (G : Figures). G.shape.cells) (same_table_figures s t same)))
      ∙ sym (get_or-drop F.shape.cells before i 0))
