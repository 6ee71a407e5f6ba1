-- Writing a page line by line, for any loop that keeps the lines so far and then what the memory held.
use Rattle.std.proofs.Common.{◌≡◌, ℕ, zero, suc, ◌+◌, ◌*◌, ◌<◌, ◌≤◌, true, List, ◌++◌, length, drop, None, Option, sym, refl, ap, ◌∙◌, append_assoc, add-one, arith, length-append, length-drop}
use Rattle.std.proofs.lemmas.List.{drop-drop, take_at, drop_at}
use Rattle.std.proofs.lemmas.Bool.{cond-true}
use Rattle.std.proofs.lemmas.List.Folds.{list_all_at}
use Rattle.std.proofs.lemmas.Bool.Decides.{nat_tests}
use Rattle.page.specs.Page.{line, page, fits}
use Rattle.page.specs.Writing.{line_room, line_over, line_left, shown_entry, page_room}
use Rattle.page.specs.Laws.{Printable}
use Rattle.page.proofs.Lines.{length_line}

-- WHAT CAN BE PRINTED
pub printable_below : (m n : ℕ) (shows : ℕ → Option ℕ) → m ≤ n → Printable n shows → Printable m shows
printable_below m n shows h p = record { few = omega arith; fit = λ c l. p.fit c (omega arith) }

pub length_page : (cells : ℕ) (shows : ℕ → Option ℕ) → Printable cells shows → length (page cells shows) ≡ 19 * cells
unfolding page
length_page zero shows p = refl
length_page (suc n) shows p =
    let l = length_line n (shows n) (omega arith) (p.fit n (omega arith)) in
    let r = length_page n shows (printable_below n (suc n) shows (omega arith) p) in
    simp (length-append (page n shows)) (omega arith)

-- pages that show the same are the same
pub page_same : (cells : ℕ) (shows other : ℕ → Option ℕ) → ((c : ℕ) → c < cells → shows c ≡ other c) → page cells shows ≡ page cells other
unfolding page
page_same zero shows other h = refl
page_same (suc n) shows other h = rw (page_same n shows other (λ c l. h c (omega arith)), h n (omega arith))

-- WHERE THERE IS ROOM
pub room_printable : (size : ℕ) (xs : List (Option ℕ)) → page_room size xs ≡ true → Printable (length xs) (shown_entry xs) × (19 * length xs ≤ size)
room_printable size xs h =
    (record { few = grind (arith, nat_tests); fit = λ c l. grind (arith, nat_tests, list_all_at fits xs c None) }, grind (arith, nat_tests))

-- THE STEPS OF THE LOOP
-- before the first line
pub page_none : (shows : ℕ → Option ℕ) (before : List ℕ) → before ≡ page 0 shows ++ drop (19 * 0) before
unfolding page
page_none shows before = refl

module _ (cells : ℕ) (shows : ℕ → Option ℕ) (before : List ℕ) (p : Printable cells shows) (enough : 19 * cells ≤ length before)
    (c : ℕ) (memory : List ℕ) (h : c < cells) (so_far : memory ≡ page c shows ++ drop (19 * c) before) where
  -- there is room for the next line
  pub room_more : line_room (length memory) c (shows c) ≡ true
  room_more =
      let l = length_page c shows (printable_below c cells shows (omega arith) p) in
      let long : length memory ≡ length before = ap length so_far ∙ simp (length-append (page c shows), length-drop) (omega arith) in
      let fit = p.fit c h in
      let few = p.few in
      grind (arith, nat_tests)

  -- the next line
  pub over_more : line_over memory c (shows c) ≡ page (c + 1) shows ++ drop (19 * (c + 1)) before
  unfolding page line_over
  over_more =
      let n = length_page c shows (printable_below c cells shows (omega arith) p) in
      let m : 19 * c + 19 ≡ 19 * (c + 1) = omega arith in
      let t = take_at (page c shows) (drop (19 * c) before) (19 * c) n in
      let d = drop_at (page c shows) (drop (19 * c) before) (19 * c) n in
      let e = drop-drop 19 (19 * c) (page c shows ++ drop (19 * c) before) in
      let r = drop-drop 19 (19 * c) before in
      rw (so_far, t, ← e, d, r, m, add-one c) (sym (append_assoc (page c shows) (line c (shows c)) _))

  -- the same of a call that answers for room itself
  pub line_more : (s : Option ℕ) → s ≡ shows c → line_left memory c s ≡ page (c + 1) shows ++ drop (19 * (c + 1)) before
  line_more s is = rw is (cond-true _ _ _ room_more ∙ over_more)
