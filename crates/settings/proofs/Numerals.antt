-- Reading a number up to a greatest, from the digits that a scan has come over.
use Rattle.std.proofs.Common.{◌≡◌, ℕ, ◌+◌, ◌-◌, ◌*◌, ◌^◌, ◌<◌, ◌≤◌, List, [], ◌∷◌, ◌++◌, length, get_or, take, drop, decimal, sym, refl, ap, ◌∙◌, ◌⊎◌, inl, inr, ⊎_elim, append_assoc, arith, length-append, below_more}
use Rattle.std.specs.Char.{IsNotAsciiDigit}
use Rattle.std.specs.Int.{IsInRange}
use Rattle.std.proofs.lemmas.Bool.{cases_order, cases_lt}
use Rattle.std.proofs.lemmas.List.{get_or_at, drop_at, drop_more, take-append-drop}
use Rattle.settings.specs.declared.numbers.Ending.{Ending}
use Rattle.settings.specs.declared.numbers.Ending.TheVariants.{Blank, Newline}
use Rattle.settings.specs.declared.numbers.NumberFault.TheVariants.{Form, TooLarge}
use Rattle.settings.specs.Line.{byte_of, number_text, UpTo}
use Rattle.settings.specs.Reading.{Opens, Alone, Never, NumberWrong}
use Rattle.settings.proofs.Digits.{value, Spelt, value_more, value_grows, spelt, value_spelt, decimal_value}

-- an ending is no digit
low : (end : Ending) → byte_of end < 48
low Blank = omega arith
low Newline = omega arith

-- The bytes before i are digits, with no zero before others, and write this number.
pub record Scanned (greatest : ℕ) (bytes : List ℕ) (i number : ℕ) : Type 0 where
  pub digits : (j : ℕ) → j < i → IsInRange 48 57 (get_or bytes j 0)
  pub lead : get_or bytes 0 0 ≡ 48 → i ≤ 1
  pub is : number ≡ value bytes i
  pub small : number ≤ greatest

-- a number's text is spelt, and the ending stands after it
module _ (greatest : ℕ) (bytes : List ℕ) (fits : greatest < 2 ^ 32) (end : Ending) (n : ℕ) (rest : List ℕ) (o : Opens (UpTo greatest) (number_text end) bytes n rest) where
  whole : bytes ≡ decimal n ++ (byte_of end ∷ rest)
  whole = o.1 ∙ append_assoc (decimal n) (byte_of end ∷ []) rest

  text_spelt : Spelt bytes (length (decimal n))
  text_spelt = spelt bytes n (byte_of end ∷ rest) (omega arith) whole

  text_value : value bytes (length (decimal n)) ≡ n
  text_value = value_spelt bytes n (byte_of end ∷ rest) (omega arith) whole

  text_ends : get_or bytes (length (decimal n)) 0 ≡ byte_of end
  text_ends = rw whole (get_or_at (decimal n) (byte_of end) rest 0 (length (decimal n)) refl)

  text_within : length (decimal n) < length bytes
  text_within = omega (arith, simp length-append at (ap length whole))

module _ {greatest : ℕ} {bytes : List ℕ} {i number : ℕ} (s : Scanned greatest bytes i number) where
  -- no number's digits go on over what is no digit, nor over a zero before others
  pub stops : i < length bytes → IsNotAsciiDigit (get_or bytes i 0) ⊎ ((0 < i) × (number ≡ 0)) → (k : ℕ) → Spelt bytes k → k ≤ i
  stops within (inl out) k t = ⊎_elim (λ (l : i < k). let d = t.digits i l in grind (arith, out, d)) (λ (l : k ≤ i). l) (cases_lt i k)
  stops within (inr zero) k t =
      let first = s.digits 0 zero.0 in
      let lead : get_or bytes 0 0 ≡ 48 = omega (arith, value_more bytes 0 (omega arith) first, value_grows bytes 1 i zero.0, s.is, first) in
      omega (arith, t.lead lead)

  -- one digit more
  module _ (within : i < length bytes) (digit : IsInRange 48 57 (get_or bytes i 0)) (lead : get_or bytes 0 0 ≡ 48 → i ≡ 0) where
    digits_more : (j : ℕ) → j < i + 1 → IsInRange 48 57 (get_or bytes j 0)
    digits_more = below_more (λ j. IsInRange 48 57 (get_or bytes j 0)) i s.digits digit

    pub scanned_more : (more : ℕ) → more ≡ number * 10 + (get_or bytes i 0 - 48) → more ≤ greatest → Scanned greatest bytes (i + 1) more
    scanned_more more is small = record {
      digits = digits_more;
      lead = λ z. omega (arith, lead z);
      is = omega (arith, is, s.is, value_more bytes i within digit);
      small = small;
    }

    -- with which the number is too large
    pub large_here : (fits : greatest < 2 ^ 32) (end : Ending) → greatest < number * 10 + (get_or bytes i 0 - 48)
        → Never (UpTo greatest) (number_text end) bytes × NumberWrong greatest bytes TooLarge
    large_here fits end large =
        let more = value_more bytes i within digit in
        let here : Spelt bytes (i + 1) = record { some = omega arith; within = omega arith; digits = digits_more; lead = λ z. omega (arith, lead z) } in
        let fit : value bytes (i + 1) < 2 ^ 64 = omega (arith, more, s.is, s.small) in (
          λ n rest o.
              let k = length (decimal n) in
              ⊎_elim (λ (l : k < i + 1). omega (arith, digits_more k l, text_ends greatest bytes fits end n rest o, low end))
              (λ (l : i + 1 ≤ k). omega (arith, value_grows bytes (i + 1) k l, text_value greatest bytes fits end n rest o, o.0, more, s.is))
              (cases_lt k (i + 1)),
          (
            value bytes (i + 1),
            drop (i + 1) bytes,
            ((omega (arith, more, s.is), fit), sym (take-append-drop (i + 1) bytes) ∙ ap (λ t. t ++ drop (i + 1) bytes) (sym (decimal_value bytes (i + 1) here fit))),
          ),
        )

  module _ (fits : greatest < 2 ^ 32) (end : Ending) where
    -- the ending stands here
    pub number_here : i < length bytes → 0 < i → get_or bytes i 0 ≡ byte_of end → (after : List ℕ) → after ≡ drop (i + 1) bytes
        → Alone (UpTo greatest) (number_text end) bytes number after
    number_here within some at after r =
        let here : Spelt bytes i = record { some = some; within = omega arith; digits = s.digits; lead = λ z. omega (arith, s.lead z) } in
        let dec : decimal number ≡ take i bytes = rw s.is (decimal_value bytes i here (omega (arith, s.is, s.small))) in (
          (
            s.small,
            sym (take-append-drop i bytes) ∙ rw (drop_more bytes i 0 within, at, ← r, ← dec) (sym (append_assoc (decimal number) (byte_of end ∷ []) after)),
          ),
          λ y rest o.
              let k = length (decimal y) in
              let same : i ≡ k =
              ⊎_elim (λ (e : i ≡ k). e)
              (⊎_elim (λ (l : i < k). absurd (omega (arith, (text_spelt greatest bytes fits end y rest o).digits i l, low end)))
              (λ (l : k < i). absurd (omega (arith, s.digits k l, text_ends greatest bytes fits end y rest o, low end))))
              (cases_order i k) in
              let d : drop (i + 1) bytes ≡ rest = rw (same, o.1) (drop_at (decimal y ++ (byte_of end ∷ [])) rest (k + 1) (length-append (decimal y) (byte_of end ∷ []))) in
              (s.is ∙ ap (value bytes) same ∙ text_value greatest bytes fits end y rest o, r ∙ d),
        )

    -- no number's digits go on beyond i, and none ends here
    pub form_here : ((k : ℕ) → Spelt bytes k → k ≤ i) → (0 < i → get_or bytes i 0 ≡ byte_of end → i < length bytes → ⊥)
        → Never (UpTo greatest) (number_text end) bytes × NumberWrong greatest bytes Form
    form_here stopped none = (
      λ n rest o.
          let k = length (decimal n) in
          let t = text_spelt greatest bytes fits end n rest o in
          let at = text_ends greatest bytes fits end n rest o in
          ⊎_elim (λ (l : k < i). omega (arith, s.digits k l, at, low end))
          (λ (l : i ≤ k).
          let same : k ≡ i = omega (arith, stopped k t) in
          none (omega (arith, t.some)) (sym (ap (λ m. get_or bytes m 0) same) ∙ at) (omega (arith, text_within greatest bytes fits end n rest o)))
          (cases_lt k i),
      λ n rest o.
          let k = length (decimal n) in
          omega (arith, value_grows bytes k i (stopped k (spelt bytes n rest o.0.1 o.1)), value_spelt bytes n rest o.0.1 o.1, s.is, s.small, o.0.0),
    )
