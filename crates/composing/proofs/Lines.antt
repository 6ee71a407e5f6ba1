-- Reading one contribution after another.
use Rattle.std.proofs.Common.{◌≡◌, ℕ, ◌+◌, ◌<◌, ◌≤◌, List, [], ◌∷◌, ◌++◌, length, decimal, sym, refl, ap, ◌∙◌, subst, append_assoc, append-nil, arith, length-append}
use Rattle.std.specs.List.{flat_map, AllByRecursion}
use Rattle.std.proofs.ByRecursion.{All-push}
use Rattle.std.proofs.lemmas.List.{flat_map_more, nil_from_length}
use Rattle.layouts.specs.declared.memory.Contribution.{Contribution}
use Rattle.settings.specs.declared.numbers.Ending.TheVariants.{Blank, Newline}
use Rattle.settings.specs.Line.{number_text, pair_text}
use Rattle.settings.specs.Reading.{Alone, Never}
use Rattle.composing.specs.declared.faults.Fault.{Fault}
use Rattle.composing.specs.Reading.{OnLine, Broken}
use Rattle.composing.specs.Text.{contribution_text, SmallContribution, Lines}

-- The contributions xs have been read, and the rest is left: it is what follows xs, of whichever contributions the input is the text.
pub record Begun (input : List ℕ) (xs : List Contribution) (rest : List ℕ) : Type 0 where
  pub small : AllByRecursion SmallContribution xs
  pub is : input ≡ flat_map contribution_text xs ++ rest
  pub follows : (ys : List Contribution) → Lines input ys → (zs : List Contribution) × (ys ≡ xs ++ zs) × Lines rest zs

some_text : (x : Contribution) (after : List ℕ) → 0 < length (contribution_text x ++ after)
some_text x after =
    let a = length-append (contribution_text x) after in
    let b = length-append (number_text Blank x.leaf) (pair_text Newline (x.company, x.amount)) in
    let d = length-append (decimal x.leaf) (32 ∷ []) in
    omega arith

module _ (input : List ℕ) (xs : List Contribution) (rest : List ℕ) (b : Begun input xs rest) where
  module _ (left : 0 < length rest) where
    -- the rest is no text where no contribution can be read off it
    no_lines : Never SmallContribution contribution_text rest → (zs : List Contribution) → Lines rest zs → ⊥
    no_lines never [] l = omega (arith, ap length l.is)
    no_lines never (z ∷ zs) l = never z (flat_map contribution_text zs) (l.small.0, l.is)

    pub begun_never : (e : Fault) (n : ℕ) → n ≡ length xs → Never SmallContribution contribution_text rest → OnLine (n + 2) rest e → Broken input e
    begun_never e n count never line = record {
      none = λ ys l. let f = b.follows ys l in no_lines never f.0 f.2;
      xs = xs;
      rest = rest;
      stops = record { small = b.small; is = b.is; left = left; never = never; line = subst (λ m. OnLine (m + 2) rest e) count line };
    }

    module _ (x : Contribution) (after : List ℕ) (a : Alone SmallContribution contribution_text rest x after) where
      lines_after : (zs : List Contribution) → Lines rest zs → (ws : List Contribution) × (xs ++ zs ≡ (xs ++ x ∷ []) ++ ws) × Lines after ws
      lines_after [] l = absurd (omega (arith, ap length l.is))
      lines_after (z ∷ zs) l =
          let same = a.1 z (flat_map contribution_text zs) (l.small.0, l.is) in
          (zs, ap (λ w. xs ++ w ∷ zs) (sym same.0) ∙ sym (append_assoc xs (x ∷ []) zs), record { small = l.small.1; is = same.1 })

      pub begun_more : (now : List Contribution) → now ≡ xs ++ x ∷ [] → Begun input now after
      begun_more now e = rw e (record {
        small = All-push SmallContribution xs x b.small a.0.0;
        is = b.is ∙ ap (λ r. flat_map contribution_text xs ++ r) a.0.1 ∙ sym (append_assoc (flat_map contribution_text xs) (contribution_text x) after)
            ∙ ap (λ t. t ++ after) (flat_map_more contribution_text [] xs x);
        follows = λ ys l.
            let f = b.follows ys l in
            let g = lines_after f.0 f.2 in
            (g.0, f.1 ∙ g.1, g.2);
      })

  module _ (none : length rest ≤ 0) where
    ended : (zs : List Contribution) → Lines rest zs → zs ≡ []
    ended [] l = refl
    ended (z ∷ zs) l = absurd (omega (arith, ap length l.is, some_text z (flat_map contribution_text zs)))

    pub begun_all : Lines input xs × ((ys : List Contribution) → Lines input ys → xs ≡ ys)
    begun_all =
        let e : rest ≡ [] = nil_from_length rest (omega arith) in (
          record { small = b.small; is = b.is ∙ ap (λ r. flat_map contribution_text xs ++ r) e ∙ append-nil (flat_map contribution_text xs) },
          λ ys l.
              let f = b.follows ys l in
              sym (f.1 ∙ ap (λ zs. xs ++ zs) (ended f.0 f.2) ∙ append-nil xs),
        )
