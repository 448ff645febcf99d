-- The bytes of a verdict line say what its candidate is: the word, and after `residual` the atom.
-- Assumes nothing.
use Prim.Native.Nat.{ℕ, ◌<◌}
use native.Mathlib.Omega.{arith}
use mathlib.Core.Path.{◌≡◌, refl, sym, ap, ◌∙◌}
use mathlib.Core.List.{List, [], ◌∷◌, ◌++◌, append_assoc}
use lib.ListN.{length, get_or}
use Rattle.base.specs.Each.{Each, each_at}
use Rattle.encoding.specs.Value.{TheoryFile}
use Rattle.encoding.specs.Held.{counts_of}
use Rattle.encoding.specs.Sound.{SoundCandidate, Sound}
use Rattle.kept.specs.Verdict.{Verdict, not_model, residual, stable}
use Rattle.text.specs.Decimal.{decimal, Digit, value}
use Rattle.text.specs.Lines.{stable_word, not_model_word, residual_word, spaced, verdict_text, verdict_line}
use Rattle.text.proofs.Decimal.{value-decimal, decimal-digits, digits_end}
use Rattle.demands.specs.Told.{LineTells, Says, residual_of, WordTells}
use Rattle.demands.proofs.Candidates.{each_among}

-- ---- the word of a line

cancel : (xs ys zs : List ℕ) → xs ++ ys ≡ xs ++ zs → ys ≡ zs
cancel [] ys zs e = e
cancel (x ∷ xs) ys zs e = cancel xs ys zs (cc)

-- the second letter of the word tells the verdict
letter : (k : ℕ) (xs ys : List ℕ) → xs ≡ ys → get_or ys 1 0 ≡ k → get_or xs 1 0 ≡ k
letter k xs ys e q = ap (λ l. get_or l 1 0) e ∙ q

word_stable : (v : Verdict) (xs ys : List ℕ) → verdict_text v ++ xs ≡ stable_word ++ ys → v ≡ stable
unfolding verdict_text
word_stable (not_model k) xs ys e = let z : ◌≡◌ {A = ℕ} 110 115 = letter 115 _ _ e refl in absurd (omega arith)
word_stable (residual a) xs ys e = let z : ◌≡◌ {A = ℕ} 114 115 = letter 115 _ _ e refl in absurd (omega arith)
word_stable stable xs ys e = refl

word-not_model : (v : Verdict) (xs ys : List ℕ) → verdict_text v ++ xs ≡ not_model_word ++ ys → (k : ℕ) × (v ≡ not_model k)
unfolding verdict_text
word-not_model (not_model k) xs ys e = (k, refl)
word-not_model (residual a) xs ys e = let z : ◌≡◌ {A = ℕ} 114 110 = letter 110 _ _ e refl in absurd (omega arith)
word-not_model stable xs ys e = let z : ◌≡◌ {A = ℕ} 115 110 = letter 110 _ _ e refl in absurd (omega arith)

word_residual : (v : Verdict) (xs ys : List ℕ) → verdict_text v ++ xs ≡ residual_word ++ ys → (a : ℕ) × (v ≡ residual a)
unfolding verdict_text
word_residual (not_model k) xs ys e = let z : ◌≡◌ {A = ℕ} 110 114 = letter 114 _ _ e refl in absurd (omega arith)
word_residual (residual a) xs ys e = (a, refl)
word_residual stable xs ys e = let z : ◌≡◌ {A = ℕ} 115 114 = letter 114 _ _ e refl in absurd (omega arith)

-- ---- the digits after `residual`

named-digits : (xs ys us vs : List ℕ) → Each Digit xs → Each Digit ys → residual_of xs ++ us ≡ residual_of ys ++ vs → xs ≡ ys
named-digits xs ys us vs p q e =
    digits_end xs ys us vs p q (sym (append_assoc xs (32 ∷ []) us) ∙ cancel (residual_word ++ (32 ∷ [])) ((xs ++ (32 ∷ [])) ++ us) ((ys ++ (32 ∷ [])) ++ vs) e ∙ append_assoc ys (32 ∷ []) vs)

-- what stands behind the space after them
behind : ℕ → List ℕ
behind n = (decimal n ++ []) ++ (10 ∷ [])

residual_text : (a n : ℕ) → verdict_text (residual a) ++ (spaced (n ∷ []) ++ (10 ∷ [])) ≡ residual_of (decimal a) ++ behind n
unfolding verdict_text spaced behind
residual_text a n = ap (λ l. residual_word ++ (32 ∷ l)) (append_assoc (decimal a) [] (32 ∷ behind n) ∙ sym (append_assoc (decimal a) (32 ∷ []) (behind n)))

-- ---- a line

module _ (f : TheoryFile) (sound-f : Sound f) (i : ℕ) (h : i < length f.candidates) (line : List ℕ) (w : LineTells f i (get_or f.candidates i []) line) where
  -- what stands after the verdict
  abbrev end : List ℕ
  end = spaced (w.nodes_gone_over ∷ []) ++ (10 ∷ [])

  parts : line ≡ decimal i ++ (verdict_text w.verdict ++ end)
  unfolding verdict_line
  parts =
      w.says ∙ append_assoc (decimal i ++ verdict_text w.verdict) (spaced (w.nodes_gone_over ∷ [])) (10 ∷ []) ∙ append_assoc (decimal i) (verdict_text w.verdict) end

  -- the line goes on with the word of its verdict
  said : (word : List ℕ) → Says i word line → (rest : List ℕ) × (verdict_text w.verdict ++ end ≡ word ++ rest)
  said word z = (z.0, cancel (decimal i) _ _ (sym parts ∙ z.1))

  says : (word rest : List ℕ) → verdict_text w.verdict ≡ word ++ rest → Says i word line
  says word rest e = (rest ++ end, parts ∙ ap (λ l. decimal i ++ (l ++ end)) e ∙ ap (λ l. decimal i ++ l) (append_assoc word rest end))

  -- the verdict's atom is one of the candidate, so its digits say it
  atom_said : (a : ℕ) → w.verdict ≡ residual a → value (decimal a) ≡ a
  unfolding counts_of
  atom_said a e =
      let sound-c = each_at (SoundCandidate f.atoms) [] f.candidates sound-f.candidates i h in
      let l : a < f.atoms = each_among (λ x. x < f.atoms) (get_or f.candidates i []) sound-c.0 a ((w.decides.names_atom a).0 e).1.present in
      value-decimal a (omega (arith, sound-f.limited.atoms))

  -- the text of the line's residual
  named : (a : ℕ) → w.verdict ≡ residual a → verdict_text w.verdict ++ end ≡ residual_of (decimal a) ++ behind w.nodes_gone_over
  named a e = ap (λ v. verdict_text v ++ end) e ∙ residual_text a w.nodes_gone_over

  residual_digits : Says i residual_word line → (digits : List ℕ) × Each Digit digits × Says i (residual_of digits) line
  residual_digits z =
      let x = said residual_word z in
      let v = word_residual w.verdict end x.0 x.1 in
      (decimal v.0, decimal-digits v.0, (behind w.nodes_gone_over, parts ∙ ap (λ l. decimal i ++ l) (named v.0 v.1)))

  residual_said : (digits : List ℕ) → Each Digit digits → Says i (residual_of digits) line → w.verdict ≡ residual (value digits)
  residual_said digits d z =
      let x = said (residual_of digits) z in
      let v = word_residual w.verdict end ((32 ∷ (digits ++ (32 ∷ []))) ++ x.0) x.1 in
      let same : decimal v.0 ≡ digits = named-digits (decimal v.0) digits (behind w.nodes_gone_over) x.0 (decimal-digits v.0) d (sym (named v.0 v.1) ∙ x.1) in
      v.1 ∙ ap residual (sym (atom_said v.0 v.1) ∙ ap value same)

  pub word_tells : WordTells f i (get_or f.candidates i []) line
  unfolding verdict_text
  word_tells =
      record {
        stable = (
          λ z. let x = said stable_word z in w.decides.stable_model.0 (word_stable w.verdict end x.0 x.1),
          λ x. says stable_word [] (ap verdict_text (w.decides.stable_model.1 x)),
        );
        is_not_model = (
          λ z. let x = said not_model_word z in w.decides.is_not_model.0 (word-not_model w.verdict end x.0 x.1),
          λ x. let k = w.decides.is_not_model.1 x in says not_model_word (spaced (k.0 ∷ [])) (ap verdict_text k.1),
        );
        residual = (
          λ z. let x = said residual_word z in w.decides.model_not_stable.0 (word_residual w.verdict end x.0 x.1),
          λ x. let a = w.decides.model_not_stable.1 x in says residual_word (spaced (a.0 ∷ [])) (ap verdict_text a.1),
        );
        residual_digits = residual_digits;
        residual_shows = λ digits d z. w.residual_shows (value digits) (residual_said digits d z);
      }
