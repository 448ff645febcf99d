-- How numbers after spaces go together, and how long the lines are.
-- Assumes nothing.
use Rattle.std.specs.Prelude.{ℕ, ◌+◌, ◌*◌, ◌≤◌, ◌≡◌, refl, List, [], ◌∷◌, ◌++◌, length}
use Rattle.std.proofs.Common.{arith, sym, ap, ◌∙◌, append-nil, append_assoc, length-append}
use Rattle.kept.specs.Verdict.{Verdict, not_model, residual, stable}
use Rattle.theory.specs.Refusal.{told}
use Rattle.theory.specs.declared.Counts.{Counts}
use Rattle.theory.specs.declared.Refusal.{Refusal}
use Rattle.theory.specs.declared.Refusal.TheVariants.{BadKind, CutRecord, PastLimit, BadAtom, BadOperand, NoOperands, BadRoot, NotRising, ShortBuffer, UnsupportedRoot, UnsupportedBody, PositiveCycle, RankShape, RankOrder, ForeignStamp, StrayBit, BadEntry}
use Rattle.text.specs.Decimal.{decimal}
use Rattle.text.specs.DecimalLaws.{length-decimal}
use Rattle.text.specs.Lines.{spaced, theory_line, ranks_line, verdict_text, verdict_line, refused_line}

pub spaced_one : (n : ℕ) → spaced (n ∷ []) ≡ (32 ∷ []) ++ decimal n
unfolding spaced
spaced_one n = append-nil (32 ∷ decimal n)

pub spaced-append : (ns ms : List ℕ) → spaced (ns ++ ms) ≡ spaced ns ++ spaced ms
unfolding spaced
spaced-append [] ms = refl
spaced-append (n ∷ ns) ms =
    ap (λ l. 32 ∷ decimal n ++ l) (spaced-append ns ms) ∙ sym (append_assoc (32 ∷ decimal n) (spaced ns) (spaced ms))

pub length-spaced : (ns : List ℕ) → length (spaced ns) ≤ 21 * length ns
unfolding spaced
length-spaced [] = omega arith
length-spaced (n ∷ ns) =
    rw (length-append (32 ∷ decimal n) (spaced ns)) (omega (arith, length-decimal n, length-spaced ns))

pub length-field : (n : ℕ) → length (spaced (n ∷ [])) ≤ 21
length-field n = length-spaced (n ∷ [])

pub length-theory_line : (t : Counts) (n : ℕ) → length (theory_line t n) ≤ 200
unfolding theory_line
length-theory_line t n =
    simp length-append (omega (arith, length-field t.stamp, length-field t.atoms, length-field t.nodes, length-field t.roots, length-field n))

pub length-ranks_line : (ranks : List ℕ) → length (ranks_line ranks) ≤ 6 + 21 * length ranks
unfolding ranks_line
length-ranks_line ranks = simp length-append (omega (arith, length-spaced ranks))

pub length-verdict_text : (v : Verdict) → length (verdict_text v) ≤ 30
unfolding verdict_text
length-verdict_text (not_model root) = simp length-append (omega (arith, length-field root))
length-verdict_text (residual atom) = simp length-append (omega (arith, length-field atom))
length-verdict_text stable = omega arith

pub length-verdict-line : (i : ℕ) (v : Verdict) (n : ℕ) → length (verdict_line i v n) ≤ 100
unfolding verdict_line
length-verdict-line i v n =
    simp length-append (omega (arith, length-decimal i, length-verdict_text v, length-field n))

pub length-told : (r : Refusal) → length (told r) ≤ 3
unfolding told
length-told (BadKind place) = omega arith
length-told (CutRecord place) = omega arith
length-told (PastLimit place) = omega arith
length-told (BadAtom place) = omega arith
length-told (BadOperand place) = omega arith
length-told (NoOperands place) = omega arith
length-told (BadRoot place) = omega arith
length-told (NotRising place) = omega arith
length-told (ShortBuffer buffer) = omega arith
length-told (UnsupportedRoot root) = omega arith
length-told (UnsupportedBody root body) = omega arith
length-told (PositiveCycle atom) = omega arith
length-told RankShape = omega arith
length-told (RankOrder head) = omega arith
length-told ForeignStamp = omega arith
length-told (StrayBit bit) = omega arith
length-told (BadEntry node) = omega arith

pub length-refused-line : (r : Refusal) → length (refused_line r) ≤ 100
unfolding refused_line
length-refused-line r = simp length-append (omega (arith, length-spaced (told r), length-told r))
