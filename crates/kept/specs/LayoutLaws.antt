-- Lent words and the evaluation that they hold are each other's image.
-- Assumes nothing.
use Rattle.std.specs.Prelude.{ℕ, ◌≤◌, ◌+◌, ◌-◌, ◌≡◌, refl, length, take, drop, replicate}
use Rattle.std.proofs.Common.{arith, sym, ◌∙◌, take-append-drop, take_at, drop_at, drop-drop}
use Rattle.std.proofs.Math.Path.{ap}
use mathlib.Core.List.{List, [], ◌∷◌, ◌++◌, append-nil, append_assoc}
use Rattle.std.proofs.Math.ListN.{get_or, length-drop, length-append}
use Rattle.std.proofs.lemmas.List.{length-replicate, replicate-append-replicate}
use Rattle.std.proofs.Math.Seq.{length-take-le}
use Rattle.formula.specs.Satisfaction.{Interpretation}
use Rattle.kept.specs.Tabulate.{length-tabulate}
use Rattle.kept.specs.SetOf.{words32}
use Rattle.kept.specs.SetOfLaws.{length-set_of}
use Rattle.kept.specs.CountedSet.{counted_set}
use Rattle.kept.specs.Worklist.{worklist_of}
use Rattle.kept.specs.Tables.{Tables, atom_count, node_count, root_count}
use Rattle.kept.specs.Evaluation.{Evaluation, zeroed, held, truth, false_root, summary, fresh}
use Rattle.kept.specs.Layout.{flat, cut, lengths, parts, image, section, of_words, written, used, listed}

-- ---- parts laid end to end

pub flat-cut : (ns ws : List ℕ) → flat (cut ns ws) ≡ ws
unfolding flat cut
flat-cut [] ws = append-nil ws
flat-cut (n ∷ ns) ws = ap (λ l. take n ws ++ l) (flat-cut ns (drop n ws)) ∙ take-append-drop n ws

-- the parts have these lengths, the last any
abbrev Sized : List ℕ → List (List ℕ) → Type 0
Sized [] [] = ⊥
Sized [] (x ∷ []) = Unit {0}
Sized [] (x ∷ y ∷ xs) = ⊥
Sized (n ∷ ns) [] = ⊥
Sized (n ∷ ns) (x ∷ xs) = (length x ≡ n) × Sized ns xs

cut-flat : (ns : List ℕ) (xs : List (List ℕ)) → Sized ns xs → cut ns (flat xs) ≡ xs
unfolding cut flat
cut-flat [] [] h = absurd h
cut-flat [] (x ∷ []) h = ap (λ l. l ∷ []) (append-nil x)
cut-flat [] (x ∷ y ∷ xs) h = absurd h
cut-flat (n ∷ ns) [] h = absurd h
cut-flat (n ∷ ns) (x ∷ xs) h = rw (take_at x (flat xs) n h.0, drop_at x (flat xs) n h.0) (ap (λ l. x ∷ l) (cut-flat ns xs h.1))

-- ---- the parts of an evaluation

-- they have the tables' lengths
pub record Fits (T : Tables) (e : Evaluation) : Type 0 where
  pub truths : length e.truths ≡ node_count T
  pub worklist : length e.worklist.others.members ≡ words32 (node_count T)
  pub support : length e.support ≡ atom_count T
  pub candidate : length e.candidate ≡ words32 (atom_count T)
  pub missing : length e.missing.members ≡ words32 (atom_count T)
  pub false_roots : length e.false_roots.members ≡ words32 (root_count T)
  pub groups : length e.worklist.groups ≡ words32 (node_count T)

-- document 01's length is enough
pub room : (T : Tables) → used T ≤ listed T
room T = omega arith

-- the rest of any words
pub section-rest : (T : Tables) (ws : List ℕ) → section T ws 8 ≡ drop (used T) ws
unfolding cut
section-rest T ws = simp drop-drop

module _ (T : Tables) (e : Evaluation) (fits : Fits T e) (rest : List ℕ) where
  abbrev ps : List (List ℕ)
  ps = parts e rest

  cut-image : cut (lengths T) (image e rest) ≡ ps
  unfolding image
  cut-image = cut-flat (lengths T) ps (refl, (fits.truths, (fits.worklist, (fits.support, (fits.candidate, (fits.missing, (fits.false_roots, (fits.groups, tt))))))))

  pub of_image : of_words T (image e rest) ≡ e
  unfolding of_words image flat
  of_image = ap (λ c. built c) cut-image
    where
      built : List (List ℕ) → Evaluation
      built c =
          record {
            state = e.state;
            stamp = e.stamp;
            truths = get_or c 1 [];
            worklist =
                record {
                  first = e.worklist.first;
                  far = e.worklist.far;
                  far_size = e.worklist.far_size;
                  others = record { members = get_or c 2 []; size = e.worklist.others.size };
                  groups = get_or c 7 [];
                };
            support = get_or c 3 [];
            candidate = get_or c 4 [];
            missing = record { members = get_or c 5 []; size = e.missing.size };
            false_roots = record { members = get_or c 6 []; size = e.false_roots.size };
          }

  -- writing another evaluation over it
  pub written-image : (d : Evaluation) → written T (image e rest) d ≡ image d rest
  unfolding written
  written-image d = ap (image d) (ap (λ c. get_or c 8 []) cut-image)

  -- what is behind the used words
  pub behind-image : drop (used T) (image e rest) ≡ rest
  behind-image = sym (section-rest T (image e rest)) ∙ ap (λ c. get_or c 8 []) cut-image

  pub length-image : length (image e rest) ≡ used T + length rest
  unfolding image flat
  length-image =
      simp length-append (omega (arith, fits.truths, fits.worklist, fits.support, fits.candidate, fits.missing, fits.false_roots, fits.groups))

-- ---- any words are the image of an evaluation

module _ (T : Tables) (ws : List ℕ) (long : used T ≤ length ws) where
  first : (xs : List ℕ) → 8 ≤ length xs → get_or xs 0 0 ∷ get_or xs 1 0 ∷ get_or xs 2 0 ∷ get_or xs 3 0 ∷ get_or xs 4 0 ∷ get_or xs 5 0 ∷ get_or xs 6 0 ∷ get_or xs 7 0 ∷ [] ≡ take 8 xs
  first [] l = absurd (omega arith)
  first (a ∷ []) l = absurd (omega arith)
  first (a ∷ b ∷ []) l = absurd (omega arith)
  first (a ∷ b ∷ c ∷ []) l = absurd (omega arith)
  first (a ∷ b ∷ c ∷ d ∷ []) l = absurd (omega arith)
  first (a ∷ b ∷ c ∷ d ∷ e ∷ []) l = absurd (omega arith)
  first (a ∷ b ∷ c ∷ d ∷ e ∷ f ∷ []) l = absurd (omega arith)
  first (a ∷ b ∷ c ∷ d ∷ e ∷ f ∷ g ∷ []) l = absurd (omega arith)
  first (a ∷ b ∷ c ∷ d ∷ e ∷ f ∷ g ∷ h ∷ xs) l = refl

  pub image_of : image (of_words T ws) (section T ws 8) ≡ ws
  unfolding image of_words cut flat
  image_of =
      ap (λ h. h ++ flat (cut (node_count T ∷ words32 (node_count T) ∷ atom_count T ∷ words32 (atom_count T) ∷ words32 (atom_count T) ∷ words32 (root_count T) ∷ words32 (node_count T) ∷ []) (drop 8 ws))) (first ws (omega arith))
      ∙ flat-cut (lengths T) ws

  pub fits_of : Fits T (of_words T ws)
  unfolding of_words cut
  fits_of =
      record {
        truths = length-take-le (node_count T) _ (simp length-drop (omega arith));
        worklist = length-take-le (words32 (node_count T)) _ (simp (drop-drop, length-drop) (omega arith));
        support = length-take-le (atom_count T) _ (simp (drop-drop, length-drop) (omega arith));
        candidate = length-take-le (words32 (atom_count T)) _ (simp (drop-drop, length-drop) (omega arith));
        missing = length-take-le (words32 (atom_count T)) _ (simp (drop-drop, length-drop) (omega arith));
        false_roots = length-take-le (words32 (root_count T)) _ (simp (drop-drop, length-drop) (omega arith));
        groups = length-take-le (words32 (node_count T)) _ (simp (drop-drop, length-drop) (omega arith));
      }

-- ---- the evaluations of a series

pub fits_fresh : (T : Tables) (I : Interpretation) → Fits T (fresh T I)
unfolding fresh summary held counted_set worklist_of
fits_fresh T I =
    record {
      truths = length-tabulate (node_count T) _;
      worklist = length-set_of _ (node_count T);
      support = length-tabulate (atom_count T) _;
      candidate = length-set_of I (atom_count T);
      missing = length-set_of _ (atom_count T);
      false_roots = length-set_of (false_root T (truth T I)) (root_count T);
      groups = length-set_of _ (node_count T);
    }

pub fits_zeroed : (T : Tables) → Fits T (zeroed T)
unfolding zeroed
fits_zeroed T =
    record {
      truths = length-replicate (node_count T) 0;
      worklist = length-replicate (words32 (node_count T)) 0;
      support = length-replicate (atom_count T) 0;
      candidate = length-replicate (words32 (atom_count T)) 0;
      missing = length-replicate (words32 (atom_count T)) 0;
      false_roots = length-replicate (words32 (root_count T)) 0;
      groups = length-replicate (words32 (node_count T)) 0;
    }

-- the words of a zeroed evaluation are 0
zeros : (n m : ℕ) (ws : List ℕ) → replicate n 0 ++ (replicate m 0 ++ ws) ≡ replicate (n + m) 0 ++ ws
zeros n m ws = sym (append_assoc (replicate n 0) (replicate m 0) ws) ∙ ap (λ l. l ++ ws) (replicate-append-replicate n m 0)

abbrev zeros_for : List ℕ → List ℕ → List ℕ
zeros_for [] ws = ws
zeros_for (n ∷ ns) ws = replicate n 0 ++ zeros_for ns ws

abbrev total : List ℕ → ℕ
total [] = 0
total (n ∷ ns) = n + total ns

all-zeros : (ns ws : List ℕ) → zeros_for ns ws ≡ replicate (total ns) 0 ++ ws
all-zeros [] ws = refl
all-zeros (n ∷ ns) ws = ap (λ l. replicate n 0 ++ l) (all-zeros ns ws) ∙ zeros n (total ns) ws

-- the listed words after the used ones, and what is past them
abbrev pub behind : Tables → List ℕ → List ℕ
behind T past = replicate (listed T - used T) 0 ++ past

pub zero-image : (T : Tables) (past : List ℕ) → image (zeroed T) (behind T past) ≡ replicate (listed T) 0 ++ past
unfolding image flat zeroed
zero-image T past =
    ap (zeros_for (lengths T)) (append-nil (behind T past))
    ∙ all-zeros (lengths T) (behind T past)
    ∙ zeros (total (lengths T)) (listed T - used T) past
    ∙ ap (λ n. replicate n 0 ++ past) sum
  where
    sum : total (lengths T) + (listed T - used T) ≡ listed T
    sum = omega arith
