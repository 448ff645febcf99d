-- The checks of a file, one line a candidate.
-- Assumes nothing.
use Rattle.std.specs.Prelude.{ℕ, ◌+◌, ◌*◌, ◌<◌, ◌≤◌, ◌≡◌, refl, List, [], ◌∷◌, ◌++◌, length, get_or, take, drop, replicate, Ok}
use Rattle.std.proofs.Common.{add-one, arith, sym, ◌∙◌, append-nil, append_assoc, drop_of_length-le, take_at, drop-cons}
use Rattle.std.proofs.Math.Path.{ap}
use Rattle.std.proofs.lemmas.List.{length-replicate}
use Rattle.words.specs.Sets.{inserted}
use Rattle.words.specs.SetLaws.{length_inserted}
use Rattle.record.specs.Contents.{nothing}
use Rattle.record.specs.File.{File, sound, refused, theory_file, verdict, start}
use Rattle.record.specs.Bounds.{Within}
use Rattle.record.specs.declared.Summary.{Summary}
use Rattle.record.proofs.Judging.{contents_of, sound-is, read_keeps}
use Rattle.record.proofs.Steps.{next_within, start_within}
use Rattle.file_reader.specs.Insert.{inserted_all}
use Rattle.load.specs.Candidate.{word_count, candidate_words}
use Rattle.load.proofs.Candidates.{Candidates, sound_candidates}
use Rattle.kept.specs.Tables.{Tables, atom_count}
use Rattle.kept.specs.Outcome.{Answer, accepted, refused as kept-refused, outcome}
use Rattle.update.specs.Results.{Checked, answer_of}
use Rattle.evaluate.specs.Checks as evaluate
use Rattle.evaluate.specs.Checks.{outcome_of}
use Rattle.text.specs.Clip.{Put}
use Rattle.text.specs.ClipLaws.{put_none, put_then, put_same, put_end}
use Rattle.text.specs.LinesLaws.{length-verdict-line, length-refused-line}
use Rattle.run.specs.Text.{candidate_of, check_line, check_lines, candidates_of, candidates_in}

-- ---- a candidate's words

length-inserted_all : (ws vs : List ℕ) → length (inserted_all ws vs) ≡ length ws
unfolding inserted_all
length-inserted_all ws [] = refl
length-inserted_all ws (a ∷ vs) = length-inserted_all (inserted 64 ws a) vs ∙ length_inserted 64 ws a

pub length-candidate_words : (atoms : ℕ) (vs : List ℕ) → length (candidate_words atoms vs) ≡ word_count atoms
unfolding candidate_words
length-candidate_words atoms vs = length-inserted_all (replicate (word_count atoms) 0) vs ∙ length-replicate {A = ℕ} (word_count atoms) 0

-- the front of a buffer that holds a candidate
pub candidate_taken : (atoms : ℕ) (vs rest ws : List ℕ) → ws ≡ candidate_words atoms vs ++ rest → take (word_count atoms) ws ≡ candidate_words atoms vs
candidate_taken atoms vs rest ws e =
    ap (take (word_count atoms)) e ∙ take_at (candidate_words atoms vs) rest (word_count atoms) (length-candidate_words atoms vs)

pub taken_long : (atoms : ℕ) (vs rest ws : List ℕ) → ws ≡ candidate_words atoms vs ++ rest → word_count atoms ≡ length (take (word_count atoms) ws)
taken_long atoms vs rest ws e = sym (ap length (candidate_taken atoms vs rest ws e) ∙ length-candidate_words atoms vs)

-- ---- the candidates of a sound file

candidates_read : (f : File) → (contents_of f).candidates ≡ candidates_of f
unfolding contents_of candidates_of
candidates_read (sound s t) = refl
candidates_read (refused r) = refl

module _ (file : List ℕ) (s : Summary) (e : verdict (theory_file file) ≡ Ok s) where
  pub file_candidates : Candidates file s.counts.atoms s.first s.candidates (candidates_in file)
  file_candidates =
      rw (candidates_read (theory_file file)) at
      (sound_candidates file s (contents_of (theory_file file)) (sound-is (theory_file file) s e))

  -- fewer than bytes
  pub few_candidates : s.candidates ≤ length file
  unfolding theory_file
  few_candidates =
      let k = read_keeps file (λ c u. Within (length file) c) (λ c next u j w. (next_within file c next j w).0) s (contents_of (theory_file file)) start nothing (length file) (start_within (length file)) (sound-is (theory_file file) s e) in
      omega (arith, ap (λ q. q.candidates) k.2, k.1.candidates, k.1.records, k.1.at)

-- ---- a line

length-check_line : (i : ℕ) (a : Answer) → length (check_line i a) ≤ 100
unfolding check_line
length-check_line i (accepted v n) = length-verdict-line i v n
length-check_line i (kept-refused r) = length-refused-line r

-- the line and the words after a check of the candidate `vs`, which it is given as words
pub checked_line : (T : Tables) (vs ws kept kept' : List ℕ) (r : Checked) (i at end : ℕ) (out out' : List ℕ) → ws ≡ candidate_words (atom_count T) vs
    → outcome_of r kept' ≡ outcome 64 8 T (evaluate.candidate_of T.counts.stamp ws) kept
    → Put out at (check_line i (answer_of r)) end out'
    → Put out at (check_line i (outcome 64 8 T (candidate_of T vs) kept).answer) end out' × (kept' ≡ (outcome 64 8 T (candidate_of T vs) kept).words)
unfolding candidate_of
checked_line T vs ws kept kept' r i at end out out' e q p =
    let o : outcome_of r kept' ≡ outcome 64 8 T (candidate_of T vs) kept = rw e at q in
    (put_same (ap (λ x. check_line i x.answer) o) p, ap (λ x. x.words) o)

-- ---- line by line

line_next : (T : Tables) (cs : List (List ℕ)) (i : ℕ) (c kept kept' : List ℕ) → i < length cs → get_or cs i [] ≡ c → kept' ≡ (outcome 64 8 T (candidate_of T c) kept).words
    → check_line i (outcome 64 8 T (candidate_of T c) kept).answer ++ check_lines T (i + 1) (drop (i + 1) cs) kept' ≡ check_lines T i (drop i cs) kept
unfolding check_lines
line_next T cs i c kept kept' h e q = rw (drop-cons cs i [] h, e, q, add-one)

-- i lines stand in the output, and the rest of the series goes on from the words `kept`
pub record Going (T : Tables) (cs : List (List ℕ)) (ws out₀ : List ℕ) (at i : ℕ) (kept : List ℕ) (end : ℕ) (out : List ℕ) : Type 0 where
  pub done : List ℕ
  pub stands : Put out₀ at done end out
  pub short : end ≤ at + 100 * i
  pub whole : done ++ check_lines T i (drop i cs) kept ≡ check_lines T 0 cs ws

module _ (T : Tables) (cs : List (List ℕ)) (ws out₀ : List ℕ) (at : ℕ) where
  pub going_none : Going T cs ws out₀ at 0 ws at out₀
  going_none = record { done = []; stands = put_none out₀ at; short = omega arith; whole = refl }

  module _ (i : ℕ) (kept : List ℕ) (end : ℕ) (out : List ℕ) (g : Going T cs ws out₀ at i kept end out) where
    pub going_more : (c kept' : List ℕ) (end' : ℕ) (out' : List ℕ) → i < length cs → get_or cs i [] ≡ c
        → Put out end (check_line i (outcome 64 8 T (candidate_of T c) kept).answer) end' out'
        → kept' ≡ (outcome 64 8 T (candidate_of T c) kept).words
        → Going T cs ws out₀ at (i + 1) kept' end' out'
    going_more c kept' end' out' h e p q =
        record {
          done = g.done ++ check_line i (outcome 64 8 T (candidate_of T c) kept).answer;
          stands = put_then g.stands p;
          short = omega (arith, g.short, put_end 100 p (length-check_line i (outcome 64 8 T (candidate_of T c) kept).answer));
          whole =
              append_assoc g.done (check_line i (outcome 64 8 T (candidate_of T c) kept).answer) (check_lines T (i + 1) (drop (i + 1) cs) kept')
              ∙ ap (λ l. g.done ++ l) (line_next T cs i c kept kept' h e q)
              ∙ g.whole;
        }

    pub going_done : length cs ≤ i → Put out₀ at (check_lines T 0 cs ws) end out
    unfolding check_lines
    going_done h =
        put_same (sym (append-nil g.done) ∙ rw (drop_of_length-le cs {i = i} h) at g.whole) g.stands
