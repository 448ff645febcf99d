-- The lines put piece by piece.
-- Assumes nothing.
use Rattle.std.specs.Prelude.{ℕ, ◌+◌, ◌<◌, ◌≡◌, List, [], ◌∷◌, ◌++◌, length, get_or, take, Option, Some, None}
use Rattle.std.proofs.Common.{add-one, sym, ap, ◌∙◌, append_assoc, take-suc}
use Rattle.theory.specs.Refusal.{told}
use Rattle.theory.specs.declared.Counts.{Counts}
use Rattle.theory.specs.declared.Refusal.{Refusal}
use Rattle.kept.specs.Verdict.{Verdict}
use Rattle.text.specs.Clip.{Put}
use Rattle.text.specs.ClipLaws.{put_then, put_same}
use Rattle.text.specs.Decimal.{decimal}
use Rattle.text.specs.Lines.{spaced, th_word, atoms_word, nodes_word, roots_word, producers_word, theory_line, ranks_word, ranks_line, verdict_text, verdict_line, refused_word, refused_line, told_by}
use Rattle.text.specs.LinesLaws.{spaced_one, spaced-append}

-- ---- numbers after spaces

pub put_spaced : (n : ℕ) {before mid after : List ℕ} {at m end : ℕ} → Put before at (32 ∷ []) m mid → Put mid m (decimal n) end after → Put before at (spaced (n ∷ [])) end after
put_spaced n a b = put_same (sym (spaced_one n)) (put_then a b)

pub put_number_more : (ns : List ℕ) (n : ℕ) {before mid after : List ℕ} {at m end : ℕ} → Put before at (spaced ns) m mid → Put mid m (spaced (n ∷ [])) end after → Put before at (spaced (ns ++ (n ∷ []))) end after
put_number_more ns n a b = put_same (sym (spaced-append ns (n ∷ []))) (put_then a b)

-- the words so far, and the next one x
pub put_words_next : (ws : List ℕ) (i x : ℕ) {before mid after : List ℕ} {at m end : ℕ} → i < length ws → x ≡ get_or ws i 0 → Put before at (spaced (take i ws)) m mid → Put mid m (spaced (x ∷ [])) end after → Put before at (spaced (take (i + 1) ws)) end after
put_words_next ws i x h e a b =
    put_same
    (ap (λ y. spaced (take i ws ++ (y ∷ []))) e ∙ ap spaced (sym (ap (λ k. take k ws) (add-one i) ∙ take-suc ws i 0 h)))
    (put_number_more (take i ws) x a b)

-- ---- what a refusal tells

module _ (number place : ℕ) (body : Option ℕ) {o0 o1 o2 : List ℕ} {e0 e1 e2 : ℕ}
    (a : Put o0 e0 (spaced (number ∷ [])) e1 o1) (b : Put o1 e1 (spaced (place ∷ [])) e2 o2) where
  pub put_told_two : body ≡ None → Put o0 e0 (spaced (told_by number place body)) e2 o2
  put_told_two h = rw h (put_number_more (number ∷ []) place a b)

  pub put_told_three : {o3 : List ℕ} {e3 : ℕ} (k : ℕ) → body ≡ Some k → Put o2 e2 (spaced (k ∷ [])) e3 o3 → Put o0 e0 (spaced (told_by number place body)) e3 o3
  put_told_three k h d = rw h (put_number_more (number ∷ place ∷ []) k (put_number_more (number ∷ []) place a b) d)

-- ---- lines

-- a labelled number more
labelled : (l : List ℕ) (n : ℕ) {before mid after p : List ℕ} {at m end : ℕ} → Put before at p m mid → Put mid m (l ++ spaced (n ∷ [])) end after → Put before at (p ++ l ++ spaced (n ∷ [])) end after
labelled l n {p = p} a b = put_same (sym (append_assoc p l (spaced (n ∷ [])))) (put_then a b)

pub put_theory_line : (t : Counts) (n : ℕ) {o0 o1 o2 o3 o4 o5 o6 : List ℕ} {e0 e1 e2 e3 e4 e5 e6 : ℕ}
    → Put o0 e0 (th_word ++ spaced (t.stamp ∷ [])) e1 o1
    → Put o1 e1 (atoms_word ++ spaced (t.atoms ∷ [])) e2 o2
    → Put o2 e2 (nodes_word ++ spaced (t.nodes ∷ [])) e3 o3
    → Put o3 e3 (roots_word ++ spaced (t.roots ∷ [])) e4 o4
    → Put o4 e4 (producers_word ++ spaced (n ∷ [])) e5 o5
    → Put o5 e5 (10 ∷ []) e6 o6
    → Put o0 e0 (theory_line t n) e6 o6
unfolding theory_line
put_theory_line t n a b d e f g =
    put_then
    (labelled producers_word n
    (labelled roots_word t.roots (labelled nodes_word t.nodes (labelled atoms_word t.atoms a b) d) e)
    f)
    g

pub put_ranks_line : (ranks : List ℕ) {o0 o1 o2 o3 : List ℕ} {e0 e1 e2 e3 : ℕ} → Put o0 e0 ranks_word e1 o1 → Put o1 e1 (spaced ranks) e2 o2 → Put o2 e2 (10 ∷ []) e3 o3 → Put o0 e0 (ranks_line ranks) e3 o3
unfolding ranks_line
put_ranks_line ranks a b d = put_then (put_then a b) d

pub put_verdict_line : (i : ℕ) (v : Verdict) (n : ℕ) {o0 o1 o2 o3 o4 : List ℕ} {e0 e1 e2 e3 e4 : ℕ} → Put o0 e0 (decimal i) e1 o1 → Put o1 e1 (verdict_text v) e2 o2 → Put o2 e2 (spaced (n ∷ [])) e3 o3 → Put o3 e3 (10 ∷ []) e4 o4 → Put o0 e0 (verdict_line i v n) e4 o4
unfolding verdict_line
put_verdict_line i v n a b d e = put_then (put_then (put_then a b) d) e

pub put_refused_line : (r : Refusal) (ns : List ℕ) {o0 o1 o2 o3 : List ℕ} {e0 e1 e2 e3 : ℕ} → ns ≡ told r → Put o0 e0 refused_word e1 o1 → Put o1 e1 (spaced ns) e2 o2 → Put o2 e2 (10 ∷ []) e3 o3 → Put o0 e0 (refused_line r) e3 o3
unfolding refused_line
put_refused_line r ns e a b d = put_then (put_then a (put_same (ap spaced e) b)) d
