-- The walk as a loop of steps, and what comes before it.
-- Assumes nothing.
use Rattle.std.specs.Prelude.{ℕ, suc, ◌<◌, ◌≤◌, ◌+◌, ◌-◌, ◌*◌, ◌/◌, ◌%◌, ◌^◌, ◌≡◌, refl, Bool, true, false, not, cond, List, eqb, ltb, length, get_or, Some, None, Ok, Err}
use Rattle.std.proofs.Common.{arith, sym, ◌∙◌, ⊎_elim, shr_lt, ne_eqb, lt-ltb, le-ltb, ltb-false}
use Rattle.std.proofs.Math.Path.{ap}
use Rattle.std.specs.Int.Count.{count_trailing_zeros}
use Rattle.base.specs.Tests.{equal_or}
use Rattle.formula.specs.Satisfaction.{Interpretation}
use Rattle.formula.specs.Passes.{Within}
use Rattle.theory.specs.declared.Counts.{Counts}
use Rattle.theory.specs.declared.Refusal.{Refusal}
use Rattle.theory.specs.declared.Refusal.TheVariants.{BadEntry}
use Rattle.words.specs.BitLaws.{trailing_below}
use Rattle.words.specs.Next.{next}
use Rattle.words.specs.NextLaws.{next-end, next_rest, next_here}
use Rattle.kept.specs.SetOf.{words32}
use Rattle.kept.specs.Tables.{Tables, atom_count, node_count}
use Rattle.kept.specs.Evaluation.{Evaluation, present}
use Rattle.kept.specs.Verdict.{verdict_of}
use Rattle.kept.specs.Step.{Stepped, idle, took, fault, step}
use Rattle.kept.specs.Start.{walk_start}
use Rattle.kept.specs.Walk.{broken, walk, walk_from, kept_walk}
use Rattle.kept.specs.Check.{Result, concluded, kept_result}
use Rattle.kept.specs.Layout.{of_words, written, candidate_start, used}
use Rattle.kept.specs.LayoutLaws.{Fits, fits_of}
use Rattle.kept_laws.specs.FitsLaws.{step_fits, start_fits}
use Rattle.kept_laws.specs.Given.{candidate_at, missing_at}
use Rattle.kept_laws.specs.WalkEnds.{step_next}
use Rattle.kept_laws.specs.Turns.{resumed, resumed_none, walk_more, walk_done, walk_stop}
use Rattle.kept_laws.specs.Written.{written_same, of_written, length-written, written_again, part-candidate, get_candidate, get_first}
use Rattle.kept_laws.specs.Wrote.{Wrote, wrote_done, wrote_out_of_range, Beside, beside_same, beside_then, beside_written, Changing, done, out_of_range}
use Rattle.step.specs.Steps.{Stepping, Steps}
use Rattle.start.specs.KeptWithin.{kept_within}
use Rattle.update.specs.Results.{Checked, answer_of, answer_in, Results}
use Rattle.update.specs.ResultsLaws.{refused_results, concluded_results, results_by, results_then}

-- ---- what a caller learns from the answer of a step

module _ (T : Tables) (ws : List ℕ) (r : Stepping) (after : List ℕ) where
  pub stepped_idle : (s : Stepped) → Steps T ws s r after → r ≡ Ok None → (s ≡ idle) × (after ≡ ws)
  stepped_idle idle h e = (refl, h.1)
  stepped_idle (took k d) h e = let p : Ok (Some k) ≡ Ok None = sym h.0 ∙ e in let z : ◌≡◌ {A = ℕ} 0 1 = cc in absurd (omega arith)
  stepped_idle (fault k) h e = let p : Err (BadEntry k) ≡ Ok None = sym h.0 ∙ e in let z : ◌≡◌ {A = ℕ} 0 1 = cc in absurd (omega arith)

  pub stepped_took : (s : Stepped) (k : ℕ) → Steps T ws s r after → r ≡ Ok (Some k) → (d : Evaluation) × (s ≡ took k d) × (after ≡ written T ws d)
  stepped_took idle k h e = let p : Ok None ≡ Ok (Some k) = sym h.0 ∙ e in let z : ◌≡◌ {A = ℕ} 0 1 = cc in absurd (omega arith)
  stepped_took (took j d) k h e =
      let p : Ok (Some j) ≡ Ok (Some k) = sym h.0 ∙ e in
      let q : j ≡ k = cc in
      (d, ap (λ m. took m d) q, h.1)
  stepped_took (fault j) k h e = let p : Err (BadEntry j) ≡ Ok (Some k) = sym h.0 ∙ e in let z : ◌≡◌ {A = ℕ} 0 1 = cc in absurd (omega arith)

  pub stepped_fault : (s : Stepped) (x : Refusal) → Steps T ws s r after → r ≡ Err x → (k : ℕ) × (x ≡ BadEntry k) × (s ≡ fault k) × Beside T ws after
  stepped_fault idle x h e = let p : Ok None ≡ Err x = sym h.0 ∙ e in let z : ◌≡◌ {A = ℕ} 0 1 = cc in absurd (omega arith)
  stepped_fault (took j d) x h e = let p : Ok (Some j) ≡ Err x = sym h.0 ∙ e in let z : ◌≡◌ {A = ℕ} 0 1 = cc in absurd (omega arith)
  stepped_fault (fault j) x h e =
      let p : Err (BadEntry j) ≡ Err x = sym h.0 ∙ e in
      let q : x ≡ BadEntry j = cc in
      (j, q, refl, h.1)

-- ---- the loop: n nodes are behind, g of them before it, the words are `now`

pub record Walking (T : Tables) (g : ℕ) (ws : List ℕ) (n : ℕ) (now : List ℕ) : Type 0 where
  pub fits : Fits T (of_words T now)
  pub put : now ≡ written T ws (of_words T now)
  pub left : resumed T g (walk T (suc (node_count T)) (of_words T ws)) ≡ resumed T n (walk T (suc (node_count T)) (of_words T now))

-- from words to words: a node was taken, and the first is above it then
pub record Turned (T : Tables) (g : ℕ) (ws : List ℕ) (n : ℕ) (now after : List ℕ) : Type 0 where
  pub walking : Walking T g ws (n + 1) after
  pub node : get_or now 5 0 < node_count T
  pub above : get_or now 5 0 < get_or after 5 0

module _ (T : Tables) (g : ℕ) (ws : List ℕ) (long : used T ≤ length ws) where
  abbrev whole : Result
  whole = resumed T g (walk T (suc (node_count T)) (of_words T ws))

  pub walk_begins : Walking T g ws g ws
  walk_begins = record { fits = fits_of T ws long; put = sym (written_same T ws long); left = refl }

  module _ (n : ℕ) (now : List ℕ) (w : Walking T g ws n now) (r : Stepping) (after : List ℕ) (h : Steps T now (step T (of_words T now)) r after) where
    mid_long : used T ≤ length now
    mid_long = rw (ap length w.put ∙ length-written T ws long (of_words T now) w.fits) long

    -- a node was taken
    pub walk_turns : (k : ℕ) → r ≡ Ok (Some k) → Turned T g ws n now after
    walk_turns k e =
        let s = stepped_took T now r after (step T (of_words T now)) k h e in
        let f : Fits T s.0 = step_fits T (of_words T now) k s.0 s.1 w.fits in
        let holds : of_words T after ≡ s.0 = ap (of_words T) s.2 ∙ of_written T now mid_long s.0 f in
        let b = step_next T k (of_words T now) s.0 s.1 in
        let old : get_or now 5 0 ≡ k = get_first T now ∙ b.0 in
        let new : get_or after 5 0 ≡ s.0.worklist.first = get_first T after ∙ ap (λ y. y.worklist.first) holds in
        record {
          walking = record {
            fits = rw holds f;
            put = s.2 ∙ ap (λ y. written T y s.0) w.put ∙ written_again T ws long (of_words T now) w.fits s.0 ∙ ap (written T ws) (sym holds);
            left = w.left ∙ walk_more T n k (of_words T now) s.0 s.1 ∙ ap (λ y. resumed T (n + 1) (walk T (suc (node_count T)) y)) (sym holds);
          };
          node = omega (arith, old, b.1);
          above = omega (arith, old, new, b.2);
        }

    -- the worklist is empty
    pub walk_stands : r ≡ Ok None → (c : Checked) → answer_of c ≡ answer_in (concluded (verdict_of T (of_words T after)) n (of_words T after)) → Results T ws whole c after
    walk_stands e c a =
        let s = stepped_idle T now r after (step T (of_words T now)) h e in
        concluded_results T ws whole (verdict_of T (of_words T now)) n (of_words T now) c after long w.fits
        (w.left ∙ walk_done T n (of_words T now) s.0)
        (a ∙ ap (λ y. answer_in (concluded (verdict_of T (of_words T y)) n (of_words T y))) s.1)
        (s.1 ∙ w.put)

    -- 17
    pub walk_breaks : (x : Refusal) → r ≡ Err x → Results T ws whole (Err x) after
    walk_breaks x e =
        let s = stepped_fault T now r after (step T (of_words T now)) x h e in
        rw s.1
        (refused_results T ws whole (BadEntry s.0) after (w.left ∙ walk_stop T n s.0 (of_words T now) s.2)
        (beside_then T ws now after (rw w.put (beside_written T ws (of_words T now) long w.fits)) s.3))

-- ---- before it

-- the last word of the kept candidate stands before the missing atoms
pub last_word : (t : Counts) → (t.atoms % 32 ≡ 0 → ⊥) → missing_at t - 1 ≡ candidate_at t + t.atoms / 32
last_word t ne = omega (arith, ne)

module _ (T : Tables) (J : Interpretation) (ws : List ℕ) (long : used T ≤ length ws) where
  abbrev e : Evaluation
  e = of_words T ws

  abbrev stray : Bool
  stray = ltb (next 32 e.candidate (atom_count T)) (32 * length e.candidate)

  abbrev result : Result
  result = kept_result T (kept_walk T J e)

  -- as the code finds it: every place of the words is an atom's
  pub stray_none : atom_count T % 32 ≡ 0 → false ≡ stray
  stray_none z =
      let size : length e.candidate ≡ words32 (atom_count T) = (fits_of T ws long).candidate in
      sym (rw (next-end 32 e.candidate (atom_count T) (omega arith)) (le-ltb (atom_count T) (32 * length e.candidate) (omega arith)))

  -- or the last word has others
  pub stray_last : (x : ℕ) → (atom_count T % 32 ≡ 0 → ⊥) → x ≡ get_or ws (candidate_start T + atom_count T / 32) 0 → x < 2 ^ 32 → not (eqb (x / 2 ^ (atom_count T % 32)) 0) ≡ stray
  stray_last x ne q small = ⊎_elim empty others (equal_or (x / 2 ^ (atom_count T % 32)) 0)
    where
      size : length e.candidate ≡ words32 (atom_count T)
      size = (fits_of T ws long).candidate

      word : get_or e.candidate (atom_count T / 32) 0 ≡ x
      word = sym (get_candidate T ws long (atom_count T / 32) (omega arith)) ∙ sym q

      empty : x / 2 ^ (atom_count T % 32) ≡ 0 → not (eqb (x / 2 ^ (atom_count T % 32)) 0) ≡ stray
      empty z =
          let to : next 32 e.candidate (atom_count T) ≡ 32 * (atom_count T / 32 + 1) = next_rest 32 e.candidate (atom_count T) (omega arith) (omega (arith, size)) (rw word z)
          ∙ next-end 32 e.candidate (32 * (atom_count T / 32 + 1)) (omega (arith, size)) in
          rw (z, to, le-ltb (32 * (atom_count T / 32 + 1)) (32 * length e.candidate) (omega (arith, size)))

      others : (x / 2 ^ (atom_count T % 32) ≡ 0 → ⊥) → not (eqb (x / 2 ^ (atom_count T % 32)) 0) ≡ stray
      others z =
          let fill : 32 - atom_count T % 32 + atom_count T % 32 ≡ 32 = omega arith in
          let t : count_trailing_zeros 32 (x / 2 ^ (atom_count T % 32)) < 32 - atom_count T % 32 = trailing_below 32 (32 - atom_count T % 32) (x / 2 ^ (atom_count T % 32)) (omega arith)
          (shr_lt (32 - atom_count T % 32) (atom_count T % 32) (rw fill small)) (omega arith) in
          let to : next 32 e.candidate (atom_count T) ≡ atom_count T + count_trailing_zeros 32 (x / 2 ^ (atom_count T % 32)) = rw word at (next_here 32 e.candidate (atom_count T) (omega arith) (omega (arith, size)) (rw word small) (rw word z)) in
          rw (ne_eqb (x / 2 ^ (atom_count T % 32)) 0 z, to, lt-ltb (atom_count T + count_trailing_zeros 32 (x / 2 ^ (atom_count T % 32))) (32 * length e.candidate) (omega (arith, size)))

  -- without it, the kept candidate has atoms alone
  pub not_stray : stray ≡ false → Within (atom_count T) (present e)
  not_stray h =
      kept_within T ws long
      (rw (part-candidate T ws long) (omega (arith, (fits_of T ws long).candidate, ltb-false (next 32 e.candidate (atom_count T)) (32 * length e.candidate) h)))

  pub update_stray : stray ≡ true → Results T ws result (Err (BadEntry 0)) ws
  unfolding kept_walk kept_result
  update_stray h = refused_results T ws result (BadEntry 0) ws (rw h) (beside_same T ws)

  module _ (h : stray ≡ false) (r : Changing) (mid : List ℕ) (w : Wrote T ws (walk_start T J (atom_count T) e) r mid) where
    pub update_fault : r ≡ out_of_range → Results T ws result (Err (BadEntry 0)) mid
    unfolding kept_walk kept_result
    update_fault p =
        let s = wrote_out_of_range T ws (walk_start T J (atom_count T) e) mid r w p in
        refused_results T ws result (BadEntry 0) mid (rw (h, s.0)) s.1

    pub update_walk : r ≡ done → (c : Checked) (after : List ℕ) → Results T mid (resumed T 0 (walk T (suc (node_count T)) (of_words T mid))) c after → Results T ws result c after
    unfolding kept_walk
    update_walk p c after x =
        let s = wrote_done T ws (walk_start T J (atom_count T) e) mid r w p in
        let f : Fits T s.0 = start_fits T J (atom_count T) e s.0 s.1 (fits_of T ws long) in
        let holds : of_words T mid ≡ s.0 = ap (of_words T) s.2 ∙ of_written T ws long s.0 f in
        results_by T ws result (resumed T 0 (walk T (suc (node_count T)) (of_words T mid))) c after
        (ap (λ b. kept_result T (cond b (broken 0) (walk_from T (walk_start T J (atom_count T) e)))) h
        ∙ ap (λ o. kept_result T (walk_from T o)) s.1
        ∙ resumed_none T (walk T (suc (node_count T)) s.0)
        ∙ ap (λ y. resumed T 0 (walk T (suc (node_count T)) y)) (sym holds))
        (results_then T ws mid s.0 long f s.2 (resumed T 0 (walk T (suc (node_count T)) (of_words T mid))) c after x)
