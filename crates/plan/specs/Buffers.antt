-- Refusal 9: the lowest lent buffer that is shorter than listed. 1 nodes, 2 operands, 3 roots, 4 producers, 5 ranks, 6 readers, 8 work area.
-- Assumes nothing.
use Rattle.std.specs.Prelude.{ℕ, ◌+◌, ◌*◌, ◌≤◌, ◌≡◌, cond, ltb, Err}
use Rattle.std.proofs.Common.{ltb-false}
use Rattle.theory.specs.LimitsLaws.{passed}
use Rattle.theory.specs.declared.Counts.{Counts}
use Rattle.theory.specs.declared.Refusal.TheVariants.{ShortBuffer}
use Rattle.plan.specs.declared.Lengths.{Lengths}
use Rattle.theory.specs.Admission.{Admission, admitted}

abbrev pub readers_length : Counts → ℕ
readers_length t = 2 + t.atoms + 4 * t.nodes + t.operands + 2 * t.roots

abbrev pub work_length : Counts → ℕ
work_length t = 16 + 5 * (t.atoms + t.nodes) + 3 * (t.operands + t.nodes + t.roots)

unfoldable pub short_buffer : Counts → Lengths → Admission
short_buffer t l =
    cond (ltb l.nodes (3 * t.nodes)) (Err (ShortBuffer 1))
    (cond (ltb l.operands t.operands) (Err (ShortBuffer 2))
    (cond (ltb l.roots t.roots) (Err (ShortBuffer 3))
    (cond (ltb l.producers (4 * t.roots)) (Err (ShortBuffer 4))
    (cond (ltb l.ranks t.atoms) (Err (ShortBuffer 5))
    (cond (ltb l.readers (readers_length t)) (Err (ShortBuffer 6))
    (cond (ltb l.work (work_length t)) (Err (ShortBuffer 8)) admitted))))))

-- every one is long enough
pub record LongEnough (t : Counts) (l : Lengths) : Type 0 where
  pub nodes_long : 3 * t.nodes ≤ l.nodes
  pub operands_long : t.operands ≤ l.operands
  pub roots_long : t.roots ≤ l.roots
  pub producers_long : 4 * t.roots ≤ l.producers
  pub ranks_long : t.atoms ≤ l.ranks
  pub readers_long : readers_length t ≤ l.readers
  pub work_long : work_length t ≤ l.work

-- ---- what an admission gives

pub long_enough : (t : Counts) (l : Lengths) → short_buffer t l ≡ admitted → LongEnough t l
unfolding short_buffer
long_enough t l e =
    let a = passed (ltb l.nodes (3 * t.nodes)) _ _ e in
    let b = passed (ltb l.operands t.operands) _ _ a.1 in
    let c = passed (ltb l.roots t.roots) _ _ b.1 in
    let d = passed (ltb l.producers (4 * t.roots)) _ _ c.1 in
    let f = passed (ltb l.ranks t.atoms) _ _ d.1 in
    let g = passed (ltb l.readers (readers_length t)) _ _ f.1 in
    let h = passed (ltb l.work (work_length t)) _ _ g.1 in
    record {
      nodes_long = ltb-false _ _ a.0;
      operands_long = ltb-false _ _ b.0;
      roots_long = ltb-false _ _ c.0;
      producers_long = ltb-false _ _ d.0;
      ranks_long = ltb-false _ _ f.0;
      readers_long = ltb-false _ _ g.0;
      work_long = ltb-false _ _ h.0;
    }
