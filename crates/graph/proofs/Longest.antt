-- A derived rank is the most strict edges on any path into its atom.
-- Assumes nothing.
use Prim.Native.Nat.{ℕ, ◌≤◌, ◌<◌}
use native.Mathlib.Omega.{arith}
use mathlib.Core.Path.{◌≡◌, ap, sym, ◌∙◌}
use mathlib.Core.Bool.{Bool, true, false, cond}
use mathlib.Core.List.{List}
use lib.Dec.{ltb}
use lib.ListN.{length, get_or}
use Rattle.base.specs.Each.{Each}
use Rattle.base.specs.Rising.{rising_at}
use Rattle.graph.specs.Edge.{Edge, Rises}
use Rattle.graph.specs.Depth.{depth}
use Rattle.graph.specs.Longest.{Longest}
use Rattle.graph.specs.Right.{Least}
use Rattle.graph.specs.Derive.{ranks, cycle, table, lowest_left, derive}
use Rattle.graph.proofs.Depths.{depth_least}
use Rattle.graph.proofs.Paths.{deepest, no_deeper}
use Rattle.graph.proofs.Ranks.{ranks_right}

module _ (A n : ℕ) (es : List Edge) (rs : List ℕ) (e : derive A n es ≡ ranks rs) where
  -- the ranks are the atoms' depths
  are_depths : rs ≡ table (depth A es n) A
  unfolding derive
  are_depths = go (ltb (lowest_left A n es) A) e
    where
      go : (c : Bool) → cond c (cycle (lowest_left A n es)) (ranks (table (depth A es n) A)) ≡ ranks rs → rs ≡ table (depth A es n) A
      go true q = cc
      go false q = cc

  pub longest : A ≤ n → Each (Rises A n) es → (a : ℕ) → a < A → Longest A es a (get_or rs a 0)
  longest few rises a l =
      let d = deepest A es n a in
      let best : Least A es rs = ranks_right A n es few rises rs e in
      record {
        start = d.0;
        path = d.1;
        leads = d.2;
        reached = d.4 ∙ sym (ap (λ xs. get_or xs a 0) are_depths ∙ rising_at 0 (λ made k. depth A es n k) A a l);
        most = λ u p w. omega (arith, no_deeper A es (length p) u a p w (omega arith), depth_least A es best.rank best.accepted (length p) a, best.atoms a l);
      }
