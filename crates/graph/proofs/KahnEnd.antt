-- Where Kahn's removal ends, and the derivation's answer read off its state.
-- Assumes nothing.
use Prim.Native.Nat.{ℕ, zero, suc, ◌≤◌, ◌<◌}
use native.Mathlib.Omega.{arith}
use mathlib.Core.Path.{◌≡◌, ap, sym, ◌∙◌}
use mathlib.Core.Bool.{true, not, false≢true}
use mathlib.Core.List.{List, []}
use lib.Dec.{eqb}
use lib.ListN.{length, get_or, take}
use lib.Seq.{take-length, get_or-take, length-take-le, ext_get_or}
use borrow.Author.Tests.{eqb-true, eq-eqb, lt-ltb, le-ltb, not-false}
use Rattle.base.specs.Tests.{same_test}
use Rattle.base.specs.Each.{Each, each_map}
use Rattle.base.specs.Places.{lowest, lowest_is, lowest_agree}
use Rattle.base.specs.Rising.{length-rising, rising_at}
use Rattle.graph.specs.Edge.{Edge, one}
use Rattle.graph.specs.Removed.{remaining, removed}
use Rattle.graph.specs.Depth.{depth}
use Rattle.graph.specs.Derive.{ranks, cycle, table, lowest_left, derive}
use Rattle.graph.specs.Removal.{State}
use Rattle.graph.specs.Removing.{times, has, Removing, Ended}
use Rattle.graph.proofs.Rounds.{remaining_mono, removed_late}
use Rattle.graph.proofs.Kahn.{fits, queued, ranked}

module _ (A : ℕ) (es : List Edge) (n : ℕ) (within : Each (λ e. e.source < n) es) (s : State) (inv : Removing A es n (length s.queue) [] s) where
  whole : (v : ℕ) → times v (take (length s.queue) s.queue) ≡ times v s.queue
  whole v = ap (times v) (take-length s.queue)

  taken : (v : ℕ) → 0 < times v s.queue → has (take (length s.queue) s.queue) v ≡ true
  taken v h = lt-ltb 0 (times v (take (length s.queue) s.queue)) (omega (arith, whole v))

  found : (k v : ℕ) → v < n → removed es k v ≡ true → 0 < times v s.queue
  unfolding removed remaining
  found zero v l r = absurd (false≢true r)
  found (suc k) v l r =
      let o : remaining (has (take (length s.queue) s.queue)) v es ≤ remaining (removed es k) v es =
      remaining_mono (removed es k) (has (take (length s.queue) s.queue)) v es (each_map _ _ es (λ e b t. taken e.source (found k e.source b t)) within) in
      let z : get_or s.degrees v 0 ≡ 0 = omega (arith, inv.degree v l, eqb-true (remaining (removed es k) v es) 0 r) in
      omega (arith, inv.once v l, ap one (eq-eqb (get_or s.degrees v 0) 0 z))

  pub ended : Ended A es n s
  ended =
      record {
        ranks_long = inv.ranks_long;
        left = λ v l.
            same_test (eqb (get_or s.degrees v 0) 0) (removed es n v)
            (λ t. sound v (omega (arith, inv.once v l, ap one t)))
            (λ t. eq-eqb (get_or s.degrees v 0) 0 (queued A es n (length s.queue) [] s inv v (found n v l t)).1);
        ranked = λ v l r. ranked A es n (length s.queue) [] s inv v (taken v (found n v l r));
      }
    where
      sound : (v : ℕ) → 0 < times v s.queue → removed es n v ≡ true
      sound v h = removed_late es n (length s.queue) v (fits A es n (length s.queue) [] s inv) (inv.rounds v (taken v h))

-- ---- the answer read off it

module _ (A : ℕ) (es : List Edge) (n : ℕ) (few : A ≤ n) (s : State) (end : Ended A es n s) (r : ℕ)
    (low : r ≡ lowest (λ v. not (eqb (get_or s.degrees v 0) 0)) 0 A) where
  same : r ≡ lowest_left A n es
  same = low ∙ lowest_agree _ _ 0 A (λ v a b. ap not (end.left v (omega arith)))

  pub read_cycle : r < A → cycle r ≡ derive A n es
  unfolding derive
  read_cycle l = rw (← same, lt-ltb r A l)

  pub read_ranks : A ≤ r → ranks (take A s.ranks) ≡ derive A n es
  unfolding derive
  read_ranks l =
      rw (← same, le-ltb r A l)
      (ap ranks
      (ext_get_or 0 (take A s.ranks) (table (depth A es n) A) (long ∙ sym (length-rising 0 (λ made k. depth A es n k) A))
      (λ a i.
      get_or-take A s.ranks a 0 (omega (arith, long)) ∙ end.ranked a (omega (arith, long)) (atom a (omega (arith, long)))
      ∙ sym (rising_at 0 (λ made k. depth A es n k) A a (omega (arith, long))))))
    where
      long : length (take A s.ranks) ≡ A
      long = length-take-le A s.ranks (omega (arith, end.ranks_long))

      atom : (a : ℕ) → a < A → removed es n a ≡ true
      atom a h = not-false (removed es n a) ((lowest_is (λ v. not (removed es n v)) 0 A).before a (omega arith) (omega (arith, same)))
