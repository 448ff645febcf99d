-- Links that stay while degrees, ranks and queue change.
-- Assumes nothing.
use Prim.Native.Nat.{ℕ, ◌+◌, ◌*◌}
use native.Mathlib.Omega.{arith}
use mathlib.Core.Path.{refl, ◌∙◌}
use mathlib.Core.List.{List}
use lib.ListN.{get_or}
use Rattle.graph.specs.Edge.{Edge}
use Rattle.graph.specs.Removal.{edges_from}
use Rattle.kahn.specs.Area.{Sized, LinksKept}
use Rattle.kahn.specs.Laid.{Chain, stop, link, Chains}

pub kept_none : (n : ℕ) (area : List ℕ) → LinksKept n area area
kept_none n area = record { long = refl; first = λ k l. refl; edges = λ k l. refl }

pub kept_more : (n : ℕ) (before area after : List ℕ) → LinksKept n before area → LinksKept n area after → LinksKept n before after
kept_more n before area after p q =
    record { long = q.long ∙ p.long; first = λ k l. q.first k l ∙ p.first k l; edges = λ k l. q.edges k l ∙ p.edges k l }

pub sized-kept : (n m : ℕ) (before area : List ℕ) → Sized n m before → LinksKept n before area → Sized n m area
sized-kept n m before area sized kept = record { vertices = sized.vertices; edges = sized.edges; long = omega (arith, sized.long, kept.long) }

module _ (n m : ℕ) (area after : List ℕ) (kept : LinksKept n area after) where
  pub chain_kept : (s p : ℕ) (zs : List Edge) → Chain n m area s p zs → Chain n m after s p zs
  chain_kept s p zs stop = stop
  chain_kept s p zs (link i t next {zs = ys} a b d x y c) =
      link i t next a b d (kept.edges (4 * n + i) (omega arith) ∙ x) (kept.edges (4 * n + m + i) (omega arith) ∙ y) (chain_kept s next ys c)

  pub chains_kept : (es : List Edge) → Chains n m es area → Chains n m es after
  chains_kept es h s l = rw (kept.first s l) (chain_kept s (get_or area s 0) (edges_from s es) (h s l))
