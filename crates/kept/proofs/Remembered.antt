-- A worked case of the worklist, of 70 nodes: 66, 3 and 5 enter and leave. 66 is put behind 3 and remembered as the only other; once 5 has
-- left no more wait, so that it is next without a search; when none waits nothing is remembered.
-- Assumes nothing.
use Rattle.std.specs.Prelude.{Option, Some, None}
use Prim.Native.Nat.{ℕ}
use mathlib.Core.Path.{◌≡◌, refl}
use mathlib.Core.Bool.{Bool, true, false}
use mathlib.Core.List.{List, [], ◌∷◌}
use Rattle.base.specs.Places.{places, count, lowest}
use Rattle.words.specs.Bit.{bit}
use Rattle.words.specs.Next.{next}
use Rattle.words.specs.Sets.{member, inserted, removed}
use Rattle.kept.specs.SetOf.{set_of, all_inserted}
use Rattle.kept.specs.CountedSet.{and_then, counted_set, moved, with_bit, with_member, lookup}
use Rattle.kept.specs.Worklist.{Worklist, behind, remembering, alone, before, with_node, filled, advanced, advance, sought_filled, far_next, next_filled, forgotten, without_first, but_lowest, worklist_of}

-- first node, node remembered, number of the others then, number of the others; whether the one remembered is next
pub record Row : Type 0 where
  pub words : List ℕ
  pub next : Bool

abbrev row : Option Worklist → Row
row None = record { words = []; next = false }
row (Some w) = record { words = w.first ∷ w.far ∷ w.far_size ∷ w.others.size ∷ []; next = far_next w }

abbrev enter : ℕ → Option Worklist → Option Worklist
enter m w = and_then w (λ w. with_node 70 w m)

abbrev leave : Option Worklist → Option Worklist
leave w = and_then w (without_first 70)

abbrev entered : Option Worklist
entered = enter 5 (enter 3 (enter 66 (Some (worklist_of (λ k. false) 70))))

pub remembered :
    (row entered ≡ record { words = 3 ∷ 66 ∷ 1 ∷ 2 ∷ []; next = false })
    × (row (leave entered) ≡ record { words = 5 ∷ 66 ∷ 1 ∷ 1 ∷ []; next = true })
    × (row (leave (leave entered)) ≡ record { words = 66 ∷ 66 ∷ 1 ∷ 0 ∷ []; next = false })
    × (leave (leave (leave entered)) ≡ Some (worklist_of (λ k. false) 70))
unfolding behind remembering alone before with_node filled advanced advance sought_filled far_next next_filled forgotten without_first but_lowest worklist_of places count lowest bit next member inserted removed set_of all_inserted counted_set moved with_bit with_member lookup
remembered = (refl, refl, refl, refl)
