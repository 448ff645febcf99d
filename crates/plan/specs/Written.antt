-- The producers that are written: their number, and their bodies as words.
-- Assumes nothing.
use Rattle.std.specs.Prelude.{ℕ, zero, suc, ◌+◌, ◌*◌, ◌<◌, ◌≤◌, ◌≡◌, refl, List, [], ◌∷◌, ◌++◌, length, get_or, take, Option, Some, None, Result, Ok, Err}
use Rattle.std.proofs.Common.{arith, get_or-take, length-take-le}
use Rattle.base.specs.Each.{Each, at_each, each_append}
use Rattle.base.specs.Front.{front}
use Rattle.theory.specs.WellFormed.{NodeTables, RootTable}
use Rattle.theory.specs.Limits.{Limited}
use Rattle.theory.specs.declared.Counts.{Counts}
use Rattle.compile.specs.Producer.{produced}
use Rattle.compile.specs.Producers.{made_by, producers, producers_before, producer_words}
use Rattle.compile.specs.ProducersLaws.{few-producers}
use Rattle.compile.specs.declared.Producer.{Producer}
use Rattle.compile.proofs.RootFormula.{producer_bounded}
use Rattle.readers.specs.Planned.{Planned}
use Rattle.theory.specs.declared.Refusal.{Refusal}

made_body : (t : Counts) (nodes operands classes : List ℕ) → NodeTables t nodes operands → (k : ℕ) → k < t.nodes → (m : Result (Option Producer) Refusal) → produced nodes operands classes k ≡ m → Each (λ p. p.body ≤ t.nodes) (made_by m)
unfolding made_by
made_body t nodes operands classes tables k l (Ok None) e = tt
made_body t nodes operands classes tables k l (Ok (Some p)) e = ((producer_bounded t nodes operands classes tables k l p e).body_in_lem, tt)
made_body t nodes operands classes tables k l (Err r) e = tt

bodies : (t : Counts) (nodes operands classes ks : List ℕ) → NodeTables t nodes operands → Each (λ k. k < t.nodes) ks → Each (λ p. p.body ≤ t.nodes) (producers nodes operands classes ks)
unfolding producers
bodies t nodes operands classes [] tables h = tt
bodies t nodes operands classes (k ∷ ks) tables h =
    each_append (λ p. p.body ≤ t.nodes) (made_by (produced nodes operands classes k)) (producers nodes operands classes ks)
    (made_body t nodes operands classes tables k h.0 (produced nodes operands classes k) refl) (bodies t nodes operands classes ks tables h.1)

body_word : (n : ℕ) (ps : List Producer) (rest : List ℕ) → Each (λ p. p.body ≤ n) ps → (i : ℕ) → i < length ps → get_or (producer_words ps ++ rest) (4 * i + 1) 0 ≤ n
unfolding producer_words
body_word n [] rest h i l = absurd (omega arith)
body_word n (p ∷ ps) rest h zero l = h.0
body_word n (p ∷ ps) rest h (suc i) l =
    let e : 4 * suc i + 1 ≡ suc (suc (suc (suc (4 * i + 1)))) = omega arith in
    rw e (body_word n ps rest h.1 i (omega arith))

-- what is written is what the reader lists ask of producers
pub written-planned : (t : Counts) (nodes operands classes roots ds : List ℕ) → Limited t → NodeTables t nodes operands → RootTable t roots → 4 * t.roots ≤ length ds
    → (p : ℕ) (ws : List ℕ) → p ≡ length (producers_before nodes operands classes roots t.roots) → length ws ≡ length ds
    → ws ≡ front (producer_words (producers_before nodes operands classes roots t.roots)) ds
    → Planned t nodes operands roots ws p
unfolding front producers_before
written-planned t nodes operands classes roots ds limited tables listed long p ws e same w =
    let few : length (producers nodes operands classes (take t.roots roots)) ≤ t.roots = omega (arith, few-producers nodes operands classes (take t.roots roots), length-take-le t.roots roots listed.roots_long) in
    record {
      limited = limited;
      tables = tables;
      roots_long = listed.roots_long;
      root = listed.in_nodes;
      producers_long = omega arith;
      few = omega arith;
      body = λ i l.
          rw w (body_word t.nodes (producers nodes operands classes (take t.roots roots)) _
          (bodies t nodes operands classes (take t.roots roots) tables
          (at_each (λ k. k < t.nodes) 0 (take t.roots roots)
          (λ j m.
          let low : j < t.roots = omega (arith, length-take-le t.roots roots listed.roots_long) in
          rw (get_or-take t.roots roots j 0 low) (listed.in_nodes j low))))
          i (omega arith));
    }
