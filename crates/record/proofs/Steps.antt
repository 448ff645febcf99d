-- What the definition of one record gives at each exit, and what is known of the cursor past a record.
-- Assumes nothing.
use Rattle.std.specs.Prelude.{Result, Ok, Err, is_ok}
use Prim.Native.Nat.{ℕ, ◌+◌, ◌-◌, ◌*◌, ◌<◌, ◌≤◌}
use native.Mathlib.Omega.{arith}
use mathlib.Core.Path.{◌≡◌, refl}
use mathlib.Core.Bool.{Bool, true, false, cond, false≢true}
use mathlib.Core.List.{List}
use lib.Dec.{ltb, leb}
use lib.ListN.{length}
use borrow.Author.Tests.{lt-leb, le-leb, leb-true, ltb-false}
use Rattle.theory.specs.Limits.{limits_of, Limited}
use Rattle.theory.specs.declared.Counts.{Counts}
use Rattle.theory.specs.declared.Refusal.{Refusal}
use Rattle.theory.specs.declared.Refusal.TheVariants.{BadKind, CutRecord, PastLimit}
use Rattle.record.specs.Stage.{at_start}
use Rattle.record.specs.Mark.{mark_at, in_order}
use Rattle.record.specs.Number.{numbers}
use Rattle.record.specs.Layout.{counted, arity, value_count, values_start, record_end, values_of}
use Rattle.record.specs.Passed.{counts_after, passed}
use Rattle.record.specs.Record.{unless, judged_group, judged_values, judged_whole, judged_marked, judged}
use Rattle.record.specs.File.{start}
use Rattle.record.specs.Bounds.{Within}
use Rattle.record.specs.declared.Cursor.{Cursor}
use Rattle.record.specs.declared.Mark.{Mark}
use Rattle.record.specs.declared.Mark.TheVariants.{Theory, Atom, False, Implies, And, Or, Root, Candidate, Unknown}
use Rattle.theory.specs.Admission.{Admission, admitted}

-- ---- exits

module _ (file : List ℕ) (c : Cursor) where
  pub mark_cut : length file - c.at < 2 → c.at ≤ length file → Err (CutRecord c.records) ≡ judged file c
  unfolding judged unless
  mark_cut h l = rw (lt-leb (c.at + 2) (length file) (omega arith))

  pub marked : (mark : Mark) (r : Result Cursor Refusal) → c.at + 2 ≤ length file → mark ≡ mark_at file c.at → r ≡ judged_marked file c mark → r ≡ judged file c
  unfolding judged unless
  marked mark r h e q = rw (le-leb (c.at + 2) (length file) h, ← e) q

  module _ (mark : Mark) where
    pub disordered : in_order mark c.stage ≡ false → Err (BadKind c.records) ≡ judged_marked file c mark
    unfolding judged_marked unless
    disordered e = rw e

    pub record_cut : in_order mark c.stage ≡ true → leb (record_end file c.at mark) (length file) ≡ false → Err (CutRecord c.records) ≡ judged_marked file c mark
    unfolding judged_marked unless
    record_cut e q = rw (e, q)

    pub record_whole : (r : Result Cursor Refusal) → in_order mark c.stage ≡ true → leb (record_end file c.at mark) (length file) ≡ true
        → r ≡ judged_whole c mark (values_of file c.at mark) (record_end file c.at mark) → r ≡ judged_marked file c mark
    unfolding judged_marked unless
    record_whole r e q p = rw (e, q) p

    module _ (start count : ℕ) (counts : Counts) (limits : Admission) (at-start : start ≡ values_start file c.at mark) (so_many : count ≡ value_count file c.at mark)
        (counted-so : counts ≡ counts_after c.counts mark (numbers file start count)) (tried : limits ≡ limits_of counts) where
      pub past_limit : is_ok limits ≡ false
          → Err (PastLimit c.records) ≡ judged_whole c mark (values_of file c.at mark) (record_end file c.at mark)
      unfolding judged_whole unless values_of
      past_limit e = rw (← at-start, ← so_many, ← counted-so, ← tried, e)

      pub within_limits : (next : Cursor) (r : Result Cursor Refusal) → is_ok limits ≡ true → next ≡ passed c mark counts (start + 4 * count)
          → r ≡ judged_values c mark (numbers file start count) (Ok next)
          → r ≡ judged_whole c mark (values_of file c.at mark) (record_end file c.at mark)
      unfolding judged_whole unless values_of record_end
      within_limits next r e n q = rw (← at-start, ← so_many, ← counted-so, ← tried, e, ← n) q

pub ruleset record_exits = (mark_cut, marked, disordered, record_cut, record_whole)

-- ---- the values of a record

pub fixed_least : (file : List ℕ) (at : ℕ) (mark : Mark) → arity mark ≤ value_count file at mark
unfolding value_count
fixed_least file at Theory = omega arith
fixed_least file at Atom = omega arith
fixed_least file at False = omega arith
fixed_least file at Implies = omega arith
fixed_least file at And = omega arith
fixed_least file at Or = omega arith
fixed_least file at Root = omega arith
fixed_least file at Candidate = omega arith
fixed_least file at Unknown = omega arith

pub end_past : (file : List ℕ) (at : ℕ) (mark : Mark) → at + 2 ≤ record_end file at mark
unfolding record_end values_start
end_past file at mark = go (counted mark)
  where
    go : (b : Bool) → at + 2 ≤ cond b (at + 6) (at + 2) + 4 * value_count file at mark
    go true = omega arith
    go false = omega arith

pub ruleset whole_exits = (past_limit, within_limits, fixed_least)

-- ---- on to the next record

pub refused_next : (r : Refusal) (n : Cursor) → Err r ≡ Ok n → ⊥
refused_next r n e = let z : ◌≡◌ {A = ℕ} 0 1 = cc in omega arith

pub unless_next : (b : Bool) (r : Refusal) (s : Result Cursor Refusal) (n : Cursor) → unless b r s ≡ Ok n → (b ≡ true) × (s ≡ Ok n)
unfolding unless
unless_next true r s n e = (refl, e)
unless_next false r s n e = absurd (refused_next r n e)

pub group_next : (c : Cursor) (vs : List ℕ) (s : Result Cursor Refusal) (n : Cursor) → judged_group c vs s ≡ Ok n → s ≡ Ok n
unfolding judged_group
group_next c vs s n e = (unless_next _ _ _ n (unless_next _ _ _ n e).1).1

values_next : (c : Cursor) (mark : Mark) (vs : List ℕ) (s : Result Cursor Refusal) (n : Cursor) → judged_values c mark vs s ≡ Ok n → s ≡ Ok n
unfolding judged_values
values_next c Theory vs s n e = e
values_next c Atom vs s n e = (unless_next _ _ _ n e).1
values_next c False vs s n e = e
values_next c Implies vs s n e = (unless_next _ _ _ n e).1
values_next c And vs s n e = group_next c vs s n e
values_next c Or vs s n e = group_next c vs s n e
values_next c Root vs s n e = (unless_next _ _ _ n e).1
values_next c Candidate vs s n e = (unless_next _ _ _ n (unless_next _ _ _ n e).1).1
values_next c Unknown vs s n e = e

-- a record that is passed: in order, whole, within the limits, its values passed too
pub record Passed (file : List ℕ) (c next : Cursor) (mark : Mark) (vs : List ℕ) : Type 0 where
  pub ordered : in_order mark c.stage ≡ true
  pub whole : record_end file c.at mark ≤ length file
  pub limited : Limited (counts_after c.counts mark vs)
  pub values : judged_values c mark vs (Ok next) ≡ Ok next
  pub next_is : next ≡ passed c mark (counts_after c.counts mark vs) (record_end file c.at mark)

admitted_limited : (t : Counts) → is_ok (limits_of t) ≡ true → Limited t
unfolding limits_of
admitted_limited t e =
    go (ltb 65536 t.atoms) refl (ltb 262144 t.nodes) refl (ltb 1048576 t.operands) refl (ltb 262144 t.roots) refl e
  where
    go : (a : Bool) → ltb 65536 t.atoms ≡ a → (n : Bool) → ltb 262144 t.nodes ≡ n → (o : Bool) → ltb 1048576 t.operands ≡ o → (r : Bool) → ltb 262144 t.roots ≡ r
        → is_ok (cond a (Err (PastLimit 0)) (cond n (Err (PastLimit 1)) (cond o (Err (PastLimit 2)) (cond r (Err (PastLimit 3)) admitted)))) ≡ true
        → Limited t
    go true ea n en o eo r er q = absurd (false≢true q)
    go false ea true en o eo r er q = absurd (false≢true q)
    go false ea false en true eo r er q = absurd (false≢true q)
    go false ea false en false eo true er q = absurd (false≢true q)
    go false ea false en false eo false er q =
        record { atoms = ltb-false 65536 t.atoms ea; nodes = ltb-false 262144 t.nodes en; operands = ltb-false 1048576 t.operands eo; roots = ltb-false 262144 t.roots er }

pub next_passed : (file : List ℕ) (c next : Cursor) → judged file c ≡ Ok next → Passed file c next (mark_at file c.at) (values_of file c.at (mark_at file c.at))
unfolding judged judged_marked judged_whole
next_passed file c next e =
    let a = unless_next _ _ _ next e in
    let b = unless_next _ _ _ next a.1 in
    let d = unless_next _ _ _ next b.1 in
    let l = unless_next _ _ _ next d.1 in
    let n = values_next c (mark_at file c.at) (values_of file c.at (mark_at file c.at)) _ next l.1 in
    record {
      ordered = b.0;
      whole = leb-true _ _ d.0;
      limited = admitted_limited _ l.0;
      values = rw n at l.1;
      next_is = cc;
    }

pub passed_fields : (c : Cursor) (mark : Mark) (t : Counts) (end : ℕ)
    → ((passed c mark t end).at ≡ end) × ((passed c mark t end).records ≡ c.records + 1) × ((passed c mark t end).counts ≡ t) × ((passed c mark t end).candidates ≤ c.candidates + 1)
passed_fields c Theory t end = (refl, refl, refl, omega arith)
passed_fields c Atom t end = (refl, refl, refl, omega arith)
passed_fields c False t end = (refl, refl, refl, omega arith)
passed_fields c Implies t end = (refl, refl, refl, omega arith)
passed_fields c And t end = (refl, refl, refl, omega arith)
passed_fields c Or t end = (refl, refl, refl, omega arith)
passed_fields c Root t end = (refl, refl, refl, omega arith)
passed_fields c Candidate t end = (refl, refl, refl, omega arith)
passed_fields c Unknown t end = (refl, refl, refl, omega arith)

-- after a record in order something was read
pub begun : (c : Cursor) (mark : Mark) (t : Counts) (end : ℕ) → in_order mark c.stage ≡ true → at_start (passed c mark t end).stage ≡ false
begun c Theory t end o = refl
begun c Atom t end o = refl
begun c False t end o = refl
begun c Implies t end o = refl
begun c And t end o = refl
begun c Or t end o = refl
begun c Root t end o = refl
begun c Candidate t end o = refl
begun c Unknown t end o = absurd (false≢true o)

-- the cursor moves on and keeps its bounds
pub next_within : (file : List ℕ) (c next : Cursor) → judged file c ≡ Ok next → Within (length file) c
    → Within (length file) next × (c.at + 2 ≤ next.at) × (next.records ≡ c.records + 1)
next_within file c next e w =
    let p = next_passed file c next e in
    let f = passed_fields c (mark_at file c.at) (counts_after c.counts (mark_at file c.at) (values_of file c.at (mark_at file c.at))) (record_end file c.at (mark_at file c.at)) in
    let past = end_past file c.at (mark_at file c.at) in
    rw p.next_is (
      record {
        at = omega (arith, f.0, p.whole);
        records = omega (arith, f.0, f.1, past, w.records);
        candidates = omega (arith, f.1, f.3, w.candidates);
        limited = rw f.2 p.limited;
      },
      omega (arith, f.0, past),
      f.1,
    )

pub start_within : (size : ℕ) → Within size start
start_within size =
    record {
      at = omega arith;
      records = omega arith;
      candidates = omega arith;
      limited = record { atoms = omega arith; nodes = omega arith; operands = omega arith; roots = omega arith };
    }
