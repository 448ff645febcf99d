-- The second pass: each turn finds a whole record with room for it, and the tables end up holding the file's contents.
-- Assumes nothing.
use Rattle.std.specs.Prelude.{Result, Ok, Err}
use Prim.Native.Nat.{ℕ, zero, suc, ◌+◌, ◌-◌, ◌*◌, ◌<◌, ◌≤◌}
use native.Mathlib.Omega.{arith}
use mathlib.Core.Path.{◌≡◌, refl, sym, ap, ◌∙◌}
use mathlib.Core.Bool.{Bool, true, false, cond}
use mathlib.Core.List.{List, ◌++◌}
use lib.Dec.{eqb}
use lib.ListN.{length, drop, length-append}
use lib.Seq.{take-append_seam, drop-append-add, drop-drop}
use borrow.Author.Tests.{eq-eqb, ne_eqb}
use Rattle.theory.specs.Limits.{Lent}
use Rattle.theory.specs.declared.Refusal.TheVariants.{BadKind}
use Rattle.record.specs.Stage.{at_start}
use Rattle.record.specs.Mark.{mark_at}
use Rattle.record.specs.Number.{numbers}
use Rattle.record.specs.Layout.{values_start, value_count, record_end, values_of}
use Rattle.record.specs.Passed.{counts_after, passed}
use Rattle.record.specs.Record.{judged}
use Rattle.record.specs.Contents.{Contents, nothing, joined, of_next}
use Rattle.record.specs.File.{sound, refused, summary, ended, read_from, start, theory_file, verdict}
use Rattle.record.specs.Bounds.{Within}
use Rattle.record.specs.declared.Summary.{Summary}
use Rattle.record.specs.declared.Cursor.{Cursor}
use Rattle.record.specs.declared.Mark.{Mark}
use Rattle.record.specs.declared.Values.{Values}
use Rattle.record.proofs.Steps.{next_passed, next_within, passed_fields}
use Rattle.record.proofs.Judging.{read-refused, read_next, verdict_same, contents_of, sound-is}
use Rattle.load.specs.Tables.{Tables, over, holding}
use Rattle.load.specs.Store.{placed, stored, stored_from}
use Rattle.load.specs.Room.{Fits, Stands}
use Rattle.load.proofs.Laws.{sizes}
use Rattle.theory.specs.declared.Refusal.{Refusal}

-- the cursor past the record at the cursor
abbrev pub next_cursor : List ℕ → Cursor → Cursor
next_cursor file c =
    passed c (mark_at file c.at) (counts_after c.counts (mark_at file c.at) (values_of file c.at (mark_at file c.at))) (record_end file c.at (mark_at file c.at))

-- ---- counts only grow, so a file that fits has room at every record

lent_less : (file : List ℕ) (c next : Cursor) (x y z : ℕ) → judged file c ≡ Ok next → Lent next.counts x y z → Lent c.counts x y z
lent_less file c next x y z e l =
    let p = next_passed file c next e in
    let f = (passed_fields c (mark_at file c.at) (counts_after c.counts (mark_at file c.at) (values_of file c.at (mark_at file c.at))) (record_end file c.at (mark_at file c.at))).2 in
    let k = rw (p.next_is, f) at l in
    let s = sizes c.counts c.counts.operands (mark_at file c.at) (values_of file c.at (mark_at file c.at)) in
    record {
      nodes_long = omega (arith, s.0, k.nodes_long);
      operands_long = omega (arith, s.1, k.operands_long);
      roots_long = omega (arith, s.2, k.roots_long);
    }

ended-lent : (c : Cursor) (t : Contents) (x y z : ℕ) → Fits (verdict (ended c t)) x y z → Lent c.counts x y z
unfolding ended verdict
ended-lent c t x y z = go (at_start c.stage)
  where
    go : (b : Bool) → Fits (verdict (cond b (refused (BadKind c.records)) (sound (summary c) t))) x y z → Lent c.counts x y z
    go true f = absurd f
    go false f = f

pub fits_lent : (file : List ℕ) (c : Cursor) (t : Contents) (n x y z : ℕ) → Fits (verdict (read_from file c t n)) x y z → Lent c.counts x y z
unfolding read_from verdict
fits_lent file c t zero x y z f = ended-lent c t x y z f
fits_lent file c t (suc n) x y z f = go (eqb c.at (length file)) (judged file c) refl (λ next. fits_lent file next (joined t (of_next file c)) n x y z) f
  where
    go : (b : Bool) (s : Result Cursor Refusal) → judged file c ≡ s
        → ((next : Cursor) → Fits (verdict (read_from file next (joined t (of_next file c)) n)) x y z → Lent next.counts x y z)
        → Fits (verdict (cond b (ended c t) (elim s [ Ok next ↦ read_from file next (joined t (of_next file c)) n | Err r ↦ refused r ]))) x y z
        → Lent c.counts x y z
    go true s e ih h = ended-lent c t x y z h
    go false (Ok next) e ih h = lent_less file c next x y z e (ih next h)
    go false (Err r) e ih h = absurd h

-- ---- one turn

pub record Turn (file : List ℕ) (c : Cursor) (x y z : ℕ) : Type 0 where
  pub goes : judged file c ≡ Ok (next_cursor file c)
  pub fits : Fits (verdict (read_from file (next_cursor file c) nothing (length file - (next_cursor file c).records))) x y z
  pub marked : c.at + 2 ≤ length file
  pub whole : record_end file c.at (mark_at file c.at) ≤ length file
  pub room : Lent (counts_after c.counts (mark_at file c.at) (values_of file c.at (mark_at file c.at))) x y z

pub turn : (file : List ℕ) (c : Cursor) (x y z : ℕ) → Within (length file) c → c.at < length file
    → Fits (verdict (read_from file c nothing (length file - c.records))) x y z → Turn file c x y z
unfolding verdict
turn file c x y z w h f = go (judged file c) refl
  where
    left : length file - c.records ≡ suc (length file - (c.records + 1))
    left = omega (arith, w.records)

    go : (s : Result Cursor Refusal) → judged file c ≡ s → Turn file c x y z
    go (Err r) e = absurd (rw (left, read-refused file c nothing (length file - (c.records + 1)) r h e) at f)
    go (Ok next) e =
        let p = next_passed file c next e in
        let q = next_within file c next e w in
        let g = rw (left, read_next file c nothing (length file - (c.records + 1)) next h e, verdict_same file next (joined nothing (of_next file c)) nothing (length file - (c.records + 1)), p.next_is) at f in
        let l = fits_lent file (next_cursor file c) nothing (length file - (c.records + 1)) x y z g in
        record {
          goes = e ∙ ap Ok p.next_is;
          fits = rw (passed_fields c (mark_at file c.at) (counts_after c.counts (mark_at file c.at) (values_of file c.at (mark_at file c.at))) (record_end file c.at (mark_at file c.at))).1 g;
          marked = omega (arith, q.1, q.0.at);
          whole = p.whole;
          room = rw (passed_fields c (mark_at file c.at) (counts_after c.counts (mark_at file c.at) (values_of file c.at (mark_at file c.at))) (record_end file c.at (mark_at file c.at))).2 at l;
        }

-- the record at the cursor as the code reads it
module _ (file : List ℕ) (c : Cursor) (mark : Mark) (v : Values) (x y z : ℕ) (t : Turn file c x y z) (marked : mark ≡ mark_at file c.at)
    (values : (v.start ≡ values_start file c.at mark) × (v.count ≡ value_count file c.at mark) × (v.count < 4294967296)) where
  pub stands : Stands file c mark v
  unfolding record_end
  stands =
      record {
        marked = marked;
        begins = values.0;
        many = values.1;
        whole = rw (values.0, values.1, marked) t.whole;
        small = values.2;
      }

  pub room_here : Lent (counts_after c.counts mark (numbers file v.start v.count)) x y z
  unfolding values_of
  room_here = rw (values.0, values.1, marked) t.room

  pub next_here : passed c mark (counts_after c.counts mark (numbers file v.start v.count)) (v.start + 4 * v.count) ≡ next_cursor file c
  unfolding values_of record_end
  next_here = rw (values.0, values.1, marked)

-- the loop of `store_all`: `whole` is what is left to do
module _ (file : List ℕ) (c : Cursor) (b whole : Tables) (rest : whole ≡ stored_from file c b (length file - c.records)) where
  pub store_go : Within (length file) c → c.at < length file → judged file c ≡ Ok (next_cursor file c)
      → whole ≡ stored_from file (next_cursor file c) (stored file c b) (length file - (next_cursor file c).records)
  unfolding stored_from
  store_go w h e =
      let more = (passed_fields c (mark_at file c.at) (counts_after c.counts (mark_at file c.at) (values_of file c.at (mark_at file c.at))) (record_end file c.at (mark_at file c.at))).1 in
      let left : length file - c.records ≡ suc (length file - (c.records + 1)) = omega (arith, w.records) in
      rest ∙ rw (left, ne_eqb c.at (length file) (λ q. omega arith), e, stored_from, more)

  pub store_done : c.at ≡ length file → b ≡ whole
  unfolding stored_from
  store_done e = sym (rest ∙ go (length file - c.records))
    where
      go : (n : ℕ) → stored_from file c b n ≡ b
      go zero = refl
      go (suc n) = rw (eq-eqb c.at (length file) e)

-- ---- the tables hold the contents

placed_over : (xs zs ys : List ℕ) (i : ℕ) → length xs ≡ i → placed (over xs ys) i zs ≡ over (xs ++ zs) ys
unfolding placed over
placed_over xs zs ys i e =
    rw (← e, take-append_seam xs (drop (length xs) ys), drop-append-add xs (drop (length xs) ys) (length zs), drop-drop (length zs) (length xs) ys, length-append xs zs)

pub record Sized (c : Cursor) (t : Contents) : Type 0 where
  pub nodes : length t.nodes ≡ 3 * c.counts.nodes
  pub operands : length t.operands ≡ c.counts.operands
  pub roots : length t.roots ≡ c.counts.roots

pub sized_next : (file : List ℕ) (c next : Cursor) (t : Contents) → judged file c ≡ Ok next → Sized c t → Sized next (joined t (of_next file c))
unfolding of_next
sized_next file c next t e z =
    let p = next_passed file c next e in
    let f = (passed_fields c (mark_at file c.at) (counts_after c.counts (mark_at file c.at) (values_of file c.at (mark_at file c.at))) (record_end file c.at (mark_at file c.at))).2 in
    let s = sizes c.counts c.counts.operands (mark_at file c.at) (values_of file c.at (mark_at file c.at)) in
    rw p.next_is
    (record {
      nodes = rw (f, length-append) (omega (arith, s.0, z.nodes));
      operands = rw (f, length-append) (omega (arith, s.1, z.operands));
      roots = rw (f, length-append) (omega (arith, s.2, z.roots));
    })

stored-holding : (file : List ℕ) (c : Cursor) (t : Contents) (b : Tables) → Sized c t → stored file c (holding t b) ≡ holding (joined t (of_next file c)) b
unfolding stored
stored-holding file c t b z =
    rw (
      placed_over t.nodes (of_next file c).nodes b.nodes (3 * c.counts.nodes) z.nodes,
      placed_over t.operands (of_next file c).operands b.operands c.counts.operands z.operands,
      placed_over t.roots (of_next file c).roots b.roots c.counts.roots z.roots,
    )

ended_contents : (c : Cursor) (t u : Contents) (s : Summary) → ended c t ≡ sound s u → t ≡ u
unfolding ended
ended_contents c t u s = go (at_start c.stage)
  where
    go : (b : Bool) → cond b (refused (BadKind c.records)) (sound (summary c) t) ≡ sound s u → t ≡ u
    go true e = let z : ◌≡◌ {A = ℕ} 0 1 = cc in absurd (omega arith)
    go false e = cc

-- what the second pass leaves: the contents at the front, the rest as it was
pub stored_contents : (file : List ℕ) (c : Cursor) (t u : Contents) (s : Summary) (b : Tables) (n : ℕ) → Sized c t
    → read_from file c t n ≡ sound s u → stored_from file c (holding t b) n ≡ holding u b
unfolding read_from stored_from
stored_contents file c t u s b zero z e = ap (λ v. holding v b) (ended_contents c t u s e)
stored_contents file c t u s b (suc n) z e =
    go (eqb c.at (length file)) (judged file c) refl (λ next. stored_contents file next (joined t (of_next file c)) u s b n) e
  where
    go : (q : Bool) (x : Result Cursor Refusal) → judged file c ≡ x
        → ((next : Cursor) → Sized next (joined t (of_next file c)) → read_from file next (joined t (of_next file c)) n ≡ sound s u
        → stored_from file next (holding (joined t (of_next file c)) b) n ≡ holding u b)
        → cond q (ended c t) (elim x [ Ok next ↦ read_from file next (joined t (of_next file c)) n | Err r ↦ refused r ]) ≡ sound s u
        → cond q (holding t b) (elim x [ Ok next ↦ stored_from file next (stored file c (holding t b)) n | Err r ↦ holding t b ]) ≡ holding u b
    go true x j ih h = ap (λ v. holding v b) (ended_contents c t u s h)
    go false (Ok next) j ih h = rw (stored-holding file c t b z) (ih next (sized_next file c next t j z) h)
    go false (Err r) j ih h = let k : ◌≡◌ {A = ℕ} 0 1 = cc in absurd (omega arith)

-- the tables that `store_all` leaves
pub tables_hold : (file : List ℕ) (s : Summary) (b : Tables) → verdict (theory_file file) ≡ Ok s
    → stored_from file start b (length file) ≡ holding (contents_of (theory_file file)) b
unfolding theory_file over
tables_hold file s b e =
    stored_contents file start nothing (contents_of (theory_file file)) s b (length file)
    (record { nodes = refl; operands = refl; roots = refl })
    (sound-is (theory_file file) s e)
