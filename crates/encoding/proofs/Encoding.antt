-- The form of a theory file: reading the bytes of sound values gives these values, every sound file is the bytes of what was read, and no two sound values have the same bytes.
-- Assumes nothing.
use Prim.Native.Nat.{ℕ, zero, suc, ◌+◌, ◌≤◌}
use native.Mathlib.Nat.{zero-add}
use native.Mathlib.Omega.{arith}
use mathlib.Core.Path.{◌≡◌, refl, sym, ap, ◌∙◌}
use mathlib.Core.Bool.{false≢true}
use mathlib.Core.List.{List, [], ◌∷◌, ◌++◌, flat_map, append_assoc}
use lib.ListN.{length, length-append}
use Rattle.theory.specs.declared.Counts.{Counts}
use Rattle.record.specs.Mark.{mark_at}
use Rattle.record.specs.Number.{number, numbers}
use Rattle.record.specs.Layout.{value_count, values_start, values_of}
use Rattle.record.specs.Passed.{more, passed_other}
use Rattle.record.specs.Record.{judged_values}
use Rattle.record.specs.Contents.{Contents, nothing}
use Rattle.record.specs.File.{sound, ended, read_from, start, theory_file}
use Rattle.record.specs.declared.Cursor.{Cursor}
use Rattle.record.specs.declared.Mark.{Mark}
use Rattle.record.specs.declared.Mark.TheVariants as mark
use Rattle.record.specs.declared.Stage.TheVariants as stage
use Rattle.record.specs.declared.Summary.{Summary}
use Rattle.record.proofs.Steps.{Passed}
use Rattle.encoding.specs.Value.{TheoryFile}
use Rattle.encoding.specs.Encoding.{record_bytes, node_bytes, root_bytes, candidate_bytes, theory_bytes, encoded}
use Rattle.encoding.specs.Held.{contents_of, counts_of, summary_of}
use Rattle.encoding.specs.Sound.{Below, Sound}
use Rattle.encoding.proofs.Numbers.{number_small}
use Rattle.encoding.proofs.Form.{form_of}
use Rattle.encoding.proofs.Rest.{rest_bytes, SoundRest, outcome, same}
use Rattle.encoding.proofs.Reading.{record_read, rest_read}
use Rattle.encoding.proofs.Writing.{Rest, counts_are, left_is, turn, rest-written}
use Rattle.encoding.proofs.Values.{nodes_only}

-- the counts after the first record
abbrev opening : ℕ → ℕ → Counts
opening stamp atoms = record { stamp = stamp; atoms = atoms; nodes = 0; operands = 0; roots = 0 }

more_opening : (stamp atoms n o r : ℕ) → more (opening stamp atoms) n o r ≡ record { stamp = stamp; atoms = atoms; nodes = n; operands = o; roots = r }
more_opening stamp atoms n o r = rw (zero-add n, zero-add o, zero-add r)

module _ (f : TheoryFile) where
  -- the bytes of the first record, then the rest
  encoded_is : encoded f ≡ form_of mark.Theory (f.stamp ∷ f.atoms ∷ []) ++ rest_bytes f.nodes f.roots f.candidates
  unfolding encoded theory_bytes form_of rest_bytes
  encoded_is =
      let head = record_bytes 84 72 (f.stamp ∷ f.atoms ∷ []) in
      append_assoc (head ++ flat_map node_bytes f.nodes) (flat_map root_bytes f.roots) (flat_map candidate_bytes f.candidates)
      ∙ append_assoc head (flat_map node_bytes f.nodes) _

  opened : Sound f → SoundRest f.nodes f.roots f.candidates (opening f.stamp f.atoms)
  unfolding counts_of
  opened s =
      record {
        nodes = s.nodes;
        roots = rw zero-add s.roots;
        candidates = s.candidates;
        limited = rw (more_opening f.stamp f.atoms) s.limited;
      }

  whole : outcome f.nodes f.roots f.candidates (passed_other start stage.Nodes (opening f.stamp f.atoms) (0 + length (form_of mark.Theory (f.stamp ∷ f.atoms ∷ [])))) nothing
      ≡ sound (summary_of f) (contents_of f)
  unfolding outcome summary_of counts_of contents_of theory_bytes form_of
  whole =
      let head = record_bytes 84 72 (f.stamp ∷ f.atoms ∷ []) in
      let ns = flat_map node_bytes f.nodes in
      let rs = flat_map root_bytes f.roots in
      same _ _ _ _ _ _ _ _ (more_opening f.stamp f.atoms _ _ _) (omega arith)
      (omega (arith, length-append (head ++ ns) rs, length-append head ns, length-append ns rs)) refl

  pub read_encoded : Sound f → theory_file (encoded f) ≡ sound (summary_of f) (contents_of f)
  unfolding theory_file judged_values counts_of
  read_encoded s =
      let small : f.atoms ≤ 65536 = s.limited.atoms in
      record_read (encoded f) start mark.Theory (f.stamp ∷ f.atoms ∷ []) (rest_bytes f.nodes f.roots f.candidates)
      (record {
        ordered = refl;
        small = (omega (arith, s.stamp), (omega arith, tt));
        many = refl;
        limited = record { atoms = small; nodes = omega arith; operands = omega arith; roots = omega arith };
        passes = λ next. refl;
      }) nothing (sound (summary_of f) (contents_of f))
      (λ turns a. rest_read (encoded f) f.nodes f.roots f.candidates _ _ turns refl refl (opened s) a ∙ whole)
      (length (encoded f)) (record { left = encoded_is; within = omega arith; enough = omega arith })

-- ---- a sound file

module _ (file : List ℕ) (bytes : Below 256 file) (s : Summary) (t : Contents) where
  from_first : (next : Cursor) → mark_at file 0 ≡ mark.Theory → Passed file start next mark.Theory (values_of file 0 mark.Theory) → Rest file bytes next
      → (f : TheoryFile) × Sound f × (encoded f ≡ file)
  unfolding counts_of values_of values_start value_count numbers
  from_first next q p r =
      let counts : next.counts ≡ opening (number file 2) (number file 6) = counts_are file bytes start next mark.Theory q p in
      let fits = rw counts at r.fits in
      let f : TheoryFile = record { stamp = number file 2; atoms = number file 6; nodes = r.nodes; roots = r.roots; candidates = r.candidates } in (
        f,
        record {
          stamp = number_small file bytes 2;
          limited = rw (more_opening (number file 2) (number file 6)) at fits.limited;
          nodes = fits.nodes;
          roots = rw zero-add at fits.roots;
          candidates = fits.candidates;
        },
        encoded_is f ∙ sym (left_is file bytes start next mark.Theory q p ∙ rw r.left),
      )

  -- the first record is TH
  first : (next : Cursor) (kind : Mark) → mark_at file 0 ≡ kind → Passed file start next kind (values_of file 0 kind) → Rest file bytes next → (f : TheoryFile) × Sound f × (encoded f ≡ file)
  first next mark.Theory q p r = from_first next q p r
  first next mark.Atom q p r = absurd (false≢true p.ordered)
  first next mark.False q p r = absurd (false≢true p.ordered)
  first next mark.Implies q p r = absurd (false≢true p.ordered)
  first next mark.And q p r = absurd (false≢true p.ordered)
  first next mark.Or q p r = absurd (false≢true p.ordered)
  first next mark.Root q p r = absurd (false≢true p.ordered)
  first next mark.Candidate q p r = absurd (false≢true p.ordered)
  first next mark.Unknown q p r = absurd (false≢true p.ordered)

  values_read : (n : ℕ) → length file ≡ n → read_from file start nothing n ≡ sound s t → (f : TheoryFile) × Sound f × (encoded f ≡ file)
  unfolding ended read_from
  values_read zero h e = let z : ◌≡◌ {A = ℕ} 0 1 = cc in absurd (omega arith)
  values_read (suc n) h e =
      let k = turn file bytes s t n start nothing (omega arith) e (omega arith) (rest-written file bytes s t n) in
      first k.0 (mark_at file 0) refl k.1 k.2

  pub sound-encoded : theory_file file ≡ sound s t → (f : TheoryFile) × Sound f × (encoded f ≡ file) × (contents_of f ≡ t) × (summary_of f ≡ s)
  unfolding theory_file
  sound-encoded e =
      let v = values_read (length file) refl e in
      let f = v.0 in
      let k : sound (summary_of f) (contents_of f) ≡ sound s t = sym (read_encoded f v.1) ∙ ap theory_file v.2 ∙ e in
      (f, v.1, v.2, cc, cc)

-- ---- two values

values_only : (f g : TheoryFile) → summary_of f ≡ summary_of g → contents_of f ≡ contents_of g → f ≡ g
unfolding summary_of counts_of contents_of
values_only f g s c =
    let nodes : f.nodes ≡ g.nodes = nodes_only f.nodes g.nodes (ap (λ x. x.counts.nodes) s) (ap (λ x. x.nodes) c) (ap (λ x. x.operands) c) in
    λ i. record { stamp = (s i).counts.stamp; atoms = (s i).counts.atoms; nodes = nodes i; roots = (c i).roots; candidates = (c i).candidates }

-- the bytes of sound values are those of no others
pub encoded-only : (f g : TheoryFile) → Sound f → Sound g → encoded f ≡ encoded g → f ≡ g
encoded-only f g p q e =
    let k : sound (summary_of f) (contents_of f) ≡ sound (summary_of g) (contents_of g) = sym (read_encoded f p) ∙ ap theory_file e ∙ read_encoded g q in
    let summary : summary_of f ≡ summary_of g = cc in
    let contents : contents_of f ≡ contents_of g = cc in
    values_only f g summary contents
