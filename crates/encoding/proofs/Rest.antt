-- The rest of a theory file from a cursor on: nodes, roots and candidates that are still to come.
-- Assumes nothing.
use Prim.Native.Nat.{ℕ, suc, ◌+◌, ◌<◌, ◌≤◌}
use native.Mathlib.Nat.{add-zero}
use native.Mathlib.Omega.{arith}
use mathlib.Core.Path.{◌≡◌, refl}
use mathlib.Core.Bool.{false}
use mathlib.Core.List.{List, [], ◌∷◌, ◌++◌, flat_map, append-nil, append_assoc}
use lib.ListN.{length, drop, length-append}
use Rattle.base.specs.Each.{Each}
use Rattle.theory.specs.Limits.{Limited}
use Rattle.theory.specs.declared.Counts.{Counts}
use Rattle.record.specs.Stage.{at_start}
use Rattle.record.specs.Contents.{Contents, nothing, joined}
use Rattle.record.specs.Passed.{more, passed_other}
use Rattle.record.specs.File.{File, sound, ended}
use Rattle.record.specs.declared.Stage.TheVariants as stage
use Rattle.record.specs.declared.Cursor.{Cursor}
use Rattle.encoding.specs.Value.{Node}
use Rattle.encoding.specs.Encoding.{node_bytes, root_bytes, candidate_bytes}
use Rattle.encoding.specs.Held.{operand_entries, node_words, node_table}
use Rattle.encoding.specs.Sound.{Below, SoundNode, SoundNodes, SoundCandidate}

-- so many bytes before it, what is left there, and turns enough to read it
pub record At (file : List ℕ) (at turns : ℕ) (rest : List ℕ) : Type 0 where
  pub left : drop at file ≡ rest
  pub within : at ≤ length file
  pub enough : length file ≤ at + turns

module _ (ns : List Node) (rs : List ℕ) (cs : List (List ℕ)) where
  -- its bytes
  unfoldable pub rest_bytes : List ℕ
  rest_bytes = flat_map node_bytes ns ++ (flat_map root_bytes rs ++ flat_map candidate_bytes cs)

  -- it is sound after these counts
  pub record SoundRest (t : Counts) : Type 0 where
    pub nodes : SoundNodes t.atoms t.nodes ns
    pub roots : Below (t.nodes + length ns) rs
    pub candidates : Each (SoundCandidate t.atoms) cs
    pub limited : Limited (more t (length ns) (length (flat_map operand_entries ns)) (length rs))

  -- what the whole file then is
  unfoldable pub outcome : Cursor → Contents → File
  outcome c t =
      sound
      (record {
        counts = more c.counts (length ns) (length (flat_map operand_entries ns)) (length rs);
        candidates = c.candidates + length cs;
        first = c.first + length (flat_map node_bytes ns ++ flat_map root_bytes rs);
      })
      (joined t (record { nodes = node_table c.counts.operands ns; operands = flat_map operand_entries ns; roots = rs; candidates = cs }))

-- ---- one record

-- what a node, a root and a candidate add, and the cursor past them
abbrev pub of_node : ℕ → Node → Contents
of_node start n = record { nodes = node_words start n; operands = operand_entries n; roots = []; candidates = [] }

abbrev pub of_root : ℕ → Contents
of_root r = record { nodes = []; operands = []; roots = r ∷ []; candidates = [] }

abbrev pub of_candidate : List ℕ → Contents
of_candidate xs = record { nodes = []; operands = []; roots = []; candidates = xs ∷ [] }

abbrev pub past_node : Cursor → Node → Cursor
past_node c n = passed_other c stage.Nodes (more c.counts 1 (length (operand_entries n)) 0) (c.at + length (node_bytes n))

abbrev pub past_root : Cursor → ℕ → Cursor
past_root c r = passed_other c stage.Roots (more c.counts 0 0 1) (c.at + length (root_bytes r))

abbrev pub past_candidate : Cursor → List ℕ → Cursor
past_candidate c xs =
    record {
      at = c.at + length (candidate_bytes xs);
      records = c.records + 1;
      stage = stage.Candidates;
      counts = c.counts;
      candidates = c.candidates + 1;
      first = c.first;
    }

joined_assoc : (t u v : Contents) → joined (joined t u) v ≡ joined t (joined u v)
joined_assoc t u v =
    rw (
      append_assoc t.nodes u.nodes v.nodes,
      append_assoc t.operands u.operands v.operands,
      append_assoc t.roots u.roots v.roots,
      append_assoc t.candidates u.candidates v.candidates,
    )

joined-none : (t : Contents) → t ≡ joined t nothing
joined-none t = rw (append-nil t.nodes, append-nil t.operands, append-nil t.roots, append-nil t.candidates)

more_none : (t : Counts) → t ≡ more t 0 0 0
more_none t = rw (add-zero t.nodes, add-zero t.operands, add-zero t.roots)

more_more : (t : Counts) (a b d x y z n o r : ℕ) → a + x ≡ n → b + y ≡ o → d + z ≡ r → more (more t a b d) x y z ≡ more t n o r
more_more t a b d x y z n o r p q s =
    let nodes : t.nodes + a + x ≡ t.nodes + n = omega arith in
    let operands : t.operands + b + y ≡ t.operands + o = omega arith in
    let roots : t.roots + d + z ≡ t.roots + r = omega arith in
    rw (nodes, operands, roots)

-- after a node, after a root
node_more : (t : Counts) (n : Node) (ns : List Node) (r : ℕ)
    → more (more t 1 (length (operand_entries n)) 0) (length ns) (length (flat_map operand_entries ns)) r ≡ more t (length (n ∷ ns)) (length (flat_map operand_entries (n ∷ ns))) r
unfolding flat_map
node_more t n ns r =
    more_more t 1 (length (operand_entries n)) 0 _ _ _ _ _ _ (omega arith) (omega (arith, length-append (operand_entries n) (flat_map operand_entries ns))) (omega arith)

root_more : (t : Counts) (r : ℕ) (rs : List ℕ) → more (more t 0 0 1) 0 0 (length rs) ≡ more t 0 0 (length (r ∷ rs))
root_more t r rs = more_more t 0 0 1 _ _ _ _ _ _ (omega arith) (omega arith) (omega arith)

-- ---- what the whole file is, one record on

pub same : (s s' : Counts) (k k' f f' : ℕ) (t t' : Contents) → s ≡ s' → k ≡ k' → f ≡ f' → t ≡ t'
    → ◌≡◌ {A = File} (sound (record { counts = s; candidates = k; first = f }) t) (sound (record { counts = s'; candidates = k'; first = f' }) t')
same s s' k k' f f' t t' p q r e = rw (p, q, r, e)

module _ (c : Cursor) (t : Contents) where
  pub node_turn : (n : Node) (ns : List Node) (rs : List ℕ) (cs : List (List ℕ)) → c.first ≡ c.at
      → outcome ns rs cs (past_node c n) (joined t (of_node c.counts.operands n)) ≡ outcome (n ∷ ns) rs cs c t
  unfolding outcome node_table flat_map
  node_turn n ns rs cs e =
      same _ _ _ _ _ _ _ _
      (node_more c.counts n ns (length rs))
      refl
      (omega (arith, e, length-append (node_bytes n ++ flat_map node_bytes ns) (flat_map root_bytes rs), length-append (node_bytes n) (flat_map node_bytes ns), length-append (flat_map node_bytes ns) (flat_map root_bytes rs)))
      (joined_assoc t (of_node c.counts.operands n) _)

  pub root_turn : (r : ℕ) (rs : List ℕ) (cs : List (List ℕ)) → c.first ≡ c.at
      → outcome [] rs cs (past_root c r) (joined t (of_root r)) ≡ outcome [] (r ∷ rs) cs c t
  unfolding outcome node_table flat_map
  root_turn r rs cs e =
      same _ _ _ _ _ _ _ _
      (root_more c.counts r rs)
      refl
      (omega (arith, e, length-append (root_bytes r) (flat_map root_bytes rs)))
      (joined_assoc t (of_root r) _)

  pub candidate_turn : (xs : List ℕ) (cs : List (List ℕ)) → outcome [] [] cs (past_candidate c xs) (joined t (of_candidate xs)) ≡ outcome [] [] (xs ∷ cs) c t
  unfolding outcome node_table flat_map
  candidate_turn xs cs = same _ _ _ _ _ _ _ _ refl (omega arith) refl (joined_assoc t (of_candidate xs) _)

  pub end_turn : at_start c.stage ≡ false → ended c t ≡ outcome [] [] [] c t
  unfolding ended outcome node_table flat_map
  end_turn h =
      rw h
      (same _ _ _ _ _ _ _ _ (more_none c.counts) (omega arith) (omega arith) (joined-none t))

-- ---- what is sound, one record on and one record back

module _ (t : Counts) (cs : List (List ℕ)) where
  pub node_off : (n : Node) (ns : List Node) (rs : List ℕ) → SoundRest (n ∷ ns) rs cs t → SoundRest ns rs cs (more t 1 (length (operand_entries n)) 0)
  node_off n ns rs s =
      let on : t.nodes + 1 + length ns ≡ t.nodes + suc (length ns) = omega arith in
      record { nodes = s.nodes.1; roots = rw on s.roots; candidates = s.candidates; limited = rw (node_more t n ns (length rs)) s.limited }

  pub node_on : (n : Node) (ns : List Node) (rs : List ℕ) → SoundNode t.atoms t.nodes n → SoundRest ns rs cs (more t 1 (length (operand_entries n)) 0) → SoundRest (n ∷ ns) rs cs t
  node_on n ns rs h s =
      let on : t.nodes + 1 + length ns ≡ t.nodes + suc (length ns) = omega arith in
      record { nodes = (h, s.nodes); roots = rw on at s.roots; candidates = s.candidates; limited = rw (node_more t n ns (length rs)) at s.limited }

  pub root_off : (r : ℕ) (rs : List ℕ) → SoundRest [] (r ∷ rs) cs t → SoundRest [] rs cs (more t 0 0 1)
  unfolding flat_map
  root_off r rs s =
      record { nodes = tt; roots = rw (add-zero (t.nodes + 0)) s.roots.1; candidates = s.candidates; limited = rw (root_more t r rs) s.limited }

  pub root_on : (r : ℕ) (rs : List ℕ) → r < t.nodes → SoundRest [] rs cs (more t 0 0 1) → SoundRest [] (r ∷ rs) cs t
  unfolding flat_map
  root_on r rs h s =
      record { nodes = tt; roots = (omega arith, rw (add-zero (t.nodes + 0)) at s.roots); candidates = s.candidates; limited = rw (root_more t r rs) at s.limited }

  pub candidate_on : (xs : List ℕ) → SoundCandidate t.atoms xs → SoundRest [] [] cs t → SoundRest [] [] (xs ∷ cs) t
  candidate_on xs h s = record { nodes = tt; roots = tt; candidates = (h, s.candidates); limited = s.limited }

  pub candidate_off : (xs : List ℕ) → SoundRest [] [] (xs ∷ cs) t → SoundRest [] [] cs t
  candidate_off xs s = record { nodes = tt; roots = tt; candidates = s.candidates.1; limited = s.limited }

pub end_on : (t : Counts) → Limited t → SoundRest [] [] [] t
unfolding flat_map
end_on t l = record { nodes = tt; roots = tt; candidates = tt; limited = rw (more_none t) at l }
