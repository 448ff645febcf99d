-- Tables of which a call is lent a part, whatever the rest of T is; and where a kept evaluation's sections stand, by the counts alone.
-- Assumes nothing.
use Rattle.std.specs.Prelude.{ℕ, List, []}
use Rattle.theory.specs.declared.Counts.{Counts}
use Rattle.kept.specs.Tables.{Tables}
use Rattle.kept.specs.Layout.{support_start, candidate_start, missing_start, false_roots_start, groups_start, used}

-- no tables but the counts, where a fact depends on nothing else
abbrev pub bare : Counts → Tables
bare t = record { counts = t; plan = 0; made = 0; nodes = []; operands = []; roots = []; producers = []; readers = [] }

-- where the sections begin in the words (kept/specs/Layout), and how many of them are used
abbrev pub support_at : Counts → ℕ
support_at t = support_start (bare t)

abbrev pub candidate_at : Counts → ℕ
candidate_at t = candidate_start (bare t)

abbrev pub missing_at : Counts → ℕ
missing_at t = missing_start (bare t)

abbrev pub false_roots_at : Counts → ℕ
false_roots_at t = false_roots_start (bare t)

abbrev pub groups_at : Counts → ℕ
groups_at t = groups_start (bare t)

abbrev pub used_by : Counts → ℕ
used_by t = used (bare t)

-- the counts
abbrev pub sized : Counts → Tables → Tables
sized t T =
    record {
      counts = t;
      plan = T.plan;
      made = T.made;
      nodes = T.nodes;
      operands = T.operands;
      roots = T.roots;
      producers = T.producers;
      readers = T.readers;
    }

-- the counts and the number of producers
abbrev pub supplied : Counts → ℕ → Tables → Tables
supplied t made T =
    record {
      counts = t;
      plan = T.plan;
      made = made;
      nodes = T.nodes;
      operands = T.operands;
      roots = T.roots;
      producers = T.producers;
      readers = T.readers;
    }

-- the counts, the number of producers and these
abbrev pub produced : Counts → ℕ → List ℕ → Tables → Tables
produced t made producers T =
    record {
      counts = t;
      plan = T.plan;
      made = made;
      nodes = T.nodes;
      operands = T.operands;
      roots = T.roots;
      producers = producers;
      readers = T.readers;
    }

-- these and the reader table
abbrev pub told : Counts → ℕ → List ℕ → List ℕ → Tables → Tables
told t made producers readers T =
    record {
      counts = t;
      plan = T.plan;
      made = made;
      nodes = T.nodes;
      operands = T.operands;
      roots = T.roots;
      producers = producers;
      readers = readers;
    }

-- the counts and the reader table
abbrev pub listed : Counts → List ℕ → Tables → Tables
listed t readers T =
    record {
      counts = t;
      plan = T.plan;
      made = T.made;
      nodes = T.nodes;
      operands = T.operands;
      roots = T.roots;
      producers = T.producers;
      readers = readers;
    }

-- all that a step reads
abbrev pub walked : Counts → ℕ → List ℕ → List ℕ → List ℕ → List ℕ → Tables → Tables
walked t made nodes operands producers readers T =
    record {
      counts = t;
      plan = T.plan;
      made = made;
      nodes = nodes;
      operands = operands;
      roots = T.roots;
      producers = producers;
      readers = readers;
    }

-- the counts and the roots
abbrev pub rooted : Counts → List ℕ → Tables → Tables
rooted t roots T =
    record {
      counts = t;
      plan = T.plan;
      made = T.made;
      nodes = T.nodes;
      operands = T.operands;
      roots = roots;
      producers = T.producers;
      readers = T.readers;
    }

-- all that a fresh check reads
abbrev pub planned : Counts → ℕ → List ℕ → List ℕ → List ℕ → List ℕ → Tables → Tables
planned t made nodes operands roots producers T =
    record {
      counts = t;
      plan = T.plan;
      made = made;
      nodes = nodes;
      operands = operands;
      roots = roots;
      producers = producers;
      readers = T.readers;
    }
