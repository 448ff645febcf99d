-- A file that a run plans: what its checks are lent.
-- Assumes nothing.
use Rattle.std.specs.Prelude.{ℕ, ◌≤◌, ◌≡◌, List, map, length, Ok}
use Rattle.record.specs.File.{theory_file, verdict}
use Rattle.record.specs.declared.Summary.{Summary}
use Rattle.load.specs.Loading.{loading}
use Rattle.load.specs.Tables as tables
use Rattle.plan.specs.Outcome as planning
use Rattle.kept.specs.Tables.{Tables}
use Rattle.kept.specs.Series.{series_words}
use Rattle.series.specs.Lent.{lent}
use Rattle.run.specs.Text.{candidate_of, own_plan, own_tables}

module _ (file : List ℕ) where
  -- the run's own tables with the theory of the file in them
  abbrev pub tables_loaded : tables.Tables
  tables_loaded = (loading (theory_file file) own_tables).left

  abbrev pub plan_made : Summary → planning.Outcome
  plan_made s = own_plan s.counts tables_loaded.nodes tables_loaded.operands tables_loaded.roots

  -- what every check is lent, with p producers
  abbrev pub tables_lent : Summary → ℕ → Tables
  tables_lent s p = lent s.counts tables_loaded.nodes tables_loaded.operands tables_loaded.roots p (plan_made s)

  -- the file is sound, its theory loaded and planned
  pub record PlannedFile (s : Summary) (p : ℕ) : Type 0 where
    pub short : length file ≤ 65536
    pub sound : verdict (theory_file file) ≡ Ok s
    pub few_atoms : s.counts.atoms ≤ 512
    pub loaded : (loading (theory_file file) own_tables).answer ≡ Ok s
    pub planned : (plan_made s).answer ≡ Ok p

-- the kept evaluation lent to the check that comes after these candidates
abbrev pub words_lent : Tables → List ℕ → List (List ℕ) → List ℕ
words_lent T ws before = series_words 64 8 T ws (map (candidate_of T) before)
