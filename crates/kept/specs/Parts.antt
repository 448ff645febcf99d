-- An evaluation with one of its parts replaced.
-- Assumes nothing.
use Rattle.std.specs.Prelude.{ℕ, List}
use Rattle.kept.specs.CountedSet.{CountedSet}
use Rattle.kept.specs.Worklist.{Worklist}
use Rattle.kept.specs.Evaluation.{Evaluation}

abbrev pub with_truths : Evaluation → List ℕ → Evaluation
with_truths e truths =
    record {
      state = e.state;
      stamp = e.stamp;
      truths = truths;
      worklist = e.worklist;
      support = e.support;
      candidate = e.candidate;
      missing = e.missing;
      false_roots = e.false_roots;
    }

abbrev pub with_worklist : Evaluation → Worklist → Evaluation
with_worklist e worklist =
    record {
      state = e.state;
      stamp = e.stamp;
      truths = e.truths;
      worklist = worklist;
      support = e.support;
      candidate = e.candidate;
      missing = e.missing;
      false_roots = e.false_roots;
    }

abbrev pub with_support : Evaluation → List ℕ → CountedSet → Evaluation
with_support e support missing =
    record {
      state = e.state;
      stamp = e.stamp;
      truths = e.truths;
      worklist = e.worklist;
      support = support;
      candidate = e.candidate;
      missing = missing;
      false_roots = e.false_roots;
    }

abbrev pub with_candidate : Evaluation → List ℕ → CountedSet → Evaluation
with_candidate e candidate missing =
    record {
      state = e.state;
      stamp = e.stamp;
      truths = e.truths;
      worklist = e.worklist;
      support = e.support;
      candidate = candidate;
      missing = missing;
      false_roots = e.false_roots;
    }

abbrev pub with_false_roots : Evaluation → CountedSet → Evaluation
with_false_roots e false_roots =
    record {
      state = e.state;
      stamp = e.stamp;
      truths = e.truths;
      worklist = e.worklist;
      support = e.support;
      candidate = e.candidate;
      missing = e.missing;
      false_roots = false_roots;
    }
