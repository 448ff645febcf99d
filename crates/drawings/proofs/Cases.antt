-- C1 to C9 of document 01, by one theorem over a table of them.
-- Assumes nothing.
use mathlib.Core.Path.{◌≡◌, refl}
use mathlib.Core.List.{List, [], ◌∷◌, map}
use Rattle.base.specs.Front.{front}
use Rattle.base.specs.Gather.{gather}
use Rattle.base.specs.Places.{places, count, lowest}
use Rattle.base.specs.Rising.{rising, extended}
use Rattle.words.specs.Bit.{bit}
use Rattle.words.specs.Next.{next}
use Rattle.words.specs.Sets.{member, inserted, removed}
use Rattle.theory.specs.Node.{node_at, span, operands_of}
use Rattle.theory.specs.Limits.{limits_of}
use Rattle.theory.specs.Admission.{all_below, span_start, group_admission, node_admission, root_admission, first_refusal, nodes_admission, roots_admission, admission}
use Rattle.theory.specs.NodeClass as class
use Rattle.theory.specs.NodeClass.{node_class, node_classes}
use Rattle.theory.specs.NodeTruth.{all_true, any_true, node_truth, node_truths}
use Rattle.theory.specs.declared.Refusal.TheVariants.{UnsupportedBody, PositiveCycle}
use Rattle.compile.specs.ClassWord.{class_words}
use Rattle.compile.specs.Head.{chosen, either_order, head_of}
use Rattle.compile.specs.Producer.{fact, rule, produced_by, produced}
use Rattle.compile.specs.Producers.{refused_by, supported_at, roots_supported, made_by, producers, producers_before, producer_words}
use Rattle.graph.specs.Removed as graph
use Rattle.graph.specs.Removed.{remaining}
use Rattle.graph.specs.Depth.{peak, depth}
use Rattle.graph.specs.Derive.{derive}
use Rattle.ranks.specs.Dependency.{only, operand_edges, node_edges, body_edges, produced_edges, edges_into, edges_of, dependencies}
use Rattle.readers.specs.Joined.{joined}
use Rattle.readers.specs.Laid.{start_of, laid, laid_over}
use Rattle.readers.specs.Reader.{reading_of, packed}
use Rattle.readers.specs.Readers.{occurrences, reading_node, readers_of}
use Rattle.readers.specs.AtomNodes.{atom_nodes_of}
use Rattle.readers.specs.ReaderTable.{list_of, built}
use Rattle.plan.specs.Buffers.{short_buffer}
use Rattle.plan.specs.Judged as plan
use Rattle.plan.specs.Judged.{derived, plan_judged}
use Rattle.plan.specs.Outcome.{planned, plan_outcome}
use Rattle.kept.specs.Tabulate.{tabulate}
use Rattle.kept.specs.SetOf.{set_of, all_inserted}
use Rattle.kept.specs.CountedSet.{counted_set, moved, with_bit, with_member, lookup}
use Rattle.kept.specs.Worklist.{behind, remembering, alone, before, with_node, filled, advanced, advance, sought_filled, far_next, next_filled, forgotten, without_first, but_lowest, worklist_of}
use Rattle.kept.specs.Tables.{operands_at, between, list_at}
use Rattle.kept.specs.Evaluation.{held, truth, body_true, supports, support, false_root, summary, fresh}
use Rattle.kept.specs.Verdict.{not_model, residual, stable, missing_atom, verdict, judged, verdict_of}
use Rattle.kept.specs.Seen.{group_seen, node_seen, seen_by}
use Rattle.kept.specs.Step.{entered, missing_by, support_moved, root_turned, reader_updated, readers_updated, settled, seen, step_at, step}
use Rattle.kept.specs.Start.{all_entered, atom_turned, atom_updated, walk_start}
use Rattle.kept.specs.Walk.{walk, kept_walk}
use Rattle.kept.specs.Check.{node_entry, producer_entry, root_entry, tables_admission, fresh_result, kept_result, changes, is_kept, result}
use Rattle.kept.specs.Layout.{flat, cut, image, of_words, written}
use Rattle.kept.specs.Candidate.{atoms_of}
use Rattle.kept.specs.Tests.{first_short, stamps, stray_bit, tests}
use Rattle.kept.specs.Outcome.{accepted, cleared, outcome_at, outcome}
use Rattle.drawings.specs.Example.{Example, Shown, unplanned, answers, plan_of, checks, candidates_of, shown_by, shown}
use Rattle.drawings.specs.Tables.{counts, example_nodes, example_operands, example_roots, five_nodes, five_roots, six_nodes, six_roots, seven_nodes, seven_roots}

-- an example and what is shown of it
pub record Case : Type 0 where
  pub example : Example
  pub expected : Shown

unfoldable pub cases : List Case
cases =
    record {
      example = record { counts = counts 2 6 2 2; nodes = example_nodes; operands = example_operands; roots = example_roots; candidates = 2 ∷ 3 ∷ 1 ∷ 0 ∷ [] };
      expected = answers (accepted (residual 1) 6 ∷ accepted stable 4 ∷ accepted (not_model 2) 2 ∷ accepted stable 4 ∷ []);
    }
    ∷ record {
      example = record { counts = counts 3 6 0 3; nodes = five_nodes; operands = []; roots = five_roots; candidates = [] };
      expected = unplanned (PositiveCycle 0);
    }
    ∷ record {
      example = record { counts = counts 3 5 0 1; nodes = six_nodes; operands = []; roots = six_roots; candidates = [] };
      expected = unplanned (UnsupportedBody 4 2);
    }
    ∷ record {
      example = record { counts = counts 1 5 0 1; nodes = seven_nodes; operands = []; roots = seven_roots; candidates = 0 ∷ 1 ∷ [] };
      expected = answers (accepted stable 5 ∷ accepted stable 4 ∷ []);
    }
    ∷ record {
      example = record { counts = counts 1 0 0 0; nodes = []; operands = []; roots = []; candidates = 0 ∷ 1 ∷ [] };
      expected = answers (accepted stable 0 ∷ accepted (residual 0) 0 ∷ []);
    }
    ∷ record {
      example = record { counts = counts 0 1 0 1; nodes = 1 ∷ 0 ∷ 0 ∷ []; operands = []; roots = 0 ∷ []; candidates = 0 ∷ [] };
      expected = answers (accepted (not_model 0) 1 ∷ []);
    }
    ∷ []

-- C1 to C4, C5, C6, C7, C8 and C9
pub cases_hold : map (λ c. shown c.example) cases ≡ map (λ c. c.expected) cases
unfolding cases example_nodes example_operands example_roots five_nodes five_roots six_nodes six_roots seven_nodes seven_roots shown shown_by plan_of checks candidates_of front gather places count lowest rising extended bit next member inserted removed node_at span operands_of limits_of all_below span_start group_admission node_admission root_admission first_refusal nodes_admission roots_admission admission class.joined node_class node_classes all_true any_true node_truth node_truths class_words chosen either_order head_of fact rule produced_by produced refused_by supported_at roots_supported made_by producers producer_words producers_before remaining graph.removed peak depth derive only operand_edges node_edges body_edges produced_edges edges_into edges_of dependencies joined start_of laid laid_over reading_of packed occurrences reading_node readers_of atom_nodes_of list_of built short_buffer plan.judged derived plan_judged planned plan_outcome tabulate set_of all_inserted counted_set moved with_bit with_member lookup operands_at between list_at held truth body_true supports support false_root summary fresh missing_atom verdict judged verdict_of entered missing_by support_moved root_turned reader_updated readers_updated settled seen seen_by node_seen group_seen step_at step all_entered atom_turned atom_updated walk_start walk kept_walk node_entry producer_entry root_entry tables_admission fresh_result kept_result changes is_kept result flat cut image of_words written atoms_of first_short stamps stray_bit tests cleared outcome_at outcome worklist_of but_lowest filled with_node alone sought_filled far_next next_filled forgotten without_first behind remembering before advance advanced
cases_hold = refl
