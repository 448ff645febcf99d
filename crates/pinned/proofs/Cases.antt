-- The worked cases hold of the definitions that the contracts of the public calls cite, by computation.
-- Assumes nothing.
use mathlib.Core.Path.{◌≡◌, refl}
use mathlib.Core.List.{List, map, flat_map}
use Rattle.base.specs.Front.{front}
use Rattle.base.specs.Gather.{gather}
use Rattle.base.specs.Places.{places, count, lowest}
use Rattle.base.specs.Rising.{rising, extended}
use Rattle.words.specs.Bit.{bit}
use Rattle.words.specs.Next.{next}
use Rattle.words.specs.Sets.{member, inserted, removed}
use Rattle.theory.specs.Refusal.{told}
use Rattle.theory.specs.Node.{node_at, span, operands_of}
use Rattle.theory.specs.Limits.{limits_of}
use Rattle.theory.specs.Admission.{all_below, span_start, group_admission, node_admission, root_admission, first_refusal, nodes_admission, roots_admission, admission}
use Rattle.theory.specs.NodeClass as class
use Rattle.theory.specs.NodeClass.{node_class, node_classes}
use Rattle.theory.specs.NodeRank.{greatest, node_highest, node_highests}
use Rattle.theory.specs.NodeTruth.{all_true, any_true, node_truth, node_truths}
use Rattle.record.specs.Rising as record-rising
use Rattle.record.specs.Number as record-number
use Rattle.record.specs.Number.{numbers}
use Rattle.record.specs.Mark.{is_mark, node_mark_at, mark_at}
use Rattle.record.specs.Layout.{value_count, values_start, record_end, values_of}
use Rattle.record.specs.Contents.{of_next}
use Rattle.record.specs.Record as record-judged
use Rattle.record.specs.Record.{unless, judged_group, judged_values, judged_whole, judged_marked}
use Rattle.record.specs.File.{ended, read_from, theory_file}
use Rattle.load.specs.Tables.{over}
use Rattle.load.specs.Loading.{loading_sound, loading}
use Rattle.compile.specs.ClassWord.{class_words}
use Rattle.compile.specs.Head.{chosen, either_order, head_of}
use Rattle.compile.specs.Producer.{fact, rule, produced_by, produced}
use Rattle.compile.specs.Producers.{refused_by, supported_at, roots_supported, made_by, producers, producers_before, producer_words}
use Rattle.graph.specs.Removed as graph
use Rattle.graph.specs.Removed.{remaining}
use Rattle.graph.specs.Depth.{peak, depth}
use Rattle.graph.specs.Derive.{derive}
use Rattle.ranks.specs.Dependency.{only, operand_edges, node_edges, body_edges, produced_edges, edges_into, edges_of, dependencies}
use Rattle.ranks.specs.RankCheck.{body_order, produced_order, order_at, order_by, rank_order, rank_check}
use Rattle.readers.specs.Joined.{joined}
use Rattle.readers.specs.Laid.{start_of, laid, laid_over}
use Rattle.readers.specs.Reader.{reading_of, packed}
use Rattle.readers.specs.Readers.{occurrences, reading_node, readers_of}
use Rattle.readers.specs.AtomNodes.{atom_nodes_of}
use Rattle.readers.specs.ReaderTable.{list_of, built}
use Rattle.plan.specs.Buffers.{short_buffer}
use Rattle.plan.specs.Judged as plan
use Rattle.plan.specs.Judged.{derived, plan_judged, certify_judged}
use Rattle.plan.specs.Outcome.{planned, plan_outcome, certify_outcome}
use Rattle.kept.specs.Tabulate.{tabulate}
use Rattle.kept.specs.SetOf.{set_of, all_inserted}
use Rattle.kept.specs.CountedSet.{counted_set, moved, with_bit, with_member, lookup}
use Rattle.kept.specs.Worklist.{behind, remembering, alone, before, with_node, filled, advanced, advance, sought_filled, far_next, next_filled, forgotten, without_first, but_lowest, worklist_of}
use Rattle.kept.specs.Tables.{operands_at, between, list_at}
use Rattle.kept.specs.Evaluation as evaluation
use Rattle.kept.specs.Evaluation.{held, truth, body_true, supports, support, false_root, summary}
use Rattle.kept.specs.Verdict.{missing_atom, verdict, judged, verdict_of}
use Rattle.kept.specs.Seen.{group_seen, node_seen, seen_by}
use Rattle.kept.specs.Step.{entered, missing_by, support_moved, root_turned, reader_updated, readers_updated, settled, seen, step_at, step}
use Rattle.kept.specs.Start.{all_entered, atom_turned, atom_updated, walk_start}
use Rattle.kept.specs.Walk.{walk, kept_walk}
use Rattle.kept.specs.Check.{node_entry, producer_entry, root_entry, tables_admission, fresh_result, kept_result, changes, is_kept, result}
use Rattle.kept.specs.Layout.{flat, cut, image, of_words, written}
use Rattle.kept.specs.Candidate.{atoms_of}
use Rattle.kept.specs.Tests.{first_short, stamps, stray_bit, tests}
use Rattle.kept.specs.Outcome.{cleared, outcome_at, outcome}
use Rattle.drawings.specs.Tables.{example_nodes, example_operands, example_roots, five_nodes, five_roots, six_nodes, six_roots}
use Rattle.pinned.specs.Lent as lent
use Rattle.pinned.specs.Lent.{Case, reader_lists, after_none, after_zero}
use Rattle.pinned.specs.Refusals.{rows, file_order, tabled, planning_order, checking_order, stamps_and_bits}
use Rattle.pinned.specs.Buffers.{plan_by, certify_by, planning_short, check_short, load_short}
use Rattle.pinned.specs.Written.{Writing, loadings, plannings, checkings}
use Rattle.pinned.specs.Changes.{thresholds}
use Rattle.pinned.specs.Entries.{fresh, kept, unmet}

-- each call answers as document 01 says
abbrev Answers : List Case → Type 0
Answers cs = map (λ c. c.answer) cs ≡ map (λ c. c.expected) cs

-- and leaves those words
abbrev Leaves : List Writing → Type 0
Leaves ws = map (λ w. w.left) ws ≡ map (λ w. w.expected) ws

pub cases_hold : (Answers rows × Answers file_order × Answers tabled × Answers planning_order × Answers checking_order × Answers stamps_and_bits)
    × (Answers load_short × Answers (planning_short plan_by) × Answers (planning_short certify_by) × Answers check_short)
    × (Answers thresholds × Answers unmet)
    × (Leaves loadings × Leaves plannings × Leaves checkings × Leaves fresh × Leaves kept)
unfolding flat_map loadings plannings checkings thresholds rows file_order tabled planning_order checking_order stamps_and_bits load_short planning_short check_short fresh kept unmet lent.producers reader_lists after_none after_zero example_nodes example_operands example_roots five_nodes five_roots six_nodes six_roots front gather places count lowest rising extended bit next member inserted removed told node_at span operands_of limits_of all_below span_start group_admission node_admission root_admission first_refusal nodes_admission roots_admission admission class.joined node_class node_classes greatest node_highest node_highests all_true any_true node_truth node_truths record-rising.rising_from record-rising.rising record-number.number numbers is_mark node_mark_at mark_at value_count values_start record_end values_of of_next unless judged_group judged_values judged_whole judged_marked record-judged.judged ended read_from theory_file over loading_sound loading class_words chosen either_order head_of fact rule produced_by produced refused_by supported_at roots_supported made_by producers producer_words producers_before remaining graph.removed peak depth derive only operand_edges node_edges body_edges produced_edges edges_into edges_of dependencies body_order produced_order order_at order_by rank_order rank_check joined start_of laid laid_over reading_of packed occurrences reading_node readers_of atom_nodes_of list_of built short_buffer plan.judged derived plan_judged certify_judged planned plan_outcome certify_outcome tabulate set_of all_inserted counted_set moved with_bit with_member lookup operands_at between list_at held truth body_true supports support false_root summary evaluation.fresh missing_atom verdict judged verdict_of entered missing_by support_moved root_turned reader_updated readers_updated settled seen seen_by node_seen group_seen step_at step all_entered atom_turned atom_updated walk_start walk kept_walk node_entry producer_entry root_entry tables_admission fresh_result kept_result changes is_kept result flat cut image of_words written atoms_of first_short stamps stray_bit tests cleared outcome_at outcome worklist_of but_lowest filled with_node alone sought_filled far_next next_filled forgotten without_first behind remembering before advance advanced
cases_hold = ((refl, refl, refl, refl, refl, refl), (refl, refl, refl, refl), (refl, refl), (refl, refl, refl, refl, refl))
