-- One step of laying dependencies.
-- Assumes nothing.
use Rattle.std.specs.Prelude.{ℕ, ◌+◌, ◌*◌, ◌-◌, ◌<◌, ◌≤◌, ◌≡◌, refl, List, Some, None, [], ◌∷◌, ◌++◌, length, get_or, take, drop}
use Rattle.std.proofs.Common.{arith, sym, ap, ◌∙◌, append-nil, length-append, length-drop, length-take-le, take_at, drop_at, drop-drop}
use Rattle.std.proofs.Math.Seq.{drop-length}
use Rattle.graph.specs.Edge.{edge}
use Rattle.theory.specs.declared.Counts.{Counts}
use Rattle.kahn.specs.Area.{Sized, part}
use Rattle.kahn.specs.Laid.{laying, Laid}
use Rattle.base.specs.Gather.{gather}
use Rattle.theory.specs.Admission.{span_start}
use Rattle.kahn.proofs.Laying.{degree_most, laid_none, laid_more}
use Rattle.ranks.specs.Dependency.{dependencies}
use Rattle.ranks.specs.Highest.{part-rest}
use Rattle.dependency.specs.Cursor.{before, left, Moved}
use Rattle.dependency.specs.Lent.{Lent}
use Rattle.dependency.specs.Laying.{most, Ready, LaidBefore, LaidNext, Empty, AllLaid}
use Rattle.dependency.specs.CursorLaws.{before_node}
use Rattle.dependency.specs.declared.Cursor.{Cursor}
use Rattle.dependency.specs.declared.Laying.{Laying}

-- an area whose part behind the first v words was lent and came back as ys
module _ (v : ℕ) (area ys : List ℕ) (fits : v ≤ length area) where
  put : List ℕ
  put = take v area ++ (ys ++ drop (length area - v) (drop v area))

  nothing-behind : drop (length area - v) (drop v area) ≡ []
  nothing-behind = let e : length area - v ≡ length (drop v area) = omega (arith, length-drop v area) in rw e (drop-length (drop v area))

  pub tail_front : take v (take v area ++ (ys ++ drop (length area - v) (drop v area))) ≡ take v area
  tail_front = take_at (take v area) _ v (length-take-le v area fits)

  pub tail_back : drop v (take v area ++ (ys ++ drop (length area - v) (drop v area))) ≡ ys
  tail_back = drop_at (take v area) _ v (length-take-le v area fits) ∙ rw nothing-behind (append-nil ys)

  pub tail_long : length ys ≡ length (drop v area) → length (take v area ++ (ys ++ drop (length area - v) (drop v area))) ≡ length area
  tail_long e =
      length-append (take v area) _
      ∙ rw (length-append, nothing-behind, length-take-le v area fits) (omega (arith, length-drop v area))

module _ (t : Counts) (nodes operands roots : List ℕ) (v : ℕ) (area : List ℕ) (ready : Ready t nodes operands roots v area) where
  pub v_fits : t.nodes ≤ length area
  v_fits = omega (arith, ready.long)

  pub lent : Lent t nodes operands roots (take t.nodes area)
  lent = record { limited = ready.limited; tables = ready.tables; listed = ready.listed; classes_long = omega (arith, length-take-le t.nodes area v_fits, ready.vertices) }

  pub sized : Sized v (most t) (take (length area - t.nodes) (drop t.nodes area))
  sized =
      rw (part-rest t.nodes area) (record {
        vertices = omega (arith, ready.vertices, ready.limited);
        edges = omega (arith, ready.limited);
        long = omega (arith, ready.long, length-drop t.nodes area);
      })

  module _ (l : Laying) (b : LaidBefore t nodes operands roots v area l) where
    -- an edge at the cursor, laid
    module _ (s x : ℕ) (d : Cursor) (step : Moved t nodes operands (take t.nodes area) roots l.cursor d (edge s x ∷ []) × (s < t.atoms + t.nodes) × (x < t.atoms + t.nodes)) where
      pub has_room : l.laid < most t
      has_room = omega (arith, b.room, step.0.less)

      pub few_degrees : get_or (take (length area - t.nodes) (drop t.nodes area)) (v + x) 0 ≤ l.laid
      few_degrees =
          rw (part-rest t.nodes area)
          (omega (arith, b.number, degree_most v (most t) (before t nodes operands (take t.nodes area) roots l.cursor) (drop t.nodes area) b.laid x (omega (arith, step.2, ready.vertices))))

      pub laid-edge : (after ys : List ℕ) → length after ≡ length area → take t.nodes after ≡ take t.nodes area → drop t.nodes after ≡ ys
          → ys ≡ laying v (most t) l.laid s x (take (length area - t.nodes) (drop t.nodes area))
          → LaidNext t nodes operands roots v area after l (Some (record { laid = l.laid + 1; cursor = d }))
      laid-edge after ys long front back e =
          record {
            long = long;
            classes = front;
            laid = (
              record {
                range = rw front step.0.range;
                number = rw (front, step.0.grown, length-append) (omega (arith, b.number));
                room = rw front (omega (arith, b.room, step.0.less));
                laid =
                    rw (front, step.0.grown, back ∙ e, part-rest t.nodes area, b.number)
                    (laid_more v (most t) s x (before t nodes operands (take t.nodes area) roots l.cursor) (drop t.nodes area) (omega (arith, ready.long, length-drop t.nodes area))
                    (omega (arith, step.1, ready.vertices)) (omega (arith, step.2, ready.vertices)) (omega (arith, b.number, has_room)) b.laid);
              },
              step.0.less,
            );
          }

-- ---- the loop that lays all

-- what holds between two steps: area₀ at the start, area now
pub record LayingAll (t : Counts) (nodes operands roots : List ℕ) (v : ℕ) (area₀ area : List ℕ) (l : Laying) : Type 0 where
  pub long : length area ≡ length area₀
  pub classes : take t.nodes area ≡ take t.nodes area₀
  pub laid : LaidBefore t nodes operands roots v area l

pub ready_later : (t : Counts) (nodes operands roots : List ℕ) (v : ℕ) (area₀ area : List ℕ) → length area ≡ length area₀ → Ready t nodes operands roots v area₀ → Ready t nodes operands roots v area
ready_later t nodes operands roots v area₀ area e r =
    record { limited = r.limited; tables = r.tables; listed = r.listed; starts = r.starts; vertices = r.vertices; long = omega (arith, r.long) }

pub laying_starts : (t : Counts) (nodes operands roots : List ℕ) (v : ℕ) (area : List ℕ) → Ready t nodes operands roots v area → Empty t v area
    → LayingAll t nodes operands roots v area area (record { laid = 0; cursor = record { node = 0; slot = 0; root = 0 } })
unfolding gather left span_start
laying_starts t nodes operands roots v area r z =
    let none = before_node t nodes operands (take t.nodes area) roots 0 0 refl (omega arith) in
    record {
      long = refl;
      classes = refl;
      laid = record {
        range = record { node_in = omega arith; root_in = omega arith; slot_in = omega arith; slots_over = λ h. refl; roots_later = λ h. refl };
        number = rw none;
        room = omega (arith, r.starts);
        laid = rw none (laid_none v (most t) (drop t.nodes area) z.zero_words);
      };
    }

module _ (t : Counts) (nodes operands roots : List ℕ) (v : ℕ) (area₀ area after : List ℕ) (l : Laying) (was : LayingAll t nodes operands roots v area₀ area l) where
  module _ (r : Laying) (step : LaidNext t nodes operands roots v area after l (Some r)) where
    pub laying_more : LayingAll t nodes operands roots v area₀ after r
    laying_more = record { long = step.long ∙ was.long; classes = step.classes ∙ was.classes; laid = step.laid.0 }

    pub laying_less : left t nodes operands (take t.nodes area₀) roots r.cursor < left t nodes operands (take t.nodes area₀) roots l.cursor
    laying_less = rw was.classes at step.laid.1

  pub laying_ends : LaidNext t nodes operands roots v area after l None → AllLaid t nodes operands roots v area₀ after
  laying_ends step = record { long = step.long ∙ was.long; classes = step.classes ∙ was.classes; laid = rw was.classes at step.laid }

-- ---- the derivation over them

pub ranks_part : (n v k : ℕ) (area ys : List ℕ) → n ≤ length area
    → part (n + 2 * v) k (take n area ++ (ys ++ drop (length area - n) (drop n area))) ≡ part (2 * v) k ys
ranks_part n v k area ys fits =
    ap (take k) (sym (drop-drop (2 * v) n (take n area ++ (ys ++ drop (length area - n) (drop n area)))) ∙ ap (drop (2 * v)) (tail_back n area ys fits))

pub laid-part : (t : Counts) (nodes operands roots : List ℕ) (v : ℕ) (area after : List ℕ) → AllLaid t nodes operands roots v area after
    → Laid v (most t) (dependencies t nodes operands (take t.nodes area) roots) (take (length after - t.nodes) (drop t.nodes after))
laid-part t nodes operands roots v area after a = rw (part-rest t.nodes after) a.laid
