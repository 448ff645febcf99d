-- What demand 1 says of every public call's outcome: a refusal alters nothing lent, but for the work area and, after 17, the kept evaluation, which are zeroed.
-- Assumes nothing.
use Rattle.std.specs.Prelude.{ℕ, ◌<◌, ◌≤◌, ◌≡◌, ◌↔◌, List, ◌∷◌, length, take, drop, replicate, Err}
use Rattle.theory.specs.Refusal.{told, number_of}
use Rattle.theory.specs.declared.Counts.{Counts}
use Rattle.theory.specs.declared.Refusal.{Refusal}
use Rattle.theory.specs.declared.Refusal.TheVariants.{BadEntry}
use Rattle.record.specs.File.{File}
use Rattle.encoding.specs.Sound.{Below}
use Rattle.load.specs.Tables as load
use Rattle.load.specs.Loading.{loading}
use Rattle.plan.specs.Outcome as plan
use Rattle.plan.specs.Outcome.{plan_outcome, certify_outcome}
use Rattle.kept.specs.Tables.{Tables}
use Rattle.kept.specs.Candidate.{Candidate}
use Rattle.kept.specs.Layout.{listed}
use Rattle.kept.specs.Outcome as kept
use Rattle.kept.specs.Outcome.{refused, outcome}
use Rattle.answers.specs.Word.{planning_word, check_word}
use Rattle.answers.specs.Unpacked.{planning_in, answer_in}
use Rattle.run.specs.Text.{text_of}
use Rattle.run.specs.Run.{run_of}

-- a refusal has one number of document 01's, from 1 to 17, and its place
pub record Numbered (r : Refusal) : Type 0 where
  pub place : ℕ
  pub more : List ℕ
  pub tells : told r ≡ number_of r ∷ place ∷ more
  pub least : 1 ≤ number_of r
  pub most : number_of r ≤ 17

-- of `plan` or `certify`, lent the buffers ps, rs, us and the work area ws
pub record PlanLeaves (ps rs us ws : List ℕ) (o : plan.Outcome) : Type 0 where
  -- the work area is zero over its whole lent length after every call
  pub work_zero : o.work ≡ replicate (length ws) 0
  pub producers_same : (r : Refusal) → o.answer ≡ Err r → o.producers ≡ ps
  pub ranks_same : (r : Refusal) → o.answer ≡ Err r → o.ranks ≡ rs
  pub readers_same : (r : Refusal) → o.answer ≡ Err r → o.readers ≡ us

-- of a check by the tables T, lent the words ws for the kept evaluation
pub record CheckLeaves (T : Tables) (ws : List ℕ) (o : kept.Outcome) : Type 0 where
  pub words_same : (r : Refusal) → o.answer ≡ refused r → ((k : ℕ) → r ≡ BadEntry k → ⊥) → o.words ≡ ws
  -- after 17 the listed words are 0
  pub words_zero : (k : ℕ) → o.answer ≡ refused (BadEntry k) → take (listed T) o.words ≡ replicate (listed T) 0
  -- those past them are as they were after every call, and so is the length
  pub past_same : drop (listed T) o.words ≡ drop (listed T) ws
  pub length_same : length o.words ≡ length ws

-- of a run, lent the output bytes out
pub record RunLeaves (file out : List ℕ) : Type 0 where
  -- it answers 0 exactly if the text does not fit, and then the output is unaltered
  pub refuses : ((run_of file out).answer ≡ 0) ↔ (length out < length (text_of file))
  pub output_same : (run_of file out).answer ≡ 0 → (run_of file out).output ≡ out
  -- bytes past the text are as they were
  pub past_same : drop (run_of file out).answer (run_of file out).output ≡ drop (run_of file out).answer out

pub record Demand1 : Type 0 where
  pub numbered : (r : Refusal) → Numbered r
  pub of_load : (f : File) (b : load.Tables) (r : Refusal) → (loading f b).answer ≡ Err r → (loading f b).left ≡ b
  pub of_plan : (t : Counts) (nodes operands roots ps rs us ws : List ℕ) → PlanLeaves ps rs us ws (plan_outcome t nodes operands roots ps rs us ws)
  pub of_certify : (t : Counts) (nodes operands roots proposed ps rs us ws : List ℕ) → PlanLeaves ps rs us ws (certify_outcome t nodes operands roots proposed ps rs us ws)
  pub of_check : (floor divisor : ℕ) (T : Tables) (c : Candidate) (ws : List ℕ) → CheckLeaves T ws (outcome floor divisor T c ws)
  pub of_run : (file out : List ℕ) → Below 256 file → RunLeaves file out
  -- the one number that a host gets tells the whole answer
  pub word_of_plan : (t : Counts) (nodes operands roots ps rs us ws : List ℕ) → let a = (plan_outcome t nodes operands roots ps rs us ws).answer in planning_in (planning_word a) ≡ a
  pub word_of_certify : (t : Counts) (nodes operands roots proposed ps rs us ws : List ℕ)
      → let a = (certify_outcome t nodes operands roots proposed ps rs us ws).answer in planning_in (planning_word a) ≡ a
  pub word_of_check : (floor divisor : ℕ) (T : Tables) (c : Candidate) (ws : List ℕ) → let a = (outcome floor divisor T c ws).answer in answer_in (check_word a) ≡ a
