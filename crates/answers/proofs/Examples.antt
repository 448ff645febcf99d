-- Words of document 01's example: its plan and its checks, and refusals with and without a body.
-- Assumes nothing.
use Rattle.std.specs.Prelude.{Ok, Err}
use mathlib.Core.Path.{◌≡◌, refl}
use Rattle.theory.specs.Refusal.{told}
use Rattle.theory.specs.declared.Refusal.TheVariants.{ShortBuffer, UnsupportedBody, BadEntry}
use Rattle.kept.specs.Verdict.{not_model, residual, stable}
use Rattle.kept.specs.Outcome.{accepted, refused}
use Rattle.answers.specs.Word.{word, refusal_word, planning_word, check_word}

-- two producers; 9 of buffer 6; 11 of root 4 and body 2
plannings : (planning_word (Ok 2) ≡ 512) × (planning_word (Err (ShortBuffer 6)) ≡ 1545) × (planning_word (Err (UnsupportedBody 4 2)) ≡ 2199023256587)
unfolding planning_word refusal_word word told
plannings = (refl, refl, refl)

-- residual 1 after 6 nodes, stable after 4, notmodel 2 after 2, 17 at node 5
checks : (check_word (accepted (residual 1) 6) ≡ 6597069832704)
    × (check_word (accepted stable 4) ≡ 4398046511104)
    × (check_word (accepted (not_model 2) 2) ≡ 2199023386880)
    × (check_word (refused (BadEntry 5)) ≡ 1297)
unfolding check_word refusal_word word told
checks = (refl, refl, refl, refl)
