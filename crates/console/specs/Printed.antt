-- What the program prints of a file: its text, or 9 for buffer 9 if that is longer than 65,536 bytes.
-- Assumes nothing.
use Rattle.std.specs.Prelude.{ℕ, cond, List, leb, length}
use Rattle.theory.specs.declared.Refusal.TheVariants.{ShortBuffer}
use Rattle.text.specs.Lines.{refused_line}
use Rattle.run.specs.Text.{text_of}

unfoldable pub printed_of : List ℕ → List ℕ
printed_of file = cond (leb (length (text_of file)) 65536) (text_of file) (refused_line (ShortBuffer 9))
