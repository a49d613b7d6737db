-- What only private functions' contracts speak of; nothing public rests on it. Assumes nothing.
use Rattle.std.specs.Prelude.{◌≡◌, List, ℕ, ◌+◌, length}
use Rattle.pen.specs.Words.{no_words, whole, Adds}
use Rattle.nch_write.specs.declared.Pen.{Pen}

abbrev pub no_pen : Pen
no_pen = record { words = no_words; at = 0 }

-- these bits were written behind what p has, and q has all of them
pub record Inks (p : Pen) (bs : List ℕ) (q : Pen) : Type 0 where
  pub next : q.at ≡ p.at + length bs
  pub adds : Adds (whole p.words) (whole q.words) bs
