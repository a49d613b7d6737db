-- What only private functions' contracts speak of; nothing public rests on it. Assumes nothing.
use Rattle.std.specs.Prelude.{ℕ}
use Rattle.bits.specs.Field.{pick}
use Rattle.receiver.specs.declared.Slot.{Slot}
use Rattle.receiver.specs.declared.Rule.{Rule}
use Rattle.steps.specs.declared.sweep.Fate.{Fate}
use Rattle.steps.specs.declared.sweep.Fate.TheVariants.{Stays, RanOut, Taken}
use Rattle.receiver.specs.Model.{ran_out_of, taken_of}

-- what becomes of a place
unfoldable pub fate_of : ℕ → ℕ → Rule → ℕ → Slot → Fate
fate_of now timer rule i s = pick (ran_out_of now timer s) RanOut (pick (taken_of now timer rule i s) Taken Stays)
