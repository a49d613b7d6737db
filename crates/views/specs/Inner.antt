-- What only private functions' contracts speak of; nothing public rests on it. Assumes nothing.
use Rattle.std.specs.Prelude.{◌≡◌, List, true, ℕ, ◌<◌}
use Rattle.receiver.specs.Channels.{places}
use Rattle.receiver.specs.Model.{is_held}
use Rattle.layout.specs.Layout.{slot_no, decode_of}
use Rattle.views.specs.Held.{held_numbers, numbers_no}

-- a place that holds the n-th half
abbrev pub HasNumbers : List ℕ → ℕ → ℕ → Type 0
HasNumbers l n i = (i < places) × ((is_held (slot_no l i) ≡ true) × (numbers_no (decode_of l) n ≡ held_numbers (decode_of l) (i, slot_no l i)))
