-- The entries of a message as an array. Assumes nothing.
use Rattle.std.specs.Prelude.{List, length}
use Rattle.csn1.specs.Told.{padded}
use Rattle.receiver.specs.declared.Record.{Record}
use Rattle.receiver.specs.Model.{no_record}
use Rattle.receiver.specs.Step.{most_entries}
use Rattle.steps.specs.declared.entries.Entries.{Entries}

abbrev pub entries_in : List Record → Entries
entries_in es = record { items = padded no_record most_entries es; count = length es }
