-- How the results are held to account (document 01). Assumes nothing.
use Rattle.listed.specs.Listed.{rows, AllHold}

-- Every row of the listed inputs holds: the whole answer to each input is the one listed.
abbrev pub EveryListedRowHolds : Type 0
EveryListedRowHolds = AllHold rows
