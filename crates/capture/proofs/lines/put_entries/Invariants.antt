-- The entries before j are put.
use Rattle.std.proofs.Common.{◌≡◌, take}
use Rattle.text.specs.Lines.{added}
use Rattle.text.proofs.Lines.{line}
use Rattle.layout.specs.Layout.{last_of}
use Rattle.capture.specs.Replay.{entries_text}
use Rattle.capture.proofs.Telling.{entries_of}
use Rattle.capture.proofs.lines.put_entries.Given as goal

abbrev pub invariant-loop-j : goal.invariant-loop-j
invariant-loop-j l = line l.out l.at ≡ added (entries_text (take l.j (entries_of (last_of l.state)))) (line l.initial.out l.at-2)
