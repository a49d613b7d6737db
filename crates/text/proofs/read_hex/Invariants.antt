-- So many octets are read, each from its two digits.
use mathlib.Core.Path.{◌≡◌}
use lib.Seq.{paste}
use Rattle.text.specs.Digits.{octets_of}
use Rattle.text.proofs.read_hex.Given as goal

abbrev pub invariant-loop-i : goal.invariant-loop-i
invariant-loop-i l = l.octet-items ≡ paste l.initial.octet-items 0 (octets_of l.digits) l.i
