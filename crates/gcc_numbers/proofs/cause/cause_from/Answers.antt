-- `gcc_numbers::cause::cause_from` meets its contract. Assumes nothing.
use native.Mathlib.Omega.{arith}
use Rattle.gcc_numbers.specs.ElementNumbers.{count_at, septets_at, size_at, diagnostics_at}
use Rattle.gcc_numbers.proofs.Octets.{part-octets}
use borrow.Author.Rules.{rules}
use Rattle.gcc_numbers.proofs.cause.cause_from.Goals as goal

pub narrow-requires : goal.narrow-requires
narrow-requires c =
    (search rules, part-octets 255 septets_at c.args.numbers.now count_at (omega arith) c.requires.1)

pub narrow-requires-2 : goal.narrow-requires-2
narrow-requires-2 c =
    (search rules, part-octets 255 diagnostics_at c.args.numbers.now count_at (omega arith) c.requires.1)

pub overflow_cast-result : goal.overflow_cast-result
overflow_cast-result c =
    omega (arith, c.requires.1 count_at (omega arith))

pub overflow_cast-result-2 : goal.overflow_cast-result-2
overflow_cast-result-2 c =
    omega (arith, c.requires.1 size_at (omega arith))

pub returns : goal.returns
returns c =
    rw (c.narrow.ensures, c.narrow-2.ensures)
