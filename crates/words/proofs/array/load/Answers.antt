-- `words::array::load` meets its contract. Assumes nothing.
use native.Mathlib.Omega.{arith}
use Rattle.bits.proofs.Laws.{field_lt}
use Rattle.words.proofs.Windows.{other-words, twenty-words}
use Rattle.words.proofs.array.load.Goals as goal

pub returns-then-s-ne20 : goal.returns-then-s-ne20
returns-then-s-ne20 c = other-words _ c.if-s-ne20.true

pub overflow_mul-result : goal.overflow_mul-result
overflow_mul-result c = omega (arith, c.four.ensures, field_lt c.args.s.now 128 32)

pub returns : goal.returns
returns c = twenty-words _ _ _ _ c.if-s-ne20.false c.eight.ensures c.eight-2.ensures c.four.ensures
