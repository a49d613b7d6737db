-- `call::writer::head` meets its contract. Assumes nothing.
use Rattle.csn1.proofs.Writing.{flag_byte, byte_lt}
use native.Mathlib.Omega.{arith}
use Rattle.call.proofs.writer.head.Goals as goal

pub overflow_mul-call-2 : goal.overflow_mul-call-2
overflow_mul-call-2 c = let a = c.args.c in omega (arith, byte_lt a.vgcs)

pub overflow_add-call : goal.overflow_add-call
overflow_add-call c = let a = c.args.c in omega (arith, byte_lt a.vgcs)

pub overflow_add-call-2 : goal.overflow_add-call-2
overflow_add-call-2 c = let a = c.args.c in omega (arith, byte_lt a.vgcs, byte_lt a.acknowledged)

pub overflow_mul-result : goal.overflow_mul-result
overflow_mul-result c = let a = c.args.c in omega (arith, byte_lt a.vgcs, byte_lt a.acknowledged)

pub overflow_add-result : goal.overflow_add-result
overflow_add-result c = let a = c.args.c in omega (arith, byte_lt a.vgcs, byte_lt a.acknowledged)

pub overflow_add-result-2 : goal.overflow_add-result-2
overflow_add-result-2 c = let a = c.args.c in omega (arith, byte_lt a.vgcs, byte_lt a.acknowledged)

pub overflow_add-result-3 : goal.overflow_add-result-3
overflow_add-result-3 c = let a = c.args.c in omega (arith, byte_lt a.vgcs, byte_lt a.acknowledged, byte_lt a.hasDescription)

pub returns : goal.returns
returns c = let a = c.args.c in omega (arith, flag_byte a.vgcs, flag_byte a.acknowledged, flag_byte a.hasDescription)
