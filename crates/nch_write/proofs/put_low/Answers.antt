-- `nch_write::put_low` meets its contract. Assumes nothing.
use mathlib.Core.Path.{ap}
use borrow.Author.Tests.{eq-eqb, ne_eqb}
use Rattle.csn1.specs.Format.{num_bits, pad_bit}
use Rattle.csn1.proofs.Lawful.{pad_lt}
use Rattle.nch_write.proofs.Putting.{inks_as, inks-none, one_bit}
use borrow.Author.Rules.{rules}
use native.Mathlib.Omega.{arith}
use Rattle.nch_write.proofs.put_low.Goals as goal

pub returns-then-p-eq160 : goal.returns-then-p-eq160
returns-then-p-eq160 c =
    (inks_as (rw (eq-eqb c.args.p.at 160 c.if-p-eq160.true)) inks-none, omega arith)

pub put-requires : goal.put-requires
put-requires c =
    (omega arith, (c.requires, omega (arith, pad_lt c.args.p.at)))

pub returns : goal.returns
returns c =
    let n = c.args.p.at in
    let f = one_bit (pad_bit n) (pad_lt n) (inks_as (ap (num_bits 1) (search rules)) c.put.ensures) in
    (inks_as (rw (ne_eqb n 160 c.if-p-eq160.false)) f, omega (arith, f.next))
