-- `nch_words::parts::put_flagged` meets its contract. Assumes nothing.
use lib.ListN.{length-set}
use Prim.Native.Nat.{◌+◌}
use Rattle.arrays.proofs.Zeroed.{zeros-later}
use Rattle.nch_words.proofs.Puts.{zeros-two, flag-none, flag-some}
use native.Mathlib.Omega.{arith}
use Rattle.nch_words.proofs.parts.put_flagged.Goals as goal

pub returns-then-part-eq0 : goal.returns-then-part-eq0
returns-then-part-eq0 c =
    let a = c.args in (
      omega arith,
      (
        omega arith,
        (
          zeros-later a.numbers.now a.place (a.place + 2) (omega arith) c.requires.1.1,
          λ s p e. flag-none s p a.from a.width a.place a.numbers.now _ (c.part.ensures s p e) c.if-part-eq0.true c.requires.1.1,
        ),
      ),
    )

pub bounds-numbers-place-2 : goal.bounds-numbers-place-2
bounds-numbers-place-2 c = simp length-set (omega (arith, c.requires.1.0))

pub returns : goal.returns
returns c =
    let a = c.args in (
      omega arith,
      (
        omega arith,
        (
          zeros-two a.numbers.now a.place 1 c.part-2.result c.requires.1.1,
          λ s p e.
              flag-some s p a.from a.width a.place a.numbers.now _ (c.part.ensures s p e) c.if-part-eq0.false _ (c.part-2.ensures s p e),
        ),
      ),
    )
