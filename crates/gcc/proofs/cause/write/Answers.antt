-- `gcc::cause::write` meets its contract. Assumes nothing.
use native.Mathlib.Omega.{arith}
use mathlib.Core.Path.{◌≡◌, sym, ◌∙◌}
use mathlib.Core.Bool.{true}
use Prim.Native.Nat.{◌+◌}
use lib.ListN.{length}
use borrow.Author.Tests.{eq-eqb, ne_eqb, le-leb, lt-leb}
use Rattle.gcc.specs.Octet.{all_between}
use Rattle.gcc.specs.Cause.{parts_of, right, write_number, write_to}
use Rattle.bits.proofs.Answers.{both_true}
use Rattle.gcc.proofs.cause.write.Goals as goal

pub returns-then-count-eq0 : goal.returns-then-count-eq0
unfolding write_number write_to
returns-then-count-eq0 c =
    let a = c.args in
    let e : 13 ≡ write_number a.cause (length a.octets.now) = rw (lt-leb 1 a.cause.count (omega arith)) in
    (e, rw (← e))

pub returns-then-count-size-gt255 : goal.returns-then-count-size-gt255
unfolding write_number write_to
returns-then-count-size-gt255 c =
    let a = c.args in
    let e : 13 ≡ write_number a.cause (length a.octets.now) =
    rw (le-leb 1 a.cause.count (omega arith), lt-leb (a.cause.count + a.cause.size) 255 c.if-count-size-gt255.true) in
    (e, rw (← e))

pub returns-then-not-is_right : goal.returns-then-not-is_right
unfolding write_number write_to
returns-then-not-is_right c =
    let a = c.args in
    let e : 12 ≡ write_number a.cause (length a.octets.now) =
    rw (le-leb 1 a.cause.count (omega arith), le-leb (a.cause.count + a.cause.size) 255 c.if-count-size-gt255.false, ← c.is_right.ensures, c.if-not-is_right.true) in
    (e, rw (← e))

pub returns-then-octets-count : goal.returns-then-octets-count
unfolding write_number write_to
returns-then-octets-count c =
    let a = c.args in
    let e : 11 ≡ write_number a.cause (length a.octets.now) =
    rw (
      le-leb 1 a.cause.count (omega arith),
      le-leb (a.cause.count + a.cause.size) 255 c.if-count-size-gt255.false,
      ← c.is_right.ensures,
      c.if-not-is_right.false,
      ne_eqb _ _ c.if-octets-count.true,
    ) in
    (e, rw (← e))

pub put_cause-requires : goal.put_cause-requires
unfolding right
put_cause-requires c =
    let a = c.args in
    let r : right a.cause ≡ true = sym c.is_right.ensures ∙ c.if-not-is_right.false in
    (omega arith, (c.if-octets-count.false, (both_true (all_between 0 127 (parts_of a.cause)) _ r).0))

pub returns : goal.returns
unfolding write_number write_to
returns c =
    let a = c.args in
    let e : 0 ≡ write_number a.cause (length a.octets.now) =
    rw (
      le-leb 1 a.cause.count (omega arith),
      le-leb (a.cause.count + a.cause.size) 255 c.if-count-size-gt255.false,
      ← c.is_right.ensures,
      c.if-not-is_right.false,
      eq-eqb _ _ c.if-octets-count.false,
    ) in
    (e, rw (← e) c.put_cause.ensures)
