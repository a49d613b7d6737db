-- `gcc::cause::read` meets its contract. Assumes nothing.
use native.Mathlib.Omega.{arith}
use mathlib.Core.Path.{◌≡◌}
use Prim.Native.Nat.{◌<◌}
use native.Mathlib.Numerals.{add-one}
use lib.ListN.{length}
use borrow.Author.Tests.{le-leb, lt-leb}
use Rattle.gcc.specs.Cause.{read_of}
use Rattle.gcc.specs.Inner.{closing}
use Rattle.gcc.proofs.Causes.{closing-kept, closing_le, parse-at, parse-never}
use Rattle.gcc.proofs.cause.read.Goals as goal

pub returns-then-octets-gt255 : goal.returns-then-octets-gt255
unfolding read_of
returns-then-octets-gt255 c = rw (c.refuse.ensures, lt-leb _ _ c.if-octets-gt255.true)

pub returns-then-end-octets : goal.returns-then-end-octets
unfolding read_of
returns-then-end-octets c =
    let s = c.args.octets.now in
    let closed : closing s ≡ c.closes_at-end.result = closing-kept _ _ _ c.kept-all.ensures c.closes_at-end.ensures in
    rw (c.refuse-then-end-octets.ensures, le-leb _ _ c.if-octets-gt255.false, parse-never s (omega arith))

pub tell-requires : goal.tell-requires
tell-requires c =
    let s = c.args.octets.now in
    let closed : closing s ≡ c.closes_at-end.result = closing-kept _ _ _ c.kept-all.ensures c.closes_at-end.ensures in
    let h : c.closes_at-end.result < length s = omega (arith, closing_le s) in
    (h, (omega arith, (parse-at c.closes_at-end.result s closed h).0))

pub returns : goal.returns
unfolding read_of
returns c =
    let s = c.args.octets.now in
    let k = c.closes_at-end.result in
    let closed : closing s ≡ k = closing-kept _ _ _ c.kept-all.ensures c.closes_at-end.ensures in
    let h : k < length s = omega (arith, closing_le s) in
    rw (c.tell.ensures, le-leb _ _ c.if-octets-gt255.false, (parse-at k s closed h).1, add-one)
