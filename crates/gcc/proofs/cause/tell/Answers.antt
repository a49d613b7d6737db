-- `gcc::cause::tell` meets its contract. Assumes nothing.
use native.Mathlib.Omega.{arith}
use mathlib.Core.Path.{sym}
use Prim.Native.Nat.{◌+◌, ◌-◌}
use lib.ListN.{get_or}
use lib.Seq.{length-take-le}
use Rattle.gcc.proofs.Causes.{tells}
use Rattle.gcc.proofs.cause.tell.Goals as goal

pub slice_bounds-kept-end : goal.slice_bounds-kept-end
slice_bounds-kept-end c =
    let a = c.args in
    sym (length-take-le (a.end + 1) a.octets.now (omega arith))

pub kept-septets-requires : goal.kept-septets-requires
kept-septets-requires c =
    let a = c.args in
    omega (arith, length-take-le (a.end + 1) a.octets.now (omega arith))

pub meaning_of-requires : goal.meaning_of-requires
meaning_of-requires c = omega (arith, c.type_inv.octets c.args.end)

pub returns : goal.returns
returns c =
    let a = c.args in
    tells a.octets.now a.end (get_or a.octets.now a.end 0 - 128) c.kept-septets.result c.kept-diagnostics.result c.meaning_of.result
    (omega arith) c.kept-septets.ensures c.kept-diagnostics.ensures c.meaning_of.ensures
