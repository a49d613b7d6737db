-- `gcc::cause::put_cause` meets its contract. Assumes nothing.
use native.Mathlib.Omega.{arith}
use mathlib.Core.Path.{◌≡◌, sym}
use mathlib.Core.List.{List}
use Prim.Native.Nat.{ℕ, ◌+◌, ◌-◌}
use lib.ListN.{length, get_or, set, take, length-set}
use lib.Seq.{length-take-le, get_or-take}
use Rattle.gcc.proofs.Lists.{within-each}
use Rattle.gcc.proofs.Causes.{fills}
use Rattle.gcc.proofs.cause.put_cause.Goals as goal

pub overflow_add-septets : goal.overflow_add-septets
overflow_add-septets c =
    let a = c.args.cause in
    let t : length (take a.count a.septets) ≡ a.count = length-take-le a.count a.septets (omega arith) in
    omega (arith, within-each 0 127 (take a.count a.septets) c.requires.1.1 (a.count - 1) (omega arith), get_or-take a.count a.septets (a.count - 1) 0 (omega arith))

pub slice_bounds-septets-end : goal.slice_bounds-septets-end
slice_bounds-septets-end c = simp length-set (omega arith)

pub slice_bounds-copy-end : goal.slice_bounds-copy-end
slice_bounds-copy-end c = sym (length-take-le _ _ (simp length-set (omega arith)))

pub copy-requires : goal.copy-requires
copy-requires c =
    let a = c.args.cause in
    let l : List ℕ = set a.septets (a.count - 1) (get_or a.septets (a.count - 1) 0 + 128) in
    let e : length (take a.count l) ≡ a.count = length-take-le a.count l (simp length-set (omega arith)) in
    omega (arith, c.requires)

pub slice_bounds-diagnostics-end : goal.slice_bounds-diagnostics-end
slice_bounds-diagnostics-end c = omega arith

pub slice_bounds-copy-end-2 : goal.slice_bounds-copy-end-2
slice_bounds-copy-end-2 c = sym (length-take-le _ _ (omega arith))

pub copy-requires-2 : goal.copy-requires-2
copy-requires-2 c =
    let a = c.args.cause in
    let e : length (take a.size a.diagnostics) ≡ a.size = length-take-le a.size a.diagnostics (omega arith) in
    omega (arith, c.copy.auto.into, c.requires)

pub returns : goal.returns
returns c =
    let a = c.args.cause in
    let p = c.requires in
    let d : length (take a.size a.diagnostics) ≡ a.size = length-take-le a.size a.diagnostics (omega arith) in
    fills a.count a.septets (take a.size a.diagnostics) c.args.octets.now c.copy.new.into c.copy-2.new.into
    p.0 (omega arith) (omega (arith, p.1.0)) c.copy.ensures c.copy-2.ensures
