-- `yard::octets::copy` meets its contract. Assumes nothing.
use mathlib.Core.Path.{◌≡◌, ap, ◌∙◌}
use Prim.Native.Nat.{◌+◌, ◌-◌}
use native.Mathlib.Omega.{arith}
use lib.ListN.{drop}
use lib.Seq.{paste}
use Rattle.yard.specs.Octets.{cut}
use Rattle.yard.proofs.Copying.{length_cut, pasted}
use Rattle.yard.proofs.octets.copy.Goals as goal

pub returns : goal.returns
unfolding cut
returns c =
    let a = c.args in
    let b = a.b.now in
    let e : a.from + a.n - a.from ≡ a.n = omega arith in
    c.copy_within.ensures.after ∙ ap (paste b a.to (drop a.from b)) e ∙ pasted b a.to a.n (drop a.from b) c.requires.1 (length_cut b a.from a.n (omega (arith, c.requires)))
