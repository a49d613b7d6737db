-- `yard::octets::zero` meets its contract. Assumes nothing.
use mathlib.Core.Path.{◌≡◌, sym, ap, ◌∙◌}
use Prim.Native.Nat.{ℕ, ◌+◌, ◌-◌}
use native.Mathlib.Omega.{arith}
use lib.ListN.{replicate, length-replicate}
use Rattle.std.proofs.lemmas.Slice.{put_mid-paste}
use Rattle.yard.specs.Octets.{cut}
use Rattle.yard.proofs.Copying.{length_cut, pasted-zeros}
use Rattle.yard.proofs.octets.zero.Goals as goal

pub returns : goal.returns
unfolding cut
returns c =
    let a = c.args in
    let b = a.b.now in
    let e : a.at + a.n - a.at ≡ a.n = omega arith in
    put_mid-paste a.at _ b _ (replicate a.n 0) a.n (c.fill.ensures.after (λ y q. q) ∙ ap (λ (m : ℕ). replicate m 0) (length_cut b a.at _ (omega arith) ∙ e)) (sym e) (sym (length-replicate a.n 0))
    ∙ pasted-zeros b a.at a.n c.requires
