-- `nch_write::put` meets its contract. Assumes nothing.
use mathlib.Core.Path.{sym, ap}
use Prim.Native.Nat.{ℕ, ◌+◌}
use Rattle.csn1.proofs.Holding.{length-num_bits}
use Rattle.pen.proofs.Numbers.{put_whole}
use Rattle.pen.proofs.Adding.{adds-number}
use Rattle.nch_write.proofs.put.Goals as goal

pub returns : goal.returns
returns c =
    let a = c.args in
    record {
      next = ap (λ (k : ℕ). a.p.at + k) (sym (length-num_bits a.width a.v));
      adds = adds-number a.width a.v (put_whole a.p.words c.put.result a.width a.v c.requires.0 c.put.ensures) c.requires.0 c.requires.1.1;
    }
