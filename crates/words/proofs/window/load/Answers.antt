-- `words::window::load` meets its contract. Assumes nothing.
use mathlib.Core.Path.{sym}
use Prim.Native.Nat.{◌-◌, ◌*◌}
use lib.ListN.{length}
use Rattle.words.proofs.Windows.{behind, last}
use native.Mathlib.Omega.{arith}
use Rattle.words.proofs.window.load.Goals as goal

pub returns-then-n-lt17 : goal.returns-then-n-lt17
returns-then-n-lt17 c =
    let s = c.args.s.now in
    record {
      first = c.eight.ensures;
      second = last s ((length s - 8) * 8) 64 (128 - length s * 8) c.eight-then-n-lt17.result (omega arith) (omega arith) (omega arith) c.eight-then-n-lt17.ensures;
      third = sym (behind s 128 64 (omega arith));
      short = omega arith;
    }

pub returns : goal.returns
returns c =
    let s = c.args.s.now in
    record {
      first = c.eight-2.ensures;
      second = c.eight-3.ensures;
      third = last s ((length s - 8) * 8) 128 (192 - length s * 8) c.eight-4.result (omega arith) (omega arith) (omega arith) c.eight-4.ensures;
      short = omega arith;
    }
