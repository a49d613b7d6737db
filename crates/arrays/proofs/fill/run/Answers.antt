-- `arrays::fill::run` meets its contract. Assumes nothing.
use mathlib.Core.Path.{refl, sym, ap, ◌∙◌}
use Prim.Native.Nat.{ℕ, ◌+◌}
use mathlib.Core.List.{List}
use lib.ListN.{get_or, set, length-set}
use lib.Seq.{take_all}
use Rattle.arrays.specs.Runs.{stored}
use Rattle.arrays.proofs.Running.{stored-none, run-stored, run_not, stored_next}
use native.Mathlib.Omega.{arith}
use Rattle.arrays.proofs.fill.run.Goals as goal

pub returns-else-values-numbers : goal.returns-else-values-numbers
returns-else-values-numbers c = let a = c.args in sym (run_not a.numbers.now a.at a.values.now (omega arith))

pub loop-i-init : goal.loop-i-init
loop-i-init c = (omega arith, (refl, sym (stored-none _ _)))

pub loop-i-preserved : goal.loop-i-preserved
loop-i-preserved c =
    let l = c.loop-i in
    let a = c.args in
    let v = a.values.now in (
      omega arith,
      (
        length-set l.numbers (a.at + l.i) (get_or v l.i 0) ∙ l.invariant.1.0,
        ap (λ (x : List ℕ). set x (a.at + l.i) (get_or v l.i 0)) l.invariant.1.1 ∙ stored_next a.numbers.now a.at v l.i (omega arith),
      ),
    )

pub shape_of-numbers : goal.shape_of-numbers
shape_of-numbers c = c.loop-i.invariant.1.0

pub returns-after-loop-i : goal.returns-after-loop-i
returns-after-loop-i c =
    let l = c.loop-i in
    let a = c.args in
    l.invariant.1.1 ∙ ap (stored a.numbers.now a.at) (take_all l.i a.values.now (omega arith))
    ∙ sym (run-stored a.numbers.now a.at a.values.now (omega arith))
