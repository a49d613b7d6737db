-- `facch_write::checks::identity_in_range` meets its contract. Assumes nothing.
use mathlib.Core.Path.{◌≡◌, ap, ◌∙◌}
use Prim.Native.Nat.{◌-◌, ◌*◌}
use lib.Dec.{eqb}
use borrow.Author.Tests.{eq-eqb, ne_eqb, lt-ltb}
use Rattle.bits.specs.Field.{both}
use Rattle.bits.proofs.Answers.{none_above}
use Rattle.call.proofs.Laws.{long-list}
use Rattle.facch_write.proofs.Records.{below_one}
use native.Mathlib.Omega.{arith}
use Rattle.facch_write.proofs.checks.identity_in_range.Goals as goal

pub returns-then-n-eq0 : goal.returns-then-n-eq0
returns-then-n-eq0 c =
    let a = c.args in
    let e : 8 * (a.n - 1) ≡ 0 = omega arith in
    rw (eq-eqb a.n 0 c.if-n-eq0.true, e) (c.both_hold.ensures ∙ ap (both (eqb a.first 0)) (below_one a.rest))

pub returns-then-n-gt8 : goal.returns-then-n-gt8
returns-then-n-gt8 c =
    let a = c.args in
    rw (ne_eqb a.n 0 c.if-n-eq0.false, lt-ltb a.first 256 (omega arith)) (long-list (a.n - 1) a.rest (omega arith) (omega arith))

pub returns : goal.returns
returns c =
    let a = c.args in
    rw (ne_eqb a.n 0 c.if-n-eq0.false, lt-ltb a.first 256 (omega arith)) (none_above (8 * (a.n - 1)) a.rest)
