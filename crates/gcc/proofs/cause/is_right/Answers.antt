-- `gcc::cause::is_right` meets its contract. Assumes nothing.
use native.Mathlib.Omega.{arith}
use mathlib.Core.Path.{◌≡◌, sym, ap, ◌∙◌}
use lib.ListN.{drop}
use lib.Seq.{length-take-le}
use Rattle.gcc.specs.Octet.{all_between}
use Rattle.gcc.specs.Cause.{right}
use Rattle.gcc.proofs.Lists.{rest_all}
use Rattle.gcc.proofs.cause.is_right.Goals as goal

pub slice_bounds-septets-end : goal.slice_bounds-septets-end
slice_bounds-septets-end c = omega arith

pub slice_bounds-all_within-end : goal.slice_bounds-all_within-end
slice_bounds-all_within-end c =
    let a = c.args.cause in
    sym (length-take-le a.count a.septets (omega arith))

pub returns-then-not-all_within : goal.returns-then-not-all_within
unfolding right
returns-then-not-all_within c = rw (← c.all_within.ensures, c.if-not-all_within.true)

pub returns-then-not-all_within-2 : goal.returns-then-not-all_within-2
unfolding right
returns-then-not-all_within-2 c =
    let a = c.args.cause in
    let e : c.all_within-2.result ≡ all_between 0 0 (drop a.count a.septets) =
    c.all_within-2.ensures ∙ ap (all_between 0 0) (rest_all a.count 255 a.septets c.well_formed.0.1.1.1.0.1.0.1) in
    rw (← c.all_within.ensures, c.if-not-all_within.false, ← e, c.if-not-all_within-2.true)

pub returns : goal.returns
unfolding right
returns c =
    let a = c.args.cause in
    let e : c.all_within-2.result ≡ all_between 0 0 (drop a.count a.septets) =
    c.all_within-2.ensures ∙ ap (all_between 0 0) (rest_all a.count 255 a.septets c.well_formed.0.1.1.1.0.1.0.1) in
    let d : c.all_within-3.result ≡ all_between 0 0 (drop a.size a.diagnostics) =
    c.all_within-3.ensures ∙ ap (all_between 0 0) (rest_all a.size 255 a.diagnostics c.well_formed.0.1.1.1.1.1.0.1.0.1) in
    d ∙ rw (← c.all_within.ensures, c.if-not-all_within.false, ← e, c.if-not-all_within-2.false)
