-- `views::held::place_of` meets its contract. Assumes nothing.
use mathlib.Core.Path.{◌≡◌, sym, ap, ◌∙◌}
use Prim.Native.Nat.{◌+◌}
use Rattle.views.proofs.Holding.{rest, numbers_in, nth-all, nth-found, nth-next, nth_past, nth_end}
use Rattle.views.proofs.held.place_of.Goals as goal
use Rattle.views.proofs.held.place_of.Goals.{then-holds+else-ahead-eq0, else-holds}

pub loop-i-init : goal.loop-i-init
loop-i-init c = let a = c.args in nth-all a.b.now a.n

pub returns-then-ahead-eq0 : goal.returns-then-ahead-eq0
returns-then-ahead-eq0 c =
    let l = c.loop-i in
    let low = c.loop-i-test.true in
    let h = sym c.holds.ensures ∙ c.if-holds.true in
    (low, (h, l.invariant ∙ nth-found c.args.b.now l.i low h l.ahead c.if-ahead-eq0.true))

pub loop-i-preserved : goal.loop-i-preserved
loop-i-preserved c =
    let l = c.loop-i in
    let b = c.args.b.now in
    let low = c.loop-i-test.true in
    let e = c.holds.ensures in
    let step : numbers_in b (rest b (l.i + 1)) c.if-holds.ahead ≡ numbers_in b (rest b l.i) l.ahead =
    elim c.if-holds.branch [
      | then-holds+else-ahead-eq0 w ↦ ap (numbers_in b (rest b (l.i + 1))) w.ahead-is
          ∙ sym (nth-next b l.i low (sym e ∙ w.if-holds.true) l.ahead w.if-ahead-eq0.false)
      | else-holds w ↦ ap (numbers_in b (rest b (l.i + 1))) w.ahead-is
          ∙ sym (nth_past b l.i low (sym e ∙ w.if-holds.false) l.ahead)
    ]
    in
    l.invariant ∙ sym step

pub returns : goal.returns
returns c = let l = c.loop-i in l.invariant ∙ nth_end c.args.b.now l.i l.ahead c.loop-i-test.false
