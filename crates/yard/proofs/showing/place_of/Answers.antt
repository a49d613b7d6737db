-- `yard::showing::place_of` meets its contract. Assumes nothing.
use mathlib.Core.Path.{◌≡◌, sym, ap, ◌∙◌}
use Prim.Native.Nat.{◌+◌}
use Rattle.yard.proofs.ShownCalls.{rest, numbers_in, nth-all, nth-found, nth-next, nth_past, nth_end}
use Rattle.yard.proofs.showing.place_of.Goals as goal
use Rattle.yard.proofs.showing.place_of.Goals.{then-shows+else-ahead-eq0, else-shows}

pub loop-i-init : goal.loop-i-init
loop-i-init c = let a = c.args in nth-all a.b.now a.n

pub returns-then-ahead-eq0 : goal.returns-then-ahead-eq0
returns-then-ahead-eq0 c =
    let l = c.loop-i in
    let low = c.loop-i-test.true in
    (low, l.invariant ∙ nth-found c.args.b.now l.i low (sym c.shows.ensures ∙ c.if-shows.true) l.ahead c.if-ahead-eq0.true)

pub loop-i-preserved : goal.loop-i-preserved
loop-i-preserved c =
    let l = c.loop-i in
    let b = c.args.b.now in
    let low = c.loop-i-test.true in
    let e = c.shows.ensures in
    let step : numbers_in b (rest b (l.i + 1)) c.if-shows.ahead ≡ numbers_in b (rest b l.i) l.ahead =
    elim c.if-shows.branch [
      | then-shows+else-ahead-eq0 w ↦ ap (numbers_in b (rest b (l.i + 1))) w.ahead-is
          ∙ sym (nth-next b l.i low (sym e ∙ w.if-shows.true) l.ahead w.if-ahead-eq0.false)
      | else-shows w ↦ ap (numbers_in b (rest b (l.i + 1))) w.ahead-is
          ∙ sym (nth_past b l.i low (sym e ∙ w.if-shows.false) l.ahead)
    ]
    in
    l.invariant ∙ sym step

pub returns : goal.returns
returns c = let l = c.loop-i in l.invariant ∙ nth_end c.args.b.now l.i l.ahead c.loop-i-test.false
