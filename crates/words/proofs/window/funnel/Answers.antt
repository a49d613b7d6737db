-- `words::window::funnel` meets its contract. Assumes nothing.
use mathlib.Core.Path.{refl}
use Rattle.words.proofs.Windows.{spans, spans_lt}
use native.Mathlib.Omega.{arith}
use Rattle.words.proofs.window.funnel.Goals as goal

pub overflow_add-result : goal.overflow_add-result
overflow_add-result c =
    omega (arith, spans_lt c.args.k c.args.x c.args.y (omega arith) (omega arith))

pub returns : goal.returns
returns c =
    (refl, λ s p e f. spans s p c.args.k c.args.x c.args.y (omega arith) e f)
