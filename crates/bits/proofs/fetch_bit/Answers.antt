-- `bits::fetch_bit` meets its contract. Assumes nothing.
use mathlib.Core.Path.{sym, ap, ◌∙◌}
use Prim.Native.Nat.{ℕ, ◌-◌, ◌/◌, ◌%◌, ◌^◌}
use Rattle.bits.proofs.Laws.{field-one}
use Rattle.bits.proofs.Answers.{fetched-here, fetched-gone}
use native.Mathlib.Omega.{arith}
use Rattle.bits.proofs.fetch_bit.Goals as goal

pub returns-then-i-s : goal.returns-then-i-s
returns-then-i-s c =
    let a = c.args in
    let s = a.s.now in
    fetched-here s a.at 1 _ (omega arith) (omega arith) (ap (λ (x : ℕ). x / 2 ^ (7 - a.at % 8) % 2) c.wide.ensures ∙ sym (field-one s a.at))

pub returns : goal.returns
returns c =
    let a = c.args in
    fetched-gone a.s.now a.at 1 (omega arith)
