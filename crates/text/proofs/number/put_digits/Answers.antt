-- `text::number::put_digits` meets its contract. Assumes nothing.
use native.Mathlib.Omega.{arith}
use mathlib.Core.Path.{◌≡◌, refl, sym, ap, ◌∙◌}
use mathlib.Core.List.{List, [], ◌∷◌, ◌++◌, append-nil}
use Prim.Native.Nat.{ℕ, zero, suc, ◌-◌, ◌/◌, ◌%◌, ◌≤◌, ◌<◌}
use lib.ListN.{length, drop, set}
use lib.Seq.{append_snoc, drop-length}
use native.Mathlib.Nat.{le_of_suc-le-suc, not-suc-le-zero}
use native.Mathlib.Numerals.{sub-one}
use Rattle.text.specs.Digits.{hex_digit_ascii}
use Rattle.text.specs.Inner.{last_digits}
use Rattle.text.proofs.number.put_digits.Goals as goal

-- after a store at j, the list from j on begins with what was stored
drop-set : (t : List ℕ) (j g : ℕ) → j < length t → drop j (set t j g) ≡ g ∷ drop (suc j) t
drop-set [] j g h = absurd (not-suc-le-zero h)
drop-set (x ∷ xs) zero g h = refl
drop-set (x ∷ xs) (suc j) g h = drop-set xs j g (le_of_suc-le-suc h)

-- a turn moves the last of the digits that are still to write to the front of those that are written
digits_step : (b i rest g : ℕ) (out : List ℕ) → 0 < i → i ≤ length out → g ≡ hex_digit_ascii (rest % b)
    → last_digits b (i - 1) (rest / b) ++ drop (i - 1) (set out (i - 1) g) ≡ last_digits b i rest ++ drop i out
digits_step b zero rest g out some h e = absurd (not-suc-le-zero some)
digits_step b (suc j) rest g out some h e =
    let todo = last_digits b j (rest / b) in
    ap (λ (m : ℕ). last_digits b m (rest / b) ++ drop m (set out m g)) (sub-one (suc j))
    ∙ ap (λ (l : List ℕ). todo ++ l) (drop-set out j g h)
    ∙ ap (λ (x : ℕ). todo ++ x ∷ drop (suc j) out) e
    ∙ sym (append_snoc todo (hex_digit_ascii (rest % b)) (drop (suc j) out))

pub loop-i-init : goal.loop-i-init
loop-i-init c =
    let a = c.args in
    let all = last_digits a.base (length a.digits.now) a.n in
    ap (λ (l : List ℕ). all ++ l) (drop-length a.digits.now) ∙ append-nil all

pub loop-i-preserved : goal.loop-i-preserved
loop-i-preserved c =
    let l = c.loop-i in
    digits_step c.args.base l.i l.rest c.glyph.result l.digits c.loop-i-test.true (omega arith) c.glyph.ensures ∙ l.invariant

pub returns : goal.returns
returns c =
    let l = c.loop-i in
    let e : l.i ≡ 0 = omega arith in
    rw e at l.invariant
