-- `pen::octets::spread` meets its contract. Assumes nothing.
use mathlib.Core.Path.{◌≡◌, refl, ap, ◌∙◌}
use Prim.Native.Nat.{ℕ, ◌+◌, ◌-◌, ◌*◌, ◌^◌, ◌<◌}
use lib.ListN.{length}
use lib.Seq.{sets}
use Rattle.pen.specs.Inner.{digits}
use Rattle.pen.proofs.Digits.{digits-word, spread-word, sets_all}
use native.Mathlib.Omega.{arith}
use Rattle.pen.proofs.octets.spread.Goals as goal

pub returns-then-n-lt8 : goal.returns-then-n-lt8
returns-then-n-lt8 c =
    let a = c.args in
    let s = a.octets.now in
    c.seven_at_most.ensures ∙ sets_all s (length s) a.w.c refl ∙ digits-word (length s) (a.w.a * 2 ^ 64 + a.w.b) a.w.c (omega arith) (omega arith)

pub returns-then-n-lt16 : goal.returns-then-n-lt16
returns-then-n-lt16 c =
    let a = c.args in
    let s = a.octets.now in
    let n : length s - 8 + 8 ≡ length s = omega arith in
    let h = a.w.a * 2 ^ 64 + a.w.b in
    let d = c.seven_at_most-then-n-lt16.ensures ∙ ap (sets s 0) (digits-word (length s - 8) a.w.a a.w.b (omega arith) (omega arith)) in
    spread-word s c.seven_at_most-then-n-lt16.new.octets c.eight.new.octets (length s - 8) h a.w.c (omega arith) d c.eight.ensures
    ∙ ap (λ (k : ℕ). sets s 0 (digits k (h * 2 ^ 64 + a.w.c))) n ∙ sets_all s (length s) (h * 2 ^ 64 + a.w.c) refl

pub returns : goal.returns
returns c =
    let words_lt' : (c.args.w.b < 2 ^ 64) × (c.args.w.c < 2 ^ 64) = (omega arith, omega arith) in
    let a = c.args in
    let s = a.octets.now in
    let m : length s - 16 + 8 ≡ length s - 8 = omega arith in
    let n : length s - 8 + 8 ≡ length s = omega arith in
    let h = a.w.a * 2 ^ 64 + a.w.b in
    let l = words_lt' in
    let d =
    spread-word s c.seven_at_most-2.new.octets c.eight-2.new.octets (length s - 16) a.w.a a.w.b l.0 c.seven_at_most-2.ensures c.eight-2.ensures
    ∙ ap (λ (k : ℕ). sets s 0 (digits k h)) m in
    spread-word s c.eight-2.new.octets c.eight-3.new.octets (length s - 8) h a.w.c l.1 d c.eight-3.ensures
    ∙ ap (λ (k : ℕ). sets s 0 (digits k (h * 2 ^ 64 + a.w.c))) n ∙ sets_all s (length s) (h * 2 ^ 64 + a.w.c) refl
