-- `pen::calls::put_description` meets its contract. Assumes nothing.
use mathlib.Core.Path.{ap, ◌∙◌}
use Prim.Native.Nat.{ℕ, ◌+◌, ◌*◌}
use Rattle.csn1.proofs.Writing.{flag_byte}
use Rattle.pen.specs.declared.Words.{Words}
use Rattle.pen.proofs.CallBits.{taken, left}
use Rattle.pen.specs.Words.{put_words, put_frequencies, put_description}
use Rattle.csn1.proofs.Writing.{byte_lt}
use native.Mathlib.Omega.{arith}
use Rattle.pen.proofs.calls.put_description.Goals as goal

pub overflow_add-d : goal.overflow_add-d
overflow_add-d c =
    omega (arith, byte_lt c.args.d.hopping)

pub returns-then-d : goal.returns-then-d
unfolding put_description
returns-then-d c =
    let a = c.args in
    let e = c.put-channel.ensures ∙ ap (λ (k : ℕ). put_words a.w 25 (a.d.channel * 2 + k)) (flag_byte a.d.hopping) in
    c.put_frequencies.ensures ∙ ap (λ (t : Words). put_frequencies t a.d) e ∙ taken _ _ a.d.hopping c.if-d.true

pub returns : goal.returns
unfolding put_description
returns c =
    let a = c.args in
    c.put-channel.ensures ∙ ap (λ (k : ℕ). put_words a.w 25 (a.d.channel * 2 + k)) (flag_byte a.d.hopping) ∙ left _ _ a.d.hopping c.if-d.false
