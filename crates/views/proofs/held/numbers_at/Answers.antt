-- `views::held::numbers_at` meets its contract. Assumes nothing.
use mathlib.Core.Path.{◌≡◌, ap, ◌∙◌}
use mathlib.Core.Bool.{true}
use Prim.Native.Nat.{ℕ, ◌<◌}
use native.Mathlib.Omega.{arith}
use Rattle.receiver.specs.Channels.{key_count, places}
use Rattle.receiver.specs.Model.{is_held}
use Rattle.layout.specs.Layout.{key_no, slot_no, decode_of}
use Rattle.views.specs.Held.{held_numbers}
use Rattle.layout.proofs.States.{at_one, at_place}
use Rattle.views.proofs.Holding.{numbers-held}
use Rattle.views.proofs.held.numbers_at.Goals as goal

pub returns : goal.returns
returns c =
    let b = c.args.b.now in
    let e = c.from-i.ensures in
    let i = c.from-i.result in
    let whole = c.requires.0 in
    let low : i < places = omega (arith, e, c.requires.1.0) in
    let held : is_held (slot_no b i) ≡ true = ap (λ (k : ℕ). is_held (slot_no b k)) e ∙ c.requires.1.1 in
    let x = c.index_in.ensures in
    numbers-held b i held low _ _ _ _ _ _
    (c.from-key.ensures ∙ c.key_at.ensures ∙ at_one b key_count c.index_in.result _ _ whole (omega (arith, x, low)) ∙ ap (key_no b) x) c.side_of-channel.ensures
    (c.from-half.ensures ∙ c.half_at.ensures ∙ at_place b i _ _ whole low) (c.from-left.ensures ∙ c.left_at.ensures ∙ at_place b i _ _ whole low)
    (c.held_at-record.ensures ∙ at_place b i _ _ whole low) c.held_numbers.ensures
    ∙ ap (λ (k : ℕ). held_numbers (decode_of b) (k, slot_no b k)) e
