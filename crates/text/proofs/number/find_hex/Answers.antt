-- `text::number::find_hex` meets its contract. Assumes nothing.
use Rattle.std.proofs.Common.{arith, rules, ℕ, min, ap, subst, ◌∙◌}
use Rattle.std.proofs.lemmas.Slice.{overwrites}
use Rattle.text.specs.Inner.{IsDigitCount}
use Rattle.text.proofs.Powers.{digit_count_le, prefix}
use Rattle.text.proofs.number.find_hex.Goals as goal

pub slice_bounds-put_digits-end : goal.slice_bounds-put_digits-end
slice_bounds-put_digits-end c = omega (arith, digit_count_le 16 c.min.result c.args.n c.digit_count-k.result 16 (omega arith) c.digit_count-k.ensures (omega arith) (omega arith))

pub returns : goal.returns
returns c =
    let h = digit_count_le 16 c.min.result c.args.n c.digit_count-k.result 16 (omega arith) c.digit_count-k.ensures (omega arith) (omega arith) in
    let e = c.min.ensures ∙ ap (λ (m : ℕ). min m 16) c.max.ensures in
    (prefix _ _ (search (rules, overwrites)), (subst (λ (least : ℕ). IsDigitCount 16 least c.args.n c.digit_count-k.result) e c.digit_count-k.ensures, search (rules, overwrites)))
