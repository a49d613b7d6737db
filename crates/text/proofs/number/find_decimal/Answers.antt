-- `text::number::find_decimal` meets its contract. Assumes nothing.
use Rattle.std.proofs.Common.{arith, rules}
use Rattle.std.proofs.lemmas.Slice.{overwrites}
use Rattle.text.proofs.Powers.{digit_count_le, prefix}
use Rattle.text.proofs.number.find_decimal.Goals as goal

pub slice_bounds-put_digits-end : goal.slice_bounds-put_digits-end
slice_bounds-put_digits-end c = omega (arith, digit_count_le 10 1 c.args.n c.digit_count-k.result 20 (omega arith) c.digit_count-k.ensures (omega arith) (omega arith))

pub returns : goal.returns
returns c =
    let h = digit_count_le 10 1 c.args.n c.digit_count-k.result 20 (omega arith) c.digit_count-k.ensures (omega arith) (omega arith) in
    (prefix _ _ (search (rules, overwrites)), (c.digit_count-k.ensures, search (rules, overwrites)))
