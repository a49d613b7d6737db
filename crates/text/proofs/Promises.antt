-- The promises of specs/Promises. Assumes nothing.
use mathlib.Core.Path.{refl, sym}
use native.Mathlib.Omega.{arith}
use Rattle.text.specs.Lines.{full, with_behind}
use Rattle.text.specs.Promises.{ADecimalNumberIsReadBack, AHexadecimalNumberIsReadBack, NoNumberAboveZeroBeginsWithZero, TwentyOctetsHoldANumber, AFullLineStaysFull, ALineWithoutAPlaceStaysFull}
use Rattle.text.proofs.Lines.{added_not}
use Rattle.text.proofs.Numerals.{worth-numeral, first-numeral, length-numeral}

pub a_decimal_number_is_read_back : ADecimalNumberIsReadBack
a_decimal_number_is_read_back n h = worth-numeral 10 (omega arith) (omega arith) 20 0 n (omega arith)

pub a_hexadecimal_number_is_read_back : AHexadecimalNumberIsReadBack
a_hexadecimal_number_is_read_back least n h = worth-numeral 16 (omega arith) (omega arith) 16 least n (omega arith)

pub no_number_above_zero_begins_with_zero : NoNumberAboveZeroBeginsWithZero
no_number_above_zero_begins_with_zero n p h = first-numeral 10 (omega arith) 20 n p (omega arith)

pub twenty_octets_hold_a_number : TwentyOctetsHoldANumber
twenty_octets_hold_a_number n = length-numeral 10 20 0 n

pub a_full_line_stays_full : AFullLineStaysFull
a_full_line_stays_full s l h = sym (added_not l s full (omega arith))

pub a_line_without_a_place_stays_full : ALineWithoutAPlaceStaysFull
unfolding with_behind
a_line_without_a_place_stays_full s l = refl
