-- Where bits ran out in NT/N Rest Octets, from the theorems over all grammars. Assumes nothing.
use mathlib.Core.Path.{◌≡◌, refl}
use mathlib.Core.List.{List}
use mathlib.Core.Bool.{Bool, true, false}
use Prim.Native.Nat.{ℕ, ◌/◌, ◌%◌}
use native.Mathlib.Omega.{arith}
use lib.ListN.{length}
use lib.Dec.{eqb}
use borrow.Author.Tests.{eqb-true}
use Rattle.bits.specs.Field.{bit, field, pick}
use Rattle.csn1.specs.Format.{Res, ok, bad, no_refusal, ground, ran_out, renumbered, pad_bit, read_items}
use Rattle.csn1.specs.Grammar.{number, ◌and◌, flagged, listed, refuse, format}
use Rattle.csn1.specs.Clip.{Outside}
use Rattle.csn1.specs.Told.{code_of}
use Rattle.csn1.proofs.Numbers.{untested, the_number_says_the_release as says}
use Rattle.csn1.proofs.Messages.{Why, by_grammar, by_length, not_refused, clip_in, clip-refused, no_place, none-refused, result_tells}
use Rattle.call.specs.Call.{call_grammar, group_call}
use Rattle.call.proofs.Numbering.{call-outside}
use Rattle.nch.specs.Octets.{Value, reduced, random, amr, sms_bits, rest_parts, randoms_fit, marks_fit, rest_octets, notification}
use Rattle.nch.specs.Told.{reading_of, read_of}
use Rattle.nch.specs.Promises.{AClipIsToldWhereItIs, TheNumberSaysTheRelease, TheListedClipsAreToldSo}
use Rattle.nch.proofs.Numbering.{parts-numbered, octets-numbered}

why : (s : List ℕ) → Why rest_octets (length s ≡ 20) s (read_of s).refusal
unfolding notification
why s = go (eqb (length s) 20) refl (notification.read s 0) refl
  where
    go : (b : Bool) → eqb (length s) 20 ≡ b → (x : Res Value) → notification.read s 0 ≡ x
        → Why rest_octets (length s ≡ 20) s (reading_of (pick b x (bad (ground 1)))).refusal
    go true e (ok v q) x = not_refused refl
    go true e (bad r) x = by_grammar (eqb-true (length s) 20 e) x
    go false e x y = by_length refl

pub a_clip_is_told_where_it_is : AClipIsToldWhereItIs
a_clip_is_told_where_it_is s =
    (clip_in rest_octets octets-numbered (length s ≡ 20) s (read_of s).refusal (why s), no_place rest_octets octets-numbered (length s ≡ 20) s (read_of s).refusal (why s))

-- number 0 is no refusal
pub not_refused-at-all : (s : List ℕ) → (read_of s).refusal.number ≡ 0 → (read_of s).refusal ≡ no_refusal
not_refused-at-all s z = none-refused rest_octets octets-numbered (length s ≡ 20) s (read_of s).refusal (why s) z

-- what a C function returns tells number and bit
pub told_by_result : (s : List ℕ) → (code_of (read_of s).refusal % 256 ≡ (read_of s).refusal.number) × (code_of (read_of s).refusal / 256 ≡ (read_of s).refusal.bit)
told_by_result s = result_tells rest_octets octets-numbered (length s ≡ 20) s (read_of s).refusal (λ l. omega arith) (why s)

outside : Outside (flagged (number 2) and listed call_grammar and (flagged (number 2) and listed reduced and listed random) and listed (number 1) and flagged
    (number 1) and flagged amr and flagged sms_bits)
unfolding Outside
outside = (tt, (call-outside, ((tt, (tt, (tt, tt))), (tt, (tt, ((tt, tt), (tt, tt)))))))

pub the_number_says_the_release : TheNumberSaysTheRelease
the_number_says_the_release s c =
    let e = clip-refused rest_octets octets-numbered (length s ≡ 20) s (read_of s).refusal (why s) c in
    let f = untested marks_fit 7 (format (refuse 6 randoms_fit rest_parts)) refl s 0 (read_of s).refusal e c in
    let g = untested randoms_fit 6 (format rest_parts) refl s 0 (read_of s).refusal f c in
    says _ _ _ _ (flagged (number 2)) (listed call_grammar) (flagged (number 2) and listed reduced and listed random)
    (listed (number 1) and flagged (number 1) and flagged amr and flagged sms_bits) parts-numbered outside s 0 (read_of s).refusal (omega arith) g c

-- ## Listed clips

pub the_listed_clips_are_told_so : TheListedClipsAreToldSo
unfolding notification group_call read_items field bit pad_bit ran_out renumbered
the_listed_clips_are_told_so = refl
