-- What a call's writer goes by: its fields, written one behind the other, are its bits. Assumes nothing.
use mathlib.Core.Path.{◌≡◌, refl, sym, ap, ◌∙◌, subst}
use mathlib.Core.List.{List, ◌∷◌, ◌++◌}
use mathlib.Core.Bool.{Bool, true, false}
use mathlib.Core.Logic.{inl, inr}
use Prim.Native.Nat.{ℕ, ◌+◌, ◌*◌, ◌^◌, ◌≤◌, ◌<◌}
use native.Mathlib.Omega.{arith}
use lib.ListN.{length}
use lib.Dec.{leb}
use borrow.Author.Tests.{leb-true}
use Rattle.bits.specs.Field.{both, pick}
use Rattle.bits.proofs.Answers.{both_true}
use Rattle.csn1.specs.Format.{num_bits, row_bits, when_bits, WhenFits, OptFits}
use Rattle.csn1.specs.Grammar.{format}
use Rattle.csn1.specs.Told.{there, is_one, as_bit}
use Rattle.csn1.proofs.Writing.{flag_lt, num-join, led-join, row-led, glued, glued_lt}
use Rattle.call.specs.declared.Call.{Call}
use Rattle.call.specs.declared.Description.{Description}
use Rattle.call.specs.Call.{group_call, description, frequencies, call_value, description_value, frequencies_of}
use Rattle.call.specs.Write.{call_in_range, call_is_low, call_length_right, call_hops_right}
use Rattle.call.proofs.Laws.{widths, when_anywhere, opt_anywhere, frequencies_anywhere, description_anywhere}
use Rattle.call.proofs.Record.{call_fits}
use Rattle.pen.specs.declared.Words.{Words}
use Rattle.pen.specs.Words.{whole, whole_after, put_words, call_head, put_frequencies, put_description, put_call, Adds}
use Rattle.pen.proofs.Numbers.{put_whole}
use Rattle.pen.proofs.Adding.{adds_as, adds_none, adds-number, adds_then}

-- ## Which of two

pub taken : (x y : Words) (t : Bool) → t ≡ true → x ≡ pick t x y
taken x y t e = rw e

pub left : (x y : Words) (t : Bool) → t ≡ false → y ≡ pick t x y
left x y t e = rw e

-- ## The frequencies

-- y is x after the first part was put, and z after the second
module _ (x y z n f : ℕ) where
  pub list_put : (t : Bool) → t ≡ true → y ≡ whole_after x 1 1 → z ≡ whole_after y 64 f → (format frequencies).fits (pick t (inr f) (inl (n, f)))
      → Adds x z ((format frequencies).bits 0 0 (pick t (inr f) (inl (n, f))))
  unfolding num_bits
  list_put false e p q h = absurd (let o : ◌≡◌ {A = ℕ} 0 1 = cc in omega arith)
  list_put true e p q h = adds_then (adds-number 1 1 p (omega arith) (omega arith)) (adds-number 64 f q (omega arith) h)

  pub octets_put : (t : Bool) → t ≡ false → y ≡ whole_after x 9 n → z ≡ whole_after y (8 * n) f → (format frequencies).fits (pick t (inr f) (inl (n, f)))
      → Adds x z ((format frequencies).bits 0 0 (pick t (inr f) (inl (n, f))))
  octets_put true e p q h = absurd (let o : ◌≡◌ {A = ℕ} 0 1 = cc in omega arith)
  octets_put false e p q h =
      let k : n ≤ 8 = leb-true n 8 (both_true (leb 1 n) (leb n 8) h.0.1).1 in
      let l : 0 ∷ num_bits 8 n ≡ num_bits 9 n = led-join 8 0 n (omega arith) (omega arith) ∙ ap (num_bits 9) (omega arith) in
      adds_as (ap (λ (b : List ℕ). b ++ num_bits (8 * n) f) (sym l)) (adds_then (adds-number 9 n p (omega arith) (omega arith)) (adds-number (8 * n) f q (omega arith) h.1))

-- ## The description

-- y is x after the channel and the hopping flag were put
module _ (x y : ℕ) (c : Description) (e : y ≡ whole_after x 25 (c.channel * 2 + as_bit c.hopping)) (h : (format description).fits (description_value c)) where
  channel_put : Adds x y (num_bits 24 c.channel ++ num_bits 1 (as_bit c.hopping))
  channel_put =
      adds_as (num-join 24 1 c.channel (as_bit c.hopping) (flag_lt c.hopping))
      (adds-number 25 (c.channel * 2 + as_bit c.hopping) e (omega arith) (omega (arith, h.0.0.0, flag_lt c.hopping)))

  behind : (z : ℕ) → Adds y z (when_bits (format frequencies) 0 0 (there c.hopping (frequencies_of c))) → Adds x z ((format description).bits 0 0 (description_value c))
  behind z f =
      let b : List ℕ = num_bits 24 c.channel ++ num_bits 1 (as_bit c.hopping) in
      adds_as (ap (λ (l : List ℕ). b ++ l) (sym (when_anywhere (format frequencies) frequencies_anywhere 0 (0 + length b) (there c.hopping (frequencies_of c))))) (adds_then channel_put f)

  pub still_put : c.hopping ≡ false → Adds x y ((format description).bits 0 0 (description_value c))
  still_put f = behind y (rw f adds_none)

  pub hopping_put : c.hopping ≡ true → (z : ℕ) → ((format frequencies).fits (frequencies_of c) → Adds y z ((format frequencies).bits 0 0 (frequencies_of c)))
      → Adds x z ((format description).bits 0 0 (description_value c))
  hopping_put f z g = behind z (rw f (g (fits c.hopping f h.1)))
    where
      fits : (t : Bool) → t ≡ true → WhenFits (is_one (as_bit t)) (format frequencies) (there t (frequencies_of c)) → (format frequencies).fits (frequencies_of c)
      fits false e k = absurd (let o : ◌≡◌ {A = ℕ} 0 1 = cc in omega arith)
      fits true e k = k

-- ## The call

-- y is x after the 36 bits and the flag behind them were put
module _ (x y : ℕ) (c : Call) (e : y ≡ whole_after x 37 (call_head c)) (h : group_call.fits (call_value c)) where
  head-is : call_head c ≡ glued widths (call_value c).0 * 2 + as_bit c.hasDescription
  head-is = omega arith

  head_lt : call_head c < 2 ^ 37
  unfolding group_call
  head_lt = omega (arith, head-is, glued_lt widths (call_value c).0 h.0.0, flag_lt c.hasDescription)

  behind-head : (z : ℕ) → Adds y z (when_bits (format description) 0 0 (there c.hasDescription (description_value c.description))) → Adds x z (group_call.bits 0 0 (call_value c))
  unfolding group_call
  behind-head z f =
      let l = (call_value c).0 in
      let t = c.hasDescription in
      let bs = when_bits (format description) 0 0 (there t (description_value c.description)) in
      let a : num_bits 37 (call_head c) ++ bs ≡ row_bits widths l ++ (as_bit t ∷ bs) = ap (λ (k : ℕ). num_bits 37 k ++ bs) head-is ∙ sym (row-led widths l (as_bit t) bs h.0.0 (flag_lt t)) in
      adds_as (a ∙ ap (λ (b : List ℕ). row_bits widths l ++ b) (opt_anywhere (format description) description_anywhere 0 (0 + length (row_bits widths l)) t (description_value c.description)))
      (adds_then (adds-number 37 (call_head c) e (omega arith) head_lt) f)

  pub plain_put : c.hasDescription ≡ false → Adds x y (group_call.bits 0 0 (call_value c))
  plain_put f = behind-head y (rw f adds_none)

  pub described_put : c.hasDescription ≡ true → (z : ℕ) → ((format description).fits (description_value c.description) → Adds y z ((format description).bits 0 0 (description_value c.description)))
      → Adds x z (group_call.bits 0 0 (call_value c))
  unfolding group_call
  described_put f z g = behind-head z (rw f (g (fits c.hasDescription f h.1)))
    where
      fits : (t : Bool) → t ≡ true → OptFits (format description) (there t (description_value c.description)) → (format description).fits (description_value c.description)
      fits false e k = absurd (let o : ◌≡◌ {A = ℕ} 0 1 = cc in omega arith)
      fits true e k = k

-- ## What `pen::calls::put` leaves

frequencies-adds : (w : Words) (d : Description) → (format frequencies).fits (frequencies_of d) → Adds (whole w) (whole (put_frequencies w d)) ((format frequencies).bits 0 0 (frequencies_of d))
unfolding put_frequencies
frequencies-adds w d = go d.shortlist refl
  where
    x : Words
    x = put_words w 1 1

    y : Words
    y = put_words w 9 d.length

    go : (t : Bool) → d.shortlist ≡ t → (format frequencies).fits (pick t (inr d.frequencies) (inl (d.length, d.frequencies)))
        → Adds (whole w) (whole (pick t (put_words x 64 d.frequencies) (put_words y (8 * d.length) d.frequencies)))
        ((format frequencies).bits 0 0 (pick t (inr d.frequencies) (inl (d.length, d.frequencies))))
    go true e h =
        list_put (whole w) (whole x) (whole (put_words x 64 d.frequencies)) d.length d.frequencies true refl (put_whole w x 1 1 (omega arith) refl)
        (put_whole x (put_words x 64 d.frequencies) 64 d.frequencies (omega arith) refl) h
    go false e h =
        let k : d.length ≤ 8 = leb-true d.length 8 (both_true (leb 1 d.length) (leb d.length 8) h.0.1).1 in
        octets_put (whole w) (whole y) (whole (put_words y (8 * d.length) d.frequencies)) d.length d.frequencies false refl (put_whole w y 9 d.length (omega arith) refl)
        (put_whole y (put_words y (8 * d.length) d.frequencies) (8 * d.length) d.frequencies (omega arith) refl) h

description-adds : (w : Words) (d : Description) → (format description).fits (description_value d) → Adds (whole w) (whole (put_description w d)) ((format description).bits 0 0 (description_value d))
unfolding put_description
description-adds w d h = go d.hopping refl
  where
    x : Words
    x = put_words w 25 (d.channel * 2 + as_bit d.hopping)

    e : whole x ≡ whole_after (whole w) 25 (d.channel * 2 + as_bit d.hopping)
    e = put_whole w x 25 (d.channel * 2 + as_bit d.hopping) (omega arith) refl

    go : (t : Bool) → d.hopping ≡ t → Adds (whole w) (whole (pick t (put_frequencies x d) x)) ((format description).bits 0 0 (description_value d))
    go true f = hopping_put (whole w) (whole x) d e h f (whole (put_frequencies x d)) (frequencies-adds x d)
    go false f = still_put (whole w) (whole x) d e h f

call-adds : (w : Words) (c : Call) → group_call.fits (call_value c) → Adds (whole w) (whole (put_call w c)) (group_call.bits 0 0 (call_value c))
unfolding put_call
call-adds w c h = go c.hasDescription refl
  where
    x : Words
    x = put_words w 37 (call_head c)

    e : whole x ≡ whole_after (whole w) 37 (call_head c)
    e = put_whole w x 37 (call_head c) (omega arith) refl

    go : (t : Bool) → c.hasDescription ≡ t → Adds (whole w) (whole (pick t (put_description x c.description) x)) (group_call.bits 0 0 (call_value c))
    go true f = described_put (whole w) (whole x) c e h f (whole (put_description x c.description)) (description-adds x c.description)
    go false f = plain_put (whole w) (whole x) c e h f

-- r is w after a call was put that fits
pub call-written : (w r : Words) (c : Call) → r ≡ put_call w c → group_call.fits (call_value c) → Adds (whole w) (whole r) (group_call.bits 0 0 (call_value c))
call-written w r c e h = subst (λ (x : Words). Adds (whole w) (whole x) (group_call.bits 0 0 (call_value c))) (sym e) (call-adds w c h)

-- no test refuses the call
pub right-fits : (c : Call) → both (call_in_range c) (both (call_is_low c) (both (call_length_right c) (call_hops_right c))) ≡ true → group_call.fits (call_value c)
right-fits c r =
    let a = both_true (call_in_range c) _ r in
    let b = both_true (call_is_low c) _ a.1 in
    let d = both_true (call_length_right c) (call_hops_right c) b.1 in
    call_fits c a.0 b.0 d.0 d.1
