-- NOTIFICATION/FACCH as bits: what was written is read back, and what was read is written again. Assumes nothing.
use mathlib.Core.Path.{◌≡◌, sym, ap, ◌∙◌, subst}
use mathlib.Core.List.{List, ◌++◌}
use mathlib.Core.Option.{Option}
use mathlib.Core.Logic.{◌⊎◌}
use Prim.Native.Nat.{ℕ, zero, suc, ◌+◌, ◌*◌, ◌≤◌, ◌<◌}
use native.Mathlib.Omega.{arith}
use lib.ListN.{length, replicate, length-append, length-replicate}
use lib.Dec.{leb}
use borrow.Author.Tests.{leb-true, le-leb}
use Rattle.bits.specs.Field.{pick, both, bit}
use Rattle.csn1.specs.Format.{Format, num_bits, ok, no_refusal, pad_bit, Holds, Binary}
use Rattle.csn1.specs.Grammar.{◌and◌, one_of, later, format}
use Rattle.bits.proofs.Answers.{both_true}
use Rattle.csn1.proofs.Holding.{length-num_bits, length_put, bit_put_above, holds_put, holds-left, holds-right, holds_same}
use Rattle.csn1.proofs.Promises.{round}
use Rattle.csn1.proofs.Putting.{padding_bit}
use Rattle.csn1.proofs.Telling.{picked, handed_on}
use Rattle.call.specs.Call.{CallValue, call_grammar}
use Rattle.facch.specs.declared.Notification.{Notification}
use Rattle.facch.specs.Message.{PagingValue, paging, Release6Value, release6, Release7Value, release7, Value, notification}
use Rattle.facch.specs.Told.{record_of, read_of}
use Rattle.facch.specs.Back.{value_of}
use Rattle.facch.specs.Promises.{StandsThere}
use Rattle.facch.proofs.Promises.{notification-lawful, every_reading_stands_in_the_octets}
use Rattle.facch.proofs.Back.{a_record_tells_its_message}
use Rattle.facch.proofs.Clips.{accepted}
use Rattle.facch_write.specs.Write.{record_refusal, form, form_fits, write_number, written}
use Rattle.facch_write.proofs.Records.{Right, one_more, right, right-all, record_fits, record_back, value-right}

-- ## What was written

pub length-written : (m : Notification) (n : ℕ) → length (written m n) ≡ n
unfolding written
length-written m n = length_put (replicate n 43) 0 (form m n) ∙ length-replicate {A = ℕ} n 43

form-binary : (m : Notification) (n : ℕ) → Binary (form m n)
unfolding form
form-binary m n = notification-lawful.binary (n * 8) 0 (value_of 0 m)

-- the form stands at the start of what was written
written-holds : (m : Notification) (n : ℕ) → length (form m n) ≤ n * 8 → Holds (written m n) 0 (form m n)
unfolding written
written-holds m n h = holds_put (replicate n 43) 0 (form m n) (form-binary m n) (omega (arith, length-replicate {A = ℕ} n 43))

-- and padding behind it
pub written_padding : (m : Notification) (n k : ℕ) → length (form m n) ≤ k → k < n * 8 → bit (written m n) k ≡ pad_bit k
unfolding written
written_padding m n k h l = bit_put_above (replicate n 43) 0 (form m n) k (form-binary m n) (omega arith) ∙ padding_bit n k l

-- what the writer accepts: what is right, where the size is and the form has room
pub record WrittenSo (m : Notification) (n : ℕ) : Type 0 where
  pub right : Right m
  pub two : 2 ≤ n
  pub most : n ≤ 23
  pub room : length (form m n) ≤ n * 8

pub was_accepted : (m : Notification) (n : ℕ) → write_number m n ≡ 0 → WrittenSo m n
was_accepted m n e =
    let a = handed_on (record_refusal m) (pick (form_fits m n) 0 11) (sym (one_more m n) ∙ e) in
    let b = picked (form_fits m n) 0 11 (omega arith) a.1 in
    let c = both_true (both (leb 2 n) (leb n 23)) (leb (length (form m n)) (n * 8)) b.0 in
    let d = both_true (leb 2 n) (leb n 23) c.0 in
    record { right = right m a.0; two = leb-true 2 n d.0; most = leb-true n 23 d.1; room = leb-true (length (form m n)) (n * 8) c.1 }

pub accepting : (m : Notification) (n : ℕ) → WrittenSo m n → write_number m n ≡ 0
accepting m n t =
    one_more m n ∙ rw (right-all m t.right, le-leb 2 n t.two, le-leb n 23 t.most, le-leb (length (form m n)) (n * 8) t.room)

module _ (m : Notification) (n : ℕ) (t : WrittenSo m n) where
  form-read : notification.read (written m n) 0 ≡ ok (value_of 0 m) (length (form m n))
  unfolding written form
  form-read =
      round notification notification-lawful (replicate n 43) 0 (value_of 0 m) (n * 8) (ap (λ (k : ℕ). k * 8) (length-replicate {A = ℕ} n 43)) (record_fits m t.right)
      (omega (arith, t.room))
      ∙ ap (λ (q : ℕ). ok (value_of 0 m) q) (omega arith)

  pub written_read : read_of (written m n) ≡ record { refusal = no_refusal; used = length (form m n); «record» = m }
  written_read =
      rw (length-written m n, le-leb 2 n t.two, le-leb n 23 t.most, form-read)
      (λ i. record { refusal = no_refusal; used = length (form m n); «record» = record_back m t.right i })

-- ## The first octet, and what stands behind it

-- all but the first octet
abbrev content : Format ((CallValue ⊎ PagingValue) × (Option Release6Value × Option Release7Value))
content = format (one_of call_grammar paging and later release6 and later release7)

eight : (x : ℕ) → 0 + length (num_bits 8 x) ≡ 8
eight x = omega (arith, length-num_bits 8 x)

module _ (c : (CallValue ⊎ PagingValue) × (Option Release6Value × Option Release7Value)) (n : ℕ) where
  split : (x : ℕ) → notification.bits n 0 (x, c) ≡ num_bits 8 x ++ content.bits n 8 c
  unfolding notification
  split x = ap (λ (k : ℕ). num_bits 8 x ++ content.bits n k c) (eight x)

  -- it is as long whatever stands in its first octet
  as_long : (x y : ℕ) → length (notification.bits n 0 (x, c)) ≡ length (notification.bits n 0 (y, c))
  as_long x y =
      ap length (split x) ∙ length-append (num_bits 8 x) (content.bits n 8 c)
      ∙ omega (arith, length-num_bits 8 x, length-num_bits 8 y, length-append (num_bits 8 y) (content.bits n 8 c), ap length (split y))

  behind : (s : List ℕ) (x : ℕ) → Holds s 0 (notification.bits n 0 (x, c)) → Holds s 8 (content.bits n 8 c)
  behind s x h =
      subst (λ (p : ℕ). Holds s p (content.bits n 8 c)) (eight x)
      (holds-right s 0 (num_bits 8 x) (content.bits n 8 c) (subst (Holds s 0) (split x) h))

zeros : (s : List ℕ) → Holds s 0 (num_bits 8 0) → (k : ℕ) → k < 8 → bit s k ≡ 0
unfolding num_bits
zeros s h zero l = h.0
zeros s h (suc zero) l = h.1.0
zeros s h (suc (suc zero)) l = h.1.1.0
zeros s h (suc (suc (suc zero))) l = h.1.1.1.0
zeros s h (suc (suc (suc (suc zero)))) l = h.1.1.1.1.0
zeros s h (suc (suc (suc (suc (suc zero))))) l = h.1.1.1.1.1.0
zeros s h (suc (suc (suc (suc (suc (suc zero)))))) l = h.1.1.1.1.1.1.0
zeros s h (suc (suc (suc (suc (suc (suc (suc zero))))))) l = h.1.1.1.1.1.1.1.0
zeros s h (suc (suc (suc (suc (suc (suc (suc (suc k)))))))) l = absurd (omega arith)

-- ## What was read

module _ (s : List ℕ) (z : (read_of s).refusal.number ≡ 0) where
  stands : StandsThere s
  stands = every_reading_stands_in_the_octets s z

  abbrev told : Notification
  told = (read_of s).«record»

  pub again-used : (read_of s).used ≡ length (form told (length s))
  unfolding form
  again-used = stands.stands.next ∙ omega (arith, as_long (value_of 0 told).1 (length s * 8) stands.first 0)

  pub again : WrittenSo told (length s)
  again =
      record {
        right = subst Right stands.told (value-right (value_of stands.first told) stands.stands.fitting);
        two = (accepted s z).fits.0;
        most = (accepted s z).fits.1;
        room = omega (arith, again-used, stands.stands.within);
      }

  -- the form, as it was written
  form-holds : Holds (written told (length s)) 0 (notification.bits (length s * 8) 0 (value_of 0 told))
  unfolding form
  form-holds = written-holds told (length s) again.room

  pub again-first : (k : ℕ) → k < 8 → bit (written told (length s)) k ≡ 0
  again-first =
      let c = (value_of 0 told).1 in
      zeros (written told (length s))
      (holds-left (written told (length s)) 0 (num_bits 8 0) (content.bits (length s * 8) 8 c) (subst (Holds (written told (length s)) 0) (split c (length s * 8) 0) form-holds))

  pub again-same : (k : ℕ) → 8 ≤ k → k < (read_of s).used → bit (written told (length s)) k ≡ bit s k
  again-same k h l =
      let c = (value_of 0 told).1 in
      let n = length s * 8 in
      let x = stands.first in
      holds_same (written told (length s)) s 8 (content.bits n 8 c) (behind c n (written told (length s)) 0 form-holds) (behind c n s x stands.stands.holds) k h
      (omega (arith, stands.stands.next, ap length (split c n x), length-append (num_bits 8 x) (content.bits n 8 c), length-num_bits 8 x))

-- ## What the grammar says

pub message-written : (v : Value) (n : ℕ) → notification.fits v → 2 ≤ n → n ≤ 23 → length (notification.bits (n * 8) 0 v) ≤ n * 8 → WrittenSo (record_of v) n
unfolding form
message-written v n f two most h =
    let e : length (notification.bits (n * 8) 0 (value_of v.0 (record_of v))) ≡ length (notification.bits (n * 8) 0 v) =
    ap (λ (w : Value). length (notification.bits (n * 8) 0 w)) (a_record_tells_its_message v f) in
    record { right = value-right v f; two = two; most = most; room = omega (arith, as_long (value_of 0 (record_of v)).1 (n * 8) 0 v.0) }
