-- What is read of any octets fits the fields of a FACCH record, and its record is read back from its numbers. Assumes nothing.
use mathlib.Core.Path.{◌≡◌, refl}
use mathlib.Core.List.{List, [], ◌∷◌, ◌++◌}
use mathlib.Core.Bool.{Bool, true, false}
use Prim.Native.Nat.{ℕ, ◌-◌, ◌*◌, ◌^◌}
use native.Mathlib.Omega.{arith}
use lib.ListN.{get_or}
use lib.Pow.{pow_mono}
use borrow.Author.Tests.{le-leb}
use Rattle.bits.specs.Field.{both, pick}
use Rattle.bits.proofs.Answers.{both_true}
use Rattle.csn1.specs.Told.{as_bit}
use Rattle.arrays.specs.Limits.{within, flag}
use Rattle.arrays.proofs.Within.{Held, held-append}
use Rattle.call.specs.declared.Call.{Call}
use Rattle.call.specs.Call.{no_call}
use Rattle.call.specs.Write.{call_in_range, call_is_zero, call_length_right}
use Rattle.call.proofs.Record.{zero_is}
use Rattle.facch.specs.declared.Page.{Page}
use Rattle.facch.specs.declared.Release6.{Release6}
use Rattle.facch.specs.declared.Release7.{Release7}
use Rattle.facch.specs.declared.Notification.{Notification}
use Rattle.facch.specs.Message.{one_to_nine}
use Rattle.facch.specs.Told.{no_page, read_of}
use Rattle.facch_write.specs.Write.{page_in_range, page_is_zero, notified_in_range, release6_in_range}
use Rattle.facch_write.proofs.Records.{nine, right_page, octets-right, zero_page, right6, Right}
use Rattle.facch_write.proofs.Round.{again}
use Rattle.nch.specs.CallNumbers.{call_numbers, call_most}
use Rattle.nch.proofs.Lengths.{length-call}
use Rattle.nch.proofs.InLimits.{bit-low, call-within, flag_small}
use Rattle.numbers.specs.FacchNumbers.{page_numbers, release6_numbers, release7_numbers, numbers_of, read_numbers, record_from, page_most, release6_most, release7_most, most, fields_hold}
use Rattle.numbers.proofs.FacchBack.{a_facch_record_is_its_numbers}

-- ## The parts

page_within : (p : Page) → page_in_range p ≡ true → one_to_nine p.identityLength ≡ true → within (page_numbers p) page_most ≡ true
unfolding within
page_within p e o =
    let t = right_page p e in
    let k = nine p.identityLength o in
    let q = octets-right p.identityLength p.identityFirst p.identityRest t.identity k.0 in
    let x = flag_small p.hasPriority p.priority 8 t.priority (omega arith) in
    rw (
      le-leb p.identityLength 255 (omega (arith, k.1)),
      le-leb p.identityFirst 255 (omega (arith, q.0)),
      le-leb p.identityRest 18446744073709551615 (omega (arith, q.1, pow_mono {i = 8 * (p.identityLength - 1)} {j = 64} (omega (arith, k.1)))),
      le-leb p.channelFirst 255 (omega (arith, t.channel)),
      bit-low p.hasPriority,
      le-leb p.priority 255 (omega arith),
    )

six-within : (r : Release6) → release6_in_range r ≡ true → within (release6_numbers r) release6_most ≡ true
unfolding within
six-within r e =
    let t = right6 r e in
    let x = flag_small r.hasCount r.cellcount 4 t.count (omega arith) in
    let y = flag_small r.hasRandom r.rand (2 ^ 36) t.rand (omega arith) in
    rw (
      bit-low r.hasRelease,
      bit-low r.hasCount,
      le-leb r.cellcount 255 (omega arith),
      bit-low r.b22,
      bit-low r.hasRandom,
      le-leb r.rand 18446744073709551615 (omega arith),
    )

seven-within : (r : Release7) → within (release7_numbers r) release7_most ≡ true
unfolding within
seven-within r = rw (bit-low r.hasRelease, bit-low r.uplink, bit-low r.emergency, bit-low r.hasCause, bit-low r.cause)

-- of a call and a page the one that is not notified is zero
no_call-within : within (call_numbers no_call) call_most ≡ true
unfolding within call_numbers
no_call-within = refl

no_page-within : within (page_numbers no_page) page_most ≡ true
unfolding within
no_page-within = refl

module _ (c : Call) (p : Page) (l : call_length_right c ≡ true) where
  both-within : (b : Bool) → pick b (both (call_is_zero c) (page_in_range p)) (both (call_in_range c) (page_is_zero p)) ≡ true → pick b (one_to_nine p.identityLength) true ≡ true
      → (within (call_numbers c) call_most ≡ true) × (within (page_numbers p) page_most ≡ true)
  both-within true e o =
      let a = both_true (call_is_zero c) (page_in_range p) e in
      (rw (zero_is c a.0) no_call-within, page_within p a.1 o)
  both-within false e o =
      let a = both_true (call_in_range c) (page_is_zero p) e in
      (call-within c a.0 l, rw (← zero_page p a.1) no_page-within)

-- ## The whole

all_held : (m : Notification) → Right m → Held (numbers_of m) most
unfolding numbers_of most within notified_in_range
all_held m t =
    let b = both-within m.call m.page t.lengths m.paging t.notified t.identity in
    let head : List ℕ = as_bit m.paging ∷ [] in
    let call = call_numbers m.call in
    let page = page_numbers m.page in
    let six = release6_numbers m.release6 in
    held-append (head ++ call ++ page ++ six) ((flag ∷ []) ++ call_most ++ page_most ++ release6_most) (release7_numbers m.release7) release7_most
    (held-append (head ++ call ++ page) ((flag ∷ []) ++ call_most ++ page_most) six release6_most
    (held-append (head ++ call) ((flag ∷ []) ++ call_most) page page_most
    (held-append head (flag ∷ []) call call_most (refl, rw (bit-low m.paging)) (length-call m.call, b.0))
    (refl, b.1))
    (refl, six-within m.release6 t.six))
    (refl, seven-within m.release7)

-- ## What was read

pub read_held : (s : List ℕ) → (read_of s).refusal.number ≡ 0 → fields_hold (read_numbers s) ≡ true
unfolding read_numbers
read_held s z = (all_held (read_of s).«record» (again s z).right).1

pub record_read : (s : List ℕ) → record_from (read_numbers s) ≡ (read_of s).«record»
unfolding read_numbers
record_read s = a_facch_record_is_its_numbers (read_of s).«record» (read_of s).used

pub used-read : (s : List ℕ) → get_or (read_numbers s) 0 0 ≡ (read_of s).used
unfolding read_numbers
used-read s = refl
