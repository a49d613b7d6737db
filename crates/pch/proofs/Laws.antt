-- What the tests of an entry say together: which entries fit their fields, and what is answered. Assumes nothing.
use mathlib.Core.Path.{◌≡◌, refl}
use mathlib.Core.List.{List}
use mathlib.Core.Bool.{Bool, true, false, not}
use Prim.Native.Nat.{ℕ, ◌/◌, ◌^◌, ◌≤◌, ◌<◌}
use native.Mathlib.Omega.{arith}
use lib.Dec.{leb, ltb, eqb}
use borrow.Author.Tests.{leb-true, ltb-true, ltb-false, eqb-true, ne_eqb}
use Rattle.bits.specs.Field.{both, pick}
use Rattle.bits.proofs.Answers.{both_true}
use Rattle.csn1.specs.Told.{as_bit}
use Rattle.call.specs.declared.Call.{Call}
use Rattle.call.specs.Call.{one_to_eight, ciphered}
use Rattle.call.specs.Write.{call_in_range, head_in_range, frequencies_in_range}
use Rattle.pch.specs.Entry.{key_at, ciphered_at, full_at, reference_at, described_at, length_at, number_at, is_set, allocates, description_in}
use Rattle.pch.specs.Entry.{full_call, reduced_call, call_in, entry_in, last_key, length_right, flags_right, reference_right, numbers_right, in_range}
use Rattle.pch.specs.Inner.{sound, Fits}

-- ## A mark and a flag that must say the same

pub as_marked : (m : Bool) → m ≡ eqb (as_bit m) 1
as_marked true = refl
as_marked false = refl

pub as_unmarked : (m : Bool) → not m ≡ eqb (as_bit m) 0
as_unmarked true = refl
as_unmarked false = refl

-- ## What fits

full-head : (full same rest bare : Bool) → pick full (both same rest) bare ≡ true → full ≡ true → same ≡ true
full-head true same rest bare e f = (both_true same rest e).0
full-head false same rest bare e f = cc

short-length : (a : Bool) (n : ℕ) → pick a (one_to_eight n) true ≡ true → pick a n 0 ≤ 8
short-length true n e = leb-true n 8 (both_true (leb 1 n) (leb n 8) e).1
short-length false n e = omega arith

-- a full reference is below 2 ^ 36, since its first 28 bits are a key
head-fits : (ns : List ℕ) → number_at ns key_at ≤ last_key → reference_right ns ≡ true → is_set ns full_at ≡ true → number_at ns reference_at < 2 ^ 36
unfolding reference_right
head-fits ns k r f =
    let same = full-head (is_set ns full_at) (eqb (number_at ns reference_at / 2 ^ 8) (number_at ns key_at))
    (eqb (as_bit (ciphered (full_call ns))) (as_bit (is_set ns ciphered_at))) (not (is_set ns described_at)) r f in
    let e : number_at ns reference_at / 256 ≡ number_at ns key_at = eqb-true (number_at ns reference_at / 256) (number_at ns key_at) same in
    omega (arith, k, e)

pub fits : (ns : List ℕ) → number_at ns key_at ≤ last_key → length_right ns ≡ true → sound ns ≡ true → Fits ns
unfolding length_right numbers_right
fits ns k l s =
    let a = (both_true (flags_right ns) (both (reference_right ns) (both (numbers_right ns) (ltb (description_in ns).channel (2 ^ 24)))) s).1 in
    let b = both_true (reference_right ns) (both (numbers_right ns) (ltb (description_in ns).channel (2 ^ 24))) a in
    let d = both_true (numbers_right ns) (ltb (description_in ns).channel (2 ^ 24)) b.1 in
    record {
      key = k;
      head = head-fits ns k b.0;
      channel = ltb-true (description_in ns).channel (2 ^ 24) d.1;
      octets = short-length (allocates ns) (number_at ns length_at) l;
      cellcount = ltb-true (entry_in ns).cellcount 4 (both_true (ltb (entry_in ns).rand (2 ^ 36)) (ltb (entry_in ns).cellcount 4) d.0).1;
    }

-- ## The test of the range in two steps

description-same : (ns : List ℕ) (f : Bool) → (pick f (full_call ns) (reduced_call ns)).description ≡ description_in ns
description-same ns true = refl
description-same ns false = refl

none_right : (h d u v : Bool) → both h (pick d (both false u) (both false v)) ≡ false
none_right true true u v = refl
none_right true false u v = refl
none_right false d u v = refl

-- a channel of more than 24 bits is in no call that may be written
wide-channel : (c : Call) → ltb c.description.channel (2 ^ 24) ≡ false → call_in_range c ≡ false
unfolding call_in_range
wide-channel c w =
    let d = c.description in
    let over : 2 ^ 24 ≤ d.channel = ltb-false d.channel (2 ^ 24) w in
    rw (w, ne_eqb d.channel 0 (λ e. omega (arith, over, e)))
    (none_right (head_in_range c) c.hasDescription (frequencies_in_range d.hopping d.shortlist d.length d.frequencies)
    (both (not d.hopping) (both (not d.shortlist) (both (eqb d.length 0) (eqb d.frequencies 0)))))

wide : (ns : List ℕ) → ltb (description_in ns).channel (2 ^ 24) ≡ false → call_in_range (call_in ns) ≡ false
unfolding call_in
wide ns w = wide-channel (call_in ns) (rw (description-same ns (is_set ns full_at)) w)

apart : (f r n w c : Bool) → (w ≡ false → c ≡ false) → both f (both r (both n w)) ≡ false → both f (both c (both r n)) ≡ false
apart false r n w c g e = refl
apart true false n w true g e = refl
apart true false n w false g e = refl
apart true true false w true g e = refl
apart true true false w false g e = refl
apart true true true w true g e = g e
apart true true true w false g e = refl

together : (f r n w c : Bool) → both f (both r (both n w)) ≡ true → both f (both c (both r n)) ≡ c
together true true true w true e = refl
together true true true w false e = refl
together true true false w c e = cc
together true false n w c e = cc
together false r n w c e = cc

pub unsound : (ns : List ℕ) → sound ns ≡ false → in_range ns ≡ false
unfolding in_range
unsound ns = apart (flags_right ns) (reference_right ns) (numbers_right ns) (ltb (description_in ns).channel (2 ^ 24)) (call_in_range (call_in ns)) (wide ns)

pub range-is_the_calls : (ns : List ℕ) → sound ns ≡ true → in_range ns ≡ call_in_range (call_in ns)
unfolding in_range
range-is_the_calls ns = together (flags_right ns) (reference_right ns) (numbers_right ns) (ltb (description_in ns).channel (2 ^ 24)) (call_in_range (call_in ns))
