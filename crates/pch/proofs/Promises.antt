-- The promises of specs/Promises: what the tests leave, and that nothing behind an absent flag is looked at. Assumes nothing.
use mathlib.Core.Path.{◌≡◌, refl, sym, ◌∙◌}
use mathlib.Core.List.{List, [], ◌∷◌}
use mathlib.Core.Bool.{Bool, true, false, not}
use Prim.Native.Nat.{ℕ, zero, suc, ◌+◌, ◌*◌, ◌/◌, ◌%◌, ◌^◌}
use native.Mathlib.Omega.{arith}
use lib.ListN.{length}
use lib.Dec.{eqb}
use borrow.Author.Tests.{leb-true, eqb-true, eq-eqb, ne_eqb}
use Rattle.bits.specs.Field.{both, pick}
use Rattle.bits.proofs.Answers.{both_true}
use Rattle.csn1.specs.Format.{no_refusal, ground}
use Rattle.csn1.specs.Told.{is_one, as_bit}
use Rattle.csn1.proofs.Writing.{bit-back}
use Rattle.call.specs.Call.{ciphered}
use Rattle.call.specs.Write.{call_in_range}
use Rattle.pch.specs.Entry.{key_at, ciphered_at, full_at, reference_at, described_at, entry_length, number_at, is_set, full_call, reduced_call, call_in}
use Rattle.pch.specs.Entry.{entry_in, key_is_low, length_right, hops_right, flags_right, reference_right, numbers_right, in_range, ground_in, read_of, last_key}
use Rattle.pch.specs.Promises.{Accepted, ARefusedEntryIsZero, AnAcceptedEntryIsUnderItsKey}
use Rattle.pch.specs.Promises.{ADescribedEntryIsFull, AFullEntryIsCipheredAsMarked, WhatStandsBehindAnAbsentFlagIsNotLookedAt, TheListedEntriesAreAnsweredSo}

-- ## What an accepted entry has passed

passed : (a b c d e : Bool)
    → (pick a (pick b (pick c (pick d (pick e no_refusal (ground 12)) (ground 5)) (ground 3)) (ground 4)) (ground 13)).number ≡ 0 → (b ≡ true) × (e ≡ true)
unfolding ground
passed true true true true true h = (refl, refl)
passed true true true true false h = (cc, cc)
passed true true true false e h = (cc, cc)
passed true true false d e h = (cc, cc)
passed true false c d e h = (cc, cc)
passed false b c d e h = (cc, cc)

accepted-tests : (ns : List ℕ) → Accepted ns → (key_is_low ns ≡ true) × (in_range ns ≡ true)
unfolding read_of ground_in
accepted-tests ns a = passed (eqb (length ns) entry_length) (key_is_low ns) (length_right ns) (hops_right ns) (in_range ns) a

accepted_record : (ns : List ℕ) → Accepted ns → (read_of ns).«record» ≡ entry_in ns
unfolding read_of
accepted_record ns a = rw (eq-eqb (ground_in ns).number 0 a)

accepted-reference : (ns : List ℕ) → Accepted ns → reference_right ns ≡ true
unfolding in_range
accepted-reference ns a =
    let r = (accepted-tests ns a).1 in
    let s = (both_true (flags_right ns) (both (call_in_range (call_in ns)) (both (reference_right ns) (numbers_right ns))) r).1 in
    (both_true (reference_right ns) (numbers_right ns) (both_true (call_in_range (call_in ns)) (both (reference_right ns) (numbers_right ns)) s).1).0

pub a_refused_entry_is_zero : ARefusedEntryIsZero
unfolding read_of
a_refused_entry_is_zero ns r = rw (ne_eqb (ground_in ns).number 0 r)

-- ## Its key, its description and its mark

full-key : (r k : ℕ) → r / 256 ≡ k → r / 512 * 2 + as_bit (is_one (r / 256 % 2)) ≡ k
full-key r k e = rw (bit-back (r / 256 % 2) (omega arith)) (omega (arith, e))

reduced-key : (k : ℕ) → k / 2 * 2 + as_bit (is_one (k % 2)) ≡ k
reduced-key k = rw (bit-back (k % 2) (omega arith)) (omega arith)

under : (ns : List ℕ) (f rest bare : Bool) → pick f (both (eqb (number_at ns reference_at / 2 ^ 8) (number_at ns key_at)) rest) bare ≡ true
    → (pick f (full_call ns) (reduced_call ns)).reference * 2 + as_bit (pick f (full_call ns) (reduced_call ns)).vgcs ≡ number_at ns key_at
under ns true rest bare e =
    full-key (number_at ns reference_at) (number_at ns key_at) (eqb-true (number_at ns reference_at / 2 ^ 8) (number_at ns key_at)
    (both_true (eqb (number_at ns reference_at / 2 ^ 8) (number_at ns key_at)) rest e).0)
under ns false rest bare e = reduced-key (number_at ns key_at)

pub an_accepted_entry_is_under_its_key : AnAcceptedEntryIsUnderItsKey
unfolding call_in reference_right
an_accepted_entry_is_under_its_key ns a = (
  rw (accepted_record ns a) (under ns (is_set ns full_at) (eqb (as_bit (ciphered (full_call ns))) (as_bit (is_set ns ciphered_at))) (not (is_set ns described_at))
      (accepted-reference ns a)),
  leb-true (number_at ns key_at) last_key (accepted-tests ns a).0,
)

described-same : (ns : List ℕ) (f : Bool) → (pick f (full_call ns) (reduced_call ns)).hasDescription ≡ is_set ns described_at
described-same ns true = refl
described-same ns false = refl

full_from : (f same d : Bool) → pick f same (not d) ≡ true → d ≡ true → f ≡ true
full_from true same d e g = refl
full_from false same true e g = e
full_from false same false e g = g

pub a_described_entry_is_full : ADescribedEntryIsFull
unfolding call_in reference_right
a_described_entry_is_full ns a = rw (accepted_record ns a) λ d. full_from (is_set ns full_at)
    (both (eqb (number_at ns reference_at / 2 ^ 8) (number_at ns key_at)) (eqb (as_bit (ciphered (full_call ns))) (as_bit (is_set ns ciphered_at)))) (is_set ns described_at)
    (accepted-reference ns a) (sym (described-same ns (is_set ns full_at)) ∙ d)

same_bits : (x y : Bool) → eqb (as_bit x) (as_bit y) ≡ true → x ≡ y
same_bits true true e = refl
same_bits true false e = sym e
same_bits false true e = e
same_bits false false e = refl

as_marked_in : (ns : List ℕ) (f same bare : Bool) → pick f (both same (eqb (as_bit (ciphered (full_call ns))) (as_bit (is_set ns ciphered_at)))) bare ≡ true → f ≡ true
    → ciphered (pick f (full_call ns) (reduced_call ns)) ≡ is_set ns ciphered_at
as_marked_in ns true same bare e g = same_bits (ciphered (full_call ns)) (is_set ns ciphered_at)
    (both_true same (eqb (as_bit (ciphered (full_call ns))) (as_bit (is_set ns ciphered_at))) e).1
as_marked_in ns false same bare e g = cc

pub a_full_entry_is_ciphered_as_marked : AFullEntryIsCipheredAsMarked
unfolding call_in reference_right
a_full_entry_is_ciphered_as_marked ns a = rw (accepted_record ns a) λ f. as_marked_in ns (is_set ns full_at) (eqb (number_at ns reference_at / 2 ^ 8) (number_at ns key_at))
    (not (is_set ns described_at)) (accepted-reference ns a) f

-- ## Nothing behind an absent flag

abbrev is : ℕ → Bool
is n = not (eqb n 0)

above : (n : ℕ) → eqb (suc n) 0 ≡ false
above n = ne_eqb (suc n) 0 (λ e. omega (arith, e))

-- the full reference
clean-reference : (k m f r d c h s l q g v n o : ℕ)
    → read_of (k ∷ m ∷ f ∷ pick (is f) r 0 ∷ d ∷ c ∷ h ∷ s ∷ l ∷ q ∷ g ∷ v ∷ n ∷ o ∷ [])
    ≡ read_of (k ∷ m ∷ f ∷ r ∷ d ∷ c ∷ h ∷ s ∷ l ∷ q ∷ g ∷ v ∷ n ∷ o ∷ [])
unfolding read_of ground_in call_in length_right hops_right flags_right reference_right numbers_right in_range
clean-reference k m zero r d c h s l q g v n o = refl
clean-reference k m (suc f) r d c h s l q g v n o = rw (above f)

-- the description: with none nothing of it is looked at, without hopping no frequencies, with a short list no length
clean-description : (k m f r d c h s l q g v n o : ℕ)
    → read_of (k ∷ m ∷ f ∷ r ∷ d ∷ pick (is d) c 0 ∷ pick (is d) h 0 ∷ pick (both (is d) (is h)) s 0 ∷ pick (both (both (is d) (is h)) (not (is s))) l 0 ∷ pick
    (both (is d) (is h)) q 0 ∷ g ∷ v ∷ n ∷ o ∷ [])
    ≡ read_of (k ∷ m ∷ f ∷ r ∷ d ∷ c ∷ h ∷ s ∷ l ∷ q ∷ g ∷ v ∷ n ∷ o ∷ [])
unfolding read_of ground_in call_in length_right hops_right flags_right reference_right numbers_right in_range
clean-description k m f r zero c h s l q g v n o = refl
clean-description k m f r (suc d) c zero s l q g v n o = rw (above d)
clean-description k m f r (suc d) c (suc h) zero l q g v n o = rw (above d, above h)
clean-description k m f r (suc d) c (suc h) (suc s) l q g v n o = rw (above d, above h, above s)

-- VSTK_RAND, and the count
clean-rand : (k m f r d c h s l q g v n o : ℕ)
    → read_of (k ∷ m ∷ f ∷ r ∷ d ∷ c ∷ h ∷ s ∷ l ∷ q ∷ g ∷ pick (is g) v 0 ∷ n ∷ o ∷ [])
    ≡ read_of (k ∷ m ∷ f ∷ r ∷ d ∷ c ∷ h ∷ s ∷ l ∷ q ∷ g ∷ v ∷ n ∷ o ∷ [])
unfolding read_of ground_in call_in length_right hops_right flags_right reference_right numbers_right in_range
clean-rand k m f r d c h s l q zero v n o = refl
clean-rand k m f r d c h s l q (suc g) v n o = rw (above g)

clean-count : (k m f r d c h s l q g v n o : ℕ)
    → read_of (k ∷ m ∷ f ∷ r ∷ d ∷ c ∷ h ∷ s ∷ l ∷ q ∷ g ∷ v ∷ n ∷ pick (is n) o 0 ∷ [])
    ≡ read_of (k ∷ m ∷ f ∷ r ∷ d ∷ c ∷ h ∷ s ∷ l ∷ q ∷ g ∷ v ∷ n ∷ o ∷ [])
unfolding read_of ground_in call_in length_right hops_right flags_right reference_right numbers_right in_range
clean-count k m f r d c h s l q g v zero o = refl
clean-count k m f r d c h s l q g v (suc n) o = rw (above n)

clean : (k m f r d c h s l q g v n o : ℕ)
    → read_of (k ∷ m ∷ f ∷ pick (is f) r 0 ∷ d ∷ pick (is d) c 0 ∷ pick (is d) h 0 ∷ pick (both (is d) (is h)) s 0 ∷ pick
    (both (both (is d) (is h)) (not (is s))) l 0 ∷ pick (both (is d) (is h)) q 0 ∷ g ∷ pick (is g) v 0 ∷ n ∷ pick (is n) o 0 ∷ [])
    ≡ read_of (k ∷ m ∷ f ∷ r ∷ d ∷ c ∷ h ∷ s ∷ l ∷ q ∷ g ∷ v ∷ n ∷ o ∷ [])
clean k m f r d c h s l q g v n o =
    clean-reference k m f r d (pick (is d) c 0) (pick (is d) h 0) (pick (both (is d) (is h)) s 0) (pick (both (both (is d) (is h)) (not (is s))) l 0)
    (pick (both (is d) (is h)) q 0) g (pick (is g) v 0) n (pick (is n) o 0)
    ∙ clean-description k m f r d c h s l q g (pick (is g) v 0) n (pick (is n) o 0)
    ∙ clean-rand k m f r d c h s l q g v n (pick (is n) o 0)
    ∙ clean-count k m f r d c h s l q g v n o

-- the reading is of the fourteen numbers and the length
fourteen : (ns : List ℕ) → length ns ≡ entry_length
    → read_of (number_at ns 0 ∷ number_at ns 1 ∷ number_at ns 2 ∷ number_at ns 3 ∷ number_at ns 4 ∷ number_at ns 5 ∷ number_at ns 6 ∷ number_at ns 7 ∷ number_at ns 8 ∷ number_at ns 9 ∷
    number_at ns 10 ∷ number_at ns 11 ∷ number_at ns 12 ∷ number_at ns 13 ∷ []) ≡ read_of ns
unfolding read_of ground_in call_in length_right hops_right flags_right reference_right numbers_right in_range
fourteen ns e = rw e

pub what_stands_behind_an_absent_flag_is_not_looked_at : WhatStandsBehindAnAbsentFlagIsNotLookedAt
what_stands_behind_an_absent_flag_is_not_looked_at ns e =
    clean (number_at ns 0) (number_at ns 1) (number_at ns 2) (number_at ns 3) (number_at ns 4) (number_at ns 5) (number_at ns 6) (number_at ns 7) (number_at ns 8) (number_at ns 9)
    (number_at ns 10) (number_at ns 11) (number_at ns 12) (number_at ns 13)
    ∙ fourteen ns e

pub the_listed_entries_are_answered_so : TheListedEntriesAreAnsweredSo
unfolding read_of ground_in call_in length_right hops_right flags_right reference_right numbers_right in_range ground call_in_range
the_listed_entries_are_answered_so = refl
