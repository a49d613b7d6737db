-- What is read of any octets fits the fields of a record, and its record is read back from its numbers. Assumes nothing.
use mathlib.Core.Path.{◌≡◌, refl, sym, ap, ◌∙◌}
use mathlib.Core.List.{List, [], ◌∷◌, ◌++◌, map}
use mathlib.Core.Bool.{Bool, true, false, not}
use mathlib.Core.Option.{Option, none, some}
use Prim.Native.Nat.{ℕ, ◌*◌, ◌^◌, ◌≤◌, ◌<◌}
use native.Mathlib.Omega.{arith}
use lib.Dec.{leb, ltb, eqb}
use lib.ListN.{length, get_or, replicate}
use lib.Pow.{pow_mono}
use borrow.Author.Tests.{leb-true, ltb-true, eqb-true, le-leb, eq-eqb}
use Rattle.bits.specs.Field.{both, pick}
use Rattle.csn1.specs.Format.{num, OptFits}
use Rattle.csn1.specs.Grammar.{format}
use Rattle.csn1.specs.Told.{as_bit, is_one, is_there, or_zero, padded}
use Rattle.csn1.specs.Write.{flagged_right}
use Rattle.bits.proofs.Answers.{both_true}
use Rattle.arrays.specs.Limits.{within, flag, octet, long, times}
use Rattle.arrays.specs.Runs.{each}
use Rattle.arrays.proofs.Filling.{padded-whole}
use Rattle.arrays.proofs.Within.{Held, held-append, run-held}
use Rattle.call.specs.declared.Call.{Call}
use Rattle.call.specs.declared.Description.{Description}
use Rattle.call.specs.Call.{group_call, call_of, no_call, one_to_eight}
use Rattle.call.specs.Write.{frequencies_in_range, description_in_range, description_is_zero, head_in_range, call_in_range, call_length_right}
use Rattle.call.proofs.Record.{value-in_range, value-length}
use Rattle.nch.specs.declared.Release7.{Release7}
use Rattle.nch.specs.Octets.{Release6Value, Release7Value, Value, reduced, random, release6, release7, read_octets}
use Rattle.nch.specs.Told.{reduced_of, no_reduced, random_of, no_random, release6_of, release7_of, record_of, read_of}
use Rattle.nch.specs.Places.{most_calls, most_reduceds, most_randoms, most_marks, used_at, all_length}
use Rattle.nch.specs.CallNumbers.{call_numbers, call_most}
use Rattle.nch.specs.NotificationNumbers.{reduced_numbers, random_numbers, mark_numbers, release6_numbers, parts_numbers, release7_numbers, numbers_of, read_numbers, record_from}
use Rattle.nch.specs.NotificationNumbers.{head_most, reduced_most, random_most, release6_most, parts_most, release7_most, most, fields_hold, Fits}
use Rattle.nch.proofs.Releases.{Right6, Right7, reduced-range}
use Rattle.nch.proofs.Record.{Right, Fits as Said}
use Rattle.nch.proofs.Round.{Accepted, read-accepted, again-right}
use Rattle.nch.proofs.Lengths.{length-call, length-reduced, length-random, length_mark, length-parts}
use Rattle.nch.proofs.NotificationRuns.{length-read, shaped}
use Rattle.nch.proofs.NotificationBack.{record_back, refused-zeros}

-- ## A call

pub bit-low : (b : Bool) → leb (as_bit b) 1 ≡ true
bit-low true = refl
bit-low false = refl

freq_small : (h s : Bool) (n f : ℕ) → frequencies_in_range h s n f ≡ true → pick (both h (not s)) (one_to_eight n) true ≡ true → (n ≤ 8) × (f < 2 ^ 64)
freq_small false s n f e k =
    let a = both_true (not s) (both (eqb n 0) (eqb f 0)) e in
    let b = both_true (eqb n 0) (eqb f 0) a.1 in
    (omega (arith, eqb-true n 0 b.0), omega (arith, eqb-true f 0 b.1))
freq_small true true n f e k =
    let a = both_true (ltb f (2 ^ 64)) (eqb n 0) e in
    (omega (arith, eqb-true n 0 a.1), ltb-true f (2 ^ 64) a.0)
freq_small true false n f e k =
    let a = both_true (leb 1 n) (leb n 8) k in
    let m : n ≤ 8 = leb-true n 8 a.1 in
    (m, omega (arith, ltb-true f (2 ^ (8 * n)) e, pow_mono {i = 8 * n} {j = 64} (omega arith)))

record Small (d : Description) : Type 0 where
  channel : d.channel < 2 ^ 24
  octets : d.length ≤ 8
  frequencies : d.frequencies < 2 ^ 64

small : (h : Bool) (d : Description) → pick h (description_in_range d) (description_is_zero d) ≡ true
    → pick (both h (both d.hopping (not d.shortlist))) (one_to_eight d.length) true ≡ true → Small d
small true d e k =
    let a = both_true (ltb d.channel (2 ^ 24)) _ e in
    let b = freq_small d.hopping d.shortlist d.length d.frequencies a.1 k in
    record { channel = ltb-true d.channel (2 ^ 24) a.0; octets = b.0; frequencies = b.1 }
small false d e k =
    let a = both_true (eqb d.channel 0) _ e in
    let b = both_true (not d.hopping) _ a.1 in
    let g = both_true (not d.shortlist) _ b.1 in
    let j = both_true (eqb d.length 0) (eqb d.frequencies 0) g.1 in
    record {
      channel = omega (arith, eqb-true d.channel 0 a.0);
      octets = omega (arith, eqb-true d.length 0 j.0);
      frequencies = omega (arith, eqb-true d.frequencies 0 j.1);
    }

pub call-within : (c : Call) → call_in_range c ≡ true → call_length_right c ≡ true → within (call_numbers c) call_most ≡ true
unfolding within call_numbers call_in_range call_length_right
call-within c e k =
    let a = both_true (head_in_range c) _ e in
    let b = both_true (ltb c.reference (2 ^ 27)) _ a.0 in
    let g = both_true (ltb c.priority 8) (ltb c.cipher 16) b.1 in
    let d = small c.hasDescription c.description a.1 k in
    let x = ltb-true c.reference (2 ^ 27) b.0 in
    let y = ltb-true c.priority 8 g.0 in
    let z = ltb-true c.cipher 16 g.1 in
    rw (
      le-leb c.reference 4294967295 (omega arith),
      bit-low c.vgcs,
      bit-low c.acknowledged,
      le-leb c.priority 255 (omega arith),
      le-leb c.cipher 255 (omega arith),
      bit-low c.hasDescription,
      le-leb c.description.channel 4294967295 (omega (arith, d.channel)),
      bit-low c.description.hopping,
      bit-low c.description.shortlist,
      le-leb c.description.length 255 (omega (arith, d.octets)),
      le-leb c.description.frequencies 18446744073709551615 (omega (arith, d.frequencies)),
    )

-- ## The releases

reduced-within : (v : List ℕ) → (format reduced).fits v → within (reduced_numbers (reduced_of v)) reduced_most ≡ true
unfolding within reduced_numbers
reduced-within v f =
    let x = ltb-true (get_or v 0 0) (2 ^ 27) (reduced-range v f) in
    rw (le-leb (get_or v 0 0) 4294967295 (omega arith), bit-low (is_one (get_or v 1 0)))

opt-small : (o : Option ℕ) (w : ℕ) → w ≤ 64 → OptFits (num w) o → or_zero o < 2 ^ w
opt-small none w h f = omega (arith, pow_mono {i = 0} {j = w} (omega arith))
opt-small (some v) w h f = f

random-within : (v : ℕ × Option ℕ) → (format random).fits v → within (random_numbers (random_of v)) random_most ≡ true
unfolding within random_numbers
random-within v f =
    let x = opt-small v.1 36 (omega arith) f.1 in
    rw (bit-low (is_one v.0), bit-low (is_there v.1), le-leb (or_zero v.1) 18446744073709551615 (omega arith))

pub flag_small : (h : Bool) (v n : ℕ) → flagged_right h v n ≡ true → 0 < n → v < n
flag_small true v n e k = ltb-true v n e
flag_small false v n e k = omega (arith, eqb-true v 0 e)

six-held : (o : Option Release6Value) → OptFits (format release6) o → Right6 (release6_of o) → Held (release6_numbers (release6_of o)) release6_most
unfolding within each reduced_numbers random_numbers release6_numbers
six-held none f t = (refl, refl)
six-held (some v) f t =
    let x = flag_small (is_there v.0) (or_zero v.0) 4 t.hasCount (omega arith) in
    let head : List ℕ = 1 ∷ as_bit (is_there v.0) ∷ or_zero v.0 ∷ length v.1.0 ∷ [] in
    let reduceds : List ℕ = each reduced_numbers (padded no_reduced most_reduceds (map reduced_of v.1.0)) in
    let h : Held head (flag ∷ flag ∷ octet ∷ long ∷ []) =
    (refl, rw (bit-low (is_there v.0), le-leb (or_zero v.0) 255 (omega arith), le-leb (length v.1.0) 18446744073709551615 (omega (arith, t.few)))) in
    let n : Held (length v.1.1 ∷ []) (long ∷ []) = (refl, rw (le-leb (length v.1.1) 18446744073709551615 (omega (arith, t.few_randoms)))) in
    held-append (head ++ reduceds ++ (length v.1.1 ∷ [])) ((flag ∷ flag ∷ octet ∷ long ∷ []) ++ times most_reduceds reduced_most ++ (long ∷ [])) _ (times most_randoms random_most)
    (held-append (head ++ reduceds) ((flag ∷ flag ∷ octet ∷ long ∷ []) ++ times most_reduceds reduced_most) _ (long ∷ [])
    (held-append head (flag ∷ flag ∷ octet ∷ long ∷ []) reduceds (times most_reduceds reduced_most) h
    (run-held (format reduced) reduced_of no_reduced reduced_numbers reduced_most length-reduced refl reduced-within most_reduceds v.1.0 f.1.0)) n)
    (run-held (format random) random_of no_random random_numbers random_most length-random refl random-within most_randoms v.1.1 f.1.1)

parts_within : (r : Release7) → r.fullrate < 16 → r.halfrate < 16 → within (parts_numbers r) parts_most ≡ true
unfolding within parts_numbers
parts_within r x y =
    rw (
      bit-low r.hasUplink,
      bit-low r.uplink,
      bit-low r.hasAmr,
      bit-low r.hasFullrate,
      le-leb r.fullrate 255 (omega arith),
      bit-low r.hasHalfrate,
      le-leb r.halfrate 255 (omega arith),
      bit-low r.hasSms,
      bit-low r.confidential,
      bit-low r.private,
    )

mark_within : (v : ℕ) → (num 1).fits v → within (mark_numbers (is_one v)) (flag ∷ []) ≡ true
unfolding within mark_numbers
mark_within v f = rw (bit-low (is_one v))

seven-held : (o : Option Release7Value) → OptFits (format release7) o → Right7 (release7_of o) → Held (release7_numbers (release7_of o)) release7_most
unfolding within each mark_numbers parts_numbers release7_numbers
seven-held none f t = (refl, refl)
seven-held (some v) f t =
    let r = release7_of (some v) in
    let h : Held (1 ∷ length v.0 ∷ []) (flag ∷ long ∷ []) = (refl, rw (le-leb (length v.0) 18446744073709551615 (omega (arith, t.few)))) in
    let marks : List ℕ = each mark_numbers (padded false most_marks (map is_one v.0)) in
    held-append ((1 ∷ length v.0 ∷ []) ++ marks) ((flag ∷ long ∷ []) ++ times most_marks (flag ∷ [])) (parts_numbers r) parts_most
    (held-append (1 ∷ length v.0 ∷ []) (flag ∷ long ∷ []) marks (times most_marks (flag ∷ [])) h
    (run-held (num 1) is_one false mark_numbers (flag ∷ []) length_mark refl mark_within most_marks v.0 f.0))
    (length-parts r, parts_within r (flag_small r.hasFullrate r.fullrate 16 t.fullrate (omega arith)) (flag_small r.hasHalfrate r.halfrate 16 t.halfrate (omega arith)))

-- ## The whole

value-held : (v : Value) → Said v → Right (record_of v) → Held (numbers_of (record_of v)) (head_most ++ times most_calls call_most ++ release6_most ++ release7_most)
unfolding within numbers_of call_numbers
value-held v f t =
    let m = record_of v in
    let x = flag_small m.hasNln m.nln 4 t.hasNln (omega arith) in
    let head : List ℕ = as_bit m.hasNln ∷ m.nln ∷ m.callcount ∷ [] in
    let calls = each call_numbers m.calls in
    let h : Held head head_most =
    (refl, rw (bit-low m.hasNln, le-leb m.nln 255 (omega arith), le-leb m.callcount 18446744073709551615 (omega (arith, t.few)))) in
    held-append (head ++ calls ++ release6_numbers m.release6) (head_most ++ times most_calls call_most ++ release6_most) (release7_numbers m.release7) release7_most
    (held-append (head ++ calls) (head_most ++ times most_calls call_most) (release6_numbers m.release6) release6_most
    (held-append head head_most calls (times most_calls call_most) h
    (run-held group_call call_of no_call call_numbers call_most length-call refl (λ c g. call-within (call_of c) (value-in_range c g) (value-length c g)) most_calls v.1.0 f.calls))
    (six-held v.1.1.0 f.six t.six))
    (seven-held v.1.1.1 f.seven t.seven)

value-within : (v : Value) → Said v → Right (record_of v) → within (numbers_of (record_of v)) most ≡ true
unfolding most
value-within v f t = (value-held v f t).1

accepted-within : (s : List ℕ) → Accepted s (read_of s) → fields_hold (read_numbers s) ≡ true
unfolding read_numbers
accepted-within s a = rw a.told (value-within a.value a.fitting (rw a.told at (again-right s (read_of s) a)))

zeros_within : fields_hold (replicate all_length 0) ≡ true
unfolding within most
zeros_within = refl

-- what was read stands within the limits, refused or not
held-read : (s : List ℕ) → fields_hold (read_numbers s) ≡ true
held-read s = go (eqb (read_of s).refusal.number 0) refl
  where
    go : (t : Bool) → eqb (read_of s).refusal.number 0 ≡ t → fields_hold (read_numbers s) ≡ true
    go false e =
        rw (refused-zeros s (λ z. absurd (let n : ◌≡◌ {A = Bool} true false = sym (eq-eqb (read_of s).refusal.number 0 z) ∙ e in let o : ◌≡◌ {A = ℕ} 1 0 = ap as_bit n in omega arith)))
        zeros_within
    go true e = accepted-within s (read-accepted s (eqb-true (read_of s).refusal.number 0 e))

pub read_fits : (s : List ℕ) → Fits (read_numbers s)
read_fits s = record { long = omega (arith, length-read s); held = held-read s }

-- ## And its record is read back

pub record_read : (s : List ℕ) → record_from (read_numbers s) ≡ (read_of s).«record»
unfolding read_numbers
record_read s = record_back (read_of s).«record» (read_of s).used (shaped (read_octets s))

pub used-read : (s : List ℕ) → get_or (read_numbers s) used_at 0 ≡ (read_of s).used
unfolding read_numbers
used-read s = refl

-- an array of as many places holds them all
pub read_whole : (s all : List ℕ) → all ≡ padded 0 all_length (read_numbers s) → all ≡ read_numbers s
read_whole s all e = e ∙ ap (λ (k : ℕ). padded 0 k (read_numbers s)) (sym (length-read s)) ∙ padded-whole 0 (read_numbers s)
