-- The count of an accepted message has two bits, and a value of bit 22 one. Assumes nothing.
use mathlib.Core.Path.{◌≡◌, refl, subst}
use mathlib.Core.Bool.{Bool, true, false, not}
use mathlib.Core.List.{List}
use mathlib.Core.Option.{Option, none, some}
use Prim.Native.Nat.{ℕ, ◌^◌, ◌≤◌, ◌<◌}
use native.Mathlib.Omega.{arith}
use lib.Dec.{leb, ltb, eqb}
use lib.ListN.{length}
use borrow.Author.Tests.{ltb-true, leb-true, eq-eqb}
use Rattle.bits.specs.Field.{both, pick}
use Rattle.csn1.specs.declared.Refusal.{Refusal}
use Rattle.csn1.specs.Format.{ground}
use Rattle.csn1.specs.Grammar.{format, later}
use Rattle.csn1.specs.Write.{flagged_right}
use Rattle.bits.proofs.Answers.{both_true}
use Rattle.csn1.proofs.Telling.{picked}
use Rattle.nch.specs.declared.Notification.{Notification}
use Rattle.nch.specs.Told.{read_of}
use Rattle.call.specs.Write.{call_in_range, call_is_zero}
use Rattle.nch.specs.Places.{most_calls, most_reduceds, most_randoms}
use Rattle.nch.specs.Write.{places_right, release6_places, release6_in_range, in_range, write_number}
use Rattle.nch.proofs.Promises.{writing_gives_back_what_was_read}
use Rattle.facch.specs.declared.Notification.{Notification as Message}
use Rattle.facch.specs.Message.{Release6Value, release6, notification}
use Rattle.facch.specs.Told.{release6_of, read_of as readFacch}
use Rattle.facch.specs.Back.{value_of}
use Rattle.facch.proofs.Promises.{every_reading_stands_in_the_octets}
use Rattle.pch.specs.Entry.{entry_length, call_in, entry_in, key_is_low, length_right, hops_right, flags_right, reference_right, numbers_right, in_range as pchInRange, ground_in, read_of as readPch}
use Rattle.receiver.specs.Count.{no_count, no_bit, News, no_news, counts, counts_over, bits, counting, counting_over}
use Rattle.receiver.specs.Step.{Happening, heardNch, heardFacch, heard_pch, joins, moves, bit_is, passes, grounds_of, content_of}
use Rattle.receiver.proofs.Cases.{by-test}

abbrev pub LowNews : News → Type 0
LowNews no_news = Unit {0}
LowNews (counts n) = n < no_count
LowNews (counts_over b22 n) = n < no_count
LowNews (bits b) = b < no_bit

-- b: there is a count
counting-low : (b : Bool) (n : ℕ) → (b ≡ true → n < no_count) → LowNews (counting b n)
counting-low true n h = h refl
counting-low false n h = tt

over-low : (b b22 : Bool) (n : ℕ) → n < no_count → LowNews (counting_over b b22 n)
over-low true b22 n h = h
over-low false b22 n h = tt

-- ## NCH

flagged_lt : (h : Bool) (v : ℕ) → flagged_right h v 4 ≡ true → h ≡ true → v < 4
flagged_lt true v e o = ltb-true v 4 e
flagged_lt false v e o = absurd (let z : ◌≡◌ {A = ℕ} 0 1 = cc in omega arith)

written_count : (m : Notification) → write_number m 20 ≡ 0 → flagged_right m.release6.hasCount m.release6.cellcount 4 ≡ true
unfolding write_number in_range release6_in_range
written_count m e =
    let r = m.release6 in
    let a = both_true (leb m.callcount most_calls) _ (picked (in_range m) _ 12 (omega arith) e).0 in
    let b = both_true (flagged_right m.hasNln m.nln 4) _ a.1 in
    let c = both_true (places_right call_in_range call_is_zero m.callcount m.calls) _ b.1 in
    let d = both_true (leb r.reducedcount most_reduceds) _ (both_true (release6_in_range r) _ c.1).0 in
    let f = both_true (leb r.randomcount most_randoms) _ d.1 in
    let g = both_true (pick r.hasRelease true (both (not r.hasCount) (both (eqb r.reducedcount 0) (eqb r.randomcount 0)))) (release6_places r) f.1 in
    (both_true (flagged_right r.hasCount r.cellcount 4) _ g.1).0

-- ## FACCH

low-six : (o : Option Release6Value) → (format (later release6)).fits o → (release6_of o).cellcount < 4
low-six none f = omega arith
low-six (some (none, r)) f = omega arith
low-six (some (some c, r)) f = f.0.0

read_count : (s : List ℕ) → (readFacch s).refusal.number ≡ 0 → (readFacch s).«record».release6.cellcount < 4
unfolding notification
read_count s z =
    let w = every_reading_stands_in_the_octets s z in
    let v = value_of w.first (readFacch s).«record» in
    subst (λ (m : Message). m.release6.cellcount < 4) w.told (low-six v.1.1.0 w.stands.fitting.1.1.0)

-- ## PCH

-- what is not refused passes the test, and what comes behind it
passed : (b : Bool) (w : Refusal) (n : ℕ) → 1 ≤ n → (pick b w (ground n)).number ≡ 0 → (b ≡ true) × (w.number ≡ 0)
unfolding ground
passed true w n h e = (refl, e)
passed false w n h e = absurd (omega arith)

numbers-right : (ns : List ℕ) → (ground_in ns).number ≡ 0 → numbers_right ns ≡ true
unfolding ground_in pchInRange
numbers-right ns z =
    let a = passed (eqb (length ns) entry_length) _ 13 (omega arith) z in
    let b = passed (key_is_low ns) _ 4 (omega arith) a.1 in
    let c = passed (length_right ns) _ 3 (omega arith) b.1 in
    let d = passed (hops_right ns) _ 5 (omega arith) c.1 in
    let e = passed (pchInRange ns) _ 12 (omega arith) d.1 in
    let f = both_true (flags_right ns) _ e.0 in
    let g = both_true (call_in_range (call_in ns)) _ f.1 in
    (both_true (reference_right ns) (numbers_right ns) g.1).1

page_count : (ns : List ℕ) → (readPch ns).refusal.number ≡ 0 → (readPch ns).«record».cellcount < 4
unfolding readPch numbers_right
page_count ns z = rw (eq-eqb (ground_in ns).number 0 z) (ltb-true (entry_in ns).cellcount 4 (both_true (ltb (entry_in ns).rand (2 ^ 36)) (ltb (entry_in ns).cellcount 4) (numbers-right ns z)).1)

-- ## Any event

pub low-news : (h : Happening) → (grounds_of h).number ≡ 0 → LowNews (content_of h).news
unfolding ground
low-news (heardNch s) z =
    let m = (read_of s).«record» in
    counting-low m.release6.hasCount m.release6.cellcount
    (flagged_lt m.release6.hasCount m.release6.cellcount (written_count m (writing_gives_back_what_was_read s z).accepted))
low-news (heardFacch s) z =
    let r = (readFacch s).«record».release6 in
    over-low r.hasCount r.b22 r.cellcount (read_count s z)
low-news (heard_pch ns) z = counting-low (readPch ns).«record».hasCount (readPch ns).«record».cellcount (λ e. page_count ns z)
low-news (joins k) z = tt
low-news (moves m) z = tt
low-news (bit_is b) z = by-test (leb b 1) (λ p. omega (arith, leb-true b 1 p)) (λ p. absurd (omega (arith, rw p at z)))
low-news passes z = tt
