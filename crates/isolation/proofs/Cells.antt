-- What is known of the cell, and whether a call can be followed with it: the receiver's numbers say what the one-call receiver knows. Assumes nothing.
use mathlib.Core.Path.{◌≡◌, refl, ap, ◌∙◌}
use mathlib.Core.Bool.{Bool, true, false}
use mathlib.Core.Option.{Option, none, some}
use Prim.Native.Nat.{ℕ, zero, suc, ◌<◌}
use native.Mathlib.Omega.{arith}
use lib.Dec.{leb, ltb, eqb}
use borrow.Author.Tests.{eqb-true, ne_eqb, le-leb, lt-leb, lt-ltb, ltb-false}
use Rattle.bits.specs.Field.{both, pick}
use Rattle.receiver.specs.declared.Cell.{Cell}
use Rattle.receiver.specs.Channels.{Channel, has_pages}
use Rattle.receiver.specs.Count.{no_count, no_bit, News, no_news, counts, counts_over, bits, raised, taken_over, turned, cell_with, holds, follow_of, count_beside}
use Rattle.receiver.specs.Model.{no_nln}
use Rattle.receiver.specs.Step.{Cause, nothing, joining, paged, moving, numbered, cell_by, cell_after}
use Rattle.isolation.specs.One.{shows_nln, forgotten_by, count_forgotten_by, Known, or_kept, over_taken, turns_to, raised_by, known_by, known_with, known_after, following, following_at}
use Rattle.isolation.specs.Promises.{below, count_kept, bit_known}
use Rattle.isolation.proofs.Tables.{shows_same, forgets-same, forgets_count-same, shown}
use Rattle.isolation.proofs.LowCounts.{LowNews}
use Rattle.receiver.proofs.Accepted.{Low}
use Rattle.receiver.proofs.Cases.{by-test}

-- ## What a call knows of the cell

-- the NLN as a channel shows it, where one is known; the count and the bit
abbrev pub known : Channel → Cell → Known
known c l = record { nln = pick (shows_nln c) (pick (eqb l.nln no_nln) none (some l.nln)) none; count = count_kept l; bit = bit_known l }

is_below : (most n : ℕ) → n < most → below most n ≡ some n
is_below most n h = rw (lt-ltb n most h)

-- ## What discards halves

-- w: the channel shows an NLN, f: it is forgotten
forgotten : (w f : Bool) (n : ℕ)
    → pick w (pick (eqb (pick f no_nln n) no_nln) none (some (pick f no_nln n))) none ≡ pick f none (pick w (pick (eqb n no_nln) none (some n)) none)
forgotten true true n = refl
forgotten false true n = refl
forgotten w false n = refl

-- f: the count is forgotten, and the bit
count-forgotten : (f : Bool) (n : ℕ) → below no_count (pick f no_count n) ≡ pick f none (below no_count n)
count-forgotten true n = refl
count-forgotten false n = refl

bit-forgotten : (f : Bool) (n : ℕ) → below no_bit (pick f no_bit n) ≡ pick f none (below no_bit n)
bit-forgotten true n = refl
bit-forgotten false n = refl

-- w: the channel shows an NLN, o: the last one
seen_next : (w : Bool) (o count bit : Option ℕ) (n : ℕ) → n < no_nln
    → ◌≡◌ {A = Known} (record { nln = pick w (pick (eqb n no_nln) none (some n)) none; count = count; bit = bit })
    (known_by (record { nln = pick w o none; count = count; bit = bit }) (pick w (numbered n) nothing))
seen_next true o count bit n z = rw (ne_eqb n no_nln (λ q. omega arith))
seen_next false o count bit n z = refl

page_tells-nothing : (b : Bool) (l : Known) (k : ℕ) → l ≡ known_by l (pick b (paged k) nothing)
page_tells-nothing true l k = refl
page_tells-nothing false l k = refl

by-same : (c : Channel) (l : Cell) (x : Cause) → Low x → known c (cell_by l x) ≡ known_by (known c l) (shown c x)
by-same c l nothing z = refl
by-same c l (joining k) z = refl
by-same c l (paged k) z = page_tells-nothing (has_pages c) (known c l) k
by-same c l (moving m) z =
    rw (forgets-same m, forgets_count-same m)
    (λ i. record { nln = forgotten (shows_nln c) (forgotten_by m) l.nln i; count = count-forgotten (count_forgotten_by m) l.count i; bit = bit-forgotten (count_forgotten_by m) l.bit i })
by-same c l (numbered n) z = rw (shows_same c) (seen_next (shows_nln c) (pick (eqb l.nln no_nln) none (some l.nln)) (count_kept l) (bit_known l) n z)

-- ## What an event tells of the count

low-raised : (n : ℕ) → raised n < no_count
low-raised n = omega arith

low-either : (b : Bool) (n : ℕ) → n < no_count → pick b (raised n) n < no_count
low-either true n h = low-raised n
low-either false n h = h

-- b: the bit as it is now
over-known : (b22 : Bool) (b n : ℕ) (kept : Option ℕ) → n < no_count → below no_count (pick (both b22 (eqb b 0)) (raised n) n) ≡ or_kept (over_taken (some b) b22 n) kept
over-known true b n kept h = is_below no_count (pick (eqb b 0) (raised n) n) (low-either (eqb b 0) n h)
over-known false b n kept h = is_below no_count n h

over-same : (l : Cell) (b22 : Bool) (n : ℕ) → n < no_count → below no_count (taken_over l b22 n) ≡ or_kept (over_taken (bit_known l) b22 n) (count_kept l)
over-same l b22 n h = by-test (ltb l.bit no_bit) (λ p. rw p (over-known b22 l.bit n (count_kept l) h)) (λ p. rw p)

-- u: the bit was 1, v: it is 0
turned-known : (u v : Bool) (n : ℕ) → below no_count (pick (both u (both v (ltb n no_count))) (raised n) n) ≡ raised_by (both u v) (below no_count n)
turned-known false v n = refl
turned-known true false n = refl
turned-known true true n = by-test (ltb n no_count) (λ p. rw p (is_below no_count (raised n) (low-raised n))) (λ p. rw (p, p))

turned_same : (l : Cell) (b : ℕ) → below no_count (turned l b) ≡ raised_by (turns_to (bit_known l) b) (count_kept l)
turned_same l b =
    by-test (ltb l.bit no_bit)
    (λ p. rw p (turned-known (eqb l.bit 1) (eqb b 0) l.count))
    (λ p. rw (p, ne_eqb l.bit 1 (λ q. omega (arith, ltb-false l.bit no_bit p))))

with_same : (c : Channel) (l : Cell) (w : News) → LowNews w → known c (cell_with l w) ≡ known_with (known c l) w
with_same c l no_news h = refl
with_same c l (counts n) h = λ i. record { nln = (known c l).nln; count = is_below no_count n h i; bit = bit_known l }
with_same c l (counts_over b22 n) h = λ i. record { nln = (known c l).nln; count = over-same l b22 n h i; bit = bit_known l }
with_same c l (bits b) h = λ i. record { nln = (known c l).nln; count = turned_same l b i; bit = is_below no_bit b h i }

pub known_same : (c : Channel) (l : Cell) (x : Cause) (w : News) → Low x → LowNews w → known c (cell_after l x w) ≡ known_after (known c l) (shown c x) w
known_same c l x w z h = with_same c (cell_by l x) w h ∙ ap (λ (k : Known). known_with k w) (by-same c l x z)

-- ## Whether a call can be followed

-- k: its group key is held, z: a count is kept
beside_same : (k z : Bool) (n : ℕ)
    → record { follow = pick k (pick z 3 2) 1; kept = pick (eqb (pick k (pick z 3 2) 1) 3) n 0 } ≡ following k (pick z (some n) none)
beside_same true true n = refl
beside_same true false n = refl
beside_same false z n = refl

-- neither in one piece nor joined
outside : (n : ℕ) → eqb n 2 ≡ false → eqb n 3 ≡ false → both (leb 2 n) (leb n 3) ≡ false
outside zero p q = refl
outside (suc zero) p q = refl
outside (suc (suc zero)) p q = let z : ◌≡◌ {A = ℕ} 0 1 = cc in absurd (omega arith)
outside (suc (suc (suc zero))) p q = let z : ◌≡◌ {A = ℕ} 0 1 = cc in absurd (omega arith)
outside (suc (suc (suc (suc n)))) p q = rw (le-leb 2 (suc (suc (suc (suc n)))) (omega arith), lt-leb (suc (suc (suc (suc n)))) 3 (omega arith))

-- t: the number is 2 or 3
number_same : (n : ℕ) → both (leb 2 n) (leb n 3) ≡ pick (eqb n 2) true (eqb n 3)
number_same n =
    by-test (eqb n 2)
    (λ p. rw (p, le-leb 2 n (omega (arith, eqb-true n 2 p)), le-leb n 3 (omega (arith, eqb-true n 2 p))))
    (λ p.
    by-test (eqb n 3)
    (λ q. rw (p, q, le-leb 2 n (omega (arith, eqb-true n 3 q)), le-leb n 3 (omega (arith, eqb-true n 3 q))))
    (λ q. rw (p, q) (outside n p q)))

-- a: told 2, b: told 3
told_same : (a b k z : Bool) (n : ℕ)
    → record { follow = pick (pick a true b) (pick k (pick z 3 2) 1) 0; kept = pick (eqb (pick (pick a true b) (pick k (pick z 3 2) 1) 0) 3) n 0 }
    ≡ pick a (following k (pick z (some n) none)) (pick b (following k (pick z (some n) none)) (record { follow = 0; kept = 0 }))
told_same true b k z n = beside_same k z n
told_same false true k z n = beside_same k z n
told_same false false k z n = refl

pub follow-same : (set : ℕ) (l : Cell) (number cipher : ℕ)
    → record { follow = follow_of set l number cipher; kept = count_beside (follow_of set l number cipher) l } ≡ following_at number (holds set cipher) (count_kept l)
unfolding follow_of
follow-same set l number cipher =
    rw (number_same number) (told_same (eqb number 2) (eqb number 3) (holds set cipher) (ltb l.count no_count) l.count)
