-- The kept count is that of the history: the last one taken since the cell was entered, raised once for each change of bit 22 since. Assumes nothing.
use mathlib.Core.Path.{◌≡◌, refl, ap, ◌∙◌}
use mathlib.Core.Bool.{Bool, true, false}
use mathlib.Core.List.{List, [], ◌∷◌}
use mathlib.Core.Option.{Option, none, some}
use Prim.Native.Nat.{ℕ}
use Rattle.bits.specs.Field.{pick}
use Rattle.receiver.specs.Count.{News, no_news, counts, counts_over, bits}
use Rattle.receiver.specs.Step.{Cause, nothing, joining, paged, moving, numbered}
use Rattle.isolation.specs.One.{count_forgotten_by, Known, or_kept, over_taken, turns_to, raised_by, known_by, known_with}
use Rattle.isolation.specs.History.{Moment, wait, happens, entry, last_known}
use Rattle.isolation.specs.Kept.{enters, since, last_bit, last_taken, turns_then, turns_since, raised_all, kept_among, kept_count}

-- ## One moment

-- a count that comes begins anew; t: the bit goes from 1 to 0
begins : (o kept : Option ℕ) (k : ℕ) → or_kept o (raised_all k kept) ≡ raised_all (turns_then o false k) (or_kept o kept)
begins none kept k = refl
begins (some n) kept k = refl

raises : (t : Bool) (kept : Option ℕ) (k : ℕ) → raised_by t (raised_all k kept) ≡ raised_all (turns_then none t k) kept
raises true none k = refl
raises true (some n) k = refl
raises false kept k = refl

-- what is told of a cell of which the moments said so much
count_next : (n : Option ℕ) (ms : List Moment) (x : Cause) (w : News)
    → (known_with (record { nln = n; count = kept_among ms; bit = last_bit ms }) w).count ≡ kept_among (happens x w ∷ ms)
count_next n ms x no_news = refl
count_next n ms x (counts m) = refl
count_next n ms x (counts_over b22 m) = begins (over_taken (last_bit ms) b22 m) (last_taken ms) (turns_since ms)
count_next n ms x (bits b) = raises (turns_to (last_bit ms) b) (last_taken ms) (turns_since ms)

bit-next : (l : Known) (ms : List Moment) (x : Cause) (w : News) → l.bit ≡ last_bit ms → (known_with l w).bit ≡ last_bit (happens x w ∷ ms)
bit-next l ms x no_news e = e
bit-next l ms x (counts m) e = e
bit-next l ms x (counts_over b22 m) e = e
bit-next l ms x (bits b) e = refl

-- ## Any moments

-- what was said of the cell where it is entered anew
record Among (l : Known) (ms : List Moment) : Type 0 where
  count : l.count ≡ kept_among ms
  bit : l.bit ≡ last_bit ms

forgets : (f : Bool) (n : Option ℕ) (l : Known) (ms : List Moment) → Among l ms
    → Among (record { nln = n; count = pick f none l.count; bit = pick f none l.bit }) (pick f [] ms)
forgets true n l ms a = record { count = refl; bit = refl }
forgets false n l ms a = record { count = a.count; bit = a.bit }

by-cause : (l : Known) (x : Cause) (ms : List Moment) → Among l ms → Among (known_by l x) (pick (enters x) [] ms)
by-cause l nothing ms a = a
by-cause l (joining k) ms a = a
by-cause l (paged k) ms a = a
by-cause l (moving m) ms a = forgets (count_forgotten_by m) _ l ms a
by-cause l (numbered n) ms a = record { count = a.count; bit = a.bit }

told : (l : Known) (x : Cause) (w : News) (ms : List Moment) → Among l ms → Among (known_with l w) (happens x w ∷ ms)
told l x w ms a =
    record {
      count = ap (λ (k : Known). (known_with k w).count) (λ i. record { nln = l.nln; count = a.count i; bit = a.bit i }) ∙ count_next l.nln ms x w;
      bit = bit-next l ms x w a.bit;
    }

among : (past : List Moment) → Among (last_known past) (since past)
among [] = record { count = refl; bit = refl }
among (wait t ∷ past) = record { count = (among past).count; bit = (among past).bit }
among (happens x w ∷ past) = told (known_by (last_known past) x) x w (pick (enters x) [] (since past)) (by-cause (last_known past) x (since past) (among past))
among (entry e ∷ past) = record { count = (among past).count; bit = (among past).bit }

pub count-among : (past : List Moment) → (last_known past).count ≡ kept_count past
unfolding kept_count
count-among past = (among past).count

pub bit-among : (past : List Moment) → (last_known past).bit ≡ last_bit (since past)
bit-among past = (among past).bit
