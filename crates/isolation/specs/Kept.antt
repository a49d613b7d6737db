-- The kept count from what was seen alone: the last one taken since the cell was entered, raised once for each change of bit 22 from 1 to 0 since. No state of a
-- receiver is used. Assumes nothing.
use Rattle.std.specs.Prelude.{List, [], ◌∷◌, Bool, true, false, ℕ, zero, suc}
use Rattle.std.proofs.Math.Option.{Option, none, some}
use Rattle.bits.specs.Field.{pick}
use Rattle.receiver.specs.Count.{News, no_news, counts, counts_over, bits}
use Rattle.receiver.specs.Step.{Cause, nothing, joining, paged, moving, numbered}
use Rattle.isolation.specs.One.{count_forgotten_by, next, over_taken, or_kept, turns_to}
use Rattle.isolation.specs.History.{Moment, wait, happens, entry}

-- ## The moments since the cell was entered, the latest first

-- reselection and handover enter another cell
abbrev pub enters : Cause → Bool
enters nothing = false
enters (joining k) = false
enters (paged k) = false
enters (moving m) = count_forgotten_by m
enters (numbered n) = false

abbrev pub since : List Moment → List Moment
since [] = []
since (wait t ∷ past) = wait t ∷ since past
since (happens x w ∷ past) = happens x w ∷ pick (enters x) [] (since past)
since (entry e ∷ past) = entry e ∷ since past

-- ## The bit and the counts among them

abbrev pub news_of : Moment → News
news_of (wait t) = no_news
news_of (happens x w) = w
news_of (entry e) = no_news

abbrev pub bit_by : News → Option ℕ → Option ℕ
bit_by no_news b = b
bit_by (counts n) b = b
bit_by (counts_over b22 n) b = b
bit_by (bits v) b = some v

-- the last value of the bit
abbrev pub last_bit : List Moment → Option ℕ
last_bit [] = none
last_bit (m ∷ ms) = bit_by (news_of m) (last_bit ms)

-- the count that is taken, by the bit before
abbrev pub taken : Option ℕ → News → Option ℕ
taken b no_news = none
taken b (counts n) = some n
taken b (counts_over b22 n) = over_taken b b22 n
taken b (bits v) = none

-- the bit goes from 1 to 0
abbrev pub turns : Option ℕ → News → Bool
turns b no_news = false
turns b (counts n) = false
turns b (counts_over b22 n) = false
turns b (bits v) = turns_to b v

abbrev pub last_taken : List Moment → Option ℕ
last_taken [] = none
last_taken (m ∷ ms) = or_kept (taken (last_bit ms) (news_of m)) (last_taken ms)

-- how often it went from 1 to 0 since the last count was taken; a count that is taken begins anew
abbrev pub turns_then : Option ℕ → Bool → ℕ → ℕ
turns_then none true k = suc k
turns_then none false k = k
turns_then (some n) t k = 0

abbrev pub turns_since : List Moment → ℕ
turns_since [] = 0
turns_since (m ∷ ms) = turns_then (taken (last_bit ms) (news_of m)) (turns (last_bit ms) (news_of m)) (turns_since ms)

-- ## The kept count

-- raised so often
abbrev pub raised_times : ℕ → ℕ → ℕ
raised_times zero n = n
raised_times (suc k) n = next (raised_times k n)

abbrev pub raised_all : ℕ → Option ℕ → Option ℕ
raised_all k none = none
raised_all k (some n) = some (raised_times k n)

abbrev pub kept_among : List Moment → Option ℕ
kept_among ms = raised_all (turns_since ms) (last_taken ms)

unfoldable pub kept_count : List Moment → Option ℕ
kept_count past = kept_among (since past)
