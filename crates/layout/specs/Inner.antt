-- What only private functions' contracts speak of; nothing public rests on it. Assumes nothing.
use Rattle.std.specs.Prelude.{◌≡◌, List, Bool, false, not, ℕ, zero, suc, ◌+◌, ◌/◌, ◌%◌, ◌<◌, get_or}
use Rattle.bits.specs.Field.{both}
use Rattle.receiver.specs.declared.Rule.{Rule}
use Rattle.receiver.specs.Channels.{places}
use Rattle.receiver.specs.Model.{spares, ran_out_of}
use Rattle.layout.specs.Layout.{kind_place, slot_no}
use Rattle.layout.specs.Sweep.{timer_no}

-- no half at n places from a place on has run out
abbrev pub Running : ℕ → List ℕ → ℕ → ℕ → Type 0
Running now l from n = (k : ℕ) → k < n → ran_out_of now (timer_no l (from + k)) (slot_no l (from + k)) ≡ false

-- a rule that takes halves of no channel
abbrev pub takes_none_of : Rule → Bool
takes_none_of rule = both (not rule.nch) (both (not rule.facch) (not rule.pch))

-- what a rule does not leave is empty already
abbrev pub Leaves : Rule → List ℕ → Type 0
Leaves rule l = (i : ℕ) → i < places → spares rule i ≡ false → get_or l (kind_place i) 0 ≡ 0

-- the k-th octet of a number, the least significant first
unfoldable pub octet_of : ℕ → ℕ → ℕ
octet_of x zero = x % 256
octet_of x (suc k) = octet_of (x / 256) k

-- every third of eight octets is 0: in the first number from its first on, in the second from its second, in the third from its third
abbrev pub Thirds : ℕ → ℕ → ℕ → Type 0
Thirds x y z = (k : ℕ) → k < 8 → (k % 3 ≡ 0 → octet_of x k ≡ 0) × ((k % 3 ≡ 1 → octet_of y k ≡ 0) × (k % 3 ≡ 2 → octet_of z k ≡ 0))
