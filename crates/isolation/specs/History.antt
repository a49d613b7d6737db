-- What a call has seen, moment by moment, and the half that came and that nothing discarded since. No state of a receiver is used. Assumes nothing.
use Rattle.std.specs.Prelude.{◌≡◌, ◌⊎◌, List, [], ◌∷◌, ◌++◌, map, true, false, ℕ, ◌+◌, ◌-◌, ◌≤◌, ◌<◌, take}
use Rattle.std.proofs.Math.Option.{Option, none, some}
use Rattle.receiver.specs.declared.Record.{Record}
use Rattle.receiver.specs.Model.{agree}
use Rattle.receiver.specs.Channels.{Channel}
use Rattle.receiver.specs.Count.{News}
use Rattle.receiver.specs.Step.{Cause, nothing, joining, paged, moving, numbered}
use Rattle.isolation.specs.One.{may_lead, gone_by, Kind, clear, piece, first, second, bare, unusable, kind_on, Which, theFirst, theSecond, Half, Known, unknown, known_after, Seen}

-- ## Moments

pub data Moment : Type 0 where
  -- milliseconds from one accepted event to the next
  wait : ℕ → Moment
  -- what an event is before its entries: nothing, a join, an entry of the PCH, a move of the mobile, a message's NLN; and what it tells of the cell's count
  happens : Cause → News → Moment
  entry : Record → Moment

-- a past, its latest moment first, followed by moments in order
abbrev pub followed : List Moment → List Moment → List Moment
followed past [] = past
followed past (m ∷ ms) = followed (m ∷ past) ms

-- an event before its entries, as far as its first k, and the whole of it
abbrev pub opened : List Moment → Seen → List Moment
opened past v = happens v.sight.cause v.sight.news ∷ wait v.step ∷ past

abbrev pub until_entry : List Moment → Seen → ℕ → List Moment
until_entry past v k = followed (opened past v) (map entry (take k v.sight.entries))

abbrev pub after_event : List Moment → Seen → List Moment
after_event past v = followed (opened past v) (map entry v.sight.entries)

-- all moments of what was seen
unfoldable pub past_of : List Moment → List Seen → List Moment
past_of past [] = past
past_of past (v ∷ vs) = past_of (after_event past v) vs

-- what is known of the cell: the last NLN seen, the kept count and bit 22
abbrev pub last_known : List Moment → Known
last_known [] = unknown
last_known (wait t ∷ past) = last_known past
last_known (happens x w ∷ past) = known_after (last_known past) x w
last_known (entry e ∷ past) = last_known past

-- the sum of the steps
abbrev pub took : Moment → ℕ
took (wait t) = t
took (happens x w) = 0
took (entry e) = 0

abbrev pub elapsed : List Moment → ℕ
elapsed [] = 0
elapsed (m ∷ past) = elapsed past + took m

-- ## What comes, and what discards

-- a first half is opposite to a second
abbrev pub Opposite : Kind → Which → Type 0
Opposite clear w = ⊥
Opposite piece w = ⊥
Opposite first theFirst = ⊥
Opposite first theSecond = Unit {0}
Opposite second theFirst = Unit {0}
Opposite second theSecond = ⊥
Opposite bare w = ⊥
Opposite unusable w = ⊥

-- a half that is stored where nothing is held: the second only where it may come first
abbrev pub Storable : Channel → Kind → Which → Type 0
Storable c clear w = ⊥
Storable c piece w = ⊥
Storable c first theFirst = Unit {0}
Storable c first theSecond = ⊥
Storable c second theFirst = ⊥
Storable c second theSecond = may_lead c ≡ true
Storable c bare w = ⊥
Storable c unusable w = ⊥

-- the NLN is no change: none was seen before, or the same one
abbrev pub SameNln : Option ℕ → ℕ → Type 0
SameNln none n = Unit {0}
SameNln (some l) n = l ≡ n

-- a cause does not discard the half: no join of another key, no entry of the PCH under another key (only the PCH shows one), no move that discards halves of the
-- channel, no change of NLN (only the NCH shows one)
abbrev pub Leaves : ℕ → Channel → Known → Cause → Type 0
Leaves key c l nothing = Unit {0}
Leaves key c l (joining k) = k ≡ key
Leaves key c l (paged k) = k ≡ key
Leaves key c l (moving m) = gone_by c m ≡ false
Leaves key c l (numbered n) = SameNln l.nln n

-- the moment after a past does not discard the half w of entry e: its cause leaves it, and no entry joined with it. Time is counted apart.
abbrev pub Spares : ℕ → Channel → List Moment → Which → Record → Moment → Type 0
Spares key c past w e (wait t) = Unit {0}
Spares key c past w e (happens x v) = Leaves key c (last_known past) x
Spares key c past w e (entry x) = Opposite (kind_on c x) w → agree e x ≡ true → ⊥

-- ## The half that stands

-- the moment is the coming of the half
abbrev pub Begins : Channel → Half → Moment → Type 0
Begins c h (wait t) = ⊥
Begins c h (happens x w) = ⊥
Begins c h (entry e) = (e ≡ h.entry) × (h.age ≡ 0) × Storable c (kind_on c e) h.which

abbrev pub younger : ℕ → Half → Half
younger t h = record { which = h.which; age = h.age - t; entry = h.entry }

-- a half stands where the last moment spared one that stood, and it is not as old as its timer; or where that moment was its coming, and none stood
unfoldable pub Standing : ℕ → Channel → ℕ → List Moment → Half → Type 0
Standing key c timer [] h = ⊥
Standing key c timer (m ∷ past) h =
    (Spares key c past h.which h.entry m × (took m ≤ h.age) × (h.age < timer) × Standing key c timer past (younger (took m) h))
    ⊎ (Begins c h m × ((g : Half) → Standing key c timer past g → ⊥))

-- each later moment, after what was before it, spares the half
abbrev pub AllSpare : ℕ → Channel → Which → Record → List Moment → List Moment → Type 0
AllSpare key c w e before [] = Unit {0}
AllSpare key c w e before (m ∷ later) = Spares key c (later ++ before) w e m × AllSpare key c w e before later

-- The history of a half that stands: it came where none stood, nothing discarded it later, and the steps since then are its age, below its timer.
pub record CameAndStayed (key : ℕ) (c : Channel) (timer : ℕ) (past : List Moment) (h : Half) : Type 0 where
  pub before : List Moment
  pub later : List Moment
  pub split : past ≡ later ++ (entry h.entry ∷ before)
  pub half : Storable c (kind_on c h.entry) h.which
  pub free : (g : Half) → Standing key c timer before g → ⊥
  pub spared : AllSpare key c h.which h.entry (entry h.entry ∷ before) later
  pub summed : elapsed later ≡ h.age
  pub young : h.age < timer
