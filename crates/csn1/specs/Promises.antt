-- What holds of every grammar: each reads what the other wrote, bit for bit, and tells where bits ran out. Assumes nothing.
use Rattle.std.specs.Prelude.{◌≡◌, List, true, false, ℕ, ◌+◌, ◌*◌, ◌/◌, ◌%◌, ◌≤◌, ◌<◌, length, take}
use Rattle.csn1.specs.declared.Refusal.{Refusal}
use Rattle.csn1.specs.Format.{Res, ok, bad, is_clip, Format, put_bits, Holds, Binary}
use Rattle.csn1.specs.Grammar.{Grammar, ◌and◌, later, inside, format, Numbered}
use Rattle.csn1.specs.Told.{code_of}
use Rattle.csn1.specs.Clip.{Comes, Clipped, Outside, ReleaseOf, Steady, Cut}

-- what was read fits, its bits stand there one for one, and the next place is past them
pub record Stands {A : Type 0} (F : Format A) (s : List ℕ) (p : ℕ) (a : A) (q : ℕ) : Type 0 where
  pub fitting : F.fits a
  pub next : q ≡ p + length (F.bits (length s * 8) p a)
  pub holds : Holds s p (F.bits (length s * 8) p a)
  pub within : q ≤ length s * 8

-- a refusal has a number, which is not 0
abbrev pub Grounded : {A : Type 0} → Res A → Type 0
Grounded (ok a q) = Unit {0}
Grounded (bad r) = 0 < r.number

pub record Lawful {A : Type 0} (F : Format A) : Type 0 where
  -- where a value's written bits stand, reading gives the value and the place past them
  pub back :
      (s : List ℕ) (p : ℕ) (a : A)
      → F.fits a
      → p + length (F.bits (length s * 8) p a) ≤ length s * 8
      → Holds s p (F.bits (length s * 8) p a)
      → F.read s p ≡ ok a (p + length (F.bits (length s * 8) p a))
  -- what was read stands there, and its length is the place reached
  pub stands : (s : List ℕ) (p : ℕ) (a : A) (q : ℕ) → p ≤ length s * 8 → F.read s p ≡ ok a q → Stands F s p a q
  -- only 0 and 1 are written
  pub binary : (n p : ℕ) (a : A) → Binary (F.bits n p a)
  -- no refusal is numbered 0
  pub grounds : (s : List ℕ) (p : ℕ) → Grounded (F.read s p)

-- The one theorem over all grammars.
abbrev pub EveryGrammarIsLawful : Type 1
EveryGrammarIsLawful = (A : Type 0) (g : Grammar A) → Numbered g → Lawful (format g)

-- Reading what was put into octets of any content gives it back.
abbrev pub WhatWasWrittenIsRead : Type 1
WhatWasWrittenIsRead =
    (A : Type 0) (g : Grammar A)
    → Numbered g
    → (s : List ℕ) (p : ℕ) (a : A)
    → (format g).fits a
    → p + length ((format g).bits (length s * 8) p a) ≤ length s * 8
    → (format g).read (put_bits s p ((format g).bits (length s * 8) p a)) p ≡ ok a (p + length ((format g).bits (length s * 8) p a))

-- ## Bits that ran out

-- Where bits ran out, the refusal's place is that of a field that reading came to and that the octets do not hold whole, and its number is that field's; every
-- other refusal has the place 0.
abbrev pub AClipIsToldWhereItIs : Type 1
AClipIsToldWhereItIs =
    (A : Type 0) (g : Grammar A)
    → Numbered g
    → (s : List ℕ) (p : ℕ) (r : Refusal)
    → p ≤ length s * 8
    → (format g).read s p ≡ bad r
    → (is_clip r.number ≡ true → Clipped g s p r) × (is_clip r.number ≡ false → r.bit ≡ 0)

-- And it is the only one: where reading comes to a field that the octets do not hold whole, it is refused there.
abbrev pub WhatIsMissingIsRefusedThere : Type 1
WhatIsMissingIsRefusedThere =
    (A : Type 0) (g : Grammar A)
    → Numbered g
    → (s : List ℕ) (p : ℕ) (r : Refusal) (w : ℕ)
    → p ≤ length s * 8
    → Comes g s p r w
    → length s * 8 < r.bit + w
    → (format g).read s p ≡ bad r

-- The number says in which release, from the bit behind its H on; where no release is begun it is 2.
abbrev pub TheNumberSaysTheRelease : Type 1
TheNumberSaysTheRelease =
    (A B C D : Type 0) (f : Grammar A) (g : Grammar B) (h : Grammar C) (k : Grammar D)
    → Numbered (f and g and later (inside 14 h) and later (inside 15 k))
    → Outside (f and g and h and k)
    → (s : List ℕ) (p : ℕ) (r : Refusal)
    → p ≤ length s * 8
    → (format (f and g and later (inside 14 h) and later (inside 15 k))).read s p ≡ bad r
    → is_clip r.number ≡ true
    → ReleaseOf (f and g) (inside 14 h) (inside 15 k) s p r

-- Octets that are cut are refused as bits that ran out, or the cut fell at the beginning of a later release: then they are read without it and what follows. Where
-- nothing that was read is cut off, the same is read.
abbrev pub ACutIsToldAsACut : Type 1
ACutIsToldAsACut =
    (A : Type 0) (g : Grammar A)
    → Numbered g
    → Steady g
    → (s : List ℕ) (p : ℕ) (a : A) (q : ℕ)
    → p ≤ length s * 8
    → (format g).read s p ≡ ok a q
    → (n : ℕ)
    → p ≤ n * 8
    → (n * 8 < q → Cut g n a ((format g).read (take n s) p)) × (q ≤ n * 8 → (format g).read (take n s) p ≡ ok a q)

-- What a C function returns tells the number and the bit: of octets that are read, up to 4096, no bit number is cut off.
abbrev pub AResultTellsNumberAndBit : Type 1
AResultTellsNumberAndBit =
    (A : Type 0) (g : Grammar A)
    → Numbered g
    → (s : List ℕ) (p : ℕ) (r : Refusal)
    → length s ≤ 4096
    → p ≤ length s * 8
    → (format g).read s p ≡ bad r
    → (code_of r % 256 ≡ r.number) × (code_of r / 256 ≡ r.bit)
