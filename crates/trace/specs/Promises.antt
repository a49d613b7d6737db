-- What holds of the fields that are met, of every grammar and every tree of kinds. Assumes nothing.
use Rattle.std.specs.Prelude.{◌≡◌, List, [], ◌∷◌, true, ℕ, ◌+◌, ◌*◌, ◌≤◌, length}
use Rattle.bits.specs.Field.{field}
use Rattle.csn1.specs.declared.Refusal.{Refusal}
use Rattle.csn1.specs.Format.{ok, bad, is_clip}
use Rattle.csn1.specs.Grammar.{Grammar, format, Numbered}
use Rattle.trace.specs.Fields.{Met, Kinds, met_of}
use Rattle.trace.specs.NchKinds.{nch_met}
use Rattle.trace.specs.FacchKinds.{facch_met}

-- the first field begins at p, and each begins where the one before it ends
abbrev pub Gapless : ℕ → List Met → Type 0
Gapless p [] = Unit {0}
Gapless p (m ∷ ms) = (m.place ≡ p) × Gapless (m.place + m.width) ms

-- where the last of them ends; p where there is none
abbrev pub end_of : ℕ → List Met → ℕ
end_of p [] = p
end_of p (m ∷ ms) = end_of (m.place + m.width) ms

-- every field lies within the octets, and its value is what stands there
abbrev pub Standing : List ℕ → List Met → Type 0
Standing s [] = Unit {0}
Standing s (m ∷ ms) = (m.place + m.width ≤ length s * 8) × (m.value ≡ field s m.place m.width) × Standing s ms

pub record Faithful {A : Type 0} (g : Grammar A) (k : Kinds) (s : List ℕ) (p : ℕ) : Type 0 where
  -- there is no gap
  pub gapless : Gapless p (met_of g k s p)
  pub standing : Standing s (met_of g k s p)
  -- where reading gives a value, the last field ends at the place reached
  pub read : (a : A) (q : ℕ) → (format g).read s p ≡ ok a q → end_of p (met_of g k s p) ≡ q
  -- where bits ran out, it ends at the refusing bit
  pub clipped : (r : Refusal) → Numbered g → (format g).read s p ≡ bad r → is_clip r.number ≡ true → end_of p (met_of g k s p) ≡ r.bit

-- The fields listed are the grammar's, in order, without gaps, up to the last bit used or the refusing bit.
abbrev pub EveryTraceIsFaithful : Type 1
EveryTraceIsFaithful = (A : Type 0) (g : Grammar A) (k : Kinds) (s : List ℕ) (p : ℕ) → p ≤ length s * 8 → Faithful g k s p

-- No message has more fields than bits.
abbrev pub NoMessageHasMoreFieldsThanBits : Type 0
NoMessageHasMoreFieldsThanBits = (s : List ℕ) → (length (nch_met s) ≤ 160) × (length (facch_met s) ≤ 184)
