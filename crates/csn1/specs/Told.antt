-- How what was read is told in the code's own types. Assumes nothing.
use Rattle.std.specs.Prelude.{List, [], ◌∷◌, Bool, true, false, not, ℕ, zero, suc, ◌+◌, ◌*◌, ◌%◌, ◌^◌, length, leb, eqb}
use Rattle.std.proofs.Math.Option.{Option, none, some}
use Rattle.bits.specs.Field.{pick}
use Rattle.csn1.specs.Format.{Res, ok, bad, ◌then◌, ran_out, no_refusal, Format, num, opt, pad_bit}
use Rattle.csn1.specs.declared.Refusal.{Refusal}
use Rattle.csn1.specs.declared.Flagged.{Flagged}
use Rattle.csn1.specs.declared.Lead.{Lead}

-- ## Flags, bits and places of a list

abbrev pub is_there : {A : Type 0} → Option A → Bool
is_there none = false
is_there (some a) = true

abbrev pub or_zero : Option ℕ → ℕ
or_zero none = 0
or_zero (some v) = v

-- what a flag says is there
abbrev pub there : {A : Type 0} → Bool → A → Option A
there true a = some a
there false a = none

-- a bit as a flag, and a flag as a bit
abbrev pub is_one : ℕ → Bool
is_one b = eqb b 1

abbrev pub as_bit : Bool → ℕ
as_bit true = 1
as_bit false = 0

-- a bit that may be missing, as a flag
abbrev pub or_false : Option ℕ → Bool
or_false none = false
or_false (some b) = is_one b

-- the n places of a list: its first n values, and z in the places that it does not use
abbrev pub padded : {A : Type 0} → A → ℕ → List A → List A
padded z zero l = []
padded z (suc n) [] = z ∷ padded z n []
padded z (suc n) (a ∷ l) = a ∷ padded z n l

-- ## Messages of any length

-- a message of over 4096 octets is answered as if its bits had run out
abbrev pub read_at_of : {A : Type 0} → Format A → List ℕ → ℕ → Res A
read_at_of F s p = pick (leb (length s) 4096) (F.read s p) (bad (ran_out p))

-- ## A number led by a flag

-- no number is wider than 64 bits
abbrev pub flagged_at : List ℕ → ℕ → ℕ → Res (Option ℕ)
flagged_at s p w = pick (leb w 64) (read_at_of (opt (num w)) s p) (bad (ran_out p))

abbrev pub flagged_of : Res (Option ℕ) → Flagged
flagged_of (bad r) = record { refusal = r; hasValue = false; value = 0; at = 0 }
flagged_of (ok v q) = record { refusal = no_refusal; hasValue = is_there v; value = or_zero v; at = q }

-- ## What leads a later release's part

-- whether it is H; nothing where all bits are used
unfoldable pub lead : List ℕ → ℕ → Res Bool
lead s p = pick (eqb p (length s * 8)) (ok false p) ((num 1).read s p then λ b q. ok (not (eqb b (pad_bit p))) q)

abbrev pub lead_at : List ℕ → ℕ → Res Bool
lead_at s p = pick (leb (length s) 4096) (lead s p) (bad (ran_out p))

abbrev pub lead_of : Res Bool → Lead
lead_of (bad r) = record { refusal = r; high = false; at = 0 }
lead_of (ok h q) = record { refusal = no_refusal; high = h; at = q }

-- ## An L/H-coded bit

abbrev pub coded_of : Res ℕ → Lead
coded_of (bad r) = record { refusal = r; high = false; at = 0 }
coded_of (ok v q) = record { refusal = no_refusal; high = is_one v; at = q }

-- ## What a C function returns

-- the number in the low octet, and above it the bit number
unfoldable pub code_of : Refusal → ℕ
code_of r = r.number + 256 * (r.bit % 2 ^ 24)
