-- What the readers of Release 6's lists go by: their entries, and that no refusal of theirs is numbered 0. Assumes nothing.
use mathlib.Core.Path.{◌≡◌}
use mathlib.Core.List.{List, [], ◌∷◌}
use mathlib.Core.Bool.{Bool, true, false}
use mathlib.Core.Option.{Option}
use Prim.Native.Nat.{ℕ, zero, suc, ◌+◌, ◌*◌, ◌≤◌, ◌<◌}
use native.Mathlib.Omega.{arith}
use lib.ListN.{length, get_or}
use borrow.Author.Tests.{le-leb, lt-leb}
use lib.Dec.{leb}
use Rattle.bits.specs.Field.{fetched, pick}
use Rattle.bits.specs.declared.Got.TheVariants.{Bits, Short}
use Rattle.csn1.specs.declared.Refusal.{Refusal}
use Rattle.csn1.specs.Format.{ok, bad, ran_out, ground, total, fields_at, row, list, opt, num}
use Rattle.csn1.specs.Grammar.{listed, format}
use Rattle.csn1.specs.Promises.{Grounded}
use Rattle.csn1.proofs.Reading.{num-got, num-short}
use Rattle.csn1.proofs.Promises.{lawful}
use Rattle.nch.specs.Octets.{reduced, random}
use Rattle.nch.proofs.Numbering.{reduced-numbered}

-- ## An entry

-- the widths of a reduced reference's fields
abbrev pub widths : List ℕ
widths = 27 ∷ 1 ∷ []

pub widths-small : (k : ℕ) → get_or widths k 0 ≤ 64
widths-small zero = omega arith
widths-small (suc zero) = omega arith
widths-small (suc (suc k)) = omega arith

-- a reduced reference, from its two fields
module _ (s : List ℕ) (p : ℕ) where
  pub reduced-short : (r : Refusal) → (row widths).read s p ≡ bad r → (format reduced).read s p ≡ bad r
  reduced-short r e = rw e

  pub reduced-high : (l : List ℕ) (q : ℕ) → (row widths).read s p ≡ ok l q → 99999999 < get_or l 0 0 → (format reduced).read s p ≡ bad (ground 4)
  reduced-high l q e h = rw (e, lt-leb (get_or l 0 0) 99999999 h)

  pub reduced-low : (l : List ℕ) (q : ℕ) → (row widths).read s p ≡ ok l q → get_or l 0 0 ≤ 99999999 → (format reduced).read s p ≡ ok l q
  reduced-low l q e h = rw (e, le-leb (get_or l 0 0) 99999999 h)

-- behind a row
pub row_reached : (ws s : List ℕ) (p : ℕ) (l : List ℕ) (q : ℕ) → (row ws).read s p ≡ ok l q → p + total ws ≡ q
row_reached ws s p l q e = go (leb (p + total ws) (length s * 8)) e
  where
    go : (t : Bool) → pick t (ok (fields_at ws s p) (p + total ws)) (bad (ran_out p)) ≡ ok l q → p + total ws ≡ q
    go true e = cc
    go false e = absurd (let z : ◌≡◌ {A = ℕ} 0 1 = cc in omega arith)

-- what a row's fields are
pub row_fields : (ws s : List ℕ) (p : ℕ) (l : List ℕ) (q : ℕ) → (row ws).read s p ≡ ok l q → fields_at ws s p ≡ l
row_fields ws s p l q e = go (leb (p + total ws) (length s * 8)) e
  where
    go : (t : Bool) → pick t (ok (fields_at ws s p) (p + total ws)) (bad (ran_out p)) ≡ ok l q → fields_at ws s p ≡ l
    go true e = cc
    go false e = absurd (let z : ◌≡◌ {A = ℕ} 0 1 = cc in omega arith)

-- a random entry, from its segment and what the flag leads
pub random-short : (s : List ℕ) (p : ℕ) → Short ≡ fetched s p 1 → (format random).read s p ≡ bad (ran_out p)
random-short s p e = rw (num-short s p 1 (omega arith) e)

module _ (s : List ℕ) (p b q : ℕ) (e : Bits b ≡ fetched s p 1) (n : p + 1 ≡ q) where
  pub random-bad : (r : Refusal) → (opt (num 36)).read s q ≡ bad r → (format random).read s p ≡ bad r
  random-bad r f = rw (num-got s p 1 b e, n, f)

  pub random-ok : (v : Option ℕ) (t : ℕ) → (opt (num 36)).read s q ≡ ok v t → (format random).read s p ≡ ok (b, v) t
  random-ok v t f = rw (num-got s p 1 b e, n, f)

-- ## The lists

-- no refusal of a list is numbered 0
pub reduceds_ground : (s : List ℕ) (p : ℕ) → Grounded ((list (format reduced)).read s p)
reduceds_ground s p = (lawful (listed reduced) reduced-numbered).grounds s p

pub randoms-ground : (s : List ℕ) (p : ℕ) → Grounded ((list (format random)).read s p)
randoms-ground s p = (lawful (listed random) (tt, tt)).grounds s p
