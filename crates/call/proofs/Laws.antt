-- A call's bits: where they stand does not matter, how many they are, and which numbers they hold. Assumes nothing.
use mathlib.Core.Path.{◌≡◌, refl, sym, ap, ◌∙◌}
use mathlib.Core.List.{List, [], ◌∷◌}
use mathlib.Core.Bool.{Bool, true, false}
use mathlib.Core.Option.{Option, none, some}
use mathlib.Core.Logic.{◌⊎◌, inl, inr}
use Prim.Native.Nat.{ℕ, ◌+◌, ◌*◌, ◌^◌, ◌<◌}
use native.Mathlib.Omega.{arith}
use lib.ListN.{length, length-append}
use lib.Pow.{pow_mono}
use lib.Dec.{ltb}
use borrow.Author.Tests.{lt-ltb}
use Rattle.bits.specs.Field.{pick}
use Rattle.csn1.specs.Format.{Format, row_bits, opt_bits, when_bits}
use Rattle.csn1.specs.Grammar.{format}
use Rattle.csn1.specs.Told.{there, as_bit}
use Rattle.csn1.proofs.Holding.{length-num_bits}
use Rattle.csn1.proofs.Writing.{length-row}
use Rattle.call.specs.declared.Call.{Call}
use Rattle.call.specs.Call.{CallValue, DescriptionValue, group_call, call_value, description, frequencies}
use Rattle.call.specs.Write.{call_size}

-- the widths of the 36 bits
abbrev pub widths : List ℕ
widths = 27 ∷ 1 ∷ 1 ∷ 3 ∷ 4 ∷ []

-- eight octets and more hold every number of 64 bits
pub long-list : (n f : ℕ) → 7 < n → f < 2 ^ 64 → true ≡ ltb f (2 ^ (8 * n))
long-list n f h l = sym (lt-ltb f (2 ^ (8 * n)) (omega (arith, pow_mono {i = 64} {j = 8 * n} (omega arith))))

-- ## Where the bits stand

pub when_anywhere : {A : Type 0} (F : Format A) → ((n p : ℕ) (a : A) → F.bits n p a ≡ F.bits 0 0 a) → (n p : ℕ) (o : Option A) → when_bits F n p o ≡ when_bits F 0 0 o
when_anywhere F f n p none = refl
when_anywhere F f n p (some a) = f n p a

-- a flag and, where it is set, the part
pub opt_anywhere : {A : Type 0} (F : Format A) → ((n p : ℕ) (a : A) → F.bits n p a ≡ F.bits 0 0 a) → (n p : ℕ) (t : Bool) (a : A)
    → as_bit t ∷ when_bits F 0 0 (there t a) ≡ opt_bits F n p (there t a)
opt_anywhere F f n p false a = refl
opt_anywhere F f n p true a = ap (λ (b : List ℕ). 1 ∷ b) (sym (f n (p + 1) a))

-- no part of a call depends on the place
pub frequencies_anywhere : (n p : ℕ) (x : (ℕ × ℕ) ⊎ ℕ) → (format frequencies).bits n p x ≡ (format frequencies).bits 0 0 x
frequencies_anywhere n p (inl a) = refl
frequencies_anywhere n p (inr f) = refl

pub description_anywhere : (n p : ℕ) (d : DescriptionValue) → (format description).bits n p d ≡ (format description).bits 0 0 d
description_anywhere n p (x, none) = refl
description_anywhere n p (x, some (inl a)) = refl
description_anywhere n p (x, some (inr f)) = refl

pub call_anywhere : (n p : ℕ) (v : CallValue) → group_call.bits n p v ≡ group_call.bits 0 0 v
unfolding group_call
call_anywhere n p (l, none) = refl
call_anywhere n p (l, some (x, none)) = refl
call_anywhere n p (l, some (x, some (inl a))) = refl
call_anywhere n p (l, some (x, some (inr f))) = refl

-- ## How many they are

abbrev pub frequencies_size : (ℕ × ℕ) ⊎ ℕ → ℕ
frequencies_size (inl a) = 9 + 8 * a.0
frequencies_size (inr f) = 65

-- what stands behind the hopping flag, and behind the flag for a description
abbrev pub behind_size : Option ((ℕ × ℕ) ⊎ ℕ) → ℕ
behind_size none = 0
behind_size (some x) = frequencies_size x

abbrev pub part_size : Option DescriptionValue → ℕ
part_size none = 0
part_size (some d) = 25 + behind_size d.1

module _ (n p : ℕ) where
  pub frequencies-size : (x : (ℕ × ℕ) ⊎ ℕ) → length ((format frequencies).bits n p x) ≡ frequencies_size x
  frequencies-size (inl a) = simp (length-append, length-num_bits) (omega arith)
  frequencies-size (inr f) = simp length-num_bits

  pub description-size : (d : DescriptionValue) → length ((format description).bits n p d) ≡ 25 + behind_size d.1
  description-size ((ch, h), none) = simp (length-append, length-num_bits)
  description-size ((ch, h), some (inl a)) = simp (length-append, length-num_bits) (omega arith)
  description-size ((ch, h), some (inr f)) = simp (length-append, length-num_bits)

  pub value-size : (v : CallValue) → length v.0 ≡ 5 → length (group_call.bits n p v) ≡ 37 + part_size v.1
  unfolding group_call
  value-size (l, none) e = simp length-append (omega (arith, length-row widths l e))
  value-size (l, some d) e =
      let q : ℕ = p + length (row_bits widths l) in
      length-append (row_bits widths l) (1 ∷ (format description).bits n (q + 1) d)
      ∙ omega (arith, length-row widths l e, ap length (description_anywhere n (q + 1) d), ap length (description_anywhere n p d), description-size d)

-- of a record: whether it is described, whether it hops, whether over a short list, and the allocation's length
abbrev pub size_from : Bool → Bool → Bool → ℕ → ℕ
size_from false h s n = 37
size_from true false s n = 62
size_from true true true n = 127
size_from true true false n = 71 + 8 * n

pub call-size : (c : Call) → call_size c ≡ size_from c.hasDescription c.description.hopping c.description.shortlist c.description.length
unfolding call_size
call-size c = value-size 0 0 (call_value c) refl ∙ go c.hasDescription c.description.hopping c.description.shortlist
  where
    go : (d h s : Bool)
        → 37 + part_size (there d ((c.description.channel, as_bit h), there h (pick s (inr c.description.frequencies) (inl (c.description.length, c.description.frequencies)))))
        ≡ size_from d h s c.description.length
    go false h s = refl
    go true false s = refl
    go true true true = refl
    go true true false = omega arith
