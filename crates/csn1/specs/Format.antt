-- Formats of bits: how a value is written at a place, how it is read there, and which values fit. Assumes nothing.
use Rattle.std.specs.Prelude.{List, [], ◌∷◌, ◌++◌, Bool, true, false, ◌≡◌, ◌⊎◌, ℕ, zero, suc, ◌+◌, ◌-◌, ◌*◌, ◌/◌, ◌%◌, ◌^◌, ◌<◌, length, leb, eqb}
use Rattle.std.proofs.Math.Option.{Option, none, some}
use Rattle.std.proofs.Common.{inl, inr}
use Rattle.bits.specs.Field.{bit, field, set_bit, pick}
use Rattle.csn1.specs.declared.Refusal.{Refusal}

infixr 40 ◌▹◌ ◌⨟◌
infixl 30 ◌then◌
-- ## What reading gives

-- nothing is refused
abbrev pub no_refusal : Refusal
no_refusal = record { number = 0; bit = 0 }

-- the bits of the field that begins at p ran out
unfoldable pub ran_out : ℕ → Refusal
ran_out p = record { number = 2; bit = p }

-- a test was not met: it has no place
unfoldable pub ground : ℕ → Refusal
ground m = record { number = m; bit = 0 }

-- the numbers for bits that ran out: 2, and 14 and 15 inside Releases 6 and 7
abbrev pub is_clip : ℕ → Bool
is_clip m = pick (eqb m 2) true (pick (eqb m 14) true (eqb m 15))

-- inside a later release bits that ran out have its number, and their place; every other refusal stays
unfoldable pub renumbered : ℕ → Refusal → Refusal
renumbered m r = pick (eqb r.number 2) (record { number = m; bit = r.bit }) r

-- a value and the next place, or a refusal
pub data Res (A : Type 0) : Type 0 where
  ok : A → ℕ → Res A
  bad : Refusal → Res A

abbrev pub ◌then◌ : {A B : Type 0} → Res A → (A → ℕ → Res B) → Res B
◌then◌ (ok a q) f = f a q
◌then◌ (bad r) f = bad r

-- ## What a format is

-- `bits n p a`: the bits of a, written at place p of a message of n bits. `read s p`: what is read at p of the octets s. `fits a`: a can be written
pub record Format (A : Type 0) : Type 1 where
  pub bits : ℕ → ℕ → A → List ℕ
  pub read : List ℕ → ℕ → Res A
  pub fits : A → Type 0

-- ## A number

-- the w bits of v, the highest first
unfoldable pub num_bits : ℕ → ℕ → List ℕ
num_bits zero v = []
num_bits (suc w) v = num_bits w (v / 2) ++ (v % 2 ∷ [])

-- a number of w bits
abbrev pub num : ℕ → Format ℕ
num w =
    record {
      bits = λ n p v. num_bits w v;
      read = λ s p. pick (leb (p + w) (length s * 8)) (ok (field s p w) (p + w)) (bad (ran_out p));
      fits = λ v. v < 2 ^ w;
    }

-- ## Numbers of several widths, side by side: one field, which is there whole or not

abbrev pub total : List ℕ → ℕ
total [] = 0
total (w ∷ ws) = w + total ws

abbrev pub row_bits : List ℕ → List ℕ → List ℕ
row_bits [] l = []
row_bits (w ∷ ws) [] = []
row_bits (w ∷ ws) (v ∷ l) = num_bits w v ++ row_bits ws l

abbrev pub fields_at : List ℕ → List ℕ → ℕ → List ℕ
fields_at [] s p = []
fields_at (w ∷ ws) s p = field s p w ∷ fields_at ws s (p + w)

abbrev pub RowFits : List ℕ → List ℕ → Type 0
RowFits [] [] = Unit {0}
RowFits [] (v ∷ l) = ⊥
RowFits (w ∷ ws) [] = ⊥
RowFits (w ∷ ws) (v ∷ l) = (v < 2 ^ w) × RowFits ws l

abbrev pub row : List ℕ → Format (List ℕ)
row ws =
    record {
      bits = λ n p l. row_bits ws l;
      read = λ s p. pick (leb (p + total ws) (length s * 8)) (ok (fields_at ws s p) (p + total ws)) (bad (ran_out p));
      fits = RowFits ws;
    }

-- ## One after the other

-- where the first says what the second is
abbrev pub ◌▹◌ : {A B : Type 0} → Format A → (A → Format B) → Format (A × B)
◌▹◌ F G =
    record {
      bits = λ n p v. F.bits n p v.0 ++ (G v.0).bits n (p + length (F.bits n p v.0)) v.1;
      read = λ s p. F.read s p then λ a q. (G a).read s q then λ b r. ok (a, b) r;
      fits = λ v. F.fits v.0 × (G v.0).fits v.1;
    }

abbrev pub ◌⨟◌ : {A B : Type 0} → Format A → Format B → Format (A × B)
◌⨟◌ F G = F ▹ λ _. G

-- ## A part led by a flag: 0, or 1 and the part

abbrev pub opt_bits : {A : Type 0} → Format A → ℕ → ℕ → Option A → List ℕ
opt_bits F n p none = 0 ∷ []
opt_bits F n p (some a) = 1 ∷ F.bits n (p + 1) a

abbrev pub OptFits : {A : Type 0} → Format A → Option A → Type 0
OptFits F none = Unit {0}
OptFits F (some a) = F.fits a

abbrev pub opt : {A : Type 0} → Format A → Format (Option A)
opt F =
    record {
      bits = opt_bits F;
      read = λ s p. (num 1).read s p then λ f q. pick (eqb f 0) (ok none q) (F.read s q then λ a r. ok (some a) r);
      fits = OptFits F;
    }

-- ## A list of parts: each led by 1, and a 0 closes it

abbrev pub items_bits : {A : Type 0} → Format A → ℕ → ℕ → List A → List ℕ
items_bits F n p [] = 0 ∷ []
items_bits F n p (a ∷ l) = 1 ∷ (F.bits n (p + 1) a ++ items_bits F n (p + 1 + length (F.bits n (p + 1) a)) l)

-- k bounds how many there are
unfoldable pub read_items : {A : Type 0} → Format A → ℕ → List ℕ → ℕ → Res (List A)
read_items F zero s p = bad (ran_out p)
read_items F (suc k) s p =
    (num 1).read s p
    then λ f q.
    pick (eqb f 0) (ok [] q) (F.read s q then λ a r. read_items F k s r then λ l t. ok (a ∷ l) t)

abbrev pub ItemsFit : {A : Type 0} → Format A → List A → Type 0
ItemsFit F [] = Unit {0}
ItemsFit F (a ∷ l) = F.fits a × ItemsFit F l

-- no message has more parts than bits
abbrev pub list : {A : Type 0} → Format A → Format (List A)
list F =
    record {
      bits = items_bits F;
      read = λ s p. read_items F (length s * 8 + 1) s p;
      fits = ItemsFit F;
    }

-- ## L and H: the padding bit at a place, and its inverse

-- the padding bit at p is bit p mod 8 of octet 2B hex
unfoldable pub pad_bit : ℕ → ℕ
pad_bit p = 43 / 2 ^ (7 - p % 8) % 2

-- 0 as L, 1 as H
abbrev pub coded_bit : ℕ → ℕ → ℕ
coded_bit p v = pick (eqb v 0) (pad_bit p) (1 - pad_bit p)

-- an L/H-coded bit: L is read as 0, H as 1
abbrev pub coded : Format ℕ
coded =
    record {
      bits = λ n p v. coded_bit p v ∷ [];
      read = λ s p. (num 1).read s p then λ b q. ok (pick (eqb b (pad_bit p)) 0 1) q;
      fits = λ v. v < 2;
    }

-- a later release's part: nothing where all bits are used, L where it is absent, H and the part
abbrev pub release_bits : {A : Type 0} → Format A → ℕ → ℕ → Option A → List ℕ
release_bits F n p none = pick (eqb p n) [] (pad_bit p ∷ [])
release_bits F n p (some a) = (1 - pad_bit p) ∷ F.bits n (p + 1) a

abbrev pub release : {A : Type 0} → Format A → Format (Option A)
release F =
    record {
      bits = release_bits F;
      read =
          λ s p.
          pick (eqb p (length s * 8)) (ok none p)
          ((num 1).read s p then λ b q. pick (eqb b (pad_bit p)) (ok none q) (F.read s q then λ a r. ok (some a) r));
      fits = OptFits F;
    }

-- ## A test, met in bit order: the refusal m where what was read does not pass it

abbrev pub checked : {A : Type 0} → (A → Bool) → ℕ → Format A → Format A
checked t m F =
    record {
      bits = F.bits;
      read = λ s p. F.read s p then λ a q. pick (t a) (ok a q) (bad (ground m));
      fits = λ a. F.fits a × (t a ≡ true);
    }

-- ## A part of a later release: bits that run out in it are refused with its number

abbrev pub numbered_as : {A : Type 0} → ℕ → Res A → Res A
numbered_as m (ok a q) = ok a q
numbered_as m (bad r) = bad (renumbered m r)

abbrev pub in_release : {A : Type 0} → ℕ → Format A → Format A
in_release m F = record { bits = F.bits; read = λ s p. numbered_as m (F.read s p); fits = F.fits }

-- ## A bit that says which of two follows

abbrev pub either_bits : {A B : Type 0} → Format A → Format B → ℕ → ℕ → A ⊎ B → List ℕ
either_bits F G n p (inl a) = 0 ∷ F.bits n (p + 1) a
either_bits F G n p (inr b) = 1 ∷ G.bits n (p + 1) b

abbrev pub EitherFits : {A B : Type 0} → Format A → Format B → A ⊎ B → Type 0
EitherFits F G (inl a) = F.fits a
EitherFits F G (inr b) = G.fits b

abbrev pub either : {A B : Type 0} → Format A → Format B → Format (A ⊎ B)
either F G =
    record {
      bits = either_bits F G;
      read = λ s p. (num 1).read s p then λ f q. pick (eqb f 0) (F.read s q then λ a r. ok (inl a) r) (G.read s q then λ b r. ok (inr b) r);
      fits = EitherFits F G;
    }

-- ## A part present only if something read before says so

abbrev pub when_bits : {A : Type 0} → Format A → ℕ → ℕ → Option A → List ℕ
when_bits F n p none = []
when_bits F n p (some a) = F.bits n p a

abbrev pub WhenFits : {A : Type 0} → Bool → Format A → Option A → Type 0
WhenFits true F none = ⊥
WhenFits true F (some a) = F.fits a
WhenFits false F none = Unit {0}
WhenFits false F (some a) = ⊥

abbrev pub when : {A : Type 0} → Bool → Format A → Format (Option A)
when t F = record { bits = when_bits F; read = λ s p. pick t (F.read s p then λ a q. ok (some a) q) (ok none p); fits = WhenFits t F }

-- ## Bits in octets

-- s with bits put from p on
unfoldable pub put_bits : List ℕ → ℕ → List ℕ → List ℕ
put_bits s p [] = s
put_bits s p (b ∷ bs) = put_bits (set_bit s p b) (p + 1) bs

-- the bits of s from p on are these
abbrev pub Holds : List ℕ → ℕ → List ℕ → Type 0
Holds s p [] = Unit {0}
Holds s p (b ∷ bs) = (bit s p ≡ b) × Holds s (p + 1) bs

-- each is 0 or 1
abbrev pub Binary : List ℕ → Type 0
Binary [] = Unit {0}
Binary (b ∷ bs) = (b < 2) × Binary bs
