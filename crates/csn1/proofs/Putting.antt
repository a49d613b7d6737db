-- What writers go by: the padding, bits that were put where there may be too few places, and the values of an array's first places. Assumes nothing.
use mathlib.Core.Path.{◌≡◌, refl, ap}
use mathlib.Core.List.{List, [], ◌∷◌, map}
use Prim.Native.Nat.{ℕ, zero, suc, ◌+◌, ◌-◌, ◌*◌, ◌/◌, ◌%◌, ◌^◌, ◌≤◌, ◌<◌}
use native.Mathlib.Omega.{arith}
use lib.ListN.{length, get_or, take, drop, replicate, get_or-replicate}
use Rattle.bits.specs.Field.{bit}
use Rattle.csn1.specs.Format.{pad_bit, put_bits}

-- ## Padding

-- octets of 2B hex have the padding bit at every place
pub padding_bit : (n k : ℕ) → k < n * 8 → bit (replicate n 43) k ≡ pad_bit k
unfolding bit pad_bit
padding_bit n k h = ap (λ (o : ℕ). o / 2 ^ (7 - k % 8) % 2) (get_or-replicate n (k / 8) 43 0 (omega arith))

-- ## Bits

-- bits were put at p of n bits: q is the place behind them, and where that is within the n bits they stand there
pub record Laid (n p : ℕ) (bs : List ℕ) (q : ℕ) (before after : List ℕ) : Type 0 where
  pub next : q ≡ p + length bs
  pub same : q ≤ n → after ≡ put_bits before p bs

-- ## Values

-- the values of an array's first n places, from the i-th on
module _ {A B : Type 0} (f : A → B) (z : A) where
  pub used-next : (xs : List A) (n i : ℕ) → i < n → n ≤ length xs → drop i (map f (take n xs)) ≡ f (get_or xs i z) ∷ drop (i + 1) (map f (take n xs))
  used-next [] n i h l = absurd (omega arith)
  used-next (x ∷ xs) zero i h l = absurd (omega arith)
  used-next (x ∷ xs) (suc n) zero h l = refl
  used-next (x ∷ xs) (suc n) (suc i) h l =
      let e : suc i + 1 ≡ suc (i + 1) = omega arith in
      rw e (used-next xs n i (omega arith) (omega arith))

  pub used-end : (xs : List A) (n i : ℕ) → n ≤ i → drop i (map f (take n xs)) ≡ []
  used-end xs zero zero h = refl
  used-end xs zero (suc i) h = refl
  used-end xs (suc n) zero h = absurd (omega arith)
  used-end [] (suc n) (suc i) h = refl
  used-end (x ∷ xs) (suc n) (suc i) h = used-end xs n i (omega arith)
