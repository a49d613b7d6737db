-- Octets in arrays of numbers, and back. Assumes nothing.
use mathlib.Core.Path.{◌≡◌, ap, ◌∙◌}
use mathlib.Core.List.{List, [], ◌∷◌}
use mathlib.Core.Bool.{Bool, true, false}
use Prim.Native.Nat.{ℕ, zero, suc, ◌+◌, ◌-◌, ◌≤◌, ◌<◌}
use native.Mathlib.Numerals.{add-one}
use native.Mathlib.Omega.{arith}
use lib.Dec.{leb}
use lib.ListN.{length, get_or, take, drop, set, replicate, length-replicate, get_or-replicate}
use lib.Seq.{sets, take-suc, length-take-le, get_or-drop}
use borrow.Author.Tests.{leb-true}
use Rattle.csn1.specs.Told.{padded}
use Rattle.bits.proofs.Answers.{both_true}
use Rattle.csn1.proofs.Lists.{padded-none}
use Rattle.arrays.specs.Limits.{within, octet}
use Rattle.gcc_numbers.specs.Inner.{AllOctets, OctetsFrom}
use Rattle.arrays.proofs.Running.{sets_append}
use Rattle.arrays.proofs.Filling.{sets_zeros}
use Rattle.arrays.proofs.Within.{within-next, within_not, within_end}

-- ## Whether each number is an octet

abbrev pub Most : List ℕ → List ℕ
Most ns = replicate (length ns) octet

module _ (ns : List ℕ) (i : ℕ) (e : within ns (Most ns) ≡ within (drop i ns) (drop i (Most ns))) where
  pub octets-next : i < length ns → get_or ns i 0 ≤ 255 → within ns (Most ns) ≡ within (drop (i + 1) ns) (drop (i + 1) (Most ns))
  octets-next h t =
      within-next ns (Most ns) i h (omega (arith, length-replicate (length ns) octet)) (omega (arith, get_or-replicate (length ns) i octet 0 h)) e

  pub octets_not : i < length ns → 255 < get_or ns i 0 → false ≡ within ns (Most ns)
  octets_not h t =
      within_not ns (Most ns) i h (omega (arith, length-replicate (length ns) octet)) (omega (arith, get_or-replicate (length ns) i octet 0 h)) e

  pub octets-end : length ns ≤ i → true ≡ within ns (Most ns)
  octets-end h = within_end ns (Most ns) i (omega arith) e

-- where that holds, each is
pub octets-all : (ns : List ℕ) (n : ℕ) → length ns ≡ n → within ns (replicate n octet) ≡ true → AllOctets ns
unfolding within
octets-all [] n h e zero = omega arith
octets-all [] n h e (suc k) = omega arith
octets-all (x ∷ ns) zero h e k = absurd (omega arith)
octets-all (x ∷ ns) (suc n) h e zero = leb-true x octet (both_true (leb x octet) (within ns (replicate n octet)) e).0
octets-all (x ∷ ns) (suc n) h e (suc k) =
    octets-all ns n (omega arith) (both_true (leb x octet) (within ns (replicate n octet)) e).1 k

-- ## Octets stored as numbers

-- one more
pub widened-next : (l o vs : List ℕ) (at i : ℕ) → i < length vs → l ≡ sets o at (take i vs) → set l (at + i) (get_or vs i 0) ≡ sets o at (take (i + 1) vs)
widened-next l o vs at i h e =
    rw (add-one i, take-suc vs i 0 h, sets_append o at (take i vs) (get_or vs i 0 ∷ []), length-take-le i vs (omega arith), e)

-- all, over zeros
pub widened : (n : ℕ) (z o vs k : List ℕ) → z ≡ padded 0 n (take 0 k) → o ≡ sets z 0 vs → o ≡ padded 0 n vs
widened n z o vs k e f = f ∙ ap (λ (l : List ℕ). sets l 0 vs) (e ∙ padded-none 0 n) ∙ sets_zeros n vs

-- one number, and octets behind it
pub put_then : (o p q vs : List ℕ) (at v : ℕ) → p ≡ set o at v → q ≡ sets p (at + 1) vs → q ≡ sets o at (v ∷ vs)
put_then o p q vs at v e f = f ∙ rw (e, add-one at)

-- ## Parts

take-octets : (n : ℕ) (l : List ℕ) → AllOctets l → AllOctets (take n l)
take-octets zero l h zero = omega arith
take-octets zero l h (suc k) = omega arith
take-octets (suc n) [] h zero = omega arith
take-octets (suc n) [] h (suc k) = omega arith
take-octets (suc n) (x ∷ l) h zero = h zero
take-octets (suc n) (x ∷ l) h (suc k) = take-octets n l (λ j. h (suc j)) k

-- those from a place on
pub octets-from : (a : ℕ) (l : List ℕ) → AllOctets (drop a l) → OctetsFrom a l
octets-from a l h k m =
    let e : a + (k - a) ≡ k = omega arith in
    rw (get_or-drop a l (k - a) 0, e) at (h (k - a))

pub part-octets : (n a : ℕ) (l : List ℕ) (at : ℕ) → at ≤ a → OctetsFrom at l → AllOctets (take n (drop a l))
part-octets n a l at m h = take-octets n (drop a l) (λ k. rw (get_or-drop a l k 0) (h (a + k) (omega arith)))

-- the largest numbers of so many octets
pub most-of : (ns : List ℕ) (n : ℕ) (b : Bool) → length ns ≡ n → b ≡ within ns (Most ns) → b ≡ within ns (replicate n octet)
most-of ns n b h e = e ∙ ap (λ (k : ℕ). within ns (replicate k octet)) h
