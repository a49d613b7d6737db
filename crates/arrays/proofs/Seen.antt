-- An array as the list of what stands at each of its places. Assumes nothing.
use mathlib.Core.Path.{◌≡◌, refl, ap}
use mathlib.Core.List.{List, [], ◌∷◌}
use Prim.Native.Nat.{ℕ, zero, suc}
use native.Mathlib.Omega.{arith}
use lib.ListN.{length, get_or}

-- f at each of n places
unfoldable pub seen : ℕ → (ℕ → ℕ) → List ℕ
seen zero f = []
seen (suc n) f = f 0 ∷ seen n (λ k. f (suc k))

pub seen_all : (ns : List ℕ) (n : ℕ) → length ns ≡ n → seen n (λ k. get_or ns k 0) ≡ ns
unfolding seen
seen_all [] zero e = refl
seen_all [] (suc n) e = absurd (omega arith)
seen_all (x ∷ ns) zero e = absurd (omega arith)
seen_all (x ∷ ns) (suc n) e = ap (λ l. x ∷ l) (seen_all ns n (omega arith))
