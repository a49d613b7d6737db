-- Numbers in octets, the top octet first, and tests on numbers. Assumes nothing.
use Rattle.std.proofs.Common.{◌≡◌, ℕ, ◌+◌, ◌*◌, ◌≤◌, leb, List, get_or, sym, ◌∙◌, arith, le-leb, leb-true}
use Rattle.receiver.proofs.Cases.{by-test}
use Rattle.capture.specs.Capture.{be_at}

module _ (l : List ℕ) (at : ℕ) where
  pub two-octets : get_or l at 0 * 256 + get_or l (at + 1) 0 ≡ be_at 2 l at
  unfolding be_at
  two-octets = let z : at + 0 ≡ at = omega arith in rw z (omega arith)

  pub four-octets : be_at 2 l at * 65536 + be_at 2 l (at + 2) ≡ be_at 4 l at
  unfolding be_at
  four-octets =
      let z : at + 0 ≡ at = omega arith in
      let y : at + 2 + 0 ≡ at + 2 = omega arith in
      let x : at + 2 + 1 ≡ at + 3 = omega arith in
      rw (z, y, x) (omega arith)

-- two tests that say the same
pub same_test : (a b c d : ℕ) → (a ≤ b → c ≤ d) → (c ≤ d → a ≤ b) → leb a b ≡ leb c d
same_test a b c d f g =
    by-test (leb a b) (λ e. e ∙ sym (le-leb c d (f (leb-true a b e))))
    (λ e. by-test (leb c d) (λ q. le-leb a b (g (leb-true c d q)) ∙ sym q) (λ q. e ∙ sym q))
