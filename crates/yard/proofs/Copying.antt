-- Octets that are cut out, copied, and made zero. Assumes nothing.
use mathlib.Core.Path.{◌≡◌, sym, ap, ◌∙◌}
use mathlib.Core.List.{List, ◌++◌}
use Prim.Native.Nat.{ℕ, ◌+◌, ◌≤◌, ◌<◌}
use native.Mathlib.Omega.{arith}
use lib.ListN.{length, take, drop, get_or, replicate, length-drop, length-replicate}
use lib.Seq.{paste, sets-eq, length-take-le, take_all, get_or-take, get_or-drop, ext_get_or}
use Rattle.arrays.specs.Runs.{stored}
use Rattle.arrays.proofs.Running.{length-stored, stored-before}
use Rattle.yard.specs.Octets.{cut}

-- ## What is cut out

pub length_cut : (l : List ℕ) (at n : ℕ) → at + n ≤ length l → length (cut l at n) ≡ n
unfolding cut
length_cut l at n h = length-take-le n (drop at l) (rw length-drop (omega arith))

pub cut_at : (l : List ℕ) (at n i : ℕ) → i < n → get_or (cut l at n) i 0 ≡ get_or l (at + i) 0
unfolding cut
cut_at l at n i h = get_or-take n (drop at l) i 0 h ∙ get_or-drop at l i 0

-- what is stored behind it does not change it
pub cut-before : (l : List ℕ) (p : ℕ) (vs : List ℕ) (at n : ℕ) → at + n ≤ p → p ≤ length l → cut (stored l p vs) at n ≡ cut l at n
cut-before l p vs at n h k =
    let a : length (cut (stored l p vs) at n) ≡ n = length_cut (stored l p vs) at n (rw (length-stored l p vs) (omega arith)) in
    let b : length (cut l at n) ≡ n = length_cut l at n (omega arith) in
    ext_get_or 0 (cut (stored l p vs) at n) (cut l at n) (a ∙ sym b)
    (λ i lt.
    let q : i < n = omega (arith, lt, a) in
    cut_at (stored l p vs) at n i q ∙ stored-before l p vs (at + i) (omega (arith, q)) ∙ sym (cut_at l at n i q))

-- ## What is written over a run

pub pasted : (l : List ℕ) (at n : ℕ) (s : List ℕ) → at + n ≤ length l → length (take n s) ≡ n → paste l at s n ≡ stored l at (take n s)
unfolding stored
pasted l at n s h w =
    sym (sets-eq (take n s) l at (omega (arith, h, w)) ∙ ap (λ (k : ℕ). take at l ++ take n s ++ drop (at + k) l) w)

abbrev zeros : ℕ → List ℕ
zeros n = replicate n 0

pub pasted-zeros : (l : List ℕ) (at n : ℕ) → at + n ≤ length l → paste l at (replicate n 0) n ≡ stored l at (replicate n 0)
pasted-zeros l at n h =
    let len : length (zeros n) ≡ n = length-replicate n 0 in
    let e : take n (zeros n) ≡ zeros n = take_all n (zeros n) (omega (arith, len)) in
    pasted l at n (zeros n) h (ap length e ∙ len) ∙ ap (stored l at) e
