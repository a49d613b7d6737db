-- A record's numbers behind those that lead it. Assumes nothing.
use mathlib.Core.Path.{◌≡◌, sym, ap, ◌∙◌}
use mathlib.Core.List.{List, [], ◌∷◌, ◌++◌, append_assoc}
use Prim.Native.Nat.{ℕ, ◌+◌}
use native.Mathlib.Omega.{arith}
use lib.Dec.{leb}
use lib.ListN.{length, get_or, length-append}
use Rattle.bits.specs.Field.{pick}
use Rattle.csn1.specs.Told.{padded}
use Rattle.arrays.specs.Runs.{stored}
use Rattle.receiver.specs.declared.Record.{Record}
use Rattle.receiver.specs.Step.{no_told}
use Rattle.layout.specs.Layout.{state_length, is_state, last_of}
use Rattle.layout.specs.Parts.{record_numbers, told_numbers, part_of}
use Rattle.layout.proofs.States.{at-state, no_state}
use Rattle.arrays.proofs.Running.{length-stored, run-stored, more, stored-whole}

-- what `fill::run` leaves
abbrev ran : List ℕ → ℕ → List ℕ → List ℕ
ran l at vs = pick (leb (at + length vs) (length l)) (stored l at vs) l

-- two runs that fill an array
pub two_runs : (l l' l'' head tail : List ℕ) (k n : ℕ) → length head ≡ k → length tail ≡ n → length l ≡ k + n → l' ≡ ran l 0 head → l'' ≡ ran l' k tail → l'' ≡ head ++ tail
two_runs l l' l'' head tail k n p q m e f =
    let e' : l' ≡ stored l 0 head = e ∙ run-stored l 0 head (omega arith) in
    let m' : length l' ≡ k + n = ap length e' ∙ length-stored l 0 head ∙ m in
    let f' : l'' ≡ stored l' (0 + k) tail = f ∙ run-stored l' k tail (omega arith) ∙ ap (λ (j : ℕ). stored l' j tail) (omega arith) in
    let y : length (head ++ tail) ≡ length l = length-append head tail ∙ omega arith in
    more k l l' l'' 0 head tail e' p f' ∙ stored-whole l (head ++ tail) y

-- and three
pub three_runs : (l l' l'' l''' head mid tail : List ℕ) (k n m : ℕ) → length head ≡ k → length mid ≡ n → length tail ≡ m → length l ≡ k + n + m → l' ≡ ran l 0 head
    → l'' ≡ ran l' k mid → l''' ≡ ran l'' (k + n) tail → l''' ≡ head ++ (mid ++ tail)
three_runs l l' l'' l''' head mid tail k n m p q r w e f g =
    let e' : l' ≡ stored l 0 head = e ∙ run-stored l 0 head (omega arith) in
    let w' : length l' ≡ k + n + m = ap length e' ∙ length-stored l 0 head ∙ w in
    let f' : l'' ≡ stored l' (0 + k) mid = f ∙ run-stored l' k mid (omega arith) ∙ ap (λ (j : ℕ). stored l' j mid) (omega arith) in
    let w'' : length l'' ≡ k + n + m = ap length f' ∙ length-stored l' (0 + k) mid ∙ w' in
    let both : l'' ≡ stored l 0 (head ++ mid) = more k l l' l'' 0 head mid e' p f' in
    let long : length (head ++ mid) ≡ k + n = length-append head mid ∙ omega arith in
    let g' : l''' ≡ stored l'' (0 + (k + n)) tail = g ∙ run-stored l'' (k + n) tail (omega arith) ∙ ap (λ (j : ℕ). stored l'' j tail) (omega arith) in
    let y : length ((head ++ mid) ++ tail) ≡ length l = length-append (head ++ mid) tail ∙ omega (arith, long) in
    more (k + n) l l'' l''' 0 (head ++ mid) tail both long g' ∙ stored-whole l ((head ++ mid) ++ tail) y ∙ append_assoc head mid tail

-- a told entry by its parts
pub told-all : (l : List ℕ) (entry key number : ℕ) (r : Record) (follow kept : ℕ) (all : List ℕ)
    → key ≡ part_of (last_of l) entry 3
    → number ≡ part_of (last_of l) entry 4
    → r ≡ (get_or (last_of l).entries entry no_told).«record»
    → follow ≡ part_of (last_of l) entry 35
    → kept ≡ part_of (last_of l) entry 36
    → all ≡ key ∷ number ∷ record_numbers r ++ (follow ∷ kept ∷ [])
    → all ≡ told_numbers (get_or (last_of l).entries entry no_told)
unfolding part_of
told-all l entry key number r follow kept all p q e f g a = a ∙ (λ i. p i ∷ q i ∷ record_numbers (e i) ++ (f i ∷ g i ∷ []))

-- what is left in the array that was lent, and the number: for another length, and for a state
module _ (b : List ℕ) (n : ℕ) (o x : List ℕ) where
  pub left-none : (length b ≡ state_length → ⊥) → o ≡ padded 0 n [] → (◌≡◌ {A = ℕ} 13 (pick (is_state b) 0 13)) × (o ≡ padded 0 n (pick (is_state b) x []))
  left-none z e = (sym (no_state b 0 13 z), e ∙ ap (padded 0 n) (sym (no_state b x [] z)))

  pub left-all : length b ≡ state_length → (all : List ℕ) → all ≡ x → o ≡ padded 0 n all → (◌≡◌ {A = ℕ} 0 (pick (is_state b) 0 13)) × (o ≡ padded 0 n (pick (is_state b) x []))
  left-all w all q e = (sym (at-state b 0 13 w), e ∙ ap (padded 0 n) (q ∙ sym (at-state b x [] w)))
