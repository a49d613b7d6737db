-- The numbers of a NOTIFICATION/FACCH, run behind run. Assumes nothing.
use mathlib.Core.Path.{◌≡◌, refl, sym, ap, ◌∙◌}
use mathlib.Core.List.{List, [], ◌∷◌, ◌++◌}
use Prim.Native.Nat.{ℕ, ◌+◌, ◌≤◌}
use native.Mathlib.Omega.{arith}
use lib.Dec.{leb}
use lib.ListN.{length, length-append, take, drop, replicate}
use lib.Seq.{sets-eq, length-sets, take_all}
use Rattle.bits.specs.Field.{pick}
use Rattle.csn1.specs.Format.{Res, ok, bad}
use Rattle.csn1.specs.Told.{as_bit, padded}
use Rattle.facch.specs.declared.Notification.{Notification}
use Rattle.facch.specs.declared.Reading.{Reading}
use Rattle.facch.specs.Message.{Value, read_octets}
use Rattle.facch.specs.Told.{reading_of, read_of}
use Rattle.arrays.specs.Runs.{stored}
use Rattle.nch.specs.CallNumbers.{call_numbers}
use Rattle.nch.proofs.Lengths.{length-call}
use Rattle.numbers.specs.FacchPlaces.{used_at, call_at, identity_length_at, release6_at, release7_at, all_length}
use Rattle.numbers.specs.FacchNumbers.{page_numbers, release6_numbers, release7_numbers, numbers_of, read_numbers}
use Rattle.arrays.proofs.Running.{length-stored, run-stored, more, stored-whole}
use Rattle.arrays.proofs.Filling.{stored-all}
use Rattle.arrays.proofs.Zeroed.{zeros-run, zeros-cleared, over_zeros}

pub length-all : (m : Notification) → length (numbers_of m) ≡ 29
unfolding numbers_of call_numbers
length-all m = refl

pub length-read : (s : List ℕ) → length (read_numbers s) ≡ all_length
unfolding read_numbers
length-read s = omega (arith, length-all (read_of s).«record»)

-- what `fill::run` leaves in them
abbrev ran : List ℕ → ℕ → List ℕ → List ℕ
ran l at vs = pick (leb (at + length vs) (length l)) (stored l at vs) l

-- one run behind k numbers
run-behind : (k : ℕ) (l l' l'' a b : List ℕ) → l' ≡ stored l used_at a → length a ≡ k → used_at + k + length b ≤ length l → l'' ≡ ran l' (used_at + k) b
    → l'' ≡ stored l used_at (a ++ b)
run-behind k l l' l'' a b p n h q =
    let m : length l' ≡ length l = ap length p ∙ length-stored l used_at a in
    more k l l' l'' used_at a b p n (q ∙ run-stored l' (used_at + k) b (omega arith))

-- the number of bits used with what is notified, and four runs behind them
pub all_runs : (m : Notification) (used : ℕ) (l l1 l2 l3 l4 l5 call page six seven : List ℕ) → all_length ≤ length l
    → call ≡ call_numbers m.call
    → page ≡ page_numbers m.page
    → six ≡ release6_numbers m.release6
    → seven ≡ release7_numbers m.release7
    → l1 ≡ ran l used_at (used ∷ as_bit m.paging ∷ [])
    → l2 ≡ ran l1 call_at call
    → l3 ≡ ran l2 identity_length_at page
    → l4 ≡ ran l3 release6_at six
    → l5 ≡ ran l4 release7_at seven
    → l5 ≡ stored l used_at (used ∷ numbers_of m)
unfolding numbers_of
all_runs m used l l1 l2 l3 l4 l5 call page six seven n p q r t e f g h i =
    let a : length call ≡ 11 = ap length p ∙ length-call m.call in
    let b : length page ≡ 6 = rw q refl in
    let c : length six ≡ 6 = rw r refl in
    let d : length seven ≡ 5 = rw t refl in
    let u : List ℕ = used ∷ as_bit m.paging ∷ [] in
    let w = e ∙ run-stored l used_at u (omega arith) in
    let x = run-behind call_at l l1 l2 u call w refl (omega arith) f in
    let y = run-behind identity_length_at l l2 l3 (u ++ call) page x (simp length-append (omega arith)) (omega arith) g in
    let z = run-behind release6_at l l3 l4 (u ++ call ++ page) six y (simp length-append (omega arith)) (omega arith) h in
    run-behind release7_at l l4 l5 (u ++ call ++ page ++ six) seven z (simp length-append (omega arith)) (omega arith) i ∙ rw (p, q, r, t)

-- ## What `read` leaves

-- of a refused message zeros
pub refused-zeros : (x : Res Value) → ((reading_of x).refusal.number ≡ 0 → ⊥) → (reading_of x).used ∷ numbers_of (reading_of x).«record» ≡ replicate all_length 0
unfolding numbers_of call_numbers
refused-zeros (bad r) h = refl
refused-zeros (ok v q) h = absurd (h refl)

take-front : (v r : List ℕ) → take (length v) (v ++ r) ≡ v
take-front [] r = refl
take-front (a ∷ v) r = ap (λ (x : List ℕ). a ∷ x) (take-front v r)

-- the first places stored, the others cleared
stored-cleared : (v l l' o : List ℕ) (k : ℕ) → length v ≡ k → k ≤ length l → l' ≡ stored l used_at v → o ≡ padded 0 (length l') (take k l') → o ≡ padded 0 (length l) v
unfolding stored
stored-cleared v l l' o k n h e f =
    let w : length l' ≡ length l = ap length e ∙ length-sets l used_at v in
    let a : take (length v) l' ≡ v = ap (take (length v)) (e ∙ sets-eq v l used_at (omega arith)) ∙ take-front v (drop (used_at + length v) l) in
    stored-all v l l' o (a ∙ sym (take_all (length l) v (omega arith))) w (rw n f)

module _ (s : List ℕ) (r : Reading) (e : r ≡ read_of s) where
  same-refusal : r.refusal ≡ (read_of s).refusal
  same-refusal = ap (λ (x : Reading). x.refusal) e

  same_numbers : r.used ∷ numbers_of r.«record» ≡ read_numbers s
  unfolding read_numbers
  same_numbers = ap (λ (x : Reading). x.used ∷ numbers_of x.«record») e

  pub left-refused : (r.refusal.number ≡ 0 → ⊥) → (n : ℕ) (o : List ℕ) → o ≡ padded 0 n [] → (r.refusal ≡ (read_of s).refusal) × (o ≡ padded 0 n (read_numbers s))
  unfolding read_numbers
  left-refused h n o f =
      let z : read_numbers s ≡ replicate all_length 0 = refused-zeros (read_octets s) (λ k. h (ap (λ (x : Reading). x.refusal.number) e ∙ k)) in (
        same-refusal,
        f ∙ sym (zeros-run (padded 0 n []) 0 all_length (zeros-cleared n)) ∙ over_zeros n (replicate all_length 0) ∙ ap (padded 0 n) (sym z),
      )

  -- of another its numbers, where all have places and where they have not
  pub left-all : (l l' o : List ℕ) → all_length ≤ length l → l' ≡ stored l used_at (r.used ∷ numbers_of r.«record») → o ≡ padded 0 (length l') (take all_length l')
      → (r.refusal ≡ (read_of s).refusal) × (o ≡ padded 0 (length l) (read_numbers s))
  left-all l l' o h f g =
      let v : List ℕ = r.used ∷ numbers_of r.«record» in
      let k : length v ≡ all_length = omega (arith, length-all r.«record») in
      (same-refusal, stored-cleared v l l' o all_length k h f g ∙ ap (padded 0 (length l)) same_numbers)

  pub left-first : (n : ℕ) (all o : List ℕ) → all ≡ stored (replicate all_length 0) used_at (r.used ∷ numbers_of r.«record») → o ≡ padded 0 n all
      → (r.refusal ≡ (read_of s).refusal) × (o ≡ padded 0 n (read_numbers s))
  left-first n all o f g =
      let v : List ℕ = r.used ∷ numbers_of r.«record» in
      let w : stored (replicate all_length 0) used_at v ≡ v = stored-whole (replicate all_length 0) v (omega (arith, length-all r.«record»)) in
      (same-refusal, g ∙ ap (padded 0 n) (f ∙ w ∙ same_numbers))
