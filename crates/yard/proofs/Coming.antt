-- Calls that come: the tests of the code, and what they leave in the octets. Assumes nothing.
use mathlib.Core.Path.{◌≡◌, refl, sym, ap, ◌∙◌}
use mathlib.Core.Bool.{true, false}
use mathlib.Core.List.{List}
use Prim.Native.Nat.{ℕ, ◌+◌, ◌≤◌, ◌<◌}
use native.Mathlib.Numerals.{add-one}
use native.Mathlib.Omega.{arith}
use lib.ListN.{length}
use borrow.Author.Tests.{lt-ltb, le-ltb}
use Rattle.bits.specs.Field.{pick}
use Rattle.arrays.specs.Runs.{stored}
use Rattle.receiver.specs.Channels.{key_count}
use Rattle.receiver.specs.Step.{most_entries}
use Rattle.receiver.specs.Model.{index_of}
use Rattle.layout.specs.Layout.{tick_from, state_length, is_state, told_place, told_length, carries, keys_in, last_of}
use Rattle.layout.specs.Parts.{part_of}
use Rattle.layout.proofs.States.{at-state}
use Rattle.yard.specs.Yard.{call_count}
use Rattle.yard.specs.Octets.{yard_length, call_place, inside, cut, put_call, entry_no, place_for, brought_at, brought_run}
use Rattle.yard.proofs.Copying.{cut-before}

-- ## The place for an entry

module _ (r : List ℕ) (j : ℕ) (whole : length r ≡ state_length) where
  pub number_read : (n : ℕ) → n ≡ pick (is_state r) (part_of (last_of r) j 4) 0 → n ≡ (entry_no r j).number
  unfolding part_of
  number_read n e = e ∙ at-state r (part_of (last_of r) j 4) 0 whole

  pub key-read : (k : ℕ) → k ≡ pick (is_state r) (part_of (last_of r) j 3) 0 → k ≡ (entry_no r j).key
  unfolding part_of
  key-read k e = e ∙ at-state r (part_of (last_of r) j 3) 0 whole

  pub place_none : (n : ℕ) → n ≡ (entry_no r j).number → carries n ≡ false → key_count ≡ place_for r j
  unfolding place_for
  place_none n e q = let z : carries (entry_no r j).number ≡ false = ap (λ (x : ℕ). carries x) (sym e) ∙ q in rw z

  pub place_found : (n key i : ℕ) → n ≡ (entry_no r j).number → carries n ≡ true → key ≡ (entry_no r j).key
      → i ≡ pick (is_state r) (index_of (keys_in r) key) key_count → i ≡ place_for r j
  unfolding place_for
  place_found n key i e q k h =
      let z : carries (entry_no r j).number ≡ true = ap (λ (x : ℕ). carries x) (sym e) ∙ q in
      rw z (h ∙ at-state r (index_of (keys_in r) key) key_count whole ∙ ap (index_of (keys_in r)) k)

-- ## The entry itself

module _ (l : List ℕ) (j i : ℕ) (e : i ≡ place_for (inside l) j) where
  pub brought_not : call_count ≤ i → l ≡ brought_at l j
  unfolding brought_at
  brought_not h = rw (← e, le-ltb i call_count h)

  pub brought : length l ≡ yard_length → i < call_count → j < most_entries → (b b' : List ℕ) → b ≡ stored l (call_place i) (cut l tick_from 4)
      → b' ≡ stored b (call_place i + 8) (cut b (told_place j) told_length) → b' ≡ brought_at l j
  unfolding brought_at put_call
  brought whole h k b b' p q =
      rw (← e, lt-ltb i call_count h)
      (q ∙ ap (λ (x : List ℕ). stored x (call_place i + 8) (cut x (told_place j) told_length)) p
      ∙ ap (stored (stored l (call_place i) (cut l tick_from 4)) (call_place i + 8))
      (cut-before l (call_place i) (cut l tick_from 4) (told_place j) told_length (omega arith) (omega arith)))

pub brought-next : (l b b' : List ℕ) (n : ℕ) → b ≡ brought_run n l → b' ≡ brought_at b n → b' ≡ brought_run (n + 1) l
unfolding brought_run
brought-next l b b' n e q = q ∙ ap (λ (x : List ℕ). brought_at x n) e ∙ ap (λ (k : ℕ). brought_run k l) (sym (add-one n))

pub brought-none : (l : List ℕ) → l ≡ brought_run 0 l
unfolding brought_run
brought-none l = refl
