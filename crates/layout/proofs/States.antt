-- What is said of octets that are a state, with a place or an entry that is there, and of any others. Assumes nothing.
use mathlib.Core.Path.{◌≡◌}
use mathlib.Core.List.{List}
use Prim.Native.Nat.{ℕ, ◌≤◌, ◌<◌}
use lib.Dec.{ltb}
use lib.ListN.{length}
use borrow.Author.Tests.{eq-eqb, ne_eqb, lt-ltb, le-ltb}
use Rattle.bits.specs.Field.{both, pick}
use Rattle.receiver.specs.Channels.{places}
use Rattle.receiver.specs.Step.{most_entries}
use Rattle.layout.specs.Layout.{state_length, is_state, is_place, is_entry}

module _ {A : Type 0} (l : List ℕ) where
  pub at-state : (a b : A) → length l ≡ state_length → pick (is_state l) a b ≡ a
  at-state a b m = rw (eq-eqb (length l) state_length m)

  pub no_state : (a b : A) → (length l ≡ state_length → ⊥) → pick (is_state l) a b ≡ b
  no_state a b z = rw (ne_eqb (length l) state_length z)

  -- one of n that a state has
  module _ (n i : ℕ) (a b : A) where
    pub at_one : length l ≡ state_length → i < n → pick (both (is_state l) (ltb i n)) a b ≡ a
    at_one m h = rw (eq-eqb (length l) state_length m, lt-ltb i n h)

    pub in_none : (length l ≡ state_length → ⊥) → pick (both (is_state l) (ltb i n)) a b ≡ b
    in_none z = rw (ne_eqb (length l) state_length z)

    pub no_such : length l ≡ state_length → n ≤ i → pick (both (is_state l) (ltb i n)) a b ≡ b
    no_such m h = rw (eq-eqb (length l) state_length m, le-ltb i n h)

  pub at_place : (i : ℕ) (a b : A) → length l ≡ state_length → i < places → pick (is_place l i) a b ≡ a
  at_place i a b m h = at_one places i a b m h

  pub at_entry : (j : ℕ) (a b : A) → length l ≡ state_length → j < most_entries → pick (is_entry l j) a b ≡ a
  at_entry j a b m h = at_one most_entries j a b m h
