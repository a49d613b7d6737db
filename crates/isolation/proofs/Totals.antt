-- A count over the places is a sum over the keys and the channels. Assumes nothing.
use mathlib.Core.Path.{◌≡◌, refl, sym, ap, ap₂, ◌∙◌}
use mathlib.Core.Bool.{Bool, false}
use mathlib.Core.List.{List, [], ◌∷◌}
use Prim.Native.Nat.{ℕ, suc, ◌+◌, ◌*◌, ◌≤◌, ◌<◌}
use native.Mathlib.Nat.{zero-add}
use native.Mathlib.Omega.{arith}
use lib.ListN.{length, get_or, drop, length-drop}
use lib.Seq.{get_or-drop}
use Rattle.csn1.specs.Told.{as_bit}
use Rattle.receiver.specs.declared.Slot.{Slot}
use Rattle.receiver.specs.Channels.{channels, place_on, Channel, every_channel, number_of}
use Rattle.receiver.specs.Model.{empty_slot, count_at}
use Rattle.isolation.specs.Calls.{sum_over, total_over}

-- channels whose numbers go up from n
abbrev Numbered : ℕ → List Channel → Type 0
Numbered n [] = Unit {0}
Numbered n (c ∷ cs) = (number_of c ≡ n) × Numbered (suc n) cs

in_order : Numbered 0 every_channel
in_order = (refl, (refl, (refl, tt)))

module _ (t : ℕ → Slot → Bool) where
  none-counted : (k : ℕ) (l : List Slot) → ((i q : ℕ) → q ≡ k + i → i < length l → t q (get_or l i empty_slot) ≡ false) → count_at t k l ≡ 0
  none-counted k [] h = refl
  none-counted k (x ∷ l) h =
      ap₂ ◌+◌ (ap as_bit (h 0 k (omega arith) (omega arith))) (none-counted (suc k) l (λ i q u v. h (suc i) q (omega arith) (omega arith)))

  -- the places of one key
  of-key : (g : Channel → ℕ) (cs : List Channel) (m k p : ℕ) (l : List Slot) → p ≡ k + length cs → length cs ≤ length l → Numbered m cs
      → ((c : Channel) (i q : ℕ) → m + i ≡ number_of c → q ≡ k + i → as_bit (t q (get_or l i empty_slot)) ≡ g c)
      → count_at t k l ≡ sum_over g cs + count_at t p (drop (length cs) l)
  of-key g [] m k p l e n o h = ap (λ (i : ℕ). count_at t i l) (omega arith) ∙ sym (zero-add (count_at t p l))
  of-key g (c ∷ cs) m k p [] e n o h = absurd (omega arith)
  of-key g (c ∷ cs) m k p (a ∷ l) e n o h =
      omega (
        arith,
        h c 0 k (omega (arith, o.0)) (omega arith),
        of-key g cs (suc m) (suc k) p l (omega arith) (omega arith) o.1 (λ d i q u v. h d (suc i) q (omega arith) (omega arith)),
      )

  -- those of all keys, and nothing counted behind them
  pub counted : (f : ℕ → Channel → ℕ) (k : ℕ) (ks : List ℕ) (l : List Slot) → channels * length ks ≤ length l
      → ((j i q : ℕ) (c : Channel) → i ≡ place_on j (number_of c) → q ≡ k + i → j < length ks → as_bit (t q (get_or l i empty_slot)) ≡ f (get_or ks j 0) c)
      → ((i q : ℕ) → q ≡ k + i → channels * length ks ≤ i → i < length l → t q (get_or l i empty_slot) ≡ false)
      → count_at t k l ≡ total_over f ks
  counted f k [] l n h g = none-counted k l (λ i q u v. g i q u (omega arith) v)
  counted f k (x ∷ ks) l n h g =
      of-key (f x) every_channel 0 k (k + channels) l refl (omega arith) in_order (λ c i q u v. h 0 i q c (omega arith) v (omega arith))
      ∙ ap (λ (m : ℕ). sum_over (f x) every_channel + m)
      (counted f (k + channels) ks (drop channels l) (omega (arith, length-drop channels l))
      (λ j i q c u v w.
      ap (λ (s : Slot). as_bit (t q s)) (get_or-drop channels l i empty_slot) ∙ h (suc j) (channels + i) q c (omega arith) (omega arith) (omega arith))
      (λ i q u v w.
      ap (t q) (get_or-drop channels l i empty_slot) ∙ g (channels + i) q (omega arith) (omega arith) (omega (arith, length-drop channels l))))
