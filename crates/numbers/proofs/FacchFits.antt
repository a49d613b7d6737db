-- Numbers of a NOTIFICATION/FACCH that are within their limits: their fields take them whole, and what `write` answers. Assumes nothing.
use mathlib.Core.Path.{◌≡◌, refl, ◌∙◌}
use mathlib.Core.List.{List, ◌∷◌}
use mathlib.Core.Bool.{true, false}
use Prim.Native.Nat.{ℕ, ◌+◌, ◌%◌, ◌≤◌, ◌<◌}
use native.Mathlib.Omega.{arith}
use lib.ListN.{length, get_or}
use borrow.Author.Tests.{eq-eqb, ne_eqb}
use Rattle.arrays.specs.Limits.{octet, word}
use Rattle.facch.specs.declared.Notification.{Notification}
use Rattle.facch_write.specs.declared.Written.{Written}
use Rattle.facch_write.specs.Write as records
use Rattle.nch.specs.CallNumbers.{cut, call_by, call_from_of}
use Rattle.nch.proofs.NotificationFits.{within-behind, octet-whole, call-whole}
use Rattle.numbers.specs.FacchPlaces.{paging_at, call_at, identity_length_at, identity_first_at, channel_first_at, priority_at, cellcount_at, all_length}
use Rattle.numbers.specs.FacchNumbers.{record_from, most, fields_hold, write_code, after_write}
use Rattle.numbers.proofs.FacchBack.{length_most}

-- ## Nothing is cut off

module _ (ns : List ℕ) (w : fields_hold ns ≡ true) where
  fits-at : (k m : ℕ) → paging_at ≤ k → k < all_length → get_or (0 ∷ most) k 0 ≡ m → get_or ns k 0 ≤ m
  fits-at k m o h e = rw (← e) (within-behind ns most k w o (omega (arith, length_most)))

  -- an octet's number is what its field takes of it
  octet-at : (k : ℕ) → paging_at ≤ k → k < all_length → get_or (0 ∷ most) k 0 ≡ octet → get_or ns k 0 % 256 ≡ get_or ns k 0
  octet-at k o h e = octet-whole (get_or ns k 0) (fits-at k octet o h e)

  pub length_whole : get_or ns identity_length_at 0 % 256 ≡ get_or ns identity_length_at 0
  unfolding most
  length_whole = octet-at identity_length_at (omega arith) (omega arith) refl

  pub first-whole : get_or ns identity_first_at 0 % 256 ≡ get_or ns identity_first_at 0
  unfolding most
  first-whole = octet-at identity_first_at (omega arith) (omega arith) refl

  pub channel-whole : get_or ns channel_first_at 0 % 256 ≡ get_or ns channel_first_at 0
  unfolding most
  channel-whole = octet-at channel_first_at (omega arith) (omega arith) refl

  pub priority-whole : get_or ns priority_at 0 % 256 ≡ get_or ns priority_at 0
  unfolding most
  priority-whole = octet-at priority_at (omega arith) (omega arith) refl

  pub cellcount-whole : get_or ns cellcount_at 0 % 256 ≡ get_or ns cellcount_at 0
  unfolding most
  cellcount-whole = octet-at cellcount_at (omega arith) (omega arith) refl

  pub facch-call-whole : length ns ≡ all_length → call_by cut ns call_at ≡ call_from_of ns call_at
  unfolding most
  facch-call-whole n =
      call-whole ns call_at
      (record {
        reference = fits-at call_at word (omega arith) (omega arith) refl;
        priority = fits-at (call_at + 3) octet (omega arith) (omega arith) refl;
        cipher = fits-at (call_at + 4) octet (omega arith) (omega arith) refl;
        description =
            record {
              there = omega arith;
              channel = fits-at (call_at + 6) word (omega arith) (omega arith) refl;
              octets = fits-at (call_at + 6 + 3) octet (omega arith) (omega arith) refl;
            };
      })

-- ## What `write` answers

module _ (ns b : List ℕ) where
  pub write_long : (length ns ≡ all_length → ⊥) → (13 ≡ write_code ns (length b)) × (b ≡ after_write ns b)
  unfolding write_code after_write
  write_long h = (rw (ne_eqb (length ns) all_length h), rw (ne_eqb (length ns) all_length h))

  module _ (n : length ns ≡ all_length) where
    pub write_wide : fields_hold ns ≡ false → (12 ≡ write_code ns (length b)) × (b ≡ after_write ns b)
    unfolding write_code after_write
    write_wide e = (rw (eq-eqb (length ns) all_length n, e), rw (eq-eqb (length ns) all_length n, e))

    pub write_held : (m : Notification) (r : Written) (b' : List ℕ) → fields_hold ns ≡ true → m ≡ record_from ns
        → r ≡ records.answer_of m (length b)
        → b' ≡ records.after_write m b
        → (r.refusal ≡ write_code ns (length b)) × (b' ≡ after_write ns b)
    unfolding records.answer_of records.write_number write_code after_write
    write_held m r b' e p f g =
        (rw f (rw (p, eq-eqb (length ns) all_length n, e)), g ∙ rw (p, eq-eqb (length ns) all_length n, e))
