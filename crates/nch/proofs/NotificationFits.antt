-- Numbers that are within their limits: part by part, the record that they give whole, and what `write` answers. Assumes nothing.
use mathlib.Core.Path.{◌≡◌, refl, ◌∙◌}
use mathlib.Core.List.{List, [], ◌∷◌}
use mathlib.Core.Bool.{true, false}
use Prim.Native.Nat.{ℕ, zero, suc, ◌+◌, ◌*◌, ◌%◌, ◌≤◌, ◌<◌}
use native.Mathlib.Omega.{arith}
use lib.ListN.{length, get_or, drop}
use borrow.Author.Tests.{eq-eqb, ne_eqb}
use Rattle.arrays.specs.Limits.{within, octet, word}
use Rattle.arrays.proofs.Running.{parts_same}
use Rattle.arrays.proofs.Within.{within-at}
use Rattle.nch.specs.declared.Notification.{Notification}
use Rattle.nch.specs.Write as records
use Rattle.nch.specs.Places.{numbered_at, nln_at, first_call, call_length, most_calls, cellcount_at, first_reduced, reduced_length, most_reduceds, fullrate_at, halfrate_at, all_length}
use Rattle.nch.proofs.Ends.{record_length}
use Rattle.nch.specs.CallNumbers.{whole, cut, description_by, call_by, call_from_of}
use Rattle.nch.specs.Inner.{DescriptionFits, CallFits, reduced_from, ReducedFits}
use Rattle.nch.specs.NotificationNumbers.{reduced_by, release6_by, release7_by, record_by, record_from, most, fields_hold, Fits, write_code, after_write}

length_most : length most ≡ record_length
unfolding most
length_most = refl

-- the largest numbers by place; the first is none that Fits speaks of
abbrev pub most_at : ℕ → ℕ
most_at k = get_or (0 ∷ most) k 0

pub within-behind : (ns ms : List ℕ) (k : ℕ) → within (drop 1 ns) ms ≡ true → 1 ≤ k → k < length ms + 1 → get_or ns k 0 ≤ get_or (0 ∷ ms) k 0
within-behind ns ms zero w o h = absurd (omega arith)
within-behind [] ms (suc k) w o h = omega arith
within-behind (n ∷ ns) ms (suc k) w o h = within-at ns ms k w (omega arith)

-- ## The parts

module _ (ns : List ℕ) (f : Fits ns) where
  pub fits-at : (k n : ℕ) → numbered_at ≤ k → k < all_length → most_at k ≡ n → get_or ns k 0 ≤ n
  fits-at k n o h e = rw (← e) (within-behind ns most k f.held o (omega (arith, length_most)))

  pub reduced-fits : (at : ℕ) → numbered_at ≤ at → at + reduced_length ≤ all_length → most_at at ≡ word → ReducedFits ns at
  reduced-fits at o h e = record { there = omega (arith, f.long); reference = fits-at at word o (omega arith) e }

  pub call_fits : (at : ℕ) → numbered_at ≤ at → at + call_length ≤ all_length
      → most_at at ≡ word → most_at (at + 3) ≡ octet → most_at (at + 4) ≡ octet → most_at (at + 6) ≡ word → most_at (at + 6 + 3) ≡ octet
      → CallFits ns at
  call_fits at o h a b d e g =
      record {
        reference = fits-at at word o (omega arith) a;
        priority = fits-at (at + 3) octet (omega arith) (omega arith) b;
        cipher = fits-at (at + 4) octet (omega arith) (omega arith) d;
        description =
            record {
              there = omega (arith, f.long);
              channel = fits-at (at + 6) word (omega arith) (omega arith) e;
              octets = fits-at (at + 6 + 3) octet (omega arith) (omega arith) g;
            };
      }

  -- the k-th call and the k-th reduced reference, counted from 0
  pub calls-fit : (k : ℕ) → k < most_calls → CallFits ns (first_call + call_length * k)
  unfolding most
  calls-fit zero h = call_fits (first_call + call_length * 0) (omega arith) (omega arith) refl refl refl refl refl
  calls-fit (suc zero) h = call_fits (first_call + call_length * 1) (omega arith) (omega arith) refl refl refl refl refl
  calls-fit (suc (suc zero)) h = call_fits (first_call + call_length * 2) (omega arith) (omega arith) refl refl refl refl refl
  calls-fit (suc (suc (suc zero))) h = call_fits (first_call + call_length * 3) (omega arith) (omega arith) refl refl refl refl refl
  calls-fit (suc (suc (suc (suc k)))) h = absurd (omega arith)

  pub reduceds_fit : (k : ℕ) → k < most_reduceds → ReducedFits ns (first_reduced + reduced_length * k)
  unfolding most
  reduceds_fit zero h = reduced-fits (first_reduced + reduced_length * 0) (omega arith) (omega arith) refl
  reduceds_fit (suc zero) h = reduced-fits (first_reduced + reduced_length * 1) (omega arith) (omega arith) refl
  reduceds_fit (suc (suc zero)) h = reduced-fits (first_reduced + reduced_length * 2) (omega arith) (omega arith) refl
  reduceds_fit (suc (suc (suc zero))) h = reduced-fits (first_reduced + reduced_length * 3) (omega arith) (omega arith) refl
  reduceds_fit (suc (suc (suc (suc zero)))) h = reduced-fits (first_reduced + reduced_length * 4) (omega arith) (omega arith) refl
  reduceds_fit (suc (suc (suc (suc (suc k))))) h = absurd (omega arith)

-- ## Nothing is cut off

pub octet-whole : (n : ℕ) → n ≤ octet → n % 256 ≡ n
octet-whole n h = omega arith

word-whole : (n : ℕ) → n ≤ word → n % 4294967296 ≡ n
word-whole n h = omega arith

description-whole : (ns : List ℕ) (at : ℕ) → DescriptionFits ns at → description_by cut ns at ≡ description_by whole ns at
unfolding description_by
description-whole ns at f = rw (word-whole (get_or ns at 0) f.channel, octet-whole (get_or ns (at + 3) 0) f.octets)

pub call-whole : (ns : List ℕ) (at : ℕ) → CallFits ns at → call_by cut ns at ≡ call_from_of ns at
unfolding call_by
call-whole ns at f =
    rw (
      word-whole (get_or ns at 0) f.reference,
      octet-whole (get_or ns (at + 3) 0) f.priority,
      octet-whole (get_or ns (at + 4) 0) f.cipher,
      description-whole ns (at + 6) f.description,
    )

pub reduced-whole : (ns : List ℕ) (at : ℕ) → ReducedFits ns at → reduced_by cut ns at ≡ reduced_from ns at
unfolding reduced_by
reduced-whole ns at f = rw (word-whole (get_or ns at 0) f.reference)

pub record_whole : (ns : List ℕ) → Fits ns → record_by cut ns ≡ record_from ns
unfolding record_by release6_by release7_by most
record_whole ns f =
    rw (
      octet-whole (get_or ns nln_at 0) (fits-at ns f nln_at octet (omega arith) (omega arith) refl),
      octet-whole (get_or ns cellcount_at 0) (fits-at ns f cellcount_at octet (omega arith) (omega arith) refl),
      octet-whole (get_or ns fullrate_at 0) (fits-at ns f fullrate_at octet (omega arith) (omega arith) refl),
      octet-whole (get_or ns halfrate_at 0) (fits-at ns f halfrate_at octet (omega arith) (omega arith) refl),
      parts_same call_length (call_by cut ns) (call_from_of ns) first_call most_calls (λ k h. call-whole ns (first_call + call_length * k) (calls-fit ns f k h)),
      parts_same reduced_length (reduced_by cut ns) (reduced_from ns) first_reduced most_reduceds (λ k h. reduced-whole ns (first_reduced + reduced_length * k) (reduceds_fit ns f k h)),
    )

-- ## What `write` answers

module _ (ns b : List ℕ) where
  pub write_long : (length ns ≡ all_length → ⊥) → (13 ≡ write_code ns (length b)) × (b ≡ after_write ns b)
  unfolding write_code after_write
  write_long h = (rw (ne_eqb (length ns) all_length h), rw (ne_eqb (length ns) all_length h))

  module _ (n : length ns ≡ all_length) where
    pub write_wide : fields_hold ns ≡ false → (12 ≡ write_code ns (length b)) × (b ≡ after_write ns b)
    unfolding write_code after_write
    write_wide e = (rw (eq-eqb (length ns) all_length n, e), rw (eq-eqb (length ns) all_length n, e))

    pub write_held : (m : Notification) (r : ℕ) (b' : List ℕ) → fields_hold ns ≡ true → m ≡ record_from ns
        → r ≡ records.write_number m (length b)
        → b' ≡ records.after_write m b
        → (r ≡ write_code ns (length b)) × (b' ≡ after_write ns b)
    unfolding records.write_number write_code after_write
    write_held m r b' e p f g =
        (f ∙ rw (p, eq-eqb (length ns) all_length n, e), g ∙ rw (p, eq-eqb (length ns) all_length n, e))
