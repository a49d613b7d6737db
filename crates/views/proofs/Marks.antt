-- The mark of a setup stays where it is, octet by octet. Assumes nothing.
use mathlib.Core.Path.{◌≡◌, refl, ◌∙◌}
use mathlib.Core.Bool.{Bool, true, false}
use mathlib.Core.List.{List, [], ◌∷◌}
use Prim.Native.Nat.{ℕ, suc, ◌+◌, ◌<◌}
use native.Mathlib.Omega.{arith}
use lib.Dec.{ltb, eqb}
use lib.ListN.{get_or, set}
use lib.Seq.{get_or-set_other}
use Rattle.bits.specs.Field.{both, pick}
use Rattle.arrays.specs.Runs.{stored}
use Rattle.arrays.proofs.Running.{stored-before}
use Rattle.receiver.specs.declared.Met.{Met}
use Rattle.receiver.specs.declared.Record.{Record}
use Rattle.receiver.specs.declared.Slot.{Slot}
use Rattle.receiver.specs.Channels.{key_count, places, place_on}
use Rattle.receiver.specs.declared.Cell.{Cell}
use Rattle.receiver.specs.Model.{key_of, index_of, meet_of}
use Rattle.receiver.specs.Step.{set_at, told_as, told_only, Event, content_of}
use Rattle.receiver.proofs.Cases.{by-test}
use Rattle.layout.specs.Octets.{low_octets}
use Rattle.layout.specs.Layout.{mark_from, kinds_from, record_octets, kind_place, since_place, record_place, slot_no, keys_in, sets_in, put_slot, put_told}
use Rattle.layout.proofs.Decoding.{told-elsewhere, head-elsewhere}
use Rattle.layout.proofs.Sweeps.{run-elsewhere}
use Rattle.lent.specs.Events.{after_meet, met_octets, tell_at, tell_octets, all_octets, event_code, octets_after}

-- what holds of both holds of the one that is picked
by-pick : (P : List ℕ → Type 0) (b : Bool) (x y : List ℕ) → P x → P y → P (pick b x y)
by-pick P true x y p q = p
by-pick P false x y p q = q

-- octets before the places
module _ (j : ℕ) (h : j < kinds_from) where
  put_stays : (l : List ℕ) (i : ℕ) (s : Slot) → get_or (put_slot l i s) j 0 ≡ get_or l j 0
  unfolding put_slot
  put_stays l i s =
      stored-before (stored (set l (kind_place i) s.half) (since_place i) (low_octets 4 s.since)) (record_place i) (record_octets s.«record») j (omega arith)
      ∙ stored-before (set l (kind_place i) s.half) (since_place i) (low_octets 4 s.since) j (omega arith)
      ∙ get_or-set_other l (kind_place i) j s.half 0 (λ e. omega arith)

  met-stays : (l : List ℕ) (i : ℕ) (m : Met) → get_or (after_meet l i m) j 0 ≡ get_or l j 0
  met-stays l i m = by-pick (λ (x : List ℕ). get_or x j 0 ≡ get_or l j 0) (both (ltb 2 m.number) (ltb m.number 5)) (put_slot l i m.held) l (put_stays l i m.held) refl

  at-stays : (l : List ℕ) (cell : Cell) (ch now n i : ℕ) (e : Record) → get_or (tell_at l cell ch now n i e) j 0 ≡ get_or l j 0
  at-stays l cell ch now n i e =
      let m = meet_of ch now (slot_no l (place_on i ch)) e in
      by-pick (λ (x : List ℕ). get_or x j 0 ≡ get_or l j 0) (ltb i key_count) (met_octets l cell ch n i (key_of e.call) m) (put_told l n (told_only (key_of e.call) 0))
      (told-elsewhere (after_meet l (place_on i ch) m) n (told_as (set_at (sets_in l) i) cell (key_of e.call) m.number m.told) j (λ q. omega arith) ∙ met-stays l (place_on i ch) m)
      (told-elsewhere l n (told_only (key_of e.call) 0) j (λ q. omega arith))

  tell_stays : (l : List ℕ) (cell : Cell) (ch now n : ℕ) (e : Record) → get_or (tell_octets l cell ch now n e) j 0 ≡ get_or l j 0
  unfolding tell_octets
  tell_stays l cell ch now n e = at-stays l cell ch now n (index_of (keys_in l) (key_of e.call)) e

  all-stays : (l : List ℕ) (cell : Cell) (ch now n : ℕ) (es : List Record) → get_or (all_octets l cell ch now n es) j 0 ≡ get_or l j 0
  unfolding all_octets
  all-stays l cell ch now n [] = refl
  all-stays l cell ch now n (e ∷ es) = all-stays (tell_octets l cell ch now n e) cell ch now (suc n) es ∙ tell_stays l cell ch now n e

pub mark_stays : (l : List ℕ) (e : Event) (j : ℕ) → j < 4 → get_or (octets_after l e) (mark_from + j) 0 ≡ get_or l (mark_from + j) 0
unfolding octets_after
mark_stays l e j h =
    by-test (eqb (event_code l e) 0)
    (λ p. rw p
    (head-elsewhere _ _ _ _ _ _ _ (mark_from + j) (omega arith) (λ q. omega arith) (omega arith)
    ∙ all-stays (mark_from + j) (omega arith) _ _ _ e.tick 0 (content_of e.happening).entries
    ∙ run-elsewhere e.tick _ 0 places l (omega arith) (mark_from + j) (λ q. omega arith) (λ q. omega arith)))
    (λ p. rw p)
