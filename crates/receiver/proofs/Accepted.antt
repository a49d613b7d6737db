-- What an accepted message has: an NLN of two bits, and not more entries than an answer has places. Assumes nothing.
use mathlib.Core.Path.{◌≡◌, refl, ap}
use mathlib.Core.Bool.{Bool, true, false}
use mathlib.Core.List.{List, [], ◌∷◌}
use Prim.Native.Nat.{ℕ, zero, suc, ◌≤◌, ◌<◌}
use native.Mathlib.Omega.{arith}
use lib.Dec.{leb}
use lib.ListN.{length, take, length-append}
use borrow.Author.Tests.{ltb-true}
use Rattle.csn1.specs.Told.{padded}
use Rattle.csn1.specs.Write.{flagged_right}
use Rattle.bits.proofs.Answers.{both_true}
use Rattle.bits.specs.Field.{pick}
use Rattle.csn1.proofs.Telling.{picked}
use Rattle.nch.specs.declared.Notification.{Notification}
use Rattle.nch.specs.Told.{read_of}
use Rattle.facch.specs.declared.Notification.{Notification as Message}
use Rattle.facch.specs.Told.{read_of as readFacch}
use Rattle.nch.specs.Write.{calls_of, in_range, write_number}
use Rattle.pch.specs.declared.Entry.{Entry}
use Rattle.pch.specs.Entry.{read_of as readPch}
use Rattle.nch.proofs.Promises.{writing_gives_back_what_was_read, places_are_enough}
use Rattle.receiver.specs.declared.Record.{Record}
use Rattle.receiver.specs.declared.Slot.{Slot}
use Rattle.receiver.specs.declared.Cell.{Cell}
use Rattle.receiver.specs.Model.{no_nln, map_at}
use Rattle.receiver.specs.Entries.{call_entry, reduced_entry, nch_entries, facch_entry, facch_entries, pch_entries}
use Rattle.receiver.specs.Step.{most_entries, Happening, heardNch, heardFacch, heard_pch, joins, moves, bit_is, passes, Cause, nothing, joining, paged, moving}
use Rattle.receiver.specs.Step.{numbered, numbering, content_of, grounds_of, slots_after, all_told, no_told}
use Rattle.receiver.proofs.Loops.{length-map_at}

-- ## NLN

flagged_lt : (h : Bool) (v : ℕ) → flagged_right h v 4 ≡ true → h ≡ true → v < 4
flagged_lt true v e o = ltb-true v 4 e
flagged_lt false v e o = absurd (let z : ◌≡◌ {A = ℕ} 0 1 = cc in omega arith)

written-nln : (m : Notification) → write_number m 20 ≡ 0 → flagged_right m.hasNln m.nln 4 ≡ true
unfolding write_number in_range
written-nln m e =
    let b = picked (in_range m) _ 12 (omega arith) e in
    (both_true (flagged_right m.hasNln m.nln 4) _ (both_true (leb m.callcount 4) _ b.0).1).0

-- where a message has an NLN, it is none that says that none is known
read-nln : (s : List ℕ) → (read_of s).refusal.number ≡ 0 → (read_of s).«record».hasNln ≡ true → (read_of s).«record».nln < no_nln
read-nln s z o = flagged_lt (read_of s).«record».hasNln (read_of s).«record».nln (written-nln (read_of s).«record» (writing_gives_back_what_was_read s z).accepted) o

abbrev pub Low : Cause → Type 0
Low nothing = Unit {0}
Low (joining k) = Unit {0}
Low (paged k) = Unit {0}
Low (moving m) = Unit {0}
Low (numbered n) = n < no_nln

low-numbering : (b : Bool) (n : ℕ) → (b ≡ true → n < no_nln) → Low (numbering b n)
low-numbering true n h = h refl
low-numbering false n h = tt

pub low : (h : Happening) → (grounds_of h).number ≡ 0 → Low (content_of h).cause
low (heardNch s) z = low-numbering (read_of s).«record».hasNln (read_of s).«record».nln (read-nln s z)
low (heardFacch s) z = tt
low (heard_pch ns) z = tt
low (joins k) z = tt
low (moves m) z = tt
low (bit_is b) z = tt
low passes z = tt

-- ## Entries

take_le : {A : Type 0} (n : ℕ) (l : List A) → length (take n l) ≤ n
take_le zero l = omega arith
take_le (suc n) [] = omega arith
take_le (suc n) (a ∷ l) = omega (arith, take_le n l)

nch-few : (m : Notification) → m.callcount ≤ 4 → m.release6.reducedcount ≤ 5 → length (nch_entries m) ≤ most_entries
unfolding nch_entries
nch-few m h k =
    let xs : List Record = map_at (call_entry m) 0 (calls_of m) in
    let ys : List Record = map_at (reduced_entry m) 0 (take m.release6.reducedcount m.release6.reduced) in
    omega (
      arith,
      length-append xs ys,
      length-map_at (call_entry m) 0 (calls_of m),
      length-map_at (reduced_entry m) 0 (take m.release6.reducedcount m.release6.reduced),
      take_le m.callcount m.calls,
      take_le m.release6.reducedcount m.release6.reduced,
    )

-- b: the message pages somebody
facch-few : (m : Message) → length (facch_entries m) ≤ most_entries
unfolding facch_entries
facch-few m = go m.paging
  where
    go : (b : Bool) → length (pick b [] (facch_entry m ∷ [])) ≤ most_entries
    go true = omega arith
    go false = omega arith

pch-few : (p : Entry) → length (pch_entries p) ≤ most_entries
unfolding pch_entries
pch-few p = omega arith

-- an accepted event has a place for each
pub few : (h : Happening) → (grounds_of h).number ≡ 0 → length (content_of h).entries ≤ most_entries
few (heardNch s) z = nch-few (read_of s).«record» (places_are_enough s z).0 (places_are_enough s z).1
few (heardFacch s) z = facch-few (readFacch s).«record»
few (heard_pch ns) z = pch-few (readPch ns).«record»
few (joins k) z = omega arith
few (moves m) z = omega arith
few (bit_is b) z = omega arith
few passes z = omega arith

-- ## Answers in their places

pub take-padded : {A : Type 0} (z : A) (n : ℕ) (l : List A) → length l ≤ n → take (length l) (padded z n l) ≡ l
take-padded z n [] h = refl
take-padded z zero (a ∷ l) h = absurd (omega arith)
take-padded z (suc n) (a ∷ l) h = ap (λ x. a ∷ x) (take-padded z n l (omega arith))

pub length-told : (keys sets : List ℕ) (cell : Cell) (ch now : ℕ) (l : List Slot) (es : List Record) → length (all_told keys sets cell ch now l es) ≡ length es
unfolding all_told
length-told keys sets cell ch now l [] = refl
length-told keys sets cell ch now l (e ∷ es) = ap suc (length-told keys sets cell ch now (slots_after keys ch now l e) es)

-- the places in use say what each entry is told
pub told_back : (keys sets : List ℕ) (cell : Cell) (ch now : ℕ) (l : List Slot) (es : List Record) → length es ≤ most_entries
    → take (length es) (padded no_told most_entries (all_told keys sets cell ch now l es)) ≡ all_told keys sets cell ch now l es
told_back keys sets cell ch now l es h =
    rw (← length-told keys sets cell ch now l es)
    (take-padded no_told most_entries (all_told keys sets cell ch now l es) (omega (arith, length-told keys sets cell ch now l es)))
