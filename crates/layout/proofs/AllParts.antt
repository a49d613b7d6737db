-- All parts of an answer are the answer. Assumes nothing.
use mathlib.Core.Path.{◌≡◌, sym, ap, ◌∙◌}
use mathlib.Core.Bool.{Bool}
use mathlib.Core.List.{List, [], ◌∷◌}
use Prim.Native.Nat.{ℕ, suc, ◌+◌, ◌<◌}
use native.Mathlib.Omega.{arith}
use lib.Dec.{lit<}
use lib.ListN.{length, get_or, get_or-append}
use lib.Seq.{ext_get_or, get_or-append-add}
use Rattle.csn1.specs.Told.{is_one, as_bit}
use Rattle.csn1.proofs.Writing.{flag-back}
use Rattle.receiver.specs.declared.Record.{Record}
use Rattle.receiver.specs.declared.Told.{Told}
use Rattle.receiver.specs.declared.Paged.{Paged}
use Rattle.receiver.specs.Step.{no_told, most_entries}
use Rattle.layout.specs.Layout.{Last, last_of}
use Rattle.layout.specs.Parts.{record_numbers, told_numbers, paged_numbers, part_count, part_of}
use Rattle.layout.proofs.Numbers.{length-table}

same_flag : (a b : Bool) → as_bit a ≡ as_bit b → a ≡ b
same_flag a b p = sym (flag-back a) ∙ ap is_one p ∙ flag-back b

-- a record is its thirty numbers
same_record : (r s : Record) → ((n : ℕ) → n < 30 → get_or (record_numbers r) n 0 ≡ get_or (record_numbers s) n 0) → r ≡ s
same_record r s p = λ i.
    record {
      full = same_flag r.full s.full (p 4 (lit< tt)) i;
      call =
          record {
            reference = p 0 (lit< tt) i;
            vgcs = same_flag r.call.vgcs s.call.vgcs (p 5 (lit< tt)) i;
            acknowledged = same_flag r.call.acknowledged s.call.acknowledged (p 6 (lit< tt)) i;
            priority = p 24 (lit< tt) i;
            cipher = p 25 (lit< tt) i;
            hasDescription = same_flag r.call.hasDescription s.call.hasDescription (p 7 (lit< tt)) i;
            description =
                record {
                  channel = p 1 (lit< tt) i;
                  hopping = same_flag r.call.description.hopping s.call.description.hopping (p 8 (lit< tt)) i;
                  shortlist = same_flag r.call.description.shortlist s.call.description.shortlist (p 9 (lit< tt)) i;
                  length = p 26 (lit< tt) i;
                  frequencies = p 2 (lit< tt) i;
                };
          };
      hasSegment = same_flag r.hasSegment s.hasSegment (p 10 (lit< tt)) i;
      segment = same_flag r.segment s.segment (p 11 (lit< tt)) i;
      hasRandom = same_flag r.hasRandom s.hasRandom (p 12 (lit< tt)) i;
      rand = p 3 (lit< tt) i;
      emergency = same_flag r.emergency s.emergency (p 13 (lit< tt)) i;
      common =
          record {
            hasCount = same_flag r.common.hasCount s.common.hasCount (p 14 (lit< tt)) i;
            cellcount = p 27 (lit< tt) i;
            b22 = same_flag r.common.b22 s.common.b22 (p 15 (lit< tt)) i;
            hasUplink = same_flag r.common.hasUplink s.common.hasUplink (p 16 (lit< tt)) i;
            uplink = same_flag r.common.uplink s.common.uplink (p 17 (lit< tt)) i;
            hasAmr = same_flag r.common.hasAmr s.common.hasAmr (p 18 (lit< tt)) i;
            hasFullrate = same_flag r.common.hasFullrate s.common.hasFullrate (p 19 (lit< tt)) i;
            fullrate = p 28 (lit< tt) i;
            hasHalfrate = same_flag r.common.hasHalfrate s.common.hasHalfrate (p 20 (lit< tt)) i;
            halfrate = p 29 (lit< tt) i;
            hasSms = same_flag r.common.hasSms s.common.hasSms (p 21 (lit< tt)) i;
            confidential = same_flag r.common.confidential s.common.confidential (p 22 (lit< tt)) i;
            private = same_flag r.common.private s.common.private (p 23 (lit< tt)) i;
          };
    }

-- its record's numbers stand among its own
of_record : (t : Told) (n : ℕ) → n < 30 → get_or (record_numbers t.«record») n 0 ≡ get_or (told_numbers t) (suc (suc n)) 0
of_record t n h = sym (get_or-append (record_numbers t.«record») (t.follow ∷ t.kept ∷ []) 0 n h)

-- an entry is its key, its number, those of its record, and whether it can be followed
same-told : (a b : Told) → ((n : ℕ) → n < 34 → get_or (told_numbers a) n 0 ≡ get_or (told_numbers b) n 0) → a ≡ b
same-told a b p = λ i.
    record {
      key = p 0 (lit< tt) i;
      number = p 1 (lit< tt) i;
      «record» = same_record a.«record» b.«record» (λ n h. of_record a n h ∙ p (suc (suc n)) (omega arith) ∙ sym (of_record b n h)) i;
      follow = p 32 (lit< tt) i;
      kept = p 33 (lit< tt) i;
    }

-- who is paged is nine numbers
same-paged : (a b : Paged) → ((n : ℕ) → n < 9 → get_or (paged_numbers a) n 0 ≡ get_or (paged_numbers b) n 0) → a ≡ b
same-paged a b p = λ i.
    record {
      there = same_flag a.there b.there (p 0 (lit< tt)) i;
      page =
          record {
            identityLength = p 1 (lit< tt) i;
            identityFirst = p 2 (lit< tt) i;
            identityRest = p 3 (lit< tt) i;
            channelFirst = p 4 (lit< tt) i;
            hasPriority = same_flag a.page.hasPriority b.page.hasPriority (p 5 (lit< tt)) i;
            priority = p 6 (lit< tt) i;
          };
      hasCause = same_flag a.hasCause b.hasCause (p 7 (lit< tt)) i;
      cause = same_flag a.cause b.cause (p 8 (lit< tt)) i;
    }

-- the numbers of an entry, and of who is paged, among the parts
of-told : (a : Last) (j n : ℕ) → n < 34 → get_or (told_numbers (get_or a.entries j no_told)) n 0 ≡ part_of a j (suc (suc (suc n)))
unfolding part_of
of-told a j n h = sym (get_or-append (told_numbers (get_or a.entries j no_told)) (paged_numbers a.paged) 0 n h)

of-paged : (a : Last) (j n : ℕ) → get_or (paged_numbers a.paged) n 0 ≡ part_of a j (37 + n)
unfolding part_of
of-paged a j n = sym (get_or-append-add (a.expired ∷ a.dropped ∷ a.count ∷ told_numbers (get_or a.entries j no_told)) (paged_numbers a.paged) n 0)

-- an answer is its three numbers, its entries and who is paged
pub same_answer : (a b : Last)
    → length a.entries ≡ most_entries
    → length b.entries ≡ most_entries
    → ((entry part : ℕ) → entry < most_entries → part < part_count → part_of a entry part ≡ part_of b entry part)
    → a ≡ b
unfolding part_of
same_answer a b v w p =
    let e : a.entries ≡ b.entries =
    ext_get_or no_told a.entries b.entries (v ∙ sym w)
    (λ j h. same-told (get_or a.entries j no_told) (get_or b.entries j no_told)
    (λ n k. of-told a j n k ∙ p j (suc (suc (suc n))) (omega (arith, h, v)) (omega arith) ∙ sym (of-told b j n k)))
    in
    let q = same-paged a.paged b.paged (λ n k. of-paged a 0 n ∙ p 0 (37 + n) (lit< tt) (omega arith) ∙ sym (of-paged b 0 n)) in
    λ i. record { expired = p 0 0 (lit< tt) (lit< tt) i; dropped = p 0 1 (lit< tt) (lit< tt) i; count = p 0 2 (lit< tt) (lit< tt) i; entries = e i; paged = q i }

pub nine-entries : (l : List ℕ) → length (last_of l).entries ≡ most_entries
unfolding last_of
nine-entries l = length-table _ 0 most_entries
