-- The numbers of a record and of the answer, by their part. Assumes nothing.
use mathlib.Core.Path.{◌≡◌, refl, sym, ap, ◌∙◌}
use mathlib.Core.Bool.{Bool, true, false, true≢false}
use mathlib.Core.List.{List, [], ◌∷◌}
use Prim.Native.Nat.{ℕ, zero, suc, ◌+◌, ◌-◌, ◌*◌, ◌≤◌, ◌<◌}
use native.Mathlib.Nat.{add_assoc}
use native.Mathlib.Omega.{arith}
use lib.Dec.{leb, ltb}
use lib.ListN.{length, get_or, replicate, get_or-append, get_or-eq_default}
use lib.Seq.{get_or-append-add}
use borrow.Author.Tests.{lt-ltb, le-ltb, le-leb, lt-leb, leb-true, leb-false, ltb-true, ltb-false, eqb-true}
use Rattle.bits.specs.Field.{both, pick}
use Rattle.bits.proofs.Answers.{both_true}
use Rattle.csn1.specs.Told.{as_bit}
use Rattle.receiver.specs.declared.Record.{Record}
use Rattle.receiver.specs.declared.Told.{Told}
use Rattle.receiver.specs.declared.Paged.{Paged}
use Rattle.receiver.specs.Model.{no_record}
use Rattle.receiver.specs.Step.{most_entries, no_told}
use Rattle.receiver.proofs.Cases.{by-test}
use Rattle.layout.specs.Octets.{le_at, octet_at, flag_at, tabulate}
use Rattle.layout.specs.Layout.{answer_from, state_length, is_state, record_at, told_place, told_at, carries, told_no, last_of}
use Rattle.layout.specs.Parts.{record_numbers, told_numbers, paged_numbers, part_of}
use Rattle.layout.proofs.Numbers.{get_d_table}

-- ## A record

table-beyond : {A : Type 0} (f : ℕ → A) (k n i : ℕ) (d : A) → n ≤ i → get_or (tabulate f k n) i d ≡ d
unfolding tabulate
table-beyond f k zero i d h = refl
table-beyond f k (suc n) zero d h = absurd (omega (arith, h))
table-beyond f k (suc n) (suc i) d h = table-beyond f (suc k) n i d (omega (arith, h))

-- two numbers of four octets and two of eight, then twenty flags and six small numbers, an octet each
module _ (l : List ℕ) (at : ℕ) where
  pub part-four : (part : ℕ) → part < 2 → le_at 4 l (at + 4 * part) ≡ get_or (record_numbers (record_at l at)) part 0
  unfolding record_at
  part-four zero h = ap (le_at 4 l) (omega arith)
  part-four (suc zero) h = ap (le_at 4 l) (omega arith)
  part-four (suc (suc n)) h = absurd (omega (arith, h))

  pub part-eight : (part : ℕ) → 2 ≤ part → part < 4 → le_at 8 l (at + 8 * (part - 1)) ≡ get_or (record_numbers (record_at l at)) part 0
  unfolding record_at
  part-eight zero g h = absurd (omega (arith, g))
  part-eight (suc zero) g h = absurd (omega (arith, g))
  part-eight (suc (suc zero)) g h = ap (le_at 8 l) (omega arith)
  part-eight (suc (suc (suc zero))) g h = ap (le_at 8 l) (omega arith)
  part-eight (suc (suc (suc (suc n)))) g h = absurd (omega (arith, h))

  -- the number in one octet
  abbrev single : ℕ → ℕ
  single k = pick (ltb k 44) (as_bit (flag_at l (at + k))) (octet_at l (at + k))

  behind : (part : ℕ) → 4 ≤ part → get_or (record_numbers (record_at l at)) part 0 ≡ get_or (tabulate single 24 26) (part - 4) 0
  unfolding record_at tabulate
  behind zero g = absurd (omega (arith, g))
  behind (suc zero) g = absurd (omega (arith, g))
  behind (suc (suc zero)) g = absurd (omega (arith, g))
  behind (suc (suc (suc zero))) g = absurd (omega (arith, g))
  behind (suc (suc (suc (suc n)))) g =
      let e : n ≡ suc (suc (suc (suc n))) - 4 = omega arith in
      ap (λ (m : ℕ). get_or (tabulate single 24 26) m 0) e

  part-single : (part : ℕ) → 4 ≤ part → part < 30 → get_or (record_numbers (record_at l at)) part 0 ≡ single (20 + part)
  part-single part g h =
      let e : 24 + (part - 4) ≡ 20 + part = omega arith in
      behind part g ∙ get_d_table single 24 26 (part - 4) 0 (omega arith) ∙ ap single e

  pub part-flag : (part : ℕ) → 4 ≤ part → part < 24 → as_bit (flag_at l (at + 20 + part)) ≡ get_or (record_numbers (record_at l at)) part 0
  part-flag part g h = rw (part-single part g (omega arith), lt-ltb (20 + part) 44 (omega arith), add_assoc at 20 part)

  pub part_small : (part : ℕ) → 24 ≤ part → part < 30 → octet_at l (at + 20 + part) ≡ get_or (record_numbers (record_at l at)) part 0
  part_small part g h = rw (part-single part (omega arith) h, le-ltb (20 + part) 44 (omega arith), add_assoc at 20 part)

  pub part_none : (part : ℕ) → 30 ≤ part → 0 ≡ get_or (record_numbers (record_at l at)) part 0
  part_none part g = sym (behind part (omega arith) ∙ table-beyond single 24 26 (part - 4) 0 (omega arith))

zeros : (n p : ℕ) → ◌≡◌ {A = ℕ} 0 (get_or (replicate n 0) p 0)
zeros zero p = refl
zeros (suc n) zero = refl
zeros (suc n) (suc p) = zeros n p

none-part : (p : ℕ) → 0 ≡ get_or (record_numbers no_record) p 0
none-part p = zeros 30 p

-- ## What stands beside the number told

module _ (l : List ℕ) (at : ℕ) where
  pub beside_at : (part : ℕ) → part < 2 → octet_at l (at + 9 + part) ≡ get_or (octet_at l (at + 9) ∷ octet_at l (at + 10) ∷ []) part 0
  beside_at zero h = ap (λ (k : ℕ). octet_at l k) (omega arith)
  beside_at (suc zero) h = ap (λ (k : ℕ). octet_at l k) (omega arith)
  beside_at (suc (suc n)) h = absurd (omega (arith, h))

  pub beside_none : (part : ℕ) → 2 ≤ part → 0 ≡ get_or (octet_at l (at + 9) ∷ octet_at l (at + 10) ∷ []) part 0
  beside_none zero h = absurd (omega (arith, h))
  beside_none (suc zero) h = absurd (omega (arith, h))
  beside_none (suc (suc n)) h = refl

-- ## An entry that carries a record, from a place on

module _ (l : List ℕ) (at : ℕ) where
  pub told-first : (part : ℕ) → part ≡ 0 → le_at 8 l at ≡ get_or (told_numbers (told_at l at)) part 0
  unfolding told_at
  told-first part q = rw q

  pub told-second : (part : ℕ) → part ≡ 1 → octet_at l (at + 8) ≡ get_or (told_numbers (told_at l at)) part 0
  unfolding told_at
  told-second part q = rw q

  pub told-last : (part : ℕ) → 32 ≤ part → get_or (octet_at l (at + 9) ∷ octet_at l (at + 10) ∷ []) (part - 32) 0 ≡ get_or (told_numbers (told_at l at)) part 0
  unfolding told_at
  told-last part h =
      let t = told_at l at in
      let e : 32 + (part - 32) ≡ part = omega arith in
      sym (get_or-append-add (t.key ∷ t.number ∷ record_numbers t.«record») (t.follow ∷ t.kept ∷ []) (part - 32) 0)
      ∙ ap (λ (n : ℕ). get_or (told_numbers t) n 0) e

  pub told-middle : (part : ℕ) → (part ≡ 0 → ⊥) → (part ≡ 1 → ⊥) → part < 32
      → get_or (record_numbers (record_at l (at + 16))) (part - 2) 0 ≡ get_or (told_numbers (told_at l at)) part 0
  unfolding told_at
  told-middle zero a b h = absurd (a refl)
  told-middle (suc zero) a b h = absurd (b refl)
  told-middle (suc (suc p)) a b h =
      let e : suc (suc p) - 2 ≡ p = omega arith in
      ap (λ (n : ℕ). get_or (record_numbers (record_at l (at + 16))) n 0) e
      ∙ sym (get_or-append (record_numbers (record_at l (at + 16))) (octet_at l (at + 9) ∷ octet_at l (at + 10) ∷ []) 0 p (omega arith))

-- ## An entry

pub carries-high : (n : ℕ) → 3 < n → carries n ≡ false
carries-high n h = rw (lt-leb n 3 h, le-leb 1 n (omega (arith, h)))

pub carries_in : (n : ℕ) → 1 ≤ n → n ≤ 3 → carries n ≡ true
carries_in n g h = rw (le-leb 1 n g, le-leb n 3 h)

pub carries_some : (n : ℕ) → carries n ≡ true → 1 ≤ n
carries_some n e = leb-true 1 n (both_true (leb 1 n) (leb n 3) e).0

module _ (l : List ℕ) (entry : ℕ) where
  told-without : carries (octet_at l (told_place entry + 8)) ≡ false → (told_no l entry).«record» ≡ no_record
  unfolding told_no
  told-without q = rw q

  pub told-carried : carries (octet_at l (told_place entry + 8)) ≡ true → told_no l entry ≡ told_at l (told_place entry)
  unfolding told_no told_at
  told-carried q = rw q

  -- the numbers of its record, and what stands beside the number told
  told_in : (p : ℕ) → p < 30 → get_or (record_numbers (told_no l entry).«record») p 0 ≡ get_or (told_numbers (told_no l entry)) (suc (suc p)) 0
  told_in p h = sym (get_or-append (record_numbers (told_no l entry).«record») ((told_no l entry).follow ∷ (told_no l entry).kept ∷ []) 0 p h)

  -- where no record is carried, the others
  told-low : (part : ℕ) → part < 2 → get_or (told_numbers (told_at l (told_place entry))) part 0 ≡ get_or (told_numbers (told_no l entry)) part 0
  unfolding told_no told_at
  told-low zero h = refl
  told-low (suc zero) h = refl
  told-low (suc (suc p)) h = absurd (omega arith)

  told-high : (part : ℕ) → 32 ≤ part → get_or (told_numbers (told_at l (told_place entry))) part 0 ≡ get_or (told_numbers (told_no l entry)) part 0
  unfolding told_no
  told-high part h =
      let t = told_no l entry in
      let e : 32 + (part - 32) ≡ part = omega arith in
      sym (told-last l (told_place entry) part h)
      ∙ sym (get_or-append-add (t.key ∷ t.number ∷ record_numbers t.«record») (t.follow ∷ t.kept ∷ []) (part - 32) 0)
      ∙ ap (λ (n : ℕ). get_or (told_numbers t) n 0) e

  pub told-outside : (part : ℕ) → both (leb 2 part) (ltb part 32) ≡ false
      → get_or (told_numbers (told_at l (told_place entry))) part 0 ≡ get_or (told_numbers (told_no l entry)) part 0
  told-outside part q =
      by-test (leb 2 part)
      (λ p. by-test (ltb part 32) (λ r. absurd (true≢false (rw (p, r) at q))) (λ r. told-high part (ltb-false part 32 r)))
      (λ p. told-low part (leb-false 2 part p))

  pub told-bare : (part : ℕ) → (part ≡ 0 → ⊥) → (part ≡ 1 → ⊥) → part < 32 → carries (octet_at l (told_place entry + 8)) ≡ false → 0 ≡ get_or (told_numbers (told_no l entry)) part 0
  told-bare zero a b h q = absurd (a refl)
  told-bare (suc zero) a b h q = absurd (b refl)
  told-bare (suc (suc p)) a b h q = none-part p ∙ ap (λ (r : Record). get_or (record_numbers r) p 0) (sym (told-without q)) ∙ told_in p (omega arith)

-- ## The answer

-- nine numbers say who is paged
pub paged-beyond : (p : Paged) (part : ℕ) → 9 ≤ part → 0 ≡ get_or (paged_numbers p) part 0
paged-beyond p part h = sym (get_or-eq_default (paged_numbers p) 0 h)

table_get : {A : Type 0} (f : ℕ → A) (n i : ℕ) (d : A) → i < n → get_or (tabulate f 0 n) i d ≡ f i
table_get f n i d h = let z : 0 + i ≡ i = omega arith in get_d_table f 0 n i d h ∙ ap f z

module _ (l : List ℕ) (entry : ℕ) where
  pub last-three : (part : ℕ) → part < 3 → le_at 4 l (answer_from + 4 * part) ≡ part_of (last_of l) entry part
  unfolding part_of last_of
  last-three zero h = refl
  last-three (suc zero) h = refl
  last-three (suc (suc zero)) h = refl
  last-three (suc (suc (suc n))) h = absurd (omega (arith, h))

  -- the entry itself
  entry-beyond : most_entries ≤ entry → get_or (last_of l).entries entry no_told ≡ no_told
  unfolding last_of
  entry-beyond b = table-beyond _ 0 most_entries entry no_told b

  entry-unused : entry < most_entries → le_at 4 l (answer_from + 8) ≤ entry → get_or (last_of l).entries entry no_told ≡ no_told
  unfolding last_of
  entry-unused b u = table_get _ most_entries entry no_told b ∙ rw (le-ltb entry (le_at 4 l (answer_from + 8)) u)

  entry-told : entry < most_entries → entry < le_at 4 l (answer_from + 8) → get_or (last_of l).entries entry no_told ≡ told_no l entry
  unfolding last_of
  entry-told b u = table_get _ most_entries entry no_told b ∙ rw (lt-ltb entry (le_at 4 l (answer_from + 8)) u)

  -- the numbers of an entry, among the parts
  last_entry : (part : ℕ) → 3 ≤ part → part < 37 → (t : Told) → get_or (last_of l).entries entry no_told ≡ t → get_or (told_numbers t) (part - 3) 0 ≡ part_of (last_of l) entry part
  unfolding part_of
  last_entry part h k t q =
      let e : part ≡ suc (suc (suc (part - 3))) = omega arith in
      ap (λ (x : Told). get_or (told_numbers x) (part - 3) 0) (sym q)
      ∙ sym (get_or-append (told_numbers (get_or (last_of l).entries entry no_told)) (paged_numbers (last_of l).paged) 0 (part - 3) (omega arith))
      ∙ ap (λ (m : ℕ). part_of (last_of l) entry m) (sym e)

  last_none : (part : ℕ) → 3 ≤ part → part < 37 → get_or (last_of l).entries entry no_told ≡ no_told → 0 ≡ part_of (last_of l) entry part
  last_none part h k q = zeros 34 (part - 3) ∙ last_entry part h k no_told q

  pub last-beyond : (part : ℕ) → 3 ≤ part → part < 37 → most_entries ≤ entry → 0 ≡ part_of (last_of l) entry part
  last-beyond part h k b = last_none part h k (entry-beyond b)

  pub last-unused : (part : ℕ) → 3 ≤ part → part < 37 → entry < most_entries → le_at 4 l (answer_from + 8) ≤ entry → 0 ≡ part_of (last_of l) entry part
  last-unused part h k b u = last_none part h k (entry-unused b u)

  pub last-told : (part : ℕ) → 3 ≤ part → part < 37 → entry < most_entries → entry < le_at 4 l (answer_from + 8)
      → get_or (told_numbers (told_no l entry)) (part - 3) 0 ≡ part_of (last_of l) entry part
  last-told part h k b u = last_entry part h k (told_no l entry) (entry-told b u)

  -- and those of who is paged
  pub last-paged : (part : ℕ) → 37 ≤ part → get_or (paged_numbers (last_of l).paged) (part - 37) 0 ≡ part_of (last_of l) entry part
  unfolding part_of
  last-paged part h =
      let a = last_of l in
      let e : 37 + (part - 37) ≡ part = omega arith in
      sym (get_or-append-add (a.expired ∷ a.dropped ∷ a.count ∷ told_numbers (get_or a.entries entry no_told)) (paged_numbers a.paged) (part - 37) 0)
      ∙ ap (λ (m : ℕ). part_of a entry m) e

  -- its record: only 1 to 3 carry one
  record_by : (t : Told) → get_or (last_of l).entries entry no_told ≡ t → (n : ℕ) → n ≡ part_of (last_of l) entry 4 → n ≡ t.number
  unfolding part_of
  record_by t q n e = e ∙ ap (λ (x : Told). x.number) q

  module _ (n : ℕ) (e : n ≡ part_of (last_of l) entry 4) where
    -- what is told something is there
    record_there : 1 ≤ n → (entry < most_entries) × (entry < le_at 4 l (answer_from + 8))
    record_there h =
        by-test (ltb entry most_entries)
        (λ p.
        let b = ltb-true _ _ p in
        by-test (ltb entry (le_at 4 l (answer_from + 8))) (λ q. (b, ltb-true _ _ q))
        (λ q. let z : n ≡ 0 = record_by no_told (entry-unused b (ltb-false _ _ q)) n e in absurd (omega (arith, z, h))))
        (λ p. let z : n ≡ 0 = record_by no_told (entry-beyond (ltb-false _ _ p)) n e in absurd (omega (arith, z, h)))

    record_told : 1 ≤ n → (b : Bool) → carries n ≡ b → pick b (record_at l (told_place entry + 16)) no_record ≡ (get_or (last_of l).entries entry no_told).«record»
    unfolding told_no
    record_told h b p =
        let w = record_there h in
        let q = entry-told w.0 w.1 in
        let m : octet_at l (told_place entry + 8) ≡ n = sym (record_by (told_no l entry) q n e) in
        rw (q, m, p)

    record_zero : n ≡ 0 → no_record ≡ (get_or (last_of l).entries entry no_told).«record»
    unfolding told_no
    record_zero z =
        by-test (ltb entry most_entries)
        (λ p.
        let b = ltb-true _ _ p in
        by-test (ltb entry (le_at 4 l (answer_from + 8)))
        (λ q.
        let t = entry-told b (ltb-true _ _ q) in
        let m : octet_at l (told_place entry + 8) ≡ 0 = sym (record_by (told_no l entry) t n e) ∙ z in
        sym (ap (λ (x : Told). x.«record») t ∙ told-without l entry (ap carries m)))
        (λ q. sym (ap (λ (x : Told). x.«record») (entry-unused b (ltb-false _ _ q)))))
        (λ p. sym (ap (λ (x : Told). x.«record») (entry-beyond (ltb-false _ _ p))))

  -- the same by the number that the code reads, which is 0 where there is no state
  module _ (n : ℕ) (e : n ≡ pick (is_state l) (part_of (last_of l) entry 4) 0) where
    read-state : 1 ≤ n → (is_state l ≡ true) × (n ≡ part_of (last_of l) entry 4)
    read-state h = by-test (is_state l) (λ p. (p, e ∙ rw p)) (λ p. let z : n ≡ 0 = e ∙ rw p in absurd (omega (arith, z, h)))

    pub read-there : 1 ≤ n → (length l ≡ state_length) × (entry < most_entries)
    read-there h = let w = read-state h in (eqb-true (length l) state_length w.0, (record_there n w.1 h).0)

    pub read_some : 1 ≤ n → (b : Bool) → carries n ≡ b
        → pick b (record_at l (told_place entry + 16)) no_record ≡ pick (is_state l) (get_or (last_of l).entries entry no_told).«record» no_record
    read_some h b p = let w = read-state h in rw w.0 (record_told n w.1 h b p)

    pub read_none : n < 1 → no_record ≡ pick (is_state l) (get_or (last_of l).entries entry no_told).«record» no_record
    read_none h = by-test (is_state l) (λ p. let q : n ≡ part_of (last_of l) entry 4 = e ∙ rw p in rw p (record_zero n q (omega (arith, h)))) (λ p. rw p)

    pub read_bare : carries n ≡ false → no_record ≡ pick (is_state l) (get_or (last_of l).entries entry no_told).«record» no_record
    read_bare q = by-test (leb 1 n) (λ p. read_some (leb-true 1 n p) false q) (λ p. read_none (leb-false 1 n p))
