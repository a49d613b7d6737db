-- The numbers of an answer as they are read from the lent octets, and the text of its entries, one behind the other. Assumes nothing.
use Rattle.std.proofs.Common.{◌≡◌, ℕ, suc, ◌+◌, ◌*◌, ◌<◌, ◌≤◌, min, List, [], ◌∷◌, ◌++◌, length, get_or, take, sym, ap, ◌∙◌, append-nil, add-one, arith, length-append, length-take, take_all}
use Rattle.std.proofs.Common.{get_or-take, take-suc, ne_eqb}
use Rattle.bits.specs.Field.{pick}
use Rattle.receiver.specs.Step.{no_told}
use Rattle.layout.specs.Layout.{state_length, is_state, Last, last_of, answer_from}
use Rattle.layout.specs.Parts.{part_of}
use Rattle.layout.proofs.States.{at-state}
use Rattle.layout.proofs.Numbers.{le_below}
use Rattle.layout.proofs.AllParts.{nine-entries}
use Rattle.text.specs.Lines.{Line, added}
use Rattle.text.specs.Digits.{decimal}
use Rattle.text.proofs.Lines.{line}
use Rattle.capture.specs.Replay.{told, blank, line_end, said_only, entry_text, entries_text, field_text, line_text}
use Rattle.capture.specs.Inner.{shown_by}
use Rattle.capture.proofs.Texts.{nothing-added, placed, then-added, length-number, four-numbers, entry-numbers, length-entry, length-entries, entries-more, length-told, told_at}

-- ## A line of numbers

-- the room that is left behind a number
pub room_next : (k n b : ℕ) (l o : List ℕ) (at end : ℕ) → at + (21 + k) ≤ length l → line o end ≡ added (decimal n ++ (b ∷ [])) (line l at) → end + k ≤ length o
room_next k n b l o at end h e =
    let w = length-number n b in
    let p = placed (decimal n ++ (b ∷ [])) l o at end (omega arith) e in
    omega arith

module _ (l : List ℕ) (at : ℕ) where
  pub four-added : at + 84 ≤ length l → (n t r d : ℕ) (w x y z : Line) → w ≡ added (decimal n ++ (blank ∷ [])) (line l at) → x ≡ added (decimal t ++ (blank ∷ [])) w
      → y ≡ added (decimal r ++ (blank ∷ [])) x → z ≡ added (decimal d ++ (line_end ∷ [])) y → z ≡ added (field_text n t r d) (line l at)
  four-added h n t r d w x y z e f g i =
      let s1 : List ℕ = decimal n ++ (blank ∷ []) in
      let s2 : List ℕ = decimal t ++ (blank ∷ []) in
      let s3 : List ℕ = decimal r ++ (blank ∷ []) in
      let s4 : List ℕ = decimal d ++ (line_end ∷ []) in
      let k1 : length s1 ≤ 21 = length-number n blank in
      let k2 : length s2 ≤ 21 = length-number t blank in
      let k3 : length s3 ≤ 21 = length-number r blank in
      let k4 : length s4 ≤ 21 = length-number d line_end in
      let m2 : length (s1 ++ s2) ≡ length s1 + length s2 = length-append s1 s2 in
      let m3 : length ((s1 ++ s2) ++ s3) ≡ length (s1 ++ s2) + length s3 = length-append (s1 ++ s2) s3 in
      let a = then-added s1 s2 l at w x (omega arith) e f in
      let b = then-added (s1 ++ s2) s3 l at x y (omega arith) a g in
      then-added ((s1 ++ s2) ++ s3) s4 l at y z (omega arith) b i ∙ ap (λ (s : List ℕ). added s (line l at)) (four-numbers n t r d)

  pub entry-added : at + 44 ≤ length l → (k t : ℕ) (w x y : Line) → w ≡ added (blank ∷ blank ∷ []) (line l at) → x ≡ added (decimal k ++ (blank ∷ [])) w
      → y ≡ added (decimal t ++ (line_end ∷ [])) x → y ≡ added (entry_text (k, t)) (line l at)
  entry-added h k t w x y e f g =
      let s1 : List ℕ = blank ∷ blank ∷ [] in
      let s2 : List ℕ = decimal k ++ (blank ∷ []) in
      let s3 : List ℕ = decimal t ++ (line_end ∷ []) in
      let k2 : length s2 ≤ 21 = length-number k blank in
      let k3 : length s3 ≤ 21 = length-number t line_end in
      let m2 : length (s1 ++ s2) ≡ length s1 + length s2 = length-append s1 s2 in
      let a = then-added s1 s2 l at w x (omega arith) e f in
      then-added (s1 ++ s2) s3 l at x y (omega arith) a g ∙ ap (λ (s : List ℕ). added s (line l at)) (entry-numbers k t)

-- ## What is read

module _ (l : List ℕ) (state : length l ≡ state_length) where
  part-is : (j p n : ℕ) → n ≡ pick (is_state l) (part_of (last_of l) j p) 0 → n ≡ part_of (last_of l) j p
  part-is j p n e = e ∙ at-state l _ _ state

  pub expired-is : (n : ℕ) → n ≡ pick (is_state l) (part_of (last_of l) 0 0) 0 → n ≡ (last_of l).expired
  unfolding part_of
  expired-is n e = part-is 0 0 n e

  pub dropped-is : (n : ℕ) → n ≡ pick (is_state l) (part_of (last_of l) 0 1) 0 → n ≡ (last_of l).dropped
  unfolding part_of
  dropped-is n e = part-is 0 1 n e

  pub count-is : (n : ℕ) → n ≡ pick (is_state l) (part_of (last_of l) 0 2) 0 → n ≡ (last_of l).count
  unfolding part_of
  count-is n e = part-is 0 2 n e

  pub key-is : (j n : ℕ) → n ≡ pick (is_state l) (part_of (last_of l) j 3) 0 → n ≡ (get_or (last_of l).entries j no_told).key
  unfolding part_of
  key-is j n e = part-is j 3 n e

  pub number_is : (j n : ℕ) → n ≡ pick (is_state l) (part_of (last_of l) j 4) 0 → n ≡ (get_or (last_of l).entries j no_told).number
  unfolding part_of
  number_is j n e = part-is j 4 n e

-- four octets hold what was lost
pub lost-below : (l : List ℕ) → ((j : ℕ) → get_or l j 0 < 256) → ((last_of l).expired < 4294967296) × ((last_of l).dropped < 4294967296)
unfolding last_of
lost-below l h = (le_below 4 l answer_from h, le_below 4 l (answer_from + 4) h)

-- ## The entries, one behind the other

abbrev pub entries_of : Last → List (ℕ × ℕ)
entries_of a = told (take a.count a.entries)

module _ (l : List ℕ) where
  all_told : length (entries_of (last_of l)) ≡ min (last_of l).count 9
  all_told = length-told (take (last_of l).count (last_of l).entries) ∙ length-take (last_of l).count (last_of l).entries ∙ ap (λ n. min (last_of l).count n) (nine-entries l)

  pub entries_none : (o : List ℕ) (at : ℕ) → at ≤ length o → line o at ≡ added (entries_text (take 0 (entries_of (last_of l)))) (line o at)
  unfolding entries_text
  entries_none o at h = nothing-added o at h

  -- at most j entries are put
  pub entries-low : (j : ℕ) → length (entries_text (take j (entries_of (last_of l)))) ≤ 44 * j
  entries-low j =
      omega (arith, length-entries (take j (entries_of (last_of l))), length-take j (entries_of (last_of l)))

  pub entries-end : (j : ℕ) → min (last_of l).count 9 ≤ j → take j (entries_of (last_of l)) ≡ entries_of (last_of l)
  entries-end j h = take_all j (entries_of (last_of l)) (omega (arith, all_told))

  pub entries-most : length (entries_text (entries_of (last_of l))) ≤ 396
  entries-most = rw (entries-end 9 (omega arith)) at (entries-low 9)

  module _ (j key number : ℕ) (h : j < 9) (g : j < (last_of l).count) (k : key ≡ (get_or (last_of l).entries j no_told).key) (n : number ≡ (get_or (last_of l).entries j no_told).number) where
    entry-is : get_or (entries_of (last_of l)) j (0, 0) ≡ (key, number)
    entry-is =
        let w : j < length (take (last_of l).count (last_of l).entries) = rw (length-take, nine-entries l) (omega arith) in
        told_at (take (last_of l).count (last_of l).entries) j w ∙ rw (get_or-take (last_of l).count (last_of l).entries j no_told g, k, n)

    take_next : take (suc j) (entries_of (last_of l)) ≡ take j (entries_of (last_of l)) ++ ((key, number) ∷ [])
    take_next =
        take-suc (entries_of (last_of l)) j (0, 0) (omega (arith, all_told)) ∙ ap (λ (e : ℕ × ℕ). take j (entries_of (last_of l)) ++ (e ∷ [])) entry-is

    pub entries_next : (o : List ℕ) (at : ℕ) (x y : Line) → at + 396 ≤ length o → x ≡ added (entries_text (take j (entries_of (last_of l)))) (line o at)
        → y ≡ added (entry_text (key, number)) x → y ≡ added (entries_text (take (j + 1) (entries_of (last_of l)))) (line o at)
    entries_next o at x y room e f =
        let s : List ℕ = entries_text (take j (entries_of (last_of l))) in
        let q : entries_text (take (j + 1) (entries_of (last_of l))) ≡ s ++ entry_text (key, number) =
        rw (add-one j, take_next) (entries-more (take j (entries_of (last_of l))) (key, number)) in
        then-added s (entry_text (key, number)) o at x y (omega (arith, entries-low j, length-entry (key, number))) e f
        ∙ ap (λ (t : List ℕ). added t (line o at)) (sym q)

-- ## The text of a field

-- a number alone
pub refused-text : (n tag refusal : ℕ) (a : Last) → (refusal ≡ 0 → ⊥) → field_text n tag refusal 0 ≡ line_text n (shown_by tag refusal a)
unfolding line_text entries_text
refused-text n tag refusal a z = rw (ne_eqb refusal 0 z) (sym (append-nil (field_text n tag refusal 0)))

pub accepted-text : (n tag refusal dropped : ℕ) (a : Last) → refusal ≡ 0 → dropped ≡ a.expired + a.dropped
    → field_text n tag refusal dropped ++ entries_text (entries_of a) ≡ line_text n (shown_by tag refusal a)
unfolding line_text
accepted-text n tag refusal dropped a z d = rw (z, d)

pub torn-text : (n tag : ℕ) → field_text n tag 18 0 ≡ line_text n (said_only tag 18)
unfolding line_text entries_text
torn-text n tag = sym (append-nil (field_text n tag 18 0))
