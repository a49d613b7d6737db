-- The entries of an NCH message, told one by one: what a turn of the loop adds. Assumes nothing.
use mathlib.Core.Path.{◌≡◌, refl, sym, ap, ap₂, ◌∙◌}
use mathlib.Core.List.{List, ◌++◌}
use Prim.Native.Nat.{ℕ, ◌+◌, ◌-◌, ◌≤◌, ◌<◌, min}
use native.Mathlib.Numerals.{add-one}
use native.Mathlib.Nat.{zero-add}
use native.Mathlib.Omega.{arith}
use lib.Dec.{lit<}
use lib.ListN.{length, get_or, take, length-append, length-take, get_or-append}
use lib.Seq.{get_or-take, take_all, take-suc, length-take-le, get_or-append-add}
use Rattle.csn1.specs.Told.{as_bit, padded}
use Rattle.call.specs.Call.{ciphered, no_call}
use Rattle.nch.specs.declared.Notification.{Notification}
use Rattle.nch.specs.Octets.{count}
use Rattle.nch.specs.Told.{no_reduced}
use Rattle.nch.specs.Write.{calls_of, is_described}
use Rattle.nch.specs.Owners.{before}
use Rattle.nch.proofs.InPlaces.{count_le}
use Rattle.receiver.specs.declared.Cell.{Cell}
use Rattle.receiver.specs.Model.{no_record, map_at}
use Rattle.receiver.specs.Step.{most_entries}
use Rattle.receiver.specs.Entries.{call_with, reduced_with, call_entry, reduced_entry, nch_entries}
use Rattle.receiver.proofs.Loops.{get_d_map_at, length-map_at}
use Rattle.receiver.proofs.MessageEntries.{call_entry-is, reduced_entry-is, calls-more, reduceds_of}
use Rattle.lent.specs.Inner.{Telling, AllTold}
use Rattle.lent.proofs.Tellings.{all_none, all-next}

-- ## The i-th entry

module _ (m : Notification) where
  pub length-entries : length (nch_entries m) ≡ length (calls_of m) + length (reduceds_of m)
  unfolding nch_entries
  length-entries =
      length-append (map_at (call_entry m) 0 (calls_of m)) (map_at (reduced_entry m) 0 (reduceds_of m))
      ∙ ap₂ (λ a b. a + b) (length-map_at (call_entry m) 0 (calls_of m)) (length-map_at (reduced_entry m) 0 (reduceds_of m))

  pub entries-count : length m.calls ≡ 4 → length m.release6.reduced ≡ 5 → length (nch_entries m) ≡ min m.callcount 4 + min m.release6.reducedcount 5
  entries-count four five =
      length-entries
      ∙ ap₂ (λ a b. a + b) (length-take m.callcount m.calls ∙ ap (min m.callcount) four)
      (length-take m.release6.reducedcount m.release6.reduced ∙ ap (min m.release6.reducedcount) five)

  -- how many random entries the entries before the i-th own
  abbrev pub owners : ℕ → ℕ
  owners i = before ciphered m i + (i - length (calls_of m))

  entry-call : (i : ℕ) → i < length (calls_of m) → get_or (nch_entries m) i no_record ≡ call_entry m i (get_or (calls_of m) i no_call)
  unfolding nch_entries
  entry-call i h =
      get_or-append (map_at (call_entry m) 0 (calls_of m)) (map_at (reduced_entry m) 0 (reduceds_of m)) no_record i (rw (length-map_at (call_entry m) 0 (calls_of m)) h)
      ∙ get_d_map_at (call_entry m) 0 (calls_of m) i no_call no_record h ∙ ap (λ k. call_entry m k (get_or (calls_of m) i no_call)) (zero-add i)

  entry-reduced : (j : ℕ) → j < length (reduceds_of m)
      → get_or (nch_entries m) (length (calls_of m) + j) no_record ≡ reduced_entry m j (get_or (reduceds_of m) j no_reduced)
  unfolding nch_entries
  entry-reduced j h =
      let cs = map_at (call_entry m) 0 (calls_of m) in
      let rs = map_at (reduced_entry m) 0 (reduceds_of m) in
      ap (λ n. get_or (cs ++ rs) (n + j) no_record) (sym (length-map_at (call_entry m) 0 (calls_of m))) ∙ get_or-append-add cs rs j no_record
      ∙ get_d_map_at (reduced_entry m) 0 (reduceds_of m) j no_reduced no_record h ∙ ap (λ k. reduced_entry m k (get_or (reduceds_of m) j no_reduced)) (zero-add j)

-- ## Turns

-- at the head of the loop: i entries are told, and the next random entry and mark stand at random and mark
pub record ToldTo (l : List ℕ) (cell : Cell) (now : ℕ) (m : Notification) (random mark i : ℕ) (left : List ℕ) : Type 0 where
  pub told : AllTold l cell 0 now (take i (nch_entries m)) left
  pub randoms : random ≡ owners m i
  pub marks : mark ≡ before is_described m i

pub none_told : (l : List ℕ) (cell : Cell) (now : ℕ) (m : Notification) → ToldTo l cell now m 0 0 0 l
none_told l cell now m = record { told = all_none l cell 0 now; randoms = omega arith; marks = refl }

module _ (l : List ℕ) (cell : Cell) (now : ℕ) (m : Notification) (random mark i : ℕ) (left : List ℕ) (p : ToldTo l cell now m random mark i left) where
  pub few_owned : (random ≤ i) × ((mark ≤ i) × (mark ≤ length (calls_of m)))
  few_owned =
      let n = length-take i (calls_of m) in (
        omega (arith, p.randoms, n, count_le ciphered (take i (calls_of m))),
        (omega (arith, p.marks, n, count_le is_described (take i (calls_of m))), omega (arith, p.marks, n, count_le is_described (take i (calls_of m)))),
      )

  next-told : i < length (nch_entries m) → length (nch_entries m) ≤ most_entries → (left' : List ℕ) → Telling left cell 0 now i (get_or (nch_entries m) i no_record) left'
      → AllTold l cell 0 now (take (i + 1) (nch_entries m)) left'
  next-told h k left' t =
      let es = nch_entries m in
      let n : length (take i es) ≡ i = length-take-le i es (omega arith) in
      rw (add-one i, take-suc es i no_record h) (all-next l cell 0 now (take i es) (get_or es i no_record) left left' (omega (arith, n)) (lit< tt) p.told (rw n t))

  pub all_told : i ≡ length (nch_entries m) → AllTold l cell 0 now (nch_entries m) left
  all_told e = rw (sym (take_all i (nch_entries m) (omega arith))) p.told

  module _ (few : length (nch_entries m) ≤ most_entries) (left' : List ℕ) where
    -- one more call
    pub call-told : length m.calls ≡ 4 → i < length (calls_of m) → Telling left cell 0 now i (call_with m random mark (get_or m.calls i no_call)) left'
        → (x y : ℕ) → x ≡ as_bit (ciphered (get_or m.calls i no_call)) → y ≡ as_bit (is_described (get_or m.calls i no_call))
        → ToldTo l cell now m (random + x) (mark + y) (i + 1) left'
    call-told four h t x y a b =
        let c = get_or (calls_of m) i no_call in
        let k : i < m.callcount = omega (arith, length-take m.callcount m.calls) in
        let g : get_or m.calls i no_call ≡ c = sym (get_or-take m.callcount m.calls i no_call k) in
        let s : random ≡ before ciphered m i = omega (arith, p.randoms) in
        let e : call_with m random mark (get_or m.calls i no_call) ≡ get_or (nch_entries m) i no_record = rw (s, p.marks, g, call_entry-is m i) (sym (entry-call m i h)) in
        let more =
        calls-more m (padded no_record most_entries (map_at (call_entry m) 0 (take i (calls_of m)))) random mark i (record { kept = refl; ciphers = s; describes = p.marks }) four
        (omega (arith, length-take m.callcount m.calls)) (call_with m random mark (get_or m.calls i no_call)) x y refl a b
        in
        record {
          told = next-told (omega (arith, length-entries m)) few left' (rw (sym e) t);
          randoms = omega (arith, more.ciphers);
          marks = more.describes;
        }

    -- one more reduced reference
    pub reduced-told : length (calls_of m) ≤ i → i < length (nch_entries m)
        → Telling left cell 0 now i (reduced_with m random (get_or m.release6.reduced (i - length (calls_of m)) no_reduced)) left'
        → ToldTo l cell now m (random + 1) (mark + 0) (i + 1) left'
    reduced-told h k t =
        let n = length (calls_of m) in
        let j = i - n in
        let lt : j < length (reduceds_of m) = omega (arith, length-entries m) in
        let r = get_or (reduceds_of m) j no_reduced in
        let u : j < m.release6.reducedcount = omega (arith, length-take m.release6.reducedcount m.release6.reduced) in
        let g : get_or m.release6.reduced j no_reduced ≡ r = sym (get_or-take m.release6.reducedcount m.release6.reduced j no_reduced u) in
        let all : take i (calls_of m) ≡ calls_of m = take_all i (calls_of m) h in
        let more : take (i + 1) (calls_of m) ≡ calls_of m = take_all (i + 1) (calls_of m) (omega arith) in
        let s : random ≡ count ciphered (calls_of m) + j = p.randoms ∙ ap (λ a. count ciphered a + j) all in
        let w : i ≡ n + j = omega arith in
        let e : reduced_with m random (get_or m.release6.reduced j no_reduced) ≡ get_or (nch_entries m) i no_record =
        rw (s, g, reduced_entry-is m j r) (sym (entry-reduced m j lt) ∙ ap (λ a. get_or (nch_entries m) a no_record) (sym w))
        in
        record {
          told = next-told k few left' (rw (sym e) t);
          randoms = omega (arith, s, ap (count ciphered) more);
          marks = omega (arith, p.marks, ap (count is_described) all, ap (count is_described) more);
        }
