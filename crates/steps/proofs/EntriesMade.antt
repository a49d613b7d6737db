-- The loops that put the entries of a message into an array: how each begins, what a turn adds, and how it ends. Assumes nothing.
use mathlib.Core.Path.{◌≡◌, refl, sym, ap, ap₂, ◌∙◌}
use mathlib.Core.List.{List, ◌++◌, append-nil}
use Prim.Native.Nat.{ℕ, ◌+◌, ◌≤◌, ◌<◌, min}
use native.Mathlib.Omega.{arith}
use lib.ListN.{length, get_or, set, take, replicate, length-append, length-take}
use lib.Seq.{take_all, get_or-take}
use Rattle.csn1.specs.Told.{padded}
use Rattle.call.specs.Call.{ciphered}
use Rattle.nch.specs.declared.Notification.{Notification}
use Rattle.nch.specs.Octets.{count}
use Rattle.nch.specs.Told.{no_reduced}
use Rattle.nch.specs.Write.{calls_of, is_described}
use Rattle.nch.proofs.InPlaces.{count_le}
use Rattle.receiver.specs.declared.Record.{Record}
use Rattle.receiver.specs.Model.{no_record, map_at}
use Rattle.receiver.specs.Step.{most_entries}
use Rattle.receiver.specs.Entries.{reduced_with, call_entry, reduced_entry, nch_entries}
use Rattle.receiver.proofs.Loops.{length-map_at}
use Rattle.receiver.proofs.MessageEntries.{places-more, reduced_entry-is, CallsMade, in_use, reduceds_of}
use Rattle.steps.specs.Entries.{entries_in}

-- ## The calls

pub calls_begin : (m : Notification) (items : List Record) → items ≡ replicate most_entries no_record → CallsMade m items 0 0 0
calls_begin m items e = record { kept = e; ciphers = refl; describes = refl }

module _ (m : Notification) (items : List Record) (random mark i : ℕ) (made : CallsMade m items random mark i) where
  pub few-made : (random ≤ i) × (mark ≤ i)
  few-made =
      let n : length (take i (calls_of m)) ≤ i = omega (arith, length-take i (calls_of m)) in
      (omega (arith, made.ciphers, count_le ciphered (take i (calls_of m))), omega (arith, made.describes, count_le is_described (take i (calls_of m))))

  pub calls-end : length m.calls ≡ 4 → i ≡ min m.callcount 4
      → (items ≡ padded no_record most_entries (map_at (call_entry m) 0 (calls_of m))) × ((i ≡ length (calls_of m)) × (random ≡ count ciphered (calls_of m)))
  calls-end four e =
      let n : length (calls_of m) ≡ i = in_use m.callcount 4 m.calls four ∙ sym e in
      let l : take i (calls_of m) ≡ calls_of m = take_all i (calls_of m) (omega arith) in
      (made.kept ∙ ap (λ s. padded no_record most_entries (map_at (call_entry m) 0 s)) l, (sym n, made.ciphers ∙ ap (count ciphered) l))

-- ## Behind them the reduced references

-- the entries of all calls and of the first j reduced references
abbrev pub entries_to : Notification → ℕ → List Record
entries_to m j = map_at (call_entry m) 0 (calls_of m) ++ map_at (reduced_entry m) 0 (take j (reduceds_of m))

pub few-calls : (m : Notification) → length m.calls ≡ 4 → (length (calls_of m) ≤ 4) × (count ciphered (calls_of m) ≤ 4)
few-calls m four =
    let n = in_use m.callcount 4 m.calls four in
    (omega (arith, n), omega (arith, n, count_le ciphered (calls_of m)))

pub reduceds_begin : (m : Notification) → padded no_record most_entries (map_at (call_entry m) 0 (calls_of m)) ≡ padded no_record most_entries (entries_to m 0)
reduceds_begin m = ap (padded no_record most_entries) (sym (append-nil (map_at (call_entry m) 0 (calls_of m))))

module _ (m : Notification) (four : length m.calls ≡ 4) (five : length m.release6.reduced ≡ 5) where
  module _ (first : ℕ) (f : first ≡ length (calls_of m)) (items : List Record) (j : ℕ) (made : items ≡ padded no_record most_entries (entries_to m j)) where
    pub reduceds_more : j < min m.release6.reducedcount 5 → (k : ℕ) → k ≡ count ciphered (calls_of m)
        → (e : Record) → e ≡ reduced_with m (k + j) (get_or m.release6.reduced j no_reduced)
        → set items (first + j) e ≡ padded no_record most_entries (entries_to m (j + 1))
    reduceds_more h k g e q =
        let lt : j < length (reduceds_of m) = omega (arith, in_use m.release6.reducedcount 5 m.release6.reduced five) in
        let r : get_or m.release6.reduced j no_reduced ≡ get_or (reduceds_of m) j no_reduced = sym (get_or-take m.release6.reducedcount m.release6.reduced j no_reduced (omega arith)) in
        let w : e ≡ reduced_entry m j (get_or (reduceds_of m) j no_reduced) = q ∙ rw (g, r, reduced_entry-is m j (get_or (reduceds_of m) j no_reduced)) in
        let n = length-map_at (call_entry m) 0 (calls_of m) in
        ap₂ (λ s v. set s (first + j) v) made w
        ∙ places-more (reduced_entry m) no_record most_entries (map_at (call_entry m) 0 (calls_of m)) (reduceds_of m) no_reduced j lt (first + j)
        (omega (arith, n, f)) (omega (arith, f, few-calls m four))

    pub reduceds_end : (n : ℕ) → j ≡ n → n ≡ min m.release6.reducedcount 5 → record { items = items; count = first + n } ≡ entries_in (nch_entries m)
    unfolding nch_entries
    reduceds_end n q e =
        let k : length (reduceds_of m) ≡ n = in_use m.release6.reducedcount 5 m.release6.reduced five ∙ sym e in
        let l : take j (reduceds_of m) ≡ reduceds_of m = take_all j (reduceds_of m) (omega arith) in
        ap₂ (λ (x : List Record) (y : ℕ). record { items = x; count = y })
        (made ∙ ap (λ s. padded no_record most_entries (map_at (call_entry m) 0 (calls_of m) ++ map_at (reduced_entry m) 0 s)) l)
        (sym (length-append (map_at (call_entry m) 0 (calls_of m)) (map_at (reduced_entry m) 0 (reduceds_of m))
        ∙ ap₂ (λ a b. a + b) (length-map_at (call_entry m) 0 (calls_of m) ∙ sym f) (length-map_at (reduced_entry m) 0 (reduceds_of m) ∙ k)))
