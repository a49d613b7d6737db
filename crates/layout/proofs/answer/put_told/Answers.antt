-- `layout::answer::put_told` meets its contract. Assumes nothing.
use mathlib.Core.Path.{sym, ◌∙◌, ◌≡◌}
use mathlib.Core.List.{List}
use Prim.Native.Nat.{ℕ, ◌*◌, ◌+◌}
use native.Mathlib.Omega.{arith}
use Rattle.arrays.specs.Runs.{stored}
use Rattle.receiver.specs.declared.Told.{Told}
use Rattle.receiver.specs.Step.{most_entries}
use Rattle.layout.specs.Layout.{tolds_from, told_length, record_octets, told_place, put_number, put_carried}
use Rattle.layout.proofs.States.{in_none, no_such, at_entry}
use Rattle.layout.proofs.answer.put_told.Goals as goal

-- what is written but for the record does not depend on it
told : (l k m : List ℕ) (j : ℕ) (t : Told) → k ≡ put_number l j t → m ≡ stored k (tolds_from + 16 + told_length * j) (record_octets t.«record») → m ≡ put_carried l j t
unfolding put_carried
told l k m j t p s =
    let q : tolds_from + 16 + told_length * j ≡ told_place j + 16 = omega arith in
    rw (← q, ← p) s

pub returns-then-b-ne-LENGTH : goal.returns-then-b-ne-LENGTH
returns-then-b-ne-LENGTH c = sym (in_none c.args.b.now most_entries c.args.j _ _ c.if-b-ne-LENGTH.true)

pub returns-then-j-ge-MOST_ENTRIES : goal.returns-then-j-ge-MOST_ENTRIES
returns-then-j-ge-MOST_ENTRIES c = sym (no_such c.args.b.now most_entries c.args.j _ _ c.if-b-ne-LENGTH.false c.if-j-ge-MOST_ENTRIES.true)

pub returns : goal.returns
unfolding put_number
returns c =
    let a = c.args in
    let t : Told = record { key = a.key; number = a.number; «record» = a.e; follow = a.follow; kept = a.kept } in
    told a.b.now _ _ a.j t c.put_said.ensures c.put_record.ensures
    ∙ sym (at_entry a.b.now a.j _ _ c.if-b-ne-LENGTH.false c.if-j-ge-MOST_ENTRIES.false)
