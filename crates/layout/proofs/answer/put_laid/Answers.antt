-- `layout::answer::put_laid` meets its contract. Assumes nothing.
use mathlib.Core.Path.{sym, ◌∙◌, ◌≡◌}
use mathlib.Core.List.{List}
use Prim.Native.Nat.{ℕ, ◌*◌, ◌+◌}
use native.Mathlib.Omega.{arith}
use Rattle.arrays.specs.Runs.{stored}
use Rattle.receiver.specs.declared.Told.{Told}
use Rattle.receiver.specs.Model.{no_record}
use Rattle.receiver.specs.Step.{most_entries}
use Rattle.layout.specs.Layout.{tolds_from, told_length, told_place, put_number, carried_at}
use Rattle.layout.proofs.States.{in_none, no_such, at_entry}
use Rattle.layout.proofs.answer.put_laid.Goals as goal

told : (l k m : List ℕ) (j : ℕ) (t : Told) (o : List ℕ) → k ≡ put_number l j t → m ≡ stored k (tolds_from + 16 + told_length * j) o → m ≡ carried_at l j t o
unfolding carried_at
told l k m j t o p s =
    let q : tolds_from + 16 + told_length * j ≡ told_place j + 16 = omega arith in
    rw (← q, ← p) s

pub returns-then-b-ne-LENGTH : goal.returns-then-b-ne-LENGTH
returns-then-b-ne-LENGTH c = sym (in_none c.args.b.now most_entries c.args.j _ _ c.if-b-ne-LENGTH.true)

pub returns-then-j-ge-MOST_ENTRIES : goal.returns-then-j-ge-MOST_ENTRIES
returns-then-j-ge-MOST_ENTRIES c = sym (no_such c.args.b.now most_entries c.args.j _ _ c.if-b-ne-LENGTH.false c.if-j-ge-MOST_ENTRIES.true)

pub returns : goal.returns
returns c =
    let a = c.args in
    let t : Told = record { key = a.key; number = a.number; «record» = no_record; follow = a.follow; kept = a.kept } in
    told a.b.now _ _ a.j t a.o.now c.put_said.ensures c.put_octets.ensures ∙ sym (at_entry a.b.now a.j _ _ c.if-b-ne-LENGTH.false c.if-j-ge-MOST_ENTRIES.false)
