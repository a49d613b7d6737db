-- `layout::answer::put_counts` meets its contract. Assumes nothing.
use mathlib.Core.Path.{ap, sym, ◌∙◌, ◌≡◌}
use mathlib.Core.List.{List, ◌++◌}
use Prim.Native.Nat.{ℕ, ◌+◌}
use Rattle.arrays.specs.Runs.{stored}
use Rattle.receiver.specs.declared.Cell.{Cell}
use Rattle.layout.specs.Octets.{low_octets}
use Rattle.layout.specs.Layout.{tick_from, cell_from, answer_from, cell_octets, put_counts}
use Rattle.layout.proofs.States.{at-state, no_state}
use Rattle.layout.proofs.Numbers.{length-octets, three_runs}
use Rattle.layout.proofs.answer.put_counts.Goals as goal

headed : (l l1 l2 l3 l4 l5 : List ℕ) (tick : ℕ) (cell : Cell) (expired dropped count : ℕ) → l1 ≡ stored l tick_from (low_octets 4 tick)
    → l2 ≡ stored l1 cell_from (cell_octets cell) → l3 ≡ stored l2 answer_from (low_octets 4 expired) → l4 ≡ stored l3 (answer_from + 4) (low_octets 4 dropped)
    → l5 ≡ stored l4 (answer_from + 8) (low_octets 4 count) → l5 ≡ put_counts l tick cell expired dropped count
unfolding put_counts
headed l l1 l2 l3 l4 l5 tick cell expired dropped count p z q r s =
    three_runs l2 l3 l4 l5 answer_from 4 4 _ _ _ (length-octets 4 expired) (length-octets 4 dropped) q r s
    ∙ ap (λ (x : List ℕ). stored x answer_from (low_octets 4 expired ++ (low_octets 4 dropped ++ low_octets 4 count)))
    (z ∙ ap (λ (x : List ℕ). stored x cell_from (cell_octets cell)) p)

pub returns-then-b-ne-LENGTH : goal.returns-then-b-ne-LENGTH
returns-then-b-ne-LENGTH c = sym (no_state c.args.b.now _ _ c.if-b-ne-LENGTH.true)

pub returns : goal.returns
returns c =
    let a = c.args in
    headed a.b.now _ _ _ _ _ a.tick a.cell a.expired a.dropped a.count c.put_u32.ensures c.put_three.ensures c.put_u32-2.ensures
    c.put_u32-3.ensures c.put_u32-4.ensures
    ∙ sym (at-state a.b.now _ _ c.if-b-ne-LENGTH.false)
