-- `layout::answer::put_head` meets its contract. Assumes nothing.
use mathlib.Core.Path.{◌≡◌, refl, sym, ap, ◌∙◌}
use mathlib.Core.List.{List, ◌++◌}
use Prim.Native.Nat.{ℕ, ◌+◌}
use lib.ListN.{length}
use Rattle.bits.specs.Field.{pick}
use Rattle.arrays.specs.Runs.{stored}
use Rattle.arrays.proofs.Running.{more}
use Rattle.receiver.specs.declared.Cell.{Cell}
use Rattle.receiver.specs.Model.{no_paged}
use Rattle.layout.specs.Octets.{low_octets}
use Rattle.layout.specs.Layout.{paged_from, state_length, is_state, paged_octets, put_counts, put_head}
use Rattle.layout.proofs.States.{at-state, no_state}
use Rattle.layout.proofs.Numbers.{length-octets}
use Rattle.layout.proofs.answer.put_head.Goals as goal

-- two numbers that are 0 page nobody
nobody : low_octets 8 0 ++ low_octets 8 0 ≡ paged_octets no_paged
unfolding low_octets paged_octets
nobody = refl

headed : (l l1 l2 l3 : List ℕ) (tick : ℕ) (cell : Cell) (x d n : ℕ) → length l ≡ state_length → l1 ≡ pick (is_state l) (put_counts l tick cell x d n) l
    → l2 ≡ stored l1 paged_from (low_octets 8 0) → l3 ≡ stored l2 (paged_from + 8) (low_octets 8 0) → l3 ≡ pick (is_state l) (put_head l tick cell x d n no_paged) l
unfolding put_head
headed l l1 l2 l3 tick cell x d n w p q r =
    more 8 l1 l2 l3 paged_from (low_octets 8 0) (low_octets 8 0) q (length-octets 8 0) r ∙ ap (stored l1 paged_from) nobody
    ∙ ap (λ (o : List ℕ). stored o paged_from (paged_octets no_paged)) (p ∙ at-state l (put_counts l tick cell x d n) l w)
    ∙ sym (at-state l (put_head l tick cell x d n no_paged) l w)

pub returns-then-b-ne-LENGTH : goal.returns-then-b-ne-LENGTH
returns-then-b-ne-LENGTH c = sym (no_state c.args.b.now _ _ c.if-b-ne-LENGTH.true)

pub returns : goal.returns
returns c =
    let a = c.args in
    headed a.b.now _ _ _ a.tick a.cell a.expired a.dropped a.count c.if-b-ne-LENGTH.false c.put_counts.ensures c.put_u64.ensures c.put_u64-2.ensures
