-- `layout::answer::put_page` meets its contract. Assumes nothing.
use mathlib.Core.Path.{◌≡◌, sym, ap, ◌∙◌}
use mathlib.Core.List.{List}
use Prim.Native.Nat.{ℕ}
use lib.ListN.{length}
use Rattle.bits.specs.Field.{pick}
use Rattle.arrays.specs.Runs.{stored}
use Rattle.receiver.specs.declared.Cell.{Cell}
use Rattle.receiver.specs.declared.Paged.{Paged}
use Rattle.layout.specs.Layout.{paged_from, state_length, is_state, paged_octets, put_counts, put_head}
use Rattle.layout.proofs.States.{at-state, no_state}
use Rattle.layout.proofs.answer.put_page.Goals as goal

headed : (l l1 l2 : List ℕ) (tick : ℕ) (cell : Cell) (x d n : ℕ) (p : Paged) → length l ≡ state_length → l1 ≡ pick (is_state l) (put_counts l tick cell x d n) l
    → l2 ≡ stored l1 paged_from (paged_octets p) → l2 ≡ pick (is_state l) (put_head l tick cell x d n p) l
unfolding put_head
headed l l1 l2 tick cell x d n p w q r =
    r ∙ ap (λ (o : List ℕ). stored o paged_from (paged_octets p)) (q ∙ at-state l (put_counts l tick cell x d n) l w)
    ∙ sym (at-state l (put_head l tick cell x d n p) l w)

pub returns-then-b-ne-LENGTH : goal.returns-then-b-ne-LENGTH
returns-then-b-ne-LENGTH c = sym (no_state c.args.b.now _ _ c.if-b-ne-LENGTH.true)

pub returns : goal.returns
returns c =
    let a = c.args in
    headed a.b.now _ _ a.tick a.cell a.expired a.dropped 0 a.p c.if-b-ne-LENGTH.false c.put_counts.ensures c.put_paged.ensures
