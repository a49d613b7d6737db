-- `layout::places::lay` meets its contract. Assumes nothing.
use mathlib.Core.Path.{ap, sym, ◌∙◌}
use mathlib.Core.List.{List}
use Prim.Native.Nat.{ℕ}
use native.Mathlib.Omega.{arith}
use lib.ListN.{length-set}
use borrow.Author.Rules.{rules}
use Rattle.arrays.specs.Runs.{stored}
use Rattle.receiver.specs.Channels.{places}
use Rattle.layout.specs.Layout.{record_place, laid_at}
use Rattle.layout.proofs.States.{in_none, no_such, at_place}
use Rattle.layout.proofs.places.lay.Goals as goal

pub returns-then-b-ne-LENGTH : goal.returns-then-b-ne-LENGTH
returns-then-b-ne-LENGTH c = sym (in_none c.args.b.now places c.args.i _ _ c.if-b-ne-LENGTH.true)

pub returns-then-i-ge-PLACES : goal.returns-then-i-ge-PLACES
returns-then-i-ge-PLACES c = sym (no_such c.args.b.now places c.args.i _ _ c.if-b-ne-LENGTH.false c.if-i-ge-PLACES.true)

pub put_u32-requires : goal.put_u32-requires
put_u32-requires c = simp length-set (omega (arith, c.if-i-ge-PLACES.false, c.if-b-ne-LENGTH.false))

pub put_octets-requires : goal.put_octets-requires
put_octets-requires c =
    (omega (arith, c.if-i-ge-PLACES.false, c.if-b-ne-LENGTH.false, simp length-set at c.put_u32.auto.b), search rules)

pub shape_of-b : goal.shape_of-b
shape_of-b c =
    c.put_octets.auto.b ∙ c.put_u32.auto.b ∙ simp length-set

pub returns : goal.returns
unfolding laid_at
returns c =
    let a = c.args in
    c.put_octets.ensures ∙ ap (λ (l : List ℕ). stored l (record_place a.i) a.o.now) c.put_u32.ensures
    ∙ sym (at_place a.b.now a.i _ _ c.if-b-ne-LENGTH.false c.if-i-ge-PLACES.false)
