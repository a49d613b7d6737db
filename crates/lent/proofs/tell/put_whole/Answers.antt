-- `lent::tell::put_whole` meets its contract. Assumes nothing.
use mathlib.Core.Path.{sym, ap, ◌∙◌}
use mathlib.Core.List.{List}
use Prim.Native.Nat.{ℕ}
use Rattle.bits.specs.Field.{pick}
use Rattle.layout.specs.Layout.{is_entry, record_octets}
use Rattle.layout.proofs.Packing.{carried-told}
use Rattle.lent.proofs.tell.put_whole.Goals as goal

pub put_laid-requires : goal.put_laid-requires
put_laid-requires c = tt

pub returns : goal.returns
returns c =
    let a = c.args in
    rw (← c.record_in-e.ensures, ← c.follow-follow.ensures, ← c.beside.ensures)
    (c.put_laid.ensures ∙ ap (λ (x : List ℕ). pick (is_entry a.b.now a.j) x a.b.now)
    (carried-told a.b.now a.j a.key a.number _ _ c.record_in-e.result a.o.now (c.requires ∙ ap record_octets (sym c.record_in-e.ensures))))
