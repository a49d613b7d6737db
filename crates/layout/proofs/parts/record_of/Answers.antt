-- `layout::parts::record_of` meets its contract. Assumes nothing.
use mathlib.Core.Path.{◌≡◌, sym, ap, ◌∙◌}
use mathlib.Core.Bool.{true}
use Prim.Native.Nat.{◌+◌, ◌*◌}
use native.Mathlib.Omega.{arith}
use Rattle.layout.specs.Layout.{tolds_from, told_length, record_at, told_place}
use Rattle.layout.proofs.Reading.{carries_some, read-there, read_some, read_bare}
use Rattle.layout.proofs.parts.record_of.Goals as goal

pub overflow_mul-entry : goal.overflow_mul-entry
overflow_mul-entry c = let a = c.args in omega (arith, (read-there a.b.now a.entry _ c.part_of.ensures (carries_some _ (sym c.carries.ensures ∙ c.if-carries.true))).1)

pub overflow_add-entry : goal.overflow_add-entry
overflow_add-entry c = let a = c.args in omega (arith, (read-there a.b.now a.entry _ c.part_of.ensures (carries_some _ (sym c.carries.ensures ∙ c.if-carries.true))).1)

pub record_at-requires : goal.record_at-requires
record_at-requires c =
    let a = c.args in
    let w = read-there a.b.now a.entry _ c.part_of.ensures (carries_some _ (sym c.carries.ensures ∙ c.if-carries.true)) in
    omega (arith, w.0, w.1)

pub returns-then-carries : goal.returns-then-carries
returns-then-carries c =
    let a = c.args in
    let e = sym c.carries.ensures ∙ c.if-carries.true in
    let at : tolds_from + 16 + told_length * a.entry ≡ told_place a.entry + 16 = omega arith in
    c.record_at.ensures ∙ ap (record_at a.b.now) at ∙ read_some a.b.now a.entry _ c.part_of.ensures (carries_some _ e) true e

pub returns-else-carries : goal.returns-else-carries
returns-else-carries c =
    let a = c.args in
    c.no_record.ensures ∙ read_bare a.b.now a.entry _ c.part_of.ensures (sym c.carries.ensures ∙ c.if-carries.false)
