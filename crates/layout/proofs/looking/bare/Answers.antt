-- `layout::looking::bare` meets its contract. Assumes nothing.
use mathlib.Core.Path.{◌≡◌, refl, sym, ◌∙◌}
use mathlib.Core.Bool.{true, true≢false}
use Prim.Native.Nat.{◌+◌, ◌*◌, ◌%◌}
use native.Mathlib.Omega.{arith}
use lib.Bits.{bit_or}
use borrow.Author.Tests.{not-true}
use Rattle.layout.specs.Layout.{kinds_from}
use Rattle.layout.specs.Inner.{Thirds}
use Rattle.layout.proofs.Wide.{Octs}
use Rattle.layout.proofs.NoneOut.{many}
use Rattle.layout.proofs.Left.{seen_none, seen_more, bare-said}
use Rattle.layout.proofs.looking.bare.Goals as goal
use Rattle.layout.proofs.looking.bare.Goals.{then-not-rule, else-not-rule, then-thirds_empty+then-not-rule-2, then-thirds_empty+else-not-rule-2, else-thirds_empty}

pub loop-g-init : goal.loop-g-init
loop-g-init c =
    let b = c.args.b.now in
    (seen_none b 0 0, (seen_none b 8 0, seen_none b 16 0))

pub loop-g-preserved : goal.loop-g-preserved
loop-g-preserved c =
    let l = c.loop-g in
    let b = c.args.b.now in
    let o : Octs b = λ j. omega (arith, c.type_inv.b j) in
    let z = 24 * l.g in
    let s = l.invariant in
    let r : z % 24 ≡ 0 = omega arith in
    let e : z + 24 ≡ 24 * (l.g + 1) = omega arith in (
      rw e at (seen_more b 0 z l.x _ (kinds_from + z) o r s.0 c.u64_at-x.ensures (omega arith)),
      (
        rw e at (seen_more b 8 z l.y _ (kinds_from + z + 8) o r s.1.0 c.u64_at-y.ensures refl),
        rw e at (seen_more b 16 z l.z _ (kinds_from + z + 16) o r s.1.1 c.u64_at-z.ensures refl),
      ),
    )

pub returns-then-not-rule-3 : goal.returns-then-not-rule-3
returns-then-not-rule-3 c =
    let l = c.loop-g in
    let a = c.args in
    let b = a.b.now in
    let o : Octs b = λ j. omega (arith, c.type_inv.b j) in
    let n : 24 * l.g ≡ many = omega arith in
    let s = rw n at l.invariant in
    let said = bare-said b _ _ _ (seen_more b 0 many l.x _ (kinds_from + many) o refl s.0 c.u64_at-x-2.ensures refl) s.1.0 s.1.1 a.rule in
    let first : c.if-not-rule.value ≡ true → a.rule.nch ≡ true → Thirds (bit_or l.x c.u64_at-x-2.result) l.y l.z =
    λ v t. elim c.if-not-rule.branch [ then-not-rule w ↦ absurd (true≢false (sym t ∙ not-true _ w.if-not-rule.true)) | else-not-rule w ↦ w.thirds_empty.ensures (sym w.value-is ∙ v) ]
    in
    λ e.
    elim c.if-thirds_empty.branch [
      | then-thirds_empty+then-not-rule-2 w ↦ said (first w.if-thirds_empty.true) (λ t. absurd (true≢false (sym t ∙ not-true _ w.if-not-rule-2.true))) (λ t. absurd (true≢false (sym t ∙ not-true _ c.if-not-rule-3.true)))
      | then-thirds_empty+else-not-rule-2 w ↦ said (first w.if-thirds_empty.true) (λ t. w.thirds_empty-else-not-rule-2.ensures (sym w.value-is ∙ c.if-thirds_empty-2.true)) (λ t. absurd (true≢false (sym t ∙ not-true _ c.if-not-rule-3.true)))
      | else-thirds_empty w ↦ absurd (true≢false (sym c.if-thirds_empty-2.true ∙ w.value-is ∙ w.if-thirds_empty.false))
    ]

pub returns-else-not-rule-3 : goal.returns-else-not-rule-3
returns-else-not-rule-3 c =
    let l = c.loop-g in
    let a = c.args in
    let b = a.b.now in
    let o : Octs b = λ j. omega (arith, c.type_inv.b j) in
    let n : 24 * l.g ≡ many = omega arith in
    let s = rw n at l.invariant in
    let said = bare-said b _ _ _ (seen_more b 0 many l.x _ (kinds_from + many) o refl s.0 c.u64_at-x-2.ensures refl) s.1.0 s.1.1 a.rule in
    let first : c.if-not-rule.value ≡ true → a.rule.nch ≡ true → Thirds (bit_or l.x c.u64_at-x-2.result) l.y l.z =
    λ v t. elim c.if-not-rule.branch [ then-not-rule w ↦ absurd (true≢false (sym t ∙ not-true _ w.if-not-rule.true)) | else-not-rule w ↦ w.thirds_empty.ensures (sym w.value-is ∙ v) ]
    in
    λ e.
    elim c.if-thirds_empty.branch [
      | then-thirds_empty+then-not-rule-2 w ↦ said (first w.if-thirds_empty.true) (λ t. absurd (true≢false (sym t ∙ not-true _ w.if-not-rule-2.true))) (λ t. c.thirds_empty-else-not-rule-3.ensures e)
      | then-thirds_empty+else-not-rule-2 w ↦ said (first w.if-thirds_empty.true) (λ t. w.thirds_empty-else-not-rule-2.ensures (sym w.value-is ∙ c.if-thirds_empty-2.true)) (λ t. c.thirds_empty-else-not-rule-3.ensures e)
      | else-thirds_empty w ↦ absurd (true≢false (sym c.if-thirds_empty-2.true ∙ w.value-is ∙ w.if-thirds_empty.false))
    ]
