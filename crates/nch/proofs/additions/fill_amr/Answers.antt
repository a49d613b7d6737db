-- `nch::additions::fill_amr` meets its contract. Assumes nothing.
use mathlib.Core.Path.{◌≡◌, refl, sym, ap, ◌∙◌}
use Prim.Native.Nat.{◌+◌, ◌≤◌}
use lib.ListN.{length-set}
use Rattle.bits.specs.Field.{fetched}
use Rattle.bits.specs.declared.Got.TheVariants.{Bits, Short}
use Rattle.csn1.specs.declared.Refusal.{Refusal}
use Rattle.csn1.specs.Format.{num, opt}
use Rattle.csn1.proofs.Reading.{found}
use Rattle.csn1.proofs.Answers.{Answer, flags, flag-answered, first-bad, then-bad, then_ok}
use Rattle.csn1.specs.Grammar.{format}
use Rattle.csn1.proofs.Callees.{flagged-refused}
use Rattle.nch.specs.Octets.{amr}
use Rattle.nch.specs.Places.{amr_at}
use Rattle.nch.specs.Inner.{part_passed, amr_run}
use Rattle.arrays.proofs.Zeroed.{opt-left-short, opt-left-none, opt-left-bad, opt-left-some}
use Rattle.nch.proofs.Filled7.{amr-stored}
use native.Mathlib.Omega.{arith}
use Rattle.nch.proofs.additions.fill_amr.Goals as goal

pub returns-in_default : goal.returns-in_default
returns-in_default c =
    let a = c.args in
    let e : Short ≡ fetched a.s.now a.at 1 = sym c.in_default.is ∙ c.field.ensures in
    opt-left-short (format amr) part_passed amr_run amr_at a.s.now a.at a.numbers.now e _ c.ran_out.ensures _ c.no_part.ensures _

pub overflow_add-result : goal.overflow_add-result
overflow_add-result c =
    let flag-got' : Bits c.in-Bits.flag ≡ fetched c.args.s.now c.args.at 1 = sym c.in-Bits.is ∙ c.field.ensures in
    let flag-within' : c.args.at + 1 ≤ 32768 = omega (arith, (found c.args.s.now c.args.at 1 c.in-Bits.flag flag-got').within, c.requires.0) in
    omega (arith, flag-within')

pub returns-then-flag-eq0 : goal.returns-then-flag-eq0
returns-then-flag-eq0 c =
    let flag-got' : Bits c.in-Bits.flag ≡ fetched c.args.s.now c.args.at 1 = sym c.in-Bits.is ∙ c.field.ensures in
    let a = c.args in
    opt-left-none (format amr) part_passed amr_run amr_at a.s.now a.at a.numbers.now _ flag-got' c.if-flag-eq0.true _
    (ap (λ (r : Refusal). record { refusal = r; at = a.at + 1 }) c.no_refusal.ensures) 5 refl c.requires.1.1

pub overflow_add-at : goal.overflow_add-at
overflow_add-at c =
    let flag-got' : Bits c.in-Bits.flag ≡ fetched c.args.s.now c.args.at 1 = sym c.in-Bits.is ∙ c.field.ensures in
    let flag-within' : c.args.at + 1 ≤ 32768 = omega (arith, (found c.args.s.now c.args.at 1 c.in-Bits.flag flag-got').within, c.requires.0) in
    omega (arith, flag-within')

pub returns-then-full-ne0 : goal.returns-then-full-ne0
returns-then-full-ne0 c =
    let flag-got' : Bits c.in-Bits.flag ≡ fetched c.args.s.now c.args.at 1 = sym c.in-Bits.is ∙ c.field.ensures in
    let a = c.args in
    opt-left-bad (format amr) part_passed amr_run amr_at a.s.now a.at a.numbers.now _ flag-got' c.if-flag-eq0.false _
    (first-bad (opt (num 4)) (opt (num 4)) a.s.now (a.at + 1) _
    (flagged-refused a.s.now (a.at + 1) 4 (omega arith) c.requires.0 c.read_flagged-full.result c.read_flagged-full.ensures c.if-full-ne0.true))
    _ refl _ c.no_part-then-full-ne0.ensures _

pub returns-then-half-ne0 : goal.returns-then-half-ne0
returns-then-half-ne0 c =
    let flag-got' : Bits c.in-Bits.flag ≡ fetched c.args.s.now c.args.at 1 = sym c.in-Bits.is ∙ c.field.ensures in
    let full-read' : Answer flags c.read_flagged-full.result ((opt (num 4)).read c.args.s.now (c.args.at + 1)) = let a = c.args in
    flag-answered a.s.now (a.at + 1) 4 (omega arith) c.requires.0 c.read_flagged-full.result c.read_flagged-full.ensures c.if-full-ne0.false in
    let a = c.args in
    opt-left-bad (format amr) part_passed amr_run amr_at a.s.now a.at a.numbers.now _ flag-got'
    c.if-flag-eq0.false _
    (then-bad (opt (num 4)) (opt (num 4)) a.s.now (a.at + 1) _ _ _ full-read'.is
    (flagged-refused a.s.now c.read_flagged-full.result.at 4 (omega arith) c.requires.0 c.read_flagged-half.result c.read_flagged-half.ensures c.if-half-ne0.true))
    _ refl _ c.no_part-then-half-ne0.ensures _

pub bounds-numbers-98 : goal.bounds-numbers-98
bounds-numbers-98 c =
    omega (arith, c.requires.1.0)

pub bounds-numbers-99 : goal.bounds-numbers-99
bounds-numbers-99 c = simp length-set (omega (arith, c.requires.1.0))

pub bounds-numbers-100 : goal.bounds-numbers-100
bounds-numbers-100 c = simp length-set (omega (arith, c.requires.1.0))

pub bounds-numbers-101 : goal.bounds-numbers-101
bounds-numbers-101 c =
    simp length-set (omega (arith, c.requires.1.0))

pub bounds-numbers-102 : goal.bounds-numbers-102
bounds-numbers-102 c =
    simp length-set (omega (arith, c.requires.1.0))

pub shape_of-numbers : goal.shape_of-numbers
shape_of-numbers c = simp length-set

pub returns : goal.returns
returns c =
    let flag-got' : Bits c.in-Bits.flag ≡ fetched c.args.s.now c.args.at 1 = sym c.in-Bits.is ∙ c.field.ensures in
    let full-read' : Answer flags c.read_flagged-full.result ((opt (num 4)).read c.args.s.now (c.args.at + 1)) = let a = c.args in
    flag-answered a.s.now (a.at + 1) 4 (omega arith) c.requires.0 c.read_flagged-full.result c.read_flagged-full.ensures c.if-full-ne0.false in
    let half-read' : Answer flags c.read_flagged-half.result ((opt (num 4)).read c.args.s.now c.read_flagged-full.result.at) =
    flag-answered c.args.s.now c.read_flagged-full.result.at 4 (omega arith) c.requires.0 c.read_flagged-half.result c.read_flagged-half.ensures c.if-half-ne0.false in
    let a = c.args in
    let f = full-read' in
    let h = half-read' in
    opt-left-some (format amr) part_passed amr_run amr_at a.s.now a.at a.numbers.now _ flag-got' c.if-flag-eq0.false _ _
    (then_ok (opt (num 4)) (opt (num 4)) a.s.now (a.at + 1) _ _ _ _ f.is h.is) _
    (ap (λ (r : Refusal). record { refusal = r; at = c.read_flagged-half.result.at }) c.no_refusal-2.ensures) _
    (amr-stored a.numbers.now _ _ f.value h.value _ _ f.told h.told)
