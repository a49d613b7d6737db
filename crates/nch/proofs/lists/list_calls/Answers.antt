-- `nch::lists::list_calls` meets its contract. Assumes nothing.
use mathlib.Core.Path.{◌≡◌, refl, sym, ◌∙◌}
use Prim.Native.Nat.{◌+◌, ◌*◌, ◌≤◌}
use lib.ListN.{length, length-set}
use lib.Dec.{leb}
use Rattle.bits.specs.Field.{fetched}
use Rattle.bits.specs.declared.Got.TheVariants.{Bits, Short}
use Rattle.csn1.proofs.Reading.{found}
use Rattle.csn1.proofs.Writing.{byte_lt}
use Rattle.csn1.proofs.Lists.{entries-short, entries-bad}
use Rattle.csn1.proofs.Answers.{Answer}
use Rattle.call.specs.Call.{group_call}
use Rattle.arrays.proofs.Zeroed.{kept-long}
use Rattle.arrays.proofs.Running.{run-stored}
use Rattle.nch.proofs.CallsKept.{one, call-bad, call-read, call-past, few-ciphered, few-described, calls_begin, calls-one, calls-more, calls-refused, calls-end}
use native.Mathlib.Omega.{arith}
use Rattle.nch.proofs.lists.list_calls.Goals as goal
use Rattle.nch.proofs.lists.list_calls.Goals.{then-count-lt-MOST_CALLS, else-count-lt-MOST_CALLS}

pub entries-init : goal.entries-init
entries-init c = calls_begin _ _ _ c.requires.1.1

pub bounds-numbers-3 : goal.bounds-numbers-3
bounds-numbers-3 c = omega (arith, kept-long c.entries.invariant.kept)

pub overflow_add-result : goal.overflow_add-result
overflow_add-result c =
    let flag-got' : Bits c.in-Bits.flag ≡ fetched c.args.s.now c.entries.at 1 = sym c.in-Bits.is ∙ c.field.ensures in
    let flag-within' : c.entries.at + 1 ≤ length c.args.s.now * 8 = (found c.args.s.now c.entries.at 1 _ flag-got').within in
    omega (arith, flag-within')

pub overflow_add-at : goal.overflow_add-at
overflow_add-at c =
    let flag-got' : Bits c.in-Bits.flag ≡ fetched c.args.s.now c.entries.at 1 = sym c.in-Bits.is ∙ c.field.ensures in
    let flag-within' : c.entries.at + 1 ≤ length c.args.s.now * 8 = (found c.args.s.now c.entries.at 1 _ flag-got').within in
    omega (arith, flag-within')

pub overflow_add-count-in-entries : goal.overflow_add-count-in-entries
overflow_add-count-in-entries c =
    let flag-got' : Bits c.in-Bits.flag ≡ fetched c.args.s.now c.entries.at 1 = sym c.in-Bits.is ∙ c.field.ensures in
    let flag-within' : c.entries.at + 1 ≤ length c.args.s.now * 8 = (found c.args.s.now c.entries.at 1 _ flag-got').within in
    omega (arith, flag-within', c.entries.invariant.kept.entries.bound)

pub overflow_add-ciphered : goal.overflow_add-ciphered
overflow_add-ciphered c =
    let flag-got' : Bits c.in-Bits.flag ≡ fetched c.args.s.now c.entries.at 1 = sym c.in-Bits.is ∙ c.field.ensures in
    let flag-within' : c.entries.at + 1 ≤ length c.args.s.now * 8 = (found c.args.s.now c.entries.at 1 _ flag-got').within in
    let l = c.entries in
    omega (
      arith,
      flag-within',
      few-ciphered _ _ _ _ _ _ _ _ l.invariant,
      byte_lt
          (leb 1 c.read-c.result.call.cipher),
    )

pub overflow_add-described : goal.overflow_add-described
overflow_add-described c =
    let flag-got' : Bits c.in-Bits.flag ≡ fetched c.args.s.now c.entries.at 1 = sym c.in-Bits.is ∙ c.field.ensures in
    let flag-within' : c.entries.at + 1 ≤ length c.args.s.now * 8 = (found c.args.s.now c.entries.at 1 _ flag-got').within in
    let l = c.entries in
    omega (
      arith,
      flag-within',
      few-described _ _ _ _ _ _ _ _ l.invariant,
      byte_lt
          c.read-c.result.call.hasDescription,
      c.requires.0,
    )

pub entries-smaller : goal.entries-smaller
entries-smaller c =
    let flag-got' : Bits c.in-Bits.flag ≡ fetched c.args.s.now c.entries.at 1 = sym c.in-Bits.is ∙ c.field.ensures in
    let flag-within' : c.entries.at + 1 ≤ length c.args.s.now * 8 = (found c.args.s.now c.entries.at 1 _ flag-got').within in
    let one-past' : c.entries.at + 1 ≤ c.read-c.result.at = call-past c.args.s.now (c.entries.at + 1) c.requires.0 c.read-c.result c.read-c.ensures flag-within' c.if-c-ne0.false in
    omega (arith, flag-within', one-past')

pub entries-preserved : goal.entries-preserved
entries-preserved c =
    let flag-got' : Bits c.in-Bits.flag ≡ fetched c.args.s.now c.entries.at 1 = sym c.in-Bits.is ∙ c.field.ensures in
    let one-read' : Answer one c.read-c.result (group_call.read c.args.s.now (c.entries.at + 1)) =
    call-read c.args.s.now (c.entries.at + 1) c.requires.0 c.read-c.result c.read-c.ensures c.if-c-ne0.false in
    let flag-within' : c.entries.at + 1 ≤ length c.args.s.now * 8 = (found c.args.s.now c.entries.at 1 _ flag-got').within in
    let one-past' : c.entries.at + 1 ≤ c.read-c.result.at = call-past c.args.s.now (c.entries.at + 1) c.requires.0 c.read-c.result c.read-c.ensures flag-within' c.if-c-ne0.false in
    let a = c.args in
    let i = c.entries.invariant in
    let x = one-read' in
    let f = flag-got' in
    let n = c.if-flag-eq0.false in
    let p = one-past' in
    elim c.if-count-lt-MOST_CALLS.branch [
      | then-count-lt-MOST_CALLS w ↦ calls-one a.s.now a.from a.numbers.now _ _ _ _ _ i _ _ f n x p _ _ w.if-count-lt-MOST_CALLS.true w.numbers_of-one.ensures
          (w.numbers-is ∙ w.run.ensures ∙ run-stored _ _ _ (omega
          (arith, kept-long i.kept, c.requires.1.0)))
      | else-count-lt-MOST_CALLS w ↦ rw w.numbers-is (calls-more a.s.now a.from a.numbers.now _ _ _ _ _ i _ _ f n x p w.if-count-lt-MOST_CALLS.false)
    ]

pub shape_of-numbers-in_default : goal.shape_of-numbers-in_default
shape_of-numbers-in_default c = kept-long c.entries.invariant.kept

pub returns-in_default : goal.returns-in_default
returns-in_default c =
    let a = c.args in
    let l = c.entries in
    let e : Short ≡ fetched a.s.now l.at 1 = sym c.in_default.is ∙ c.field.ensures in
    calls-refused a.s.now a.from _ _ _ _ _ c.no_calls.ensures c.ran_out.ensures (entries-short _ _ _ _ _ _ _ _ _ l.invariant.kept.entries e)

pub shape_of-numbers-then-flag-eq0 : goal.shape_of-numbers-then-flag-eq0
shape_of-numbers-then-flag-eq0 c = simp length-set (kept-long c.entries.invariant.kept)

pub returns-then-flag-eq0 : goal.returns-then-flag-eq0
returns-then-flag-eq0 c =
    let flag-got' : Bits c.in-Bits.flag ≡ fetched c.args.s.now c.entries.at 1 = sym c.in-Bits.is ∙ c.field.ensures in
    let a = c.args in
    calls-end a.s.now a.from a.numbers.now _ _ _ _ _ c.entries.invariant _ flag-got' c.if-flag-eq0.true _
    c.no_refusal.ensures

pub shape_of-numbers-then-c-ne0 : goal.shape_of-numbers-then-c-ne0
shape_of-numbers-then-c-ne0 c = kept-long c.entries.invariant.kept

pub returns-then-c-ne0 : goal.returns-then-c-ne0
returns-then-c-ne0 c =
    let flag-got' : Bits c.in-Bits.flag ≡ fetched c.args.s.now c.entries.at 1 = sym c.in-Bits.is ∙ c.field.ensures in
    let a = c.args in
    let l = c.entries in
    calls-refused a.s.now a.from _ _ _ _ _ c.no_calls-then-c-ne0.ensures refl
    (entries-bad _ _ _ _ _ _ _ _ _ l.invariant.kept.entries _ _ flag-got' c.if-flag-eq0.false
    (call-bad a.s.now (l.at + 1) c.requires.0 c.read-c.result c.read-c.ensures c.if-c-ne0.true))
