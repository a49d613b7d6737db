-- `csn1::read_coded` meets its contract. Assumes nothing.
use mathlib.Core.Path.{◌≡◌, sym, ap, ap₂, ◌∙◌}
use Prim.Native.Nat.{ℕ, ◌+◌}
use lib.ListN.{length}
use lib.Dec.{eqb}
use mathlib.Core.Bool.{not}
use borrow.Author.Tests.{lt-leb}
use Rattle.bits.specs.Field.{fetched}
use Rattle.bits.specs.declared.Got.TheVariants.{Bits, Short}
use Rattle.csn1.specs.Format.{bad, coded}
use Rattle.csn1.specs.declared.Refusal.{Refusal}
use Rattle.csn1.specs.Told.{lead_of, coded_of}
use Rattle.csn1.proofs.Reading.{found, read_at, coded-short, coded-told}
use native.Mathlib.Omega.{arith}
use Rattle.csn1.proofs.read_coded.Goals as goal

pub returns-then-s-gt-LONGEST : goal.returns-then-s-gt-LONGEST
returns-then-s-gt-LONGEST c =
    let a = c.args in
    c.no_lead.ensures ∙ ap (λ (r : Refusal). lead_of (bad r)) c.ran_out.ensures ∙ rw (lt-leb (length a.s.now) 4096 (omega arith))

pub returns-in_default : goal.returns-in_default
returns-in_default c =
    let a = c.args in
    let e : Short ≡ fetched a.s.now a.at 1 = sym c.in_default.is ∙ c.field.ensures in
    c.no_lead-in_default.ensures ∙ ap (λ (r : Refusal). lead_of (bad r)) c.ran_out-in_default.ensures
    ∙ sym (ap coded_of (read_at coded a.s.now a.at (omega arith) ∙ coded-short a.s.now a.at e))

pub overflow_add-result : goal.overflow_add-result
overflow_add-result c =
    let a = c.args in
    let f = found a.s.now a.at 1 _ ((let bit-got' : Bits c.in-Bits.b ≡ fetched c.args.s.now c.args.at 1 = sym c.in-Bits.is ∙ c.field.ensures in bit-got')) in
    omega arith

pub returns : goal.returns
returns c =
    let a = c.args in
    let v = c.in-Bits.b in
    ap₂ (λ (r : Refusal) (p : ℕ). record { refusal = r; high = not (eqb v p); at = a.at + 1 }) c.no_refusal.ensures c.padding_bit.ensures
    ∙ sym (ap coded_of (read_at coded a.s.now a.at (omega arith))
    ∙ coded-told a.s.now a.at v ((let bit-got' : Bits c.in-Bits.b ≡ fetched c.args.s.now c.args.at 1 = sym c.in-Bits.is ∙ c.field.ensures in bit-got')))
