-- `call::read_quick` meets its contract. Assumes nothing.
use mathlib.Core.Path.{◌≡◌, sym, ap, ◌∙◌}
use Prim.Native.Nat.{◌+◌}
use Rattle.bits.specs.Field.{fetched}
use Rattle.bits.specs.declared.Got.TheVariants.{Bits}
use Rattle.csn1.specs.Told.{read_at_of}
use Rattle.csn1.proofs.Reading.{found, found_lt, read_at}
use Rattle.call.specs.Call.{group_call}
use Rattle.call.specs.Told.{call_at_of}
use Rattle.call.proofs.Reading.{plain_told, fixed_told, not_quickly}
use native.Mathlib.Omega.{arith}
use Rattle.call.proofs.read_quick.Goals as goal

pub returns-then-s-gt-LONGEST : goal.returns-then-s-gt-LONGEST
returns-then-s-gt-LONGEST c = not_quickly _ (read_at_of group_call c.args.s.now c.args.at) c.not_quick.ensures

pub returns-in_default : goal.returns-in_default
returns-in_default c = not_quickly _ (read_at_of group_call c.args.s.now c.args.at) c.not_quick-in_default.ensures

pub returns-then-led-gt99999999 : goal.returns-then-led-gt99999999
returns-then-led-gt99999999 c = not_quickly _ (read_at_of group_call c.args.s.now c.args.at) c.not_quick-then-led-gt99999999.ensures

pub overflow_add-result : goal.overflow_add-result
overflow_add-result c =
    let led-got' : Bits c.in-Bits.led ≡ fetched c.args.s.now c.args.at 37 = sym c.in-Bits.is ∙ c.field.ensures in
    let a = c.args in
    let f = found a.s.now a.at 37 _ led-got' in
    omega arith

pub returns-then-led-eq0 : goal.returns-then-led-eq0
returns-then-led-eq0 c =
    let led-got' : Bits c.in-Bits.led ≡ fetched c.args.s.now c.args.at 37 = sym c.in-Bits.is ∙ c.field.ensures in
    let a = c.args in
    record {
      small = omega arith;
      right =
          λ d.
          plain_told a.s.now a.at _ led-got' (omega arith) c.if-led-eq0.true
          ∙ sym (ap call_at_of (read_at group_call a.s.now a.at (omega arith)));
    }

pub overflow_add-at : goal.overflow_add-at
overflow_add-at c =
    let led-got' : Bits c.in-Bits.led ≡ fetched c.args.s.now c.args.at 37 = sym c.in-Bits.is ∙ c.field.ensures in
    let a = c.args in
    let f = found a.s.now a.at 37 _ led-got' in
    omega arith

pub returns-in_default-field : goal.returns-in_default-field
returns-in_default-field c = not_quickly _ (read_at_of group_call c.args.s.now c.args.at) c.not_quick-in_default-field.ensures

pub returns-then-channel-ne0 : goal.returns-then-channel-ne0
returns-then-channel-ne0 c = not_quickly _ (read_at_of group_call c.args.s.now c.args.at) c.not_quick-then-channel-ne0.ensures

pub returns-then-channel-ne0-2 : goal.returns-then-channel-ne0-2
returns-then-channel-ne0-2 c = not_quickly _ (read_at_of group_call c.args.s.now c.args.at) c.not_quick-then-channel-ne0-2.ensures

pub overflow_cast-result : goal.overflow_cast-result
overflow_cast-result c =
    let channel-got' : Bits c.in-Bits-field.channel ≡ fetched c.args.s.now (c.args.at + 37) 25 = sym c.in-Bits-field.is ∙ c.field-2.ensures in
    let a = c.args in
    omega (arith, found_lt a.s.now (a.at + 37) 25 _ channel-got')

pub overflow_add-result-2 : goal.overflow_add-result-2
overflow_add-result-2 c =
    let channel-got' : Bits c.in-Bits-field.channel ≡ fetched c.args.s.now (c.args.at + 37) 25 = sym c.in-Bits-field.is ∙ c.field-2.ensures in
    let a = c.args in
    let f = found a.s.now (a.at + 37) 25 _ channel-got' in
    omega arith

pub returns : goal.returns
returns c =
    let led-got' : Bits c.in-Bits.led ≡ fetched c.args.s.now c.args.at 37 = sym c.in-Bits.is ∙ c.field.ensures in
    let channel-got' : Bits c.in-Bits-field.channel ≡ fetched c.args.s.now (c.args.at + 37) 25 = sym c.in-Bits-field.is ∙ c.field-2.ensures in
    let a = c.args in
    record {
      small = omega arith;
      right =
          λ d.
          fixed_told a.s.now a.at _ led-got' (omega arith) c.if-led-eq0.false _ channel-got' (omega arith) (omega arith)
          ∙ sym (ap call_at_of (read_at group_call a.s.now a.at (omega arith)));
    }
