-- `pch::read` meets its contract. Assumes nothing.
use mathlib.Core.Path.{◌≡◌, sym, ap, ap₂, ◌∙◌}
use mathlib.Core.Bool.{true}
use Prim.Native.Nat.{◌≤◌}
use lib.ListN.{length, get_or}
use lib.Dec.{eqb}
use borrow.Author.Tests.{lt-leb, le-leb, eq-eqb, ne_eqb}
use native.Mathlib.Omega.{arith}
use Rattle.csn1.specs.declared.Refusal.{Refusal}
use Rattle.csn1.specs.Format.{ground}
use Rattle.call.specs.Write.{call_in_range}
use Rattle.pch.specs.declared.Entry.{Entry}
use Rattle.pch.specs.Entry.{entry_length, last_key, key_is_low, length_right, hops_right, in_range, ground_in, read_of}
use Rattle.pch.specs.Inner.{sound}
use Rattle.pch.proofs.Laws.{fits, unsound, range-is_the_calls}
use Rattle.pch.proofs.read.Goals as goal

pub returns-then-numbers-ne-LENGTH : goal.returns-then-numbers-ne-LENGTH
unfolding read_of ground_in ground
returns-then-numbers-ne-LENGTH c = rw (ne_eqb (length c.args.numbers.now) 14 c.if-numbers-ne-LENGTH.true) c.refused.ensures

pub returns-then-number_at-gt-LAST_KEY : goal.returns-then-number_at-gt-LAST_KEY
unfolding read_of ground_in ground
returns-then-number_at-gt-LAST_KEY c =
    let long' : eqb (length c.args.numbers.now) entry_length ≡ true = eq-eqb (length c.args.numbers.now) 14 c.if-numbers-ne-LENGTH.false in
    rw (
      long',
      lt-leb (get_or c.args.numbers.now 0 0) last_key
          (omega (arith, c.number_at.ensures, c.if-number_at-gt-LAST_KEY.true)),
    ) c.refused-then-number_at-gt-LAST_KEY.ensures

pub returns-then-not-length_right : goal.returns-then-not-length_right
unfolding read_of ground_in ground
returns-then-not-length_right c =
    let long' : eqb (length c.args.numbers.now) entry_length ≡ true = eq-eqb (length c.args.numbers.now) 14 c.if-numbers-ne-LENGTH.false in
    let key' : get_or c.args.numbers.now 0 0 ≤ last_key = omega (arith, c.number_at.ensures, c.if-number_at-gt-LAST_KEY.false) in
    let low' : key_is_low c.args.numbers.now ≡ true = le-leb (get_or c.args.numbers.now 0 0) last_key key' in
    rw (
      long',
      low',
      sym c.length_right.ensures ∙ c.if-not-length_right.true,
    ) c.refused-then-not-length_right.ensures

pub returns-then-not-hops_right : goal.returns-then-not-hops_right
unfolding read_of ground_in ground
returns-then-not-hops_right c =
    let long' : eqb (length c.args.numbers.now) entry_length ≡ true = eq-eqb (length c.args.numbers.now) 14 c.if-numbers-ne-LENGTH.false in
    let key' : get_or c.args.numbers.now 0 0 ≤ last_key = omega (arith, c.number_at.ensures, c.if-number_at-gt-LAST_KEY.false) in
    let low' : key_is_low c.args.numbers.now ≡ true = le-leb (get_or c.args.numbers.now 0 0) last_key key' in
    let lengths' : length_right c.args.numbers.now ≡ true = sym c.length_right.ensures ∙ c.if-not-length_right.false in
    rw (
      long',
      low',
      lengths',
      sym c.hops_right.ensures ∙ c.if-not-hops_right.true,
    ) c.refused-then-not-hops_right.ensures

pub returns-then-not-sound : goal.returns-then-not-sound
unfolding read_of ground_in ground
returns-then-not-sound c =
    let long' : eqb (length c.args.numbers.now) entry_length ≡ true = eq-eqb (length c.args.numbers.now) 14 c.if-numbers-ne-LENGTH.false in
    let key' : get_or c.args.numbers.now 0 0 ≤ last_key = omega (arith, c.number_at.ensures, c.if-number_at-gt-LAST_KEY.false) in
    let low' : key_is_low c.args.numbers.now ≡ true = le-leb (get_or c.args.numbers.now 0 0) last_key key' in
    let lengths' : length_right c.args.numbers.now ≡ true = sym c.length_right.ensures ∙ c.if-not-length_right.false in
    let hopping' : hops_right c.args.numbers.now ≡ true = sym c.hops_right.ensures ∙ c.if-not-hops_right.false in
    rw (
      long',
      low',
      lengths',
      hopping',
      unsound c.args.numbers.now
          (sym c.sound.ensures ∙ c.if-not-sound.true),
    )
    c.refused-then-not-sound.ensures

pub entry_in-record-requires : goal.entry_in-record-requires
entry_in-record-requires c =
    let key' : get_or c.args.numbers.now 0 0 ≤ last_key = omega (arith, c.number_at.ensures, c.if-number_at-gt-LAST_KEY.false) in
    let lengths' : length_right c.args.numbers.now ≡ true = sym c.length_right.ensures ∙ c.if-not-length_right.false in
    let sounds' : sound c.args.numbers.now ≡ true = sym c.sound.ensures ∙ c.if-not-sound.false in
    fits c.args.numbers.now
    key' lengths' sounds'

pub returns-then-not-in_range : goal.returns-then-not-in_range
unfolding read_of ground_in ground
returns-then-not-in_range c =
    let long' : eqb (length c.args.numbers.now) entry_length ≡ true = eq-eqb (length c.args.numbers.now) 14 c.if-numbers-ne-LENGTH.false in
    let key' : get_or c.args.numbers.now 0 0 ≤ last_key = omega (arith, c.number_at.ensures, c.if-number_at-gt-LAST_KEY.false) in
    let low' : key_is_low c.args.numbers.now ≡ true = le-leb (get_or c.args.numbers.now 0 0) last_key key' in
    let lengths' : length_right c.args.numbers.now ≡ true = sym c.length_right.ensures ∙ c.if-not-length_right.false in
    let hopping' : hops_right c.args.numbers.now ≡ true = sym c.hops_right.ensures ∙ c.if-not-hops_right.false in
    let sounds' : sound c.args.numbers.now ≡ true = sym c.sound.ensures ∙ c.if-not-sound.false in
    let range' : in_range c.args.numbers.now ≡ c.in_range.result = range-is_the_calls c.args.numbers.now sounds'
    ∙ ap (λ (e : Entry). call_in_range e.call) (sym c.entry_in-record.ensures)
    ∙ sym c.in_range.ensures in
    rw (
      long',
      low',
      lengths',
      hopping',
      range' ∙ c.if-not-in_range.true,
    )
    c.refused-then-not-in_range.ensures

pub returns : goal.returns
unfolding read_of ground_in ground
returns c =
    let long' : eqb (length c.args.numbers.now) entry_length ≡ true = eq-eqb (length c.args.numbers.now) 14 c.if-numbers-ne-LENGTH.false in
    let key' : get_or c.args.numbers.now 0 0 ≤ last_key = omega (arith, c.number_at.ensures, c.if-number_at-gt-LAST_KEY.false) in
    let low' : key_is_low c.args.numbers.now ≡ true = le-leb (get_or c.args.numbers.now 0 0) last_key key' in
    let lengths' : length_right c.args.numbers.now ≡ true = sym c.length_right.ensures ∙ c.if-not-length_right.false in
    let hopping' : hops_right c.args.numbers.now ≡ true = sym c.hops_right.ensures ∙ c.if-not-hops_right.false in
    let sounds' : sound c.args.numbers.now ≡ true = sym c.sound.ensures ∙ c.if-not-sound.false in
    let range' : in_range c.args.numbers.now ≡ c.in_range.result = range-is_the_calls c.args.numbers.now sounds'
    ∙ ap (λ (e : Entry). call_in_range e.call) (sym c.entry_in-record.ensures)
    ∙ sym c.in_range.ensures in
    rw (
      long',
      low',
      lengths',
      hopping',
      range' ∙ c.if-not-in_range.false,
    )
    (ap₂ (λ (f : Refusal) (e : Entry). record { refusal = f; «record» = e }) c.no_refusal.ensures c.entry_in-record.ensures)
