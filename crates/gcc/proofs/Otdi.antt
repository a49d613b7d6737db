-- Laws of the twelve digits: they read what they wrote, and write what they read. Assumes nothing.
use mathlib.Core.Path.{◌≡◌}
use mathlib.Core.List.{List}
use native.Mathlib.Omega.{arith}
use borrow.Author.Tests.{eq-eqb, le-leb, eqb-true, leb-true}
use Prim.Native.Nat.{ℕ, ◌^◌, ◌<◌}
use lib.ListN.{length}
use lib.Dec.{leb, eqb}
use Rattle.bits.specs.Field.{pick}
use Rattle.gcc.specs.Octet.{all_between}
use Rattle.gcc.specs.Numeral.{spell, worth}
use Rattle.gcc.specs.Digits.{refused, told, read_of, write_number, write_to}
use Rattle.gcc.specs.Promises as promises
use Rattle.gcc.specs.declared.digits.Reading.{Reading}
use Rattle.gcc.proofs.Tests.{passed}
use Rattle.gcc.proofs.Numerals.{worth-of-spell, worth_lt, spell-worth, length-spell, spell-within, within-spells}

pub the_digits_of_a_number_are_worth_it : promises.TheDigitsOfANumberAreWorthIt
the_digits_of_a_number_are_worth_it n h = worth-of-spell 10 48 12 n (omega arith) (omega arith)

pub the_number_of_digits_spells_them : promises.TheNumberOfDigitsSpellsThem
the_number_of_digits_spells_them ds e w = rw e at (spell-worth 10 48 0 ds (within-spells 10 48 ds (omega arith) w))

pub digits_are_read_back : promises.DigitsAreReadBack
unfolding read_of write_number write_to
digits_are_read_back ds buf = (
  λ e.
      let a = passed (λ k. k) (eqb (length ds) 12) (pick (all_between 48 57 ds) (pick (eqb (length buf) 5) 0 11) 12) 13 (omega arith) e in
      let b = passed (λ k. k) (all_between 48 57 ds) (pick (eqb (length buf) 5) 0 11) 12 (omega arith) a.1 in
      let d = passed (λ k. k) (eqb (length buf) 5) 0 11 (omega arith) b.1 in
      record { twelve = eqb-true (length ds) 12 a.0; decimal = b.0; five = eqb-true (length buf) 5 d.0 },
  λ a.
      let e : write_number ds (length buf) ≡ 0 = rw (eq-eqb (length ds) 12 a.twelve, a.decimal, eq-eqb (length buf) 5 a.five) in
      let n : ℕ = worth 10 48 0 ds in
      let small : n < 10 ^ 12 = rw a.twelve at (worth_lt 10 48 ds (within-spells 10 48 ds (omega arith) a.decimal)) in
      let w : worth 256 0 0 (spell 256 0 5 n) ≡ n = worth-of-spell 256 0 5 n (omega arith) (omega arith) in
      (e, rw (e, length-spell 256 0 5 n, w, le-leb n 999999999999 (omega arith), the_number_of_digits_spells_them ds a.twelve a.decimal)),
)

pub digits_are_written_back : promises.DigitsAreWrittenBack
unfolding read_of write_number write_to
digits_are_written_back s o =
    let n : ℕ = worth 256 0 0 s in (
      λ e.
          let a = passed (λ (r : Reading). r.refusal) (eqb (length s) 5) (told n) (refused 13) (omega arith) e in
          let b = passed (λ (r : Reading). r.refusal) (leb n 999999999999) (record { refusal = 0; digits = spell 10 48 12 n }) (refused 12) (omega arith) a.1 in
          (eqb-true (length s) 5 a.0, leb-true n 999999999999 b.0),
      λ y. (
        rw (eq-eqb (length s) 5 y.0, le-leb n 999999999999 y.1),
        λ buf l.
            let ds : List ℕ = spell 10 48 12 n in
            let w : write_number ds (length buf) ≡ 0 = rw (length-spell 10 48 12 n, spell-within 10 48 12 n (omega arith), eq-eqb (length buf) 5 l) in
            let back : spell 256 0 5 n ≡ s = rw y.0 at (spell-worth 256 0 0 s o) in
            rw (eq-eqb (length s) 5 y.0, le-leb n 999999999999 y.1) (w, rw (w, the_digits_of_a_number_are_worth_it n y.1) back),
      ),
    )
