-- `nch_words::lists::put_random` meets its contract. Assumes nothing.
use mathlib.Core.Path.{◌∙◌}
use mir.Val.{bool_byte}
use Prim.Native.Nat.{◌+◌}
use lib.ListN.{set, length-set}
use Rattle.csn1.specs.Told.{is_there, or_zero}
use Rattle.nch_words.proofs.Puts.{zeros-next, second-place}
use native.Mathlib.Omega.{arith}
use Rattle.nch_words.proofs.lists.put_random.Goals as goal

pub put_flagged-requires : goal.put_flagged-requires
put_flagged-requires c =
    let a = c.args in
    ((omega arith, omega arith), (simp length-set (omega (arith, c.requires.0)), zeros-next a.numbers.now a.place c.part.result c.requires.1))

pub shape_of-numbers : goal.shape_of-numbers
shape_of-numbers c =
    let a = c.args in
    c.put_flagged.auto.numbers ∙ length-set a.numbers.now a.place c.part.result

pub returns : goal.returns
returns c =
    let a = c.args in
    let o = c.put_flagged.ensures in (
      o.0,
      (
        o.1.0,
        λ s p e.
            let f = o.1.1.1 s p e in
            let l = set (set a.numbers.now a.place c.part.result) (a.place + 1) (bool_byte (is_there f.value)) in
            record { segment = c.part.result; value = f.value; first = c.part.ensures s p e; is = f.is; left = f.left ∙ second-place l a.place (or_zero f.value) },
      ),
    )
