-- `gcc::put` meets its contract. Assumes nothing.
use native.Mathlib.Omega.{arith}
use mathlib.Core.Path.{◌≡◌, sym, ap, ◌∙◌}
use mathlib.Core.List.{◌++◌, append-nil}
use Prim.Native.Nat.{◌%◌}
use lib.ListN.{length, length-set}
use lib.Seq.{drop-length}
use Rattle.gcc.specs.Numeral.{spell}
use Rattle.gcc.proofs.Numerals.{spell_turn}
use borrow.Author.Rules.{rules}
use Rattle.gcc.proofs.put.Goals as goal

pub loop-i-init : goal.loop-i-init
loop-i-init c = (search rules, search rules, sym (ap (λ t. spell 256 0 (length c.args.octets.now) c.args.n ++ t) (drop-length c.args.octets.now) ∙ append-nil _))

pub loop-i-preserved : goal.loop-i-preserved
loop-i-preserved c =
    let l = c.loop-i in
    (omega arith, simp length-set l.invariant.1, l.invariant.2 ∙ spell_turn 256 0 l.i l.rest (l.rest % 256) l.octets (omega arith) (omega arith) (omega arith))

pub shape_of-octets : goal.shape_of-octets
shape_of-octets c = c.loop-i.invariant.1

pub returns : goal.returns
unfolding spell
returns c =
    let l = c.loop-i in
    let e : l.i ≡ 0 = omega arith in
    sym (l.invariant.2 ∙ rw e)
