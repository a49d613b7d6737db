-- `nch_words::read_wide` meets its contract. Assumes nothing.
use mathlib.Core.Path.{refl, ap, ◌∙◌}
use Prim.Native.Nat.{ℕ}
use lib.ListN.{length, length-set}
use Rattle.csn1.specs.Told.{padded}
use Rattle.nch.specs.NotificationNumbers.{read_numbers}
use Rattle.nch.proofs.FilledAll.{zeros_in, refusal-read, filled_in}
use Rattle.words.proofs.Taken.{was_true}
use Rattle.nch_words.specs.Inner.{part_done}
use native.Mathlib.Omega.{arith}
use Rattle.nch_words.proofs.read_wide.Goals as goal

pub take_all-all-requires : goal.take_all-all-requires
take_all-all-requires c = (omega arith, zeros_in (length c.args.numbers.now) _ c.clear.ensures)

pub returns-then-not-all : goal.returns-then-not-all
returns-then-not-all c =
    let s = c.args.octets.now in
    let e = c.read_into.ensures in
    (e.0, e.1 ∙ ap (λ (n : ℕ). padded 0 n (read_numbers s)) (c.take_all-all.auto.numbers ∙ c.clear.auto.numbers))

pub shape_of-numbers : goal.shape_of-numbers
shape_of-numbers c = simp length-set (omega arith)

pub returns : goal.returns
returns c =
    let s = c.args.octets.now in
    let f = c.take_all-all.ensures (was_true _ c.if-not-all.false) in
    let d = part_done c.take_all-all.result.at in
    (c.no_refusal.ensures ∙ refusal-read s d f.0, filled_in s (length c.args.numbers.now) _ _ d c.clear.ensures f refl)
