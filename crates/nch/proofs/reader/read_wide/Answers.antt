-- `nch::reader::read_wide` meets its contract. Assumes nothing.
use mathlib.Core.Path.{ap, ◌∙◌}
use native.Mathlib.Omega.{arith}
use lib.ListN.{length, length-set}
use Rattle.csn1.specs.declared.Refusal.{Refusal}
use Rattle.nch.proofs.FilledAll.{zeros_in, refusal-read, filled_in, cleared_away}
use Rattle.nch.proofs.reader.read_wide.Goals as goal

pub fill_all-all-requires : goal.fill_all-all-requires
fill_all-all-requires c = (omega arith, zeros_in (length c.args.numbers.now) _ c.clear.ensures)

pub returns-then-all-ne0 : goal.returns-then-all-ne0
returns-then-all-ne0 c =
    let s = c.args.octets.now in
    let x = refusal-read s c.fill_all-all.result c.fill_all-all.ensures.0 in (
      x,
      c.clear-then-all-ne0.ensures ∙ cleared_away s (length c.args.numbers.now) (length c.fill_all-all.new.numbers) (omega arith)
          (λ z. c.if-all-ne0.true (ap (λ (w : Refusal). w.number) x ∙ z)),
    )

pub shape_of-numbers : goal.shape_of-numbers
shape_of-numbers c = simp length-set (omega arith)

pub returns : goal.returns
returns c =
    let s = c.args.octets.now in
    let x = refusal-read s c.fill_all-all.result c.fill_all-all.ensures.0 in
    (x, filled_in s (length c.args.numbers.now) _ _ c.fill_all-all.result c.clear.ensures c.fill_all-all.ensures c.if-all-ne0.false)
