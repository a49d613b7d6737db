-- `nch_words::additions::take_lead` meets its contract. Assumes nothing.
use Rattle.words.proofs.Windows.{part-first, seen}
use Rattle.nch_words.proofs.Adding.{lead-none, lead-bit}
use native.Mathlib.Omega.{arith}
use Rattle.nch_words.proofs.additions.take_lead.Goals as goal

pub returns-then-at-eq160 : goal.returns-then-at-eq160
returns-then-at-eq160 c =
    (omega arith, lead-none c.args.s.now c.requires.0.long c.args.at c.if-at-eq160.true)

pub returns : goal.returns
returns c =
    let s = c.args.s.now in
    let p = c.args.at in
    let x = seen c.at-x.ensures (omega (arith, c.requires.1)) s c.requires.0 in (
      omega (arith, c.requires.1, c.if-at-eq160.false),
      lead-bit s c.requires.0.long p (omega (arith, c.requires.1, c.if-at-eq160.false)) _ (part-first _ 1 _ c.part.ensures s p x) _ c.padding_bit.ensures,
    )
