-- `text::read_hex` meets its contract. Assumes nothing.
use Rattle.std.proofs.Common.{arith, ap, ◌∙◌, ◌*◌, ◌+◌, ℕ, take}
use lib.ListN.{set}
use lib.Seq.{paste, length-take-le}
use Rattle.text.specs.Digits.{octets_of}
use Rattle.text.proofs.Pairs.{digit_worth, read_next, read_all}
use Rattle.text.proofs.read_hex.Goals as goal

pub loop-i-preserved : goal.loop-i-preserved
loop-i-preserved c =
    let l = c.loop-i in
    let n = c.min-n.result in
    let s = c.args.digits.now in
    let t = length-take-le n c.args.octets.now (omega arith) in
    let v : ℕ = c.unwrap_or.result * 16 + c.unwrap_or-in-loop-i.result in
    ap (λ t. set t l.i v) l.invariant
    ∙ read_next (take n c.args.octets.now) s l.i v (omega arith) (omega (arith, t))
    (rw (c.unwrap_or.ensures, c.digit.ensures, digit_worth, c.unwrap_or-in-loop-i.ensures, c.digit-in-loop-i.ensures, digit_worth))

pub returns-clause-octets : goal.returns-clause-octets
returns-clause-octets c =
    let l = c.loop-i in
    read_all c.args.octets.now c.args.digits.now l.octet-items c.min-n.result l.i (omega arith) (omega arith) l.invariant
    ∙ ap (λ m. paste c.args.octets.now 0 (octets_of c.args.digits.now) m) c.min-n.ensures
