-- `layout::records::put_octets` meets its contract. Assumes nothing.
use native.Mathlib.Omega.{arith}
use Rattle.layout.proofs.Wide.{Octs}
use Rattle.layout.proofs.Packing.{eight-first, eight-more, all_eights}
use Rattle.layout.proofs.records.put_octets.Goals as goal

pub returns : goal.returns
returns c =
    let a = c.args in
    let p = c.requires in
    let o : Octs a.o.now = λ x. omega (arith, c.type_inv.o x) in
    let s1 = eight-first _ _ a.at a.o.now (omega (arith, p.1)) o c.put_eight.ensures in
    let s2 = eight-more 8 _ _ _ a.at a.o.now (omega (arith, p.1)) o s1 c.put_eight-2.ensures in
    let s3 = eight-more 16 _ _ _ a.at a.o.now (omega (arith, p.1)) o s2 c.put_eight-3.ensures in
    let s4 = eight-more 24 _ _ _ a.at a.o.now (omega (arith, p.1)) o s3 c.put_eight-4.ensures in
    let s5 = eight-more 32 _ _ _ a.at a.o.now (omega (arith, p.1)) o s4 c.put_eight-5.ensures in
    let s6 = eight-more 40 _ _ _ a.at a.o.now (omega (arith, p.1)) o s5 c.put_eight-6.ensures in
    let s7 = eight-more 48 _ _ _ a.at a.o.now (omega (arith, p.1)) o s6 c.put_eight-7.ensures in
    all_eights _ _ a.at a.o.now p.1 s7
