-- `pen::octets::pad` meets its contract. Assumes nothing.
use Rattle.pen.specs.Words.{whole}
use Prim.Native.Nat.{◌%◌}
use Rattle.pen.proofs.Numbers.{put_whole}
use Rattle.pen.proofs.Digits.{pad_few, pad_more, pad_most}
use native.Mathlib.Omega.{arith}
use Rattle.pen.proofs.octets.pad.Goals as goal

pub returns-then-n-lt64 : goal.returns-then-n-lt64
returns-then-n-lt64 c =
    let a = c.args in
    pad_few (whole a.w) a.n (whole c.put-p.result) (put_whole a.w c.put-p.result (a.n % 64) 3110627432037296939 (omega arith) c.put-p.ensures) (omega arith)

pub returns-then-n-lt128 : goal.returns-then-n-lt128
returns-then-n-lt128 c =
    let a = c.args in
    pad_more (whole a.w) a.n (whole c.put-p.result) (put_whole a.w c.put-p.result (a.n % 64) 3110627432037296939 (omega arith) c.put-p.ensures)
    (whole c.put-q.result) (put_whole c.put-p.result c.put-q.result 64 3110627432037296939 (omega arith) c.put-q.ensures) (omega arith) (omega arith)

pub returns : goal.returns
returns c =
    let a = c.args in
    pad_most (whole a.w) a.n (whole c.put-p.result) (put_whole a.w c.put-p.result (a.n % 64) 3110627432037296939 (omega arith) c.put-p.ensures)
    (whole c.put-q.result) (put_whole c.put-p.result c.put-q.result 64 3110627432037296939 (omega arith) c.put-q.ensures) (omega arith) (omega arith)
    (whole c.put.result) (put_whole c.put-q.result c.put.result 64 3110627432037296939 (omega arith) c.put.ensures)
