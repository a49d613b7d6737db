-- `facch_write::checks::refusal` meets its contract. Assumes nothing.
use Rattle.csn1.proofs.Telling.{fails, passes}
use Rattle.facch_write.specs.Write.{record_refusal}
use Rattle.facch_write.proofs.checks.refusal.Goals as goal

pub returns-then-not-in_range : goal.returns-then-not-in_range
unfolding record_refusal
returns-then-not-in_range c = rw (fails c.if-not-in_range.true-raw c.in_range.ensures)

pub returns-then-not-is_low : goal.returns-then-not-is_low
unfolding record_refusal
returns-then-not-is_low c =
    let a = passes c.if-not-in_range.false-raw c.in_range.ensures in
    rw (a, fails c.if-not-is_low.true-raw c.is_low.ensures)

pub returns-then-not-length_right : goal.returns-then-not-length_right
unfolding record_refusal
returns-then-not-length_right c =
    let a = passes c.if-not-in_range.false-raw c.in_range.ensures in
    rw (a, passes c.if-not-is_low.false-raw c.is_low.ensures, fails c.if-not-length_right.true-raw c.length_right.ensures)

pub returns-then-not-identity_right : goal.returns-then-not-identity_right
unfolding record_refusal
returns-then-not-identity_right c =
    let a = passes c.if-not-in_range.false-raw c.in_range.ensures in
    rw (a, passes c.if-not-is_low.false-raw c.is_low.ensures, passes c.if-not-length_right.false-raw c.length_right.ensures, fails c.if-not-identity_right.true-raw c.identity_right.ensures)

pub returns-then-not-hops_right : goal.returns-then-not-hops_right
unfolding record_refusal
returns-then-not-hops_right c =
    let a = passes c.if-not-in_range.false-raw c.in_range.ensures in
    rw (
      a,
      passes c.if-not-is_low.false-raw c.is_low.ensures,
      passes c.if-not-length_right.false-raw c.length_right.ensures,
      passes c.if-not-identity_right.false-raw c.identity_right.ensures,
      fails c.if-not-hops_right.true-raw c.hops_right.ensures,
    )

pub returns : goal.returns
unfolding record_refusal
returns c =
    let a = passes c.if-not-in_range.false-raw c.in_range.ensures in
    rw (
      a,
      passes c.if-not-is_low.false-raw c.is_low.ensures,
      passes c.if-not-length_right.false-raw c.length_right.ensures,
      passes c.if-not-identity_right.false-raw c.identity_right.ensures,
      passes c.if-not-hops_right.false-raw c.hops_right.ensures,
    )
