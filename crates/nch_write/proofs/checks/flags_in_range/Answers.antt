-- `nch_write::checks::flags_in_range` meets its contract. Assumes nothing.
use mathlib.Core.Path.{◌≡◌}
use mathlib.Core.Bool.{true}
use Rattle.csn1.proofs.Telling.{fails, passes}
use Rattle.csn1.specs.Write.{flagged_right, behind}
use Rattle.nch.specs.declared.Release7.{Release7}
use Rattle.nch_write.proofs.checks.flags_in_range.Goals as goal

pub returns-then-not-bit_right : goal.returns-then-not-bit_right
returns-then-not-bit_right c = rw (fails c.if-not-bit_right.true-raw c.bit_right.ensures)

pub returns-then-not-bit_right-2 : goal.returns-then-not-bit_right-2
returns-then-not-bit_right-2 c =
    let uplink-right' : let r : Release7 = c.args.r in behind r.hasUplink r.uplink ≡ true = passes c.if-not-bit_right.false-raw c.bit_right.ensures in
    rw (uplink-right', fails c.if-not-bit_right-2.true-raw c.bit_right-2.ensures)

pub returns-then-not-bit_right-3 : goal.returns-then-not-bit_right-3
returns-then-not-bit_right-3 c =
    let uplink-right' : let r : Release7 = c.args.r in behind r.hasUplink r.uplink ≡ true = passes c.if-not-bit_right.false-raw c.bit_right.ensures in
    let full-right' : let r : Release7 = c.args.r in behind r.hasAmr r.hasFullrate ≡ true = passes c.if-not-bit_right-2.false-raw c.bit_right-2.ensures in
    rw (uplink-right', full-right', fails c.if-not-bit_right-3.true-raw c.bit_right-3.ensures)

pub returns-then-not-flagged_right : goal.returns-then-not-flagged_right
returns-then-not-flagged_right c =
    let uplink-right' : let r : Release7 = c.args.r in behind r.hasUplink r.uplink ≡ true = passes c.if-not-bit_right.false-raw c.bit_right.ensures in
    let full-right' : let r : Release7 = c.args.r in behind r.hasAmr r.hasFullrate ≡ true = passes c.if-not-bit_right-2.false-raw c.bit_right-2.ensures in
    let half-right' : let r : Release7 = c.args.r in behind r.hasAmr r.hasHalfrate ≡ true = passes c.if-not-bit_right-3.false-raw c.bit_right-3.ensures in
    rw (uplink-right', full-right', half-right', fails c.if-not-flagged_right.true-raw c.flagged_right.ensures)

pub returns-then-not-flagged_right-2 : goal.returns-then-not-flagged_right-2
returns-then-not-flagged_right-2 c =
    let uplink-right' : let r : Release7 = c.args.r in behind r.hasUplink r.uplink ≡ true = passes c.if-not-bit_right.false-raw c.bit_right.ensures in
    let full-right' : let r : Release7 = c.args.r in behind r.hasAmr r.hasFullrate ≡ true = passes c.if-not-bit_right-2.false-raw c.bit_right-2.ensures in
    let half-right' : let r : Release7 = c.args.r in behind r.hasAmr r.hasHalfrate ≡ true = passes c.if-not-bit_right-3.false-raw c.bit_right-3.ensures in
    let fullrate-right' : flagged_right c.args.r.hasFullrate c.args.r.fullrate 16 ≡ true = passes c.if-not-flagged_right.false-raw c.flagged_right.ensures in
    rw (uplink-right', full-right', half-right', fullrate-right', fails c.if-not-flagged_right-2.true-raw c.flagged_right-2.ensures)

pub returns-then-not-bit_right-4 : goal.returns-then-not-bit_right-4
returns-then-not-bit_right-4 c =
    let uplink-right' : let r : Release7 = c.args.r in behind r.hasUplink r.uplink ≡ true = passes c.if-not-bit_right.false-raw c.bit_right.ensures in
    let full-right' : let r : Release7 = c.args.r in behind r.hasAmr r.hasFullrate ≡ true = passes c.if-not-bit_right-2.false-raw c.bit_right-2.ensures in
    let half-right' : let r : Release7 = c.args.r in behind r.hasAmr r.hasHalfrate ≡ true = passes c.if-not-bit_right-3.false-raw c.bit_right-3.ensures in
    let fullrate-right' : flagged_right c.args.r.hasFullrate c.args.r.fullrate 16 ≡ true = passes c.if-not-flagged_right.false-raw c.flagged_right.ensures in
    let halfrate-right' : let r : Release7 = c.args.r in flagged_right r.hasHalfrate r.halfrate 16 ≡ true = passes c.if-not-flagged_right-2.false-raw c.flagged_right-2.ensures in
    rw (uplink-right', full-right', half-right', fullrate-right', halfrate-right', fails c.if-not-bit_right-4.true-raw c.bit_right-4.ensures)

pub returns : goal.returns
returns c =
    let uplink-right' : let r : Release7 = c.args.r in behind r.hasUplink r.uplink ≡ true = passes c.if-not-bit_right.false-raw c.bit_right.ensures in
    let full-right' : let r : Release7 = c.args.r in behind r.hasAmr r.hasFullrate ≡ true = passes c.if-not-bit_right-2.false-raw c.bit_right-2.ensures in
    let half-right' : let r : Release7 = c.args.r in behind r.hasAmr r.hasHalfrate ≡ true = passes c.if-not-bit_right-3.false-raw c.bit_right-3.ensures in
    let fullrate-right' : flagged_right c.args.r.hasFullrate c.args.r.fullrate 16 ≡ true = passes c.if-not-flagged_right.false-raw c.flagged_right.ensures in
    let halfrate-right' : let r : Release7 = c.args.r in flagged_right r.hasHalfrate r.halfrate 16 ≡ true = passes c.if-not-flagged_right-2.false-raw c.flagged_right-2.ensures in
    let confidential-right' : let r : Release7 = c.args.r in behind r.hasSms r.confidential ≡ true = passes c.if-not-bit_right-4.false-raw c.bit_right-4.ensures in
    rw (uplink-right', full-right', half-right', fullrate-right', halfrate-right', confidential-right') c.bit_right-5.ensures
