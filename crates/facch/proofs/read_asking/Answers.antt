-- `facch::read_asking` meets its contract. Assumes nothing.
use mathlib.Core.Path.{sym, ap, ◌∙◌}
use Prim.Native.Nat.{◌≤◌}
use lib.ListN.{length}
use Rattle.csn1.specs.declared.Refusal.{Refusal}
use Rattle.csn1.specs.Format.{bad}
use Rattle.facch.specs.Told.{reading_of}
use Rattle.facch.proofs.Callees.{too_short, too_long, notified-refused, release6-refused, release7-refused, message-told}
use native.Mathlib.Omega.{arith}
use Rattle.facch.proofs.read_asking.Goals as goal

pub returns-then-octets-lt2 : goal.returns-then-octets-lt2
returns-then-octets-lt2 c =
    let s = c.args.octets.now in
    c.refused.ensures ∙ ap (λ (r : Refusal). reading_of (bad r)) c.ground.ensures ∙ sym (ap reading_of (too_short s (omega arith)))

pub returns-then-octets-gt23 : goal.returns-then-octets-gt23
returns-then-octets-gt23 c =
    let s = c.args.octets.now in
    c.refused-then-octets-gt23.ensures ∙ ap (λ (r : Refusal). reading_of (bad r)) c.ground-then-octets-gt23.ensures ∙ sym (ap reading_of (too_long s (omega arith)))

pub returns-then-n-ne0 : goal.returns-then-n-ne0
returns-then-n-ne0 c =
    let long-enough' : 2 ≤ length c.args.octets.now = omega arith in
    let short-enough' : length c.args.octets.now ≤ 23 = omega arith in
    c.refused-then-n-ne0.ensures
    ∙ sym (ap reading_of (notified-refused c.args.octets.now long-enough' short-enough' c.read_notified-n.result c.read_notified-n.ensures c.if-n-ne0.true))

pub returns-then-six-ne0 : goal.returns-then-six-ne0
returns-then-six-ne0 c =
    let long-enough' : 2 ≤ length c.args.octets.now = omega arith in
    let short-enough' : length c.args.octets.now ≤ 23 = omega arith in
    c.refused-then-six-ne0.ensures
    ∙ sym (ap reading_of (release6-refused c.args.octets.now long-enough' short-enough' c.read_notified-n.result c.read_notified-n.ensures c.if-n-ne0.false
    c.read_release6-six.result c.read_release6-six.ensures c.if-six-ne0.true))

pub returns-then-seven-ne0 : goal.returns-then-seven-ne0
returns-then-seven-ne0 c =
    let long-enough' : 2 ≤ length c.args.octets.now = omega arith in
    let short-enough' : length c.args.octets.now ≤ 23 = omega arith in
    c.refused-then-seven-ne0.ensures
    ∙ sym (ap reading_of (release7-refused c.args.octets.now long-enough' short-enough' c.read_notified-n.result c.read_notified-n.ensures c.if-n-ne0.false
    c.read_release6-six.result c.read_release6-six.ensures c.if-six-ne0.false c.read_release7-seven.result c.read_release7-seven.ensures c.if-seven-ne0.true))

pub returns : goal.returns
returns c =
    let long-enough' : 2 ≤ length c.args.octets.now = omega arith in
    let short-enough' : length c.args.octets.now ≤ 23 = omega arith in
    message-told c.args.octets.now long-enough' short-enough' c.read_notified-n.result c.read_notified-n.ensures c.if-n-ne0.false c.read_release6-six.result c.read_release6-six.ensures
    c.if-six-ne0.false c.read_release7-seven.result c.read_release7-seven.ensures c.if-seven-ne0.false c.no_refusal.result c.no_refusal.ensures
