-- `nch_write::checks::calls_tested` meets its contract. Assumes nothing.
use Rattle.call.specs.Call.{no_call}
use Rattle.nch_write.proofs.Testing.{both_yes}
use lib.ListN.{length}
use mathlib.Core.Path.{◌≡◌, sym, ap, ◌∙◌}
use Rattle.bits.specs.Field.{both}
use Rattle.nch_write.proofs.Testing.{places_begin, places-used, places-unused, places-end, all-places}
use native.Mathlib.Omega.{arith}
use Rattle.nch_write.proofs.checks.calls_tested.Goals as goal
use Rattle.nch_write.proofs.checks.calls_tested.Goals.{then-i-n, else-i-n}

pub loop-i-init : goal.loop-i-init
loop-i-init c = let four : length c.args.calls ≡ 4 = omega arith in (places_begin _ _ _ _ _ four, (places_begin _ _ _ _ _ four, places_begin _ _ _ _ _ four))

pub loop-i-preserved : goal.loop-i-preserved
loop-i-preserved c =
    let p = c.loop-i.invariant in
    let h = c.loop-i-test.true in
    elim c.if-i-n.branch [
      | then-i-n w ↦ (
        places-used p.0 _ h w.if-i-n.true (sym (w.low-is ∙ w.both_hold-low.ensures ∙ ap (both c.loop-i.low) w.is_low.ensures)),
        (
          places-used p.1.0 _ h w.if-i-n.true (sym (w.lengths-is ∙ w.both_hold-lengths.ensures ∙ ap (both c.loop-i.lengths) w.length_right.ensures)),
          places-used p.1.1 _ h w.if-i-n.true (sym (w.hops-is ∙ w.both_hold-hops.ensures ∙ ap (both c.loop-i.hops) w.hops_right.ensures)),
        ),
      )
      | else-i-n w ↦ (
        places-unused p.0 no_call h w.if-i-n.false (both_yes _ ∙ sym w.low-is),
        (places-unused p.1.0 no_call h w.if-i-n.false (both_yes _ ∙ sym w.lengths-is), places-unused p.1.1 no_call h w.if-i-n.false (both_yes _ ∙ sym w.hops-is)),
      )
    ]

pub returns : goal.returns
returns c =
    let p = c.loop-i.invariant in
    let h = c.loop-i-test.false in
    (places-end p.0 h ∙ all-places _ _ _, (places-end p.1.0 h ∙ all-places _ _ _, places-end p.1.1 h ∙ all-places _ _ _))
