-- `nch_write::put_all` meets its contract. Assumes nothing.
use Prim.Native.Nat.{◌≤◌}
use Rattle.csn1.specs.Format.{num, opt, ◌⨟◌, list, release}
use Rattle.csn1.specs.Grammar.{format}
use Rattle.csn1.proofs.Flags.{flag_limit}
use Rattle.call.specs.Call.{group_call}
use Rattle.nch.specs.Octets.{release6, release7, notification}
use Rattle.nch.specs.Told.{value_of}
use Rattle.nch.specs.Write.{form}
use Rattle.nch.proofs.Releases.{range6, range7}
use Rattle.nch.proofs.Record.{Right, right, calls-right}
use Rattle.nch_write.proofs.Putting.{inks-both, inks-from}
use native.Mathlib.Omega.{arith}
use Rattle.nch_write.proofs.put_all.Goals as goal

pub put_flagged-a-requires : goal.put_flagged-a-requires
put_flagged-a-requires c =
    let good' : Right c.args.m = right c.args.m c.requires in
    (omega arith, (omega arith, flag_limit c.args.m.hasNln c.args.m.nln 4 good'.hasNln (omega arith)))

pub put_calls-b-requires : goal.put_calls-b-requires
put_calls-b-requires c =
    let good' : Right c.args.m = right c.args.m c.requires in
    let flagged-near' : c.put_flagged-a.result.at ≤ 3 = omega (arith, c.put_flagged-a.ensures.1) in
    (good'.few, (omega (arith, flagged-near'), calls-right c.args.m good'))

pub put_release6-c-requires : goal.put_release6-c-requires
put_release6-c-requires c =
    let good' : Right c.args.m = right c.args.m c.requires in
    let flagged-near' : c.put_flagged-a.result.at ≤ 3 = omega (arith, c.put_flagged-a.ensures.1) in
    let calls_near' : c.put_calls-b.result.at ≤ 548 = omega (arith, flagged-near', c.put_calls-b.ensures.1) in
    (omega (arith, calls_near'), range6 c.args.m.release6 good'.six)

pub put_release7-requires : goal.put_release7-requires
put_release7-requires c =
    let good' : Right c.args.m = right c.args.m c.requires in
    let flagged-near' : c.put_flagged-a.result.at ≤ 3 = omega (arith, c.put_flagged-a.ensures.1) in
    let calls_near' : c.put_calls-b.result.at ≤ 548 = omega (arith, flagged-near', c.put_calls-b.ensures.1) in
    let six-near' : c.put_release6-c.result.at ≤ 1050 = omega (arith, calls_near', c.put_release6-c.ensures.1) in
    (omega (arith, six-near'), range7 c.args.m.release7 good'.seven)

pub returns : goal.returns
unfolding form notification group_call
returns c =
    let v = value_of c.args.m in
    inks-from c.none.ensures
    (inks-both (opt (num 2)) (list group_call ⨟ release (format release6) ⨟ release (format release7)) v.0 v.1 c.put_flagged-a.ensures.0
    (inks-both (list group_call) (release (format release6) ⨟ release (format release7)) v.1.0 v.1.1 c.put_calls-b.ensures.0
    (inks-both (release (format release6)) (release (format release7)) v.1.1.0 v.1.1.1 c.put_release6-c.ensures.0 c.put_release7.ensures)))
