-- However a capture is cut, the same is copied and listed; the other promises stand in Mends. Assumes nothing.
use mathlib.Core.Path.{refl}
use mathlib.Core.List.{List, []}
use native.Mathlib.Omega.{arith}
use Prim.Native.Nat.{ℕ}
use lib.ListN.{length}
use Rattle.capture.specs.Capture.{parts_of}
use Rattle.capture.specs.Mend.{mend_of}
use Rattle.capture.specs.Mending.{Mending, mending_of, mend_begun}
use Rattle.capture.proofs.Wholes.{holds-none}
use Rattle.mending.specs.Calls.{mend_taken}
use Rattle.mending.specs.Promises.{HoweverItIsCutTheMendingIsTheSame, HoweverFeedIsCalledTheMendingIsTheSame}
use Rattle.mending.proofs.Runs.{calls-parted, calls-mend_after}
use Rattle.mending.proofs.Wholes.{run_mended}
use Rattle.mending.proofs.Calling.{took-all, wrote-all, left-all}

pub however_it_is_cut_the_mending_is_the_same : HoweverItIsCutTheMendingIsTheSame
unfolding mend_of parts_of
however_it_is_cut_the_mending_is_the_same kept state h calls v =
    let m : Mending = mending_of mend_begun kept state in
    let s : List ℕ = mend_taken m calls in
    rw (calls-parted m calls h, calls-mend_after m calls h) (run_mended s (length s) [] m (holds-none kept h) refl (omega arith) v)

pub however_feed_is_called_the_mending_is_the_same : HoweverFeedIsCalledTheMendingIsTheSame
however_feed_is_called_the_mending_is_the_same kept state h calls run u v =
    let t = took-all mend_begun kept state calls run u in
    rw (wrote-all mend_begun kept state calls run u, left-all mend_begun kept state calls run u, t) (however_it_is_cut_the_mending_is_the_same kept state h calls (rw (← t) v))
