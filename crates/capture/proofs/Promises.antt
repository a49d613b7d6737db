-- The promises of specs/Promises. Assumes nothing.
use Rattle.std.proofs.Common.{◌≡◌, ℕ, ◌+◌, List, [], ◌∷◌, ◌++◌, length, sym, refl, ap, ◌∙◌, arith, le-leb}
use Rattle.receiver.proofs.Cases.{by-test}
use Rattle.capture.specs.declared.Phase.{Phase}
use Rattle.capture.specs.declared.Phase.TheVariants.{Before, Running, Over}
use Rattle.capture.specs.declared.Replay.{Replay}
use Rattle.capture.specs.declared.Fed.{Fed}
use Rattle.capture.specs.declared.Mended.{Mended}
use Rattle.capture.specs.Capture.{parts_of}
use Rattle.layout.specs.Octets.{tabulate}
use Rattle.capture.specs.Replay.{keys_count, key_in, sorted, keys_of, Stage, before, running, over, header, replay_of}
use Rattle.capture.specs.Machine.{Machine, stage_in, machine_of, most_text, has_room, took_one, with_text, Taken, fed_by, begun}
use Rattle.capture.specs.Promises.{HoweverItIsCutTheReplayIsTheSame, ACallWithRoomTakesSomething, ACallTakesNoMoreThanItIsOffered, ReplayedDetermines}
use Rattle.capture.specs.Calls.{taken_by}
use Rattle.capture.specs.Mending.{mending_of, mended_one, with_field, have_room, MendTaken, mended_by, lines_of}
use Rattle.capture.specs.Promises.{AMendingCallWithRoomTakesSomething, AMendingCallTakesNoMoreThanItIsOffered, MendFedDetermines}
use Rattle.capture.specs.Promises.{TheAnswersAreTheReceivers, TheTextDeterminesTheAnswers}
use Rattle.capture.specs.Promises.{NoKeyIsLessThanOneBeforeIt, EachKeyIsThereAsOftenAsInTheSetup}
use Rattle.capture.specs.Promises.{HoweverFeedIsCalledTheReplayIsTheSame}
use Rattle.capture.proofs.Calling.{took-all, wrote-all, left-all}
use Rattle.capture.proofs.Order.{ordered_sorted, at_order, times-sorted}
use Rattle.capture.proofs.Runs.{calls-text, calls-after}
use Rattle.capture.proofs.Wholes.{holds-none, run-text}
use Rattle.capture.proofs.Framing.{answers_are}
use Rattle.capture.proofs.Printing.{text_determines}

pub however_it_is_cut_the_replay_is_the_same : HoweverItIsCutTheReplayIsTheSame
unfolding replay_of parts_of
however_it_is_cut_the_replay_is_the_same kept state h calls =
    let m : Machine = machine_of begun kept state in
    let s : List ℕ = taken_by m calls in
    rw (calls-text m calls, calls-after m calls) (ap (λ (t : List ℕ). header ++ t) (run-text s (length s) [] m (holds-none kept h) refl (omega arith)))

pub however_feed_is_called_the_replay_is_the_same : HoweverFeedIsCalledTheReplayIsTheSame
however_feed_is_called_the_replay_is_the_same kept state h calls run u =
    rw (wrote-all begun kept state calls run u, left-all begun kept state calls run u, took-all begun kept state calls run u) (however_it_is_cut_the_replay_is_the_same kept state h calls)

pub a_call_with_room_takes_something : ACallWithRoomTakesSomething
unfolding fed_by
a_call_with_room_takes_something m [] l h r = absurd (omega arith)
a_call_with_room_takes_something m (o ∷ s) l h r = rw (le-leb (l.at + most_text) (length l.octets) r) (omega arith)

pub a_call_takes_no_more_than_it_is_offered : ACallTakesNoMoreThanItIsOffered
unfolding fed_by
a_call_takes_no_more_than_it_is_offered m [] l = omega arith
a_call_takes_no_more_than_it_is_offered m (o ∷ s) l =
    by-test (has_room l) (λ p. rw p (omega (arith, a_call_takes_no_more_than_it_is_offered (took_one m o) s (with_text m o l)))) (λ p. rw p (omega arith))

phase_of : Stage → Phase
phase_of before = Before
phase_of (running r) = Running
phase_of over = Over

phase_is : (p : Phase) (l : List ℕ) → phase_of (stage_in p l) ≡ p
unfolding phase_of
phase_is Before l = refl
phase_is Running l = refl
phase_is Over l = refl

made : ℕ → Phase → ℕ → ℕ → ℕ → Fed
made n p got taken at = record { replay = record { number = n; phase = p; got = got }; taken = taken; at = at }

same-fed : (f g : Fed) → f.replay.number ≡ g.replay.number → f.replay.phase ≡ g.replay.phase → f.replay.got ≡ g.replay.got → f.taken ≡ g.taken → f.at ≡ g.at → f ≡ g
unfolding made
same-fed f g n p o t a =
    ap (λ (x : ℕ). made x f.replay.phase f.replay.got f.taken f.at) n ∙ ap (λ (x : Phase). made g.replay.number x f.replay.got f.taken f.at) p
    ∙ ap (λ (x : ℕ). made g.replay.number g.replay.phase x f.taken f.at) o ∙ ap (λ (x : ℕ). made g.replay.number g.replay.phase g.replay.got x f.at) t
    ∙ ap (λ (x : ℕ). made g.replay.number g.replay.phase g.replay.got g.taken x) a

pub replayed_determines : ReplayedDetermines
replayed_determines m s l f g kept kept' state state' out out' x y =
    let e = x.taken ∙ sym y.taken in
    let p = sym (phase_is f.replay.phase state) ∙ ap (λ (t : Taken). phase_of t.machine.stage) e ∙ phase_is g.replay.phase state' in (
      same-fed f g (ap (λ (t : Taken). t.machine.number) e) p (ap (λ (t : Taken). t.machine.got) e) (ap (λ (t : Taken). t.taken) e) (ap (λ (t : Taken). t.line.at) e),
      ap (λ (t : Taken). t.machine.kept) e,
      ap (λ (t : Taken). t.machine.state) e,
      ap (λ (t : Taken). t.line.octets) e,
    )

pub the_answers_are_the_receivers : TheAnswersAreTheReceivers
the_answers_are_the_receivers = answers_are

pub the_text_determines_the_answers : TheTextDeterminesTheAnswers
the_text_determines_the_answers = text_determines

pub no_key_is_less_than_one_before_it : NoKeyIsLessThanOneBeforeIt
unfolding keys_of
no_key_is_less_than_one_before_it c i j h k = at_order (sorted (tabulate (key_in c) 0 (keys_count c))) i j (ordered_sorted (tabulate (key_in c) 0 (keys_count c))) h k

pub each_key_is_there_as_often_as_in_the_setup : EachKeyIsThereAsOftenAsInTheSetup
unfolding keys_of
each_key_is_there_as_often_as_in_the_setup c key = times-sorted key (tabulate (key_in c) 0 (keys_count c))

pub a_mending_call_with_room_takes_something : AMendingCallWithRoomTakesSomething
unfolding mended_by
a_mending_call_with_room_takes_something m [] l h r = absurd (omega arith)
a_mending_call_with_room_takes_something m (o ∷ s) l h r = rw r (omega arith)

pub a_mending_call_takes_no_more_than_it_is_offered : AMendingCallTakesNoMoreThanItIsOffered
unfolding mended_by
a_mending_call_takes_no_more_than_it_is_offered m [] l = omega arith
a_mending_call_takes_no_more_than_it_is_offered m (o ∷ s) l =
    by-test (have_room l) (λ p. rw p (omega (arith, a_mending_call_takes_no_more_than_it_is_offered (mended_one m o) s (with_field m o l)))) (λ p. rw p (omega arith))

-- what `feed` answers, from what is taken
answer_of : MendTaken → Mended
answer_of t =
    let r : Machine = t.mending.machine in
    record {
      mend = record { replay = record { number = r.number; phase = phase_of r.stage; got = r.got }; offset = t.mending.offset };
      taken = t.taken;
      copied = t.lines.copy.at;
      listed = t.lines.list.at;
    }

answer-is : (f : Mended) (kept state copy list : List ℕ) → answer_of (record { mending = mending_of f.mend kept state; taken = f.taken; lines = lines_of copy list f }) ≡ f
unfolding answer_of
answer-is f kept state copy list =
    let r : Replay = f.mend.replay in
    ap
    (λ (p : Phase).
    record { mend = record { replay = record { number = r.number; phase = p; got = r.got }; offset = f.mend.offset }; taken = f.taken; copied = f.copied; listed = f.listed })
    (phase_is r.phase state)

pub mendfed_determines : MendFedDetermines
mendfed_determines m s l f g kept kept' state state' copy copy' list list' x y =
    let e = x.taken ∙ sym y.taken in (
      sym (answer-is f kept state copy list) ∙ ap answer_of e ∙ answer-is g kept' state' copy' list',
      ap (λ (t : MendTaken). t.mending.machine.kept) e,
      ap (λ (t : MendTaken). t.mending.machine.state) e,
      ap (λ (t : MendTaken). t.lines.copy.octets) e,
      ap (λ (t : MendTaken). t.lines.list.octets) e,
    )
