-- The promises of specs/Promises. Assumes nothing.
use mathlib.Core.Path.{◌≡◌, refl, sym, ap, ◌∙◌}
use mathlib.Core.List.{List, [], ◌∷◌, ◌++◌, flatten}
use mathlib.Core.Bool.{Bool, true, false}
use Prim.Native.Nat.{ℕ}
use lib.ListN.{length}
use lib.Dec.{eqb}
use borrow.Author.Tests.{eqb-false, eq-eqb}
use Rattle.bits.specs.Field.{pick}
use Rattle.csn1.specs.declared.Refusal.{Refusal}
use Rattle.csn1.specs.Told.{code_of}
use Rattle.receiver.specs.declared.Receiver.{Receiver}
use Rattle.receiver.specs.declared.Answer.{Answer}
use Rattle.receiver.specs.Model.{started_of}
use Rattle.receiver.specs.Channels.{Channel}
use Rattle.receiver.specs.Step.{Event, refusal_of, refused_with, step_of}
use Rattle.isolation.specs.One.{hears, Said, fresh}
use Rattle.isolation.specs.Calls.{timer_of, set_under, channel_in, Reply, reply_by}
use Rattle.isolation.specs.Promises.{under, answers_on, answers_each, after, reply_of}
use Rattle.receiver.proofs.Cases.{by-test}
use Rattle.receiver.proofs.Refusals.{refusal-sound}
use Rattle.isolation.proofs.Grounds.{refused_as}
use Rattle.isolation.proofs.Isolation.{says_flat}
use Rattle.isolation.proofs.Subscriptions.{same-reply}
use Rattle.isolation.proofs.Promises.{no_call_disturbs_another_at_any_event, the_answer_is_the_calls}
use Rattle.layout.specs.Layout.{state_length, decode_of, last_of}
use Rattle.lent.specs.Events.{Fed, Returned, event_code, answered}
use Rattle.lent.specs.Promises.{Run, heard, read_under, read_each, left_after, shown, NoCallDisturbsAnotherInOctets, NoCallDisturbsAnotherAtAnyEventInOctets}
use Rattle.lent.specs.Promises.{TheAnswerIsTheCallsInOctets, ARefusedEventLeavesTheOctets, TheLengthStays, FedDetermines, AResultTellsNumberAndBit}
use Rattle.lent.specs.Promises.{blanked_last, MoreSubscriptionsSameAnswersInOctets}
use Rattle.layout.proofs.Setting.{set-started, set-length}
use Rattle.lent.proofs.Feeding.{refused-step, length-after, refused-stays}

-- what is heard of an answer is what the receiver by value answers
heard-is : (key : ℕ) (c : Channel) (e : Event) (a : Answer) → heard key c e (answered a) ≡ answers_on key c e a
unfolding heard answers_on
heard-is key c e a = refl

-- a refused event is answered with nothing
not_answered : (key : ℕ) (c : Channel) (r : Receiver) (w : Refusal) (e : Event) → answers_on key c e (refused_with r w) ≡ []
unfolding answers_on under
not_answered key c r w e = either (hears c (channel_in e))
  where
    either : (b : Bool) → ◌≡◌ {A = List Said} (pick b [] []) []
    either true = refl
    either false = refl

-- one event: what is heard, and the receiver that is read afterwards
module _ (l : List ℕ) (whole : length l ≡ state_length) (e : Event) (a : Returned) (f : Fed l e a.octets a.code) where
  step-heard : (key : ℕ) (c : Channel) → pick (eqb a.code 0) (heard key c e (last_of a.octets)) [] ≡ answers_on key c e (step_of (decode_of l) e)
  step-heard key c =
      by-test (eqb (event_code l e) 0)
      (λ p.
      let b : eqb a.code 0 ≡ true = ap (λ n. eqb n 0) f.number ∙ p in
      let q : last_of a.octets ≡ answered (step_of (decode_of l) e) = f.answer ∙ rw p in
      rw (b, q) (heard-is key c e (step_of (decode_of l) e)))
      (λ p.
      let b : eqb a.code 0 ≡ false = ap (λ n. eqb n 0) f.number ∙ p in
      rw (b, refused-step l e whole (eqb-false (event_code l e) 0 p)) (sym (not_answered key c (decode_of l) (refusal_of (decode_of l) e) e)))

  step-receiver : decode_of a.octets ≡ (step_of (decode_of l) e).receiver
  step-receiver =
      by-test (eqb (event_code l e) 0) (λ p. f.receiver ∙ rw p) (λ p. f.receiver ∙ rw (p, refused-step l e whole (eqb-false (event_code l e) 0 p)))

  step-length : length a.octets ≡ state_length
  step-length = ap length f.octets ∙ length-after l e ∙ whole

run-heard : (key : ℕ) (c : Channel) (l : List ℕ) → length l ≡ state_length → (es : List Event) (run : List Returned) → Run l es run → read_each key c es run ≡ answers_each key c (decode_of l) es
unfolding read_each answers_each step_of
run-heard key c l whole [] [] u = refl
run-heard key c l whole [] (a ∷ rest) u = absurd u
run-heard key c l whole (e ∷ es) [] u = absurd u
run-heard key c l whole (e ∷ es) (a ∷ rest) u =
    rw (step-heard l whole e a u.0 key c, ← step-receiver l whole e a u.0)
    (ap (λ (r : List (List Said)). answers_on key c e (step_of (decode_of l) e) ∷ r) (run-heard key c a.octets (step-length l whole e a u.0) es rest u.1))

-- all in one list
read_flat : (key : ℕ) (c : Channel) (es : List Event) (run : List Returned) → flatten (read_each key c es run) ≡ read_under key c es run
unfolding read_each read_under flatten
read_flat key c [] rest = refl
read_flat key c (e ∷ es) [] = refl
read_flat key c (e ∷ es) (a ∷ rest) = ap (λ (l : List Said). pick (eqb a.code 0) (heard key c e (last_of a.octets)) [] ++ l) (read_flat key c es rest)

-- a run leaves a state, of the receiver after its events
run-after : (l : List ℕ) → length l ≡ state_length → (es : List Event) (run : List Returned) → Run l es run
    → (length (left_after l run) ≡ state_length) × (decode_of (left_after l run) ≡ after (decode_of l) es)
unfolding after
run-after l whole [] [] u = (whole, refl)
run-after l whole [] (a ∷ rest) u = absurd u
run-after l whole (e ∷ es) [] u = absurd u
run-after l whole (e ∷ es) (a ∷ rest) u =
    let q = run-after a.octets (step-length l whole e a u.0) es rest u.1 in
    (q.0, q.1 ∙ ap (λ (r : Receiver). after r es) (step-receiver l whole e a u.0))

code_is : (l : List ℕ) (e : Event) → length l ≡ state_length → event_code l e ≡ code_of (step_of (decode_of l) e).refusal
unfolding event_code
code_is l e whole = rw (eq-eqb (length l) state_length whole) (sym (ap code_of (refused_as (decode_of l) e)))

pub no_call_disturbs_another_at_any_event_in_octets : NoCallDisturbsAnotherAtAnyEventInOctets
no_call_disturbs_another_at_any_event_in_octets l s keys sets left set t key h c es run ts u =
    let z : (started_of s keys sets).refusal.number ≡ 0 = set-started l s keys sets (sym set.number) in
    run-heard key c left (set-length l s keys sets left set) es run u
    ∙ ap (λ (r : Receiver). answers_each key c r es) (set.receiver refl)
    ∙ no_call_disturbs_another_at_any_event s keys sets t z key h c es ts

pub no_call_disturbs_another_in_octets : NoCallDisturbsAnotherInOctets
no_call_disturbs_another_in_octets l s keys sets left set t key h c es run ts u =
    sym (read_flat key c es run) ∙ ap flatten (no_call_disturbs_another_at_any_event_in_octets l s keys sets left set t key h c es run ts u)
    ∙ says_flat key c (timer_of c s) (set_under keys sets key) fresh s.tick es

pub the_answer_is_the_calls_in_octets : TheAnswerIsTheCallsInOctets
the_answer_is_the_calls_in_octets l s keys sets left set t es run ts u e k a f =
    let z : (started_of s keys sets).refusal.number ≡ 0 = set-started l s keys sets (sym set.number) in
    let w = run-after left (set-length l s keys sets left set) es run u in
    let v : reply_of (step_of (decode_of (left_after left run)) e) ≡ reply_by s es e keys sets =
    ap (λ (r : Receiver). reply_of (step_of r e)) (w.1 ∙ ap (λ (r : Receiver). after r es) (set.receiver refl)) ∙ the_answer_is_the_calls s keys sets t z es ts e k in (
      f.number ∙ code_is (left_after left run) e w.0 ∙ ap (λ (y : Reply). code_of y.refusal) v,
      λ n. f.answer ∙ rw (eq-eqb (event_code (left_after left run) e) 0 (sym f.number ∙ n)) (ap shown v),
    )

pub a_refused_event_leaves_the_octets : ARefusedEventLeavesTheOctets
a_refused_event_leaves_the_octets = refused-stays

pub the_length_stays : TheLengthStays
the_length_stays = length-after

pub fed_determines : FedDetermines
fed_determines l e a b m n f g = (f.octets ∙ sym g.octets, f.number ∙ sym g.number)

pub a_result_tells_number_and_bit : AResultTellsNumberAndBit
unfolding event_code
a_result_tells_number_and_bit l e whole =
    let s = refusal-sound (decode_of l) e in
    rw (eq-eqb (length l) state_length whole) ((s.number, s.bit))

pub more_subscriptions_same_answers_in_octets : MoreSubscriptionsSameAnswersInOctets
more_subscriptions_same_answers_in_octets s keys sets more others t w l left m right set reset es run again ts u v e k a b f g =
    let x = the_answer_is_the_calls_in_octets l s keys sets left set t es run ts u e k a f in
    let y = the_answer_is_the_calls_in_octets m s more others right reset t es again ts v e k b g in
    let q = same-reply keys sets more others w s es e in
    let c : a.code ≡ b.code = x.0 ∙ ap (λ (r : Reply). code_of r.refusal) q ∙ sym y.0 in (
      c,
      λ n.
          ap (blanked_last keys more) (x.1 n) ∙ ap shown q ∙ sym (ap (blanked_last keys more) (y.1 (sym c ∙ n))),
    )
