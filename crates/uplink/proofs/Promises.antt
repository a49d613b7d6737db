-- The promises of specs/Promises, proved. Assumes nothing.
use mathlib.Core.Path.{◌≡◌, refl, sym, ap, ◌∙◌}
use mathlib.Core.Bool.{Bool, true, false}
use mathlib.Core.Logic.{inl, inr, ⊎_elim}
use mathlib.Core.List.{List, [], ◌∷◌, ◌++◌}
use Prim.Native.Nat.{ℕ, ◌<◌}
use native.Mathlib.Omega.{arith}
use lib.Dec.{leb, ltb}
use borrow.Author.Tests.{leb-true, lt-ltb, le-ltb, le-leb, lt-leb}
use Rattle.bits.proofs.Answers.{both_true}
use Rattle.clock.specs.Clock.{wrap_sub, late}
use Rattle.uplink.specs.declared.Uplink.{Uplink}
use Rattle.uplink.specs.declared.Answer.{Answer}
use Rattle.uplink.specs.declared.Setup.{Setup}
use Rattle.uplink.specs.declared.End.{End}
use Rattle.uplink.specs.declared.Told.{Told}
use Rattle.uplink.specs.Uplink.{Event, longest, passed, asked_for, told_of, asking, with_times, after_signal, step_of, started_of}
use Rattle.uplink.specs.History.{moments, last_tick, past_of, is_free}
use Rattle.uplink.specs.Promises.{after, reply_of, reply_to, replies_from, AReplyAndAnUplinkAreAnAnswer, TheAnswerFollowsFromTheHistory, Asks, at_once, ends_in}
use Rattle.uplink.specs.Promises.{outcomes, EachRequestEndsExactlyOnce, NothingEndsThatDoesNotWait, FreeThen}
use Rattle.uplink.specs.Promises.{ARequestIsGrantedExactlyWhen, ARequestIsRejectedExactlyWhen, ARefusedEventChangesNothing, AnEventIsRefusedExactlyByTheClock, ASetupIsRefusedExactlyByItsTimer}
use Rattle.uplink.proofs.Tests.{by_clock, by_time}
use Rattle.uplink.proofs.Sums.{Left, late-step, timely-step, asks, asks-free, left_after, timer-right, started, left-started, answer-is, free_now, timer-same}
use Rattle.uplink.proofs.Fates.{fate, fate-none, asked_waiting, asked_granted, asked-again, ends_are}
use Rattle.uplink.proofs.Splits.{fate_once, granted_when, freed_grants, rejected_when, over_rejects, free-when, freed-is_free}

-- ## 1

pub a_reply_and_an_uplink_are_an_answer : AReplyAndAnUplinkAreAnAnswer
a_reply_and_an_uplink_are_an_answer a b p q = λ i. record { refusal = (p i).refusal; «end» = (p i).end; told = (p i).told; uplink = q i }

pub the_answer_follows_from_the_history : TheAnswerFollowsFromTheHistory
the_answer_follows_from_the_history = answer-is

-- ## 2

-- after one event more
pub after_one : (u : Uplink) (es : List Event) (e : Event) → after u (es ++ (e ∷ [])) ≡ (step_of (after u es) e).uplink
unfolding after
after_one u [] e = refl
after_one u (x ∷ es) e = after_one (step_of u x).uplink es e

module _ (s : Setup) (es : List Event) (e : Event) (fs : List Event) (a : Asks s es e) where
  abbrev u : Uplink
  u = after (started_of s).uplink es

  abbrev p : Uplink
  p = passed u e.tick

  left : Left s.t3128 (last_tick s es) (past_of s es) u
  left = left_after s.t3128 es s.tick [] (started_of s).uplink (left-started s a.right)

  in_time : late e.tick u.tick ≡ false
  in_time =
      by_clock e.tick u.tick
      (λ q. absurd (let z : ◌≡◌ {A = ℕ} 9 0 = sym (ap (λ (x : Answer). x.refusal) (late-step u e q)) ∙ a.accepted in omega arith)) (λ q. q)

  told_is : (reply_to s es e).told ≡ asked_for p.free p.wait
  unfolding told_of
  told_is = ap (λ (x : Answer). x.told) (timely-step u e in_time) ∙ ap (told_of p.free p.wait) a.request

  left_is : after (started_of s).uplink (es ++ (e ∷ [])) ≡ asking p
  unfolding after_signal
  left_is = after_one (started_of s).uplink es e ∙ ap (λ (x : Answer). x.uplink) (timely-step u e in_time) ∙ ap (after_signal p) a.request

  none-waits : p.wait ≡ 0
  none-waits = by_time p.wait (λ h. h) (λ h. absurd (a.own (told_is ∙ asked-again p h)))

  -- what a request is given is what it is told, and then its fate
  given_is : (t : Told) (v : Uplink) → asked_for p.free p.wait ≡ t → asking p ≡ v → outcomes s es e fs ≡ at_once t ++ fate v.wait (moments v.tick fs)
  given_is t v x y =
      ap (λ (z : Told). at_once z ++ ends_in (replies_from (after (started_of s).uplink (es ++ (e ∷ []))) fs)) (told_is ∙ x)
      ∙ ap (λ (w : Uplink). at_once t ++ ends_in (replies_from w fs)) (left_is ∙ y)
      ∙ ap (λ (l : List End). at_once t ++ l) (ends_are fs v)

  abbrev free : Bool
  free = is_free (wrap_sub e.tick (last_tick s es)) (past_of s es)

  -- granted at once, or with all of T3128 before it
  by-free : {P : Type 0} → (free ≡ true → outcomes s es e fs ≡ End.Granted ∷ [] → P) → (free ≡ false → outcomes s es e fs ≡ fate s.t3128 (moments e.tick fs) → P) → P
  unfolding passed
  by-free f g =
      let is : free ≡ ltb 0 p.free = free_now s.t3128 (last_tick s es) (past_of s es) u left e.tick in
      by_time p.free
      (λ k. g (is ∙ le-ltb 0 p.free (omega arith))
      (given_is Told.Waiting (with_times p p.free p.t3128) (asked_waiting p none-waits k) (asks p none-waits k)
      ∙ ap (λ (t : ℕ). fate t (moments e.tick fs)) (timer-same s.t3128 (last_tick s es) (past_of s es) u left e.tick)))
      (λ k. f (is ∙ lt-ltb 0 p.free k)
      (given_is Told.Granted p (asked_granted p none-waits k) (asks-free p k)
      ∙ ap (λ (w : ℕ). End.Granted ∷ fate w (moments p.tick fs)) none-waits
      ∙ ap (λ (l : List End). End.Granted ∷ l) (fate-none (moments p.tick fs))))

  long : 0 < s.t3128
  long = leb-true 1 s.t3128 (both_true (leb 1 s.t3128) (leb s.t3128 longest) (timer-right s a.right)).0

  busy : free ≡ false → FreeThen s es e → ⊥
  busy q f = let x : false ≡ true = sym q ∙ freed-is_free (past_of s es) (wrap_sub e.tick (last_tick s es)) f in let z : ◌≡◌ {A = ℕ} 0 1 = cc in omega arith

pub each_request_ends_exactly_once : EachRequestEndsExactlyOnce
each_request_ends_exactly_once s es e fs a =
    by-free s es e fs a (λ q o. inl o)
    (λ q o.
    ⊎_elim (λ x. inl (o ∙ x)) (λ y. ⊎_elim (λ x. inr (inl (o ∙ x))) (λ x. inr (inr (o ∙ x.0, x.1))) y)
    (fate_once (moments e.tick fs) s.t3128 (long s es e fs a)))

pub nothing_ends_that_does_not_wait : NothingEndsThatDoesNotWait
unfolding after
nothing_ends_that_does_not_wait s p fs =
    ends_are fs (started_of s).uplink ∙ ap (λ (u : Uplink). fate u.wait (moments u.tick fs)) (started s p) ∙ fate-none (moments s.tick fs)

-- ## 3

pub a_request_is_granted_exactly_when : ARequestIsGrantedExactlyWhen
a_request_is_granted_exactly_when s es e fs a =
    by-free s es e fs a (λ q o. (λ x. inl (free-when (past_of s es) (wrap_sub e.tick (last_tick s es)) q), λ x. o))
    (λ q o. (
      λ x. inr (granted_when (moments e.tick fs) s.t3128 (long s es e fs a) (sym o ∙ x)),
      ⊎_elim (λ f. absurd (busy s es e fs a q f)) (λ f. o ∙ freed_grants (moments e.tick fs) s.t3128 f),
    ))

pub a_request_is_rejected_exactly_when : ARequestIsRejectedExactlyWhen
a_request_is_rejected_exactly_when s es e fs a =
    by-free s es e fs a
    (λ q o. (
      λ x. absurd (let y : End.Granted ∷ [] ≡ End.Rejected ∷ [] = sym o ∙ x in let z : ◌≡◌ {A = ℕ} 0 1 = cc in omega arith),
      λ x. absurd (x.0 (free-when (past_of s es) (wrap_sub e.tick (last_tick s es)) q)),
    ))
    (λ q o. (
      λ x. (busy s es e fs a q, rejected_when (moments e.tick fs) s.t3128 (long s es e fs a) (sym o ∙ x)),
      λ x. o ∙ over_rejects (moments e.tick fs) s.t3128 (long s es e fs a) x.1,
    ))

-- ## 4

pub a_refused_event_changes_nothing : ARefusedEventChangesNothing
a_refused_event_changes_nothing u e z =
    by_clock e.tick u.tick (λ q. ap (λ (x : Answer). x.uplink) (late-step u e q)) (λ q. absurd (z (ap (λ (x : Answer). x.refusal) (timely-step u e q))))

pub an_event_is_refused_exactly_by_the_clock : AnEventIsRefusedExactlyByTheClock
unfolding late
an_event_is_refused_exactly_by_the_clock u e = (
  λ h. ap reply_of (late-step u e (le-leb 2147483648 (wrap_sub e.tick u.tick) h)),
  λ h. ap (λ (x : Answer). x.refusal) (timely-step u e (lt-leb 2147483648 (wrap_sub e.tick u.tick) h)),
)

pub a_setup_is_refused_exactly_by_its_timer : ASetupIsRefusedExactlyByItsTimer
unfolding started_of
a_setup_is_refused_exactly_by_its_timer s = (
  λ h. rw (le-leb 1 s.t3128 h.0, le-leb s.t3128 60000 h.1),
  ⊎_elim (λ h. rw (lt-leb 1 s.t3128 h))
      (λ h. rw (le-leb 1 s.t3128 (omega arith), lt-leb s.t3128 60000 h)),
)
