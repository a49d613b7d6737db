-- The promises of specs/Promises. Assumes nothing.
use mathlib.Core.Path.{◌≡◌, refl, sym, ap, ◌∙◌}
use mathlib.Core.List.{List, [], flatten}
use mathlib.Core.Option.{Option}
use Prim.Native.Nat.{ℕ}
use lib.Dec.{eqb}
use lib.ListN.{get_or}
use borrow.Author.Tests.{eqb-false}
use Rattle.csn1.specs.declared.Refusal.{Refusal}
use Rattle.receiver.specs.Model.{no_record, timer_at, swept_slots, expired_of, dropped_of, started_of}
use Rattle.receiver.specs.Entries.{facch_entries}
use Rattle.receiver.specs.Step.{all_after, facch, refusal_of, rule_of, step_of}
use Rattle.isolation.specs.One.{Half, Known, One, Said, sees, seen, spared, passed, known_then, step_said, run_each, one_after, fresh}
use Rattle.isolation.specs.History.{Moment, until_entry, past_of}
use Rattle.isolation.specs.Calls.{timer_of, subscribed, not_ours_of, set_under, Reply, last_tick, call_after}
use Rattle.isolation.specs.Promises.{NoCallDisturbsAnother, NoCallDisturbsAnotherAtAnyEvent}
use Rattle.isolation.specs.Promises.{AnEntryJoinsExactlyWhereTheOppositeHalfIsHeld, WhatIsHeldCameAndStayed, AnEntryJoinsExactlyWhereTheOppositeHalfCameAndStayed, ARefusedEventChangesNothing}
use Rattle.isolation.specs.Promises.{said_at, heard_at, ACallJoinsExactlyWhen, AReplyAndAReceiverAreAnAnswer, TheAnswerIsTheCalls}
use Rattle.isolation.specs.Promises.{TheNumberIsOnItsGround, TheWrappedDifferenceIsTheSum, EveryLostHalfIsCountedOnce, ExpiriesAndDropsAreCountedApart}
use Rattle.isolation.specs.Promises.{TheKeptCountIsThatOfTheHistory, ASetChangesNothingForAnotherCall, APageTouchesNoHalf}
use Rattle.isolation.specs.Promises.{reply_to, entry_no, MoreSubscriptionsSameAnswers, MoreSubscriptionsLeaveTheRestAlone}
use Rattle.isolation.specs.Subscriptions.{blanked}
use Rattle.isolation.proofs.Dropping.{expired-all, dropped-all, lost-all}
use Rattle.receiver.proofs.Cases.{by-test}
use Rattle.isolation.proofs.Joining.{young-aged, young-spared, joins-only, joins-then}
use Rattle.isolation.proofs.Grounds.{refused_as, late-first, in_time, on-ground}
use Rattle.isolation.proofs.History.{came, stayed, one-after, held_after, held_until}
use Rattle.isolation.proofs.Isolation.{isolated, answers_flat, says_flat, viewed, cell-viewed}
use Rattle.isolation.proofs.Calls.{state, said-is, long, not_refused}
use Rattle.isolation.proofs.Replies.{reply}
use Rattle.isolation.proofs.Subscriptions.{same-reply, unheard, in_words}
use Rattle.isolation.proofs.Beginning.{started, starts, started-good, started-set, started-cell, started-view}
use Rattle.isolation.proofs.Kept.{count-among, bit-among}

pub no_call_disturbs_another_at_any_event : NoCallDisturbsAnotherAtAnyEvent
no_call_disturbs_another_at_any_event s keys sets t z key h c es ts =
    rw (starts s keys sets z, ← started-view s keys sets t z key h c, ← started-set s keys sets t z key h c)
    (isolated key c (started s keys sets) (started-good s keys sets t z key h c) es ts)

-- the same in one list
pub no_call_disturbs_another : NoCallDisturbsAnother
no_call_disturbs_another s keys sets t z key h c es ts =
    sym (answers_flat key c (started_of s keys sets).receiver es) ∙ ap flatten (no_call_disturbs_another_at_any_event s keys sets t z key h c es ts)
    ∙ says_flat key c (timer_of c s) (set_under keys sets key) fresh s.tick es

pub the_wrapped_difference_is_the_sum : TheWrappedDifferenceIsTheSum
the_wrapped_difference_is_the_sum s keys sets t z key h c es ts =
    rw (starts s keys sets z, ← started-view s keys sets t z key h c)
    (ap (λ (o : One). o.held) (viewed key c (started s keys sets) (started-good s keys sets t z key h c) es ts))

pub an_entry_joins_exactly_where_the_opposite_half_is_held : AnEntryJoinsExactlyWhereTheOppositeHalfIsHeld
unfolding step_said
an_entry_joins_exactly_where_the_opposite_half_is_held key c timer set long s v k l =
    let h : Option Half = spared key c (passed timer s v.step) v.sight in
    let y = young-spared timer key c (passed timer s v.step) v.sight (young-aged timer v.step s.held) in
    (joins-only c set (known_then s v.sight) timer long h y v.sight.entries k l _ no_record, joins-then c set (known_then s v.sight) timer long h y v.sight.entries k l _ no_record)

pub what_is_held_came_and_stayed : WhatIsHeldCameAndStayed
what_is_held_came_and_stayed key c timer long vs h =
    let q = held_after key c timer vs in
    (λ p. came key c timer long (past_of [] vs) h (sym q ∙ p), λ o. q ∙ stayed key c timer long (past_of [] vs) h o)

pub an_entry_joins_exactly_where_the_opposite_half_came_and_stayed : AnEntryJoinsExactlyWhereTheOppositeHalfCameAndStayed
an_entry_joins_exactly_where_the_opposite_half_came_and_stayed key c timer set long vs v k l =
    let s : One = one_after key c timer fresh vs in
    let past : List Moment = until_entry (past_of [] vs) v k in
    let q = held_until key c timer vs v k in
    let j = an_entry_joins_exactly_where_the_opposite_half_is_held key c timer set long s v k l in (
      λ p.
          let o = j.0 p in
          record { half = o.half; history = came key c timer long past o.half (sym q ∙ o.held); opposite = o.opposite; agrees = o.agrees },
      λ o.
          (j.1 (record {
            half = o.half;
            held = q ∙ stayed key c timer long past o.half o.history;
            young = o.history.young;
            opposite = o.opposite;
            agrees = o.agrees;
          })).0,
    )

pub a_call_joins_exactly_when : ACallJoinsExactlyWhen
a_call_joins_exactly_when s keys sets t z key h c es ts e k n i l =
    let m : (step_of (state s keys sets t z es ts) e).refusal.number ≡ 0 = rw (starts s keys sets z) at n in
    let p = said-is s keys sets t z es ts key h c e k (not_refused (state s keys sets t z es ts) e m) in
    let q : heard_at s keys sets es e key c i ≡ said_at key c (timer_of c s) (set_under keys sets key) (call_after s es key c) (sees key c (last_tick s es) e) i =
    rw (starts s keys sets z) (ap (λ (x : List Said). get_or x i not_ours_of) p) in
    let v = sees key c (last_tick s es) e in
    let timed = long s keys sets t z es ts key h c in
    let j = an_entry_joins_exactly_where_the_opposite_half_came_and_stayed key c (timer_of c s) (set_under keys sets key) timed (seen key c s.tick es) v i l in
    (λ x. j.0 (sym (ap (λ (w : Said). w.number) q) ∙ x), λ o. q ∙ j.1 o)

pub a_refused_event_changes_nothing : ARefusedEventChangesNothing
unfolding step_of
a_refused_event_changes_nothing r e n =
    by-test (eqb (refusal_of r e).number 0) (λ p. absurd ((rw p at n) refl)) (λ p. rw p)

pub the_number_is_on_its_ground : TheNumberIsOnItsGround
the_number_is_on_its_ground r e =
    let w = ap (λ (x : Refusal). x.number) (refused_as r e) in
    (λ h. w ∙ late-first r e h, λ h. on-ground e.happening (step_of r e).refusal.number (w ∙ in_time r e h), refused_as r e)

pub every_lost_half_is_counted_once : EveryLostHalfIsCountedOnce
unfolding step_of swept_slots expired_of dropped_of
every_lost_half_is_counted_once r e z =
    by-test (eqb (refusal_of r e).number 0)
    (λ p. rw p (lost-all e.tick (timer_at r) (rule_of r e) 0 r.slots))
    (λ p. absurd (eqb-false (refusal_of r e).number 0 p (rw p at z)))

pub expiries_and_drops_are_counted_apart : ExpiriesAndDropsAreCountedApart
unfolding step_of swept_slots expired_of dropped_of
expiries_and_drops_are_counted_apart r e z =
    by-test (eqb (refusal_of r e).number 0)
    (λ p. rw p (
      expired-all e.tick (timer_at r) (rule_of r e) 0 r.slots,
      dropped-all e.tick (timer_at r) (rule_of r e) 0 r.slots,
    ))
    (λ p. absurd (eqb-false (refusal_of r e).number 0 p (rw p at z)))

pub a_reply_and_a_receiver_are_an_answer : AReplyAndAReceiverAreAnAnswer
a_reply_and_a_receiver_are_an_answer a b p q =
    λ i.
    record {
      refusal = (p i).refusal;
      expired = (p i).expired;
      dropped = (p i).dropped;
      count = (p i).count;
      entries = (p i).entries;
      paged = (p i).paged;
      receiver = q i;
    }

pub the_answer_is_the_calls : TheAnswerIsTheCalls
the_answer_is_the_calls s keys sets t z es ts e k = rw (starts s keys sets z) (reply s keys sets t z es ts e k)

pub the_kept_count_is_that_of_the_history : TheKeptCountIsThatOfTheHistory
the_kept_count_is_that_of_the_history s keys sets t z key c es ts =
    let vs = seen key c s.tick es in
    let q = cell-viewed key c 1 (started s keys sets) fresh (started-cell c) es ∙ ap (λ (o : One). o.cell) (one-after key c 1 vs) in
    rw (starts s keys sets z) (ap (λ (l : Known). l.count) q ∙ count-among (past_of [] vs), ap (λ (l : Known). l.bit) q ∙ bit-among (past_of [] vs))

pub a_set_changes_nothing_for_another_call : ASetChangesNothingForAnotherCall
a_set_changes_nothing_for_another_call s keys sets others t y z key h e c es ts =
    no_call_disturbs_another_at_any_event s keys sets t y key h c es ts
    ∙ ap (λ (n : ℕ). run_each key c (timer_of c s) n fresh s.tick es) e
    ∙ sym (no_call_disturbs_another_at_any_event s keys others t z key h c es ts)

pub a_page_touches_no_half : APageTouchesNoHalf
unfolding step_of all_after facch_entries
a_page_touches_no_half r t s p z =
    by-test (eqb (refusal_of r (facch t s)).number 0)
    (λ q. rw (q, p) (refl, refl, refl))
    (λ q. absurd (eqb-false (refusal_of r (facch t s)).number 0 q (rw q at z)))

pub more_subscriptions_same_answers : MoreSubscriptionsSameAnswers
more_subscriptions_same_answers s keys sets more others t y z w es ts e k =
    ap (blanked keys more) (the_answer_is_the_calls s keys sets t y es ts e k)
    ∙ same-reply keys sets more others w s es e
    ∙ sym (ap (blanked keys more) (the_answer_is_the_calls s more others t z es ts e k))

pub more_subscriptions_leave_the_rest_alone : MoreSubscriptionsLeaveTheRestAlone
more_subscriptions_leave_the_rest_alone s keys sets more others t y z w es ts e k =
    let q = the_answer_is_the_calls s more others t z es ts e k in
    in_words keys more (reply_to s keys sets es e) (reply_to s more others es e) (more_subscriptions_same_answers s keys sets more others t y z w es ts e k)
    (λ j p. ap (λ (a : Reply). (entry_no a j).number) q ∙ unheard s es e more others j (sym (ap (λ (a : Reply). subscribed more (entry_no a j).key) q) ∙ p))
