-- The promises of specs/Promises, proved. Assumes nothing.
use mathlib.Core.Path.{◌≡◌, refl, sym, ap, ◌∙◌}
use mathlib.Core.Logic.{inl, inr, ⊎_elim}
use mathlib.Core.List.{List, [], ◌∷◌, ◌++◌}
use Prim.Native.Nat.{ℕ}
use native.Mathlib.Omega.{arith}
use lib.Dec.{eqb}
use lib.ListN.{length}
use Rattle.bits.specs.Field.{pick}
use Rattle.uplink.specs.declared.Uplink.{Uplink}
use Rattle.uplink.specs.declared.End.{End}
use Rattle.uplink.specs.declared.Setup.{Setup}
use Rattle.uplink.specs.Uplink.{Event, step_of, started_of}
use Rattle.uplink.specs.Promises.{after, reply_of, reply_to, replies_from, Asks, at_once, ends_in, outcomes}
use Rattle.uplink.proofs.Promises.{after_one, the_answer_follows_from_the_history, each_request_ends_exactly_once, a_request_is_granted_exactly_when, a_request_is_rejected_exactly_when}
use Rattle.uplink.proofs.Tests.{by_equal}
use Rattle.uplink_lent.specs.State.{uplink_length, uplink_of, octets_of, told_number, result_of, setup_code, setup_octets, code_of, octets_after}
use Rattle.uplink_lent.specs.Promises.{ARefusedSetupLeavesTheOctets, AnAcceptedSetupDoesNotDependOnWhatWasThere, refusal_in}
use Rattle.uplink_lent.specs.Promises.{AResultTellsItsReply, ARefusedEventLeavesTheOctets, TheLengthStays, left_after}
use Rattle.uplink_lent.specs.Promises.{Ticks, TheAnswerFollowsFromTheHistoryInOctets, given_after}
use Rattle.uplink_lent.specs.Promises.{AsksInOctets, EachRequestEndsExactlyOnceInOctets, ARequestIsGrantedExactlyWhenInOctets, ARequestIsRejectedExactlyWhenInOctets}
use Rattle.uplink_lent.proofs.Octets.{length-octets}
use Rattle.uplink_lent.proofs.Calls.{setup_strange, setup_refused, setup_accepted, event_strange, event-refused, event-accepted}
use Rattle.uplink_lent.proofs.Runs.{Reads, code_is, reads-after, setup_size, setup_right, setup_reads}
use Rattle.uplink_lent.proofs.Given.{refusal-told, end-told, request-told, refusal_in_lem, told_in, numbered, given_is}

-- ## 1

module _ (l : List ℕ) (s : Setup) where
  -- what holds of each way that a setup can go
  by_setup : (P : ℕ → List ℕ → Type 0) → ((length l ≡ uplink_length → ⊥) → P 13 l) → (length l ≡ uplink_length → ((started_of s).refusal ≡ 0 → ⊥) → P (started_of s).refusal l)
      → (length l ≡ uplink_length → (started_of s).refusal ≡ 0 → P 0 (octets_of (started_of s).uplink)) → P (setup_code l s) (setup_octets l s)
  by_setup P f g k =
      by_equal (length l) uplink_length
      (λ n. by_equal (started_of s).refusal 0
      (λ p. let w = setup_accepted l s n (started_of s) refl p (octets_of (started_of s).uplink) refl in rw (← w.0, ← w.1) (k n p))
      (λ z. let w = setup_refused l s n (started_of s) refl z in rw (← w.0, ← w.1) (g n z)))
      (λ z. let w = setup_strange l s z in rw (← w.0, ← w.1) (f z))

  setup_leaves : setup_code l s ≡ 0 → octets_of (started_of s).uplink ≡ setup_octets l s
  setup_leaves p = (setup_accepted l s (setup_size l s p) (started_of s) refl (setup_right l s p) (octets_of (started_of s).uplink) refl).1

pub a_refused_setup_leaves_the_octets : ARefusedSetupLeavesTheOctets
a_refused_setup_leaves_the_octets l s =
    by_setup l s (λ (n : ℕ) (o : List ℕ). (n ≡ 0 → ⊥) → o ≡ l) (λ z y. refl) (λ n z y. refl) (λ n p y. absurd (y refl))

same_code : (l l' : List ℕ) → length l ≡ length l' → (s : Setup) → setup_code l s ≡ setup_code l' s
unfolding setup_code
same_code l l' e s = ap (λ (n : ℕ). pick (eqb n uplink_length) (started_of s).refusal 13) e

pub an_accepted_setup_does_not_depend_on_what_was_there : AnAcceptedSetupDoesNotDependOnWhatWasThere
an_accepted_setup_does_not_depend_on_what_was_there l l' e s =
    (same_code l l' e s, λ p. sym (setup_leaves l s p) ∙ setup_leaves l' s (sym (same_code l l' e s) ∙ p))

-- ## 2

pub a_result_tells_its_reply : AResultTellsItsReply
a_result_tells_its_reply r h = (refusal-told r h, (end-told r h, request-told r h))

-- ## 3

module _ (l : List ℕ) (e : Event) where
  reads : length l ≡ uplink_length → Reads l (uplink_of l)
  reads n = record { size = n; uplink = refl }

  -- what holds of each way that an event can go
  by-event : (P : List ℕ → Type 0) → ((refusal_in (code_of l e) ≡ 0 → ⊥) → P l)
      → (length l ≡ uplink_length → refusal_in (code_of l e) ≡ 0 → P (octets_of (step_of (uplink_of l) e).uplink)) → P (octets_after l e)
  by-event P f g =
      by_equal (length l) uplink_length
      (λ n. let a = step_of (uplink_of l) e in
      let code = result_of (reply_of a) in
      by_equal a.refusal 0
      (λ p. rw (← (event-accepted l e n (uplink_of l) a code refl refl refl p (octets_of a.uplink) refl).1) (g n (refusal_in_lem l (uplink_of l) (reads n) e ∙ p)))
      (λ z. rw (← (event-refused l e n (uplink_of l) a code refl refl refl z).1) (f (λ q. z (sym (refusal_in_lem l (uplink_of l) (reads n) e) ∙ q)))))
      (λ z. let w = event_strange l e z in rw (← w.1) (f (λ q. let x : ◌≡◌ {A = ℕ} 13 0 = ap refusal_in w.0 ∙ q in omega arith)))

pub a_refused_event_leaves_the_octets : ARefusedEventLeavesTheOctets
a_refused_event_leaves_the_octets l e z = by-event l e (λ (o : List ℕ). o ≡ l) (λ y. refl) (λ n p. absurd (z p))

pub the_length_stays : TheLengthStays
the_length_stays l e = by-event l e (λ (o : List ℕ). length o ≡ length l) (λ y. refl) (λ n p. length-octets _ ∙ sym n)

-- ## 4

pub the_answer_follows_from_the_history_in_octets : TheAnswerFollowsFromTheHistoryInOctets
the_answer_follows_from_the_history_in_octets l s p h es k e =
    code_is (left_after (setup_octets l s) es) (after (started_of s).uplink es) (reads-after es (setup_octets l s) (started_of s).uplink (setup_reads l s p h) k) e
    ∙ ap result_of (the_answer_follows_from_the_history s (setup_right l s p) es e)

-- ## 5, 6

module _ (l : List ℕ) (s : Setup) (es : List Event) (e : Event) (fs : List Event) (a : AsksInOctets l s es e) (k : Ticks fs) where
  abbrev left : List ℕ
  left = left_after (setup_octets l s) es

  abbrev u : Uplink
  u = after (started_of s).uplink es

  read : Reads left u
  read = reads-after es (setup_octets l s) (started_of s).uplink (setup_reads l s a.right a.first) a.before

  -- it asks of the uplink by value
  asked : Asks s es e
  asked =
      record {
        right = setup_right l s a.right;
        request = a.request;
        accepted = sym (refusal_in_lem left u read e) ∙ a.accepted;
        own = λ q. a.own (told_in left u read e ∙ ap told_number q);
      }

  -- and is given the same
  same : given_after l s es e fs ≡ numbered (outcomes s es e fs)
  same =
      given_is left u read e fs (a.tick, k)
      ∙ ap (λ (v : Uplink). numbered (at_once (reply_to s es e).told ++ ends_in (replies_from v fs))) (sym (after_one (started_of s).uplink es e))

  given_so : (o : List End) → outcomes s es e fs ≡ o → given_after l s es e fs ≡ numbered o
  given_so o p = same ∙ ap numbered p

  -- back: the three ways that there are have other numbers
  granted_so : given_after l s es e fs ≡ 1 ∷ [] → outcomes s es e fs ≡ End.Granted ∷ []
  granted_so p =
      ⊎_elim (λ q. q)
      (⊎_elim (λ q. absurd (let x : 2 ∷ [] ≡ 1 ∷ [] = sym (given_so (End.Rejected ∷ []) q) ∙ p in let z : ◌≡◌ {A = ℕ} 2 1 = cc in omega arith))
      (λ q. absurd (let x : [] ≡ 1 ∷ [] = sym (given_so [] q.0) ∙ p in let z : ◌≡◌ {A = ℕ} 0 1 = cc in omega arith)))
      (each_request_ends_exactly_once s es e fs asked)

  rejected_so : given_after l s es e fs ≡ 2 ∷ [] → outcomes s es e fs ≡ End.Rejected ∷ []
  rejected_so p =
      ⊎_elim (λ q. absurd (let x : 1 ∷ [] ≡ 2 ∷ [] = sym (given_so (End.Granted ∷ []) q) ∙ p in let z : ◌≡◌ {A = ℕ} 1 2 = cc in omega arith))
      (⊎_elim (λ q. q) (λ q. absurd (let x : [] ≡ 2 ∷ [] = sym (given_so [] q.0) ∙ p in let z : ◌≡◌ {A = ℕ} 0 1 = cc in omega arith)))
      (each_request_ends_exactly_once s es e fs asked)

pub each_request_ends_exactly_once_in_octets : EachRequestEndsExactlyOnceInOctets
each_request_ends_exactly_once_in_octets l s es e fs a k =
    ⊎_elim (λ p. inl (given_so l s es e fs a k _ p))
    (⊎_elim (λ p. inr (inl (given_so l s es e fs a k _ p))) (λ p. inr (inr (given_so l s es e fs a k _ p.0, p.1))))
    (each_request_ends_exactly_once s es e fs (asked l s es e fs a k))

pub a_request_is_granted_exactly_when_in_octets : ARequestIsGrantedExactlyWhenInOctets
a_request_is_granted_exactly_when_in_octets l s es e fs a k =
    let w = a_request_is_granted_exactly_when s es e fs (asked l s es e fs a k) in
    (λ p. w.0 (granted_so l s es e fs a k p), λ x. given_so l s es e fs a k _ (w.1 x))

pub a_request_is_rejected_exactly_when_in_octets : ARequestIsRejectedExactlyWhenInOctets
a_request_is_rejected_exactly_when_in_octets l s es e fs a k =
    let w = a_request_is_rejected_exactly_when s es e fs (asked l s es e fs a k) in
    (λ p. w.0 (rejected_so l s es e fs a k p), λ x. given_so l s es e fs a k _ (w.1 x))
