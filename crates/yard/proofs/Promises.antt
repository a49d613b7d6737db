-- The promises of specs/Promises. Assumes nothing.
use mathlib.Core.Path.{◌≡◌, refl, sym, ap, ap₂, ◌∙◌, subst}
use mathlib.Core.Bool.{Bool, true, false, not}
use mathlib.Core.List.{List, [], ◌∷◌, map}
use mathlib.Core.Option.{Option, none, some}
use Prim.Native.Nat.{ℕ, zero, suc, ◌+◌, ◌^◌, ◌≤◌, ◌<◌}
use native.Mathlib.Omega.{arith}
use lib.Dec.{ltb, eqb}
use lib.ListN.{length, take, get_or, replicate, get_or-eq_default, get_or-map}
use borrow.Author.Tests.{le-ltb, ltb-true, ltb-false, leb-true, eqb-false, eq-eqb, ne_eqb}
use Rattle.bits.specs.Field.{both, pick}
use Rattle.bits.proofs.Answers.{both_true}
use Rattle.csn1.specs.Format.{ground}
use Rattle.csn1.specs.declared.Refusal.{Refusal}
use Rattle.csn1.specs.Told.{as_bit, padded, code_of}
use Rattle.nch.specs.Told.{read_of}
use Rattle.receiver.specs.declared.Answer.{Answer}
use Rattle.receiver.specs.declared.Cell.{Cell}
use Rattle.receiver.specs.declared.Receiver.{Receiver}
use Rattle.receiver.specs.declared.Setup.{Setup}
use Rattle.receiver.specs.declared.Told.{Told}
use Rattle.receiver.specs.declared.Move.TheVariants.{Reselection, Handover, Reconfiguration, LeftIdle}
use Rattle.receiver.specs.Channels.{key_count, onNch, number_of}
use Rattle.receiver.specs.Count.{News, counting}
use Rattle.receiver.specs.Halving.{first_of, rises}
use Rattle.receiver.specs.Model.{no_nln, wrap_sub, keys_of, index_of, swept_slots, started_of}
use Rattle.receiver.specs.Step.{Event, Happening, heardNch, heardFacch, heard_pch, joins, moves, bit_is, passes}
use Rattle.receiver.specs.Step.{no_told, most_entries, all_told, content_of, numbering, cell_after, rule_by, refusal_of, step_of}
use Rattle.receiver.proofs.Accepted.{Low, low}
use Rattle.receiver.proofs.Cases.{by-test}
use Rattle.receiver.proofs.Halving.{as_from-front, rising, no_later}
use Rattle.receiver.proofs.Refusals.{Sound, refusal-sound}
use Rattle.isolation.specs.One.{Said, One, hears, listed_in, nln_seen, seen, sees, accepts, sight_of, step_between, changed, step_one, step_said, one_after}
use Rattle.isolation.specs.Calls.{named}
use Rattle.isolation.specs.Promises.{under, answers_on, Ticks, after, reply_of}
use Rattle.isolation.proofs.Cells.{known}
use Rattle.isolation.proofs.Places.{timer_in}
use Rattle.isolation.proofs.Isolation.{view, set_in, Good, accepted_of, Accepted, accepted, accepts-same, stepped, step-said, step-good, viewed}
use Rattle.isolation.proofs.Beginning.{made, starts, started, started_keys, started-good, started-set, started-view}
use Rattle.lent.proofs.Tellings.{length-all_told}
use Rattle.layout.specs.Layout.{decode_of}
use Rattle.lent.specs.Events.{Returned, event_code}
use Rattle.yard.specs.Yard.{Shown, Yard, call_count, takes, yard_refusal, leaves_all, left_call, all_in, calls_after, accepted_yard, yard_step, Called, called_from, called_in, yard_right}
use Rattle.yard.specs.Octets.{yard_length, inside, yard_of, yard_code, yard_octets, YardFed}
use Rattle.yard.specs.History.{Current, young, latest_in, found, with_call, calls_of, Moment, nln_by, last_nln, clears}
use Rattle.yard.specs.History.{said_to, look_back, moment_of, moments_of, Watch, older, clears_one, watch_step, watch_after, fresh_watch, taken}
use Rattle.yard.specs.Promises.{yard_after, YardRun, left_behind, TheCallsAreThoseOfTheHistory, NoCallDisturbsAnotherInTheYard, ARefusedEventChangesNoYard}
use Rattle.yard.specs.Promises.{ARefusedEventLeavesTheYardOctets, TheOctetsAreTheYardSet, TheReceiverInsideIsTheReceiver, YardFedDetermines, YardSetUpDetermines}
use Rattle.yard.proofs.Currents.{said_in, current, Fits, left-current, left-fits, all-current, all-fits, all_else, length_in-all}
use Rattle.yard.proofs.Feeding.{with_nln, length-yard, at-inside}
use Rattle.yard.proofs.Starting.{set-length}

-- ## Calls by places and calls by keys

is-there : Option Shown → ℕ
is-there none = 0
is-there (some s) = 1

told_named : (t : Told) (key : ℕ) → t.key ≡ key → t ≡ named key (said_in t)
told_named t key e = λ x. record { key = e x; number = t.number; «record» = t.«record»; follow = t.follow; kept = t.kept }

listed : (now : ℕ) (keys : List ℕ) (calls : List (Option Shown)) (f : ℕ → Option Current)
    → length keys ≤ length calls
    → ((i : ℕ) → i < length keys → current now (get_or calls i none) ≡ f (get_or keys i 0))
    → ((i : ℕ) → i < length keys → Fits (get_or keys i 0) now (get_or calls i none))
    → ((i : ℕ) → length keys ≤ i → get_or calls i none ≡ none)
    → called_from now calls ≡ calls_of f keys
unfolding calls_of is-there
listed now [] [] f l s g e = refl
listed now [] (none ∷ cs) f l s g e = listed now [] cs f (omega arith) (λ i h. absurd (omega arith)) (λ i h. absurd (omega arith)) (λ i h. e (suc i) (omega arith))
listed now [] (some c ∷ cs) f l s g e = absurd (omega (arith, ap is-there (e 0 (omega arith))))
listed now (k ∷ ks) [] f l s g e = absurd (omega arith)
listed now (k ∷ ks) (none ∷ cs) f l s g e =
    listed now ks cs f (omega arith) (λ i h. s (suc i) (omega arith)) (λ i h. g (suc i) (omega arith)) (λ i h. e (suc i) (omega arith))
    ∙ ap (λ (x : Option Current). with_call k x (calls_of f ks)) (s 0 (omega arith))
listed now (k ∷ ks) (some c ∷ cs) f l s g e =
    ap₂ (λ (t : Told) (rest : List Called). record { told = t; age = wrap_sub now c.since } ∷ rest) (told_named c.told k (g 0 (omega arith)).0)
    (listed now ks cs f (omega arith) (λ i h. s (suc i) (omega arith)) (λ i h. g (suc i) (omega arith)) (λ i h. e (suc i) (omega arith)))
    ∙ ap (λ (x : Option Current). with_call k x (calls_of f ks)) (s 0 (omega arith))

calls_ext : (keys : List ℕ) (f g : ℕ → Option Current) → ((i : ℕ) → i < length keys → f (get_or keys i 0) ≡ g (get_or keys i 0)) → calls_of f keys ≡ calls_of g keys
unfolding calls_of
calls_ext [] f g e = refl
calls_ext (k ∷ ks) f g e = ap₂ (with_call k) (e 0 (omega arith)) (calls_ext ks f g (λ i h. e (suc i) (omega arith)))

-- ## What a yard set shows under each of its keys

record Shows (keys : List ℕ) (y : Yard) (f : ℕ → Option Current) : Type 0 where
  keyed : keys_of y.receiver ≡ keys
  ticking : y.receiver.tick < 2 ^ 32
  long : length y.calls ≡ call_count
  shown : (i : ℕ) → i < length keys → current y.receiver.tick (get_or y.calls i none) ≡ f (get_or keys i 0)
  fits : (i : ℕ) → i < length keys → Fits (get_or keys i 0) y.receiver.tick (get_or y.calls i none)
  empty : (i : ℕ) → length keys ≤ i → get_or y.calls i none ≡ none

shows_list : (keys : List ℕ) (y : Yard) (f : ℕ → Option Current) → length keys ≤ call_count → Shows keys y f → called_in y ≡ calls_of f keys
unfolding called_in
shows_list keys y f few s = listed y.receiver.tick keys y.calls f (omega (arith, s.long, few)) s.shown s.fits s.empty

shows_as : (keys : List ℕ) (y : Yard) (f g : ℕ → Option Current) → Shows keys y f → ((i : ℕ) → i < length keys → f (get_or keys i 0) ≡ g (get_or keys i 0)) → Shows keys y g
shows_as keys y f g s e =
    record { keyed = s.keyed; ticking = s.ticking; long = s.long; shown = λ i h. s.shown i h ∙ e i h; fits = s.fits; empty = s.empty }

-- ## An accepted event

left-none : (all : Bool) (now : ℕ) → left_call all now none ≡ none
unfolding left_call
left-none true now = refl
left-none false now = refl

left_at : (all : Bool) (now : ℕ) (calls : List (Option Shown)) (i : ℕ) → get_or (map (left_call all now) calls) i none ≡ left_call all now (get_or calls i none)
left_at all now calls i =
    ap (λ (d : Option Shown). get_or (map (left_call all now) calls) i d) (sym (left-none all now)) ∙ get_or-map (left_call all now) calls i none

length-map : {A B : Type 0} (f : A → B) (l : List A) → length (map f l) ≡ length l
length-map f [] = refl
length-map f (a ∷ l) = ap suc (length-map f l)

not_so : false ≡ true → ⊥
not_so z = omega (arith, ap (λ (b : Bool). as_bit b) z)

record Passed (r : Receiver) (e : Event) : Type 0 where
  takes_it : takes e.happening ≡ true
  passed : accepts r.tick e ≡ true

passed_is : (r : Receiver) (e : Event) → eqb (yard_refusal r e).number 0 ≡ true → Passed r e
unfolding yard_refusal ground
passed_is r e p =
    by-test (takes e.happening)
    (λ t. record { takes_it = t; passed = accepts-same r e ∙ rw t at p })
    (λ t. let z : false ≡ true = rw t at p in absurd (not_so z))

module _ (keys : List ℕ) (rise : rises keys ≡ true) (few : length keys ≤ call_count) where
  -- no key has a place behind the keys
  no_place : (i : ℕ) → length keys ≤ i → i < call_count → (k : ℕ) → i ≡ index_of keys k → ⊥
  no_place i h g k e =
      by-test (ltb (first_of keys k) (length keys))
      (λ p. let q : i ≡ first_of keys k = e ∙ as_from-front keys (rising keys rise) k ∙ rw p in omega (arith, q, ltb-true (first_of keys k) (length keys) p))
      (λ p. let q : i ≡ key_count = e ∙ as_from-front keys (rising keys rise) k ∙ rw p in omega (arith, q))

  module _ (y : Yard) (f : ℕ → Option Current) (s : Shows keys y f) (e : Event) (k : e.tick < 2 ^ 32) (p : Passed y.receiver e) where
    abbrev r : Receiver
    r = y.receiver

    abbrev all : Bool
    all = leaves_all r.cell (content_of e.happening).cause

    abbrev ts : List Told
    ts =
        all_told (keys_of r) r.sets (cell_after r.cell (content_of e.happening).cause (content_of e.happening).news) (number_of (content_of e.happening).channel) e.tick
        (swept_slots r e.tick (rule_by r (content_of e.happening).cause)) (content_of e.happening).entries

    abbrev left : List (Option Shown)
    left = map (left_call all e.tick) y.calls

    abbrev next : Yard
    next = record { receiver = (accepted_of r e).receiver; calls = calls_after y e (accepted_of r e) }

    -- what is shown under a key then
    abbrev then : ℕ → Option Current
    then key = found (latest_in (said_to key (reply_of (accepted_of r e)))) 0 (pick all none (older (step_between r.tick e.tick) (f key)))

    has : Accepted r e
    has = accepted r e p.passed

    count-is : length ts ≡ (accepted_of r e).count
    count-is = length-all_told (keys_of r) r.sets _ _ e.tick _ (content_of e.happening).entries

    length-left : length left ≡ call_count
    length-left = length-map (left_call all e.tick) y.calls ∙ s.long

    calls_are : next.calls ≡ all_in keys e.tick left (padded no_told most_entries ts)
    calls_are = ap (λ (ks : List ℕ). all_in ks e.tick left (padded no_told most_entries ts)) s.keyed

    length-next : length next.calls ≡ call_count
    length-next = length_in-all (keys_of r) e.tick (padded no_told most_entries ts) left ∙ length-left

    left-shown : (i : ℕ) → i < length keys → current e.tick (get_or left i none) ≡ pick all none (older (step_between r.tick e.tick) (f (get_or keys i 0)))
    left-shown i h =
        ap (current e.tick) (left_at all e.tick y.calls i)
        ∙ left-current (get_or keys i 0) r.tick e.tick s.ticking k has.short all (get_or y.calls i none) (s.fits i h)
        ∙ ap (λ (x : Option Current). pick all none (older (wrap_sub e.tick r.tick) x)) (s.shown i h)

    then-shown : (i : ℕ) → i < length keys → current e.tick (get_or next.calls i none) ≡ then (get_or keys i 0)
    then-shown i h =
        ap (λ (cs : List (Option Shown)). current e.tick (get_or cs i none)) calls_are
        ∙ all-current keys rise (omega (arith, few)) i h e.tick most_entries ts left (omega (arith, length-left, few, h))
        ∙ ap₂ (λ (n : ℕ) (x : Option Current). found (latest_in (under (get_or keys i 0) (take n (padded no_told most_entries ts)))) 0 x) count-is (left-shown i h)

    then-fits : (i : ℕ) → i < length keys → Fits (get_or keys i 0) e.tick (get_or next.calls i none)
    then-fits i h =
        rw calls_are
        (all-fits keys rise (omega (arith, few)) i h e.tick k (padded no_told most_entries ts) left (omega (arith, length-left, few, h))
        (rw (left_at all e.tick y.calls i) (left-fits (get_or keys i 0) r.tick e.tick s.ticking k has.short all (get_or y.calls i none) (s.fits i h))))

    then-empty : (i : ℕ) → length keys ≤ i → get_or next.calls i none ≡ none
    then-empty i h =
        by-test (ltb i call_count)
        (λ q.
        ap (λ (cs : List (Option Shown)). get_or cs i none) calls_are
        ∙ all_else keys e.tick i (no_place i h (ltb-true i call_count q)) (padded no_told most_entries ts) left
        ∙ left_at all e.tick y.calls i
        ∙ ap (left_call all e.tick) (s.empty i h)
        ∙ left-none all e.tick)
        (λ q. get_or-eq_default next.calls none (omega (arith, length-next, ltb-false i call_count q)))

    shows_next : Shows keys next then
    shows_next =
        record { keyed = s.keyed; ticking = k; long = length-next; shown = then-shown; fits = then-fits; empty = then-empty }

-- ## The last NLN

abbrev nln_known : Cell → Option ℕ
nln_known l = pick (eqb l.nln no_nln) none (some l.nln)

nln-numbering : (l : Cell) (b : Bool) (n : ℕ) (w : News) → Low (numbering b n) → nln_known (cell_after l (numbering b n) w) ≡ pick b (some n) (nln_known l)
nln-numbering l true n w z =
    ap (λ (k : ℕ). pick (eqb k no_nln) none (some k)) (with_nln (record { nln = n; count = l.count; bit = l.bit }) w) ∙ rw (ne_eqb n no_nln (λ q. omega (arith, q, z)))
nln-numbering l false n w z = ap (λ (k : ℕ). pick (eqb k no_nln) none (some k)) (with_nln l w)

nln-step : (l : Cell) (h : Happening) → takes h ≡ true → Low (content_of h).cause → nln_by h (nln_known l) ≡ nln_known (cell_after l (content_of h).cause (content_of h).news)
nln-step l (heardNch s) t z =
    sym (nln-numbering l (read_of s).«record».hasNln (read_of s).«record».nln (counting (read_of s).«record».release6.hasCount (read_of s).«record».release6.cellcount) z)
nln-step l (heardFacch s) t z = absurd (not_so t)
nln-step l (heard_pch ns) t z = absurd (not_so t)
nln-step l (joins k) t z = refl
nln-step l (moves Reselection) t z = refl
nln-step l (moves Handover) t z = absurd (not_so t)
nln-step l (moves Reconfiguration) t z = absurd (not_so t)
nln-step l (moves LeftIdle) t z = absurd (not_so t)
nln-step l (bit_is b) t z = refl
nln-step l passes t z = refl

changed-known : (l : Cell) (n : ℕ) → changed (nln_known l) n ≡ both (not (eqb l.nln no_nln)) (not (eqb l.nln n))
changed-known l n = by-test (eqb l.nln no_nln) (λ p. rw p) (λ p. rw p)

clears-numbering : (l : Cell) (b : Bool) (n : ℕ) → both b (changed (nln_known l) n) ≡ leaves_all l (numbering b n)
clears-numbering l true n = changed-known l n
clears-numbering l false n = refl

clears-step : (l : Cell) (h : Happening) → takes h ≡ true → clears (nln_known l) h ≡ leaves_all l (content_of h).cause
clears-step l (heardNch s) t = clears-numbering l (read_of s).«record».hasNln (read_of s).«record».nln
clears-step l (heardFacch s) t = absurd (not_so t)
clears-step l (heard_pch ns) t = absurd (not_so t)
clears-step l (joins k) t = refl
clears-step l (moves m) t = refl
clears-step l (bit_is b) t = refl
clears-step l passes t = refl

-- ## Looking back from later

young-older : (d age : ℕ) (w : Said) → older d (young age w) ≡ young (age + d) w
young-older d age w = by-test (ltb age 30000) (λ p. rw p) (λ p. rw (p, le-ltb (age + d) 30000 (omega (arith, ltb-false age 30000 p))))

found-older : (x : Option Said) (d age : ℕ) (u v : Option Current) → older d u ≡ v → older d (found x age u) ≡ found x (age + d) v
found-older none d age u v q = q
found-older (some w) d age u v q = young-older d age w

unless_older : (b : Bool) (d : ℕ) (u v : Option Current) → older d u ≡ v → older d (pick b none u) ≡ pick b none v
unless_older true d u v q = refl
unless_older false d u v q = q

older-back : (key d age : ℕ) (ms : List Moment) → older d (look_back key age ms) ≡ look_back key (age + d) ms
unfolding look_back
older-back key d age [] = refl
older-back key d age (m ∷ ms) =
    let q : age + m.step + d ≡ age + d + m.step = omega arith in
    found-older (latest_in (said_to key m.reply)) d age _ _
    (unless_older (clears (last_nln ms) m.happening) d _ _ (older-back key d (age + m.step) ms ∙ ap (λ (n : ℕ). look_back key n ms) q))

-- ## 1. The calls are those of the history

none-all : (n i : ℕ) → get_or (replicate {A = Option Shown} n none) i none ≡ none
none-all zero i = refl
none-all (suc n) zero = refl
none-all (suc n) (suc i) = none-all n i

module _ (keys : List ℕ) (rise : rises keys ≡ true) (few : length keys ≤ call_count) where
  back-next : (y : Yard) (ms : List Moment) → last_nln ms ≡ nln_known y.receiver.cell → (e : Event) → takes e.happening ≡ true → (a : Answer) (key : ℕ)
      → found (latest_in (said_to key (reply_of a))) 0
      (pick (leaves_all y.receiver.cell (content_of e.happening).cause) none (older (step_between y.receiver.tick e.tick) (look_back key 0 ms)))
      ≡ look_back key 0 (record { step = step_between y.receiver.tick e.tick; happening = e.happening; reply = reply_of a } ∷ ms)
  unfolding look_back
  back-next y ms n e t a key =
      ap (found (latest_in (said_to key (reply_of a))) 0)
      (ap₂ (λ (b : Bool) (x : Option Current). pick b none x)
      (sym (ap (λ (o : Option ℕ). clears o e.happening) n ∙ clears-step y.receiver.cell e.happening t))
      (older-back key (step_between y.receiver.tick e.tick) 0 ms))

  abbrev answered_yard : Yard → Event → Answer → Yard
  answered_yard y e a = record { receiver = a.receiver; calls = calls_after y e a }

  history-next : (y : Yard) (ms : List Moment) → Shows keys y (λ key. look_back key 0 ms) → last_nln ms ≡ nln_known y.receiver.cell → (e : Event) → e.tick < 2 ^ 32
      → Passed y.receiver e → Shows keys (accepted_yard y e) (λ key. look_back key 0 (moment_of y.receiver e ∷ ms))
  history-next y ms s n e k p =
      subst
      (λ (a : Answer). Shows keys (answered_yard y e a) (λ key. look_back key 0 (record { step = step_between y.receiver.tick e.tick; happening = e.happening; reply = reply_of a } ∷ ms)))
      (sym (stepped y.receiver e p.passed))
      (shows_as keys (answered_yard y e (accepted_of y.receiver e)) _ _ (shows_next keys rise few y (λ key. look_back key 0 ms) s e k p)
      (λ i h. back-next y ms n e p.takes_it (accepted_of y.receiver e) (get_or keys i 0)))

  nln-next : (r : Receiver) (ms : List Moment) → last_nln ms ≡ nln_known r.cell → (e : Event) → Passed r e → last_nln (moment_of r e ∷ ms) ≡ nln_known (step_of r e).receiver.cell
  unfolding last_nln
  nln-next r ms n e p =
      ap (nln_by e.happening) n
      ∙ nln-step r.cell e.happening p.takes_it (low e.happening (accepted r e p.passed).allowed)
      ∙ sym (ap (λ (a : Answer). nln_known a.receiver.cell) (stepped r e p.passed))

  run-history : (es : List Event) (y : Yard) (ms : List Moment) → Shows keys y (λ key. look_back key 0 ms) → last_nln ms ≡ nln_known y.receiver.cell → Ticks es
      → called_in (yard_after y es) ≡ calls_of (λ key. look_back key 0 (moments_of ms y.receiver es)) keys
  unfolding yard_after moments_of yard_step
  run-history [] y ms s n t = shows_list keys y (λ key. look_back key 0 ms) few s
  run-history (e ∷ es) y ms s n t =
      by-test (eqb (yard_refusal y.receiver e).number 0)
      (λ p.
      let q = passed_is y.receiver e p in
      rw p (run-history es (accepted_yard y e) (moment_of y.receiver e ∷ ms) (history-next y ms s n e t.0 q) (nln-next y.receiver ms n e q) t.1))
      (λ p. rw p (run-history es y ms s n t.1))

right-few : (keys : List ℕ) → yard_right keys ≡ true → length keys ≤ call_count
unfolding yard_right
right-few keys q = leb-true (length keys) call_count (both_true _ _ q).0

-- the yard set at the start shows nothing
module _ (s : Setup) (keys groups : List ℕ) (t : s.tick < 4294967296) (z : (started_of s keys groups).refusal.number ≡ 0) where
  abbrev begun : Yard
  begun = record { receiver = started s keys groups; calls = replicate call_count none }

  shows_none : (f : ℕ → Option Current) → ((key : ℕ) → none ≡ f key) → Shows keys begun f
  shows_none f e =
      record {
        keyed = started_keys s keys groups (made s keys groups z).few;
        ticking = t;
        long = refl;
        shown = λ i h. ap (current s.tick) (none-all call_count i) ∙ e (get_or keys i 0);
        fits = λ i h. rw (none-all call_count i) tt;
        empty = λ i h. none-all call_count i;
      }

  nothing-back : (key : ℕ) → none ≡ look_back key 0 []
  unfolding look_back
  nothing-back key = refl

  nln-none : last_nln [] ≡ nln_known (started s keys groups).cell
  unfolding last_nln
  nln-none = refl

pub the_calls_are_those_of_the_history : TheCallsAreThoseOfTheHistory
the_calls_are_those_of_the_history s keys groups t right z es ts =
    subst
    (λ (r : Receiver). called_in (yard_after (record { receiver = r; calls = replicate call_count none }) es) ≡ calls_of (λ key. look_back key 0 (moments_of [] r es)) keys)
    (sym (starts s keys groups z))
    (run-history keys (made s keys groups z).rising (right-few keys right) es (begun s keys groups t z) []
    (shows_none s keys groups t z (λ key. look_back key 0 []) (nothing-back s keys groups t z)) (nln-none s keys groups t z) ts)

-- ## 2. No call disturbs another

-- the events that are taken are on the NCH, or on no channel
on-nch : (h : Happening) → takes h ≡ true → hears onNch (listed_in h).channel ≡ true
on-nch (heardNch s) t = refl
on-nch (heardFacch s) t = absurd (not_so t)
on-nch (heard_pch ns) t = absurd (not_so t)
on-nch (joins k) t = refl
on-nch (moves m) t = refl
on-nch (bit_is b) t = refl
on-nch passes t = refl

said_all : (key : ℕ) (e : Event) (a : Answer) → takes e.happening ≡ true → answers_on key onNch e a ≡ said_to key (reply_of a)
unfolding answers_on
said_all key e a t = rw (on-nch e.happening t)

one-numbering : (l : Cell) (b : Bool) (n : ℕ) → clears_one (known onNch l) (nln_seen true b n) ≡ leaves_all l (numbering b n)
one-numbering l true n = changed-known l n
one-numbering l false n = refl

clears-one : (key : ℕ) (l : Cell) (h : Happening) → takes h ≡ true → clears_one (known onNch l) (sight_of key onNch h).cause ≡ leaves_all l (content_of h).cause
unfolding sight_of
clears-one key l (heardNch s) t = one-numbering l (read_of s).«record».hasNln (read_of s).«record».nln
clears-one key l (heardFacch s) t = absurd (not_so t)
clears-one key l (heard_pch ns) t = absurd (not_so t)
clears-one key l (joins k) t = refl
clears-one key l (moves m) t = refl
clears-one key l (bit_is b) t = refl
clears-one key l passes t = refl

-- the receiver of one call after one event
one-next : (key : ℕ) (r : Receiver) → Good key onNch r → (e : Event) → e.tick < 2 ^ 32 → accepts r.tick e ≡ true
    → step_one key onNch (timer_in onNch r) (view key onNch r) (sees key onNch r.tick e) ≡ view key onNch (accepted_of r e).receiver
unfolding after one_after seen
one-next key r g e k a = sym (rw a at (viewed key onNch r g (e ∷ []) (k, tt))) ∙ ap (λ (x : Answer). view key onNch x.receiver) (stepped r e a)

module _ (keys : List ℕ) (rise : rises keys ≡ true) (few : length keys ≤ call_count) where
  module _ (y : Yard) (w : ℕ → Watch) (e : Event) (k : e.tick < 2 ^ 32) (p : Passed y.receiver e) where
    abbrev watched : ℕ → Watch
    watched key = watch_step key (timer_in onNch y.receiver) (set_in key y.receiver) (w key) (sees key onNch y.receiver.tick e)

    watch_is : (key : ℕ) → Good key onNch y.receiver → (w key).one ≡ view key onNch y.receiver
        → found (latest_in (said_to key (reply_of (accepted_of y.receiver e)))) 0
        (pick (leaves_all y.receiver.cell (content_of e.happening).cause) none (older (step_between y.receiver.tick e.tick) (w key).current))
        ≡ (watched key).current
    watch_is key g o =
        ap₂ (λ (x : List Said) (b : Bool). found (latest_in x) 0 (pick b none (older (step_between y.receiver.tick e.tick) (w key).current)))
        (sym (said_all key e (accepted_of y.receiver e) p.takes_it)
        ∙ step-said key onNch y.receiver g e k (accepted y.receiver e p.passed)
        ∙ ap (λ (x : One). step_said key onNch (timer_in onNch y.receiver) (set_in key y.receiver) x (sees key onNch y.receiver.tick e)) (sym o))
        (sym (clears-one key y.receiver.cell e.happening p.takes_it)
        ∙ ap (λ (x : One). clears_one x.cell (sight_of key onNch e.happening).cause) (sym o))

    watch_one : (key : ℕ) → Good key onNch y.receiver → (w key).one ≡ view key onNch y.receiver → (watched key).one ≡ view key onNch (accepted_of y.receiver e).receiver
    watch_one key g o =
        ap (λ (x : One). step_one key onNch (timer_in onNch y.receiver) x (sees key onNch y.receiver.tick e)) o ∙ one-next key y.receiver g e k p.passed

  run_watch : (es : List Event) (y : Yard) (w : ℕ → Watch) → Shows keys y (λ key. (w key).current) → ((i : ℕ) → i < length keys → Good (get_or keys i 0) onNch y.receiver)
      → ((i : ℕ) → i < length keys → (w (get_or keys i 0)).one ≡ view (get_or keys i 0) onNch y.receiver) → Ticks es
      → called_in (yard_after y es)
      ≡ calls_of (λ key. (watch_after key (timer_in onNch y.receiver) (set_in key y.receiver) (w key) (seen key onNch y.receiver.tick (taken es))).current) keys
  unfolding yard_after yard_step yard_refusal taken seen watch_after
  run_watch [] y w s g o t = shows_list keys y (λ key. (w key).current) few s
  run_watch (e ∷ es) y w s g o t =
      by-test (eqb (yard_refusal y.receiver e).number 0)
      (λ p.
      let q = passed_is y.receiver e p in
      let n = answered_yard keys rise few y e (accepted_of y.receiver e) in
      rw (p, q.takes_it, q.passed)
      (ap (λ (a : Answer). called_in (yard_after (answered_yard keys rise few y e a) es)) (stepped y.receiver e q.passed)
      ∙ run_watch es n (watched y w e t.0 q)
      (shows_as keys n _ (λ key. (watched y w e t.0 q key).current) (shows_next keys rise few y (λ key. (w key).current) s e t.0 q)
      (λ i h. watch_is y w e t.0 q (get_or keys i 0) (g i h) (o i h)))
      (λ i h. step-good (get_or keys i 0) onNch y.receiver (g i h) e t.0 (accepted y.receiver e q.passed))
      (λ i h. watch_one y w e t.0 q (get_or keys i 0) (g i h) (o i h))
      t.1))
      (λ p.
      by-test (takes e.happening)
      (λ u.
      let a : accepts y.receiver.tick e ≡ false = accepts-same y.receiver e ∙ rw u at p in
      rw (p, u, a) (run_watch es y w s g o t.1))
      (λ u. rw (p, u) (run_watch es y w s g o t.1)))

pub no_call_disturbs_another_in_the_yard : NoCallDisturbsAnotherInTheYard
no_call_disturbs_another_in_the_yard s keys groups t right z es ts =
    let rise = (made s keys groups z).rising in
    let in-keys : (i : ℕ) → i < length keys → first_of keys (get_or keys i 0) < length keys = λ i h. omega (arith, no_later keys i 0 h, h) in
    ap (λ (r : Receiver). called_in (yard_after (record { receiver = r; calls = replicate call_count none }) es)) (starts s keys groups z)
    ∙ run_watch keys rise (right-few keys right) es (begun s keys groups t z) (λ key. fresh_watch) (shows_none s keys groups t z (λ key. none) (λ key. refl))
    (λ i h. started-good s keys groups t z (get_or keys i 0) (in-keys i h) onNch)
    (λ i h. sym (started-view s keys groups t z (get_or keys i 0) (in-keys i h) onNch)) ts
    ∙ calls_ext keys _ _
    (λ i h.
    ap (λ (g : ℕ). (watch_after (get_or keys i 0) s.t3206 g fresh_watch (seen (get_or keys i 0) onNch s.tick (taken es))).current)
    (started-set s keys groups t z (get_or keys i 0) (in-keys i h) onNch))

-- ## 3. A refused event

pub a_refused_event_changes_no_yard : ARefusedEventChangesNoYard
unfolding yard_step
a_refused_event_changes_no_yard y e z = rw (ne_eqb (yard_refusal y.receiver e).number 0 z)

pub a_refused_event_leaves_the_yard_octets : ARefusedEventLeavesTheYardOctets
unfolding yard_octets
a_refused_event_leaves_the_yard_octets l e z = rw (ne_eqb (yard_code l e) 0 z)

-- ## 4. Over octets

pub the_receiver_inside_is_the_receiver : TheReceiverInsideIsTheReceiver
the_receiver_inside_is_the_receiver l e left code f =
    (λ z. f.receiver ∙ rw (eq-eqb (yard_code l e) 0 (sym f.number ∙ z)), λ z. f.octets ∙ a_refused_event_leaves_the_yard_octets l e (λ q. z (f.number ∙ q)))

pub yardfed_determines : YardFedDetermines
yardfed_determines l e a b m n f g = (f.octets ∙ sym g.octets, f.number ∙ sym g.number)

pub yardsetup_determines : YardSetUpDetermines
yardsetup_determines l s keys groups a b m n f g = (f.octets ∙ sym g.octets, f.number ∙ sym g.number)

number-code : (w : Refusal) → Sound w → w.number ≡ 0 → code_of w ≡ 0
unfolding code_of
number-code w s z = rw (s.clean z)

-- what is returned is 0 exactly where the yard set by value does not refuse
refused-both : (l : List ℕ) (e : Event) → length l ≡ yard_length → eqb (yard_code l e) 0 ≡ false → eqb (yard_refusal (yard_of l).receiver e).number 0 ≡ false
unfolding yard_code yard_refusal yard_of event_code ground
refused-both l e w p =
    by-test (takes e.happening)
    (λ t. rw t (ne_eqb (refusal_of (decode_of (inside l)) e).number 0
    (λ q. eqb-false (yard_code l e) 0 p (rw (eq-eqb (length l) yard_length w, t, at-inside l w) (number-code (refusal_of (decode_of (inside l)) e) (refusal-sound (decode_of (inside l)) e) q)))))
    (λ t. rw t)

module _ (l : List ℕ) (w : length l ≡ yard_length) (e : Event) (a : Returned) (f : YardFed l e a.octets a.code) where
  step-yard : yard_of a.octets ≡ yard_step (yard_of l) e
  unfolding yard_step
  step-yard =
      by-test (eqb (yard_code l e) 0) (λ p. f.yard ∙ rw p) (λ p. f.yard ∙ rw (p, refused-both l e w p))

  step-length : length a.octets ≡ yard_length
  step-length = ap length f.octets ∙ length-yard l e w

run-octets : (l : List ℕ) → length l ≡ yard_length → (es : List Event) (run : List Returned) → YardRun l es run → yard_of (left_behind l run) ≡ yard_after (yard_of l) es
unfolding yard_after
run-octets l w [] [] u = refl
run-octets l w [] (a ∷ rest) u = absurd u
run-octets l w (e ∷ es) [] u = absurd u
run-octets l w (e ∷ es) (a ∷ rest) u =
    run-octets a.octets (step-length l w e a u.0) es rest u.1 ∙ ap (λ (y : Yard). yard_after y es) (step-yard l w e a u.0)

pub the_octets_are_the_yard_set : TheOctetsAreTheYardSet
the_octets_are_the_yard_set l s keys groups left u es run v =
    run-octets left (set-length l s keys groups left u) es run v ∙ ap (λ (y : Yard). yard_after y es) (u.yard refl)
