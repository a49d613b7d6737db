-- Elements and their numbers: each comes back from the other. Assumes nothing.
use mathlib.Core.Path.{◌≡◌, refl, sym, ap, ap₂, ◌∙◌}
use mathlib.Core.List.{List, [], ◌∷◌, ◌++◌}
use mathlib.Core.Bool.{Bool, true, not}
use native.Mathlib.Omega.{arith}
use borrow.Author.Tests.{eq-eqb, ne_eqb, le-leb, eqb-true}
use Prim.Native.Nat.{ℕ, ◌+◌, ◌*◌, ◌/◌, ◌%◌, ◌≤◌, ◌<◌}
use lib.Dec.{eqb}
use lib.ListN.{length, get_or, take, drop, replicate, length-append, length-drop, take-append-drop}
use lib.Seq.{take_all, take_at, drop_at, get_or_at, drop-cons}
use Rattle.bits.proofs.Answers.{both_true}
use Rattle.csn1.specs.Told.{is_one, as_bit}
use Rattle.csn1.proofs.Telling.{true-both}
use Rattle.csn1.proofs.Writing.{bit-back, flag-back, flag_lt}
use Rattle.arrays.specs.Limits.{within, flag, octet}
use Rattle.arrays.proofs.Seen.{seen, seen_all}
use Rattle.arrays.proofs.Within.{within-at, within-append}
use Rattle.gcc.specs.MessageType as message-type
use Rattle.gcc.specs.CallReference as call-reference
use Rattle.gcc.specs.CallState as call-state
use Rattle.gcc.specs.Cause as cause
use Rattle.gcc.specs.Talker as talker
use Rattle.gcc.specs.declared.message_type.Kind.{Kind}
use Rattle.gcc.specs.declared.message_type.Kind.TheVariants.{ImmediateSetup, Setup, Connect, Termination, TerminationRequest}
use Rattle.gcc.specs.declared.message_type.Kind.TheVariants.{TerminationReject, Status, GetStatus, SetParameter, ImmediateSetup2, Nothing}
use Rattle.gcc.specs.declared.call_reference.Priority.{Priority}
use Rattle.gcc.specs.declared.call_reference.Priority.TheVariants.{Absent, Reserved, Level4, Level3, Level2, Level1, Level0, LevelB, LevelA}
use Rattle.gcc.specs.declared.call_state.State.{State}
use Rattle.gcc.specs.declared.call_state.State.TheVariants.{U0, U1, U2sl, U3, U4, U5, U0p, U2wr, U2r, U2ws, U2sr, U2nc, Reserved as State-reserved}
use Rattle.gcc.specs.declared.cause.Cause.{Cause}
use Rattle.gcc.specs.declared.cause.Meaning.TheVariants.{Nothing as No-meaning, Specific, Unspecific}
use Rattle.gcc.specs.declared.talker.Priority.{Priority as Talker}
use Rattle.gcc.specs.declared.talker.Priority.TheVariants.{Normal, Privileged, Emergency}
use Rattle.gcc.proofs.Tests.{agree, agree_where}
use Rattle.gcc_numbers.specs.ElementNumbers.{fits, type_most, reference_most, priority_from, state_most, cause_numbers, cause_length}
use Rattle.gcc_numbers.specs.ElementNumbers.{cause_most, cause_holds, cause_fits, cause_from, originator_most, attributes_most, sms_most, talker_most}
use Rattle.gcc_numbers.specs.Promises as promises
use Rattle.gcc_numbers.proofs.CauseNumbers.{meaning_two}

-- ## Numbers of fields

-- what fits n fields is n numbers, each at most the largest of its field
record Held (n : ℕ) (most ns : List ℕ) : Type 0 where
  pub all : seen n (λ k. get_or ns k 0) ≡ ns
  pub each : (k : ℕ) → k < length most → get_or ns k 0 ≤ get_or most k 0

held : (n : ℕ) (most ns : List ℕ) → fits n most ns ≡ true → Held n most ns
held n most ns e =
    let b = both_true (eqb (length ns) n) (within ns most) e in
    record { all = seen_all ns n (eqb-true (length ns) n b.0); each = λ k h. within-at ns most k b.1 h }

-- a flag that is at most 1
flag-held : (n : ℕ) → n ≤ 1 → as_bit (is_one n) ≡ n
flag-held n h = bit-back n (omega arith)

flag-fits : (b : Bool) → as_bit b ≤ 1
flag-fits b = omega (arith, flag_lt b)

-- ## Message type

kind-back : (k : Kind) → (message-type.number_of k ≤ octet) × (message-type.kind_of (message-type.number_of k) ≡ k)
unfolding message-type.kind_of
kind-back ImmediateSetup = (omega arith, refl)
kind-back Setup = (omega arith, refl)
kind-back Connect = (omega arith, refl)
kind-back Termination = (omega arith, refl)
kind-back TerminationRequest = (omega arith, refl)
kind-back TerminationReject = (omega arith, refl)
kind-back Status = (omega arith, refl)
kind-back GetStatus = (omega arith, refl)
kind-back SetParameter = (omega arith, refl)
kind-back ImmediateSetup2 = (omega arith, refl)
kind-back Nothing = (omega arith, refl)

pub a_message_type_is_its_numbers : promises.AMessageTypeIsItsNumbers
unfolding within
a_message_type_is_its_numbers r =
    let k = kind-back r.kind in
    (rw (le-leb (as_bit r.sequence) 1 (flag-fits r.sequence), le-leb (message-type.number_of r.kind) octet k.0), rw (flag-back r.sequence, k.1))

-- only nothing has the number 0
nothing-only : (k : Kind) → message-type.number_of k ≡ 0 → k ≡ Nothing
unfolding message-type.kind_of
nothing-only k e = sym (kind-back k).1 ∙ ap message-type.kind_of e

known-back : (n : ℕ) → n < 256 → not (eqb (message-type.number_of (message-type.kind_of n)) 0) ≡ true → message-type.number_of (message-type.kind_of n) ≡ n
unfolding message-type.kind_of
known-back n h t =
    agree_where (λ k. not (eqb (message-type.number_of (message-type.kind_of k)) 0)) (λ k. message-type.number_of (message-type.kind_of k)) (λ k. k) 256 refl n h t

pub numbers_are_their_message_type : promises.NumbersAreTheirMessageType
unfolding seen
numbers_are_their_message_type ns e g =
    let h = held 2 type_most ns e in
    let k : Kind = message-type.kind_of (get_or ns 1 0) in
    let n = known-back (get_or ns 1 0) (omega (arith, h.each 1 (omega arith))) (rw (ne_eqb (message-type.number_of k) 0 (λ z. g (nothing-only k z)))) in
    rw (flag-held (get_or ns 0 0) (h.each 0 (omega arith)), n) h.all

-- ## Call reference

priority-back : (p : Priority) → (within (call-reference.number_of p / 16 ∷ call-reference.number_of p / 2 % 8 ∷ []) (flag ∷ 7 ∷ []) ≡ true)
    × (call-reference.priority_of (16 * (call-reference.number_of p / 16) + 2 * (call-reference.number_of p / 2 % 8)) ≡ p)
unfolding within call-reference.priority_of
priority-back Absent = (refl, refl)
priority-back Reserved = (refl, refl)
priority-back Level4 = (refl, refl)
priority-back Level3 = (refl, refl)
priority-back Level2 = (refl, refl)
priority-back Level1 = (refl, refl)
priority-back Level0 = (refl, refl)
priority-back LevelB = (refl, refl)
priority-back LevelA = (refl, refl)

pub a_call_reference_is_its_numbers : promises.ACallReferenceIsItsNumbers
unfolding within
a_call_reference_is_its_numbers r h =
    let p = priority-back r.priority in
    (rw (le-leb r.reference 4294967295 h) p.0, rw p.1)

-- only the reserved priority has its number
reserved_only : (p : Priority) → call-reference.number_of p ≡ 16 → p ≡ Reserved
unfolding call-reference.priority_of
reserved_only p e = sym (priority-back p).1 ∙ ap (λ n. call-reference.priority_of (16 * (n / 16) + 2 * (n / 2 % 8))) e

assigned-back : (n : ℕ) → n < 32 → not (eqb (call-reference.number_of (call-reference.priority_of n)) 16) ≡ true → call-reference.number_of (call-reference.priority_of n) ≡ n
unfolding call-reference.priority_of
assigned-back n h t =
    agree_where (λ k. not (eqb (call-reference.number_of (call-reference.priority_of k)) 16)) (λ k. call-reference.number_of (call-reference.priority_of k)) (λ k. k) 32 refl n h t

pub numbers_are_their_call_reference : promises.NumbersAreTheirCallReference
unfolding seen
numbers_are_their_call_reference ns e g =
    let h = held 3 reference_most ns e in
    let b : ℕ = get_or ns 1 0 in
    let c : ℕ = get_or ns 2 0 in
    let p : Priority = priority_from ns in
    let i : b ≤ 1 = h.each 1 (omega arith) in
    let j : c ≤ 7 = h.each 2 (omega arith) in
    let n = assigned-back (16 * b + 2 * c) (omega arith) (rw (ne_eqb (call-reference.number_of p) 16 (λ z. g (reserved_only p z)))) in
    let x : (16 * b + 2 * c) / 16 ≡ b = omega arith in
    let y : (16 * b + 2 * c) / 2 % 8 ≡ c = omega arith in
    rw (n, x, y) h.all

-- ## Call state

state-back : (s : State) → (within (call-state.number_of s ∷ []) state_most ≡ true) × (call-state.state_of (call-state.number_of s) ≡ s)
unfolding within call-state.state_of
state-back U0 = (refl, refl)
state-back U1 = (refl, refl)
state-back U2sl = (refl, refl)
state-back U3 = (refl, refl)
state-back U4 = (refl, refl)
state-back U5 = (refl, refl)
state-back U0p = (refl, refl)
state-back U2wr = (refl, refl)
state-back U2r = (refl, refl)
state-back U2ws = (refl, refl)
state-back U2sr = (refl, refl)
state-back U2nc = (refl, refl)
state-back State-reserved = (refl, refl)

pub a_call_state_is_its_numbers : promises.ACallStateIsItsNumbers
a_call_state_is_its_numbers r = state-back r.state

pub numbers_are_their_call_state : promises.NumbersAreTheirCallState
unfolding seen call-state.state_of
numbers_are_their_call_state ns e =
    let h = held 1 state_most ns e in
    let n = agree (λ k. call-state.number_of (call-state.state_of k)) (λ k. k) 13 refl (get_or ns 0 0) (omega (arith, h.each 0 (omega arith))) in
    rw n h.all

-- ## Half octets

pub an_originator_indication_is_its_numbers : promises.AnOriginatorIndicationIsItsNumbers
unfolding within
an_originator_indication_is_its_numbers r = (rw (le-leb (as_bit r.oi) 1 (flag-fits r.oi)), flag-back r.oi)

pub numbers_are_their_originator_indication : promises.NumbersAreTheirOriginatorIndication
unfolding seen
numbers_are_their_originator_indication ns e =
    let h = held 1 originator_most ns e in
    rw (flag-held (get_or ns 0 0) (h.each 0 (omega arith))) h.all

pub state_attributes_are_their_numbers : promises.StateAttributesAreTheirNumbers
unfolding within
state_attributes_are_their_numbers r =
    let a = r.attributes in (
      rw (le-leb (as_bit a.da) 1 (flag-fits a.da), le-leb (as_bit a.ua) 1 (flag-fits a.ua), le-leb (as_bit a.comm) 1 (flag-fits a.comm), le-leb (as_bit a.oi) 1 (flag-fits a.oi)),
      rw (flag-back a.da, flag-back a.ua, flag-back a.comm, flag-back a.oi),
    )

pub numbers_are_their_state_attributes : promises.NumbersAreTheirStateAttributes
unfolding seen
numbers_are_their_state_attributes ns e =
    let h = held 4 attributes_most ns e in
    rw (
      flag-held (get_or ns 0 0) (h.each 0 (omega arith)),
      flag-held (get_or ns 1 0) (h.each 1 (omega arith)),
      flag-held (get_or ns 2 0) (h.each 2 (omega arith)),
      flag-held (get_or ns 3 0) (h.each 3 (omega arith)),
    )
    h.all

pub sms_indications_are_their_numbers : promises.SmsIndicationsAreTheirNumbers
unfolding within
sms_indications_are_their_numbers r =
    let i = r.indications in
    (rw (le-leb (as_bit i.dc) 1 (flag-fits i.dc), le-leb (as_bit i.gp) 1 (flag-fits i.gp)), rw (flag-back i.dc, flag-back i.gp))

pub numbers_are_their_sms_indications : promises.NumbersAreTheirSmsIndications
unfolding seen
numbers_are_their_sms_indications ns e =
    let h = held 2 sms_most ns e in
    rw (flag-held (get_or ns 0 0) (h.each 0 (omega arith)), flag-held (get_or ns 1 0) (h.each 1 (omega arith))) h.all

talker_back : (p : Talker) → (within (talker.number_of p ∷ []) talker_most ≡ true) × (talker.priority_of (talker.number_of p) ≡ p)
unfolding within talker.priority_of
talker_back Normal = (refl, refl)
talker_back Privileged = (refl, refl)
talker_back Emergency = (refl, refl)

pub a_talker_priority_is_its_numbers : promises.ATalkerPriorityIsItsNumbers
a_talker_priority_is_its_numbers r = talker_back r.priority

pub numbers_are_their_talker_priority : promises.NumbersAreTheirTalkerPriority
unfolding seen talker.priority_of
numbers_are_their_talker_priority ns e =
    let h = held 1 talker_most ns e in
    let n = agree (λ k. talker.number_of (talker.priority_of k)) (λ k. k) 3 refl (get_or ns 0 0) (omega (arith, h.each 0 (omega arith))) in
    rw n h.all

-- ## Cause

pub a_meaning_is_its_numbers : promises.AMeaningIsItsNumbers
a_meaning_is_its_numbers No-meaning No-meaning e = refl
a_meaning_is_its_numbers No-meaning (Specific n) e = absurd (omega (arith, ap (λ l. get_or l 0 0) e))
a_meaning_is_its_numbers No-meaning Unspecific e = absurd (omega (arith, ap (λ l. get_or l 0 0) e))
a_meaning_is_its_numbers (Specific n) No-meaning e = absurd (omega (arith, ap (λ l. get_or l 0 0) e))
a_meaning_is_its_numbers (Specific n) (Specific k) e = ap Specific (ap (λ l. get_or l 1 0) e)
a_meaning_is_its_numbers (Specific n) Unspecific e = absurd (omega (arith, ap (λ l. get_or l 0 0) e))
a_meaning_is_its_numbers Unspecific No-meaning e = absurd (omega (arith, ap (λ l. get_or l 0 0) e))
a_meaning_is_its_numbers Unspecific (Specific n) e = absurd (omega (arith, ap (λ l. get_or l 0 0) e))
a_meaning_is_its_numbers Unspecific Unspecific e = refl

-- the two parts of a cause, one behind the other
abbrev parts : Cause → List ℕ
parts c = (c.count ∷ c.septets) ++ (c.size ∷ c.diagnostics)

length-parts : (c : Cause) → promises.CauseOfOctets c → length (parts c) ≡ 512
length-parts c o = length-append (c.count ∷ c.septets) (c.size ∷ c.diagnostics) ∙ rw (o.septets, o.diagnostics)

parts-fit : (c : Cause) → promises.CauseOfOctets c → within (parts c) cause_most ≡ true
unfolding within cause_most
parts-fit c o =
    within-append (c.count ∷ c.septets) (replicate 256 octet) (c.size ∷ c.diagnostics) (replicate 256 octet) (rw o.septets)
    (true-both (le-leb c.count octet o.count) o.septets-held) (true-both (le-leb c.size octet o.size) o.diagnostics-held)

-- whatever stands before them
parts-back : (x y : ℕ) (c : Cause) → promises.CauseOfOctets c → cause_from (x ∷ y ∷ parts c) ≡ c
parts-back x y c o =
    let l : List ℕ = c.count ∷ c.septets in
    let d : drop 256 (parts c) ≡ c.size ∷ c.diagnostics = drop_at l (c.size ∷ c.diagnostics) 256 (rw o.septets) in
    let f : drop 257 (parts c) ≡ c.diagnostics = ap (λ k. drop 1 k) (sym (drop-cons (parts c) 256 0 (omega (arith, length-parts c o))) ∙ d) in
    let s : take 255 (drop 1 (parts c)) ≡ c.septets = take_at c.septets (c.size ∷ c.diagnostics) 255 o.septets in
    rw (s, get_or_at l c.size c.diagnostics 0 256 (rw o.septets), f, take_all 255 c.diagnostics (omega (arith, o.diagnostics)))

-- behind two numbers, which are m
cause-back : (m : List ℕ) (x y : ℕ) → x ∷ y ∷ [] ≡ m → (c : Cause) → promises.CauseOfOctets c
    → (cause_fits (m ++ parts c) ≡ true) × ((cause_from (m ++ parts c) ≡ c) × (take 2 (m ++ parts c) ≡ m))
cause-back m x y e c o =
    let n : length (x ∷ y ∷ parts c) ≡ cause_length = omega (arith, length-parts c o) in
    rw (← e) (true-both (eq-eqb (length (x ∷ y ∷ parts c)) cause_length n) (parts-fit c o), (parts-back x y c o, refl))

pub a_cause_is_its_numbers : promises.ACauseIsItsNumbers
a_cause_is_its_numbers r o = cause-back (cause.meaning_numbers r.meaning) _ _ (meaning_two r.meaning) r.cause o

-- the numbers of a cause, which stand behind its meaning
cause-again : (ns : List ℕ) → length ns ≡ 512 → (get_or ns 0 0 ∷ take 255 (drop 1 ns)) ++ (get_or ns 256 0 ∷ take 255 (drop 257 ns)) ≡ ns
cause-again ns n =
    let b : drop 256 ns ≡ get_or ns 256 0 ∷ drop 257 ns = drop-cons ns 256 0 (omega arith) in
    let d : take 255 (drop 257 ns) ≡ drop 257 ns = take_all 255 (drop 257 ns) (rw (length-drop) (omega arith)) in
    ap₂ (λ (x y : List ℕ). x ++ y) (first ns n) (ap (λ l. get_or ns 256 0 ∷ l) d ∙ sym b) ∙ take-append-drop 256 ns
  where
    first : (ns : List ℕ) → length ns ≡ 512 → get_or ns 0 0 ∷ take 255 (drop 1 ns) ≡ take 256 ns
    first [] h = absurd (omega arith)
    first (x ∷ ns) h = refl

pub numbers_are_their_cause : promises.NumbersAreTheirCause
numbers_are_their_cause ns m e = go ns (eqb-true (length ns) cause_length (both_true (eqb (length ns) cause_length) (cause_holds ns) e).0)
  where
    go : (ns : List ℕ) → length ns ≡ cause_length → cause_numbers (record { refusal = 0; meaning = m; cause = cause_from ns }) ≡ cause.meaning_numbers m ++ drop 2 ns
    go [] n = absurd (omega arith)
    go (x ∷ []) n = absurd (omega arith)
    go (x ∷ y ∷ ns) n = ap (λ (l : List ℕ). cause.meaning_numbers m ++ l) (cause-again ns (omega arith))

pub the_meaning_is_not_looked_at : promises.TheMeaningIsNotLookedAt
the_meaning_is_not_looked_at a b x y n ns = (refl, (refl, refl))
