-- Laws of the elements whose values are tables: each reads what it wrote, and writes what it read. Assumes nothing.
use mathlib.Core.Path.{◌≡◌, refl, ap₂, ◌∙◌}
use mathlib.Core.Bool.{Bool, true, false}
use native.Mathlib.Omega.{arith}
use mathlib.Core.Logic.{◌⊎◌, inl, inr}
use borrow.Author.Tests.{eq-eqb, le-leb, lt-leb, leb-true}
use Prim.Native.Nat.{ℕ, ◌%◌, ◌≤◌, ◌<◌}
use lib.Dec.{leb, eqb}
use Rattle.bits.specs.Field.{pick, both}
use Rattle.gcc.specs.Octet.{is_set}
use Rattle.gcc.specs.declared.message_type.Kind.{Kind}
use Rattle.gcc.specs.declared.message_type.Kind.TheVariants.{ImmediateSetup, Setup, Connect, Termination, TerminationRequest}
use Rattle.gcc.specs.declared.message_type.Kind.TheVariants.{TerminationReject, Status, GetStatus, SetParameter, ImmediateSetup2, Nothing}
use Rattle.gcc.specs.declared.message_type.Written.{Written}
use Rattle.gcc.specs.declared.call_state.State.{State}
use Rattle.gcc.specs.declared.call_state.State.TheVariants.{U0, U1, U2sl, U3, U4, U5, U0p, U2wr, U2r, U2ws, U2sr, U2nc, Reserved}
use Rattle.gcc.specs.declared.call_state.Reading.{Reading as StateRead}
use Rattle.gcc.specs.declared.call_state.Written.{Written as StateWritten}
use Rattle.gcc.specs.declared.originator.Reading.{Reading as OriginatorRead}
use Rattle.gcc.specs.declared.state_attributes.Reading.{Reading as AttributesRead}
use Rattle.gcc.specs.declared.sms.Reading.{Reading as SmsRead}
use Rattle.gcc.specs.declared.talker.Reading.{Reading as TalkerRead}
use Rattle.gcc.specs.declared.talker.Priority.TheVariants.{Normal, Privileged, Emergency}
use Rattle.gcc.specs.MessageType as message-type
use Rattle.gcc.specs.CallState as call-state
use Rattle.gcc.specs.Originator as originator
use Rattle.gcc.specs.StateAttributes as state-attributes
use Rattle.gcc.specs.Sms as sms
use Rattle.gcc.specs.Talker as talker
use Rattle.gcc.specs.Promises as promises
use Rattle.bits.proofs.Answers.{both_true}
use Rattle.gcc.proofs.Tests.{passed, below_where, agree, agree_where}

never : {A : Type 0} → ◌≡◌ {A = ℕ} 12 0 → A
never e = absurd (omega arith)

-- a reader of half octets refuses what is above 15, and nothing else
half-octet : {A Q : Type 0} (number : A → ℕ) (h : ℕ) (x y : A) → number x ≡ 0 → 0 < number y → (h ≤ 15 → Q)
    → promises.Acceptance (h ≤ 15) (number (pick (leb h 15) x y)) Q
half-octet number h x y e p q = (λ z. leb-true h 15 (passed number (leb h 15) x y p z).0, λ l. (rw (le-leb h 15 l) e, q l))

-- ## Message type

same-written : (w : Written) (r o : ℕ) → w.refusal ≡ r → w.octet ≡ o → w ≡ record { refusal = r; octet = o }
same-written w r o p q =
    let f : ℕ → ℕ → Written = λ a b. record { refusal = a; octet = b } in
    ap₂ f p q

-- a message's number leaves bit 7 free
pub number_small : (k : Kind) → message-type.number_of k < 64
number_small ImmediateSetup = omega arith
number_small Setup = omega arith
number_small Connect = omega arith
number_small Termination = omega arith
number_small TerminationRequest = omega arith
number_small TerminationReject = omega arith
number_small Status = omega arith
number_small GetStatus = omega arith
number_small SetParameter = omega arith
number_small ImmediateSetup2 = omega arith
number_small Nothing = omega arith

pub a_message_type_is_read_back : promises.AMessageTypeIsReadBack
unfolding message-type.read_of message-type.written_of message-type.kind_of is_set
a_message_type_is_read_back s k = (λ e q. never (rw q at e), go s k)
  where
    go : (s : Bool) (k : Kind) → (k ≡ Nothing → ⊥)
        → ((message-type.written_of s k).refusal ≡ 0) × (message-type.read_of (message-type.written_of s k).octet ≡ record { refusal = 0; sequence = s; kind = k })
    go true ImmediateSetup h = (refl, refl)
    go true Setup h = (refl, refl)
    go true Connect h = (refl, refl)
    go true Termination h = (refl, refl)
    go true TerminationRequest h = (refl, refl)
    go true TerminationReject h = (refl, refl)
    go true Status h = (refl, refl)
    go true GetStatus h = (refl, refl)
    go true SetParameter h = (refl, refl)
    go true ImmediateSetup2 h = (refl, refl)
    go true Nothing h = absurd (h refl)
    go false ImmediateSetup h = (refl, refl)
    go false Setup h = (refl, refl)
    go false Connect h = (refl, refl)
    go false Termination h = (refl, refl)
    go false TerminationRequest h = (refl, refl)
    go false TerminationReject h = (refl, refl)
    go false Status h = (refl, refl)
    go false GetStatus h = (refl, refl)
    go false SetParameter h = (refl, refl)
    go false ImmediateSetup2 h = (refl, refl)
    go false Nothing h = absurd (h refl)

-- the test of a known type
abbrev known : ℕ → Bool
known o = both (leb o 127) (pick (both (leb 0x31 (o % 64)) (leb (o % 64) 0x36)) true (both (leb 0x38 (o % 64)) (leb (o % 64) 0x3b)))

known-true : (o : ℕ) → promises.KnownType o → known o ≡ true
known-true o (l, inl (a, b)) = rw (le-leb o 127 (omega arith), le-leb 0x31 (o % 64) a, le-leb (o % 64) 0x36 b)
known-true o (l, inr (a, b)) = rw (le-leb o 127 (omega arith), le-leb 0x31 (o % 64) (omega arith), lt-leb (o % 64) 0x36 (omega arith), le-leb 0x38 (o % 64) a, le-leb (o % 64) 0x3b b)

true-known : (o : ℕ) → known o ≡ true → promises.KnownType o
true-known o e =
    let low : Bool = both (leb 0x31 (o % 64)) (leb (o % 64) 0x36) in
    let high : Bool = both (leb 0x38 (o % 64)) (leb (o % 64) 0x3b) in
    let a = both_true (leb o 127) (pick low true high) e in
    let l : o ≤ 127 = leb-true o 127 a.0 in
    (omega arith, go low high refl refl a.1)
  where
    between : (m n k : ℕ) → both (leb m k) (leb k n) ≡ true → (m ≤ k) × (k ≤ n)
    between m n k e = let b = both_true (leb m k) (leb k n) e in (leb-true m k b.0, leb-true k n b.1)

    go : (b c : Bool) → both (leb 0x31 (o % 64)) (leb (o % 64) 0x36) ≡ b → both (leb 0x38 (o % 64)) (leb (o % 64) 0x3b) ≡ c → pick b true c ≡ true
        → ((0x31 ≤ o % 64) × (o % 64 ≤ 0x36)) ⊎ ((0x38 ≤ o % 64) × (o % 64 ≤ 0x3b))
    go true c x y e = inl (between 0x31 0x36 (o % 64) x)
    go false c x y e = inr (between 0x38 0x3b (o % 64) (y ∙ e))

pub a_message_type_is_written_back : promises.AMessageTypeIsWrittenBack
unfolding message-type.read_of message-type.written_of message-type.kind_of is_set
a_message_type_is_written_back o h =
    let w : ℕ → Written = λ k. message-type.written_of (message-type.read_of k).sequence (message-type.read_of k).kind in
    let t : ℕ → ℕ = λ k. (message-type.read_of k).refusal in (
      λ e. true-known o (below_where (λ k. eqb (t k) 0) known 256 refl o h (eq-eqb _ _ e)),
      λ y. let a : known o ≡ true = known-true o y in (
        agree_where known t (λ k. 0) 256 refl o h a,
        same-written (w o) 0 o (agree_where known (λ k. (w k).refusal) (λ k. 0) 256 refl o h a) (agree_where known (λ k. (w k).octet) (λ k. k) 256 refl o h a),
      ),
    )

-- ## Call state

same_half : (w : StateWritten) (r h : ℕ) → w.refusal ≡ r → w.half ≡ h → w ≡ record { refusal = r; half = h }
same_half w r h p q =
    let f : ℕ → ℕ → StateWritten = λ a b. record { refusal = a; half = b } in
    ap₂ f p q

pub a_call_state_is_read_back : promises.ACallStateIsReadBack
unfolding call-state.read_of call-state.written_of call-state.state_of
a_call_state_is_read_back s = (λ e q. never (rw q at e), go s)
  where
    go : (s : State) → (s ≡ Reserved → ⊥) → ((call-state.written_of s).refusal ≡ 0) × (call-state.read_of (call-state.written_of s).half ≡ record { refusal = 0; state = s })
    go U0 h = (refl, refl)
    go U1 h = (refl, refl)
    go U2sl h = (refl, refl)
    go U3 h = (refl, refl)
    go U4 h = (refl, refl)
    go U5 h = (refl, refl)
    go U0p h = (refl, refl)
    go U2wr h = (refl, refl)
    go U2r h = (refl, refl)
    go U2ws h = (refl, refl)
    go U2sr h = (refl, refl)
    go U2nc h = (refl, refl)
    go Reserved h = absurd (h refl)

pub a_call_state_is_written_back : promises.ACallStateIsWrittenBack
unfolding call-state.read_of call-state.written_of call-state.state_of
a_call_state_is_written_back h =
    let w : ℕ → StateWritten = λ k. call-state.written_of (call-state.read_of k).state in
    let t : ℕ → Bool = λ k. leb k 11 in
    half-octet (λ (r : StateRead). r.refusal) h (record { refusal = 0; state = call-state.state_of h }) (record { refusal = 12; state = U0 }) refl (omega arith) (λ l m.
    let a : leb h 11 ≡ true = le-leb h 11 m in
    same_half (w h) 0 h (agree_where t (λ k. (w k).refusal) (λ k. 0) 16 refl h (omega arith) a) (agree_where t (λ k. (w k).half) (λ k. k) 16 refl h (omega arith) a))

-- ## Originator indication, state attributes, SMS indications, talker priority

pub an_originator_indication_is_read_back : promises.AnOriginatorIndicationIsReadBack
unfolding originator.read_of is_set
an_originator_indication_is_read_back true = refl
an_originator_indication_is_read_back false = refl

pub an_originator_indication_is_written_back : promises.AnOriginatorIndicationIsWrittenBack
unfolding originator.read_of is_set
an_originator_indication_is_written_back h =
    half-octet (λ (r : OriginatorRead). r.refusal) h (record { refusal = 0; oi = is_set 1 h }) (record { refusal = 12; oi = false }) refl (omega arith)
    (λ l. agree (λ h. originator.written_of (originator.read_of h).oi) originator.spare_zero 16 refl h (omega arith))

pub state_attributes_are_read_back : promises.StateAttributesAreReadBack
unfolding state-attributes.read_of state-attributes.written_of is_set
state_attributes_are_read_back a = go a.da a.ua a.comm a.oi
  where
    go : (da ua comm oi : Bool) → state-attributes.read_of (state-attributes.written_of (record { da = da; ua = ua; comm = comm; oi = oi })) ≡ record {
      refusal = 0;
      attributes =
          record { da = da; ua = ua; comm = comm; oi = oi };
    }
    go true true true true = refl
    go true true true false = refl
    go true true false true = refl
    go true true false false = refl
    go true false true true = refl
    go true false true false = refl
    go true false false true = refl
    go true false false false = refl
    go false true true true = refl
    go false true true false = refl
    go false true false true = refl
    go false true false false = refl
    go false false true true = refl
    go false false true false = refl
    go false false false true = refl
    go false false false false = refl

pub state_attributes_are_written_back : promises.StateAttributesAreWrittenBack
unfolding state-attributes.read_of state-attributes.written_of is_set
state_attributes_are_written_back h =
    half-octet (λ (r : AttributesRead). r.refusal) h (record { refusal = 0; attributes = state-attributes.attributes_of h })
    (record { refusal = 12; attributes = record { da = false; ua = false; comm = false; oi = false } }) refl (omega arith)
    (λ l. agree (λ h. state-attributes.written_of (state-attributes.read_of h).attributes) (λ h. h) 16 refl h (omega arith))

pub sms_indications_are_read_back : promises.SmsIndicationsAreReadBack
unfolding sms.read_of sms.written_of is_set
sms_indications_are_read_back i = go i.dc i.gp
  where
    go : (dc gp : Bool) → sms.read_of (sms.written_of (record { dc = dc; gp = gp })) ≡ record { refusal = 0; indications = record { dc = dc; gp = gp } }
    go true true = refl
    go true false = refl
    go false true = refl
    go false false = refl

pub sms_indications_are_written_back : promises.SmsIndicationsAreWrittenBack
unfolding sms.read_of sms.written_of is_set
sms_indications_are_written_back h =
    half-octet (λ (r : SmsRead). r.refusal) h (record { refusal = 0; indications = record { dc = is_set 2 h; gp = is_set 1 h } })
    (record { refusal = 12; indications = record { dc = false; gp = false } }) refl (omega arith)
    (λ l. agree (λ h. sms.written_of (sms.read_of h).indications) sms.spare_zero 16 refl h (omega arith))

pub a_talker_priority_is_read_back : promises.ATalkerPriorityIsReadBack
unfolding talker.read_of talker.priority_of
a_talker_priority_is_read_back Normal = refl
a_talker_priority_is_read_back Privileged = refl
a_talker_priority_is_read_back Emergency = refl

pub a_talker_priority_is_written_back : promises.ATalkerPriorityIsWrittenBack
unfolding talker.read_of talker.priority_of
a_talker_priority_is_written_back h =
    half-octet (λ (r : TalkerRead). r.refusal) h (record { refusal = 0; priority = talker.priority_of (h % 8) }) (record { refusal = 12; priority = Normal }) refl (omega arith)
    (λ l m. agree_where (λ h. leb (h % 8) 2) (λ h. talker.number_of (talker.read_of h).priority) talker.spare_zero 16 refl h (omega arith) (le-leb (h % 8) 2 m))
