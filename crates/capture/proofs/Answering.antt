-- What a field is answered with, from what its event or its setup did to the lent octets. Assumes nothing.
use Rattle.std.proofs.Common.{◌≡◌, ℕ, ◌-◌, ◌%◌, ◌<◌, ◌≤◌, Bool, true, false, eqb, leb, List, length, take, drop, sym, refl, ap, ◌∙◌, arith, length-drop, take_all, eq-eqb, ne_eqb, eqb-true, le-leb}
use mathlib.Core.Option.{Option, none, some}
use borrow.Author.Tests.{eqb-false, lt-leb}
use Rattle.bits.specs.Field.{both, pick}
use Rattle.csn1.specs.Told.{code_of}
use Rattle.receiver.proofs.Cases.{by-test}
use Rattle.receiver.proofs.Refusals.{refusal-sound}
use Rattle.receiver.specs.Step.{Event, nch, facch, joined, reselected, handed_over, reconfigured, tick, refusal_of, step_of}
use Rattle.layout.specs.Layout.{state_length, decode_of, last_of}
use Rattle.layout.specs.Setup.{SetUp, setup_code}
use Rattle.lent.specs.Events.{Fed, event_code, answered}
use Rattle.lent.proofs.Feeding.{refused-step}
use Rattle.capture.specs.declared.Phase.TheVariants.{Running, Over}
use Rattle.capture.specs.Replay.{tick_in, tick_length, event_by, if_long, times_length, is_setup, setup_in, keys_of, sets_of, start_in, accepts, said_by, before, running, over}
use Rattle.capture.specs.Capture.{Field, be_at}
use Rattle.capture.specs.Machine.{state_after}
use Rattle.capture.specs.Inner.{shown_by, Heard, Answers}

-- the low octet of what an event returns is the number of its refusal, 0 where it is accepted
module _ (l : List ℕ) (e : Event) (state : length l ≡ state_length) where
  code_is : event_code l e ≡ code_of (refusal_of (decode_of l) e)
  unfolding event_code
  code_is = rw (eq-eqb (length l) state_length state)

  number_is : event_code l e % 256 ≡ (refusal_of (decode_of l) e).number
  number_is = ap (λ n. n % 256) code_is ∙ (refusal-sound (decode_of l) e).number

  none_number : event_code l e ≡ 0 → (refusal_of (decode_of l) e).number ≡ 0
  none_number z = sym number_is ∙ ap (λ n. n % 256) z

  some_number : (event_code l e ≡ 0 → ⊥) → (refusal_of (decode_of l) e).number ≡ 0 → ⊥
  unfolding code_of
  some_number z p = z (code_is ∙ ap code_of ((refusal-sound (decode_of l) e).clean p))

  accepted-number : event_code l e ≡ 0 → (step_of (decode_of l) e).refusal.number ≡ 0
  unfolding step_of
  accepted-number z = rw (eq-eqb (refusal_of (decode_of l) e).number 0 (none_number z))

  module _ (tag : ℕ) (left : List ℕ) (code : ℕ) (f : Fed l e left code) where
    heard-said : shown_by tag (code % 256) (last_of left) ≡ said_by tag (step_of (decode_of l) e)
    heard-said =
        by-test (eqb (event_code l e) 0)
        (λ p.
        let z : event_code l e ≡ 0 = eqb-true (event_code l e) 0 p in
        let c : code % 256 ≡ 0 = ap (λ n. n % 256) (f.number ∙ z) in
        let a : last_of left ≡ answered (step_of (decode_of l) e) = f.answer ∙ rw p in
        rw (c, a, accepted-number z))
        (λ p.
        let z = eqb-false (event_code l e) 0 p in
        let c : code % 256 ≡ (refusal_of (decode_of l) e).number = ap (λ n. n % 256) f.number ∙ number_is in
        rw (c, ne_eqb (refusal_of (decode_of l) e).number 0 (some_number z), refused-step l e state z))

    heard-receiver : decode_of left ≡ (step_of (decode_of l) e).receiver
    heard-receiver =
        by-test (eqb (event_code l e) 0) (λ p. f.receiver ∙ rw p) (λ p. f.receiver ∙ rw (p, refused-step l e state (eqb-false (event_code l e) 0 p)))

    pub heard : Heard tag (some e) l left code
    heard = record { said = heard-said; receiver = heard-receiver; octets = f.octets }

-- no event: the octets stay
pub unheard : (tag : ℕ) (l : List ℕ) → Heard tag none l l 16
unheard tag l = record { said = refl; receiver = refl; octets = refl }

-- ## Which event a field says

-- a part of a slice up to its end
pub part-all : (k : ℕ) (c : List ℕ) → take (length c - k) (drop k c) ≡ drop k c
part-all k c = take_all (length c - k) (drop k c) (rw length-drop (omega arith))

-- an event of a fixed length is none where its tag or its length is another
long-none : (b : Bool) (n : ℕ) (c : List ℕ) (e : Event) (rest : Option Event) → (b ≡ true → length c ≡ n → ⊥) → rest ≡ none → pick b (if_long n c e) rest ≡ none
long-none false n c e rest h r = r
long-none true n c e rest h r = rw (ne_eqb (length c) n (h refl))

module _ (tag : ℕ) (c : List ℕ) where
  -- whatever the tag, an event has its tick
  pub event-short : length c < tick_length → event_by tag c ≡ none
  unfolding event_by
  event-short h =
      rw (lt-leb tick_length (length c) h)
      (none-or (eqb tag 1) (none-or (eqb tag 2)
      (long-none (eqb tag 3) 8 c _ _ (λ _ w. omega arith) (long-none (eqb tag 4) 4 c _ _ (λ _ w. omega arith) (long-none (eqb tag 5) 4 c _ _ (λ _ w. omega arith)
      (long-none (eqb tag 6) 4 c _ _ (λ _ w. omega arith) (long-none (eqb tag 7) 4 c _ _ (λ _ w. omega arith) refl)))))))
    where
      none-or : (b : Bool) → {rest : Option Event} → rest ≡ none → pick b none rest ≡ none
      none-or true r = refl
      none-or false r = r

  pub event-none : (tag ≡ 1 → ⊥) → (tag ≡ 2 → ⊥) → (tag ≡ 3 → length c ≡ 8 → ⊥) → (4 ≤ tag → tag ≤ 7 → length c ≡ 4 → ⊥) → event_by tag c ≡ none
  unfolding event_by
  event-none n1 n2 n3 n4 =
      rw (ne_eqb tag 1 n1, ne_eqb tag 2 n2)
      (long-none (eqb tag 3) 8 c _ _ (λ b. n3 (eqb-true tag 3 b)) (long-none (eqb tag 4) 4 c _ _ (λ b. let e = eqb-true tag 4 b in n4 (omega arith) (omega arith))
      (long-none (eqb tag 5) 4 c _ _ (λ b. let e = eqb-true tag 5 b in n4 (omega arith) (omega arith))
      (long-none (eqb tag 6) 4 c _ _ (λ b. let e = eqb-true tag 6 b in n4 (omega arith) (omega arith))
      (long-none (eqb tag 7) 4 c _ _ (λ b. let e = eqb-true tag 7 b in n4 (omega arith) (omega arith)) refl)))))

  pub event-1 : tick_length ≤ length c → tag ≡ 1 → event_by tag c ≡ some (nch (tick_in c) (drop tick_length c))
  unfolding event_by
  event-1 h e = rw (e, le-leb tick_length (length c) h)

  pub event-2 : tick_length ≤ length c → tag ≡ 2 → event_by tag c ≡ some (facch (tick_in c) (drop tick_length c))
  unfolding event_by
  event-2 h e = rw (e, le-leb tick_length (length c) h)

  pub event-3 : tag ≡ 3 → length c ≡ 8 → event_by tag c ≡ some (joined (tick_in c) (be_at 4 c tick_length))
  unfolding event_by
  event-3 e w = rw (e, eq-eqb (length c) 8 w)

  pub event-4 : tag ≡ 4 → length c ≡ 4 → event_by tag c ≡ some (reselected (tick_in c))
  unfolding event_by
  event-4 e w = rw (e, eq-eqb (length c) 4 w)

  pub event-5 : tag ≡ 5 → length c ≡ 4 → event_by tag c ≡ some (handed_over (tick_in c))
  unfolding event_by
  event-5 e w = rw (e, eq-eqb (length c) 4 w)

  pub event-6 : tag ≡ 6 → length c ≡ 4 → event_by tag c ≡ some (reconfigured (tick_in c))
  unfolding event_by
  event-6 e w = rw (e, eq-eqb (length c) 4 w)

  pub event-7 : tag ≡ 7 → length c ≡ 4 → event_by tag c ≡ some (tick (tick_in c))
  unfolding event_by
  event-7 e w = rw (e, eq-eqb (length c) 4 w)

-- ## The first field

not_both : (a b : Bool) (x y : Bool) → both a b ≡ false → both a (both b x) ≡ false
not_both true true x y e = absurd (never e)
  where
    never : ◌≡◌ {A = Bool} true false → ⊥
    never e = let z : ◌≡◌ {A = ℕ} 0 1 = cc in omega arith
not_both true false x y e = refl
not_both false b x y e = refl

both_false : (b : Bool) → both b false ≡ false
both_false true = refl
both_false false = refl

-- what is no setup
module _ (tag : ℕ) (c : List ℕ) where
  pub none-tag : (tag ≡ 0 → ⊥) → both (eqb tag 0) (is_setup c) ≡ false
  none-tag n = rw (ne_eqb tag 0 n)

  pub none-short : length c < times_length → both (eqb tag 0) (is_setup c) ≡ false
  none-short h = rw (lt-leb times_length (length c) h) (both_false (eqb tag 0))

  pub none_odd : (length c % 4 ≡ 0 → ⊥) → both (eqb tag 0) (is_setup c) ≡ false
  none_odd n = rw (ne_eqb (length c % 4) 0 n, both_false (leb times_length (length c))) (both_false (eqb tag 0))

  pub is_setup_lem : times_length ≤ length c → length c % 4 ≡ 0 → is_setup c ≡ true
  is_setup_lem h e = rw (le-leb times_length (length c) h, eq-eqb (length c % 4) 0 e)

-- once the run is over
pub over-answer : (f : Field) (l : List ℕ) → Answers f over l (record { refusal = 17; phase = Over }) l
over-answer f l = record { said = refl; stage = refl; octets = refl }

module _ (tag : ℕ) (c l : List ℕ) where
  abbrev here : Field
  here = record { tag = tag; contents = c }

  pub first-none : both (eqb tag 0) (is_setup c) ≡ false → Answers here before l (record { refusal = 17; phase = Over }) l
  unfolding accepts
  first-none e =
      let a : accepts here ≡ false = not_both (eqb tag 0) (is_setup c) (eqb (start_in c).refusal.number 0) true e in
      record { said = rw a; stage = rw a; octets = rw e }

  module _ (state : length l ≡ state_length) (zero : tag ≡ 0) (possible : is_setup c ≡ true) (left : List ℕ) (code : ℕ) (s : SetUp l (setup_in c) (keys_of c) (sets_of c) left code) where
    started : (start_in c).refusal.number ≡ code
    unfolding start_in setup_code
    started = sym (s.number ∙ rw (eq-eqb (length l) state_length state))

    left_is : left ≡ state_after here before l
    left_is = rw (eq-eqb tag 0 zero, possible) s.octets

    pub first-refused : (code ≡ 0 → ⊥) → Answers here before l (record { refusal = 17; phase = Over }) left
    unfolding accepts
    first-refused n =
        let a : accepts here ≡ false = rw (eq-eqb tag 0 zero, possible, started, ne_eqb code 0 n) in
        record { said = rw a; stage = rw a; octets = left_is }

    pub first-set : code ≡ 0 → Answers here before l (record { refusal = 0; phase = Running }) left
    unfolding accepts start_in
    first-set z =
        let a : accepts here ≡ true = rw (eq-eqb tag 0 zero, possible, started, eq-eqb code 0 z) in
        record { said = rw (a, s.answer z); stage = rw a (ap running (s.receiver z)); octets = left_is }
