-- From what an event of the receiver leaves to what an event of the yard set is proved to do. Assumes nothing.
use mathlib.Core.Path.{◌≡◌, refl, sym, ap, ap₂, ◌∙◌}
use mathlib.Core.Bool.{Bool, true, false, not}
use mathlib.Core.List.{List, ◌++◌, map}
use mathlib.Core.Option.{Option}
use Prim.Native.Nat.{ℕ, ◌+◌, ◌*◌}
use native.Mathlib.Omega.{arith}
use lib.Dec.{eqb}
use lib.ListN.{length, get_or}
use borrow.Author.Tests.{eq-eqb, ne_eqb}
use Rattle.bits.specs.Field.{both, pick}
use Rattle.csn1.specs.declared.Refusal.{Refusal}
use Rattle.csn1.specs.Told.{code_of}
use Rattle.receiver.specs.declared.Cell.{Cell}
use Rattle.receiver.specs.declared.Receiver.{Receiver}
use Rattle.receiver.specs.Count.{News, no_news, counts, counts_over, bits, cell_with}
use Rattle.receiver.specs.Model.{no_nln, no_cell, keys_of}
use Rattle.receiver.specs.Step.{Event, content_of, numbering, cell_after, refusal_of, step_of}
use Rattle.receiver.proofs.Cases.{by-test}
use Rattle.layout.specs.Octets.{le_at}
use Rattle.layout.specs.Layout.{state_length, tick_from, is_state, cell_at, decode_of, keys_in, Last, last_of}
use Rattle.layout.proofs.Numbers.{table_ext}
use Rattle.lent.specs.Events.{event_code, octets_after, answered, Fed}
use Rattle.lent.proofs.Feeding.{cell-read, length-after, refused-stays}
use Rattle.yard.specs.Yard.{Shown, call_count, takes, yard_refusal, leaves_all, left_call, all_in, yard_step}
use Rattle.yard.specs.Octets.{yard_length, call_place, call_length, is_yard, inside, behind, call_no, yard_of, settled, all_leave, yard_code, yard_octets, YardFed}
use Rattle.yard.proofs.Inside.{whole-inside, put_back, inside-front, behind-at, length_front}
use Rattle.yard.proofs.Places.{call_same}
use Rattle.yard.proofs.Values.{calls_in, inside-settled, calls-settled, length-settled}

-- ## Refused

-- with any number, and nothing is changed
pub refused_as : (l : List ℕ) (e : Event) (n : ℕ) → n ≡ yard_code l e → (n ≡ 0 → ⊥) → YardFed l e l n
unfolding yard_octets
refused_as l e n q z =
    let b : eqb (yard_code l e) 0 ≡ false = ne_eqb (yard_code l e) 0 (λ p. z (q ∙ p)) in
    record { number = q; octets = rw b; receiver = rw b; answer = rw b; yard = rw b }

pub wrong_length : (l : List ℕ) (e : Event) → (length l ≡ yard_length → ⊥) → YardFed l e l 13
unfolding yard_code
wrong_length l e z = refused_as l e 13 (rw (ne_eqb (length l) yard_length z)) (λ q. omega (arith, q))

pub not_taken_as : (l : List ℕ) (e : Event) (n : ℕ) → takes e.happening ≡ false → n ≡ pick (is_yard l) 19 13 → YardFed l e l n
unfolding yard_code
not_taken_as l e n t q =
    by-test (is_yard l)
    (λ p. let k : n ≡ 19 = q ∙ rw p in refused_as l e n (k ∙ rw (p, t)) (λ z. omega (arith, k, z)))
    (λ p. let k : n ≡ 13 = q ∙ rw p in refused_as l e n (k ∙ rw p) (λ z. omega (arith, k, z)))

-- ## What the receiver had

-- calls behind the receiver are as they were
calls-behind : (ys l : List ℕ) → length ys ≡ state_length → calls_in (ys ++ behind l) ≡ calls_in l
calls-behind ys l n =
    table_ext (call_no (ys ++ behind l)) (call_no l) 0 call_count
    (λ i a b.
    call_same l (ys ++ behind l) i
    (λ m lt.
    let p : call_place i + m ≡ state_length + (call_length * i + m) = omega arith in
    ap (λ (k : ℕ). get_or (ys ++ behind l) k 0) p ∙ behind-at ys l n (call_length * i + m) ∙ sym (ap (λ (k : ℕ). get_or l k 0) p)))

code-number : (w : Refusal) → code_of w ≡ 0 → w.number ≡ 0
unfolding code_of
code-number w q = omega arith

accepted-number : (b : Bool) (n : ℕ) → pick b n 13 ≡ 0 → n ≡ 0
accepted-number true n q = q
accepted-number false n q = absurd (omega (arith, q))

-- an event that is not refused takes the tick with it, and leaves the keys
step_keys : (r : Receiver) (e : Event) → eqb (refusal_of r e).number 0 ≡ true → keys_of (step_of r e).receiver ≡ keys_of r
unfolding step_of
step_keys r e p = rw p

step-tick : (r : Receiver) (e : Event) → eqb (refusal_of r e).number 0 ≡ true → (step_of r e).receiver.tick ≡ e.tick
unfolding step_of
step-tick r e p = rw p

tick-read : (l : List ℕ) → le_at 4 l tick_from ≡ (decode_of l).tick
unfolding decode_of
tick-read l = refl

module _ (l : List ℕ) (e : Event) (whole : length l ≡ yard_length) (t : takes e.happening ≡ true) where
  abbrev r : Receiver
  r = decode_of (inside l)

  code_inside : yard_code l e ≡ event_code (inside l) e
  unfolding yard_code
  code_inside = rw (eq-eqb (length l) yard_length whole, t)

  module _ (ys : List ℕ) (n : ℕ) (f : Fed (inside l) e ys n) where
    fed-length : length ys ≡ state_length
    fed-length = ap length f.octets ∙ length-after (inside l) e ∙ whole-inside l whole

    pub long-then : length (ys ++ behind l) ≡ yard_length
    long-then = length_front ys l fed-length whole

    pub whole-then : length (inside (ys ++ behind l)) ≡ state_length
    whole-then = whole-inside (ys ++ behind l) long-then

    -- the receiver's part is what it left there
    pub inside-then-is : (cell : Cell) → cell ≡ pick (is_state (inside (ys ++ behind l))) (cell_at (inside (ys ++ behind l))) no_cell → cell ≡ pick (is_state ys) (cell_at ys) no_cell
    inside-then-is cell h = h ∙ ap (λ (x : List ℕ). pick (is_state x) (cell_at x) no_cell) (inside-front ys l fed-length)

    pub yard-refused : (n ≡ 0 → ⊥) → YardFed l e (ys ++ behind l) n
    yard-refused z =
        let p : ys ++ behind l ≡ l = ap (λ (x : List ℕ). x ++ behind l) (f.octets ∙ refused-stays (inside l) e (λ q. z (f.number ∙ q))) ∙ put_back l in
        rw p (refused_as l e n (f.number ∙ sym code_inside) z)

    module _ (z : n ≡ 0) where
      zero-code : eqb (event_code (inside l) e) 0 ≡ true
      zero-code = eq-eqb (event_code (inside l) e) 0 (sym f.number ∙ z)

      not_refused : eqb (refusal_of r e).number 0 ≡ true
      unfolding event_code
      not_refused =
          eq-eqb (refusal_of r e).number 0 (code-number (refusal_of r e) (accepted-number (is_state (inside l)) (code_of (refusal_of r e)) (sym f.number ∙ z)))

      receiver-then : decode_of ys ≡ (step_of r e).receiver
      receiver-then = f.receiver ∙ rw zero-code

      answer-then : last_of ys ≡ answered (step_of r e)
      answer-then = f.answer ∙ rw zero-code

      -- the cell as the code reads it afterwards
      pub cell-after : (cell : Cell) → cell ≡ pick (is_state ys) (cell_at ys) no_cell → cell ≡ cell_after r.cell (content_of e.happening).cause (content_of e.happening).news
      unfolding step_of
      cell-after cell h = cell-read ys fed-length cell h ∙ ap (λ (x : Receiver). x.cell) receiver-then ∙ rw not_refused

      module _ (all : Bool) (g : all ≡ all_leave l e) where
        abbrev m : List ℕ
        m = ys ++ behind l

        inside-then : inside (settled all e.tick m) ≡ ys
        inside-then = inside-settled all e.tick m ∙ inside-front ys l fed-length

        calls-then : calls_in (settled all e.tick m) ≡ all_in (keys_of r) e.tick (map (left_call (all_leave l e) e.tick) (calls_in l)) (step_of r e).entries
        calls-then =
            calls-settled all e.tick m long-then
            ∙ ap (λ (x : List ℕ). all_in (keys_in x) (le_at 4 x tick_from) (map (left_call all e.tick) (calls_in m)) (last_of x).entries) (inside-front ys l fed-length)
            ∙ ap₂ (λ (b : Bool) (cs : List (Option Shown)). all_in (keys_in ys) (le_at 4 ys tick_from) (map (left_call b e.tick) cs) (last_of ys).entries) g (calls-behind ys l fed-length)
            ∙ ap₂ (λ (ks : List ℕ) (now : ℕ). all_in ks now (map (left_call (all_leave l e) e.tick) (calls_in l)) (last_of ys).entries)
            (ap keys_of receiver-then ∙ step_keys r e not_refused)
            (tick-read ys ∙ ap (λ (x : Receiver). x.tick) receiver-then ∙ step-tick r e not_refused)
            ∙ ap (λ (a : Last). all_in (keys_of r) e.tick (map (left_call (all_leave l e) e.tick) (calls_in l)) a.entries) answer-then

        yard-then : yard_of (settled all e.tick m) ≡ yard_step (yard_of l) e
        unfolding yard_of yard_step yard_refusal
        yard-then = rw (t, not_refused) (λ x. record { receiver = (ap decode_of inside-then ∙ receiver-then) x; calls = calls-then x })

        pub yard-accepted : (left : List ℕ) → left ≡ settled all e.tick m → YardFed l e left 0
        unfolding yard_octets
        yard-accepted left p =
            let b : eqb (yard_code l e) 0 ≡ true = ap (λ (k : ℕ). eqb k 0) code_inside ∙ zero-code in
            record {
              number = sym (code_inside ∙ sym f.number ∙ z);
              octets = rw b (p ∙ ap₂ (λ (c : Bool) (o : List ℕ). settled c e.tick (o ++ behind l)) g f.octets);
              receiver = rw b (ap inside p ∙ inside-then ∙ f.octets);
              answer = rw b (ap (λ (o : List ℕ). last_of (inside o)) p ∙ ap last_of inside-then ∙ answer-then);
              yard = rw b (ap yard_of p ∙ yard-then);
            }

-- ## The length

pub at-inside : (l : List ℕ) → length l ≡ yard_length → is_state (inside l) ≡ true
at-inside l w = eq-eqb (length (inside l)) state_length (whole-inside l w)

pub length-yard : (l : List ℕ) (e : Event) → length l ≡ yard_length → length (yard_octets l e) ≡ yard_length
unfolding yard_octets
length-yard l e w =
    by-test (eqb (yard_code l e) 0)
    (λ p.
    rw p
    (length-settled (all_leave l e) e.tick (octets_after (inside l) e ++ behind l)
    ∙ length_front (octets_after (inside l) e) l (length-after (inside l) e ∙ whole-inside l w) w))
    (λ p. rw p w)

-- ## The NLN as it was before the event and is after it

pub with_nln : (l : Cell) (w : News) → (cell_with l w).nln ≡ l.nln
with_nln l no_news = refl
with_nln l (counts n) = refl
with_nln l (counts_over b22 n) = refl
with_nln l (bits b) = refl

no_change : (b : Bool) (n : ℕ) → both b (not (eqb n n)) ≡ false
no_change b n = rw (eq-eqb n n refl) (either b)
  where
    either : (b : Bool) → both b false ≡ false
    either true = refl
    either false = refl

by-nln : (l : Cell) (b : Bool) (n k : ℕ) → k ≡ (cell_after l (numbering b n) no_news).nln → both (not (eqb l.nln no_nln)) (not (eqb l.nln k)) ≡ leaves_all l (numbering b n)
by-nln l true n k p = rw p
by-nln l false n k p = rw p (no_change (not (eqb l.nln no_nln)) l.nln)

nln-after : (l : Cell) (b : Bool) (n : ℕ) (w : News) → (cell_after l (numbering b n) w).nln ≡ (cell_after l (numbering b n) no_news).nln
nln-after l true n w = with_nln _ w
nln-after l false n w = with_nln _ w

pub nln-changes : (l before after : Cell) (b : Bool) (n : ℕ) (w : News) → before ≡ l → after ≡ cell_after l (numbering b n) w → (all : Bool)
    → all ≡ both (not (eqb before.nln no_nln)) (not (eqb before.nln after.nln)) → all ≡ leaves_all l (numbering b n)
nln-changes l before after b n w p q all h =
    h ∙ ap (λ (x : Cell). both (not (eqb x.nln no_nln)) (not (eqb x.nln after.nln))) p
    ∙ by-nln l b n after.nln (ap (λ (x : Cell). x.nln) q ∙ nln-after l b n w)
