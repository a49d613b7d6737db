-- A setup: the yard set's keys, even and not too many, and what it leaves. Assumes nothing.
use mathlib.Core.Path.{◌≡◌, sym, ap, ◌∙◌}
use mathlib.Core.Bool.{true, false}
use mathlib.Core.List.{List, ◌++◌, append-nil}
use mathlib.Core.Option.{none}
use Prim.Native.Nat.{ℕ, ◌+◌, ◌*◌, ◌%◌, ◌≤◌, ◌<◌}
use native.Mathlib.Omega.{arith}
use native.Mathlib.Numerals.{add-one}
use lib.Dec.{eqb}
use lib.ListN.{length, drop, get_or, replicate, length-append, drop_of_length-le, length-replicate, get_or-replicate}
use lib.Seq.{drop-cons, sets-eq}
use borrow.Author.Tests.{eq-eqb, ne_eqb}
use Rattle.bits.specs.Field.{both}
use Rattle.arrays.specs.Runs.{stored}
use Rattle.arrays.proofs.Running.{stored_in}
use Rattle.receiver.specs.declared.Setup.{Setup}
use Rattle.receiver.specs.Model.{started_of}
use Rattle.layout.specs.Layout.{state_length, decode_of, last_of, fresh_octets}
use Rattle.layout.specs.Setup.{SetUp, setup_code}
use Rattle.layout.proofs.Numbers.{table_same}
use Rattle.layout.proofs.States.{at-state}
use Rattle.layout.proofs.Setting.{set-left, set-fresh}
use Rattle.layout.proofs.Fresh.{length-fresh}
use Rattle.yard.specs.Yard.{call_count, all_even, yard_right}
use Rattle.yard.specs.Octets.{call_length, yard_length, call_place, inside, behind, call_no, yard_of, yard_setup_code, yard_setup_octets, YardSetUp}
use Rattle.yard.proofs.Inside.{whole-inside, put_back, inside-front, inside-stored, length_front}
use Rattle.yard.proofs.Places.{call_none}

module _ (ks : List ℕ) (i d : ℕ) (h : i < length ks) where
  even_split : all_even (drop i ks) ≡ both (eqb (get_or ks i d % 2) 0) (all_even (drop (i + 1) ks))
  unfolding all_even
  even_split = rw (add-one, drop-cons ks i d h)

  pub even_odd : (get_or ks i d % 2 ≡ 0 → ⊥) → all_even (drop i ks) ≡ false
  even_odd g = rw (even_split, ne_eqb (get_or ks i d % 2) 0 g)

  pub even_next : get_or ks i d % 2 ≡ 0 → all_even (drop i ks) ≡ all_even (drop (i + 1) ks)
  even_next g = rw (even_split, eq-eqb (get_or ks i d % 2) 0 g)

pub even_past : (ks : List ℕ) (i : ℕ) → length ks ≤ i → all_even (drop i ks) ≡ true
unfolding all_even
even_past ks i h = rw (drop_of_length-le ks {i = i} h)

-- ## A setup

abbrev zeros : List ℕ
zeros = replicate (call_length * call_count) 0

length-zeros : length zeros ≡ call_length * call_count
length-zeros = length-replicate {A = ℕ} (call_length * call_count) 0

-- zeros over all calls
over-calls : (m : List ℕ) → length m ≡ yard_length → stored m state_length zeros ≡ inside m ++ zeros
unfolding stored
over-calls m w =
    sets-eq zeros m state_length (omega (arith, length-zeros))
    ∙ ap (λ (d : List ℕ). inside m ++ zeros ++ d) (drop_of_length-le m {i = state_length + length zeros} (omega (arith, length-zeros)))
    ∙ append-nil (inside m ++ zeros)

none-there : (m : List ℕ) → length m ≡ yard_length → (i : ℕ) → i < call_count → call_no (stored m state_length zeros) i ≡ none
none-there m w i h =
    call_none (stored m state_length zeros) i
    (let p : call_place i + 16 ≡ state_length + (call_length * i + 16) = omega arith in
    ap (λ (k : ℕ). get_or (stored m state_length zeros) k 0) p
    ∙ stored_in m state_length zeros (call_length * i + 16) (omega (arith, length-zeros)) (omega (arith, length-zeros))
    ∙ get_or-replicate (call_length * call_count) (call_length * i + 16) 0 0 (omega arith))

module _ (l : List ℕ) (s : Setup) (keys groups : List ℕ) where
  pub yard-set-refused : (n : ℕ) → n ≡ yard_setup_code l s keys groups → (n ≡ 0 → ⊥) → YardSetUp l s keys groups l n
  unfolding yard_setup_octets
  yard-set-refused n q z =
      let b : eqb (yard_setup_code l s keys groups) 0 ≡ false = ne_eqb (yard_setup_code l s keys groups) 0 (λ e. z (q ∙ e)) in
      record { number = q; octets = rw b; yard = λ e. absurd (z e); answer = λ e. absurd (z e) }

  pub yard-set_wrong : (length l ≡ yard_length → ⊥) → YardSetUp l s keys groups l 13
  unfolding yard_setup_code
  yard-set_wrong z = yard-set-refused 13 (rw (ne_eqb (length l) yard_length z)) (λ e. omega (arith, e))

  module _ (whole : length l ≡ yard_length) where
    pub yard-set_odd : yard_right keys ≡ false → YardSetUp l s keys groups l 10
    unfolding yard_setup_code
    yard-set_odd p = yard-set-refused 10 (rw (eq-eqb (length l) yard_length whole, p)) (λ e. omega (arith, e))

    module _ (right : yard_right keys ≡ true) (ys : List ℕ) (n : ℕ) (u : SetUp (inside l) s keys groups ys n) where
      set_code : n ≡ yard_setup_code l s keys groups
      unfolding yard_setup_code setup_code
      set_code =
          u.number ∙ at-state (inside l) (started_of s keys groups).refusal.number 13 (whole-inside l whole)
          ∙ sym (rw (eq-eqb (length l) yard_length whole, right))

      pub yard-set-not : (n ≡ 0 → ⊥) → YardSetUp l s keys groups (ys ++ behind l) n
      yard-set-not z =
          let p : ys ++ behind l ≡ l = ap (λ (x : List ℕ). x ++ behind l) (set-left (inside l) s keys groups ys n u z) ∙ put_back l in
          rw p (yard-set-refused n set_code z)

      module _ (z : n ≡ 0) where
        fresh : ys ≡ fresh_octets s keys groups
        fresh = set-fresh (inside l) s keys groups ys n u z

        long : length ys ≡ state_length
        long = ap length fresh ∙ length-fresh s keys groups

        abbrev m : List ℕ
        m = ys ++ behind l

        length-m : length m ≡ yard_length
        length-m = length_front ys l long whole

        inside-m : inside (stored m state_length zeros) ≡ ys
        inside-m = inside-stored m state_length zeros (omega arith) ∙ inside-front ys l long

        yard-is : yard_of (stored m state_length zeros) ≡ record { receiver = (started_of s keys groups).receiver; calls = replicate call_count none }
        unfolding yard_of
        yard-is = λ x.
            record {
              receiver = (ap decode_of inside-m ∙ u.receiver z) x;
              calls = table_same (call_no (stored m state_length zeros)) none 0 call_count (λ i a b. none-there m length-m i (omega arith)) x;
            }

        pub yard-set : (left : List ℕ) → left ≡ stored m state_length zeros → YardSetUp l s keys groups left 0
        unfolding yard_setup_octets
        yard-set left p =
            let b : eqb (yard_setup_code l s keys groups) 0 ≡ true = eq-eqb (yard_setup_code l s keys groups) 0 (sym set_code ∙ z) in
            record {
              number = sym z ∙ set_code;
              octets = rw b (p ∙ over-calls m length-m ∙ ap (λ (x : List ℕ). x ++ zeros) (inside-front ys l long ∙ fresh));
              yard = λ e. ap yard_of p ∙ yard-is;
              answer = λ e. ap (λ (x : List ℕ). last_of (inside x)) p ∙ ap last_of inside-m ∙ u.answer z;
            }

-- an accepted setup leaves a yard set
pub set-length : (l : List ℕ) (s : Setup) (keys groups left : List ℕ) → YardSetUp l s keys groups left 0 → length left ≡ yard_length
unfolding yard_setup_octets
set-length l s keys groups left u =
    let b : eqb (yard_setup_code l s keys groups) 0 ≡ true = eq-eqb (yard_setup_code l s keys groups) 0 (sym u.number) in
    let q : left ≡ fresh_octets s keys groups ++ zeros = u.octets ∙ rw b in
    ap length q ∙ length-append (fresh_octets s keys groups) zeros ∙ omega (arith, length-fresh s keys groups, length-zeros)
