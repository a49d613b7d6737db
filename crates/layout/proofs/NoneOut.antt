-- What looking at the places finds: none is held, and no half has run out. Assumes nothing.
use mathlib.Core.Path.{◌≡◌, refl, ap, sym, ◌∙◌}
use mathlib.Core.Bool.{Bool, true, false, not, ◌&&◌, ◌||◌, true≢false}
use mathlib.Core.List.{List}
use Prim.Native.Nat.{ℕ, zero, suc, ◌+◌, ◌-◌, ◌≤◌, ◌<◌, ◌*◌, ◌/◌}
use native.Mathlib.Nat.{add_assoc, add-zero}
use native.Mathlib.Omega.{arith}
use lib.Dec.{ltb, leb, eqb}
use lib.Bits.{bit_or, or_add_and, and_le_l, and_le_r}
use lib.ListN.{get_or}
use borrow.Author.Tests.{eqb-true, eqb-false, ltb-true, ltb-false, not-true}
use Rattle.bits.specs.Field.{both}
use Rattle.bits.proofs.Answers.{both_true}
use Rattle.receiver.specs.declared.Rule.{Rule}
use Rattle.receiver.specs.declared.Slot.{Slot}
use Rattle.receiver.specs.Channels.{places, side_of}
use Rattle.receiver.specs.Model.{wrap_sub, takes, spares, is_held, ran_out_of, taken_of, dropped_of}
use Rattle.receiver.proofs.Cases.{by-test}
use Rattle.layout.specs.Octets.{le_at}
use Rattle.layout.specs.Layout.{kinds_from, kind_place, since_place, slot_no, decode_of}
use Rattle.layout.specs.Sweep.{timer_no, swept_at, swept_run}
use Rattle.layout.specs.Inner.{Running, takes_none_of}
use Rattle.layout.proofs.Numbers.{zero_le}
use Rattle.layout.proofs.Sweeps.{ran-empty, count_ext, count-dropped}
use Rattle.layout.proofs.Runs.{ran_at, taken_at, age-said, ran-held, places-still, Swept, swept-said}

-- ## Places and octets of which something holds, span after span

span_join : (P : ℕ → Type 0) (at m n : ℕ) → ((k : ℕ) → k < m → P (at + k)) → ((k : ℕ) → k < n → P (at + m + k)) → (k : ℕ) → k < m + n → P (at + k)
span_join P at m n p q k h =
    by-test (ltb k m) (λ t. p k (ltb-true k m t))
    (λ t.
    let g : m ≤ k = ltb-false k m t in
    let e : at + m + (k - m) ≡ at + k = omega arith in
    rw e at (q (k - m) (omega arith)))

abbrev pub Zeros : List ℕ → ℕ → ℕ → Type 0
Zeros l at n = (k : ℕ) → k < n → get_or l (at + k) 0 ≡ 0

-- eight more of them, by one number
pub zeros-more : (l : List ℕ) (at n : ℕ) → Zeros l at n → le_at 8 l (at + n) ≡ 0 → Zeros l at (n + 8)
zeros-more l at n p e = span_join (λ j. get_or l j 0 ≡ 0) at n 8 p (zero_le 8 l (at + n) e)

-- 24 of them, by three numbers
pub quiet_24 : (l : List ℕ) (at : ℕ) → le_at 8 l at ≡ 0 → le_at 8 l (at + 8) ≡ 0 → le_at 8 l (at + 16) ≡ 0 → Zeros l at 24
quiet_24 l at p q r = zeros-more l at 16 (zeros-more l at 8 (zero_le 8 l at p) q) r

-- neither of two
neither : (a b : Bool) → (a || b) ≡ false → (a ≡ false) × (b ≡ false)
neither true b e = absurd (true≢false e)
neither false b e = (refl, e)

-- two numbers whose bits together are none
pub or_none : (a b : ℕ) → bit_or a b ≡ 0 → (a ≡ 0) × (b ≡ 0)
or_none a b e = (omega (arith, e, or_add_and a b, and_le_l a b, and_le_r a b), omega (arith, e, or_add_and a b, and_le_l a b, and_le_r a b))

-- ## No half has run out

-- the places in whole groups of twenty-four
abbrev pub many : ℕ
many = places / 24 * 24

module _ (now : ℕ) (l : List ℕ) where
  -- by the numbers of the code's test
  pub late-said : (i timer since age : ℕ) → timer ≡ timer_no l i → since ≡ le_at 4 l (since_place i) → age ≡ wrap_sub now since
      → (not (eqb (get_or l (kind_place i) 0) 0) && leb timer age) ≡ ran_at now l i
  late-said i timer since age p q r =
      by-test (eqb (get_or l (kind_place i) 0) 0) (λ t. rw t (sym (ran-empty now l i (eqb-true _ _ t))))
      (λ t. rw t (sym (ran-held now l i (eqb-false _ _ t) ∙ age-said now l i timer since age p q r)))

  -- places whose kinds are 0, and are one number 0; and some of those
  pub running-quiet : (from n : ℕ) → Zeros l (kind_place from) n → Running now l from n
  running-quiet from n z k q = ran-empty now l (from + k) (ap (λ j. get_or l j 0) (sym (add_assoc kinds_from from k)) ∙ z k q)

  pub running-empty : (from n : ℕ) → le_at n l (kind_place from) ≡ 0 → Running now l from n
  running-empty from n e = running-quiet from n (zero_le n l (kind_place from) e)

  pub running-among : (from n : ℕ) → n ≤ 8 → le_at 8 l (kind_place from) ≡ 0 → Running now l from n
  running-among from n h e k q = running-empty from 8 e k (omega arith)

  pub running_none : (from : ℕ) → Running now l from 0
  running_none from k h = absurd (omega arith)

  pub running_more : (from m n : ℕ) → Running now l from m → Running now l (from + m) n → Running now l from (m + n)
  running_more from m n p q = span_join (λ j. ran_at now l j ≡ false) from m n p q

  pub running-next : (from n : ℕ) → Running now l from n → ran_at now l (from + n) ≡ false → Running now l from (n + 1)
  running-next from n p q = running_more from n 1 p (λ k h. let e : from + n + k ≡ from + n = omega arith in rw e q)

  -- three places from a place on of which none is late, and then three more, and two
  running-three : (from : ℕ) (a b d : Bool) → a ≡ ran_at now l from → b ≡ ran_at now l (from + 1) → d ≡ ran_at now l (from + 2) → (a || b || d) ≡ false → Running now l from 3
  running-three from a b d p q r e =
      let y = neither (a || b) d e in
      let x = neither a b y.0 in
      running-next from 2 (running-next from 1 (running-next from 0 (running_none from) (rw (add-zero from) (sym p ∙ x.0))) (sym q ∙ x.1)) (sym r ∙ y.1)

  pub running-six : (from : ℕ) (a b d f g h : Bool) → a ≡ ran_at now l from → b ≡ ran_at now l (from + 1) → d ≡ ran_at now l (from + 2) → f ≡ ran_at now l (from + 3)
      → g ≡ ran_at now l (from + 4) → h ≡ ran_at now l (from + 5) → not ((a || b || d) || (f || g || h)) ≡ true → Running now l from 6
  running-six from a b d f g h p q r s t u e =
      let z = neither (a || b || d) (f || g || h) (not-true _ e) in
      let y = neither (f || g) h z.1 in
      let x = neither f g y.0 in
      running-next from 5 (running-next from 4 (running-next from 3 (running-three from a b d p q r z.0) (sym s ∙ x.0)) (sym t ∙ x.1)) (sym u ∙ y.1)

  pub running-eight : (from : ℕ) (a b d f g h m n : Bool) → a ≡ ran_at now l from → b ≡ ran_at now l (from + 1) → d ≡ ran_at now l (from + 2) → f ≡ ran_at now l (from + 3)
      → g ≡ ran_at now l (from + 4) → h ≡ ran_at now l (from + 5) → m ≡ ran_at now l (from + 6) → n ≡ ran_at now l (from + 7)
      → not ((a || b || d || f) || (g || h || m || n)) ≡ true → Running now l from 8
  running-eight from a b d f g h m n p q r s t u v w e =
      let z = neither (a || b || d || f) (g || h || m || n) (not-true _ e) in
      let low = neither (a || b || d) f z.0 in
      let y = neither (g || h || m) n z.1 in
      let x = neither (g || h) m y.0 in
      let o = neither g h x.0 in
      let four = running-next from 3 (running-three from a b d p q r low.0) (sym s ∙ low.1) in
      running-next from 7 (running-next from 6 (running-next from 5 (running-next from 4 four (sym t ∙ o.0)) (sym u ∙ o.1)) (sym v ∙ x.1)) (sym w ∙ y.1)

-- ## A rule that takes halves of no channel

takes_none : (rule : Rule) → takes_none_of rule ≡ true → (ch : ℕ) → takes rule ch ≡ false
takes_none rule e ch =
    let n = both_true (not rule.nch) (both (not rule.facch) (not rule.pch)) e in
    let m = both_true (not rule.facch) (not rule.pch) n.1 in
    by-test (eqb ch 0) (λ p. rw p (not-true rule.nch n.0))
    (λ p. by-test (eqb ch 1) (λ q. rw (p, q) (not-true rule.facch m.0)) (λ q. rw (p, q) (not-true rule.pch m.1)))

-- it spares every place
spares-none : (rule : Rule) → takes_none_of rule ≡ true → (i : ℕ) → spares rule i ≡ true
unfolding spares
spares-none rule e i = rw (takes_none rule e (side_of i))

pub never : (a b : Bool) → both a (both b false) ≡ false
never true true = refl
never true false = refl
never false b = refl

module _ (now : ℕ) (rule : Rule) (none : takes_none_of rule ≡ true) where
  pub taken_none : (t i : ℕ) (s : Slot) → taken_of now t rule i s ≡ false
  unfolding taken_of
  taken_none t i s = rw (spares-none rule none i) (never (is_held s) (not (ran_out_of now t s)))

  -- where nothing has run out either, all is left
  pub swept-running : (l : List ℕ) → Running now l 0 places → Swept now rule l 0 0 l
  swept-running l e = swept-said now rule l (places-still now rule 0 places l 0 0 (λ k q. rw (e k q) (taken_none _ (0 + k) (slot_no l (0 + k)))))

-- two of them are one
module _ (now : ℕ) (r s : Rule) (p : takes_none_of r ≡ true) (q : takes_none_of s ≡ true) where
  taken_alike : (t i : ℕ) (x : Slot) → taken_of now t r i x ≡ taken_of now t s i x
  taken_alike t i x = taken_none now r p t i x ∙ sym (taken_none now s q t i x)

  at_alike : (l : List ℕ) (i : ℕ) → swept_at now r l i ≡ swept_at now s l i
  unfolding swept_at
  at_alike l i = rw (taken_alike (timer_no l i) i (slot_no l i))

  run_alike : (from n : ℕ) (l : List ℕ) → swept_run now r from n l ≡ swept_run now s from n l
  unfolding swept_run
  run_alike from zero l = refl
  run_alike from (suc n) l = at_alike (swept_run now r from n l) (from + n) ∙ ap (λ (x : List ℕ). swept_at now s x (from + n)) (run_alike from n l)

  dropped_alike : (l : List ℕ) → dropped_of (decode_of l) now r ≡ dropped_of (decode_of l) now s
  dropped_alike l =
      count-dropped l now r
      ∙ count_ext (taken_at now r l) (taken_at now s l) 0 places (λ k h. taken_alike (timer_no l (0 + k)) (0 + k) (slot_no l (0 + k)))
      ∙ sym (count-dropped l now s)

  pub swept_alike : (l : List ℕ) (x d : ℕ) (b : List ℕ) → Swept now r l x d b → Swept now s l x d b
  swept_alike l x d b w = (w.0, (w.1.0 ∙ dropped_alike l, w.1.1 ∙ run_alike 0 places l))
