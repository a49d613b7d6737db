-- A rule that takes nothing of what is held sweeps as one that takes nothing at all; and by which octets that is seen. Assumes nothing.
use mathlib.Core.Path.{◌≡◌, refl, ap, sym, ◌∙◌}
use mathlib.Core.Bool.{Bool, true, false, not, true≢false}
use mathlib.Core.List.{List}
use Prim.Native.Nat.{ℕ, zero, suc, ◌+◌, ◌-◌, ◌*◌, ◌/◌, ◌%◌, ◌≤◌, ◌<◌}
use native.Mathlib.Nat.{add-zero}
use native.Mathlib.Omega.{arith}
use lib.Dec.{ltb, eqb}
use lib.Bits.{bit_and, bit_or, and_shr, and_mod, and_mask, or_shr, or_mod}
use lib.ListN.{length, get_or}
use borrow.Author.Tests.{eqb-true, eqb-false, ltb-true, ltb-false}
use Rattle.bits.specs.Field.{pick}
use Rattle.receiver.specs.declared.Rule.{Rule}
use Rattle.receiver.specs.Channels.{channels, key_count, places, place_on, side_of, index_in}
use Rattle.receiver.specs.Model.{keep, takes, spares, is_held, ran_out_of, taken_of, dropped_of}
use Rattle.receiver.proofs.Cases.{by-test}
use Rattle.layout.specs.Octets.{le_at}
use Rattle.layout.specs.Layout.{kinds_from, state_length, kind_place, slot_no, decode_of}
use Rattle.layout.specs.Sweep.{timer_no, swept_at, swept_run}
use Rattle.layout.specs.Inner.{Leaves, octet_of, Thirds}
use Rattle.layout.proofs.Wide.{Octs}
use Rattle.layout.proofs.Sweeps.{taken-empty, run-timer, run-slot, count_ext, count-dropped}
use Rattle.layout.proofs.Runs.{taken_at, Swept}
use Rattle.layout.proofs.NoneOut.{or_none, never, taken_none}

-- ## The sweep

module _ (now : ℕ) (rule : Rule) (l : List ℕ) (left : Leaves rule l) where
  -- no place is taken
  taken-left : (i : ℕ) → i < places → taken_at now rule l i ≡ false
  unfolding taken_of
  taken-left i h =
      by-test (spares rule i) (λ p. rw p (never (is_held (slot_no l i)) (not (ran_out_of now (timer_no l i) (slot_no l i)))))
      (λ p. taken-empty now rule l i (left i h p))

  at_same : (k : List ℕ) (i : ℕ) → taken_at now rule k i ≡ false → swept_at now rule k i ≡ swept_at now keep k i
  unfolding swept_at
  at_same k i p = rw (p, taken_none now keep refl (timer_no k i) i (slot_no k i))

  module _ (m : length l ≡ state_length) where
    -- a place's fate does not depend on those before it
    taken-there : (n i : ℕ) → n ≤ i → i < places → taken_at now rule (swept_run now keep 0 n l) i ≡ false
    taken-there n i o h =
        (λ x. taken_of now (run-timer now keep 0 n l (omega arith) i x) rule i (run-slot now keep 0 n l i m (omega arith) h (λ q. omega arith) x)) ∙ taken-left i h

    run-same : (n : ℕ) → n ≤ places → swept_run now rule 0 n l ≡ swept_run now keep 0 n l
    unfolding swept_run
    run-same zero h = refl
    run-same (suc n) h =
        ap (λ (x : List ℕ). swept_at now rule x (0 + n)) (run-same n (omega arith))
        ∙ at_same (swept_run now keep 0 n l) (0 + n) (taken-there n (0 + n) (omega arith) (omega arith))

    pub swept-left : (x d : ℕ) (b : List ℕ) → Swept now keep l x d b → Swept now rule l x d b
    swept-left x d b w =
        let e : dropped_of (decode_of l) now keep ≡ dropped_of (decode_of l) now rule =
        count-dropped l now keep
        ∙ count_ext (taken_at now keep l) (taken_at now rule l) 0 places
        (λ k h. taken_none now keep refl (timer_no l (0 + k)) (0 + k) (slot_no l (0 + k)) ∙ sym (taken-left (0 + k) (omega arith)))
        ∙ sym (count-dropped l now rule)
        in
        (w.0, (w.1.0 ∙ e, w.1.1 ∙ sym (run-same places (omega arith))))

-- ## By channels

-- no other key than one holds anything on a channel
abbrev pub Alone : List ℕ → ℕ → ℕ → Type 0
Alone l but ch = (key : ℕ) → key < key_count → (key ≡ but → ⊥) → get_or l (kind_place (place_on key ch)) 0 ≡ 0

not_left : (a b : Bool) → pick a b true ≡ false → (a ≡ true) × (b ≡ false)
not_left true b e = (refl, e)
not_left false b e = absurd (true≢false e)

pub leaves_by : (rule : Rule) (l : List ℕ) → (rule.nch ≡ true → Alone l rule.but 0) → (rule.facch ≡ true → Alone l rule.but 1)
    → (rule.pch ≡ true → Alone l rule.but 2) → Leaves rule l
unfolding spares
leaves_by rule l n f p i h e =
    let s = not_left (takes rule (side_of i)) (eqb (index_in i) rule.but) e in
    let o : index_in i ≡ rule.but → ⊥ = eqb-false (index_in i) rule.but s.1 in
    let at : place_on (index_in i) (side_of i) ≡ i = omega arith in
    let on : (ch : ℕ) → side_of i ≡ ch → Alone l rule.but ch → get_or l (kind_place i) 0 ≡ 0 =
    λ ch q a. rw (← at, q) (a (index_in i) (omega arith) o)
    in
    by-test (eqb (side_of i) 0) (λ t. on 0 (eqb-true (side_of i) 0 t) (n (rw t at s.0)))
    (λ t. by-test (eqb (side_of i) 1) (λ u. on 1 (eqb-true (side_of i) 1 u) (f (rw (t, u) at s.0)))
    (λ u. on 2 (omega (arith, eqb-false (side_of i) 0 t, eqb-false (side_of i) 1 u)) (p (rw (t, u) at s.0))))

-- ## The octets of a number

octet_or : (k a b : ℕ) → octet_of (bit_or a b) k ≡ bit_or (octet_of a k) (octet_of b k)
unfolding octet_of
octet_or zero a b = or_mod a b 8
octet_or (suc k) a b = ap (λ (x : ℕ). octet_of x k) (or_shr a b 8) ∙ octet_or k (a / 256) (b / 256)

octet_and : (k a b : ℕ) → octet_of (bit_and a b) k ≡ bit_and (octet_of a k) (octet_of b k)
unfolding octet_of
octet_and zero a b = and_mod a b 8
octet_and (suc k) a b = ap (λ (x : ℕ). octet_of x k) (and_shr a b 8) ∙ octet_and k (a / 256) (b / 256)

octet-low : (k x : ℕ) → octet_of x k < 256
unfolding octet_of
octet-low zero x = omega arith
octet-low (suc k) x = octet-low k (x / 256)

octet-none : (k : ℕ) → octet_of 0 k ≡ 0
unfolding octet_of
octet-none zero = refl
octet-none (suc k) = octet-none k

octet_le : (w k : ℕ) (l : List ℕ) (at : ℕ) → k < w → Octs l → octet_of (le_at w l at) k ≡ get_or l (at + k) 0
unfolding octet_of le_at
octet_le zero k l at h o = absurd (omega arith)
octet_le (suc w) zero l at h o = rw (add-zero at) (omega (arith, o at))
octet_le (suc w) (suc k) l at h o =
    let e : (get_or l at 0 + le_at w l (at + 1) * 256) / 256 ≡ le_at w l (at + 1) = omega (arith, o at) in
    let q : at + 1 + k ≡ at + suc k = omega arith in
    ap (λ (x : ℕ). octet_of x k) e ∙ octet_le w k l (at + 1) (omega arith) o ∙ ap (λ (j : ℕ). get_or l j 0) q

-- an octet that a mask has whole
masked : (x m k : ℕ) → bit_and x m ≡ 0 → octet_of m k ≡ 255 → octet_of x k ≡ 0
masked x m k e f =
    let p : bit_and (octet_of x k) 255 ≡ 0 = ap (λ (n : ℕ). bit_and (octet_of x k) n) (sym f) ∙ sym (octet_and k x m) ∙ ap (λ (n : ℕ). octet_of n k) e ∙ octet-none k in
    omega (arith, sym (and_mask (octet_of x k) 8) ∙ p, octet-low k x)

-- ## Every third octet, by three masks

of-eight : (P : ℕ → Type 0) → P 0 → P 1 → P 2 → P 3 → P 4 → P 5 → P 6 → P 7 → (k : ℕ) → k < 8 → P k
of-eight P a b c d e f g h zero lt = a
of-eight P a b c d e f g h (suc zero) lt = b
of-eight P a b c d e f g h (suc (suc zero)) lt = c
of-eight P a b c d e f g h (suc (suc (suc zero))) lt = d
of-eight P a b c d e f g h (suc (suc (suc (suc zero)))) lt = e
of-eight P a b c d e f g h (suc (suc (suc (suc (suc zero))))) lt = f
of-eight P a b c d e f g h (suc (suc (suc (suc (suc (suc zero)))))) lt = g
of-eight P a b c d e f g h (suc (suc (suc (suc (suc (suc (suc zero))))))) lt = h
of-eight P a b c d e f g h (suc (suc (suc (suc (suc (suc (suc (suc k)))))))) lt = absurd (omega (arith, lt))

-- the masks' octets, whole where they are not empty
first_mask : (k : ℕ) → k < 8 → k % 3 ≡ 0 → octet_of 71776123339407615 k ≡ 255
unfolding octet_of
first_mask =
    of-eight (λ k. k % 3 ≡ 0 → octet_of 71776123339407615 k ≡ 255) (λ e. refl) (λ e. absurd (omega (arith, e))) (λ e. absurd (omega (arith, e))) (λ e. refl)
    (λ e. absurd (omega (arith, e))) (λ e. absurd (omega (arith, e))) (λ e. refl) (λ e. absurd (omega (arith, e)))

second_mask : (k : ℕ) → k < 8 → k % 3 ≡ 1 → octet_of 18374687574888349440 k ≡ 255
unfolding octet_of
second_mask =
    of-eight (λ k. k % 3 ≡ 1 → octet_of 18374687574888349440 k ≡ 255) (λ e. absurd (omega (arith, e))) (λ e. refl) (λ e. absurd (omega (arith, e)))
    (λ e. absurd (omega (arith, e))) (λ e. refl) (λ e. absurd (omega (arith, e))) (λ e. absurd (omega (arith, e))) (λ e. refl)

third_mask : (k : ℕ) → k < 8 → k % 3 ≡ 2 → octet_of 280375481794560 k ≡ 255
unfolding octet_of
third_mask =
    of-eight (λ k. k % 3 ≡ 2 → octet_of 280375481794560 k ≡ 255) (λ e. absurd (omega (arith, e))) (λ e. absurd (omega (arith, e))) (λ e. refl)
    (λ e. absurd (omega (arith, e))) (λ e. absurd (omega (arith, e))) (λ e. refl) (λ e. absurd (omega (arith, e))) (λ e. absurd (omega (arith, e)))

pub thirds : (x y z : ℕ) → bit_or (bit_or (bit_and x 71776123339407615) (bit_and y 18374687574888349440)) (bit_and z 280375481794560) ≡ 0 → Thirds x y z
thirds x y z e k h =
    let p = or_none _ _ e in
    let q = or_none _ _ p.0 in
    (λ r. masked x _ k q.0 (first_mask k h r), (λ r. masked y _ k q.1 (second_mask k h r), λ r. masked z _ k p.1 (third_mask k h r)))

-- ## The kinds of all places in three numbers

-- an octet that is 0 says so of each place before i that stands there in its 24
abbrev pub Seen : List ℕ → ℕ → ℕ → ℕ → Type 0
Seen l off i x = (k : ℕ) → k < 8 → octet_of x k ≡ 0 → (j : ℕ) → j < i → j % 24 ≡ off + k → get_or l (kind_place j) 0 ≡ 0

pub seen_none : (l : List ℕ) (off x : ℕ) → Seen l off 0 x
seen_none l off x k h e j lt q = absurd (omega (arith, lt))

pub seen_more : (l : List ℕ) (off i x w at : ℕ) → Octs l → i % 24 ≡ 0 → Seen l off i x → w ≡ le_at 8 l at → at ≡ kinds_from + i + off → Seen l off (i + 24) (bit_or x w)
seen_more l off i x w at o z s p q k h e j lt r =
    let n = or_none (octet_of x k) (octet_of w k) (sym (octet_or k x w) ∙ e) in
    by-test (ltb j i) (λ t. s k h n.0 j (ltb-true j i t) r)
    (λ t.
    let g : i ≤ j = ltb-false j i t in
    let u : at + k ≡ kind_place j = omega (arith, q, g, lt, r, z, h) in
    sym (ap (λ (m : ℕ). get_or l m 0) u) ∙ sym (octet_le 8 k l at h o) ∙ ap (λ (m : ℕ). octet_of m k) (sym p) ∙ n.1)

module _ (l : List ℕ) (x y z : ℕ) (sx : Seen l 0 168 x) (sy : Seen l 8 144 y) (sz : Seen l 16 144 z) where
  -- the places of channel c, where the octets of its places are 0
  module _ (c : ℕ) (tx : (k : ℕ) → k < 8 → k % 3 ≡ c → octet_of x k ≡ 0) (ty : (k : ℕ) → k < 8 → k % 3 ≡ (c + 1) % 3 → octet_of y k ≡ 0)
      (tz : (k : ℕ) → k < 8 → k % 3 ≡ (c + 2) % 3 → octet_of z k ≡ 0) where
    place_none : (j : ℕ) → j < places → j % 3 ≡ c → get_or l (kind_place j) 0 ≡ 0
    place_none j h e =
        by-test (ltb (j % 24) 8)
        (λ t.
        let a : j % 24 < 8 = ltb-true (j % 24) 8 t in
        sx (j % 24) a (tx (j % 24) a (omega (arith, e))) j (omega (arith, h)) (omega arith))
        (λ t.
        by-test (ltb (j % 24) 16)
        (λ u.
        let a : j % 24 - 8 < 8 = omega (arith, ltb-true (j % 24) 16 u) in
        let b : 8 ≤ j % 24 = ltb-false (j % 24) 8 t in
        sy (j % 24 - 8) a (ty (j % 24 - 8) a (omega (arith, e, b))) j (omega (arith, h, b)) (omega (arith, b)))
        (λ u.
        let a : j % 24 - 16 < 8 = omega arith in
        let b : 16 ≤ j % 24 = ltb-false (j % 24) 16 u in
        sz (j % 24 - 16) a (tz (j % 24 - 16) a (omega (arith, e, b))) j (omega (arith, h, b)) (omega (arith, b))))

    channel-none : (but : ℕ) → c < channels → Alone l but c
    channel-none but h key lt o = place_none (place_on key c) (omega arith) (omega arith)

  pub bare-said : (rule : Rule) → (rule.nch ≡ true → Thirds x y z) → (rule.facch ≡ true → Thirds z x y) → (rule.pch ≡ true → Thirds y z x) → Leaves rule l
  bare-said rule n f p =
      leaves_by rule l
      (λ t. channel-none 0 (λ k h. (n t k h).0) (λ k h. (n t k h).1.0) (λ k h. (n t k h).1.1) rule.but (omega arith))
      (λ t. channel-none 1 (λ k h. (f t k h).1.0) (λ k h. (f t k h).1.1) (λ k h. (f t k h).0) rule.but (omega arith))
      (λ t. channel-none 2 (λ k h. (p t k h).1.1) (λ k h. (p t k h).0) (λ k h. (p t k h).1.0) rule.but (omega arith))
