-- No message has more fields than bits: of all numbers but one, and of all numbers side by side, there are no more than they have bits. Assumes nothing.
use mathlib.Core.Path.{◌≡◌, refl}
use mathlib.Core.List.{List, [], ◌∷◌, ◌++◌}
use mathlib.Core.Bool.{Bool, true, false}
use Prim.Native.Nat.{ℕ, zero, suc, ◌+◌, ◌*◌, ◌≤◌}
use native.Mathlib.Omega.{arith}
use lib.ListN.{length, length-append}
use lib.Dec.{leb, eqb}
use borrow.Author.Tests.{leb-true, eqb-true}
use Rattle.bits.specs.Field.{both, pick}
use Rattle.bits.proofs.Answers.{both_true}
use Rattle.csn1.specs.Format.{Res, ok, bad, Format, num, total}
use Rattle.csn1.specs.Grammar.{Grammar, number, numbers, low-high, ◌and◌, ◌then_by◌, flagged, listed, later, one_of, only_if, refuse, inside, format}
use Rattle.csn1.specs.Told.{lead}
use Rattle.call.specs.Call.{one_to_eight, allocation, description, call_grammar}
use Rattle.nch.specs.Octets.{rest_octets}
use Rattle.facch.specs.Message.{identity, message}
use Rattle.trace.specs.Fields.{Met, Kinds, kind_of, row_of, first_of, second_of, part_of, met_at, one_met, side_by_side, row_met, behind, met_items, lead_met, met_of}
use Rattle.trace.specs.NchKinds.{nch_kinds}
use Rattle.trace.specs.FacchKinds.{facch_kinds}
use Rattle.trace.specs.Promises.{Gapless, end_of, NoMessageHasMoreFieldsThanBits}
use Rattle.trace.proofs.Fair.{within}
use Rattle.trace.proofs.Promises.{fair}
use Rattle.trace.proofs.Tracing.{checked-ok}
use Rattle.trace.proofs.Rows.{side_length}

-- ## Fields and their bits

abbrev bits_of : List Met → ℕ
bits_of [] = 0
bits_of (m ∷ ms) = m.width + bits_of ms

abbrev Dense : List Met → Type 0
Dense xs = length xs ≤ bits_of xs

bits-append : (xs ys : List Met) → bits_of (xs ++ ys) ≡ bits_of xs + bits_of ys
bits-append [] ys = omega arith
bits-append (m ∷ xs) ys = omega (arith, bits-append xs ys)

dense-append : (xs ys : List Met) → Dense xs → Dense ys → Dense (xs ++ ys)
dense-append xs ys g h = omega (arith, length-append xs ys, bits-append xs ys)

-- without a gap, they end so many bits behind
ends_at : (p : ℕ) (xs : List Met) → Gapless p xs → end_of p xs ≡ p + bits_of xs
ends_at p [] g = omega arith
ends_at p (m ∷ xs) g = let e : m.place ≡ p = g.0 in omega (arith, ends_at (m.place + m.width) xs g.1)

dense-pick : (t : Bool) (xs ys : List Met) → Dense xs → Dense ys → Dense (pick t xs ys)
dense-pick true xs ys g h = g
dense-pick false xs ys g h = h

dense-behind : {A : Type 0} (x : Res A) (ys : A → ℕ → List Met) → ((a : A) (q : ℕ) → x ≡ ok a q → Dense (ys a q)) → Dense (behind x ys)
dense-behind (ok a q) ys h = h a q refl
dense-behind (bad r) ys h = omega arith

dense-one : (k w : ℕ) (s : List ℕ) (p : ℕ) → 1 ≤ w → Dense (one_met k w s p)
dense-one k w s p h = dense-pick (leb (p + w) (length s * 8)) (met_at k w s p ∷ []) [] (omega arith) (omega arith)

side_bits : (ks ws s : List ℕ) (p : ℕ) → bits_of (side_by_side ks ws s p) ≡ total ws
side_bits ks [] s p = refl
side_bits [] (w ∷ ws) s p = omega (arith, side_bits [] ws s (p + w))
side_bits (k ∷ ks) (w ∷ ws) s p = omega (arith, side_bits ks ws s (p + w))

dense-row : (ks ws s : List ℕ) (p : ℕ) → length ws ≤ total ws → Dense (row_met ks ws s p)
dense-row ks ws s p h =
    dense-pick (leb (p + total ws) (length s * 8)) (side_by_side ks ws s p) [] (omega (arith, side_length ks ws s p, side_bits ks ws s p)) (omega arith)

dense-items : {A : Type 0} (F : Format A) (part : ℕ → List Met) → ((q : ℕ) → Dense (part q)) → (k n : ℕ) (s : List ℕ) (p : ℕ) → Dense (met_items F part k n s p)
unfolding met_items
dense-items F part h k zero s p = omega arith
dense-items F part h k (suc n) s p =
    dense-append (one_met k 1 s p) (behind ((num 1).read s p) (λ b q. pick (eqb b 0) [] (part q ++ behind (F.read s q) (λ a m. met_items F part k n s m)))) (dense-one k 1 s p (omega arith))
    (dense-behind ((num 1).read s p) (λ b q. pick (eqb b 0) [] (part q ++ behind (F.read s q) (λ a m. met_items F part k n s m)))
    (λ b q e.
    dense-pick (eqb b 0) [] (part q ++ behind (F.read s q) (λ a m. met_items F part k n s m)) (omega arith)
    (dense-append (part q) (behind (F.read s q) (λ a m. met_items F part k n s m)) (h q)
    (dense-behind (F.read s q) (λ a m. met_items F part k n s m) (λ a m f. dense-items F part h k n s m)))))

-- ## Grammars

abbrev Broad : {A : Type 0} → Grammar A → Type 0
Broad (number w) = 1 ≤ w
Broad (numbers ws) = length ws ≤ total ws
Broad low-high = Unit {0}
Broad (◌and◌ f g) = Broad f × Broad g
Broad (◌then_by◌ {A} f g) = Broad f × ((s : List ℕ) (p : ℕ) (a : A) (q : ℕ) → (format f).read s p ≡ ok a q → Broad (g a))
Broad (flagged f) = Broad f
Broad (listed f) = Broad f
Broad (later f) = Broad f
Broad (one_of f g) = Broad f × Broad g
Broad (only_if t f) = Broad f
Broad (refuse m t f) = Broad f
Broad (inside m f) = Broad f

dense : {A : Type 0} (g : Grammar A) → Broad g → (k : Kinds) (s : List ℕ) (p : ℕ) → Dense (met_of g k s p)
unfolding met_of
dense (number w) b k s p = dense-one (kind_of k) w s p b
dense (numbers ws) b k s p = dense-row (row_of k) ws s p b
dense low-high b k s p = dense-one (kind_of k) 1 s p (omega arith)
dense (◌and◌ f g) b k s p =
    dense-append (met_of f (first_of k) s p) (behind ((format f).read s p) (λ a q. met_of g (second_of k) s q)) (dense f b.0 (first_of k) s p)
    (dense-behind ((format f).read s p) (λ a q. met_of g (second_of k) s q) (λ a q e. dense g b.1 (second_of k) s q))
dense (◌then_by◌ f g) b k s p =
    dense-append (met_of f (first_of k) s p) (behind ((format f).read s p) (λ a q. met_of (g a) (second_of k) s q)) (dense f b.0 (first_of k) s p)
    (dense-behind ((format f).read s p) (λ a q. met_of (g a) (second_of k) s q) (λ a q e. dense (g a) (b.1 s p a q e) (second_of k) s q))
dense (flagged f) b k s p =
    dense-append (one_met (kind_of k) 1 s p) (behind ((num 1).read s p) (λ b q. pick (eqb b 0) [] (met_of f (part_of k) s q))) (dense-one (kind_of k) 1 s p (omega arith))
    (dense-behind ((num 1).read s p) (λ b q. pick (eqb b 0) [] (met_of f (part_of k) s q))
    (λ a q e. dense-pick (eqb a 0) [] (met_of f (part_of k) s q) (omega arith) (dense f b (part_of k) s q)))
dense (listed f) b k s p = dense-items (format f) (λ q. met_of f (part_of k) s q) (λ q. dense f b (part_of k) s q) (kind_of k) (length s * 8 + 1) s p
dense (later f) b k s p =
    dense-append (lead_met (kind_of k) s p) (behind (lead s p) (λ h q. pick h (met_of f (part_of k) s q) []))
    (dense-pick (eqb p (length s * 8)) [] (one_met (kind_of k) 1 s p) (omega arith) (dense-one (kind_of k) 1 s p (omega arith)))
    (dense-behind (lead s p) (λ h q. pick h (met_of f (part_of k) s q) []) (λ h q e. dense-pick h (met_of f (part_of k) s q) [] (dense f b (part_of k) s q) (omega arith)))
dense (one_of f g) b k s p =
    dense-append (one_met (kind_of k) 1 s p) (behind ((num 1).read s p) (λ b q. pick (eqb b 0) (met_of f (first_of k) s q) (met_of g (second_of k) s q))) (dense-one (kind_of k) 1 s p (omega arith))
    (dense-behind ((num 1).read s p) (λ b q. pick (eqb b 0) (met_of f (first_of k) s q) (met_of g (second_of k) s q))
    (λ a q e. dense-pick (eqb a 0) (met_of f (first_of k) s q) (met_of g (second_of k) s q) (dense f b.0 (first_of k) s q) (dense g b.1 (second_of k) s q)))
dense (only_if t f) b k s p = dense-pick t (met_of f k s p) [] (dense f b k s p) (omega arith)
dense (refuse m t f) b k s p = dense f b k s p
dense (inside m f) b k s p = dense f b k s p

-- from the first bit on, no more fields than bits
few : {A : Type 0} (g : Grammar A) → Broad g → (k : Kinds) (s : List ℕ) → length (met_of g k s 0) ≤ length s * 8
few g b k s =
    let f = fair g k s 0 (omega arith) in
    omega (arith, dense g b k s 0, ends_at 0 (met_of g k s 0) f.gapless, (within s 0 (met_of g k s 0) (omega arith) f.gapless f.standing).1)

-- ## Our two messages

-- a length octet is 1 at least
broad_allocation : Broad allocation
broad_allocation = (omega arith, λ s p a q e. omega (arith, leb-true 1 a (both_true (leb 1 a) (leb a 8) (checked-ok one_to_eight 3 ((num 8).read s p) a q e).1).0))

broad_description : Broad description
broad_description = ((omega arith, omega arith), λ s p a q e. (broad_allocation, omega arith))

broad_call : Broad call_grammar
broad_call = (omega arith, broad_description)

broad_nch : Broad rest_octets
broad_nch = (
  omega arith,
  (
    broad_call,
    (
      (omega arith, (omega arith, (omega arith, omega arith))),
      (omega arith, (omega arith, ((omega arith, omega arith), (omega arith, omega arith)))),
    ),
  ),
)

broad_identity : Broad identity
broad_identity = (omega arith, λ s p a q e. omega arith)

broad_facch : Broad message
broad_facch = (
  omega arith,
  (
    (broad_call, (broad_identity, (omega arith, omega arith))),
    (((omega arith, omega arith), omega arith), (tt, (tt, omega arith))),
  ),
)

pub no_message_has_more_fields_than_bits : NoMessageHasMoreFieldsThanBits
no_message_has_more_fields_than_bits s = (nch (eqb (length s) 20) refl, facch (both (leb 2 (length s)) (leb (length s) 23)) refl)
  where
    nch : (t : Bool) → eqb (length s) 20 ≡ t → length (pick t (met_of rest_octets nch_kinds s 0) []) ≤ 160
    nch true e = omega (arith, eqb-true (length s) 20 e, few rest_octets broad_nch nch_kinds s)
    nch false e = omega arith

    facch : (t : Bool) → both (leb 2 (length s)) (leb (length s) 23) ≡ t → length (pick t (met_of message facch_kinds s 0) []) ≤ 184
    facch true e = omega (arith, leb-true (length s) 23 (both_true (leb 2 (length s)) (leb (length s) 23) e).1, few message broad_facch facch_kinds s)
    facch false e = omega arith
