-- Octets of a record's own: packed by fours, put by eights, and read as the record they are of. Assumes nothing.
use mathlib.Core.Path.{◌≡◌, refl, ap, sym, ◌∙◌}
use mathlib.Core.List.{List, [], ◌∷◌, ◌++◌, append_assoc, append-nil}
use mathlib.Core.Bool.{Bool, true, false}
use Prim.Native.Nat.{ℕ, zero, suc, ◌+◌, ◌*◌, ◌/◌, ◌%◌, ◌≤◌, ◌<◌}
use native.Mathlib.Nat.{add-zero, div-div-eq-div-mul}
use native.Mathlib.Omega.{arith}
use lib.Dec.{lit≤}
use lib.ListN.{length, get_or, take}
use lib.Seq.{take-suc, take_all, length-take-le}
use Rattle.csn1.specs.Told.{as_bit}
use Rattle.arrays.specs.Runs.{stored}
use Rattle.arrays.proofs.Running.{more, stored-whole}
use Rattle.receiver.specs.declared.Record.{Record}
use Rattle.receiver.specs.Model.{no_record, storing}
use Rattle.layout.specs.Octets.{le_at, low_octets}
use Rattle.layout.specs.Layout.{record_size, record_at, record_octets, put_slot, laid_at, put_number, put_carried, carried_at}
use Rattle.layout.proofs.Wide.{Octs, Wide}
use Rattle.layout.proofs.Decoding.{record_back, length_record}

-- ## Four octets as a number

list4 : {a b c d a' b' c' d' : ℕ} → a ≡ a' → b ≡ b' → c ≡ c' → d ≡ d' → ◌≡◌ {A = List ℕ} (a ∷ b ∷ c ∷ d ∷ []) (a' ∷ b' ∷ c' ∷ d' ∷ [])
list4 p q r s = cc

pub four-octets : (p q r s : ℕ) → p < 256 → q < 256 → r < 256 → s < 256 → low_octets 4 (p + (q + (r + s * 256) * 256) * 256) ≡ p ∷ q ∷ r ∷ s ∷ []
unfolding low_octets
four-octets p q r s h i j k = simp div-div-eq-div-mul (list4 (omega arith) (omega arith) (omega arith) (omega arith))

pub bit-low : (b : Bool) → as_bit b ≤ 1
bit-low true = lit≤ tt
bit-low false = lit≤ tt

-- ## Octets put by eights

-- the octets from a place on, as a number and back, behind those before it
take_more : (w k : ℕ) (o : List ℕ) → k + w ≤ length o → Octs o → take k o ++ low_octets w (le_at w o k) ≡ take (k + w) o
unfolding le_at low_octets
take_more zero k o h l = rw (append-nil (take k o), add-zero k) refl
take_more (suc w) k o h l =
    let x = get_or o k 0 + le_at w o (k + 1) * 256 in
    let a : x % 256 ≡ get_or o k 0 = omega (arith, l k) in
    let b : x / 256 ≡ le_at w o (k + 1) = omega (arith, l k) in
    let c : k + suc w ≡ suc k + w = omega arith in
    let d : k + 1 ≡ suc k = omega arith in
    rw (a, b, c, d)
    (sym (append_assoc (take k o) (get_or o k 0 ∷ []) (low_octets w (le_at w o (suc k)))) ∙ ap (λ (u : List ℕ). u ++ low_octets w (le_at w o (suc k))) (sym (take-suc o k 0 (omega arith)))
    ∙ take_more w (suc k) o (omega arith) l)

-- eight more
pub eight-more : (k : ℕ) (l l' l'' : List ℕ) (at : ℕ) (o : List ℕ) → k + 8 ≤ length o → Octs o → l' ≡ stored l at (take k o) → l'' ≡ stored l' (at + k) (low_octets 8 (le_at 8 o k))
    → l'' ≡ stored l at (take (k + 8) o)
eight-more k l l' l'' at o h n p q =
    more k l l' l'' at (take k o) (low_octets 8 (le_at 8 o k)) p (length-take-le k o (omega arith)) q ∙ ap (stored l at) (take_more 8 k o h n)

pub eight-first : (l l' : List ℕ) (at : ℕ) (o : List ℕ) → 8 ≤ length o → Octs o → l' ≡ stored l at (low_octets 8 (le_at 8 o 0)) → l' ≡ stored l at (take 8 o)
eight-first l l' at o h n p = p ∙ ap (stored l at) (take_more 8 0 o h n)

pub all_eights : (l l' : List ℕ) (at : ℕ) (o : List ℕ) → length o ≡ record_size → l' ≡ stored l at (take 56 o) → l' ≡ stored l at o
all_eights l l' at o h p = p ∙ ap (stored l at) (take_all 56 o (omega arith))

-- ## A record's own octets

-- its parts, as they are put one behind the other
pub record_whole : (r : Record) (z : List ℕ) → length z ≡ record_size
    → stored z 0
    (((((((((((low_octets 4 r.call.reference ++ low_octets 4 r.call.description.channel) ++ low_octets 8 r.call.description.frequencies) ++ low_octets 8 r.rand)
    ++ (as_bit r.full ∷ as_bit r.call.vgcs ∷ as_bit r.call.acknowledged ∷ as_bit r.call.hasDescription ∷ []))
    ++ (as_bit r.call.description.hopping ∷ as_bit r.call.description.shortlist ∷ as_bit r.hasSegment ∷ as_bit r.segment ∷ []))
    ++ (as_bit r.hasRandom ∷ as_bit r.emergency ∷ as_bit r.common.hasCount ∷ as_bit r.common.b22 ∷ []))
    ++ (as_bit r.common.hasUplink ∷ as_bit r.common.uplink ∷ as_bit r.common.hasAmr ∷ as_bit r.common.hasFullrate ∷ []))
    ++ (as_bit r.common.hasHalfrate ∷ as_bit r.common.hasSms ∷ as_bit r.common.confidential ∷ as_bit r.common.private ∷ []))
    ++ (r.call.priority ∷ r.call.cipher ∷ r.call.description.length ∷ r.common.cellcount ∷ []))
    ++ (r.common.fullrate ∷ r.common.halfrate ∷ 0 ∷ 0 ∷ []))
    ++ low_octets 4 0)
    ≡ record_octets r
unfolding record_octets low_octets
record_whole r z h = stored-whole z (record_octets r) (length_record r ∙ sym h)

-- they are read as it
pub record_own : (r : Record) → Wide r → record_at (record_octets r) 0 ≡ r
record_own r w =
    ap (λ (o : List ℕ). record_at o 0) (sym (stored-whole (record_octets r) (record_octets r) refl)) ∙ record_back (record_octets r) 0 r (omega (arith, length_record r)) w

-- and put at a place they are it
pub laid-slot : (l : List ℕ) (i half tick : ℕ) (r : Record) (o : List ℕ) → o ≡ record_octets r → laid_at l i half tick o ≡ put_slot l i (storing half tick r)
unfolding laid_at put_slot
laid-slot l i half tick r o e = rw e refl

-- and so they are as an entry's
pub carried-told : (l : List ℕ) (j key number follow kept : ℕ) (r : Record) (o : List ℕ) → o ≡ record_octets r
    → carried_at l j (record { key = key; number = number; «record» = no_record; follow = follow; kept = kept }) o
    ≡ put_carried l j (record { key = key; number = number; «record» = r; follow = follow; kept = kept })
unfolding carried_at put_carried put_number
carried-told l j key number follow kept r o e = rw e refl
