-- Laws of the halving in a number of steps that only the number of keys says, and of the keys that octets are read as. Assumes nothing.
use mathlib.Core.Path.{◌≡◌, refl, sym, ap, ◌∙◌}
use mathlib.Core.Logic.{◌⊎◌, ⊎_elim}
use mathlib.Core.List.{List}
use Prim.Native.Nat.{ℕ, ◌+◌, ◌-◌, ◌*◌, ◌/◌, ◌≤◌, ◌<◌, min}
use native.Mathlib.Omega.{arith}
use lib.Dec.{ltb}
use lib.ListN.{length, get_or, length-take}
use lib.Seq.{get_or-take}
use borrow.Author.Tests.{ltb-true, ltb-false}
use Rattle.receiver.specs.declared.finding.Found.{Found}
use Rattle.receiver.specs.Channels.{key_count}
use Rattle.receiver.specs.Halving.{looked, middle_of}
use Rattle.receiver.specs.Model.{index_of}
use Rattle.receiver.proofs.Cases.{by-test}
use Rattle.receiver.proofs.Halving.{Finds, nothing, place, all-finds, by_order, sought, sought-all, sought-none, sought-same, sought-below, sought-above}
use Rattle.layout.specs.Octets.{octet_at}
use Rattle.layout.specs.Layout.{count_from, keys_from, key_no, decode_of, keys_in}
use Rattle.layout.proofs.Numbers.{le_below}
use Rattle.layout.proofs.Wide.{Octs}
use Rattle.layout.proofs.Decoding.{key-of, keys_length, keycount_of}

-- ## The steps

-- Half way: the key is sought from start to end, where most keys are left, or one less; or it was found, and start and end stay there. What stands at the end is not the key.
pub data Halfway (ks : List ℕ) (key start end most : ℕ) : Type 0 where
  seeking : start ≤ end → end ≤ length ks → end - start ≤ most → most ≤ end - start + 1 → (end < length ks → get_or ks end 0 ≡ key → ⊥)
      → index_of ks key ≡ (sought ks key start end).at → Halfway ks key start end most
  done : start ≡ end → start < length ks → get_or ks start 0 ≡ key → index_of ks key ≡ start → Halfway ks key start end most

place_of : {f g : Found} → f ≡ looked g → f.at ≡ g.at
place_of e = rw e

pub half_begin : (ks : List ℕ) (key : ℕ) → Halfway ks key 0 (length ks) (length ks)
half_begin ks key = seeking (omega arith) (omega arith) (omega arith) (omega arith) (λ h. absurd (omega arith)) (ap (λ (f : Found). f.at) (sought-all ks key))

same-middle : (start end : ℕ) → start ≤ end → (start + end) / 2 ≡ middle_of start end
same-middle start end h = omega arith

stays : (start end : ℕ) → start ≡ end → (start + end) / 2 ≡ start
stays start end h = omega arith

module _ {ks : List ℕ} {key start end most : ℕ} where
  pub half-within : Halfway ks key start end most → (start ≤ end) × (end ≤ length ks)
  half-within (seeking a b c d e f) = (a, b)
  half-within (done a b c d) = (omega arith, omega arith)

  pub half-middle : Halfway ks key start end most → 1 < most → (start + end) / 2 < length ks
  half-middle (seeking a b c d e f) h = omega arith
  half-middle (done a b c d) h = omega arith

  pub half-above : Halfway ks key start end most → 1 < most → get_or ks ((start + end) / 2) 0 < key → Halfway ks key ((start + end) / 2 + 1) end (most / 2)
  half-above (seeking a b c d e f) h k =
      let m = same-middle start end a in
      rw m (seeking (omega arith) b (omega arith) (omega arith) e (f ∙ place_of (sought-above ks key start end (omega arith) (rw m at k))))
  half-above (done a b c d) h k = absurd (omega (arith, rw (stays start end a) at k))

  pub half-below : Halfway ks key start end most → 1 < most → key < get_or ks ((start + end) / 2) 0 → Halfway ks key start ((start + end) / 2) (most / 2)
  half-below (seeking a b c d e f) h k =
      let m = same-middle start end a in
      rw m (seeking (omega arith) (omega arith) (omega arith) (omega arith) (λ q w. omega (arith, rw m at k)) (f ∙ place_of (sought-below ks key start end (omega arith) (rw m at k))))
  half-below (done a b c d) h k = absurd (omega (arith, rw (stays start end a) at k))

  pub half-same : Halfway ks key start end most → 1 < most → get_or ks ((start + end) / 2) 0 ≡ key → Halfway ks key ((start + end) / 2) ((start + end) / 2) (most / 2)
  half-same (seeking a b c d e f) h k =
      let m = same-middle start end a in
      rw m (done refl (omega arith) (rw m at k) (f ∙ place_of (sought-same ks key start end (omega arith) (rw m at k))))
  half-same (done a b c d) h k = rw (stays start end a) (done refl b c d)

  -- one step, as it is chosen
  pub half_step : Halfway ks key start end most → 1 < most → (here same last first : ℕ) → here ≡ get_or ks ((start + end) / 2) 0
      → ((here ≡ key) × (same ≡ (start + end) / 2)) ⊎ ((here ≡ key → ⊥) × (same ≡ start))
      → ((here < key) × (last ≡ end)) ⊎ ((key ≤ here) × (last ≡ (start + end) / 2))
      → ((here < key) × (first ≡ (start + end) / 2 + 1)) ⊎ ((key ≤ here) × (first ≡ same)) → Halfway ks key first last (most / 2)
  half_step w h here same last first e s l f =
      by_order here key
      (λ q.
      let x : last ≡ (start + end) / 2 = ⊎_elim (λ v. absurd (omega (arith, v.0))) (λ v. v.1) l in
      let y : first ≡ (start + end) / 2 = ⊎_elim (λ v. absurd (omega (arith, v.0))) (λ v. v.1 ∙ ⊎_elim (λ u. u.1) (λ u. absurd (u.0 q)) s) f in
      rw (x, y) (half-same w h (sym e ∙ q)))
      (λ q.
      let x : last ≡ end = ⊎_elim (λ v. v.1) (λ v. absurd (omega (arith, v.0))) l in
      let y : first ≡ (start + end) / 2 + 1 = ⊎_elim (λ v. v.1) (λ v. absurd (omega (arith, v.0))) f in
      rw (x, y) (half-above w h (rw e at q)))
      (λ q.
      let x : last ≡ (start + end) / 2 = ⊎_elim (λ v. absurd (omega (arith, v.0))) (λ v. v.1) l in
      let y : first ≡ start = ⊎_elim (λ v. absurd (omega (arith, v.0))) (λ v. v.1 ∙ ⊎_elim (λ u. absurd (omega (arith, u.0))) (λ u. u.1) s) f in
      rw (x, y) (half-below w h (rw e at q)))

  -- the last look, where there is one left
  pub half-found : Halfway ks key start end most → most ≤ 1 → start < length ks → get_or ks start 0 ≡ key → start ≡ index_of ks key
  half-found (done a b c d) h l k = sym d
  half-found (seeking a b c d e f) h l k =
      by-test (ltb start end)
      (λ t.
      let q : start < end = ltb-true start end t in
      let m : middle_of start end ≡ start = omega arith in
      sym (f ∙ place_of (sought-same ks key start end q (rw m k)) ∙ m))
      (λ t. let q : start ≡ end = omega (arith, ltb-false start end t) in absurd (e (omega arith) (rw q at k)))

  pub half-none : Halfway ks key start end most → most ≤ 1 → (start < length ks → get_or ks start 0 ≡ key → ⊥) → key_count ≡ index_of ks key
  half-none (done a b c d) h n = absurd (n b c)
  half-none (seeking a b c d e f) h n =
      by-test (ltb start end)
      (λ t.
      let q : start < end = ltb-true start end t in
      let m : middle_of start end ≡ start = omega arith in
      sym
      (f
      ∙ by_order key (get_or ks (middle_of start end) 0) (λ k. absurd (n (omega arith) (rw m at (sym k))))
      (λ k. place_of (sought-below ks key start end q k) ∙ ap (λ (x : Found). x.at) (sought-none ks key start (middle_of start end) (omega arith)))
      (λ k. place_of (sought-above ks key start end q k) ∙ ap (λ (x : Found). x.at) (sought-none ks key (middle_of start end + 1) end (omega arith)))))
      (λ t. sym (f ∙ ap (λ (x : Found). x.at) (sought-none ks key start end (ltb-false start end t))))

-- ## The keys of octets

pub count_of : (l : List ℕ) → length (keys_in l) ≡ min (octet_at l count_from) key_count
count_of l = length-take (decode_of l).keycount (decode_of l).keys ∙ rw (keys_length l, keycount_of l)

pub few_keys : (l : List ℕ) → length (keys_in l) ≤ key_count
few_keys l = omega (arith, count_of l)

pub key_in : (l : List ℕ) (i : ℕ) → i < length (keys_in l) → get_or (keys_in l) i 0 ≡ key_no l i
key_in l i h =
    let c = count_of l in
    get_or-take (decode_of l).keycount (decode_of l).keys i 0 (omega (arith, c, keycount_of l)) ∙ key-of l i (omega (arith, c))

-- a key of more than 32 bits is none of them
pub found_none : (l : List ℕ) (key : ℕ) → Octs l → 4294967295 < key → key_count ≡ index_of (keys_in l) key
found_none l key o h = go (all-finds (keys_in l) key)
  where
    go : {at : ℕ} → Finds (keys_in l) key 0 (length (keys_in l)) at → key_count ≡ at
    go (nothing e) = sym e
    go {at} (place a b e) =
        let below : key_no l at < 4294967296 = le_below 4 l (keys_from + 4 * at) o in
        absurd (omega (arith, below, e, key_in l at b))
