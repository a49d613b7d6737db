-- Numbers of 32 bits as four octets: turned round, read as fields, put one behind the other. Assumes nothing.
use mathlib.Core.Path.{◌≡◌, refl, sym, ◌∙◌}
use mathlib.Core.Bool.{true, false}
use mathlib.Core.List.{List, ◌++◌}
use Prim.Native.Nat.{ℕ, zero, suc, ◌+◌, ◌-◌, ◌*◌, ◌/◌, ◌%◌, ◌^◌, ◌≤◌, ◌<◌}
use native.Mathlib.Numerals.{towards_suc}
use native.Mathlib.Omega.{arith}
use lib.ListN.{length, get_or, set, replicate, length-set}
use lib.Seq.{set-get_or, get_or-set_other}
use Rattle.arrays.specs.Runs.{stored}
use Rattle.arrays.proofs.Running.{length-stored, stored-after, stored-whole, more}
use Rattle.bits.specs.Field.{field, set_field}
use Rattle.bits.proofs.Octets.{octet, join, merge, put_step, put_done}
use Rattle.uplink.specs.declared.Uplink.{Uplink}
use Rattle.uplink_lent.specs.Inner.{four_octets, low_octets, turned, Stands, StandsTurned}
use Rattle.uplink_lent.specs.State.{uplink_length, octets_of}

pub not_so : false ≡ true → ⊥
not_so e = let z : ◌≡◌ {A = ℕ} 0 1 = cc in omega arith

-- ## Turned round

-- the octets of a sum of four, by their places
sum-octets : (a b c d : ℕ) → a < 256 → b < 256 → c < 256 → d < 256 → let n = a + b * 256 + c * 65536 + d * 16777216 in
    (n % 256 ≡ a) × ((n / 256 % 256 ≡ b) × ((n / 65536 % 256 ≡ c) × (n / 16777216 ≡ d)))
sum-octets a b c d ha hb hc hd = (omega arith, (omega arith, (omega arith, omega arith)))

module _ (v : ℕ) (h : v < 2 ^ 32) where
  turned-parts : (turned v % 256 ≡ v / 16777216)
      × ((turned v / 256 % 256 ≡ v / 65536 % 256) × ((turned v / 65536 % 256 ≡ v / 256 % 256) × (turned v / 16777216 ≡ v % 256)))
  turned-parts = sum-octets (v / 16777216) (v / 65536 % 256) (v / 256 % 256) (v % 256) (omega arith) (omega arith) (omega arith) (omega arith)

  pub turned-octets : low_octets (turned v) ≡ four_octets v
  turned-octets = let t = turned-parts in rw (t.0, t.1.0, t.1.1.0, t.1.1.1) refl

  pub turned-stands : (l : List ℕ) (i : ℕ) → StandsTurned l i v → Stands l i (turned v)
  turned-stands l i s =
      let t = turned-parts in
      (s.0 ∙ sym t.1.1.1, (s.1.0 ∙ sym t.1.1.0, (s.1.1.0 ∙ sym t.1.0, s.1.1.1 ∙ sym t.0)))

-- ## Read as a field

shape : (v : ℕ) → v % 256 + v / 256 % 256 * 256 + (v / 65536 % 256 + v / 16777216 * 256) * 65536 ≡ v
shape v = omega arith

pub stands-field : (l : List ℕ) (i v : ℕ) → v < 2 ^ 32 → Stands l i v → v ≡ field l (i * 8) 32
stands-field l i v h s =
    let a = octet l i (omega arith) in
    let b = octet l (i + 1) (omega arith) in
    let c = octet l (i + 2) (omega arith) in
    let d = octet l (i + 3) (omega arith) in
    let x = join l (i * 8) ((i + 1) * 8) 8 8 (v / 16777216) (v / 65536 % 256) (omega arith) (sym s.0 ∙ a) (sym s.1.0 ∙ b) in
    let y = join l ((i + 2) * 8) ((i + 3) * 8) 8 8 (v / 256 % 256) (v % 256) (omega arith) (sym s.1.1.0 ∙ c) (sym s.1.1.1 ∙ d) in
    sym (shape v) ∙ join l (i * 8) ((i + 2) * 8) 16 16 (v / 65536 % 256 + v / 16777216 * 256) (v % 256 + v / 256 % 256 * 256) (omega arith) x y

-- ## Put

-- what stands there already changes nothing
pub stands-still : (l : List ℕ) (i v : ℕ) → Stands l i v → stored l i (four_octets v) ≡ l
unfolding stored
stands-still l i v s =
    let b = simp towards_suc at s.1.0 in
    let c = simp towards_suc at s.1.1.0 in
    let d = simp towards_suc at s.1.1.1 in
    rw (← s.0, set-get_or l i 0, ← b, set-get_or l (suc i) 0, ← c, set-get_or l (suc (suc i)) 0, ← d, set-get_or l (suc (suc (suc i))) 0) refl

-- numbers that are put before it leave it
pub stands_on : (l : List ℕ) (at : ℕ) (vs : List ℕ) (i v : ℕ) → at + length vs ≤ i → Stands l i v → Stands (stored l at vs) i v
stands_on l at vs i v h s = (
  stored-after l at vs i h ∙ s.0,
  (stored-after l at vs (i + 1) (omega arith) ∙ s.1.0, (stored-after l at vs (i + 2) (omega arith) ∙ s.1.1.0, stored-after l at vs (i + 3) (omega arith) ∙ s.1.1.1)),
)

-- an octet that is put whole is its number
whole : (o x : ℕ) → o < 256 → merge o 0 8 x ≡ x
unfolding merge
whole o x h = omega arith

-- one octet more of a number
octet_put : (s d : List ℕ) (i v k j x : ℕ) → k + 8 ≤ 32 → j * 8 ≡ i * 8 + k → j < length d → get_or d j 0 < 256 → d ≡ set_field s (i * 8) k (v / 2 ^ (32 - k))
    → x ≡ v / 2 ^ (32 - k - 8) % 256 → set d j x ≡ set_field s (i * 8) (k + 8) (v / 2 ^ (32 - (k + 8)))
octet_put s d i v k j x h p n o e q =
    put_step s d (i * 8) 32 v k 8 j 0 x h (omega arith) e (omega arith) (omega arith) n (q ∙ sym (whole (get_or d j 0) (v / 2 ^ (32 - k - 8) % 256) o))

-- a number that is put into a field that begins an octet is put as its four octets
module _ (l : List ℕ) (i v : ℕ) (h : v < 2 ^ 32) (n : i + 4 ≤ length l) (o : (j : ℕ) → i ≤ j → get_or l j 0 < 256) where
  abbrev d1 : List ℕ
  d1 = set l i (v / 16777216)

  abbrev d2 : List ℕ
  d2 = set d1 (i + 1) (v / 65536 % 256)

  abbrev d3 : List ℕ
  d3 = set d2 (i + 2) (v / 256 % 256)

  none_put : l ≡ set_field l (i * 8) 0 (v / 2 ^ 32)
  unfolding set_field
  none_put = refl

  put_1 : d1 ≡ set_field l (i * 8) 8 (v / 2 ^ 24)
  put_1 = octet_put l l i v 0 i (v / 16777216) (omega arith) (omega arith) (omega arith) (o i (omega arith)) none_put (omega arith)

  put_2 : d2 ≡ set_field l (i * 8) 16 (v / 2 ^ 16)
  put_2 =
      let p = get_or-set_other l i (i + 1) (v / 16777216) 0 (λ e. omega arith) in
      octet_put l d1 i v 8 (i + 1) (v / 65536 % 256) (omega arith) (omega arith) (simp length-set (omega arith)) (omega (arith, p, o (i + 1) (omega arith))) put_1 refl

  put_3 : d3 ≡ set_field l (i * 8) 24 (v / 2 ^ 8)
  put_3 =
      let p = get_or-set_other d1 (i + 1) (i + 2) (v / 65536 % 256) 0 (λ e. omega arith) ∙ get_or-set_other l i (i + 2) (v / 16777216) 0 (λ e. omega arith) in
      octet_put l d2 i v 16 (i + 2) (v / 256 % 256) (omega arith) (omega arith) (simp length-set (omega arith)) (omega (arith, p, o (i + 2) (omega arith))) put_2 refl

  put_4 : set d3 (i + 3) (v % 256) ≡ set_field l (i * 8) 32 (v / 2 ^ 0)
  put_4 =
      let p =
      get_or-set_other d2 (i + 2) (i + 3) (v / 256 % 256) 0 (λ e. omega arith) ∙ get_or-set_other d1 (i + 1) (i + 3) (v / 65536 % 256) 0 (λ e. omega arith)
      ∙ get_or-set_other l i (i + 3) (v / 16777216) 0 (λ e. omega arith)
      in
      octet_put l d3 i v 24 (i + 3) (v % 256) (omega arith) (omega arith) (simp length-set (omega arith)) (omega (arith, p, o (i + 3) (omega arith))) put_3 (omega arith)

  pub field_put : set_field l (i * 8) 32 v ≡ stored l i (four_octets v)
  unfolding stored
  field_put =
      let e : stored l i (four_octets v) ≡ set d3 (i + 3) (v % 256) = simp towards_suc in
      sym (put_done l (set d3 (i + 3) (v % 256)) (i * 8) 32 v 32 refl put_4) ∙ sym e

-- ## The octets of a state

-- four numbers, one behind the other, are all 16 octets
module _ (l l₁ l₂ l₃ l₄ : List ℕ) (a b c d : ℕ) (n : length l ≡ 16) (p : l₁ ≡ stored l 0 (four_octets a)) (q : l₂ ≡ stored l₁ 4 (four_octets b)) (r : l₃ ≡ stored l₂ 8 (four_octets c))
    (s : l₄ ≡ stored l₃ 12 (four_octets d)) where
  pub all-four : l₄ ≡ four_octets a ++ (four_octets b ++ (four_octets c ++ four_octets d))
  all-four =
      more 12 l l₃ l₄ 0 (four_octets a ++ (four_octets b ++ four_octets c)) (four_octets d)
      (more 8 l l₂ l₃ 0 (four_octets a ++ four_octets b) (four_octets c) (more 4 l l₁ l₂ 0 (four_octets a) (four_octets b) p refl q) refl r) refl s
      ∙ stored-whole l (four_octets a ++ (four_octets b ++ (four_octets c ++ four_octets d))) (sym n)

-- numbers of 32 bits
pub record Wide (u : Uplink) : Type 0 where
  pub tick : u.tick < 2 ^ 32
  pub timer : u.t3128 < 2 ^ 32
  pub free : u.free < 2 ^ 32
  pub wait : u.wait < 2 ^ 32

-- octets from a place on, before a number is put into them and behind it
abbrev OctetsFrom : List ℕ → ℕ → Type 0
OctetsFrom l i = (j : ℕ) → i ≤ j → get_or l j 0 < 256

zeros : (n i : ℕ) → OctetsFrom (replicate n 0) i
zeros zero i j h = omega arith
zeros (suc n) i zero h = omega arith
zeros (suc n) i (suc j) h = zeros n 0 j (omega arith)

behind : (l : List ℕ) (i v : ℕ) → OctetsFrom l i → OctetsFrom (stored l i (four_octets v)) (i + 4)
behind l i v o j h = rw (stored-after l i (four_octets v) j h) (o j (omega arith))

module _ (u : Uplink) (w : Wide u) where
  abbrev s0 : List ℕ
  s0 = replicate uplink_length 0

  abbrev s1 : List ℕ
  s1 = stored s0 0 (four_octets u.tick)

  abbrev s2 : List ℕ
  s2 = stored s1 4 (four_octets u.t3128)

  abbrev s3 : List ℕ
  s3 = stored s2 8 (four_octets u.free)

  abbrev s4 : List ℕ
  s4 = stored s3 12 (four_octets u.wait)

  fields_put : octets_of u ≡ s4
  unfolding octets_of
  fields_put =
      let o1 = behind s0 0 u.tick (zeros uplink_length 0) in
      let o2 = behind s1 4 u.t3128 o1 in
      let o3 = behind s2 8 u.free o2 in
      let e1 = field_put s0 0 u.tick w.tick (omega arith) (zeros uplink_length 0) in
      let e2 = field_put s1 4 u.t3128 w.timer (simp length-stored (omega arith)) o1 in
      let e3 = field_put s2 8 u.free w.free (simp length-stored (omega arith)) o2 in
      let e4 = field_put s3 12 u.wait w.wait (simp length-stored (omega arith)) o3 in
      rw (e1, e2, e3, e4) refl

  -- an uplink's numbers, put into any 16 octets, are its octets
  pub all_put : (l l₁ l₂ l₃ l₄ : List ℕ) → length l ≡ uplink_length → l₁ ≡ stored l 0 (four_octets u.tick) → l₂ ≡ stored l₁ 4 (four_octets u.t3128)
      → l₃ ≡ stored l₂ 8 (four_octets u.free) → l₄ ≡ stored l₃ 12 (four_octets u.wait) → l₄ ≡ octets_of u
  all_put l l₁ l₂ l₃ l₄ n p q r s =
      all-four l l₁ l₂ l₃ l₄ u.tick u.t3128 u.free u.wait n p q r s
      ∙ sym (fields_put ∙ all-four s0 s1 s2 s3 s4 u.tick u.t3128 u.free u.wait refl refl refl refl refl)

-- the third number stands on while the first two are put
pub stands_twice : (l l₁ l₂ : List ℕ) (a b c : ℕ) → l₁ ≡ stored l 0 (four_octets a) → l₂ ≡ stored l₁ 4 (four_octets b) → Stands l 8 c → Stands l₂ 8 c
stands_twice l l₁ l₂ a b c p q s = rw (q, p) (stands_on (stored l 0 (four_octets a)) 4 (four_octets b) 8 c (omega arith) (stands_on l 0 (four_octets a) 8 c (omega arith) s))
