-- What a reader goes by: from what the bit reader found to what the format reads, a step at a time. Assumes nothing.
use mathlib.Core.Path.{◌≡◌, refl, sym, ap, ap₂, ◌∙◌}
use mathlib.Core.List.{List, [], ◌∷◌, ◌++◌, append_assoc}
use mathlib.Core.Bool.{Bool, true, false, not}
use mathlib.Core.Option.{none, some}
use mathlib.Core.Logic.{inl, inr}
use Prim.Native.Nat.{ℕ, suc, ◌+◌, ◌*◌, ◌/◌, ◌%◌, ◌^◌, ◌≤◌, ◌<◌}
use native.Mathlib.Omega.{arith}
use lib.ListN.{length}
use lib.Dec.{leb, eqb}
use lib.Pow.{high, low}
use borrow.Author.Tests.{leb-true, leb-false, le-leb, lt-leb, eq-eqb, ne_eqb}
use Rattle.bits.specs.Field.{field, fetched, both, pick}
use Rattle.bits.specs.declared.Got.TheVariants.{Bits, Short}
use Rattle.bits.proofs.Laws.{field_lt, field-split}
use Rattle.bits.proofs.Answers.{fetched-here}
use Rattle.csn1.specs.declared.Refusal.{Refusal}
use Rattle.csn1.specs.Format.{Res, ok, bad, ◌then◌, ran_out, no_refusal, Format, num, row, total, fields_at, read_items, opt, release, pad_bit, coded, either}
use Rattle.csn1.specs.Promises.{Grounded}
use Rattle.csn1.specs.Told.{is_one, read_at_of, flagged_at, lead, lead_at, lead_of, coded_of}

-- ## What the bit reader found

pub record Found (s : List ℕ) (p w v : ℕ) : Type 0 where
  pub is : v ≡ field s p w
  pub within : p + w ≤ length s * 8

pub found : (s : List ℕ) (p w v : ℕ) → Bits v ≡ fetched s p w → Found s p w v
unfolding fetched
found s p w v e = go (leb w 64) (leb (p + w) (length s * 8)) refl e
  where
    go : (t u : Bool) → leb (p + w) (length s * 8) ≡ u → Bits v ≡ pick (both t u) (Bits (field s p w)) Short → Found s p w v
    go true true l e = record { is = cc; within = leb-true (p + w) (length s * 8) l }
    go true false l e = absurd (let z : ◌≡◌ {A = ℕ} 0 1 = cc in omega arith)
    go false u l e = absurd (let z : ◌≡◌ {A = ℕ} 0 1 = cc in omega arith)

pub missing : (s : List ℕ) (p w : ℕ) → w ≤ 64 → Short ≡ fetched s p w → length s * 8 < p + w
unfolding fetched
missing s p w h e = go (leb (p + w) (length s * 8)) refl (rw (le-leb w 64 h) at e)
  where
    go : (u : Bool) → leb (p + w) (length s * 8) ≡ u → Short ≡ pick u (Bits (field s p w)) Short → length s * 8 < p + w
    go true l e = absurd (let z : ◌≡◌ {A = ℕ} 0 1 = cc in omega arith)
    go false l e = omega (arith, leb-false (p + w) (length s * 8) l)

pub found_lt : (s : List ℕ) (p w v : ℕ) → Bits v ≡ fetched s p w → v < 2 ^ w
found_lt s p w v e = rw (found s p w v e).is (field_lt s p w)

-- a field that was found is two, one after the other
pub record Halves (s : List ℕ) (p a b v : ℕ) : Type 0 where
  pub first : Bits (v / 2 ^ b) ≡ fetched s p a
  pub second : Bits (v % 2 ^ b) ≡ fetched s (p + a) b

pub halves : (s : List ℕ) (p a b v : ℕ) → a + b ≤ 64 → Bits v ≡ fetched s p (a + b) → Halves s p a b v
halves s p a b v h e =
    let f = found s p (a + b) v e in
    let k : v ≡ field s p a * 2 ^ b + field s (p + a) b = f.is ∙ field-split s p a b in
    let l : field s (p + a) b < 2 ^ b = field_lt s (p + a) b in
    let w : p + (a + b) ≤ length s * 8 = f.within in
    record {
      first = fetched-here s p a (v / 2 ^ b) (omega arith) (omega arith) (ap (λ (z : ℕ). z / 2 ^ b) k ∙ high (field s p a) b l);
      second = fetched-here s (p + a) b (v % 2 ^ b) (omega arith) (omega arith) (ap (λ (z : ℕ). z % 2 ^ b) k ∙ low (field s p a) b l);
    }

-- ## A number

module _ (s : List ℕ) (p w : ℕ) where
  pub num-got : (v : ℕ) → Bits v ≡ fetched s p w → (num w).read s p ≡ ok v (p + w)
  num-got v e =
      let f = found s p w v e in
      rw (le-leb (p + w) (length s * 8) f.within) (ap (λ (x : ℕ). ok x (p + w)) (sym f.is))

  pub num-short : w ≤ 64 → Short ≡ fetched s p w → (num w).read s p ≡ bad (ran_out p)
  num-short h e = rw (lt-leb (p + w) (length s * 8) (missing s p w h e))

-- ## Numbers side by side, fetched as one

-- the numbers of the widths ws that stand side by side in v
abbrev pub cuts : List ℕ → ℕ → List ℕ
cuts [] v = []
cuts (w ∷ ws) v = v / 2 ^ total ws ∷ cuts ws (v % 2 ^ total ws)

pub fields_cut : (ws s : List ℕ) (p : ℕ) → fields_at ws s p ≡ cuts ws (field s p (total ws))
fields_cut [] s p = refl
fields_cut (w ∷ ws) s p =
    let n : ℕ = total ws in
    let x : ℕ = field s p w in
    let y : ℕ = field s (p + w) n in
    let e : field s p (w + n) ≡ x * 2 ^ n + y = field-split s p w n in
    let l : y < 2 ^ n = field_lt s (p + w) n in
    ap₂ (λ (a : ℕ) (b : List ℕ). a ∷ b) (sym (ap (λ (z : ℕ). z / 2 ^ n) e ∙ high x n l))
    (fields_cut ws s (p + w) ∙ ap (cuts ws) (sym (ap (λ (z : ℕ). z % 2 ^ n) e ∙ low x n l)))

module _ (ws s : List ℕ) (p : ℕ) where
  pub row-got : (v : ℕ) → Bits v ≡ fetched s p (total ws) → (row ws).read s p ≡ ok (cuts ws v) (p + total ws)
  row-got v e =
      let f = found s p (total ws) v e in
      rw (le-leb (p + total ws) (length s * 8) f.within)
      (ap (λ (x : List ℕ). ok x (p + total ws)) (fields_cut ws s p ∙ ap (cuts ws) (sym f.is)))

  pub row-short : total ws ≤ 64 → Short ≡ fetched s p (total ws) → (row ws).read s p ≡ bad (ran_out p)
  row-short h e = rw (lt-leb (p + total ws) (length s * 8) (missing s p (total ws) h e))

-- ## A part that a flag leads

module _ {A : Type 0} (F : Format A) (s : List ℕ) (p : ℕ) where
  pub opt-short : Short ≡ fetched s p 1 → (opt F).read s p ≡ bad (ran_out p)
  opt-short e = rw (num-short s p 1 (omega arith) e)

  pub opt_none : (f : ℕ) → Bits f ≡ fetched s p 1 → f ≡ 0 → (opt F).read s p ≡ ok none (p + 1)
  opt_none f e z = rw (num-got s p 1 f e, eq-eqb f 0 z)

  pub opt-some : (f : ℕ) → Bits f ≡ fetched s p 1 → (f ≡ 0 → ⊥) → (opt F).read s p ≡ F.read s (p + 1) then (λ a q. ok (some a) q)
  opt-some f e n = rw (num-got s p 1 f e, ne_eqb f 0 n)

-- ## A bit that says which of two follows

module _ {A B : Type 0} (F : Format A) (G : Format B) (s : List ℕ) (p : ℕ) where
  pub either-short : Short ≡ fetched s p 1 → (either F G).read s p ≡ bad (ran_out p)
  either-short e = rw (num-short s p 1 (omega arith) e)

  pub either_left : (f : ℕ) → Bits f ≡ fetched s p 1 → f ≡ 0 → (either F G).read s p ≡ F.read s (p + 1) then (λ a q. ok (inl a) q)
  either_left f e z = rw (num-got s p 1 f e, eq-eqb f 0 z)

  pub either-right : (f : ℕ) → Bits f ≡ fetched s p 1 → (f ≡ 0 → ⊥) → (either F G).read s p ≡ G.read s (p + 1) then (λ b q. ok (inr b) q)
  either-right f e n = rw (num-got s p 1 f e, ne_eqb f 0 n)

-- ## What leads a later release's part

module _ (s : List ℕ) (p : ℕ) where
  pub lead-used : p ≡ length s * 8 → lead s p ≡ ok false p
  unfolding lead
  lead-used e = rw (eq-eqb p (length s * 8) e)

-- ## An L/H-coded bit

bit-told : (t : Bool) → is_one (pick t 0 1) ≡ not t
bit-told true = refl
bit-told false = refl

module _ (s : List ℕ) (p : ℕ) where
  pub coded-short : Short ≡ fetched s p 1 → coded.read s p ≡ bad (ran_out p)
  coded-short e = rw (num-short s p 1 (omega arith) e)

  pub coded-told : (b : ℕ) → Bits b ≡ fetched s p 1 → coded_of (coded.read s p) ≡ record { refusal = no_refusal; high = not (eqb b (pad_bit p)); at = p + 1 }
  coded-told b e =
      rw (num-got s p 1 b e) (ap (λ (h : Bool). record { refusal = no_refusal; high = h; at = p + 1 }) (bit-told (eqb b (pad_bit p))))

  -- where bits are left, a lead is an L/H-coded bit
  pub lead-coded : (p ≡ length s * 8 → ⊥) → lead_of (lead s p) ≡ coded_of (coded.read s p)
  unfolding lead
  lead-coded n = rw (ne_eqb p (length s * 8) n) (go ((num 1).read s p))
    where
      go : (x : Res ℕ) → lead_of (x then λ b q. ok (not (eqb b (pad_bit p))) q) ≡ coded_of (x then λ b q. ok (pick (eqb b (pad_bit p)) 0 1) q)
      go (bad r) = refl
      go (ok b q) = ap (λ (h : Bool). record { refusal = no_refusal; high = h; at = q }) (sym (bit-told (eqb b (pad_bit p))))

-- a release's part is read behind its lead
pub release-led : {A : Type 0} (F : Format A) (s : List ℕ) (p : ℕ)
    → (release F).read s p ≡ lead s p then (λ h q. pick h (F.read s q then λ a r. ok (some a) r) (ok none q))
unfolding lead
release-led F s p = go (eqb p (length s * 8)) ((num 1).read s p)
  where
    rest : (t : Bool) (m : ℕ)
        → pick t (ok none m) (F.read s m then λ a r. ok (some a) r) ≡ pick (not t) (F.read s m then λ a r. ok (some a) r) (ok none m)
    rest true m = refl
    rest false m = refl

    go : (t : Bool) (x : Res ℕ)
        → pick t (ok none p) (x then λ b m. pick (eqb b (pad_bit p)) (ok none m) (F.read s m then λ a r. ok (some a) r))
        ≡ pick t (ok false p) (x then λ b q. ok (not (eqb b (pad_bit p))) q)
        then (λ h q. pick h (F.read s q then λ a r. ok (some a) r) (ok none q))
    go true x = refl
    go false (bad r) = refl
    go false (ok b m) = rest (eqb b (pad_bit p)) m

-- ## A list

-- what stands before goes in front of what is read
abbrev pub prepend : {A : Type 0} → List A → Res (List A) → Res (List A)
prepend xs r = r then λ l q. ok (xs ++ l) q

pub prepend-nil : {A : Type 0} (r : Res (List A)) → prepend [] r ≡ r
prepend-nil (ok l q) = refl
prepend-nil (bad m) = refl

pub prepend-cons : {A : Type 0} (xs : List A) (a : A) (r : Res (List A)) → prepend xs (r then λ l q. ok (a ∷ l) q) ≡ prepend (xs ++ (a ∷ [])) r
prepend-cons xs a (ok l q) = ap (λ z. ok z q) (sym (append_assoc xs (a ∷ []) l))
prepend-cons xs a (bad m) = refl

module _ {A : Type 0} (F : Format A) (s : List ℕ) (p k : ℕ) (xs : List A) where
  pub items-short : Short ≡ fetched s p 1 → prepend xs (read_items F (suc k) s p) ≡ bad (ran_out p)
  unfolding read_items
  items-short e = rw (num-short s p 1 (omega arith) e)

  pub items-end : (f : ℕ) → Bits f ≡ fetched s p 1 → f ≡ 0 → prepend xs (read_items F (suc k) s p) ≡ ok (xs ++ []) (p + 1)
  unfolding read_items
  items-end f e z = rw (num-got s p 1 f e, eq-eqb f 0 z)

  pub items-bad : (f : ℕ) (r : Refusal) → Bits f ≡ fetched s p 1 → (f ≡ 0 → ⊥) → F.read s (p + 1) ≡ bad r → prepend xs (read_items F (suc k) s p) ≡ bad r
  unfolding read_items
  items-bad f r e n x = rw (num-got s p 1 f e, ne_eqb f 0 n, x)

  pub items-next : (f : ℕ) (a : A) (q : ℕ) → Bits f ≡ fetched s p 1 → (f ≡ 0 → ⊥) → F.read s (p + 1) ≡ ok a q
      → prepend xs (read_items F (suc k) s p) ≡ prepend (xs ++ (a ∷ [])) (read_items F k s q)
  unfolding read_items
  items-next f a q e n x = rw (num-got s p 1 f e, ne_eqb f 0 n, x) (prepend-cons xs a (read_items F k s q))

-- ## What the number of a result says

abbrev pub refusal_of : {A : Type 0} → Res A → ℕ
refusal_of (ok a q) = 0
refusal_of (bad r) = r.number

pub record Accepted {A : Type 0} (x : Res A) : Type 0 where
  pub value : A
  pub next : ℕ
  pub is : x ≡ ok value next

pub accepted : {A : Type 0} (x : Res A) → Grounded x → refusal_of x ≡ 0 → Accepted x
accepted (ok a q) g e = record { value = a; next = q; is = refl }
accepted (bad r) g e = absurd (omega arith)

pub record Refused {A : Type 0} (x : Res A) : Type 0 where
  pub why : Refusal
  pub is : x ≡ bad why

pub refused : {A : Type 0} (x : Res A) → (refusal_of x ≡ 0 → ⊥) → Refused x
refused (ok a q) n = absurd (n refl)
refused (bad r) n = record { why = r; is = refl }

-- ## Messages of any length

pub read-long : {A : Type 0} (F : Format A) (s : List ℕ) (p : ℕ) → 4096 < length s → read_at_of F s p ≡ bad (ran_out p)
read-long F s p h = rw (lt-leb (length s) 4096 h)

pub read_at : {A : Type 0} (F : Format A) (s : List ℕ) (p : ℕ) → length s ≤ 4096 → read_at_of F s p ≡ F.read s p
read_at F s p h = rw (le-leb (length s) 4096 h)

pub lead-at : (s : List ℕ) (p : ℕ) → length s ≤ 4096 → lead_at s p ≡ lead s p
lead-at s p h = rw (le-leb (length s) 4096 h)

pub flagged-at : (s : List ℕ) (p w : ℕ) → w ≤ 64 → length s ≤ 4096 → flagged_at s p w ≡ (opt (num w)).read s p
flagged-at s p w h l = rw (le-leb w 64 h, le-leb (length s) 4096 l)
