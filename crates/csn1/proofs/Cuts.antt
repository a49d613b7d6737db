-- Octets that are cut: each way to make a format refuses them as bits that ran out, or reads them without the later releases from there on. Assumes nothing.
use mathlib.Core.Path.{◌≡◌, refl, sym, ap, ap₂, ◌∙◌, subst}
use mathlib.Core.List.{List, [], ◌∷◌}
use mathlib.Core.Bool.{Bool, true, false, not}
use mathlib.Core.Option.{Option, none, some}
use mathlib.Core.Logic.{◌⊎◌, inl, inr}
use Prim.Native.Nat.{ℕ, zero, suc, ◌+◌, ◌*◌, ◌≤◌, ◌<◌}
use native.Mathlib.Omega.{arith}
use native.Mathlib.Decide.{ℕ_discrete}
use lib.ListN.{length}
use lib.Dec.{leb, eqb}
use borrow.Author.Tests.{le-leb, lt-leb, eq-eqb, leb-true, leb-false}
use Rattle.bits.specs.Field.{bit, field, pick}
use Rattle.bits.proofs.Laws.{field-zero}
use Rattle.csn1.specs.declared.Refusal.{Refusal}
use Rattle.csn1.specs.Format.{Res, ok, bad, ◌then◌, ran_out, ground, is_clip, Format, num, row, total, fields_at}
use Rattle.csn1.specs.Format.{pad_bit, coded, ◌▹◌, ◌⨟◌, opt, list, release, checked, either, when, numbered_as, in_release}
use Rattle.csn1.specs.Told.{lead}
use Rattle.csn1.specs.Clip.{Coming, BothThere, Agree}
use Rattle.csn1.proofs.Lawful.{flag-back, flag-stands}
use Rattle.csn1.proofs.Clips.{Passed, passed, Told}
use Rattle.csn1.proofs.ClipParts.{renumbered-bit, renumbered-clip, inside-ok, lead-end, lead-bit, list-step}
use Rattle.csn1.proofs.Reading.{release-led}

-- ## What is read of octets that were cut at c

-- refused as bits that ran out, at most at c; or read up to c
abbrev pub Short : {A : Type 0} → ℕ → (A → Type 0) → Res A → Type 0
Short c W (bad r) = (is_clip r.number ≡ true) × (r.bit ≤ c)
Short c W (ok b q) = W b × (q ≡ c)

pub gone : (c p : ℕ) → p ≤ c → (is_clip (ran_out p).number ≡ true) × ((ran_out p).bit ≤ c)
unfolding ran_out
gone c p l = (refl, l)

pub short-then : {A B : Type 0} (c : ℕ) (W : A → Type 0) (U : B → Type 0) (x : Res A) (k : A → ℕ → Res B) → Short c W x → ((a : A) → W a → Short c U (k a c)) → Short c U (x then k)
short-then c W U (bad r) k h f = h
short-then c W U (ok a q) k h f = subst (λ (z : ℕ). Short c U (k a z)) (sym h.1) (f a h.0)

pub short_as : {A B : Type 0} (c : ℕ) (W : A → Type 0) (U : B → Type 0) (f : A → B) (x : Res A) → Short c W x → ((a : A) → W a → U (f a)) → Short c U (x then λ a q. ok (f a) q)
short_as c W U f (bad r) h g = h
short_as c W U f (ok a q) h g = (g a h.0, h.1)

pub short_weak : {A : Type 0} (c : ℕ) (W U : A → Type 0) (x : Res A) → Short c W x → ((a : A) → W a → U a) → Short c U x
short_weak c W U (bad r) h g = h
short_weak c W U (ok a q) h g = (g a h.0, h.1)

pub short-inside : {A : Type 0} (c m : ℕ) → is_clip m ≡ true → (W : A → Type 0) (x : Res A) → Short c W x → Short c W (numbered_as m x)
short-inside c m i W (bad r) h = (renumbered-clip m r i ∙ h.0, subst (λ (z : ℕ). z ≤ c) (sym (renumbered-bit m r)) h.1)
short-inside c m i W (ok a q) h = h

pub short-checked : {A : Type 0} (c : ℕ) (W : A → Type 0) (t : A → Bool) (y : Refusal) (x : Res A) → Short c W x → ((a : A) → W a → t a ≡ true)
    → Short c W (x then λ a q. pick (t a) (ok a q) (bad y))
short-checked c W t y (bad r) h f = h
short-checked c W t y (ok a q) h f = rw (f a h.0) h

-- s was cut to t, whose bits are those of s
module _ (s t : List ℕ) (agree : Agree s t 0 (length t * 8)) (less : length t * 8 < length s * 8) where
  abbrev c : ℕ
  c = length t * 8

  -- a format whose values are W where they are cut, and B where no bit is left
  pub record Cuts {A : Type 0} (F : Format A) (W B : A → A → Type 0) : Type 0 where
    pub cut : (p : ℕ) (a : A) (q : ℕ) → p ≤ c → F.read s p ≡ ok a q → c < q → Short c (W a) (F.read t p)
    pub end : (p : ℕ) (a : A) (q : ℕ) → F.read s p ≡ ok a q → Short c (B a) (F.read t c)

  -- and what is read before the cut is read so still
  abbrev pub Keeps : {A : Type 0} → Format A → Type 0
  Keeps {A} F = (p : ℕ) (a : A) (q : ℕ) → p ≤ c → F.read s p ≡ ok a q → q ≤ c → F.read t p ≡ ok a q

  -- ## One field

  module _ {A : Type 0} (val : List ℕ → ℕ → A) (w : ℕ) (none : w ≡ 0 → (p q : ℕ) → val s p ≡ val t q) where
    abbrev field_read : List ℕ → ℕ → Res A
    field_read u p = pick (leb (p + w) (length u * 8)) (ok (val u p) (p + w)) (bad (ran_out p))

    field-ok : (p : ℕ) (a : A) (q : ℕ) → field_read s p ≡ ok a q → (val s p ≡ a) × (p + w ≡ q)
    field-ok p a q e = go (leb (p + w) (length s * 8)) e
      where
        go : (b : Bool) → pick b (ok (val s p) (p + w)) (bad (ran_out p)) ≡ ok a q → (val s p ≡ a) × (p + w ≡ q)
        go true e = (cc, cc)
        go false e = absurd (let z : ◌≡◌ {A = ℕ} 0 1 = cc in omega arith)

    field_cut : (p : ℕ) (a : A) (q : ℕ) → p ≤ c → field_read s p ≡ ok a q → c < q → Short c (λ b. ⊥) (field_read t p)
    field_cut p a q l e m = rw (lt-leb (p + w) c (omega (arith, (field-ok p a q e).1))) (gone c p l)

    field_end : (p : ℕ) (a : A) (q : ℕ) → field_read s p ≡ ok a q → Short c (λ b. a ≡ b) (field_read t c)
    field_end p a q e = go (ℕ_discrete w 0)
      where
        go : Dec (w ≡ 0) → Short c (λ b. a ≡ b) (field_read t c)
        go (yes z) = rw (le-leb (c + w) c (omega arith)) ((sym (field-ok p a q e).0 ∙ none z p c, omega arith))
        go (no n) = rw (lt-leb (c + w) c (omega arith)) (gone c c (omega arith))

  pub num-cuts : (w : ℕ) → Cuts (num w) (λ a b. ⊥) (λ a b. a ≡ b)
  num-cuts w = record { cut = field_cut (λ u p. field u p w) w same; end = field_end (λ u p. field u p w) w same }
    where
      same : w ≡ 0 → (p q : ℕ) → field s p w ≡ field t q w
      same z p q = rw (z, field-zero s p, field-zero t q)

  pub row-cuts : (ws : List ℕ) → Cuts (row ws) (λ a b. ⊥) (λ a b. a ≡ b)
  row-cuts ws = record { cut = field_cut (λ u p. fields_at ws u p) (total ws) (same ws); end = field_end (λ u p. fields_at ws u p) (total ws) (same ws) }
    where
      same : (ws : List ℕ) → total ws ≡ 0 → (p q : ℕ) → fields_at ws s p ≡ fields_at ws t q
      same [] z p q = refl
      same (w ∷ ws) z p q =
          let v : w ≡ 0 = omega arith in
          ap₂ (λ (x : ℕ) (y : List ℕ). x ∷ y) (rw (v, field-zero s p, field-zero t q)) (same ws (omega arith) (p + w) (q + w))

  -- ## A bit

  -- no bit is left at c
  flag-end : (num 1).read t c ≡ bad (ran_out c)
  flag-end = rw (lt-leb (c + 1) c (omega arith))

  flag_same : (p b q : ℕ) → p < c → (num 1).read s p ≡ ok b q → (num 1).read t p ≡ ok b q
  flag_same p b q l e =
      let f = flag-stands s p b q e in
      flag-back t p b l (sym (agree p (omega arith) l) ∙ f.is) ∙ ap (λ (z : ℕ). ok b z) (sym f.next)

  pub coded-cuts : Cuts coded (λ a b. ⊥) (λ a b. ⊥)
  coded-cuts =
      record {
        cut =
            λ p a q l e m.
            let h = passed ((num 1).read s p) (λ b q. ok (pick (eqb b (pad_bit p)) 0 1) q) a q e in
            let f = flag-stands s p h.value h.next h.first in
            let d = h.second in
            let g : h.next ≡ q = cc in
            rw (lt-leb (p + 1) c (omega (arith, f.next))) (gone c p l);
        end = λ p a q e. rw flag-end (gone c c (omega arith));
      }

  -- a bit, and one of two parts behind it
  module _ {A : Type 0} (R S : List ℕ → ℕ → Res A) (W : A → Type 0) where
    abbrev led_read : List ℕ → ℕ → Res A
    led_read u p = (num 1).read u p then λ b q. pick (eqb b 0) (R u q) (S u q)

    led-cut : (p : ℕ) (a : A) (q : ℕ) → p ≤ c → led_read s p ≡ ok a q
        → ((m : ℕ) → p < m → m ≤ c → (R s m ≡ ok a q → Short c W (R t m)) × (S s m ≡ ok a q → Short c W (S t m)))
        → Short c W (led_read t p)
    led-cut p a q l e f = here (ℕ_discrete p c) (passed ((num 1).read s p) (λ b q. pick (eqb b 0) (R s q) (S s q)) a q e)
      where
        part : (b : Bool) (m : ℕ) → p < m → m ≤ c → pick b (R s m) (S s m) ≡ ok a q → Short c W (pick b (R t m) (S t m))
        part true m i j e = (f m i j).0 e
        part false m i j e = (f m i j).1 e

        here : Dec (p ≡ c) → Passed ((num 1).read s p) (λ b q. pick (eqb b 0) (R s q) (S s q)) (ok a q) → Short c W (led_read t p)
        here (yes x) h = rw (lt-leb (p + 1) c (omega arith)) (gone c p l)
        here (no x) h =
            let d = flag-stands s p h.value h.next h.first in
            rw (flag_same p h.value h.next (omega arith) h.first)
            (part (eqb h.value 0) h.next (omega (arith, d.next)) (omega (arith, d.next)) h.second)

    led-end : Short c W (led_read t c)
    led-end = rw flag-end (gone c c (omega arith))

  -- where a value was made of what was read
  made : {A B : Type 0} (x : Res A) (f : A → B) (b : B) (q : ℕ) → x then (λ a r. ok (f a) r) ≡ ok b q → (a : A) × (x ≡ ok a q) × (f a ≡ b)
  made (ok a r) f b q e = let d : r ≡ q = cc in (a, ap (λ (z : ℕ). ok a z) d, cc)
  made (bad r) f b q e = absurd (let z : ◌≡◌ {A = ℕ} 0 1 = cc in omega arith)

  -- nothing is read up to behind the cut that ends before it
  not_behind : {A : Type 0} (a b : A) (m q : ℕ) → ok a m ≡ ok b q → m ≤ c → c < q → ⊥
  not_behind a b m q e l h = let d : m ≡ q = cc in omega arith

  -- a place is before the cut or behind it
  by_place : {A : Type 0} (k : ℕ) → (k ≤ c → A) → (c < k → A) → A
  by_place {A} k f g = go (leb k c) refl
    where
      go : (b : Bool) → leb k c ≡ b → A
      go true e = f (leb-true k c e)
      go false e = g (omega (arith, leb-false k c e))

  -- ## Parts

  module _ {A : Type 0} (F : Format A) (W B : A → A → Type 0) (f : Cuts F W B) where
    abbrev some_read : List ℕ → ℕ → Res (Option A)
    some_read u p = F.read u p then λ a q. ok (some a) q

    some-cut : (p : ℕ) (v : Option A) (q : ℕ) → p ≤ c → some_read s p ≡ ok v q → c < q → Short c (λ y. BothThere W v y) (some_read t p)
    some-cut p v q l e m =
        let h = made (F.read s p) some v q e in
        rw (← h.2) (short_as c (W h.0) (λ y. BothThere W (some h.0) y) some (F.read t p) (f.cut p h.0 q l h.1 m) (λ b w. w))

    pub opt-cuts : Cuts (opt F) (λ a b. BothThere W a b) (λ a b. ⊥)
    opt-cuts =
        record {
          cut =
              λ p v q l e m.
              led-cut (λ u p. ok none p) some_read (λ y. BothThere W v y) p v q l e (λ k i j. (λ x. absurd (not_behind none v k q x j m), λ x. some-cut k v q j x m));
          end = λ p v q e. led-end (λ u p. ok none p) some_read (λ y. ⊥);
        }

    pub when-cuts : (b : Bool) → Cuts (when b F) (λ x y. BothThere W x y) (λ x y. (x ≡ y) ⊎ BothThere B x y)
    when-cuts true =
        record {
          cut = some-cut;
          end =
              λ p v q e.
              let h = made (F.read s p) some v q e in
              rw (← h.2)
              (short_as c (B h.0) (λ y. (some h.0 ≡ y) ⊎ BothThere B (some h.0) y) some (F.read t c) (f.end p h.0 q h.1) (λ b w. inr w));
        }
    when-cuts false = record { cut = λ p v q l e m. absurd (not_behind none v p q e l m); end = λ p v q e. let d : none ≡ v = cc in (inl (sym d), refl) }

    pub checked-cuts : (b : A → Bool) (n : ℕ) → ((x y : A) → W x y ⊎ B x y → b x ≡ true → b y ≡ true) → Cuts (checked b n F) W B
    checked-cuts b n h =
        record {
          cut = λ p v q l e m. let g = tested p v q e in short-checked c (W v) b (ground n) (F.read t p) (f.cut p v q l g.0 m) (λ y w. h v y (inl w) g.1);
          end = λ p v q e. let g = tested p v q e in short-checked c (B v) b (ground n) (F.read t c) (f.end p v q g.0) (λ y w. h v y (inr w) g.1);
        }
      where
        tested : (p : ℕ) (v : A) (q : ℕ) → (checked b n F).read s p ≡ ok v q → (F.read s p ≡ ok v q) × (b v ≡ true)
        tested p v q e = let g = passed (F.read s p) (λ a q. pick (b a) (ok a q) (bad (ground n))) v q e in go g.value g.next (b g.value) g.first refl g.second
          where
            go : (a : A) (k : ℕ) (o : Bool) → F.read s p ≡ ok a k → b a ≡ o → pick o (ok a k) (bad (ground n)) ≡ ok v q → (F.read s p ≡ ok v q) × (b v ≡ true)
            go a k true x y z = let d : a ≡ v = cc in (x ∙ z, subst (λ r. b r ≡ true) d y)
            go a k false x y z = absurd (let z : ◌≡◌ {A = ℕ} 0 1 = cc in omega arith)

    pub inside-cuts : (m : ℕ) → is_clip m ≡ true → Cuts (in_release m F) W B
    inside-cuts m i =
        record {
          cut = λ p v q l e n. short-inside c m i (W v) (F.read t p) (f.cut p v q l (inside-ok m (F.read s p) v q e) n);
          end = λ p v q e. short-inside c m i (B v) (F.read t c) (f.end p v q (inside-ok m (F.read s p) v q e));
        }

    pub release-cuts : Cuts (release F) (λ x y. (y ≡ none) ⊎ BothThere W x y) (λ x y. y ≡ none)
    release-cuts =
        record {
          cut = λ p v q l e m. rw (release-led F t p) (here p (ℕ_discrete p c) v q l (sym (release-led F s p) ∙ e) m);
          end = λ p v q e. rw (eq-eqb c c refl) ((refl, refl));
        }
      where
        part_read : List ℕ → Bool → ℕ → Res (Option A)
        part_read u h q = pick h (some_read u q) (ok none q)

        part : (h : Bool) (m : ℕ) (v : Option A) (q : ℕ) → m ≤ c → c < q → part_read s h m ≡ ok v q → Short c (λ y. (y ≡ none) ⊎ BothThere W v y) (part_read t h m)
        part true m v q l i e = short_weak c (λ y. BothThere W v y) (λ y. (y ≡ none) ⊎ BothThere W v y) (some_read t m) (some-cut m v q l e i) (λ y w. inr w)
        part false m v q l i e = absurd (not_behind none v m q e l i)

        here : (p : ℕ) → Dec (p ≡ c) → (v : Option A) (q : ℕ) → p ≤ c → lead s p then (λ h q. part_read s h q) ≡ ok v q → c < q
            → Short c (λ y. (y ≡ none) ⊎ BothThere W v y) (lead t p then λ h q. part_read t h q)
        here p (yes x) v q l e m = rw (lead-end t p x) ((inl refl, x))
        here p (no x) v q l e m =
            let u = lead-bit s p (omega arith) in
            rw (lead-bit t p (omega arith), ← agree p (omega arith) (omega arith))
            (part (not (eqb (bit s p) (pad_bit p))) (p + 1) v q (omega arith) m (rw u at e))

  module _ {A B : Type 0} (F : Format A) (G : Format B) (W E : A → A → Type 0) (U X : B → B → Type 0) (f : Cuts F W E) (g : Cuts G U X) where
    -- one of two
    module _ (Y : A ⊎ B → A ⊎ B → Type 0) (left : (a b : A) → W a b → Y (inl a) (inl b)) (right : (a b : B) → U a b → Y (inr a) (inr b)) where
      abbrev leftRead : List ℕ → ℕ → Res (A ⊎ B)
      leftRead u p = F.read u p then λ a q. ok (inl a) q

      abbrev rightRead : List ℕ → ℕ → Res (A ⊎ B)
      rightRead u p = G.read u p then λ a q. ok (inr a) q

      left_cut : (p : ℕ) (v : A ⊎ B) (q : ℕ) → p ≤ c → leftRead s p ≡ ok v q → c < q → Short c (Y v) (leftRead t p)
      left_cut p v q l e m =
          let h = made (F.read s p) inl v q e in
          rw (← h.2) (short_as c (W h.0) (Y (inl h.0)) inl (F.read t p) (f.cut p h.0 q l h.1 m) (left h.0))

      right-cut : (p : ℕ) (v : A ⊎ B) (q : ℕ) → p ≤ c → rightRead s p ≡ ok v q → c < q → Short c (Y v) (rightRead t p)
      right-cut p v q l e m =
          let h = made (G.read s p) inr v q e in
          rw (← h.2) (short_as c (U h.0) (Y (inr h.0)) inr (G.read t p) (g.cut p h.0 q l h.1 m) (right h.0))

      pub either-cuts : Cuts (either F G) Y (λ a b. ⊥)
      either-cuts =
          record {
            cut = λ p v q l e m. led-cut leftRead rightRead (Y v) p v q l e (λ k i j. (λ x. left_cut k v q j x m, λ x. right-cut k v q j x m));
            end = λ p v q e. led-end leftRead rightRead (λ y. ⊥);
          }

    -- one after the other
    module _ (kept : Keeps F) where
      abbrev seqW : A × B → A × B → Type 0
      seqW x y = (W x.0 y.0 × X x.1 y.1) ⊎ ((x.0 ≡ y.0) × U x.1 y.1)

      abbrev withRead : A → List ℕ → ℕ → Res (A × B)
      withRead a u q = G.read u q then λ b r. ok (a, b) r

      -- the first is there whole, and the second is cut
      second-cut : (p : ℕ) (a : A) (k : ℕ) (v : A × B) (q : ℕ) → p ≤ c → F.read s p ≡ ok a k → k ≤ c → withRead a s k ≡ ok v q → c < q → Short c (seqW v) ((F ⨟ G).read t p)
      second-cut p a k v q l e i x m =
          let h = made (G.read s k) (λ b. (a, b)) v q x in
          rw (← h.2, kept p a k l e i)
          (short_as c (U h.0) (seqW (a, h.0)) (λ b. (a, b)) (G.read t k) (g.cut k h.0 q i h.1 m) (λ b w. inr (refl, w)))

      -- the first is cut, and of the second nothing is left
      first-cut : (p : ℕ) (a : A) (k : ℕ) (v : A × B) (q : ℕ) → p ≤ c → F.read s p ≡ ok a k → c < k → withRead a s k ≡ ok v q → Short c (seqW v) ((F ⨟ G).read t p)
      first-cut p a k v q l e i x =
          let h = made (G.read s k) (λ b. (a, b)) v q x in
          rw (← h.2)
          (short-then c (W a) (seqW (a, h.0)) (F.read t p) (λ y q. withRead y t q) (f.cut p a k l e i)
          (λ y w. short_as c (X h.0) (seqW (a, h.0)) (λ b. (y, b)) (G.read t c) (g.end k h.0 q h.1) (λ b z. inl (w, z))))

      pub seq-cuts : Cuts (F ⨟ G) seqW (λ x y. E x.0 y.0 × X x.1 y.1)
      seq-cuts =
          record {
            cut =
                λ p v q l e m.
                let h = passed (F.read s p) (λ a r. withRead a s r) v q e in
                by_place h.next (λ i. second-cut p h.value h.next v q l h.first i h.second m) (λ i. first-cut p h.value h.next v q l h.first i h.second);
            end =
                λ p v q e.
                let h = passed (F.read s p) (λ a r. withRead a s r) v q e in
                let k = made (G.read s h.next) (λ b. (h.value, b)) v q h.second in
                rw (← k.2)
                (short-then c (E h.value) (λ y. E h.value y.0 × X k.0 y.1) (F.read t c) (λ a q. withRead a t q) (f.end p h.value h.next h.first)
                (λ a w. short_as c (X k.0) (λ y. E h.value y.0 × X k.0 y.1) (λ b. (a, b)) (G.read t c) (g.end h.next k.0 q k.1) (λ b z. (w, z))));
          }

  -- one after the other, where the first, which has no later release, says what the second is
  module _ {A B : Type 0} (F : Format A) (G : A → Format B) (W E : A → A → Type 0) (U X : A → B → B → Type 0) (f : Cuts F W E) (g : (a : A) → Cuts (G a) (U a) (X a))
      (kept : Keeps F) (whole : (a b : A) → W a b → ⊥) (same : (a b : A) → E a b → a ≡ b) where
    abbrev by_read : A → List ℕ → ℕ → Res (A × B)
    by_read a u q = (G a).read u q then λ b r. ok (a, b) r

    abbrev by_w : A × B → A × B → Type 0
    by_w x y = (x.0 ≡ y.0) × U x.0 x.1 y.1

    abbrev by_e : A × B → A × B → Type 0
    by_e x y = (x.0 ≡ y.0) × X x.0 x.1 y.1

    said-cut : (p : ℕ) (a : A) (k : ℕ) (v : A × B) (q : ℕ) → p ≤ c → F.read s p ≡ ok a k → k ≤ c → by_read a s k ≡ ok v q → c < q → Short c (by_w v) ((F ▹ G).read t p)
    said-cut p a k v q l e i x m =
        let h = made ((G a).read s k) (λ b. (a, b)) v q x in
        rw (← h.2, kept p a k l e i)
        (short_as c (U a h.0) (by_w (a, h.0)) (λ b. (a, b)) ((G a).read t k) ((g a).cut k h.0 q i h.1 m) (λ b w. (refl, w)))

    said-end : (a : A) (k : ℕ) (v : A × B) (q : ℕ) → by_read a s k ≡ ok v q → (y : A) → a ≡ y → Short c (by_e v) (by_read y t c)
    said-end a k v q x y d =
        let h = made ((G a).read s k) (λ b. (a, b)) v q x in
        subst (λ (y : A). Short c (by_e v) (by_read y t c)) d
        (rw (← h.2) (short_as c (X a h.0) (by_e (a, h.0)) (λ b. (a, b)) ((G a).read t c) ((g a).end k h.0 q h.1) (λ b w. (refl, w))))

    pub after-cuts : Cuts (F ▹ G) by_w by_e
    after-cuts =
        record {
          cut =
              λ p v q l e m.
              let h = passed (F.read s p) (λ a r. by_read a s r) v q e in
              by_place h.next (λ i. said-cut p h.value h.next v q l h.first i h.second m)
              (λ i. short-then c (W h.value) (by_w v) (F.read t p) (λ a q. by_read a t q) (f.cut p h.value h.next l h.first i) (λ y w. absurd (whole h.value y w)));
          end =
              λ p v q e.
              let h = passed (F.read s p) (λ a r. by_read a s r) v q e in
              short-then c (E h.value) (by_e v) (F.read t c) (λ a q. by_read a t q) (f.end p h.value h.next h.first)
              (λ y w. said-end h.value h.next v q h.second y (same h.value y w));
        }

  -- ## A list of parts

  module _ {A : Type 0} (F : Format A) (W E : A → A → Type 0) (f : Cuts F W E) (kept : Keeps F)
      (C : Coming) (told : (u : List ℕ) (p : ℕ) → p ≤ length u * 8 → Told F.read C u p) where
    abbrev part_read : List ℕ → ℕ → Res (List A)
    part_read u p = F.read u p then λ a q. (list F).read u q then λ l r. ok (a ∷ l) r

    list-end : Short c (λ l. ⊥) ((list F).read t c)
    list-end = rw (list-step F C told t c) (led-end (λ u p. ok [] p) part_read (λ l. ⊥))

    items-cut : (n p : ℕ) (v : List A) (q : ℕ) → length s * 8 < n + p → p ≤ c → (list F).read s p ≡ ok v q → c < q → Short c (λ l. ⊥) ((list F).read t p)
    items-cut zero p v q h l e m = absurd (omega arith)
    items-cut (suc n) p v q h l e m =
        rw (list-step F C told t p)
        (led-cut (λ u p. ok [] p) part_read (λ l. ⊥) p v q l (sym (list-step F C told s p) ∙ e)
        (λ k i j. (λ x. absurd (not_behind [] v k q x j m), λ x. part (λ d w r y z o u. items-cut n d w r (omega arith) z y u) k i j x)))
      where
        IH : Type 0
        IH = (k : ℕ) (w : List A) (r : ℕ) → (list F).read s k ≡ ok w r → k ≤ c → p < k → c < r → Short c (λ l. ⊥) ((list F).read t k)

        part : IH → (k : ℕ) → p < k → k ≤ c → part_read s k ≡ ok v q → Short c (λ l. ⊥) (part_read t k)
        part ih k i j x =
            let g = passed (F.read s k) (λ a q. (list F).read s q then λ l r. ok (a ∷ l) r) v q x in
            let d = made ((list F).read s g.next) (λ l. g.value ∷ l) v q g.second in
            by_place g.next
            (λ z. rw (kept k g.value g.next j g.first z)
            (short_as c (λ l. ⊥) (λ l. ⊥) (λ l. g.value ∷ l) ((list F).read t g.next) (ih g.next d.0 q d.1 z (omega (arith, ((told s k (omega arith)).moves g.value g.next g.first).0)) m) (λ l w. w)))
            (λ z. short-then c (W g.value) (λ l. ⊥) (F.read t k) (λ a q. (list F).read t q then λ l r. ok (a ∷ l) r) (f.cut k g.value g.next j g.first z)
            (λ a w. short_as c (λ l. ⊥) (λ l. ⊥) (λ l. a ∷ l) ((list F).read t c) list-end (λ l w. w)))

    pub list-cuts : Cuts (list F) (λ x y. ⊥) (λ x y. ⊥)
    list-cuts = record { cut = λ p v q l e m. items-cut (length s * 8 + 1) p v q (omega arith) l e m; end = λ p v q e. list-end }
