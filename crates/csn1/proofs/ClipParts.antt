-- Each way to make a format tells where bits ran out, and reads octets that agree the same way. Assumes nothing.
use mathlib.Core.Path.{◌≡◌, refl, sym, ap, ◌∙◌, subst}
use mathlib.Core.List.{List, [], ◌∷◌}
use mathlib.Core.Bool.{Bool, true, false, not}
use mathlib.Core.Option.{Option, none, some}
use mathlib.Core.Logic.{◌⊎◌, inl, inr}
use Prim.Native.Nat.{ℕ, zero, suc, ◌+◌, ◌*◌, ◌≤◌, ◌<◌}
use native.Mathlib.Numerals.{add-one}
use native.Mathlib.Omega.{arith}
use native.Mathlib.Decide.{ℕ_discrete}
use lib.ListN.{length}
use lib.Dec.{eqb}
use borrow.Author.Tests.{lt-leb, eq-eqb, ne_eqb, eqb-true, eqb-false}
use Rattle.bits.specs.Field.{bit, pick}
use Rattle.csn1.specs.declared.Refusal.{Refusal}
use Rattle.csn1.specs.Format.{Res, ok, bad, ◌then◌, ran_out, ground, is_clip, renumbered, Format, num, pad_bit, read_items, list, numbered_as, opt, release, checked, either, when}
use Rattle.csn1.specs.Told.{lead}
use Rattle.csn1.specs.Clip.{FieldAt, Behind, InList, the_flag, the_part, the_rest, Coming, Agree}
use Rattle.csn1.proofs.Lawful.{flag-back, flag-stands}
use Rattle.csn1.proofs.Reading.{release-led}
use Rattle.csn1.proofs.Clips.{Reader, behind, went, behind_as, Reach, Clip, Told, told_as, told_same, ran_out-bit, num-told, pure_told, ground-told, if_told, map-told, bound, bound_comes, bind_told}

-- ## A bit that says which of two follows

module _ {A : Type 0} (R S : Reader A) (C D : Coming) where
  abbrev pub led_read : Reader A
  led_read s p = (num 1).read s p then λ b q. pick (eqb b 0) (R s q) (S s q)

  abbrev led_comes : Coming
  led_comes s p r w = FieldAt p 1 r w ⊎ Behind ((num 1).read s p) (λ b q. ((b ≡ 0) × C s q r w) ⊎ ((b ≡ 0 → ⊥) × D s q r w))

  abbrev by_test : ℕ → ℕ → Coming
  by_test m b s q r w = ((eqb b 0 ≡ true) × C s q r w) ⊎ ((eqb b 0 ≡ false) × D s q r w)

  from-test : (m b : ℕ) (s : List ℕ) (q : ℕ) (r : Refusal) (w : ℕ) → by_test m b s q r w → ((b ≡ 0) × C s q r w) ⊎ ((b ≡ 0 → ⊥) × D s q r w)
  from-test m b s q r w (inl c) = inl (eqb-true b 0 c.0, c.1)
  from-test m b s q r w (inr c) = inr (eqb-false b 0 c.0, c.1)

  to-test : (m b : ℕ) (s : List ℕ) (q : ℕ) (r : Refusal) (w : ℕ) → ((b ≡ 0) × C s q r w) ⊎ ((b ≡ 0 → ⊥) × D s q r w) → by_test m b s q r w
  to-test m b s q r w (inl c) = inl (eq-eqb b 0 c.0, c.1)
  to-test m b s q r w (inr c) = inr (ne_eqb b 0 c.0, c.1)

  pub led-told : (s : List ℕ) (p : ℕ) → p ≤ length s * 8 → ((q : ℕ) → p < q → q ≤ length s * 8 → Told R C s q × Told S D s q) → Told led_read led_comes s p
  led-told s p l h =
      told_as led_read (bound_comes (num 1).read (λ s p r w. FieldAt p 1 r w) (λ m b s q. pick (eqb b 0) (R s q) (S s q)) by_test) led_comes s p
      (λ t r w c. behind_as ((num 1).read t p) (λ b q. by_test p b t q r w) (λ b q. ((b ≡ 0) × C t q r w) ⊎ ((b ≡ 0 → ⊥) × D t q r w)) (λ b q d. from-test p b t q r w d) c)
      (λ r w c. behind_as ((num 1).read s p) (λ b q. ((b ≡ 0) × C s q r w) ⊎ ((b ≡ 0 → ⊥) × D s q r w)) (λ b q. by_test p b s q r w) (λ b q d. to-test p b s q r w d) c)
      (bind_told (num 1).read (λ s p r w. FieldAt p 1 r w) (λ m b s q. pick (eqb b 0) (R s q) (S s q)) by_test s p (num-told 1 s p l)
      (λ b q e.
      let u = flag-stands s p b q e in
      let v = h q (omega (arith, u.next)) u.within in
      if_told (eqb b 0) R S C D s q v.0 v.1))

-- ## Parts that are led, chosen or tested

module _ {A : Type 0} (F : Format A) (C : Coming) (s : List ℕ) (told : (p : ℕ) → p ≤ length s * 8 → Told F.read C s p) where
  abbrev some_read : Reader (Option A)
  some_read t p = F.read t p then λ a q. ok (some a) q

  some-told : (p : ℕ) → p ≤ length s * 8 → Told some_read C s p
  some-told p l = map-told F.read C (λ m a. some a) s p (told p l)

  pub opt-told : (p : ℕ) → p ≤ length s * 8 → Told (opt F).read (λ s p r w. FieldAt p 1 r w ⊎ Behind ((num 1).read s p) (λ b q. (b ≡ 0 → ⊥) × C s q r w)) s p
  opt-told p l =
      told_as (opt F).read (led_comes (λ s p. ok none p) some_read (λ s p r w. ⊥) C) (λ s p r w. FieldAt p 1 r w ⊎ Behind ((num 1).read s p) (λ b q. (b ≡ 0 → ⊥) × C s q r w)) s p
      (λ t r w c. behind_as ((num 1).read t p) (λ b q. ((b ≡ 0) × ⊥) ⊎ ((b ≡ 0 → ⊥) × C t q r w)) (λ b q. (b ≡ 0 → ⊥) × C t q r w) (λ b q d. second b (C t q r w) d) c)
      (λ r w c. behind_as ((num 1).read s p) (λ b q. (b ≡ 0 → ⊥) × C s q r w) (λ b q. ((b ≡ 0) × ⊥) ⊎ ((b ≡ 0 → ⊥) × C s q r w)) (λ b q d. inr d) c)
      (led-told (λ s p. ok none p) some_read (λ s p r w. ⊥) C s p l (λ q i k. (pure_told none s q k, some-told q k)))
    where
      second : (b : ℕ) (E : Type 0) → ((b ≡ 0) × ⊥) ⊎ ((b ≡ 0 → ⊥) × E) → (b ≡ 0 → ⊥) × E
      second b E (inl d) = absurd d.1
      second b E (inr d) = d

  pub when-told : (b : Bool) (p : ℕ) → p ≤ length s * 8 → Told (when b F).read (λ s p r w. (b ≡ true) × C s p r w) s p
  when-told b p l =
      told_as (when b F).read (λ s p r w. ((b ≡ true) × C s p r w) ⊎ ((b ≡ false) × ⊥)) (λ s p r w. (b ≡ true) × C s p r w) s p
      (λ t r w c. first (C t p r w) c) (λ r w c. inl c)
      (if_told b some_read (λ s p. ok none p) C (λ s p r w. ⊥) s p (some-told p l) (pure_told none s p l))
    where
      first : (E : Type 0) → ((b ≡ true) × E) ⊎ ((b ≡ false) × ⊥) → (b ≡ true) × E
      first E (inl d) = d
      first E (inr d) = absurd d.1

  pub checked-told : (t : A → Bool) (m : ℕ) → is_clip m ≡ false → m < 256 → (p : ℕ) → p ≤ length s * 8 → Told (checked t m F).read C s p
  checked-told t m i o p l =
      told_as (checked t m F).read (bound_comes F.read C testRead testComes) C s p (λ u r w c. first (F.read u p) (C u p r w) r w c) (λ r w c. inl c)
      (bind_told F.read C testRead testComes s p (told p l)
      (λ a q e. if_told (t a) (λ s q. ok a q) (λ s q. bad (ground m)) (λ s p r w. ⊥) (λ s p r w. ⊥) s q (pure_told a s q ((told p l).moves a q e).1) (ground-told m i o s q)))
    where
      testRead : ℕ → A → Reader A
      testRead k a s q = pick (t a) (ok a q) (bad (ground m))

      testComes : ℕ → A → Coming
      testComes k a s q r w = ((t a ≡ true) × ⊥) ⊎ ((t a ≡ false) × ⊥)

      none-there : (a : A) (q : ℕ) (r : Refusal) (w : ℕ) → testComes q a s q r w → ⊥
      none-there a q r w (inl d) = d.1
      none-there a q r w (inr d) = d.1

      first : (x : Res A) (E : Type 0) (r : Refusal) (w : ℕ) → E ⊎ Behind x (λ a q. testComes p a s q r w) → E
      first x E r w (inl d) = d
      first x E r w (inr d) = let u = went x (λ a q. testComes p a s q r w) d in absurd (none-there u.value u.next r w u.here)

module _ {A B : Type 0} (F : Format A) (G : Format B) (C D : Coming) (s : List ℕ)
    (told : (p : ℕ) → p ≤ length s * 8 → Told F.read C s p) (tell : (p : ℕ) → p ≤ length s * 8 → Told G.read D s p) where
  pub either-told : (p : ℕ) → p ≤ length s * 8
      → Told (either F G).read (led_comes {A = A ⊎ B} (λ s p. F.read s p then λ a q. ok (inl a) q) (λ s p. G.read s p then λ b q. ok (inr b) q) C D) s p
  either-told p l =
      led-told (λ s p. F.read s p then λ a q. ok (inl a) q) (λ s p. G.read s p then λ b q. ok (inr b) q) C D s p l
      (λ q i k. (map-told F.read C (λ m a. inl a) s q (told q k), map-told G.read D (λ m b. inr b) s q (tell q k)))

-- ## What leads a later release

module _ (s : List ℕ) (p : ℕ) where
  pub lead-end : p ≡ length s * 8 → lead s p ≡ ok false p
  unfolding lead
  lead-end e = rw (eq-eqb p (length s * 8) e)

  pub lead-bit : p < length s * 8 → lead s p ≡ ok (not (eqb (bit s p) (pad_bit p))) (p + 1)
  unfolding lead
  lead-bit l = rw (ne_eqb p (length s * 8) (λ e. omega arith), flag-back s p (bit s p) l refl)

abbrev lead_comes : Coming
lead_comes s p r w = (p < length s * 8) × FieldAt p 1 r w

lead-again : (s : List ℕ) (p : ℕ) → p ≤ length s * 8 → (h : Bool) (q : ℕ) → lead s p ≡ ok h q → (t : List ℕ) → q ≤ length t * 8 → Agree s t p q
    → (lead t p ≡ ok h q) ⊎ ((q ≡ length s * 8) × Reach lead_comes t p q)
unfolding ran_out
lead-again s p l h q e t m k = go (ℕ_discrete p (length s * 8)) (ℕ_discrete p (length t * 8))
  where
    go : Dec (p ≡ length s * 8) → Dec (p ≡ length t * 8) → (lead t p ≡ ok h q) ⊎ ((q ≡ length s * 8) × Reach lead_comes t p q)
    go (yes x) (yes y) = inl (lead-end t p y ∙ sym (lead-end s p x) ∙ e)
    go (yes x) (no y) =
        let u = lead-end s p x in
        let d : p ≡ q = cc in
        inr (sym d ∙ x, record { refusal = ran_out p; width = 1; comes = (omega arith, (refl, refl)); there = d })
    go (no x) y =
        let u = lead-bit s p (omega arith) in
        let d : p + 1 ≡ q = cc in
        inl (lead-bit t p (omega arith) ∙ rw (← k p (omega arith) (omega arith)) (sym u ∙ e))

pub lead-told : (s : List ℕ) (p : ℕ) → p ≤ length s * 8 → Told lead lead_comes s p
lead-told s p l =
    record {
      moves = λ h q e. moves (ℕ_discrete p (length s * 8)) h q e;
      again = lead-again s p l;
      clip = λ r e i. absurd (fine (ℕ_discrete p (length s * 8)) r e);
      placeless = λ r e i. absurd (fine (ℕ_discrete p (length s * 8)) r e);
      small = λ r e. absurd (fine (ℕ_discrete p (length s * 8)) r e);
      refused = λ r w c m. absurd (omega (arith, ran_out-bit p, ap (λ (x : Refusal). x.bit) c.1.0, c.1.1, c.0));
    }
  where
    moves : Dec (p ≡ length s * 8) → (h : Bool) (q : ℕ) → lead s p ≡ ok h q → (p ≤ q) × (q ≤ length s * 8)
    moves (yes x) h q e = let u = lead-end s p x in let d : p ≡ q = cc in (omega arith, omega arith)
    moves (no x) h q e = let u = lead-bit s p (omega arith) in let d : p + 1 ≡ q = cc in (omega arith, omega arith)

    fine : Dec (p ≡ length s * 8) → (r : Refusal) → lead s p ≡ bad r → ⊥
    fine (yes x) r e = let u = lead-end s p x in let z : ◌≡◌ {A = ℕ} 0 1 = cc in omega arith
    fine (no x) r e = let u = lead-bit s p (omega arith) in let z : ◌≡◌ {A = ℕ} 0 1 = cc in omega arith

module _ {A : Type 0} (F : Format A) (C : Coming) (s : List ℕ) (told : (p : ℕ) → p ≤ length s * 8 → Told F.read C s p) where
  pub release-told : (p : ℕ) → p ≤ length s * 8
      → Told (release F).read (λ s p r w. ((p < length s * 8) × FieldAt p 1 r w) ⊎ Behind (lead s p) (λ h q. (h ≡ true) × C s q r w)) s p
  release-told p l =
      told_same (release F).read (bound lead lead_comes part_read part_comes) leadsTo s p (λ t. release-led F t p)
      (told_as (bound lead lead_comes part_read part_comes) (bound_comes lead lead_comes part_read part_comes) leadsTo s p
      (λ t r w c. behind_as (lead t p) (λ h q. part_comes p h t q r w) (λ h q. (h ≡ true) × C t q r w) (λ h q d. first h (C t q r w) d) c)
      (λ r w c. behind_as (lead s p) (λ h q. (h ≡ true) × C s q r w) (λ h q. part_comes p h s q r w) (λ h q d. inl d) c)
      (bind_told lead lead_comes part_read part_comes s p (lead-told s p l)
      (λ h q e. let v = ((lead-told s p l).moves h q e).1 in if_told h (some_read F C s told) (λ s q. ok none q) C (λ s p r w. ⊥) s q (some-told F C s told q v) (pure_told none s q v))))
    where
      part_read : ℕ → Bool → Reader (Option A)
      part_read m h t q = pick h (F.read t q then λ a r. ok (some a) r) (ok none q)

      part_comes : ℕ → Bool → Coming
      part_comes m h t q r w = ((h ≡ true) × C t q r w) ⊎ ((h ≡ false) × ⊥)

      leadsTo : Coming
      leadsTo t k r w = ((k < length t * 8) × FieldAt k 1 r w) ⊎ Behind (lead t k) (λ h q. (h ≡ true) × C t q r w)

      first : (h : Bool) (E : Type 0) → ((h ≡ true) × E) ⊎ ((h ≡ false) × ⊥) → (h ≡ true) × E
      first h E (inl d) = d
      first h E (inr d) = absurd d.1

-- ## A part of a later release

pub renumbered-bit : (m : ℕ) (x : Refusal) → (renumbered m x).bit ≡ x.bit
unfolding renumbered
renumbered-bit m x = go (eqb x.number 2)
  where
    go : (t : Bool) → (pick t (record { number = m; bit = x.bit }) x).bit ≡ x.bit
    go true = refl
    go false = refl

pub renumbered-clip : (m : ℕ) (x : Refusal) → is_clip m ≡ true → is_clip (renumbered m x).number ≡ is_clip x.number
unfolding renumbered
renumbered-clip m x c = go (eqb x.number 2) refl
  where
    go : (t : Bool) → eqb x.number 2 ≡ t → is_clip (pick t (record { number = m; bit = x.bit }) x).number ≡ is_clip x.number
    go true e = c ∙ sym (ap is_clip (eqb-true x.number 2 e))
    go false e = refl

clip-small : (m : ℕ) → is_clip m ≡ true → m < 256
clip-small m c = go (eqb m 2) (eqb m 14) refl refl c
  where
    go : (b d : Bool) → eqb m 2 ≡ b → eqb m 14 ≡ d → pick b true (pick d true (eqb m 15)) ≡ true → m < 256
    go true d x y z = omega (arith, eqb-true m 2 x)
    go false true x y z = omega (arith, eqb-true m 14 y)
    go false false x y z = omega (arith, eqb-true m 15 z)

renumbered-small : (m : ℕ) (x : Refusal) → m < 256 → x.number < 256 → (renumbered m x).number < 256
unfolding renumbered
renumbered-small m x a b = go (eqb x.number 2)
  where
    go : (t : Bool) → (pick t (record { number = m; bit = x.bit }) x).number < 256
    go true = a
    go false = b

pub inside-ok : {A : Type 0} (m : ℕ) (x : Res A) (a : A) (q : ℕ) → numbered_as m x ≡ ok a q → x ≡ ok a q
inside-ok m (ok b r) a q e = e
inside-ok m (bad r) a q e = absurd (let z : ◌≡◌ {A = ℕ} 0 1 = cc in omega arith)

pub inside-bad : {A : Type 0} (m : ℕ) (x : Res A) (r : Refusal) → numbered_as m x ≡ bad r → (y : Refusal) × (x ≡ bad y) × (renumbered m y ≡ r)
inside-bad m (ok b q) r e = absurd (let z : ◌≡◌ {A = ℕ} 0 1 = cc in omega arith)
inside-bad m (bad y) r e = (y, refl, cc)

module _ {A : Type 0} (m : ℕ) (i : is_clip m ≡ true) (R : Reader A) (C : Coming) (s : List ℕ) (p : ℕ) (h : Told R C s p) where
  abbrev inside_comes : Coming
  inside_comes t k r w = (x : Refusal) × (r ≡ renumbered m x) × C t k x w

  inside-reach : (t : List ℕ) (at : ℕ) → Reach C t p at → Reach inside_comes t p at
  inside-reach t at v =
      record { refusal = renumbered m v.refusal; width = v.width; comes = (v.refusal, refl, v.comes); there = renumbered-bit m v.refusal ∙ v.there }

  inside-clip : (y : Refusal) → Clip C s p y → Clip inside_comes s p (renumbered m y)
  inside-clip y c =
      let b = renumbered-bit m y in
      record {
        from = omega (arith, c.from);
        width = c.width;
        comes = (y, refl, c.comes);
        within = omega (arith, c.within);
        missing = omega (arith, c.missing);
        blameless = λ t l g. rw b (inside-reach t y.bit (c.blameless t (rw b at l) (rw b at g)));
      }

  pub inside-told : Told (λ t k. numbered_as m (R t k)) inside_comes s p
  inside-told =
      record {
        moves = λ a q e. h.moves a q (inside-ok m (R s p) a q e);
        again = λ a q e t l k. go a q t (h.again a q (inside-ok m (R s p) a q e) t l k);
        clip =
            λ r e c.
            let u = inside-bad m (R s p) r e in
            let z : is_clip u.0.number ≡ true = sym (renumbered-clip m u.0 i) ∙ ap (λ (x : Refusal). is_clip x.number) u.2 ∙ c in
            subst (λ (x : Refusal). Clip inside_comes s p x) u.2 (inside-clip u.0 (h.clip u.0 u.1 z));
        placeless =
            λ r e c.
            let u = inside-bad m (R s p) r e in
            let z : is_clip u.0.number ≡ false = sym (renumbered-clip m u.0 i) ∙ ap (λ (x : Refusal). is_clip x.number) u.2 ∙ c in
            ap (λ (x : Refusal). x.bit) (sym u.2) ∙ renumbered-bit m u.0 ∙ h.placeless u.0 u.1 z;
        small =
            λ r e.
            let u = inside-bad m (R s p) r e in
            subst (λ (x : Refusal). x.number < 256) u.2 (renumbered-small m u.0 (clip-small m i) (h.small u.0 u.1));
        refused =
            λ r w c l.
            let b = renumbered-bit m c.0 in
            let d : r.bit ≡ c.0.bit = ap (λ (x : Refusal). x.bit) c.1 ∙ b in
            rw (h.refused c.0 w c.2 (omega arith)) (ap bad (sym c.1));
      }
    where
      go : (a : A) (q : ℕ) (t : List ℕ) → (R t p ≡ ok a q) ⊎ ((q ≡ length s * 8) × Reach C t p q) → (numbered_as m (R t p) ≡ ok a q) ⊎ ((q ≡ length s * 8) × Reach inside_comes t p q)
      go a q t (inl e) = inl (rw e)
      go a q t (inr e) = inr (e.0, inside-reach t q e.1)

-- ## A list of parts

module _ {A : Type 0} (F : Format A) (C : Coming) (told : (s : List ℕ) (p : ℕ) → p ≤ length s * 8 → Told F.read C s p) where
  -- the answer does not depend on how many parts are allowed for, where they are enough
  items-fuel : (k j : ℕ) (s : List ℕ) (p : ℕ) → length s * 8 < k + p → length s * 8 < j + p → read_items F k s p ≡ read_items F j s p
  unfolding read_items
  items-fuel zero zero s p h g = refl
  items-fuel zero (suc j) s p h g = rw (lt-leb (p + 1) (length s * 8) (omega arith))
  items-fuel (suc k) zero s p h g = rw (lt-leb (p + 1) (length s * 8) (omega arith))
  items-fuel (suc k) (suc j) s p h g = flag ((num 1).read s p) refl (λ m l. items-fuel k j s m (omega arith) (omega arith))
    where
      IH : Type 0
      IH = (m : ℕ) → p + 1 ≤ m → read_items F k s m ≡ read_items F j s m

      part : (q : ℕ) (x : Res A) → q ≤ length s * 8 → p + 1 ≤ q → F.read s q ≡ x → IH
          → x then (λ a r. read_items F k s r then λ l t. ok (a ∷ l) t) ≡ x then (λ a r. read_items F j s r then λ l t. ok (a ∷ l) t)
      part q (bad r) l m e ih = refl
      part q (ok a r) l m e ih = rw (ih r (omega (arith, ((told s q l).moves a r e).0)))

      choice : (b : Bool) (q : ℕ) → q ≤ length s * 8 → p + 1 ≤ q → IH
          → pick b (ok [] q) (F.read s q then λ a r. read_items F k s r then λ l t. ok (a ∷ l) t)
          ≡ pick b (ok [] q) (F.read s q then λ a r. read_items F j s r then λ l t. ok (a ∷ l) t)
      choice true q l m ih = refl
      choice false q l m ih = part q (F.read s q) l m refl ih

      flag : (x : Res ℕ) → (num 1).read s p ≡ x → IH
          → x then (λ f q. pick (eqb f 0) (ok [] q) (F.read s q then λ a r. read_items F k s r then λ l t. ok (a ∷ l) t))
          ≡ x then (λ f q. pick (eqb f 0) (ok [] q) (F.read s q then λ a r. read_items F j s r then λ l t. ok (a ∷ l) t))
      flag (bad r) e ih = refl
      flag (ok b q) e ih = let u = flag-stands s p b q e in choice (eqb b 0) q u.within (omega (arith, u.next)) ih

  abbrev list_comes : Coming
  list_comes s p r w = InList F s (λ q. FieldAt q 1 r w) (λ q. C s q r w) p

  -- the list's reader, a step at a time
  abbrev rest_read : ℕ → A → Reader (List A)
  rest_read m a s p = (list F).read s p then λ l q. ok (a ∷ l) q

  abbrev part_read : Reader (List A)
  part_read = bound F.read C rest_read (λ m a. list_comes)

  abbrev part_comes : Coming
  part_comes = bound_comes F.read C rest_read (λ m a. list_comes)

  abbrev step_read : Reader (List A)
  step_read = led_read (λ s p. ok [] p) part_read (λ s p r w. ⊥) part_comes

  abbrev step_comes : Coming
  step_comes = led_comes (λ s p. ok [] p) part_read (λ s p r w. ⊥) part_comes

  pub list-step : (s : List ℕ) (p : ℕ) → (list F).read s p ≡ step_read s p
  unfolding read_items
  list-step s p = rw add-one (flag ((num 1).read s p) refl)
    where
      part : (q : ℕ) (x : Res A) → q ≤ length s * 8 → 1 ≤ q → F.read s q ≡ x
          → x then (λ a r. read_items F (length s * 8) s r then λ l t. ok (a ∷ l) t) ≡ x then (λ a r. read_items F (suc (length s * 8)) s r then λ l t. ok (a ∷ l) t)
      part q (bad r) l m e = refl
      part q (ok a r) l m e =
          rw (items-fuel (length s * 8) (suc (length s * 8)) s r (omega (arith, ((told s q l).moves a r e).0)) (omega arith))

      choice : (b : Bool) (q : ℕ) → q ≤ length s * 8 → 1 ≤ q
          → pick b (ok [] q) (F.read s q then λ a r. read_items F (length s * 8) s r then λ l t. ok (a ∷ l) t)
          ≡ pick b (ok [] q) (F.read s q then λ a r. read_items F (suc (length s * 8)) s r then λ l t. ok (a ∷ l) t)
      choice true q l m = refl
      choice false q l m = part q (F.read s q) l m refl

      flag : (x : Res ℕ) → (num 1).read s p ≡ x
          → x then (λ f q. pick (eqb f 0) (ok [] q) (F.read s q then λ a r. read_items F (length s * 8) s r then λ l t. ok (a ∷ l) t))
          ≡ x then (λ f q. pick (eqb f 0) (ok [] q) (F.read s q then λ a r. read_items F (suc (length s * 8)) s r then λ l t. ok (a ∷ l) t))
      flag (bad r) e = refl
      flag (ok b q) e = let u = flag-stands s p b q e in choice (eqb b 0) q u.within (omega (arith, u.next))

  step_in : (s : List ℕ) (p : ℕ) (r : Refusal) (w : ℕ) → step_comes s p r w → list_comes s p r w
  step_in s p r w (inl c) = the_flag c
  step_in s p r w (inr c) =
      let u = went ((num 1).read s p) (λ b q. ((b ≡ 0) × ⊥) ⊎ ((b ≡ 0 → ⊥) × part_comes s q r w)) c in part u.value u.next u.first u.here
    where
      rest : (b q : ℕ) → (num 1).read s p ≡ ok b q → (b ≡ 0 → ⊥) → part_comes s q r w → list_comes s p r w
      rest b q e n (inl c) = the_part e n c
      rest b q e n (inr c) = let u = went (F.read s q) (λ a m. list_comes s m r w) c in the_rest e n u.first u.here

      part : (b q : ℕ) → (num 1).read s p ≡ ok b q → ((b ≡ 0) × ⊥) ⊎ ((b ≡ 0 → ⊥) × part_comes s q r w) → list_comes s p r w
      part b q e (inl c) = absurd c.1
      part b q e (inr c) = rest b q e c.0 c.1

  step-out : (s : List ℕ) (p : ℕ) (r : Refusal) (w : ℕ) → list_comes s p r w → step_comes s p r w
  step-out s p r w (the_flag c) = inl c
  step-out s p r w (the_part {b = b} {q = q} e n c) =
      inr (behind ((num 1).read s p) (λ b q. ((b ≡ 0) × ⊥) ⊎ ((b ≡ 0 → ⊥) × part_comes s q r w)) b q e (inr (n, inl c)))
  step-out s p r w (the_rest {b = b} {q = q} {a = a} {m = m} e n f c) =
      inr (behind ((num 1).read s p) (λ b q. ((b ≡ 0) × ⊥) ⊎ ((b ≡ 0 → ⊥) × part_comes s q r w)) b q e
      (inr (n, inr (behind (F.read s q) (λ a m. list_comes s m r w) a m f c))))

  items-told : (n : ℕ) (s : List ℕ) (p : ℕ) → p ≤ length s * 8 → length s * 8 < n + p → Told (list F).read list_comes s p
  items-told zero s p l h = absurd (omega arith)
  items-told (suc n) s p l h =
      told_same (list F).read step_read list_comes s p (λ t. list-step t p)
      (told_as step_read step_comes list_comes s p (λ t r w c. step_in t p r w c) (λ r w c. step-out s p r w c)
      (led-told (λ s p. ok [] p) part_read (λ s p r w. ⊥) part_comes s p l
      (λ q i k. (
        pure_told [] s q k,
        bind_told F.read C rest_read (λ m a. list_comes) s q (told s q k)
            (λ a m f. let v = (told s q k).moves a m f in map-told (list F).read list_comes (λ k l. a ∷ l) s m (items-told n s m v.1 (omega (arith, v.0)))),
      ))))

  pub list-told : (s : List ℕ) (p : ℕ) → p ≤ length s * 8 → Told (list F).read list_comes s p
  list-told s p l = items-told (length s * 8 + 1) s p l (omega arith)
