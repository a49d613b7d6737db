-- What a reader tells of bits that ran out, and of octets that agree: of one field, of nothing, of one after the other. Assumes nothing.
use mathlib.Core.Path.{◌≡◌, refl, sym, ap, ◌∙◌, subst}
use mathlib.Core.List.{List}
use mathlib.Core.Bool.{Bool, true, false}
use mathlib.Core.Logic.{◌⊎◌, inl, inr}
use Prim.Native.Nat.{ℕ, ◌+◌, ◌*◌, ◌≤◌, ◌<◌}
use native.Mathlib.Omega.{arith}
use lib.ListN.{length}
use lib.Dec.{leb}
use borrow.Author.Tests.{le-leb, lt-leb, leb-true, leb-false}
use Rattle.bits.specs.Field.{field, pick}
use Rattle.bits.proofs.Laws.{field_cong}
use Rattle.csn1.specs.declared.Refusal.{Refusal}
use Rattle.csn1.specs.Format.{Res, ok, bad, ◌then◌, ran_out, ground, is_clip, num}
use Rattle.csn1.specs.Clip.{FieldAt, Behind, Coming, Agree}

-- ## What is read in two steps

abbrev pub Reader : Type 0 → Type 0
Reader A = List ℕ → ℕ → Res A

-- the first gave a value, and with it the second answered
pub record Passed {A B : Type 0} (x : Res A) (k : A → ℕ → Res B) (y : Res B) : Type 0 where
  pub value : A
  pub next : ℕ
  pub first : x ≡ ok value next
  pub second : k value next ≡ y

pub passed : {A B : Type 0} (x : Res A) (k : A → ℕ → Res B) (b : B) (q : ℕ) → x then k ≡ ok b q → Passed x k (ok b q)
passed (ok a m) k b q e = record { value = a; next = m; first = refl; second = e }
passed (bad r) k b q e = absurd (let z : ◌≡◌ {A = ℕ} 0 1 = cc in omega arith)

pub stopped : {A B : Type 0} (x : Res A) (k : A → ℕ → Res B) (r : Refusal) → x then k ≡ bad r → (x ≡ bad r) ⊎ Passed x k (bad r)
stopped (ok a m) k r e = inr (record { value = a; next = m; first = refl; second = e })
stopped (bad t) k r e = let d : t ≡ r = cc in inl (ap bad d)

-- what is behind what was read
pub behind : {A : Type 0} (x : Res A) (P : A → ℕ → Type 0) (a : A) (q : ℕ) → x ≡ ok a q → P a q → Behind x P
behind x P a q e d = subst (λ y. Behind y P) (sym e) d

pub record Went {A : Type 0} (x : Res A) (P : A → ℕ → Type 0) : Type 0 where
  pub value : A
  pub next : ℕ
  pub first : x ≡ ok value next
  pub here : P value next

pub went : {A : Type 0} (x : Res A) (P : A → ℕ → Type 0) → Behind x P → Went x P
went (ok a q) P d = record { value = a; next = q; first = refl; here = d }
went (bad r) P d = absurd d

-- fields behind what was read, named otherwise
pub behind_as : {A E : Type 0} (x : Res A) (P Q : A → ℕ → Type 0) → ((a : A) (q : ℕ) → P a q → Q a q) → E ⊎ Behind x P → E ⊎ Behind x Q
behind_as x P Q f (inl e) = inl e
behind_as (ok a q) P Q f (inr d) = inr (f a q d)
behind_as (bad r) P Q f (inr d) = absurd d

-- ## What is told

pub record Reach (C : Coming) (s : List ℕ) (p at : ℕ) : Type 0 where
  pub refusal : Refusal
  pub width : ℕ
  pub comes : C s p refusal width
  pub there : refusal.bit ≡ at

pub record Clip (C : Coming) (s : List ℕ) (p : ℕ) (r : Refusal) : Type 0 where
  pub from : p ≤ r.bit
  pub width : ℕ
  pub comes : C s p r width
  pub within : r.bit ≤ length s * 8
  pub missing : length s * 8 < r.bit + width
  pub blameless : (t : List ℕ) → r.bit ≤ length t * 8 → Agree s t p r.bit → Reach C t p r.bit

-- of a reader R at a place p of the octets s
pub record Told {A : Type 0} (R : Reader A) (C : Coming) (s : List ℕ) (p : ℕ) : Type 0 where
  -- it goes on, and stays in the octets
  pub moves : (a : A) (q : ℕ) → R s p ≡ ok a q → (p ≤ q) × (q ≤ length s * 8)
  -- octets that agree up to the place reached are read so too; save that they may go on where these end, with a field there
  pub again : (a : A) (q : ℕ) → R s p ≡ ok a q → (t : List ℕ) → q ≤ length t * 8 → Agree s t p q → (R t p ≡ ok a q) ⊎ ((q ≡ length s * 8) × Reach C t p q)
  pub clip : (r : Refusal) → R s p ≡ bad r → is_clip r.number ≡ true → Clip C s p r
  pub placeless : (r : Refusal) → R s p ≡ bad r → is_clip r.number ≡ false → r.bit ≡ 0
  pub small : (r : Refusal) → R s p ≡ bad r → r.number < 256
  pub refused : (r : Refusal) (w : ℕ) → C s p r w → length s * 8 < r.bit + w → R s p ≡ bad r

-- the same for fields that are named otherwise
module _ {A : Type 0} (R : Reader A) (C D : Coming) (s : List ℕ) (p : ℕ) where
  as_reach : (t : List ℕ) (at : ℕ) → ((r : Refusal) (w : ℕ) → C t p r w → D t p r w) → Reach C t p at → Reach D t p at
  as_reach t at f h = record { refusal = h.refusal; width = h.width; comes = f h.refusal h.width h.comes; there = h.there }

  pub told_as : ((t : List ℕ) (r : Refusal) (w : ℕ) → C t p r w → D t p r w) → ((r : Refusal) (w : ℕ) → D s p r w → C s p r w) → Told R C s p → Told R D s p
  told_as f g h =
      record {
        moves = h.moves;
        again = λ a q e t l k. go t q (f t) (h.again a q e t l k);
        clip =
            λ r e i.
            let c = h.clip r e i in
            record {
              from = c.from;
              width = c.width;
              comes = f s r c.width c.comes;
              within = c.within;
              missing = c.missing;
              blameless = λ t l k. as_reach t r.bit (f t) (c.blameless t l k);
            };
        placeless = h.placeless;
        small = h.small;
        refused = λ r w d l. h.refused r w (g r w d) l;
      }
    where
      go : {E : Type 0} (t : List ℕ) (q : ℕ) → ((r : Refusal) (w : ℕ) → C t p r w → D t p r w) → E ⊎ ((q ≡ length s * 8) × Reach C t p q) → E ⊎ ((q ≡ length s * 8) × Reach D t p q)
      go t q f (inl e) = inl e
      go t q f (inr e) = inr (e.0, as_reach t q f e.1)

-- a reader that answers as another
pub told_same : {A : Type 0} (R S : Reader A) (C : Coming) (s : List ℕ) (p : ℕ) → ((t : List ℕ) → R t p ≡ S t p) → Told S C s p → Told R C s p
told_same {A} R S C s p f h =
    record {
      moves = λ a q e. h.moves a q (sym (f s) ∙ e);
      again = λ a q e t l k. go a q t (h.again a q (sym (f s) ∙ e) t l k);
      clip = λ r e i. h.clip r (sym (f s) ∙ e) i;
      placeless = λ r e i. h.placeless r (sym (f s) ∙ e) i;
      small = λ r e. h.small r (sym (f s) ∙ e);
      refused = λ r w c m. f s ∙ h.refused r w c m;
    }
  where
    go : (a : A) (q : ℕ) (t : List ℕ) → (S t p ≡ ok a q) ⊎ ((q ≡ length s * 8) × Reach C t p q) → (R t p ≡ ok a q) ⊎ ((q ≡ length s * 8) × Reach C t p q)
    go a q t (inl e) = inl (f t ∙ e)
    go a q t (inr e) = inr e

-- ## One field

-- a part of the bits in which octets agree
pub agree-part : (s t : List ℕ) (p q a b : ℕ) → Agree s t p q → p ≤ a → b ≤ q → Agree s t a b
agree-part s t p q a b h l m k i j = h k (omega arith) (omega arith)

pub ran_out-bit : (p : ℕ) → (ran_out p).bit ≡ p
unfolding ran_out
ran_out-bit p = refl

ran_out-small : (p : ℕ) → (ran_out p).number < 256
unfolding ran_out
ran_out-small p = omega arith

ran_out-clip : (p : ℕ) → is_clip (ran_out p).number ≡ true
unfolding ran_out
ran_out-clip p = refl

never : (b : Bool) → b ≡ true → b ≡ false → ⊥
never b x y = let z : true ≡ false = sym x ∙ y in let w : ◌≡◌ {A = ℕ} 0 1 = cc in omega arith

module _ {A : Type 0} (val : List ℕ → ℕ → A) (w : ℕ) (same : (s t : List ℕ) (p : ℕ) → Agree s t p (p + w) → val s p ≡ val t p) where
  abbrev field_read : Reader A
  field_read s p = pick (leb (p + w) (length s * 8)) (ok (val s p) (p + w)) (bad (ran_out p))

  field-here : (s : List ℕ) (p : ℕ) → p + w ≤ length s * 8 → field_read s p ≡ ok (val s p) (p + w)
  field-here s p l = rw (le-leb (p + w) (length s * 8) l)

  field-gone : (s : List ℕ) (p : ℕ) → length s * 8 < p + w → field_read s p ≡ bad (ran_out p)
  field-gone s p l = rw (lt-leb (p + w) (length s * 8) l)

  record There (s : List ℕ) (p : ℕ) (a : A) (q : ℕ) : Type 0 where
    is : val s p ≡ a
    next : p + w ≡ q
    enough : p + w ≤ length s * 8

  field-ok : (s : List ℕ) (p : ℕ) (a : A) (q : ℕ) → field_read s p ≡ ok a q → There s p a q
  field-ok s p a q e = go (leb (p + w) (length s * 8)) refl e
    where
      go : (t : Bool) → leb (p + w) (length s * 8) ≡ t → pick t (ok (val s p) (p + w)) (bad (ran_out p)) ≡ ok a q → There s p a q
      go true l e = record { is = cc; next = cc; enough = leb-true (p + w) (length s * 8) l }
      go false l e = absurd (let z : ◌≡◌ {A = ℕ} 0 1 = cc in omega arith)

  field-bad : (s : List ℕ) (p : ℕ) (r : Refusal) → field_read s p ≡ bad r → (ran_out p ≡ r) × (length s * 8 < p + w)
  field-bad s p r e = go (leb (p + w) (length s * 8)) refl e
    where
      go : (t : Bool) → leb (p + w) (length s * 8) ≡ t → pick t (ok (val s p) (p + w)) (bad (ran_out p)) ≡ bad r → (ran_out p ≡ r) × (length s * 8 < p + w)
      go true l e = absurd (let z : ◌≡◌ {A = ℕ} 0 1 = cc in omega arith)
      go false l e = (cc, omega (arith, leb-false (p + w) (length s * 8) l))

  abbrev field_comes : Coming
  field_comes s p r v = FieldAt p w r v

  field-clip : (s : List ℕ) (p : ℕ) → p ≤ length s * 8 → length s * 8 < p + w → Clip field_comes s p (ran_out p)
  unfolding ran_out
  field-clip s p l m =
      record {
        from = omega arith;
        width = w;
        comes = (refl, refl);
        within = l;
        missing = m;
        blameless = λ t i j. record { refusal = ran_out p; width = w; comes = (refl, refl); there = refl };
      }

  pub field_told : (s : List ℕ) (p : ℕ) → p ≤ length s * 8 → Told field_read field_comes s p
  field_told s p l =
      record {
        moves = λ a q e. let f = field-ok s p a q e in (omega (arith, f.next), omega (arith, f.next, f.enough));
        again =
            λ a q e t i k.
            let f = field-ok s p a q e in
            let j : p + w ≤ length t * 8 = omega (arith, f.next) in
            let v : val t p ≡ a = sym (same s t p (agree-part s t p q p (p + w) k (omega arith) (omega (arith, f.next)))) ∙ f.is in
            inl (field-here t p j ∙ rw (v, f.next));
        clip = λ r e i. let f = field-bad s p r e in subst (λ (x : Refusal). Clip field_comes s p x) f.0 (field-clip s p l f.1);
        placeless = λ r e i. let f = field-bad s p r e in absurd (never (is_clip r.number) (subst (λ (x : Refusal). is_clip x.number ≡ true) f.0 (ran_out-clip p)) i);
        small = λ r e. let f = field-bad s p r e in subst (λ (x : Refusal). x.number < 256) f.0 (ran_out-small p);
        refused = λ r v c m. field-gone s p (omega (arith, ran_out-bit p, ap (λ (x : Refusal). x.bit) c.0, c.1)) ∙ ap bad (sym c.0);
      }

pub num-told : (w : ℕ) (s : List ℕ) (p : ℕ) → p ≤ length s * 8 → Told (λ s p. (num w).read s p) (λ s p r v. FieldAt p w r v) s p
num-told w s p l = field_told (λ s p. field s p w) w (λ s t p h. field_cong s t p w (λ k i. h (p + k) (omega arith) (omega arith))) s p l

-- ## Nothing, or a ground

pub pure_told : {A : Type 0} (a : A) (s : List ℕ) (p : ℕ) → p ≤ length s * 8 → Told (λ s p. ok a p) (λ s p r w. ⊥) s p
pure_told a s p l =
    record {
      moves = λ b q e. let d : p ≡ q = cc in (omega arith, omega arith);
      again = λ b q e t i k. inl e;
      clip = λ r e i. absurd (let z : ◌≡◌ {A = ℕ} 0 1 = cc in omega arith);
      placeless = λ r e i. absurd (let z : ◌≡◌ {A = ℕ} 0 1 = cc in omega arith);
      small = λ r e. absurd (let z : ◌≡◌ {A = ℕ} 0 1 = cc in omega arith);
      refused = λ r w c m. absurd c;
    }

pub ground-told : {A : Type 0} (m : ℕ) → is_clip m ≡ false → m < 256 → (s : List ℕ) (p : ℕ) → Told {A = A} (λ s p. bad (ground m)) (λ s p r w. ⊥) s p
unfolding ground
ground-told m c o s p =
    record {
      moves = λ b q e. absurd (let z : ◌≡◌ {A = ℕ} 0 1 = cc in omega arith);
      again = λ b q e t i k. absurd (let z : ◌≡◌ {A = ℕ} 0 1 = cc in omega arith);
      clip = λ r e i. let d : ground m ≡ r = cc in absurd (never (is_clip r.number) i (subst (λ (x : Refusal). is_clip x.number ≡ false) d c));
      placeless = λ r e i. let d : ground m ≡ r = cc in ap (λ (x : Refusal). x.bit) (sym d);
      small = λ r e. let d : ground m ≡ r = cc in subst (λ (x : Refusal). x.number < 256) d o;
      refused = λ r w c m. absurd c;
    }

-- ## One of two readers

pub if_told : {A : Type 0} (b : Bool) (R S : Reader A) (C D : Coming) (s : List ℕ) (p : ℕ) → Told R C s p → Told S D s p
    → Told (λ s p. pick b (R s p) (S s p)) (λ s p r w. ((b ≡ true) × C s p r w) ⊎ ((b ≡ false) × D s p r w)) s p
if_told true R S C D s p f g = told_as R C (λ s p r w. ((true ≡ true) × C s p r w) ⊎ ((true ≡ false) × D s p r w)) s p (λ t r w c. inl (refl, c)) go f
  where
    go : (r : Refusal) (w : ℕ) → ((true ≡ true) × C s p r w) ⊎ ((true ≡ false) × D s p r w) → C s p r w
    go r w (inl c) = c.1
    go r w (inr c) = absurd (never true refl c.0)
if_told false R S C D s p f g = told_as S D (λ s p r w. ((false ≡ true) × C s p r w) ⊎ ((false ≡ false) × D s p r w)) s p (λ t r w c. inr (refl, c)) go g
  where
    go : (r : Refusal) (w : ℕ) → ((false ≡ true) × C s p r w) ⊎ ((false ≡ false) × D s p r w) → D s p r w
    go r w (inl c) = absurd (never false c.0 refl)
    go r w (inr c) = c.1

-- ## What was read, made into something else

module _ {A B : Type 0} (R : Reader A) (C : Coming) (f : ℕ → A → B) (s : List ℕ) (p : ℕ) (h : Told R C s p) where
  abbrev mapped : Reader B
  mapped t m = R t m then λ a q. ok (f m a) q

  map-clip : (r : Refusal) → mapped s p ≡ bad r → R s p ≡ bad r
  map-clip r e = go (stopped (R s p) (λ a q. ok (f p a) q) r e)
    where
      go : (R s p ≡ bad r) ⊎ Passed (R s p) (λ a q. ok (f p a) q) (bad r) → R s p ≡ bad r
      go (inl x) = x
      go (inr x) = absurd (let y = x.second in let z : ◌≡◌ {A = ℕ} 0 1 = cc in omega arith)

  map-again : (b : B) (q : ℕ) → mapped s p ≡ ok b q → (t : List ℕ) → q ≤ length t * 8 → Agree s t p q → (mapped t p ≡ ok b q) ⊎ ((q ≡ length s * 8) × Reach C t p q)
  map-again b q e t l k =
      let u = passed (R s p) (λ a q. ok (f p a) q) b q e in
      let y = u.second in
      let x : f p u.value ≡ b = cc in
      let d : u.next ≡ q = cc in
      go u.value x (h.again u.value q (u.first ∙ ap (λ (z : ℕ). ok u.value z) d) t l k)
    where
      go : (a : A) → f p a ≡ b → (R t p ≡ ok a q) ⊎ ((q ≡ length s * 8) × Reach C t p q) → (mapped t p ≡ ok b q) ⊎ ((q ≡ length s * 8) × Reach C t p q)
      go a x (inl e) = inl (rw (e, x))
      go a x (inr e) = inr e

  pub map-told : Told mapped C s p
  map-told =
      record {
        moves =
            λ b q e.
            let u = passed (R s p) (λ a q. ok (f p a) q) b q e in
            let y = u.second in
            let d : u.next ≡ q = cc in
            subst (λ (z : ℕ). (p ≤ z) × (z ≤ length s * 8)) d (h.moves u.value u.next u.first);
        again = map-again;
        clip = λ r e i. h.clip r (map-clip r e) i;
        placeless = λ r e i. h.placeless r (map-clip r e) i;
        small = λ r e. h.small r (map-clip r e);
        refused = λ r w c m. rw (h.refused r w c m);
      }

-- ## One after the other

-- the second may look at what the first gave, and at the place where that began
module _ {A B : Type 0} (R : Reader A) (C : Coming) (K : ℕ → A → Reader B) (D : ℕ → A → Coming) where
  abbrev pub bound : Reader B
  bound s p = R s p then λ a q. K p a s q

  abbrev pub bound_comes : Coming
  bound_comes s p r w = C s p r w ⊎ Behind (R s p) (λ a q. D p a s q r w)

  in-first : (t : List ℕ) (p at : ℕ) → Reach C t p at → Reach bound_comes t p at
  in-first t p at h = record { refusal = h.refusal; width = h.width; comes = inl h.comes; there = h.there }

  in-second : (t : List ℕ) (p : ℕ) (a : A) (q at : ℕ) → R t p ≡ ok a q → Reach (D p a) t q at → Reach bound_comes t p at
  in-second t p a q at e h =
      record {
        refusal = h.refusal;
        width = h.width;
        comes = inr (behind (R t p) (λ a q. D p a t q h.refusal h.width) a q e h.comes);
        there = h.there;
      }

  module _ (s : List ℕ) (p : ℕ) (h : Told R C s p) (k : (a : A) (q : ℕ) → R s p ≡ ok a q → Told (K p a) (D p a) s q) where
    bind_moves : (b : B) (q : ℕ) → bound s p ≡ ok b q → (p ≤ q) × (q ≤ length s * 8)
    bind_moves b q e =
        let u = passed (R s p) (λ a q. K p a s q) b q e in
        let x = h.moves u.value u.next u.first in
        let y = (k u.value u.next u.first).moves b q u.second in
        (omega (arith, x.0, y.0), y.1)

    bind_again : (b : B) (q : ℕ) → bound s p ≡ ok b q → (t : List ℕ) → q ≤ length t * 8 → Agree s t p q → (bound t p ≡ ok b q) ⊎ ((q ≡ length s * 8) × Reach bound_comes t p q)
    bind_again b q e t l g = go u.value u.next (h.moves u.value u.next u.first) y (h.again u.value u.next u.first t (omega (arith, y.0)) (agree-part s t p q p u.next g (omega arith) y.0))
        ((k u.value u.next u.first).again b q u.second t l (agree-part s t p q u.next q g (h.moves u.value u.next u.first).0 (omega arith)))
      where
        u : Passed (R s p) (λ a q. K p a s q) (ok b q)
        u = passed (R s p) (λ a q. K p a s q) b q e

        y : (u.next ≤ q) × (q ≤ length s * 8)
        y = (k u.value u.next u.first).moves b q u.second

        go : (a : A) (m : ℕ) → (p ≤ m) × (m ≤ length s * 8) → (m ≤ q) × (q ≤ length s * 8) → (R t p ≡ ok a m) ⊎ ((m ≡ length s * 8) × Reach C t p m)
            → (K p a t m ≡ ok b q) ⊎ ((q ≡ length s * 8) × Reach (D p a) t m q)
            → (bound t p ≡ ok b q) ⊎ ((q ≡ length s * 8) × Reach bound_comes t p q)
        go a m i j (inl x) (inl y) = inl (rw (x, y))
        go a m i j (inl x) (inr y) = inr (y.0, in-second t p a m q x y.1)
        go a m i j (inr x) y =
            let d : q ≡ m = omega (arith, x.0, j.0, j.1) in
            inr (d ∙ x.0, in-first t p q (subst (λ (z : ℕ). Reach C t p z) (sym d) x.1))

    first-clip : (r : Refusal) → Clip C s p r → Clip bound_comes s p r
    first-clip r c =
        record {
          from = c.from;
          width = c.width;
          comes = inl c.comes;
          within = c.within;
          missing = c.missing;
          blameless = λ t l g. in-first t p r.bit (c.blameless t l g);
        }

    second-clip : (r : Refusal) (a : A) (m : ℕ) → R s p ≡ ok a m → Clip (D p a) s m r → Clip bound_comes s p r
    second-clip r a m e c =
        record {
          from = omega (arith, c.from, (h.moves a m e).0);
          width = c.width;
          comes = inr (behind (R s p) (λ a q. D p a s q r c.width) a m e c.comes);
          within = c.within;
          missing = c.missing;
          blameless =
              λ t l g.
              go t (c.blameless t l (agree-part s t p r.bit m r.bit g (h.moves a m e).0 (omega arith)))
              (h.again a m e t (omega (arith, c.from)) (agree-part s t p r.bit p m g (omega arith) c.from));
        }
      where
        go : (t : List ℕ) → Reach (D p a) t m r.bit → (R t p ≡ ok a m) ⊎ ((m ≡ length s * 8) × Reach C t p m) → Reach bound_comes t p r.bit
        go t v (inl x) = in-second t p a m r.bit x v
        go t v (inr x) =
            let d : m ≡ r.bit = omega (arith, x.0, c.from, c.within) in
            in-first t p r.bit (subst (λ (z : ℕ). Reach C t p z) d x.1)

    bind_clip : (r : Refusal) → bound s p ≡ bad r → is_clip r.number ≡ true → Clip bound_comes s p r
    bind_clip r e i = go (stopped (R s p) (λ a q. K p a s q) r e)
      where
        go : (R s p ≡ bad r) ⊎ Passed (R s p) (λ a q. K p a s q) (bad r) → Clip bound_comes s p r
        go (inl x) = first-clip r (h.clip r x i)
        go (inr x) = second-clip r x.value x.next x.first ((k x.value x.next x.first).clip r x.second i)

    bind_placeless : (r : Refusal) → bound s p ≡ bad r → is_clip r.number ≡ false → r.bit ≡ 0
    bind_placeless r e i = go (stopped (R s p) (λ a q. K p a s q) r e)
      where
        go : (R s p ≡ bad r) ⊎ Passed (R s p) (λ a q. K p a s q) (bad r) → r.bit ≡ 0
        go (inl x) = h.placeless r x i
        go (inr x) = (k x.value x.next x.first).placeless r x.second i

    bind_refused : (r : Refusal) (w : ℕ) → bound_comes s p r w → length s * 8 < r.bit + w → bound s p ≡ bad r
    bind_refused r w (inl c) m = rw (h.refused r w c m)
    bind_refused r w (inr c) m =
        let u = went (R s p) (λ a q. D p a s q r w) c in
        rw (u.first, (k u.value u.next u.first).refused r w u.here m)

    bind_small : (r : Refusal) → bound s p ≡ bad r → r.number < 256
    bind_small r e = go (stopped (R s p) (λ a q. K p a s q) r e)
      where
        go : (R s p ≡ bad r) ⊎ Passed (R s p) (λ a q. K p a s q) (bad r) → r.number < 256
        go (inl x) = h.small r x
        go (inr x) = (k x.value x.next x.first).small r x.second

    pub bind_told : Told bound bound_comes s p
    bind_told = record { moves = bind_moves; again = bind_again; clip = bind_clip; placeless = bind_placeless; small = bind_small; refused = bind_refused }
