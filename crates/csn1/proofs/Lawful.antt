-- Each way to make a format keeps the laws of specs/Promises: what one wrote the other reads, bit for bit. Assumes nothing.
use mathlib.Core.Path.{◌≡◌, refl, sym, ap, ap₂, ◌∙◌, subst}
use mathlib.Core.List.{List, [], ◌∷◌}
use mathlib.Core.Bool.{Bool, true, false}
use mathlib.Core.Option.{Option, none, some}
use mathlib.Core.Logic.{◌⊎◌, inl, inr}
use Prim.Native.Nat.{ℕ, zero, suc, ◌+◌, ◌-◌, ◌*◌, ◌%◌, ◌^◌, ◌≤◌, ◌<◌}
use native.Mathlib.Nat.{add-zero}
use native.Mathlib.Omega.{arith}
use lib.ListN.{length, length-append}
use lib.Dec.{leb, eqb}
use borrow.Author.Tests.{le-leb, leb-true, eq-eqb, ne_eqb, eqb-true, eqb-false}
use Rattle.bits.specs.Field.{bit, field, pick}
use Rattle.bits.proofs.Laws.{field-suc, field-zero, field_lt}
use Rattle.csn1.specs.declared.Refusal.{Refusal}
use Rattle.csn1.specs.Format.{Res, ok, bad, ◌then◌, ran_out, ground, Format, num_bits, num, total, row_bits, fields_at, RowFits, row, ◌▹◌, ◌⨟◌, opt, opt_bits, OptFits, items_bits}
use Rattle.csn1.specs.Format.{read_items, ItemsFit, list, pad_bit, coded_bit, coded, release_bits, release, checked, renumbered, is_clip, numbered_as, in_release, either_bits, EitherFits, either, when_bits, WhenFits, when, Holds, Binary}
use Rattle.csn1.specs.Promises.{Stands, Grounded, Lawful}
use Rattle.csn1.proofs.Holding.{holds-join, holds-left, holds-right, binary-join, num_bits-binary, length-num_bits, holds-field, field-holds}

-- ## Refusals have their numbers

then-grounds : {A B : Type 0} (r : Res A) (f : A → ℕ → Res B) → Grounded r → ((a : A) (q : ℕ) → Grounded (f a q)) → Grounded (r then f)
then-grounds (ok a q) f n h = h a q
then-grounds (bad r) f n h = n

pick-grounds : {A : Type 0} (t : Bool) (x y : Res A) → Grounded x → Grounded y → Grounded (pick t x y)
pick-grounds true x y f g = f
pick-grounds false x y f g = g

short-grounds : (p : ℕ) → 0 < (ran_out p).number
unfolding ran_out
short-grounds p = omega arith

test-grounds : (m : ℕ) → 0 < m → 0 < (ground m).number
unfolding ground
test-grounds m h = h

num-grounds : (w : ℕ) (s : List ℕ) (p : ℕ) → Grounded ((num w).read s p)
num-grounds w s p = pick-grounds (leb (p + w) (length s * 8)) (ok (field s p w) (p + w)) (bad (ran_out p)) tt (short-grounds p)

-- ## A number

num-stands : (w : ℕ) (s : List ℕ) (p a q : ℕ) → (num w).read s p ≡ ok a q → Stands (num w) s p a q
num-stands w s p a q e = go (leb (p + w) (length s * 8)) refl e
  where
    go : (t : Bool) → leb (p + w) (length s * 8) ≡ t → pick t (ok (field s p w) (p + w)) (bad (ran_out p)) ≡ ok a q → Stands (num w) s p a q
    go true l e =
        let f : field s p w ≡ a = cc in
        let n : p + w ≡ q = cc in
        record {
          fitting = subst (λ (x : ℕ). x < 2 ^ w) f (field_lt s p w);
          next = omega (arith, length-num_bits w a);
          holds = holds-field s p w a f;
          within = omega (arith, leb-true (p + w) (length s * 8) l);
        }
    go false l e = absurd (let z : ◌≡◌ {A = ℕ} 0 1 = cc in omega arith)

num-back : (w : ℕ) (s : List ℕ) (p a : ℕ) → a < 2 ^ w → p + w ≤ length s * 8 → Holds s p (num_bits w a) → (num w).read s p ≡ ok a (p + w)
num-back w s p a f l h = rw (le-leb (p + w) (length s * 8) l) (ap (λ (x : ℕ). ok x (p + w)) (field-holds s p w a f h))

pub num-lawful : (w : ℕ) → Lawful (num w)
num-lawful w =
    record {
      back = λ s p a f l h. rw (length-num_bits w a) (num-back w s p a f (rw (length-num_bits w a) at l) h);
      stands = λ s p a q l e. num-stands w s p a q e;
      binary = λ n p a. num_bits-binary w a;
      grounds = num-grounds w;
    }

-- ## One after the other

no_ok : {A : Type 0} (k : Refusal) (a : A) (q : ℕ) → bad k ≡ ok a q → ⊥
no_ok k a q e = let z : ◌≡◌ {A = ℕ} 0 1 = cc in omega arith

module _ {A B : Type 0} (F : Format A) (G : A → Format B) where
  -- both parts stand where they were read
  pub both_stand : (s : List ℕ) (p : ℕ) (a : A) (m : ℕ) (b : B) (t : ℕ) → Stands F s p a m → Stands (G a) s m b t → Stands (F ▹ G) s p (a, b) t
  both_stand s p a m b t u w =
      let n : ℕ = length s * 8 in
      let xs : List ℕ = F.bits n p a in
      let w' : Stands (G a) s (p + length xs) b t = subst (λ (x : ℕ). Stands (G a) s x b t) u.next w in
      record {
        fitting = (u.fitting, w.fitting);
        next = rw length-append (omega (arith, w'.next));
        holds = holds-join s p xs ((G a).bits n (p + length xs) b) u.holds w'.holds;
        within = w.within;
      }

module _ {A B : Type 0} (F : Format A) (G : A → Format B) (f : Lawful F) (g : (a : A) → Lawful (G a)) where
  after-stands : (s : List ℕ) (p : ℕ) (v : A × B) (q : ℕ) → p ≤ length s * 8 → (F ▹ G).read s p ≡ ok v q → Stands (F ▹ G) s p v q
  after-stands s p v q l e = go (F.read s p) refl e
    where
      go2 : (a : A) (m : ℕ) (r : Res B) → F.read s p ≡ ok a m → (G a).read s m ≡ r → r then (λ b t. ok (a, b) t) ≡ ok v q → Stands (F ▹ G) s p v q
      go2 a m (ok b t) x y z =
          let u = f.stands s p a m l x in
          let w = (g a).stands s m b t u.within y in
          let c : (a, b) ≡ v = cc in
          let d : t ≡ q = cc in
          rw (← c, ← d) (both_stand F G s p a m b t u w)
      go2 a m (bad k) x y z = absurd (no_ok k v q z)

      go : (r : Res A) → F.read s p ≡ r → r then (λ a m. (G a).read s m then λ b t. ok (a, b) t) ≡ ok v q → Stands (F ▹ G) s p v q
      go (ok a m) x y = go2 a m ((G a).read s m) x refl y
      go (bad k) x y = absurd (no_ok k v q y)

  after-back : (s : List ℕ) (p : ℕ) (v : A × B) → (F ▹ G).fits v
      → p + length ((F ▹ G).bits (length s * 8) p v) ≤ length s * 8
      → Holds s p ((F ▹ G).bits (length s * 8) p v)
      → (F ▹ G).read s p ≡ ok v (p + length ((F ▹ G).bits (length s * 8) p v))
  after-back s p v k l h =
      let n : ℕ = length s * 8 in
      let xs : List ℕ = F.bits n p v.0 in
      let ys : List ℕ = (G v.0).bits n (p + length xs) v.1 in
      let e = length-append xs ys in
      let x = f.back s p v.0 k.0 (omega arith) (holds-left s p xs ys h) in
      let y = (g v.0).back s (p + length xs) v.1 k.1 (omega arith) (holds-right s p xs ys h) in
      rw (x, y) (ap (λ (z : ℕ). ok v z) (rw e (omega arith)))

  pub after-lawful : Lawful (F ▹ G)
  after-lawful =
      record {
        back = after-back;
        stands = after-stands;
        binary = λ n p v. binary-join (F.bits n p v.0) ((G v.0).bits n (p + length (F.bits n p v.0)) v.1) (f.binary n p v.0) ((g v.0).binary n (p + length (F.bits n p v.0)) v.1);
        grounds =
            λ s p.
            then-grounds (F.read s p) (λ a q. (G a).read s q then λ b r. ok (a, b) r) (f.grounds s p)
            (λ a q. then-grounds ((G a).read s q) (λ b r. ok (a, b) r) ((g a).grounds s q) (λ b r. tt));
      }

pub seq_lawful : {A B : Type 0} (F : Format A) (G : Format B) → Lawful F → Lawful G → Lawful (F ⨟ G)
seq_lawful F G f g = after-lawful F (λ _. G) f (λ _. g)

-- ## Numbers side by side

-- numbers of given widths take a given number of bits
pub length-row : (ws v : List ℕ) → RowFits ws v → length (row_bits ws v) ≡ total ws
length-row [] [] k = refl
length-row [] (a ∷ v) k = absurd k
length-row (w ∷ ws) [] k = absurd k
length-row (w ∷ ws) (a ∷ v) k =
    length-append (num_bits w a) (row_bits ws v) ∙ omega (arith, length-num_bits w a, length-row ws v k.1)

fields_fit : (ws s : List ℕ) (p : ℕ) → RowFits ws (fields_at ws s p)
fields_fit [] s p = tt
fields_fit (w ∷ ws) s p = (field_lt s p w, fields_fit ws s (p + w))

fields_hold : (ws s : List ℕ) (p : ℕ) → Holds s p (row_bits ws (fields_at ws s p))
fields_hold [] s p = tt
fields_hold (w ∷ ws) s p =
    let v : ℕ = field s p w in
    holds-join s p (num_bits w v) (row_bits ws (fields_at ws s (p + w))) (holds-field s p w v refl)
    (rw (length-num_bits w v) (fields_hold ws s (p + w)))

hold_fields : (ws v s : List ℕ) (p : ℕ) → RowFits ws v → Holds s p (row_bits ws v) → fields_at ws s p ≡ v
hold_fields [] [] s p k h = refl
hold_fields [] (a ∷ v) s p k h = absurd k
hold_fields (w ∷ ws) [] s p k h = absurd k
hold_fields (w ∷ ws) (a ∷ v) s p k h =
    let xs : List ℕ = num_bits w a in
    let ys : List ℕ = row_bits ws v in
    let j : p + length xs ≡ p + w = omega (arith, length-num_bits w a) in
    ap₂ (λ (x : ℕ) (y : List ℕ). x ∷ y) (field-holds s p w a k.0 (holds-left s p xs ys h))
    (hold_fields ws v s (p + w) k.1 (subst (λ (z : ℕ). Holds s z ys) j (holds-right s p xs ys h)))

row-stands : (ws s : List ℕ) (p : ℕ) (v : List ℕ) (q : ℕ) → (row ws).read s p ≡ ok v q → Stands (row ws) s p v q
row-stands ws s p v q e = go (leb (p + total ws) (length s * 8)) refl e
  where
    go : (t : Bool) → leb (p + total ws) (length s * 8) ≡ t → pick t (ok (fields_at ws s p) (p + total ws)) (bad (ran_out p)) ≡ ok v q → Stands (row ws) s p v q
    go true l e =
        let f : fields_at ws s p ≡ v = cc in
        let n : p + total ws ≡ q = cc in
        rw (← f, ← n)
        (record {
          fitting = fields_fit ws s p;
          next = ap (λ (x : ℕ). p + x) (sym (length-row ws (fields_at ws s p) (fields_fit ws s p)));
          holds = fields_hold ws s p;
          within = leb-true (p + total ws) (length s * 8) l;
        })
    go false l e = absurd (no_ok (ran_out p) v q e)

row_back : (ws s : List ℕ) (p : ℕ) (v : List ℕ) → RowFits ws v → p + length (row_bits ws v) ≤ length s * 8 → Holds s p (row_bits ws v)
    → (row ws).read s p ≡ ok v (p + length (row_bits ws v))
row_back ws s p v k l h =
    let n : length (row_bits ws v) ≡ total ws = length-row ws v k in
    rw (le-leb (p + total ws) (length s * 8) (omega arith))
    (ap₂ (λ (x : List ℕ) (y : ℕ). ok x (p + y)) (hold_fields ws v s p k h) (sym n))

row-binary : (ws v : List ℕ) → Binary (row_bits ws v)
row-binary [] v = tt
row-binary (w ∷ ws) [] = tt
row-binary (w ∷ ws) (a ∷ v) = binary-join (num_bits w a) (row_bits ws v) (num_bits-binary w a) (row-binary ws v)

pub row_lawful : (ws : List ℕ) → Lawful (row ws)
row_lawful ws =
    record {
      back = row_back ws;
      stands = λ s p v q l e. row-stands ws s p v q e;
      binary = λ n p v. row-binary ws v;
      grounds = λ s p. pick-grounds (leb (p + total ws) (length s * 8)) (ok (fields_at ws s p) (p + total ws)) (bad (ran_out p)) tt (short-grounds p);
    }

-- ## A flag

field-one : (s : List ℕ) (p : ℕ) → field s p 1 ≡ bit s p
field-one s p = field-suc s p 0 ∙ omega (arith, field-zero s p, ap (bit s) (add-zero p))

pub flag-back : (s : List ℕ) (p b : ℕ) → p < length s * 8 → bit s p ≡ b → (num 1).read s p ≡ ok b (p + 1)
flag-back s p b m e = rw (le-leb (p + 1) (length s * 8) (omega arith)) (ap (λ (x : ℕ). ok x (p + 1)) (field-one s p ∙ e))

pub record Flag (s : List ℕ) (p f q : ℕ) : Type 0 where
  pub is : bit s p ≡ f
  pub small : f < 2
  pub next : q ≡ p + 1
  pub within : q ≤ length s * 8

pub flag-stands : (s : List ℕ) (p f q : ℕ) → (num 1).read s p ≡ ok f q → Flag s p f q
unfolding num_bits
flag-stands s p f q e =
    let u = num-stands 1 s p f q e in
    let h : bit s p ≡ f % 2 = u.holds.0 in
    let l : f < 2 = u.fitting in
    record { is = omega arith; small = l; next = u.next; within = u.within }

-- ## A part that a flag leads

some-grounds : {A : Type 0} (F : Format A) → Lawful F → (s : List ℕ) (q : ℕ) → Grounded (F.read s q then λ a r. ok (some a) r)
some-grounds F f s q = then-grounds (F.read s q) (λ a r. ok (some a) r) (f.grounds s q) (λ a r. tt)

module _ {A : Type 0} (F : Format A) (f : Lawful F) where
  opt-stands : (s : List ℕ) (p : ℕ) (v : Option A) (q : ℕ) → (opt F).read s p ≡ ok v q → Stands (opt F) s p v q
  opt-stands s p v q e = go ((num 1).read s p) refl e
    where
      go3 : (m : ℕ) (r : Res A) → bit s p ≡ 1 → m ≡ p + 1 → m ≤ length s * 8 → F.read s m ≡ r → r then (λ a t. ok (some a) t) ≡ ok v q → Stands (opt F) s p v q
      go3 m (bad k) b n l x y = absurd (no_ok k v q y)
      go3 m (ok a t) b n l x y =
          let u = subst (λ (z : ℕ). Stands F s z a t) n (f.stands s m a t l x) in
          let c : some a ≡ v = cc in
          let d : t ≡ q = cc in
          rw (← c, ← d)
          (record { fitting = u.fitting; next = omega (arith, u.next); holds = (b, u.holds); within = u.within })

      go2 : (b m : ℕ) (t : Bool) → Flag s p b m → eqb b 0 ≡ t → pick t (ok none m) (F.read s m then λ a r. ok (some a) r) ≡ ok v q → Stands (opt F) s p v q
      go2 b m true g x y =
          let z : b ≡ 0 = eqb-true b 0 x in
          let c : none ≡ v = cc in
          let d : m ≡ q = cc in
          rw (← c, ← d) (record { fitting = tt; next = omega (arith, g.next); holds = (g.is ∙ z, tt); within = g.within })
      go2 b m false g x y =
          let z : b ≡ 1 = omega (arith, eqb-false b 0 x, g.small) in
          go3 m (F.read s m) (g.is ∙ z) g.next g.within refl y

      go : (r : Res ℕ) → (num 1).read s p ≡ r → r then (λ b m. pick (eqb b 0) (ok none m) (F.read s m then λ a t. ok (some a) t)) ≡ ok v q → Stands (opt F) s p v q
      go (ok b m) x y = go2 b m (eqb b 0) (flag-stands s p b m x) refl y
      go (bad k) x y = absurd (no_ok k v q y)

  opt-back : (s : List ℕ) (p : ℕ) (v : Option A) → OptFits F v → p + length (opt_bits F (length s * 8) p v) ≤ length s * 8
      → Holds s p (opt_bits F (length s * 8) p v) → (opt F).read s p ≡ ok v (p + length (opt_bits F (length s * 8) p v))
  opt-back s p none k l h = rw (flag-back s p 0 (omega arith) h.0)
  opt-back s p (some a) k l h =
      let x = f.back s (p + 1) a k (omega arith) h.1 in
      rw (flag-back s p 1 (omega arith) h.0, x) (ap (λ (z : ℕ). ok (some a) z) (omega arith))

  opt-binary : (n p : ℕ) (v : Option A) → Binary (opt_bits F n p v)
  opt-binary n p none = (omega arith, tt)
  opt-binary n p (some a) = (omega arith, f.binary n (p + 1) a)

  pub opt_lawful : Lawful (opt F)
  opt_lawful =
      record {
        back = opt-back;
        stands = λ s p v q l e. opt-stands s p v q e;
        binary = opt-binary;
        grounds =
            λ s p.
            then-grounds ((num 1).read s p) (λ b q. pick (eqb b 0) (ok none q) (F.read s q then λ a r. ok (some a) r)) (num-grounds 1 s p)
            (λ b q. pick-grounds (eqb b 0) (ok none q) (F.read s q then λ a r. ok (some a) r) tt (some-grounds F f s q));
      }

-- ## A list of parts, each led by 1, that a 0 closes

module _ {A : Type 0} (F : Format A) (f : Lawful F) where
  items-cons : (s : List ℕ) (p : ℕ) (a : A) (m : ℕ) (v : List A) (q : ℕ) → bit s p ≡ 1 → Stands F s (p + 1) a m → Stands (list F) s m v q → Stands (list F) s p (a ∷ v) q
  items-cons s p a m v q b u w =
      let n : ℕ = length s * 8 in
      let xs : List ℕ = F.bits n (p + 1) a in
      let w' : Stands (list F) s (p + 1 + length xs) v q = subst (λ (x : ℕ). Stands (list F) s x v q) u.next w in
      record {
        fitting = (u.fitting, w.fitting);
        next = rw (length-append xs (items_bits F n (p + 1 + length xs) v)) (omega (arith, w'.next));
        holds = (b, holds-join s (p + 1) xs (items_bits F n (p + 1 + length xs) v) u.holds w'.holds);
        within = w.within;
      }

  pub items-stands : (k : ℕ) (s : List ℕ) (p : ℕ) (v : List A) (q : ℕ) → read_items F k s p ≡ ok v q → Stands (list F) s p v q
  unfolding read_items
  items-stands zero s p v q e = absurd (no_ok (ran_out p) v q e)
  items-stands (suc k) s p v q e = go (λ m w r x. items-stands k s m w r x) ((num 1).read s p) refl e
    where
      IH : Type 0
      IH = (m : ℕ) (w : List A) (r : ℕ) → read_items F k s m ≡ ok w r → Stands (list F) s m w r

      go4 : IH → (a : A) (t : ℕ) (r : Res (List A)) → bit s p ≡ 1 → Stands F s (p + 1) a t → read_items F k s t ≡ r
          → r then (λ l z. ok (a ∷ l) z) ≡ ok v q → Stands (list F) s p v q
      go4 ih a t (bad j) b u x y = absurd (no_ok j v q y)
      go4 ih a t (ok l z) b u x y =
          let c : a ∷ l ≡ v = cc in
          let d : z ≡ q = cc in
          rw (← c, ← d) (items-cons s p a t l z b u (ih t l z x))

      go3 : IH → (m : ℕ) (r : Res A) → bit s p ≡ 1 → m ≡ p + 1 → m ≤ length s * 8 → F.read s m ≡ r
          → r then (λ a t. read_items F k s t then λ l z. ok (a ∷ l) z) ≡ ok v q → Stands (list F) s p v q
      go3 ih m (bad j) b n l x y = absurd (no_ok j v q y)
      go3 ih m (ok a t) b n l x y = go4 ih a t (read_items F k s t) b (subst (λ (z : ℕ). Stands F s z a t) n (f.stands s m a t l x)) refl y

      go2 : IH → (b m : ℕ) (t : Bool) → Flag s p b m → eqb b 0 ≡ t
          → pick t (ok [] m) (F.read s m then λ a t. read_items F k s t then λ l z. ok (a ∷ l) z) ≡ ok v q → Stands (list F) s p v q
      go2 ih b m true g x y =
          let z : b ≡ 0 = eqb-true b 0 x in
          let c : [] ≡ v = cc in
          let d : m ≡ q = cc in
          rw (← c, ← d) (record { fitting = tt; next = omega (arith, g.next); holds = (g.is ∙ z, tt); within = g.within })
      go2 ih b m false g x y =
          let z : b ≡ 1 = omega (arith, eqb-false b 0 x, g.small) in
          go3 ih m (F.read s m) (g.is ∙ z) g.next g.within refl y

      go : IH → (r : Res ℕ) → (num 1).read s p ≡ r
          → r then (λ b m. pick (eqb b 0) (ok [] m) (F.read s m then λ a t. read_items F k s t then λ l z. ok (a ∷ l) z)) ≡ ok v q → Stands (list F) s p v q
      go ih (ok b m) x y = go2 ih b m (eqb b 0) (flag-stands s p b m x) refl y
      go ih (bad j) x y = absurd (no_ok j v q y)

  -- a list is shorter than its bits
  items-long : (n p : ℕ) (v : List A) → length v < length (items_bits F n p v)
  items-long n p [] = omega arith
  items-long n p (a ∷ v) =
      let xs : List ℕ = F.bits n (p + 1) a in
      rw (length-append xs (items_bits F n (p + 1 + length xs) v)) (omega (arith, items-long n (p + 1 + length xs) v))

  pub items_back : (v : List A) (k : ℕ) (s : List ℕ) (p : ℕ) → length v < k → ItemsFit F v
      → p + length (items_bits F (length s * 8) p v) ≤ length s * 8 → Holds s p (items_bits F (length s * 8) p v)
      → read_items F k s p ≡ ok v (p + length (items_bits F (length s * 8) p v))
  unfolding read_items
  items_back [] zero s p i t l h = absurd (omega arith)
  items_back [] (suc k) s p i t l h = rw (flag-back s p 0 (omega arith) h.0)
  items_back (a ∷ v) zero s p i t l h = absurd (omega arith)
  items_back (a ∷ v) (suc k) s p i t l h =
      let n : ℕ = length s * 8 in
      let xs : List ℕ = F.bits n (p + 1) a in
      let ys : List ℕ = items_bits F n (p + 1 + length xs) v in
      let e = length-append xs ys in
      let x = f.back s (p + 1) a t.0 (omega arith) (holds-left s (p + 1) xs ys h.1) in
      let y = items_back v k s (p + 1 + length xs) (omega arith) t.1 (omega arith) (holds-right s (p + 1) xs ys h.1) in
      rw (flag-back s p 1 (omega arith) h.0, x, y) (ap (λ (z : ℕ). ok (a ∷ v) z) (omega arith))

  items-grounds : (k : ℕ) (s : List ℕ) (p : ℕ) → Grounded (read_items F k s p)
  unfolding read_items
  items-grounds zero s p = short-grounds p
  items-grounds (suc k) s p =
      let h : ℕ → Res (List A) = λ q. F.read s q then λ a r. read_items F k s r then λ l t. ok (a ∷ l) t in
      then-grounds ((num 1).read s p) (λ b q. pick (eqb b 0) (ok [] q) (h q)) (num-grounds 1 s p)
      (λ b q. pick-grounds (eqb b 0) (ok [] q) (h q) tt
      (then-grounds (F.read s q) (λ a r. read_items F k s r then λ l t. ok (a ∷ l) t) (f.grounds s q)
      (λ a r. then-grounds (read_items F k s r) (λ l t. ok (a ∷ l) t) (items-grounds k s r) (λ l t. tt))))

  items-binary : (n p : ℕ) (v : List A) → Binary (items_bits F n p v)
  items-binary n p [] = (omega arith, tt)
  items-binary n p (a ∷ v) =
      let xs : List ℕ = F.bits n (p + 1) a in
      (omega arith, binary-join xs (items_bits F n (p + 1 + length xs) v) (f.binary n (p + 1) a) (items-binary n (p + 1 + length xs) v))

  pub list_lawful : Lawful (list F)
  list_lawful =
      record {
        back = λ s p v k l h. items_back v (length s * 8 + 1) s p (omega (arith, items-long (length s * 8) p v)) k l h;
        stands = λ s p v q l e. items-stands (length s * 8 + 1) s p v q e;
        binary = items-binary;
        grounds = λ s p. items-grounds (length s * 8 + 1) s p;
      }

-- ## An L/H-coded bit

pub pad_lt : (p : ℕ) → pad_bit p < 2
unfolding pad_bit
pad_lt p = omega arith

-- the value that a bit says, coded, is that bit
coded-bit : (p b : ℕ) (t : Bool) → b < 2 → eqb b (pad_bit p) ≡ t → coded_bit p (pick t 0 1) ≡ b
coded-bit p b true l e = sym (eqb-true b (pad_bit p) e)
coded-bit p b false l e = omega (arith, eqb-false b (pad_bit p) e, pad_lt p)

-- a value's coded bit says that value
bit-coded : (p v : ℕ) (t : Bool) → v < 2 → eqb v 0 ≡ t → pick (eqb (pick t (pad_bit p) (1 - pad_bit p)) (pad_bit p)) 0 1 ≡ v
bit-coded p v true l e = rw (eq-eqb (pad_bit p) (pad_bit p) refl) (sym (eqb-true v 0 e))
bit-coded p v false l e = rw (ne_eqb (1 - pad_bit p) (pad_bit p) (λ x. omega (arith, pad_lt p))) (omega (arith, eqb-false v 0 e))

coded-small : (t : Bool) → pick t 0 1 < 2
coded-small true = omega arith
coded-small false = omega arith

coded-binary : (p : ℕ) (t : Bool) → pick t (pad_bit p) (1 - pad_bit p) < 2
coded-binary p true = pad_lt p
coded-binary p false = omega arith

coded-stands : (s : List ℕ) (p v q : ℕ) → coded.read s p ≡ ok v q → Stands coded s p v q
coded-stands s p v q e = go ((num 1).read s p) refl e
  where
    go : (r : Res ℕ) → (num 1).read s p ≡ r → r then (λ b m. ok (pick (eqb b (pad_bit p)) 0 1) m) ≡ ok v q → Stands coded s p v q
    go (bad k) x y = absurd (no_ok k v q y)
    go (ok b m) x y =
        let g = flag-stands s p b m x in
        let c : pick (eqb b (pad_bit p)) 0 1 ≡ v = cc in
        let d : m ≡ q = cc in
        rw (← c, ← d)
        (record {
          fitting = coded-small (eqb b (pad_bit p));
          next = g.next;
          holds = (g.is ∙ sym (coded-bit p b (eqb b (pad_bit p)) g.small refl), tt);
          within = g.within;
        })

pub coded-lawful : Lawful coded
coded-lawful =
    record {
      back =
          λ s p v f l h.
          rw (flag-back s p (coded_bit p v) (omega arith) h.0) (ap (λ (x : ℕ). ok x (p + 1)) (bit-coded p v (eqb v 0) f refl));
      stands = λ s p v q l e. coded-stands s p v q e;
      binary = λ n p v. (coded-binary p (eqb v 0), tt);
      grounds = λ s p. then-grounds ((num 1).read s p) (λ b q. ok (pick (eqb b (pad_bit p)) 0 1) q) (num-grounds 1 s p) (λ b q. tt);
    }

-- ## A later release's part

module _ {A : Type 0} (F : Format A) (f : Lawful F) where
  release-stands : (s : List ℕ) (p : ℕ) (v : Option A) (q : ℕ) → p ≤ length s * 8 → (release F).read s p ≡ ok v q → Stands (release F) s p v q
  release-stands s p v q l e = go (eqb p (length s * 8)) refl e
    where
      go3 : (m : ℕ) (r : Res A) → bit s p ≡ 1 - pad_bit p → m ≡ p + 1 → m ≤ length s * 8 → F.read s m ≡ r → r then (λ a t. ok (some a) t) ≡ ok v q → Stands (release F) s p v q
      go3 m (bad k) b n l x y = absurd (no_ok k v q y)
      go3 m (ok a t) b n l x y =
          let u = subst (λ (z : ℕ). Stands F s z a t) n (f.stands s m a t l x) in
          let c : some a ≡ v = cc in
          let d : t ≡ q = cc in
          rw (← c, ← d)
          (record { fitting = u.fitting; next = omega (arith, u.next); holds = (b, u.holds); within = u.within })

      go2 : (b m : ℕ) (t : Bool) → eqb p (length s * 8) ≡ false → Flag s p b m → eqb b (pad_bit p) ≡ t
          → pick t (ok none m) (F.read s m then λ a r. ok (some a) r) ≡ ok v q → Stands (release F) s p v q
      go2 b m true o g x y =
          let z : b ≡ pad_bit p = eqb-true b (pad_bit p) x in
          let c : none ≡ v = cc in
          let d : m ≡ q = cc in
          let e : pick (eqb p (length s * 8)) [] (pad_bit p ∷ []) ≡ pad_bit p ∷ [] = rw o in
          rw (← c, ← d) (record { fitting = tt; next = rw e (omega (arith, g.next)); holds = rw e ((g.is ∙ z, tt)); within = g.within })
      go2 b m false o g x y =
          let z : b ≡ 1 - pad_bit p = omega (arith, eqb-false b (pad_bit p) x, g.small, pad_lt p) in
          go3 m (F.read s m) (g.is ∙ z) g.next g.within refl y

      go1 : (r : Res ℕ) → eqb p (length s * 8) ≡ false → (num 1).read s p ≡ r
          → r then (λ b m. pick (eqb b (pad_bit p)) (ok none m) (F.read s m then λ a t. ok (some a) t)) ≡ ok v q → Stands (release F) s p v q
      go1 (ok b m) o x y = go2 b m (eqb b (pad_bit p)) o (flag-stands s p b m x) refl y
      go1 (bad k) o x y = absurd (no_ok k v q y)

      go : (t : Bool) → eqb p (length s * 8) ≡ t
          → pick t (ok none p) ((num 1).read s p then λ b m. pick (eqb b (pad_bit p)) (ok none m) (F.read s m then λ a t. ok (some a) t)) ≡ ok v q
          → Stands (release F) s p v q
      go true o y =
          let c : none ≡ v = cc in
          let d : p ≡ q = cc in
          let e : pick (eqb p (length s * 8)) [] (pad_bit p ∷ []) ≡ [] = rw o in
          rw (← c, ← d) (record { fitting = tt; next = rw e (omega arith); holds = rw e tt; within = l })
      go false o y = go1 ((num 1).read s p) o refl y

  none-back : (s : List ℕ) (p : ℕ) (t : Bool) → eqb p (length s * 8) ≡ t → p + length (pick t [] (pad_bit p ∷ [])) ≤ length s * 8
      → Holds s p (pick t [] (pad_bit p ∷ [])) → (release F).read s p ≡ ok none (p + length (pick t [] (pad_bit p ∷ [])))
  none-back s p true o l h = rw o (ap (λ (z : ℕ). ok none z) (omega arith))
  none-back s p false o l h = rw (o, flag-back s p (pad_bit p) (omega arith) h.0, eq-eqb (pad_bit p) (pad_bit p) refl)

  release-back : (s : List ℕ) (p : ℕ) (v : Option A) → OptFits F v → p + length (release_bits F (length s * 8) p v) ≤ length s * 8
      → Holds s p (release_bits F (length s * 8) p v) → (release F).read s p ≡ ok v (p + length (release_bits F (length s * 8) p v))
  release-back s p none k l h = none-back s p (eqb p (length s * 8)) refl l h
  release-back s p (some a) k l h =
      let x = f.back s (p + 1) a k (omega arith) h.1 in
      let u = pad_lt p in
      rw (ne_eqb p (length s * 8) (λ e. omega arith), flag-back s p (1 - pad_bit p) (omega arith) h.0, ne_eqb (1 - pad_bit p) (pad_bit p) (λ e. omega arith), x)
      (ap (λ (z : ℕ). ok (some a) z) (omega arith))

  low-binary : (t : Bool) (p : ℕ) → Binary (pick t [] (pad_bit p ∷ []))
  low-binary true p = tt
  low-binary false p = (pad_lt p, tt)

  release-binary : (n p : ℕ) (v : Option A) → Binary (release_bits F n p v)
  release-binary n p none = low-binary (eqb p n) p
  release-binary n p (some a) = (omega arith, f.binary n (p + 1) a)

  pub release-lawful : Lawful (release F)
  release-lawful =
      record {
        back = release-back;
        stands = release-stands;
        binary = release-binary;
        grounds =
            λ s p.
            let h : ℕ → ℕ → Res (Option A) = λ b q. pick (eqb b (pad_bit p)) (ok none q) (F.read s q then λ a r. ok (some a) r) in
            pick-grounds (eqb p (length s * 8)) (ok none p) ((num 1).read s p then h) tt
            (then-grounds ((num 1).read s p) h (num-grounds 1 s p)
            (λ b q. pick-grounds (eqb b (pad_bit p)) (ok none q) (F.read s q then λ a r. ok (some a) r) tt (some-grounds F f s q)));
      }

-- ## A test

module _ {A : Type 0} (t : A → Bool) (m : ℕ) (o : 0 < m) (F : Format A) (f : Lawful F) where
  checked-stands : (s : List ℕ) (p : ℕ) (v : A) (q : ℕ) → p ≤ length s * 8 → (checked t m F).read s p ≡ ok v q → Stands (checked t m F) s p v q
  checked-stands s p v q l e = go (F.read s p) refl e
    where
      go2 : (a : A) (r : ℕ) (b : Bool) → F.read s p ≡ ok a r → t a ≡ b → pick b (ok a r) (bad (ground m)) ≡ ok v q → Stands (checked t m F) s p v q
      go2 a r true x y z =
          let u = f.stands s p a r l x in
          let c : a ≡ v = cc in
          let d : r ≡ q = cc in
          rw (← c, ← d) (record { fitting = (u.fitting, y); next = u.next; holds = u.holds; within = u.within })
      go2 a r false x y z = absurd (no_ok (ground m) v q z)

      go : (r : Res A) → F.read s p ≡ r → r then (λ a q. pick (t a) (ok a q) (bad (ground m))) ≡ ok v q → Stands (checked t m F) s p v q
      go (ok a r) x y = go2 a r (t a) x refl y
      go (bad k) x y = absurd (no_ok k v q y)

  pub checked-lawful : Lawful (checked t m F)
  checked-lawful =
      record {
        back = λ s p v k l h. rw (f.back s p v k.0 l h, k.1);
        stands = checked-stands;
        binary = f.binary;
        grounds =
            λ s p.
            then-grounds (F.read s p) (λ a q. pick (t a) (ok a q) (bad (ground m))) (f.grounds s p)
            (λ a q. pick-grounds (t a) (ok a q) (bad (ground m)) tt (test-grounds m o));
      }

-- ## A part of a later release

-- bits that ran out have a number
pub clip_not_zero : (m : ℕ) → is_clip m ≡ true → 0 < m
clip_not_zero zero c = absurd (let z : ◌≡◌ {A = ℕ} 0 1 = cc in omega arith)
clip_not_zero (suc m) c = omega arith

renumbered-grounds : (m : ℕ) (r : Refusal) → 0 < m → 0 < r.number → 0 < (renumbered m r).number
unfolding renumbered
renumbered-grounds m r o g = go (eqb r.number 2)
  where
    go : (t : Bool) → 0 < (pick t (record { number = m; bit = r.bit }) r).number
    go true = o
    go false = g

module _ {A : Type 0} (m : ℕ) (o : 0 < m) (F : Format A) (f : Lawful F) where
  inside-read : (x : Res A) (a : A) (q : ℕ) → numbered_as m x ≡ ok a q → x ≡ ok a q
  inside-read (ok b r) a q e = e
  inside-read (bad r) a q e = absurd (no_ok (renumbered m r) a q e)

  inside-stands : (s : List ℕ) (p : ℕ) (a : A) (q : ℕ) → Stands F s p a q → Stands (in_release m F) s p a q
  inside-stands s p a q u = record { fitting = u.fitting; next = u.next; holds = u.holds; within = u.within }

  inside-grounds : (x : Res A) → Grounded x → Grounded (numbered_as m x)
  inside-grounds (ok a q) g = tt
  inside-grounds (bad r) g = renumbered-grounds m r o g

  pub inside-lawful : Lawful (in_release m F)
  inside-lawful =
      record {
        back = λ s p a k l h. rw (f.back s p a k l h);
        stands = λ s p a q l e. inside-stands s p a q (f.stands s p a q l (inside-read (F.read s p) a q e));
        binary = f.binary;
        grounds = λ s p. inside-grounds (F.read s p) (f.grounds s p);
      }

-- ## One of two

module _ {A B : Type 0} (F : Format A) (G : Format B) (f : Lawful F) (g : Lawful G) where
  either-stands : (s : List ℕ) (p : ℕ) (v : A ⊎ B) (q : ℕ) → (either F G).read s p ≡ ok v q → Stands (either F G) s p v q
  either-stands s p v q e = go ((num 1).read s p) refl e
    where
      left : (m : ℕ) (r : Res A) → bit s p ≡ 0 → m ≡ p + 1 → m ≤ length s * 8 → F.read s m ≡ r → r then (λ a t. ok (inl a) t) ≡ ok v q → Stands (either F G) s p v q
      left m (bad k) b n l x y = absurd (no_ok k v q y)
      left m (ok a t) b n l x y =
          let u = subst (λ (z : ℕ). Stands F s z a t) n (f.stands s m a t l x) in
          let c : inl a ≡ v = cc in
          let d : t ≡ q = cc in
          rw (← c, ← d)
          (record { fitting = u.fitting; next = omega (arith, u.next); holds = (b, u.holds); within = u.within })

      right : (m : ℕ) (r : Res B) → bit s p ≡ 1 → m ≡ p + 1 → m ≤ length s * 8 → G.read s m ≡ r → r then (λ b t. ok (inr b) t) ≡ ok v q → Stands (either F G) s p v q
      right m (bad k) b n l x y = absurd (no_ok k v q y)
      right m (ok a t) b n l x y =
          let u = subst (λ (z : ℕ). Stands G s z a t) n (g.stands s m a t l x) in
          let c : inr a ≡ v = cc in
          let d : t ≡ q = cc in
          rw (← c, ← d)
          (record { fitting = u.fitting; next = omega (arith, u.next); holds = (b, u.holds); within = u.within })

      go2 : (b m : ℕ) (t : Bool) → Flag s p b m → eqb b 0 ≡ t → pick t (F.read s m then λ a r. ok (inl a) r) (G.read s m then λ a r. ok (inr a) r) ≡ ok v q → Stands (either F G) s p v q
      go2 b m true h x y = left m (F.read s m) (h.is ∙ eqb-true b 0 x) h.next h.within refl y
      go2 b m false h x y =
          let z : b ≡ 1 = omega (arith, eqb-false b 0 x, h.small) in
          right m (G.read s m) (h.is ∙ z) h.next h.within refl y

      go : (r : Res ℕ) → (num 1).read s p ≡ r → r then (λ b m. pick (eqb b 0) (F.read s m then λ a t. ok (inl a) t) (G.read s m then λ a t. ok (inr a) t)) ≡ ok v q → Stands (either F G) s p v q
      go (ok b m) x y = go2 b m (eqb b 0) (flag-stands s p b m x) refl y
      go (bad k) x y = absurd (no_ok k v q y)

  either-back : (s : List ℕ) (p : ℕ) (v : A ⊎ B) → EitherFits F G v → p + length (either_bits F G (length s * 8) p v) ≤ length s * 8
      → Holds s p (either_bits F G (length s * 8) p v) → (either F G).read s p ≡ ok v (p + length (either_bits F G (length s * 8) p v))
  either-back s p (inl a) k l h =
      let x = f.back s (p + 1) a k (omega arith) h.1 in
      rw (flag-back s p 0 (omega arith) h.0, x) (ap (λ (z : ℕ). ok (inl a) z) (omega arith))
  either-back s p (inr a) k l h =
      let x = g.back s (p + 1) a k (omega arith) h.1 in
      rw (flag-back s p 1 (omega arith) h.0, x) (ap (λ (z : ℕ). ok (inr a) z) (omega arith))

  either-binary : (n p : ℕ) (v : A ⊎ B) → Binary (either_bits F G n p v)
  either-binary n p (inl a) = (omega arith, f.binary n (p + 1) a)
  either-binary n p (inr a) = (omega arith, g.binary n (p + 1) a)

  pub either_lawful : Lawful (either F G)
  either_lawful =
      record {
        back = either-back;
        stands = λ s p v q l e. either-stands s p v q e;
        binary = either-binary;
        grounds =
            λ s p.
            then-grounds ((num 1).read s p) (λ b q. pick (eqb b 0) (F.read s q then λ a r. ok (inl a) r) (G.read s q then λ a r. ok (inr a) r)) (num-grounds 1 s p)
            (λ b q. pick-grounds (eqb b 0) (F.read s q then λ a r. ok (inl a) r) (G.read s q then λ a r. ok (inr a) r)
            (then-grounds (F.read s q) (λ a r. ok (inl a) r) (f.grounds s q) (λ a r. tt))
            (then-grounds (G.read s q) (λ a r. ok (inr a) r) (g.grounds s q) (λ a r. tt)));
      }

-- ## A part where a test holds

module _ {A : Type 0} (F : Format A) (f : Lawful F) where
  when-stands : (t : Bool) (s : List ℕ) (p : ℕ) (v : Option A) (q : ℕ) → p ≤ length s * 8 → (when t F).read s p ≡ ok v q → Stands (when t F) s p v q
  when-stands true s p v q l e = go (F.read s p) refl e
    where
      go : (r : Res A) → F.read s p ≡ r → r then (λ a t. ok (some a) t) ≡ ok v q → Stands (when true F) s p v q
      go (bad k) x y = absurd (no_ok k v q y)
      go (ok a t) x y =
          let u = f.stands s p a t l x in
          let c : some a ≡ v = cc in
          let d : t ≡ q = cc in
          rw (← c, ← d) (record { fitting = u.fitting; next = u.next; holds = u.holds; within = u.within })
  when-stands false s p v q l e =
      let c : none ≡ v = cc in
      let d : p ≡ q = cc in
      rw (← c, ← d) (record { fitting = tt; next = omega arith; holds = tt; within = l })

  when-back : (t : Bool) (s : List ℕ) (p : ℕ) (v : Option A) → WhenFits t F v → p + length (when_bits F (length s * 8) p v) ≤ length s * 8
      → Holds s p (when_bits F (length s * 8) p v) → (when t F).read s p ≡ ok v (p + length (when_bits F (length s * 8) p v))
  when-back true s p none k l h = absurd k
  when-back true s p (some a) k l h = rw (f.back s p a k l h)
  when-back false s p none k l h = ap (λ (z : ℕ). ok none z) (omega arith)
  when-back false s p (some a) k l h = absurd k

  when-binary : (n p : ℕ) (v : Option A) → Binary (when_bits F n p v)
  when-binary n p none = tt
  when-binary n p (some a) = f.binary n p a

  when-grounds : (t : Bool) (s : List ℕ) (p : ℕ) → Grounded ((when t F).read s p)
  when-grounds true s p = some-grounds F f s p
  when-grounds false s p = tt

  pub when-lawful : (t : Bool) → Lawful (when t F)
  when-lawful t = record { back = when-back t; stands = when-stands t; binary = when-binary; grounds = when-grounds t }
