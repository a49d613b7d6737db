-- Fields that are met without a gap: nothing, one field, fields behind fields, and each way to make a format. Assumes nothing.
use mathlib.Core.Path.{◌≡◌, refl, sym, ◌∙◌, subst}
use mathlib.Core.List.{List, [], ◌∷◌, ◌++◌, append-nil}
use mathlib.Core.Bool.{Bool, true, false, not}
use mathlib.Core.Option.{none, some}
use mathlib.Core.Logic.{inl, inr}
use Prim.Native.Nat.{ℕ, zero, suc, ◌+◌, ◌*◌, ◌≤◌}
use native.Mathlib.Omega.{arith}
use lib.ListN.{length}
use lib.Dec.{leb, eqb}
use borrow.Author.Tests.{leb-true}
use Rattle.bits.specs.Field.{field, pick}
use Rattle.csn1.specs.Format.{Res, ok, bad, ◌then◌, ran_out, ground, is_clip, Format, num, row, total, fields_at, opt, read_items, list, pad_bit, coded, release, numbered_as, either, when}
use Rattle.csn1.specs.Told.{lead}
use Rattle.csn1.proofs.Clips.{ran_out-bit}
use Rattle.csn1.proofs.ClipParts.{renumbered-bit, renumbered-clip}
use Rattle.csn1.proofs.Reading.{release-led}
use Rattle.trace.specs.Fields.{Met, met_at, one_met, side_by_side, row_met, behind, met_items, lead_met}
use Rattle.trace.specs.Promises.{Gapless, end_of, Standing}

-- ## Fields behind fields

gapless-append : (p : ℕ) (xs ys : List Met) → Gapless p xs → Gapless (end_of p xs) ys → Gapless p (xs ++ ys)
gapless-append p [] ys g h = h
gapless-append p (m ∷ xs) ys g h = (g.0, gapless-append (m.place + m.width) xs ys g.1 h)

standing-append : (s : List ℕ) (xs ys : List Met) → Standing s xs → Standing s ys → Standing s (xs ++ ys)
standing-append s [] ys g h = h
standing-append s (m ∷ xs) ys g h = (g.0, g.1, standing-append s xs ys g.2 h)

pub end-append : (p : ℕ) (xs ys : List Met) → end_of p (xs ++ ys) ≡ end_of (end_of p xs) ys
end-append p [] ys = refl
end-append p (m ∷ xs) ys = end-append (m.place + m.width) xs ys

-- fields without a gap that stand in the octets end in them, and not before they begin
pub within : (s : List ℕ) (p : ℕ) (xs : List Met) → p ≤ length s * 8 → Gapless p xs → Standing s xs → (p ≤ end_of p xs) × (end_of p xs ≤ length s * 8)
within s p [] l g h = (omega arith, l)
within s p (m ∷ xs) l g h =
    let e : m.place ≡ p = g.0 in
    let r = within s (m.place + m.width) xs h.0 g.1 h.2 in
    (omega (arith, r.0), r.1)

-- ## What is told of fields and of what was read

-- where the fields end: at the place reached, or at the refusing bit where bits ran out and the numbers of the refusals are in order
abbrev pub Ends : {A : Type 0} → Type 0 → ℕ → List Met → Res A → Type 0
Ends N p xs (ok a q) = end_of p xs ≡ q
Ends N p xs (bad r) = N → is_clip r.number ≡ true → end_of p xs ≡ r.bit

pub record Fair {A : Type 0} (N : Type 0) (s : List ℕ) (p : ℕ) (xs : List Met) (x : Res A) : Type 0 where
  pub gapless : Gapless p xs
  pub standing : Standing s xs
  pub ends : Ends N p xs x

-- where more is known of the numbers
pub fair_as : {A M N : Type 0} (s : List ℕ) (p : ℕ) (xs : List Met) (x : Res A) → (N → M) → Fair M s p xs x → Fair N s p xs x
fair_as {M = M} {N = N} s p xs x f h = record { gapless = h.gapless; standing = h.standing; ends = go x h.ends }
  where
    go : {B : Type 0} (y : Res B) → Ends M p xs y → Ends N p xs y
    go (ok a q) e = e
    go (bad r) e = λ n i. e (f n) i

-- what was read is made into something else
pub fair-map : {A B N : Type 0} (f : A → B) (s : List ℕ) (p : ℕ) (xs : List Met) (x : Res A) → Fair N s p xs x → Fair N s p xs (x then λ a q. ok (f a) q)
fair-map f s p xs (ok a q) h = record { gapless = h.gapless; standing = h.standing; ends = h.ends }
fair-map f s p xs (bad r) h = record { gapless = h.gapless; standing = h.standing; ends = h.ends }

pub fair-none : {A N : Type 0} (a : A) (s : List ℕ) (p : ℕ) → Fair N s p [] (ok a p)
fair-none a s p = record { gapless = tt; standing = tt; ends = refl }

-- no field where bits ran out
pub fair-out : {A N : Type 0} (s : List ℕ) (p : ℕ) → Fair {A = A} N s p [] (bad (ran_out p))
fair-out s p = record { gapless = tt; standing = tt; ends = λ n i. sym (ran_out-bit p) }

pub fair-pick : {A N : Type 0} (t : Bool) (s : List ℕ) (p : ℕ) (xs ys : List Met) (x y : Res A) → Fair N s p xs x → Fair N s p ys y
    → Fair N s p (pick t xs ys) (pick t x y)
fair-pick true s p xs ys x y g h = g
fair-pick false s p xs ys x y g h = h

-- one after the other
pub fair_bind : {A B N : Type 0} (s : List ℕ) (p : ℕ) (xs : List Met) (x : Res A) (ys : A → ℕ → List Met) (k : A → ℕ → Res B) → p ≤ length s * 8
    → Fair N s p xs x → ((a : A) (q : ℕ) → x ≡ ok a q → p ≤ q → q ≤ length s * 8 → Fair N s q (ys a q) (k a q)) → Fair N s p (xs ++ behind x ys) (x then k)
fair_bind {N = N} s p xs (ok a q) ys k l h g =
    let e : end_of p xs ≡ q = h.ends in
    let w = within s p xs l h.gapless h.standing in
    let v = g a q refl (omega (arith, w.0)) (omega (arith, w.1)) in
    record {
      gapless = gapless-append p xs (ys a q) h.gapless (subst (λ (m : ℕ). Gapless m (ys a q)) (sym e) v.gapless);
      standing = standing-append s xs (ys a q) h.standing v.standing;
      ends = go (k a q) (subst (λ (m : ℕ). end_of p (xs ++ ys a q) ≡ end_of m (ys a q)) e (end-append p xs (ys a q))) v.ends;
    }
  where
    go : {C : Type 0} (y : Res C) → end_of p (xs ++ ys a q) ≡ end_of q (ys a q) → Ends N q (ys a q) y → Ends N p (xs ++ ys a q) y
    go (ok b m) e f = e ∙ f
    go (bad r) e f = λ n i. e ∙ f n i
fair_bind s p xs (bad r) ys k l h g = rw (append-nil xs) (record { gapless = h.gapless; standing = h.standing; ends = h.ends })

-- ## One field, and fields side by side

side_by_side_lem : (ks ws s : List ℕ) (p : ℕ) → p + total ws ≤ length s * 8
    → Gapless p (side_by_side ks ws s p) × Standing s (side_by_side ks ws s p) × (end_of p (side_by_side ks ws s p) ≡ p + total ws)
side_by_side_lem ks [] s p l = (tt, tt, omega arith)
side_by_side_lem [] (w ∷ ws) s p l =
    let r = side_by_side_lem [] ws s (p + w) (omega arith) in
    ((refl, r.0), (omega arith, refl, r.1), r.2 ∙ omega arith)
side_by_side_lem (k ∷ ks) (w ∷ ws) s p l =
    let r = side_by_side_lem ks ws s (p + w) (omega arith) in
    ((refl, r.0), (omega arith, refl, r.1), r.2 ∙ omega arith)

pub fair-row : {N : Type 0} (ks ws s : List ℕ) (p : ℕ) → Fair N s p (row_met ks ws s p) ((row ws).read s p)
fair-row {N = N} ks ws s p = go (leb (p + total ws) (length s * 8)) refl
  where
    go : (t : Bool) → leb (p + total ws) (length s * 8) ≡ t
        → Fair N s p (pick t (side_by_side ks ws s p) []) (pick t (ok (fields_at ws s p) (p + total ws)) (bad (ran_out p)))
    go true e = let r = side_by_side_lem ks ws s p (leb-true (p + total ws) (length s * 8) e) in record { gapless = r.0; standing = r.1; ends = r.2 }
    go false e = fair-out s p

pub fair-num : {N : Type 0} (k w : ℕ) (s : List ℕ) (p : ℕ) → Fair N s p (one_met k w s p) ((num w).read s p)
fair-num {N = N} k w s p = go (leb (p + w) (length s * 8)) refl
  where
    go : (t : Bool) → leb (p + w) (length s * 8) ≡ t → Fair N s p (pick t (met_at k w s p ∷ []) []) (pick t (ok (field s p w) (p + w)) (bad (ran_out p)))
    go true e = record { gapless = (refl, tt); standing = (leb-true (p + w) (length s * 8) e, refl, tt); ends = refl }
    go false e = fair-out s p

pub fair-coded : {N : Type 0} (k : ℕ) (s : List ℕ) (p : ℕ) → Fair N s p (one_met k 1 s p) (coded.read s p)
fair-coded k s p = fair-map (λ b. pick (eqb b (pad_bit p)) 0 1) s p (one_met k 1 s p) ((num 1).read s p) (fair-num k 1 s p)

-- what leads a later release
pub fair-lead : {N : Type 0} (k : ℕ) (s : List ℕ) (p : ℕ) → Fair N s p (lead_met k s p) (lead s p)
unfolding lead
fair-lead k s p =
    fair-pick (eqb p (length s * 8)) s p [] (one_met k 1 s p) (ok false p) ((num 1).read s p then λ b q. ok (not (eqb b (pad_bit p))) q) (fair-none false s p)
    (fair-map (λ b. not (eqb b (pad_bit p))) s p (one_met k 1 s p) ((num 1).read s p) (fair-num k 1 s p))

-- ## Parts that are led, chosen or tested

module _ {A N : Type 0} (F : Format A) (part : ℕ → List Met) (s : List ℕ) (fair : (q : ℕ) → q ≤ length s * 8 → Fair N s q (part q) (F.read s q)) where
  pub fair-opt : (k p : ℕ) → p ≤ length s * 8 → Fair N s p (one_met k 1 s p ++ behind ((num 1).read s p) (λ b q. pick (eqb b 0) [] (part q))) ((opt F).read s p)
  fair-opt k p l =
      fair_bind s p (one_met k 1 s p) ((num 1).read s p) (λ b q. pick (eqb b 0) [] (part q)) (λ b q. pick (eqb b 0) (ok none q) (F.read s q then λ a r. ok (some a) r)) l
      (fair-num k 1 s p)
      (λ b q e i j.
      fair-pick (eqb b 0) s q [] (part q) (ok none q) (F.read s q then λ a r. ok (some a) r) (fair-none none s q)
      (fair-map (λ a. some a) s q (part q) (F.read s q) (fair q j)))

  items-fair : (k n p : ℕ) → p ≤ length s * 8 → Fair N s p (met_items F part k n s p) (read_items F n s p)
  unfolding met_items read_items
  items-fair k zero p l = fair-out s p
  items-fair k (suc n) p l =
      fair_bind s p (one_met k 1 s p) ((num 1).read s p) (λ b q. pick (eqb b 0) [] (part q ++ behind (F.read s q) (λ a m. met_items F part k n s m)))
      (λ b q. pick (eqb b 0) (ok [] q) (F.read s q then λ a r. read_items F n s r then λ m t. ok (a ∷ m) t)) l (fair-num k 1 s p)
      (λ b q e i j.
      fair-pick (eqb b 0) s q [] (part q ++ behind (F.read s q) (λ a m. met_items F part k n s m)) (ok [] q)
      (F.read s q then λ a r. read_items F n s r then λ m t. ok (a ∷ m) t) (fair-none [] s q)
      (fair_bind s q (part q) (F.read s q) (λ a m. met_items F part k n s m) (λ a r. read_items F n s r then λ m t. ok (a ∷ m) t) j (fair q j)
      (λ a m f i j. fair-map (λ t. a ∷ t) s m (met_items F part k n s m) (read_items F n s m) (items-fair k n m j))))

  pub fair-list : (k p : ℕ) → p ≤ length s * 8 → Fair N s p (met_items F part k (length s * 8 + 1) s p) ((list F).read s p)
  fair-list k p l = items-fair k (length s * 8 + 1) p l

  pub fair-when : (t : Bool) (p : ℕ) → p ≤ length s * 8 → Fair N s p (pick t (part p) []) ((when t F).read s p)
  fair-when t p l =
      fair-pick t s p (part p) [] (F.read s p then λ a q. ok (some a) q) (ok none p) (fair-map (λ a. some a) s p (part p) (F.read s p) (fair p l)) (fair-none none s p)

  pub fair-release : (k p : ℕ) → p ≤ length s * 8 → Fair N s p (lead_met k s p ++ behind (lead s p) (λ h q. pick h (part q) [])) ((release F).read s p)
  fair-release k p l =
      rw (release-led F s p)
      (fair_bind s p (lead_met k s p) (lead s p) (λ h q. pick h (part q) []) (λ h q. pick h (F.read s q then λ a r. ok (some a) r) (ok none q)) l (fair-lead k s p)
      (λ h q e i j.
      fair-pick h s q (part q) [] (F.read s q then λ a r. ok (some a) r) (ok none q) (fair-map (λ a. some a) s q (part q) (F.read s q) (fair q j)) (fair-none none s q)))

module _ {A B N : Type 0} (F : Format A) (G : Format B) (left right : ℕ → List Met) (s : List ℕ)
    (fair : (q : ℕ) → q ≤ length s * 8 → Fair N s q (left q) (F.read s q)) (just : (q : ℕ) → q ≤ length s * 8 → Fair N s q (right q) (G.read s q)) where
  pub fair-either : (k p : ℕ) → p ≤ length s * 8
      → Fair N s p (one_met k 1 s p ++ behind ((num 1).read s p) (λ b q. pick (eqb b 0) (left q) (right q))) ((either F G).read s p)
  fair-either k p l =
      fair_bind s p (one_met k 1 s p) ((num 1).read s p) (λ b q. pick (eqb b 0) (left q) (right q))
      (λ b q. pick (eqb b 0) (F.read s q then λ a r. ok (inl a) r) (G.read s q then λ b r. ok (inr b) r)) l (fair-num k 1 s p)
      (λ b q e i j.
      fair-pick (eqb b 0) s q (left q) (right q) (F.read s q then λ a r. ok (inl a) r) (G.read s q then λ b r. ok (inr b) r)
      (fair-map (λ a. inl a) s q (left q) (F.read s q) (fair q j)) (fair-map (λ b. inr b) s q (right q) (G.read s q) (just q j)))

never : (b : Bool) → b ≡ true → b ≡ false → ⊥
never b x y = let z : true ≡ false = sym x ∙ y in let w : ◌≡◌ {A = ℕ} 0 1 = cc in omega arith

-- a test's number is none for bits that ran out
pub fair-checked : {A N : Type 0} (t : A → Bool) (m : ℕ) (s : List ℕ) (p : ℕ) (xs : List Met) (x : Res A) → (N → is_clip m ≡ false) → Fair N s p xs x
    → Fair N s p xs (x then λ a q. pick (t a) (ok a q) (bad (ground m)))
unfolding ground
fair-checked {A = A} {N = N} t m s p xs (ok a q) c h = go (t a)
  where
    go : (b : Bool) → Fair N s p xs (pick b (ok a q) (bad (ground m)))
    go true = h
    go false = record { gapless = h.gapless; standing = h.standing; ends = λ n i. absurd (never (is_clip m) i (c n)) }
fair-checked t m s p xs (bad r) c h = h

-- a later release's number is one for them
pub fair-inside : {A N : Type 0} (m : ℕ) (s : List ℕ) (p : ℕ) (xs : List Met) (x : Res A) → (N → is_clip m ≡ true) → Fair N s p xs x → Fair N s p xs (numbered_as m x)
fair-inside m s p xs (ok a q) c h = h
fair-inside m s p xs (bad r) c h =
    record {
      gapless = h.gapless;
      standing = h.standing;
      ends = λ n i. h.ends n (sym (renumbered-clip m r (c n)) ∙ i) ∙ sym (renumbered-bit m r);
    }
