-- Every grammar tells a cut as a cut: the induction over grammars. Assumes nothing.
use mathlib.Core.Path.{◌≡◌, refl, ap, ap₂, ◌∙◌, subst}
use mathlib.Core.List.{List}
use mathlib.Core.Bool.{Bool, true, false}
use mathlib.Core.Option.{Option, none, some}
use mathlib.Core.Logic.{◌⊎◌, inl, inr}
use Prim.Native.Nat.{ℕ, ◌*◌, ◌/◌, ◌≤◌, ◌<◌}
use native.Mathlib.Omega.{arith}
use lib.ListN.{length, take, length-take}
use lib.Seq.{take_all, get_or-take}
use lib.Dec.{leb}
use native.Mathlib.Nat.{min-eq_left}
use borrow.Author.Tests.{leb-true, leb-false}
use Rattle.bits.specs.Field.{bit}
use Rattle.csn1.specs.Format.{Res, ok, bad}
use Rattle.csn1.specs.Grammar.{Grammar, number, numbers, low-high, ◌and◌, ◌then_by◌, flagged, listed, later, one_of, only_if, refuse, inside, format, Numbered}
use Rattle.csn1.specs.Clip.{Agree, BothThere, Bare, Without, Plain, Steady, Cut}
use Rattle.csn1.specs.Promises.{ACutIsToldAsACut}
use Rattle.csn1.proofs.Clips.{Reach, Told}
use Rattle.csn1.proofs.Clipped.{comes, told}
use Rattle.csn1.proofs.Cuts.{Short, Cuts, Keeps, num-cuts, row-cuts, coded-cuts, opt-cuts, when-cuts, checked-cuts, inside-cuts, release-cuts, either-cuts, seq-cuts, after-cuts, list-cuts}

-- ## What has no later release

both-there-never : {A : Type 0} (W : A → A → Type 0) → ((a b : A) → W a b → ⊥) → (x y : Option A) → BothThere W x y → ⊥
both-there-never W h none y w = w
both-there-never W h (some a) none w = w
both-there-never W h (some a) (some b) w = h a b w

both-there-same : {A : Type 0} (E : A → A → Type 0) → ((a b : A) → E a b → a ≡ b) → (x y : Option A) → (x ≡ y) ⊎ BothThere E x y → x ≡ y
both-there-same E h x y (inl e) = e
both-there-same E h none y (inr w) = absurd w
both-there-same E h (some a) none (inr w) = absurd w
both-there-same E h (some a) (some b) (inr w) = ap some (h a b w)

pub plain_same : {A : Type 0} (g : Grammar A) → Plain g → (a b : A) → Bare g a b → a ≡ b
unfolding Plain Bare
plain_same (number w) n a b e = e
plain_same (numbers ws) n a b e = e
plain_same low-high n a b e = absurd e
plain_same (◌and◌ f g) n a b e = ap₂ (λ x y. (x, y)) (plain_same f n.0 a.0 b.0 e.0) (plain_same g n.1 a.1 b.1 e.1)
plain_same (◌then_by◌ f g) n a b e = ap₂ (λ x y. (x, y)) e.0 (plain_same (g a.0) (n.1 a.0) a.1 b.1 e.1)
plain_same (flagged f) n a b e = absurd e
plain_same (listed f) n a b e = absurd e
plain_same (later f) n a b e = absurd n
plain_same (one_of f g) n a b e = absurd e
plain_same (only_if t f) n a b e = both-there-same (λ x y. Bare f x y) (λ x y w. plain_same f n x y w) a b e
plain_same (refuse m t f) n a b e = plain_same f n a b e
plain_same (inside m f) n a b e = plain_same f n a b e

pub plain_whole : {A : Type 0} (g : Grammar A) → Plain g → (a b : A) → Without g a b → ⊥
unfolding Plain Without
plain_whole (number w) n a b e = e
plain_whole (numbers ws) n a b e = e
plain_whole low-high n a b e = e
plain_whole (◌and◌ f g) n a b (inl e) = plain_whole f n.0 a.0 b.0 e.0
plain_whole (◌and◌ f g) n a b (inr e) = plain_whole g n.1 a.1 b.1 e.1
plain_whole (◌then_by◌ f g) n a b e = plain_whole (g a.0) (n.1 a.0) a.1 b.1 e.1
plain_whole (flagged f) n a b e = both-there-never (λ x y. Without f x y) (λ x y w. plain_whole f n x y w) a b e
plain_whole (listed f) n a b e = e
plain_whole (later f) n a b e = absurd n
plain_whole (one_of f g) n (inl a) (inl b) e = plain_whole f n.0 a b e
plain_whole (one_of f g) n (inl a) (inr b) e = e
plain_whole (one_of f g) n (inr a) (inl b) e = e
plain_whole (one_of f g) n (inr a) (inr b) e = plain_whole g n.1 a b e
plain_whole (only_if t f) n a b e = both-there-never (λ x y. Without f x y) (λ x y w. plain_whole f n x y w) a b e
plain_whole (refuse m t f) n a b e = plain_whole f n a b e
plain_whole (inside m f) n a b e = plain_whole f n a b e

-- a test of it passes what it passed
plain_test : {A : Type 0} (g : Grammar A) → Plain g → (t : A → Bool) (a b : A) → Without g a b ⊎ Bare g a b → t a ≡ true → t b ≡ true
plain_test g n t a b (inl w) e = absurd (plain_whole g n a b w)
plain_test g n t a b (inr w) e = subst (λ x. t x ≡ true) (plain_same g n a b w) e

pub plain_steady : {A : Type 0} (g : Grammar A) → Plain g → Steady g
unfolding Plain Steady
plain_steady (number w) n = tt
plain_steady (numbers ws) n = tt
plain_steady low-high n = tt
plain_steady (◌and◌ f g) n = (plain_steady f n.0, plain_steady g n.1)
plain_steady (◌then_by◌ f g) n = (n.0, λ a. plain_steady (g a) (n.1 a))
plain_steady (flagged f) n = plain_steady f n
plain_steady (listed f) n = plain_steady f n
plain_steady (later f) n = absurd n
plain_steady (one_of f g) n = (plain_steady f n.0, plain_steady g n.1)
plain_steady (only_if t f) n = plain_steady f n
plain_steady (refuse m t f) n = (λ a b w e. plain_test f n t a b w e, plain_steady f n)
plain_steady (inside m f) n = plain_steady f n

-- ## Octets s that were cut to t

module _ (s t : List ℕ) (agree : Agree s t 0 (length t * 8)) (less : length t * 8 < length s * 8) where
  pub keeps : {A : Type 0} (g : Grammar A) → Numbered g → Keeps s t agree less (format g)
  keeps {A} g n p a q l e m = go (h.again a q e t m (λ k i j. agree k (omega arith) (omega arith)))
    where
      h : Told (format g).read (comes g) s p
      h = told g n s p (omega arith)

      go : ((format g).read t p ≡ ok a q) ⊎ ((q ≡ length s * 8) × Reach (comes g) t p q) → (format g).read t p ≡ ok a q
      go (inl x) = x
      go (inr x) = absurd (omega (arith, x.0))

  abbrev CutSo : {A : Type 0} → Grammar A → Type 0
  CutSo g = Cuts s t agree less (format g) (λ a b. Without g a b) (λ a b. Bare g a b)

  pub cuts : {A : Type 0} (g : Grammar A) → Numbered g → Steady g → CutSo g
  unfolding Bare Without Steady
  cuts (number w) n d = num-cuts s t agree less w
  cuts (numbers ws) n d = row-cuts s t agree less ws
  cuts low-high n d = coded-cuts s t agree less
  cuts (◌and◌ f g) n d =
      seq-cuts s t agree less (format f) (format g) (λ a b. Without f a b) (λ a b. Bare f a b) (λ a b. Without g a b) (λ a b. Bare g a b)
      (cuts f n.0 d.0) (cuts g n.1 d.1) (keeps f n.0)
  cuts (◌then_by◌ f g) n d =
      after-cuts s t agree less (format f) (λ a. format (g a)) (λ a b. Without f a b) (λ a b. Bare f a b) (λ x a b. Without (g x) a b) (λ x a b. Bare (g x) a b)
      (cuts f n.0 (plain_steady f d.0)) (λ a. cuts (g a) (n.1 a) (d.1 a)) (keeps f n.0) (plain_whole f d.0) (plain_same f d.0)
  cuts (flagged f) n d = opt-cuts s t agree less (format f) (λ a b. Without f a b) (λ a b. Bare f a b) (cuts f n d)
  cuts (listed f) n d =
      list-cuts s t agree less (format f) (λ a b. Without f a b) (λ a b. Bare f a b) (cuts f n d) (keeps f n) (comes f) (told f n)
  cuts (later f) n d = release-cuts s t agree less (format f) (λ a b. Without f a b) (λ a b. Bare f a b) (cuts f n d)
  cuts (one_of f g) n d =
      either-cuts s t agree less (format f) (format g) (λ a b. Without f a b) (λ a b. Bare f a b) (λ a b. Without g a b) (λ a b. Bare g a b)
      (cuts f n.0 d.0) (cuts g n.1 d.1) (λ a b. Without (one_of f g) a b) (λ a b w. w) (λ a b w. w)
  cuts (only_if b f) n d = when-cuts s t agree less (format f) (λ a b. Without f a b) (λ a b. Bare f a b) (cuts f n d) b
  cuts (refuse m b f) n d = checked-cuts s t agree less (format f) (λ a b. Without f a b) (λ a b. Bare f a b) (cuts f n.3 d.1) b m d.0
  cuts (inside m f) n d = inside-cuts s t agree less (format f) (λ a b. Without f a b) (λ a b. Bare f a b) (cuts f n.1 d) m n.0

-- ## The first n octets

bit-take : (n : ℕ) (s : List ℕ) (k : ℕ) → k < n * 8 → bit s k ≡ bit (take n s) k
unfolding bit
bit-take n s k l = rw (get_or-take n s (k / 8) 0 (omega arith))

pub length-first : (n : ℕ) (s : List ℕ) → n ≤ length s → length (take n s) ≡ n
length-first n s l = length-take n s ∙ min-eq_left l

cut-is : {A : Type 0} (g : Grammar A) (n : ℕ) (a : A) (x : Res A) → Short (n * 8) (λ b. Without g a b) x → Cut g n a x
cut-is g n a (bad r) h = h
cut-is g n a (ok b q) h = h

module _ {A : Type 0} (g : Grammar A) (o : Numbered g) (d : Steady g) (s : List ℕ) (p : ℕ) (a : A) (q : ℕ) (e : (format g).read s p ≡ ok a q) (n : ℕ) (l : p ≤ n * 8) where
  module _ (m : n < length s) where
    whole : length (take n s) ≡ n
    whole = length-first n s (omega arith)

    agrees : Agree s (take n s) 0 (length (take n s) * 8)
    agrees k i j = bit-take n s k (omega (arith, whole))

    cut_off : n * 8 < q → Cut g n a ((format g).read (take n s) p)
    cut_off i =
        let h = (cuts s (take n s) agrees (omega (arith, whole)) g o d).cut p a q (omega (arith, whole)) e (omega (arith, whole)) in
        cut-is g n a ((format g).read (take n s) p) (subst (λ (k : ℕ). Short (k * 8) (λ b. Without g a b) ((format g).read (take n s) p)) whole h)

    left_alone : q ≤ n * 8 → (format g).read (take n s) p ≡ ok a q
    left_alone i = keeps s (take n s) agrees (omega (arith, whole)) g o p a q (omega (arith, whole)) e (omega (arith, whole))

  nothing-cut : length s ≤ n → (format g).read (take n s) p ≡ ok a q
  nothing-cut m = ap (λ (u : List ℕ). (format g).read u p) (take_all n s m) ∙ e

pub a_cut_is_told_as_a_cut : ACutIsToldAsACut
a_cut_is_told_as_a_cut A g o d s p a q k e n l = (λ i. cut_off g o d s p a q e n l (omega (arith, ((told g o s p k).moves a q e).1)) i, λ i. by_length i)
  where
    by_length : q ≤ n * 8 → (format g).read (take n s) p ≡ ok a q
    by_length i = go (leb (length s) n) refl
      where
        go : (b : Bool) → leb (length s) n ≡ b → (format g).read (take n s) p ≡ ok a q
        go true x = nothing-cut g o d s p a q e n l (leb-true (length s) n x)
        go false x = left_alone g o d s p a q e n l (omega (arith, leb-false (length s) n x)) i
