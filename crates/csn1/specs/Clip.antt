-- Octets that end too early: the fields that reading comes to, and what is left of a value once its octets were cut. Assumes nothing.
use Rattle.std.specs.Prelude.{◌≡◌, List, true, ◌⊎◌, ℕ, ◌+◌, ◌*◌, ◌≤◌, ◌<◌, length}
use Rattle.std.proofs.Math.Option.{Option, none, some}
use Rattle.std.proofs.Common.{inl, inr}
use Rattle.bits.specs.Field.{bit}
use Rattle.csn1.specs.declared.Refusal.{Refusal}
use Rattle.csn1.specs.Format.{Res, ok, bad, ran_out, is_clip, renumbered, Format, num, total}
use Rattle.csn1.specs.Grammar.{Grammar, number, numbers, low-high, ◌and◌, ◌then_by◌, flagged, listed, later, one_of, only_if, refuse, inside, format}
use Rattle.csn1.specs.Told.{lead}

-- ## The fields that reading comes to

-- a field of w bits that begins at p, and what is refused where they run out
abbrev pub FieldAt : ℕ → ℕ → Refusal → ℕ → Type 0
FieldAt p v r w = (r ≡ ran_out p) × (w ≡ v)

-- behind what was read
abbrev pub Behind : {A : Type 0} → Res A → (A → ℕ → Type 0) → Type 0
Behind (ok a q) P = P a q
Behind (bad r) P = ⊥

-- in a list of parts: at a flag, in the part behind a flag that is not 0, or in the rest behind that part
pub data InList {A : Type 0} (F : Format A) (s : List ℕ) (At-flag In-part : ℕ → Type 0) : ℕ → Type 0 where
  the_flag : {p : ℕ} → At-flag p → InList F s At-flag In-part p
  the_part : {p b q : ℕ} → (num 1).read s p ≡ ok b q → (b ≡ 0 → ⊥) → In-part q → InList F s At-flag In-part p
  the_rest : {p b q : ℕ} {a : A} {m : ℕ} → (num 1).read s p ≡ ok b q → (b ≡ 0 → ⊥) → F.read s q ≡ ok a m → InList F s At-flag In-part m → InList F s At-flag In-part p

-- of the octets s, a place p, a refusal r and a width w: reading from p on comes to a field of w bits, and is refused with r where they run out
abbrev pub Coming : Type 1
Coming = List ℕ → ℕ → Refusal → ℕ → Type 0

-- the refusal has the number for bits that run out there, and the place where the field begins
unfoldable pub Comes : {A : Type 0} → Grammar A → Coming
Comes (number v) s p r w = FieldAt p v r w
Comes (numbers ws) s p r w = FieldAt p (total ws) r w
Comes low-high s p r w = FieldAt p 1 r w
Comes (◌and◌ f g) s p r w = Comes f s p r w ⊎ Behind ((format f).read s p) (λ a q. Comes g s q r w)
Comes (◌then_by◌ f g) s p r w = Comes f s p r w ⊎ Behind ((format f).read s p) (λ a q. Comes (g a) s q r w)
Comes (flagged f) s p r w = FieldAt p 1 r w ⊎ Behind ((num 1).read s p) (λ b q. (b ≡ 0 → ⊥) × Comes f s q r w)
Comes (listed f) s p r w = InList (format f) s (λ q. FieldAt q 1 r w) (λ q. Comes f s q r w) p
Comes (later f) s p r w = ((p < length s * 8) × FieldAt p 1 r w) ⊎ Behind (lead s p) (λ h q. (h ≡ true) × Comes f s q r w)
Comes (one_of f g) s p r w =
    FieldAt p 1 r w ⊎ Behind ((num 1).read s p) (λ b q. ((b ≡ 0) × Comes f s q r w) ⊎ ((b ≡ 0 → ⊥) × Comes g s q r w))
Comes (only_if t f) s p r w = (t ≡ true) × Comes f s p r w
Comes (refuse m t f) s p r w = Comes f s p r w
Comes (inside m f) s p r w = (x : Refusal) × (r ≡ renumbered m x) × Comes f s p x w

-- it comes to a field that begins at a place
pub record Reaches {A : Type 0} (g : Grammar A) (s : List ℕ) (p at : ℕ) : Type 0 where
  pub refusal : Refusal
  pub width : ℕ
  pub comes : Comes g s p refusal width
  pub there : refusal.bit ≡ at

-- the octets s and t have the same bits from p up to q
abbrev pub Agree : List ℕ → List ℕ → ℕ → ℕ → Type 0
Agree s t p q = (k : ℕ) → p ≤ k → k < q → bit s k ≡ bit t k

-- bits ran out: reading came to a field, which begins within the octets and ends past them; and what stands before it is not to blame, since reading any
-- octets that agree with these up to there comes to a field there
pub record Clipped {A : Type 0} (g : Grammar A) (s : List ℕ) (p : ℕ) (r : Refusal) : Type 0 where
  pub width : ℕ
  pub comes : Comes g s p r width
  pub within : r.bit ≤ length s * 8
  pub missing : length s * 8 < r.bit + width
  pub blameless : (t : List ℕ) → r.bit ≤ length t * 8 → Agree s t p r.bit → Reaches g t p r.bit

-- ## The release that a number says

-- nothing in it is numbered as a part of a later release
unfoldable pub Outside : {A : Type 0} → Grammar A → Type 0
Outside (number w) = Unit {0}
Outside (numbers ws) = Unit {0}
Outside low-high = Unit {0}
Outside (◌and◌ f g) = Outside f × Outside g
Outside (◌then_by◌ {A} f g) = Outside f × ((a : A) → Outside (g a))
Outside (flagged f) = Outside f
Outside (listed f) = Outside f
Outside (later f) = Outside f
Outside (one_of f g) = Outside f × Outside g
Outside (only_if t f) = Outside f
Outside (refuse m t f) = Outside f
Outside (inside m f) = ⊥

-- bits ran out before the two releases, or behind the H of the first or of the second
pub data ReleaseOf {A B C : Type 0} (before : Grammar A) (six : Grammar B) (seven : Grammar C) (s : List ℕ) (p : ℕ) (r : Refusal) : Type 0 where
  before_them : r.number ≡ 2 → (format before).read s p ≡ bad r → ReleaseOf before six seven s p r
  in-release6 :
      {a : A} {q : ℕ}
      → r.number ≡ 14
      → (format before).read s p ≡ ok a q
      → lead s q ≡ ok true (q + 1)
      → (format six).read s (q + 1) ≡ bad r
      → ReleaseOf before six seven s p r
  in-release7 :
      {a : A} {q : ℕ} {b : Option B} {t : ℕ}
      → r.number ≡ 15
      → (format before).read s p ≡ ok a q
      → (format (later six)).read s q ≡ ok b t
      → lead s t ≡ ok true (t + 1)
      → (format seven).read s (t + 1) ≡ bad r
      → ReleaseOf before six seven s p r

-- ## What is left of a value

abbrev pub BothThere : {A : Type 0} → (A → A → Type 0) → Option A → Option A → Type 0
BothThere R none b = ⊥
BothThere R (some a) none = ⊥
BothThere R (some a) (some b) = R a b

-- b is what is read of a where no bit is left: each later release is absent, and all else, which has no bits, is the same
unfoldable pub Bare : {A : Type 0} → Grammar A → A → A → Type 0
Bare (number w) a b = a ≡ b
Bare (numbers ws) a b = a ≡ b
Bare low-high a b = ⊥
Bare (◌and◌ f g) a b = Bare f a.0 b.0 × Bare g a.1 b.1
Bare (◌then_by◌ f g) a b = (a.0 ≡ b.0) × Bare (g a.0) a.1 b.1
Bare (flagged f) a b = ⊥
Bare (listed f) a b = ⊥
Bare (later f) a b = b ≡ none
Bare (one_of f g) a b = ⊥
Bare (only_if t f) a b = (a ≡ b) ⊎ BothThere (λ x y. Bare f x y) a b
Bare (refuse m t f) a b = Bare f a b
Bare (inside m f) a b = Bare f a b

-- b is a without the later releases from some place on: what stands before that place is the same, and behind it nothing is left
unfoldable pub Without : {A : Type 0} → Grammar A → A → A → Type 0
Without (number w) a b = ⊥
Without (numbers ws) a b = ⊥
Without low-high a b = ⊥
Without (◌and◌ f g) a b = (Without f a.0 b.0 × Bare g a.1 b.1) ⊎ ((a.0 ≡ b.0) × Without g a.1 b.1)
Without (◌then_by◌ f g) a b = (a.0 ≡ b.0) × Without (g a.0) a.1 b.1
Without (flagged f) a b = BothThere (λ x y. Without f x y) a b
Without (listed f) a b = ⊥
Without (later f) a b = (b ≡ none) ⊎ BothThere (λ x y. Without f x y) a b
Without (one_of f g) (inl a) (inl b) = Without f a b
Without (one_of f g) (inl a) (inr b) = ⊥
Without (one_of f g) (inr a) (inl b) = ⊥
Without (one_of f g) (inr a) (inr b) = Without g a b
Without (only_if t f) a b = BothThere (λ x y. Without f x y) a b
Without (refuse m t f) a b = Without f a b
Without (inside m f) a b = Without f a b

-- no later release is in it
unfoldable pub Plain : {A : Type 0} → Grammar A → Type 0
Plain (number w) = Unit {0}
Plain (numbers ws) = Unit {0}
Plain low-high = Unit {0}
Plain (◌and◌ f g) = Plain f × Plain g
Plain (◌then_by◌ {A} f g) = Plain f × ((a : A) → Plain (g a))
Plain (flagged f) = Plain f
Plain (listed f) = Plain f
Plain (later f) = ⊥
Plain (one_of f g) = Plain f × Plain g
Plain (only_if t f) = Plain f
Plain (refuse m t f) = Plain f
Plain (inside m f) = Plain f

-- no later release says what stands behind it, and no test fails for want of one
unfoldable pub Steady : {A : Type 0} → Grammar A → Type 0
Steady (number w) = Unit {0}
Steady (numbers ws) = Unit {0}
Steady low-high = Unit {0}
Steady (◌and◌ f g) = Steady f × Steady g
Steady (◌then_by◌ {A} f g) = Plain f × ((a : A) → Steady (g a))
Steady (flagged f) = Steady f
Steady (listed f) = Steady f
Steady (later f) = Steady f
Steady (one_of f g) = Steady f × Steady g
Steady (only_if t f) = Steady f
Steady (refuse {A} m t f) = ((a b : A) → Without f a b ⊎ Bare f a b → t a ≡ true → t b ≡ true) × Steady f
Steady (inside m f) = Steady f

-- what reading the first n octets gives, where reading more of them gave a: refused as bits that ran out, at most at their end; or read up to their end,
-- without the later releases from there on
abbrev pub Cut : {A : Type 0} → Grammar A → ℕ → A → Res A → Type 0
Cut g n a (bad r) = (is_clip r.number ≡ true) × (r.bit ≤ n * 8)
Cut g n a (ok b q) = Without g a b × (q ≡ n * 8)
