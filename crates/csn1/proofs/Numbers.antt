-- The number of bits that ran out says in which release. Assumes nothing.
use mathlib.Core.Path.{◌≡◌, refl, sym, ap, ◌∙◌, subst}
use mathlib.Core.List.{List}
use mathlib.Core.Bool.{Bool, true, false}
use mathlib.Core.Option.{Option, none, some}
use mathlib.Core.Logic.{◌⊎◌, inl, inr}
use Prim.Native.Nat.{ℕ, ◌+◌, ◌*◌, ◌≤◌}
use native.Mathlib.Omega.{arith}
use native.Mathlib.Decide.{ℕ_discrete}
use lib.ListN.{length}
use borrow.Author.Tests.{eq-eqb}
use Rattle.bits.specs.Field.{pick}
use Rattle.csn1.specs.declared.Refusal.{Refusal}
use Rattle.csn1.specs.Format.{Res, ok, bad, ◌then◌, ran_out, ground, is_clip, renumbered, Format, num, checked, ◌⨟◌}
use Rattle.csn1.specs.Grammar.{Grammar, number, numbers, low-high, ◌and◌, ◌then_by◌, flagged, listed, later, one_of, only_if, refuse, inside, format, Numbered}
use Rattle.csn1.specs.Told.{lead}
use Rattle.csn1.specs.Clip.{InList, the_flag, the_part, the_rest, Comes, Outside, ReleaseOf, before_them, in-release6, in-release7}
use Rattle.csn1.specs.Promises.{TheNumberSaysTheRelease}
use Rattle.csn1.proofs.Reading.{release-led}
use Rattle.csn1.proofs.Clips.{Passed, stopped, went, ran_out-bit}
use Rattle.csn1.proofs.ClipParts.{lead-told, lead-end, lead-bit, renumbered-clip, inside-bad}
use Rattle.csn1.proofs.Clipped.{told}

-- ## Outside the releases the number is 2

two : (p : ℕ) (r : Refusal) → r ≡ ran_out p → r.number ≡ 2
unfolding ran_out
two p r e = ap (λ (x : Refusal). x.number) e

two_in_list : {A : Type 0} (F : Format A) (s : List ℕ) (P Q : ℕ → Type 0) (r : Refusal) → ((q : ℕ) → P q → r.number ≡ 2) → ((q : ℕ) → Q q → r.number ≡ 2)
    → (p : ℕ) → InList F s P Q p → r.number ≡ 2
two_in_list F s P Q r f g p (the_flag c) = f p c
two_in_list F s P Q r f g p (the_part {q = q} e n c) = g q c
two_in_list F s P Q r f g p (the_rest {m = m} e n x c) = two_in_list F s P Q r f g m c

pub outside-two : {A : Type 0} (g : Grammar A) → Outside g → (s : List ℕ) (p : ℕ) (r : Refusal) (w : ℕ) → Comes g s p r w → r.number ≡ 2
unfolding Comes Outside
outside-two (number v) o s p r w c = two p r c.0
outside-two (numbers ws) o s p r w c = two p r c.0
outside-two low-high o s p r w c = two p r c.0
outside-two (◌and◌ f g) o s p r w (inl c) = outside-two f o.0 s p r w c
outside-two (◌and◌ f g) o s p r w (inr c) =
    let u = went ((format f).read s p) (λ a q. Comes g s q r w) c in outside-two g o.1 s u.next r w u.here
outside-two (◌then_by◌ f g) o s p r w (inl c) = outside-two f o.0 s p r w c
outside-two (◌then_by◌ f g) o s p r w (inr c) =
    let u = went ((format f).read s p) (λ a q. Comes (g a) s q r w) c in outside-two (g u.value) (o.1 u.value) s u.next r w u.here
outside-two (flagged f) o s p r w (inl c) = two p r c.0
outside-two (flagged f) o s p r w (inr c) =
    let u = went ((num 1).read s p) (λ b q. (b ≡ 0 → ⊥) × Comes f s q r w) c in outside-two f o s u.next r w u.here.1
outside-two (listed f) o s p r w c =
    two_in_list (format f) s (λ q. (r ≡ ran_out q) × (w ≡ 1)) (λ q. Comes f s q r w) r (λ q d. two q r d.0) (λ q d. outside-two f o s q r w d) p c
outside-two (later f) o s p r w (inl c) = two p r c.1.0
outside-two (later f) o s p r w (inr c) =
    let u = went (lead s p) (λ h q. (h ≡ true) × Comes f s q r w) c in outside-two f o s u.next r w u.here.1
outside-two (one_of f g) o s p r w (inl c) = two p r c.0
outside-two (one_of f g) o s p r w (inr c) =
    let u = went ((num 1).read s p) (λ b q. ((b ≡ 0) × Comes f s q r w) ⊎ ((b ≡ 0 → ⊥) × Comes g s q r w)) c in
    part u.next u.value (λ d. outside-two f o.0 s u.next r w d) (λ d. outside-two g o.1 s u.next r w d) u.here
  where
    part : (q b : ℕ) → (Comes f s q r w → r.number ≡ 2) → (Comes g s q r w → r.number ≡ 2) → ((b ≡ 0) × Comes f s q r w) ⊎ ((b ≡ 0 → ⊥) × Comes g s q r w) → r.number ≡ 2
    part q b x y (inl d) = x d.1
    part q b x y (inr d) = y d.1
outside-two (only_if t f) o s p r w c = outside-two f o s p r w c.1
outside-two (refuse m t f) o s p r w c = outside-two f o s p r w c
outside-two (inside m f) o s p r w c = absurd o

-- bits that ran out in it have the number 2
refused-two : {A : Type 0} (g : Grammar A) → Numbered g → Outside g → (s : List ℕ) (p : ℕ) (r : Refusal) → p ≤ length s * 8 → (format g).read s p ≡ bad r
    → is_clip r.number ≡ true → r.number ≡ 2
refused-two g n o s p r l e i = let c = (told g n s p l).clip r e i in outside-two g o s p r c.width c.comes

-- bits that ran out were not refused by a test
pub untested : {A : Type 0} (t : A → Bool) (m : ℕ) (F : Format A) → is_clip m ≡ false → (s : List ℕ) (p : ℕ) (r : Refusal) → (checked t m F).read s p ≡ bad r
    → is_clip r.number ≡ true → F.read s p ≡ bad r
unfolding ground
untested {A} t m F i s p r e c = go (stopped (F.read s p) (λ a q. pick (t a) (ok a q) (bad (ground m))) r e)
  where
    test : (b : Bool) (a : A) (q : ℕ) → pick b (ok a q) (bad (ground m)) ≡ bad r → ⊥
    test true a q x = let z : ◌≡◌ {A = ℕ} 0 1 = cc in omega arith
    test false a q x = let d : ground m ≡ r = cc in let y : true ≡ false = sym c ∙ ap (λ (x : Refusal). is_clip x.number) (sym d) ∙ i in let z : ◌≡◌ {A = ℕ} 0 1 = cc in omega arith

    go : (F.read s p ≡ bad r) ⊎ Passed (F.read s p) (λ a q. pick (t a) (ok a q) (bad (ground m))) (bad r) → F.read s p ≡ bad r
    go (inl x) = x
    go (inr x) = absurd (test (t x.value) x.value x.next x.second)

-- ## Behind the H of a release

unmapped : {A B : Type 0} (x : Res A) (f : A → B) (r : Refusal) → x then (λ a q. ok (f a) q) ≡ bad r → x ≡ bad r
unmapped (ok a q) f r e = absurd (let z : ◌≡◌ {A = ℕ} 0 1 = cc in omega arith)
unmapped (bad y) f r e = let d : y ≡ r = cc in ap bad d

-- one of two parts, one after the other, is refused
record SecondRefused {A B : Type 0} (F : Format A) (G : Format B) (s : List ℕ) (p : ℕ) (r : Refusal) : Type 0 where
  value : A
  next : ℕ
  first : F.read s p ≡ ok value next
  second : G.read s next ≡ bad r

one-refused : {A B : Type 0} (F : Format A) (G : Format B) (s : List ℕ) (p : ℕ) (r : Refusal) → (F ⨟ G).read s p ≡ bad r
    → (F.read s p ≡ bad r) ⊎ SecondRefused F G s p r
one-refused {A} {B} F G s p r e = go (stopped (F.read s p) rest r e)
  where
    rest : A → ℕ → Res (A × B)
    rest a q = G.read s q then λ b t. ok (a, b) t

    go : (F.read s p ≡ bad r) ⊎ Passed (F.read s p) rest (bad r) → (F.read s p ≡ bad r) ⊎ SecondRefused F G s p r
    go (inl x) = inl x
    go (inr x) = inr (record { value = x.value; next = x.next; first = x.first; second = unmapped (G.read s x.next) (λ b. (x.value, b)) r x.second })

-- an H is one bit
high-next : (s : List ℕ) (t : ℕ) → t ≤ length s * 8 → (q : ℕ) → lead s t ≡ ok true q → q ≡ t + 1
high-next s t l q e = go (ℕ_discrete t (length s * 8))
  where
    go : Dec (t ≡ length s * 8) → q ≡ t + 1
    go (yes x) = absurd (let u = lead-end s t x in let y : true ≡ false = cc in let z : ◌≡◌ {A = ℕ} 0 1 = cc in omega arith)
    go (no x) = let u = lead-bit s t (omega arith) in let d : t + 1 ≡ q = cc in sym d

record BehindHigh {A : Type 0} (m : ℕ) (h : Grammar A) (s : List ℕ) (t : ℕ) (r : Refusal) : Type 0 where
  number : r.number ≡ m
  high : lead s t ≡ ok true (t + 1)
  refused : (format (inside m h)).read s (t + 1) ≡ bad r

renumbered-two : (m : ℕ) (x : Refusal) → x.number ≡ 2 → (renumbered m x).number ≡ m
unfolding renumbered
renumbered-two m x e = rw (eq-eqb x.number 2 e)

module _ {A : Type 0} (m : ℕ) (i : is_clip m ≡ true) (h : Grammar A) (n : Numbered h) (o : Outside h) (s : List ℕ) (t : ℕ) (l : t ≤ length s * 8) (r : Refusal) (c : is_clip r.number ≡ true) where
  inside-number : (p : ℕ) → p ≤ length s * 8 → (format (inside m h)).read s p ≡ bad r → r.number ≡ m
  inside-number p k e =
      let u = inside-bad m ((format h).read s p) r e in
      let z : is_clip u.0.number ≡ true = sym (renumbered-clip m u.0 i) ∙ ap (λ (x : Refusal). is_clip x.number) u.2 ∙ c in
      ap (λ (x : Refusal). x.number) (sym u.2) ∙ renumbered-two m u.0 (refused-two h n o s p u.0 k u.1 z)

  by-lead : (b : Bool) (q : ℕ) → lead s t ≡ ok b q → pick b ((format (inside m h)).read s q then λ a k. ok (some a) k) (ok none q) ≡ bad r → BehindHigh m h s t r
  by-lead true q e x =
      let d : q ≡ t + 1 = high-next s t l q e in
      let y = unmapped ((format (inside m h)).read s q) some r x in
      let k = ((lead-told s t l).moves true q e).1 in
      record { number = inside-number q k y; high = e ∙ ap (λ (z : ℕ). ok true z) d; refused = subst (λ (z : ℕ). (format (inside m h)).read s z ≡ bad r) d y }
  by-lead false q e x = absurd (let z : ◌≡◌ {A = ℕ} 0 1 = cc in omega arith)

  release-refused : (format (later (inside m h))).read s t ≡ bad r → BehindHigh m h s t r
  release-refused e = go (stopped (lead s t) part r (sym (release-led (format (inside m h)) s t) ∙ e))
    where
      part : Bool → ℕ → Res (Option A)
      part b q = pick b ((format (inside m h)).read s q then λ a k. ok (some a) k) (ok none q)

      go : (lead s t ≡ bad r) ⊎ Passed (lead s t) part (bad r) → BehindHigh m h s t r
      go (inl x) =
          let u = (lead-told s t l).clip r x c in
          absurd (omega (arith, ran_out-bit t, ap (λ (y : Refusal). y.bit) u.comes.1.0, u.comes.1.1, u.comes.0, u.missing))
      go (inr x) = by-lead x.value x.next x.first x.second

-- ## The whole

module _ {A B C D : Type 0} (f : Grammar A) (g : Grammar B) (h : Grammar C) (k : Grammar D) (n : Numbered (f and g and later (inside 14 h) and later (inside 15 k)))
    (o : Outside (f and g and h and k)) (s : List ℕ) (p : ℕ) (r : Refusal) (l : p ≤ length s * 8) (c : is_clip r.number ≡ true) where
  abbrev ToldSo : Type 0
  ToldSo = ReleaseOf (f and g) (inside 14 h) (inside 15 k) s p r

  abbrev L6 : Format (Option C)
  L6 = format (later (inside 14 h))

  abbrev L7 : Format (Option D)
  L7 = format (later (inside 15 k))

  -- f and g were read
  module _ (a : A) (q : ℕ) (e : (format f).read s p ≡ ok a q) (b : B) (t : ℕ) (d : (format g).read s q ≡ ok b t) where
    both : (format (f and g)).read s p ≡ ok (a, b) t
    both = rw (e, d)

    inside-it : t ≤ length s * 8
    inside-it = ((told g n.1.0 s q ((told f n.0 s p l).moves a q e).1).moves b t d).1

    in-seven : (y : Option C) (u : ℕ) → L6.read s t ≡ ok y u → L7.read s u ≡ bad r → ToldSo
    unfolding Outside
    in-seven y u x z =
        let v = ((told (later (inside 14 h)) n.1.1.0 s t inside-it).moves y u x).1 in
        let w = release-refused 15 refl k n.1.1.1.1 o.1.1.1 s u v r c z in
        in-release7 w.number both x w.high w.refused

    in_both : (L6.read s t ≡ bad r) ⊎ SecondRefused L6 L7 s t r → ToldSo
    unfolding Outside
    in_both (inl z) =
        let w = release-refused 14 refl h n.1.1.0.1 o.1.1.0 s t inside-it r c z in
        in-release6 w.number both w.high w.refused
    in_both (inr z) = in-seven z.value z.next z.first z.second

  in_f : (format f).read s p ≡ bad r → ToldSo
  unfolding Outside
  in_f e = before_them (refused-two f n.0 o.0 s p r l e c) (rw e)

  module _ (a : A) (q : ℕ) (e : (format f).read s p ≡ ok a q) where
    in_g : ((format g).read s q ≡ bad r) ⊎ SecondRefused (format g) (L6 ⨟ L7) s q r → ToldSo
    unfolding Outside
    in_g (inl d) = before_them (refused-two g n.1.0 o.1.0 s q r ((told f n.0 s p l).moves a q e).1 d c) (rw (e, d))
    in_g (inr d) = in_both a q e d.value d.next d.first (one-refused L6 L7 s d.next r d.second)

  says : ((format f).read s p ≡ bad r) ⊎ SecondRefused (format f) (format g ⨟ L6 ⨟ L7) s p r → ToldSo
  says (inl x) = in_f x
  says (inr x) = in_g x.value x.next x.first (one-refused (format g) (L6 ⨟ L7) s x.next r x.second)

pub the_number_says_the_release : TheNumberSaysTheRelease
the_number_says_the_release A B C D f g h k n o s p r l e c =
    says f g h k n o s p r l c (one-refused (format f) (format (g and later (inside 14 h) and later (inside 15 k))) s p r e)
