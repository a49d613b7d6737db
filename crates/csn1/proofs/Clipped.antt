-- Every grammar tells where bits ran out: the induction over grammars. Assumes nothing.
use mathlib.Core.Path.{◌≡◌, refl, ap₂}
use mathlib.Core.List.{List, [], ◌∷◌}
use mathlib.Core.Bool.{Bool, true, false}
use Prim.Native.Nat.{ℕ, ◌+◌, ◌*◌, ◌/◌, ◌%◌, ◌^◌, ◌≤◌, ◌<◌}
use native.Mathlib.Omega.{arith}
use lib.ListN.{length}
use lib.Dec.{eqb}
use Rattle.bits.specs.Field.{pick}
use Rattle.bits.proofs.Laws.{field_cong}
use Rattle.csn1.specs.declared.Refusal.{Refusal}
use Rattle.csn1.specs.Told.{code_of}
use Rattle.csn1.specs.Format.{ok, bad, is_clip, ◌then◌, num, fields_at, total, pad_bit}
use Rattle.csn1.specs.Grammar.{Grammar, number, numbers, low-high, ◌and◌, ◌then_by◌, flagged, listed, later, one_of, only_if, refuse, inside, format, Numbered}
use Rattle.csn1.specs.Clip.{FieldAt, Coming, Agree, Comes, Reaches}
use Rattle.csn1.specs.Promises.{AClipIsToldWhereItIs, WhatIsMissingIsRefusedThere, AResultTellsNumberAndBit}
use Rattle.csn1.proofs.Clips.{Reach, Told, agree-part, field_told, num-told, map-told, bind_told}
use Rattle.csn1.proofs.ClipParts.{opt-told, when-told, checked-told, either-told, release-told, inside-told, list-told}

-- numbers side by side are those of octets that agree
fields_same : (ws s t : List ℕ) (p : ℕ) → Agree s t p (p + total ws) → fields_at ws s p ≡ fields_at ws t p
fields_same [] s t p h = refl
fields_same (w ∷ ws) s t p h =
    ap₂ (λ (x : ℕ) (y : List ℕ). x ∷ y) (field_cong s t p w (λ k i. h (p + k) (omega arith) (omega arith)))
    (fields_same ws s t (p + w) (agree-part s t p (p + (w + total ws)) (p + w) (p + w + total ws) h (omega arith) (omega arith)))

abbrev pub comes : {A : Type 0} → Grammar A → Coming
comes g s p r w = Comes g s p r w

pub told : {A : Type 0} (g : Grammar A) → Numbered g → (s : List ℕ) (p : ℕ) → p ≤ length s * 8 → Told (format g).read (comes g) s p
unfolding Comes
told (number w) n s p l = num-told w s p l
told (numbers ws) n s p l = field_told (λ s p. fields_at ws s p) (total ws) (fields_same ws) s p l
told low-high n s p l = map-told (num 1).read (λ s p r v. FieldAt p 1 r v) (λ m b. pick (eqb b (pad_bit m)) 0 1) s p (num-told 1 s p l)
told (◌and◌ f g) n s p l =
    let u = told f n.0 s p l in
    bind_told (format f).read (comes f) (λ m a s q. (format g).read s q then λ b r. ok (a, b) r) (λ m a. comes g) s p u
    (λ a q e. map-told (format g).read (comes g) (λ m b. (a, b)) s q (told g n.1 s q (u.moves a q e).1))
told (◌then_by◌ f g) n s p l =
    let u = told f n.0 s p l in
    bind_told (format f).read (comes f) (λ m a s q. (format (g a)).read s q then λ b r. ok (a, b) r) (λ m a. comes (g a)) s p u
    (λ a q e. map-told (format (g a)).read (comes (g a)) (λ m b. (a, b)) s q (told (g a) (n.1 a) s q (u.moves a q e).1))
told (flagged f) n s p l = opt-told (format f) (comes f) s (λ q i. told f n s q i) p l
told (listed f) n s p l = list-told (format f) (comes f) (λ t q i. told f n t q i) s p l
told (later f) n s p l = release-told (format f) (comes f) s (λ q i. told f n s q i) p l
told (one_of f g) n s p l = either-told (format f) (format g) (comes f) (comes g) s (λ q i. told f n.0 s q i) (λ q i. told g n.1 s q i) p l
told (only_if t f) n s p l = when-told (format f) (comes f) s (λ q i. told f n s q i) t p l
told (refuse m t f) n s p l = checked-told (format f) (comes f) s (λ q i. told f n.3 s q i) t m n.2 n.1 p l
told (inside m f) n s p l = inside-told m n.0 (format f).read (comes f) s p (told f n.1 s p l)

reaches : {A : Type 0} (g : Grammar A) (s : List ℕ) (p at : ℕ) → Reach (comes g) s p at → Reaches g s p at
reaches g s p at h = record { refusal = h.refusal; width = h.width; comes = h.comes; there = h.there }

pub a_clip_is_told_where_it_is : AClipIsToldWhereItIs
a_clip_is_told_where_it_is A g n s p r l e =
    let h = told g n s p l in (
      λ i.
          let c = h.clip r e i in
          record {
            width = c.width;
            comes = c.comes;
            within = c.within;
            missing = c.missing;
            blameless = λ t j k. reaches g t p r.bit (c.blameless t j k);
          },
      h.placeless r e,
    )

pub what_is_missing_is_refused_there : WhatIsMissingIsRefusedThere
what_is_missing_is_refused_there A g n s p r w l c m = (told g n s p l).refused r w c m

-- a number and a bit, each in its place
code-tells : (r : Refusal) → r.number < 256 → r.bit < 2 ^ 24 → (code_of r % 256 ≡ r.number) × (code_of r / 256 ≡ r.bit)
unfolding code_of
code-tells r n b = (omega arith, omega arith)

pub bit-within : {A : Type 0} (g : Grammar A) → Numbered g → (s : List ℕ) (p : ℕ) (r : Refusal) → p ≤ length s * 8 → (format g).read s p ≡ bad r → r.bit ≤ length s * 8
bit-within g n s p r l e = go (is_clip r.number) refl
  where
    go : (b : Bool) → is_clip r.number ≡ b → r.bit ≤ length s * 8
    go true i = ((told g n s p l).clip r e i).within
    go false i = omega (arith, (told g n s p l).placeless r e i)

pub a_result_tells_number_and_bit : AResultTellsNumberAndBit
a_result_tells_number_and_bit A g n s p r h l e = code-tells r ((told g n s p l).small r e) (omega (arith, bit-within g n s p r l e))
