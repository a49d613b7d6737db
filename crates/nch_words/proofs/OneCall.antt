-- A call taken from words into an array of zeros. Assumes nothing.
use mathlib.Core.Path.{◌≡◌, refl, sym, ap, ap₂, ◌∙◌}
use mathlib.Core.List.{List, [], ◌∷◌}
use mathlib.Core.Bool.{Bool, true, false}
use mathlib.Core.Option.{Option, none, some}
use mathlib.Core.Logic.{◌⊎◌, inl, inr}
use Prim.Native.Nat.{ℕ, suc, ◌+◌, ◌*◌, ◌/◌, ◌%◌, ◌≤◌, ◌<◌}
use native.Mathlib.Numerals.{add-one, add-two}
use native.Mathlib.Omega.{arith}
use lib.ListN.{set}
use lib.Dec.{leb}
use lib.Seq.{sets}
use borrow.Author.Tests.{le-leb, lt-leb, eq-eqb, ne_eqb}
use Rattle.bits.specs.Field.{field, pick}
use Rattle.bits.proofs.Laws.{field_lt, field-split}
use Rattle.csn1.specs.Grammar.{flagged}
use Rattle.csn1.specs.Told.{is_there}
use Rattle.csn1.proofs.Reading.{cuts, fields_cut}
use Rattle.csn1.proofs.Writing.{bit-back}
use Rattle.arrays.specs.Runs.{stored}
use Rattle.arrays.specs.Inner.{Zeros}
use Rattle.arrays.proofs.Zeroed.{zeros-later, zeros-set, zeros-run}
use Rattle.call.specs.declared.Call.{Call}
use Rattle.call.specs.declared.CallAt.{CallAt}
use Rattle.call.specs.Call.{frequencies, description, DescriptionValue, CallValue, call_grammar, call_of, description_of, low_reference}
use Rattle.call.specs.Inner.{call_from_head}
use Rattle.call.proofs.Reading.{widths, call-told}
use Rattle.nch.specs.CallNumbers.{call_numbers}
use Rattle.words.specs.Unasked.{Took, took, unmet, ◌on◌, taken}
use Rattle.nch_words.specs.declared.parts.TakenPart.{TakenPart}
use Rattle.nch_words.specs.declared.calls.TakenOne.{TakenOne}
use Rattle.nch_words.specs.Inner.{Put, no_part_taken, part_taken, head_numbers, frequencies_run, described_run, call_run, no_one_taken, call_taken}
use Rattle.nch_words.proofs.Puts.{second_none, first-none, put_took, put_unmet}

-- a value changed twice on its way out is changed once
changed : {A B C : Type 0} (x : Took A) (f : A → B) (g : B → C)
    → x on (λ a q. took (f a) q) on (λ b q. took (g b) q) ≡ x on (λ a q. took (g (f a)) q)
changed (took a q) f g = refl
changed unmet f g = refl

-- ## Frequencies

abbrev FrequenciesPut : List ℕ → ℕ → ℕ → TakenPart → List ℕ → List ℕ → Type 0
FrequenciesPut s p place r before after = (r ≡ part_taken (taken frequencies s p)) × Put frequencies_run place (taken frequencies s p) before after

module _ (s : List ℕ) (p place : ℕ) (l : List ℕ) (zs : Zeros l place) (b : ℕ) (e : b ≡ field s p 1) where
  pub list_put : (b ≡ 0 → ⊥) → (v : ℕ) → v ≡ field s (p + 1) 64 → FrequenciesPut s p place (record { done = true; at = p + 65 }) l (set (set l place 1) (place + 2) v)
  list_put n v f =
      let k : p + 1 + 64 ≡ p + 65 = omega arith in
      put_took frequencies_run place (taken frequencies s p) l (set (set l place 1) (place + 2) v) (inr v) (p + 65) (rw (← e, ne_eqb b 0 n, ← f, k) refl) (second_none l place 1 v zs)

  module _ (z : b ≡ 0) (n : ℕ) (f : n ≡ field s (p + 1) 8) where
    pub length-low : n < 1 → (r : TakenPart) → r ≡ no_part_taken → (after : List ℕ) → FrequenciesPut s p place r l after
    length-low h r g after = rw g (put_unmet frequencies_run place (taken frequencies s p) l after (rw (← e, eq-eqb b 0 z, ← f, lt-leb 1 n h) refl))

    pub length_high : 8 < n → (r : TakenPart) → r ≡ no_part_taken → (after : List ℕ) → FrequenciesPut s p place r l after
    length_high h r g after =
        rw g (put_unmet frequencies_run place (taken frequencies s p) l after (rw (← e, eq-eqb b 0 z, ← f, le-leb 1 n (omega arith), lt-leb n 8 h) refl))

    pub allocation_put : 1 ≤ n → n ≤ 8 → (o : ℕ) → o ≡ field s (p + 9) (8 * n)
        → FrequenciesPut s p place (record { done = true; at = p + 9 + 8 * n }) l (set (set l (place + 1) n) (place + 2) o)
    allocation_put h m o g =
        let k : p + 1 + 8 ≡ p + 9 = omega arith in
        put_took frequencies_run place (taken frequencies s p) l (set (set l (place + 1) n) (place + 2) o) (inl (n, o)) (p + 9 + 8 * n)
        (rw (← e, eq-eqb b 0 z, ← f, le-leb 1 n h, le-leb n 8 m, k, ← g) refl) (first-none l place n o zs)

-- ## A description

abbrev DescriptionPut : List ℕ → ℕ → ℕ → TakenPart → List ℕ → List ℕ → Type 0
DescriptionPut s p place r before after = (r ≡ part_taken (taken description s p)) × Put described_run place (taken description s p) before after

-- its first 25 bits, d
module _ (s : List ℕ) (p d : ℕ) (e : d ≡ field s p 25) where
  channel-is : d / 2 ≡ field s p 24
  channel-is = omega (arith, e, field-split s p 24 1, field_lt s (p + 24) 1)

  flag_is : d % 2 ≡ field s (p + 24) 1
  flag_is = omega (arith, e, field-split s p 24 1, field_lt s (p + 24) 1)

  module _ (place : ℕ) (l : List ℕ) (zs : Zeros l place) where
    pub hopping-differs : (d / 2 / 4096 % 2 ≡ d % 2 → ⊥) → (r : TakenPart) → r ≡ no_part_taken → (after : List ℕ) → DescriptionPut s p place r l after
    hopping-differs n r g after =
        rw g (put_unmet described_run place (taken description s p) l after (rw (← channel-is, ← flag_is, ne_eqb (d / 2 / 4096 % 2) (d % 2) n) refl))

    module _ (h : d / 2 / 4096 % 2 ≡ d % 2) where
      fixed-run : (c : ℕ) → set (set l place 1) (place + 1) c ≡ stored l place (1 ∷ c ∷ 0 ∷ 0 ∷ 0 ∷ 0 ∷ [])
      unfolding stored
      fixed-run c =
          let x : List ℕ = set (set l place 1) (suc place) c in
          let y : Zeros x (suc (suc place)) =
          zeros-set (set l place 1) (suc (suc place)) (suc place) c (omega arith) (zeros-set l (suc (suc place)) place 1 (omega arith) (zeros-later l place (suc (suc place)) (omega arith) zs)) in
          rw (add-one place) (sym (zeros-run x (suc (suc place)) 4 y))

      pub fixed-put : d % 2 ≡ 0 → DescriptionPut s p place (record { done = true; at = p + 25 }) l (set (set l place 1) (place + 1) (d / 2))
      fixed-put z =
          let k : p + 24 + 1 ≡ p + 25 = omega arith in
          put_took described_run place (taken description s p) l (set (set l place 1) (place + 1) (d / 2)) ((d / 2, 0), none) (p + 25)
          (rw (← channel-is, ← flag_is, eq-eqb (d / 2 / 4096 % 2) (d % 2) h, z, k) refl) (fixed-run (d / 2))

      module _ (n : d % 2 ≡ 0 → ⊥) where
        hops : taken description s p ≡ taken frequencies s (p + 25) on (λ v r. took ((d / 2, 1), some v) r)
        hops =
            let k : p + 24 + 1 ≡ p + 25 = omega arith in
            let o : d % 2 ≡ 1 = omega arith in
            rw (← channel-is, ← flag_is, eq-eqb (d / 2 / 4096 % 2) (d % 2) h, o, k) (changed (taken frequencies s (p + 25)) (λ v. some v) (λ v. ((d / 2, 1), v)))

        hopping-run : (after : List ℕ) (v : (ℕ × ℕ) ⊎ ℕ) → after ≡ stored (set (set (set l place 1) (place + 1) (d / 2)) (place + 2) 1) (place + 3) (frequencies_run v)
            → after ≡ stored l place (described_run ((d / 2, 1), some v))
        unfolding stored
        hopping-run after (inl a) m =
            let k : place + 3 ≡ suc (suc (suc place)) = omega arith in
            rw (add-one place, add-two place, k) at m
        hopping-run after (inr a) m =
            let k : place + 3 ≡ suc (suc (suc place)) = omega arith in
            rw (add-one place, add-two place, k) at m

        pub hops-put : (r : TakenPart) (after : List ℕ)
            → FrequenciesPut s (p + 25) (place + 3) r (set (set (set l place 1) (place + 1) (d / 2)) (place + 2) 1) after → DescriptionPut s p place r l after
        hops-put r after f = rw hops (go (taken frequencies s (p + 25)) f.0 f.1)
          where
            go : (x : Took ((ℕ × ℕ) ⊎ ℕ)) → r ≡ part_taken x → Put frequencies_run (place + 3) x (set (set (set l place 1) (place + 1) (d / 2)) (place + 2) 1) after
                → (r ≡ part_taken {A = DescriptionValue} (x on λ v q. took ((d / 2, 1), some v) q)) × Put described_run place (x on λ v q. took ((d / 2, 1), some v) q) l after
            go unmet g m = let e : r ≡ part_taken {A = DescriptionValue} unmet = g in (e, tt)
            go (took v q) g m = let e : r ≡ part_taken {A = DescriptionValue} (took ((d / 2, 1), some v) q) = g in (e, hopping-run after v m)

-- ## A call

abbrev CallPut : List ℕ → ℕ → ℕ → TakenOne → List ℕ → List ℕ → Type 0
CallPut s p place r before after = (r ≡ call_taken (taken call_grammar s p)) × Put call_run place (taken call_grammar s p) before after

pub head-stored : (l : List ℕ) (i h : ℕ)
    → set (set (set (set (set l i (h / 512)) (i + 1) (h / 256 % 2)) (i + 2) (h / 128 % 2)) (i + 3) (h / 16 % 8)) (i + 4) (h % 16) ≡ stored l i (head_numbers h)
unfolding stored
head-stored l i h =
    let three : i + 3 ≡ suc (suc (suc i)) = omega arith in
    let four : i + 4 ≡ suc (suc (suc (suc i))) = omega arith in
    rw (add-one i, add-two i, three, four) refl

-- the 36 bits, h
module _ (s : List ℕ) (p h : ℕ) (e : h ≡ field s p 36) where
  -- behind the numbers x of the 36 bits
  abbrev from : List ℕ → Took CallValue
  from x = pick (low_reference x) (took x (p + 36)) unmet on λ a q. taken (flagged description) s q on λ d r. took (a, d) r

  head-taken : taken call_grammar s p ≡ from (cuts widths h)
  head-taken = ap from (fields_cut widths s p ∙ ap (cuts widths) (sym e))

  told-from : (d : Option DescriptionValue) → call_from_head h (is_there d) (description_of d) ≡ call_of (cuts widths h, d)
  told-from d = ap (λ (c : CallAt). c.call) (call-told h d 0)

  ciphers : (d : Option DescriptionValue) → leb 1 (h % 16) ≡ leb 1 (call_of (cuts widths h, d)).cipher
  ciphers d = ap (λ (c : Call). leb 1 c.cipher) (told-from d)

  module _ (place : ℕ) (l : List ℕ) where
    pub reference-high : 99999999 < h / 512 → (r : TakenOne) → r ≡ no_one_taken → (after : List ℕ) → CallPut s p place r l after
    reference-high m r g after =
        let k : taken call_grammar s p ≡ unmet = head-taken ∙ rw (lt-leb (h / 512) 99999999 m) refl in
        rw (g, k) (refl, tt)

    -- its numbers are those of the 36 bits, and behind them what is described
    plain_run : (a : List ℕ) → a ≡ stored l place (head_numbers h) → Zeros a (place + 5) → a ≡ stored l place (call_run (cuts widths h, none))
    unfolding stored call_numbers
    plain_run a f zs =
        let five : place + 5 ≡ suc (suc (suc (suc (suc place)))) = omega arith in
        let y : sets a (suc (suc (suc (suc (suc place))))) (0 ∷ 0 ∷ 0 ∷ 0 ∷ 0 ∷ 0 ∷ []) ≡ a = rw five at (zeros-run a (place + 5) 6 zs) in
        let x : a ≡ sets l place (call_numbers (call_from_head h false (description_of none))) =
        rw (bit-back (h / 256 % 2) (omega arith), bit-back (h / 128 % 2) (omega arith))
        (sym y ∙ ap (λ (k : List ℕ). sets k (suc (suc (suc (suc (suc place))))) (0 ∷ 0 ∷ 0 ∷ 0 ∷ 0 ∷ 0 ∷ [])) f) in
        x ∙ ap (λ (c : Call). sets l place (call_numbers c)) (told-from none)

    described-run : (a b : List ℕ) → a ≡ stored l place (head_numbers h) → (v : DescriptionValue) → b ≡ stored a (place + 5) (described_run v)
        → b ≡ stored l place (call_run (cuts widths h, some v))
    unfolding stored call_numbers
    described-run a b f v g =
        let five : place + 5 ≡ suc (suc (suc (suc (suc place)))) = omega arith in
        let x : b ≡ sets l place (call_numbers (call_from_head h true (description_of (some v)))) =
        rw (bit-back (h / 256 % 2) (omega arith), bit-back (h / 128 % 2) (omega arith))
        (g ∙ ap₂ (λ (k : List ℕ) (i : ℕ). sets k i (described_run v)) f five) in
        x ∙ ap (λ (c : Call). sets l place (call_numbers c)) (told-from (some v))

    module _ (m : h / 512 ≤ 99999999) (f : ℕ) (g : f ≡ field s (p + 36) 1) (a : List ℕ) (put : a ≡ stored l place (head_numbers h)) where
      pub plain_put : f ≡ 0 → Zeros a (place + 5) → (q : ℕ) → q ≡ p + 37 → CallPut s p place (record { done = true; ciphered = leb 1 (h % 16); described = false; at = q }) l a
      plain_put z zs q o =
          let n : p + 36 + 1 ≡ q = omega arith in
          let k : taken call_grammar s p ≡ took (cuts widths h, none) q = head-taken ∙ rw (le-leb (h / 512) 99999999 m, ← g, eq-eqb f 0 z, n) refl in
          rw k (ap (λ (c : Bool). record { done = true; ciphered = c; described = false; at = q }) (ciphers none), plain_run a put zs)

      module _ (n : f ≡ 0 → ⊥) (d : TakenPart) (q : ℕ) (o : q ≡ p + 37) (b : List ℕ) (t : DescriptionPut s q (place + 5) d a b) where
        described : taken call_grammar s p ≡ taken description s q on (λ v k. took (cuts widths h, some v) k)
        described =
            let i : p + 36 + 1 ≡ q = omega arith in
            head-taken ∙ rw (le-leb (h / 512) 99999999 m, ← g, ne_eqb f 0 n, i) (changed (taken description s q) (λ v. some v) (λ v. (cuts widths h, v)))

        pub described-unmet : d.done ≡ false → (r : TakenOne) → r ≡ no_one_taken → CallPut s p place r l b
        described-unmet z r w = rw (w, described) (go (taken description s q) t.0)
          where
            go : (x : Took DescriptionValue) → d ≡ part_taken x
                → (no_one_taken ≡ call_taken (x on λ v k. took (cuts widths h, some v) k)) × Put call_run place (x on λ v k. took (cuts widths h, some v) k) l b
            go unmet e = (refl, tt)
            go (took v k) e = absurd (let y : true ≡ false = sym (ap (λ (y : TakenPart). y.done) e) ∙ z in let x : ◌≡◌ {A = ℕ} 0 1 = cc in omega arith)

        pub described_put : d.done ≡ true → CallPut s p place (record { done = true; ciphered = leb 1 (h % 16); described = true; at = d.at }) l b
        described_put z = rw described (go (taken description s q) t.0 t.1)
          where
            go : (x : Took DescriptionValue) → d ≡ part_taken x → Put described_run (place + 5) x a b
                → (record { done = true; ciphered = leb 1 (h % 16); described = true; at = d.at } ≡ call_taken (x on λ v k. took (cuts widths h, some v) k))
                × Put call_run place (x on λ v k. took (cuts widths h, some v) k) l b
            go unmet e w = absurd (let y : false ≡ true = sym (ap (λ (y : TakenPart). y.done) e) ∙ z in let x : ◌≡◌ {A = ℕ} 0 1 = cc in omega arith)
            go (took v k) e w = (
              ap₂ (λ (c : Bool) (i : ℕ). record { done = true; ciphered = c; described = true; at = i }) (ciphers (some v)) (ap (λ (y : TakenPart). y.at) e),
              described-run a b put v w,
            )
