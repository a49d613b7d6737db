-- What the taker of a call goes by: from what its parts say to what the grammar takes. Assumes nothing.
use mathlib.Core.Path.{◌≡◌, refl, sym, ap, ◌∙◌}
use mathlib.Core.List.{List}
use mathlib.Core.Bool.{Bool, true, false, not}
use mathlib.Core.Option.{Option, none, some}
use mathlib.Core.Logic.{◌⊎◌, inl, inr}
use Prim.Native.Nat.{ℕ, ◌+◌, ◌*◌, ◌/◌, ◌%◌, ◌≤◌, ◌<◌}
use native.Mathlib.Omega.{arith}
use lib.ListN.{length}
use lib.Dec.{leb}
use borrow.Author.Tests.{leb-true, le-leb, lt-leb, eq-eqb, ne_eqb}
use Rattle.bits.specs.Field.{field, both, pick}
use Rattle.bits.proofs.Laws.{field_lt}
use Rattle.csn1.specs.Grammar.{flagged}
use Rattle.csn1.specs.Told.{is_there}
use Rattle.csn1.proofs.Reading.{cuts, fields_cut}
use Rattle.call.specs.declared.Call.{Call}
use Rattle.call.specs.declared.CallAt.{CallAt}
use Rattle.call.specs.Call.{frequencies, description, DescriptionValue, CallValue, call_grammar, call_of, description_of, no_description, low_reference}
use Rattle.call.specs.Inner.{call_from_head}
use Rattle.call.proofs.Reading.{widths, call-told}
use Rattle.words.specs.declared.TakenFrequencies.{TakenFrequencies}
use Rattle.words.specs.declared.TakenDescription.{TakenDescription}
use Rattle.words.specs.declared.TakenCall.{TakenCall}
use Rattle.words.specs.Unasked.{Took, took, unmet, ◌on◌, taken}
use Rattle.words.specs.Taking.{none_taken, taken_of, taken_at}
use Rattle.words.specs.Inner.{no_frequencies_taken, frequencies_taken, no_description_taken, description_taken}

-- a value changed twice on its way out is changed once
changed : {A B C : Type 0} (x : Took A) (f : A → B) (g : B → C)
    → x on (λ a q. took (f a) q) on (λ b q. took (g b) q) ≡ x on (λ a q. took (g (f a)) q)
changed (took a q) f g = refl
changed unmet f g = refl

-- a test of what is not
pub was_false : (b : Bool) → not b ≡ true → b ≡ false
was_false true e = sym e
was_false false e = refl

pub was_true : (b : Bool) → not b ≡ false → b ≡ true
was_true true e = refl
was_true false e = sym e

-- ## Frequencies

module _ (s : List ℕ) (p b : ℕ) (e : b ≡ field s p 1) where
  pub list-taken : (b ≡ 0 → ⊥) → (l : ℕ) → l ≡ field s (p + 1) 64
      → record { done = true; shortlist = true; length = 0; frequencies = l; at = p + 65 } ≡ frequencies_taken (taken frequencies s p)
  list-taken n l f =
      let k : p + 1 + 64 ≡ p + 65 = omega arith in
      rw (← e, ne_eqb b 0 n, ← f, k) refl

  module _ (z : b ≡ 0) (n : ℕ) (f : n ≡ field s (p + 1) 8) where
    pub length-low : n < 1 → no_frequencies_taken ≡ frequencies_taken (taken frequencies s p)
    length-low l = rw (← e, eq-eqb b 0 z, ← f, lt-leb 1 n l) refl

    pub length_high : 8 < n → no_frequencies_taken ≡ frequencies_taken (taken frequencies s p)
    length_high l = rw (← e, eq-eqb b 0 z, ← f, le-leb 1 n (omega arith), lt-leb n 8 l) refl

    pub allocation-taken : 1 ≤ n → n ≤ 8 → (o : ℕ) → o ≡ field s (p + 9) (8 * n)
        → record { done = true; shortlist = false; length = n; frequencies = o; at = p + 9 + 8 * n } ≡ frequencies_taken (taken frequencies s p)
    allocation-taken l h o g =
        let k : p + 1 + 8 ≡ p + 9 = omega arith in
        rw (← e, eq-eqb b 0 z, ← f, le-leb 1 n l, le-leb n 8 h, k, ← g) refl

-- ## A description

module _ (s : List ℕ) (p c f : ℕ) (e : c ≡ field s p 24) (g : f ≡ field s (p + 24) 1) where
  pub hopping-differs : (c / 4096 % 2 ≡ f → ⊥) → no_description_taken ≡ description_taken (taken description s p)
  hopping-differs n = rw (← e, ← g, ne_eqb (c / 4096 % 2) f n) refl

  pub fixed_taken : c / 4096 % 2 ≡ f → f ≡ 0
      → record { done = true; description = record { channel = c; hopping = false; shortlist = false; length = 0; frequencies = 0 }; at = p + 25 }
      ≡ description_taken (taken description s p)
  fixed_taken h z =
      let k : p + 24 + 1 ≡ p + 25 = omega arith in
      rw (← e, ← g, eq-eqb (c / 4096 % 2) f h, z, k) refl

  module _ (h : c / 4096 % 2 ≡ f) (n : f ≡ 0 → ⊥) (d : TakenFrequencies) (t : d ≡ frequencies_taken (taken frequencies s (p + 25))) where
    hops : taken description s p ≡ taken frequencies s (p + 25) on (λ v r. took ((c, 1), some v) r)
    hops =
        let k : p + 24 + 1 ≡ p + 25 = omega arith in
        let o : f ≡ 1 = omega (arith, field_lt s (p + 24) 1) in
        rw (← e, ← g, eq-eqb (c / 4096 % 2) f h, o, k) (changed (taken frequencies s (p + 25)) (λ v. some v) (λ v. ((c, 1), v)))

    pub hops-unmet : d.done ≡ false → no_description_taken ≡ description_taken (taken description s p)
    hops-unmet z = go (taken frequencies s (p + 25)) t ∙ sym (ap description_taken hops)
      where
        go : (x : Took ((ℕ × ℕ) ⊎ ℕ)) → d ≡ frequencies_taken x → no_description_taken ≡ description_taken (x on λ v r. took ((c, 1), some v) r)
        go unmet t = refl
        go (took (inl a) r) t = absurd (let y : true ≡ false = sym (ap (λ (y : TakenFrequencies). y.done) t) ∙ z in let x : ◌≡◌ {A = ℕ} 0 1 = cc in omega arith)
        go (took (inr l) r) t = absurd (let y : true ≡ false = sym (ap (λ (y : TakenFrequencies). y.done) t) ∙ z in let x : ◌≡◌ {A = ℕ} 0 1 = cc in omega arith)

    abbrev hopping : TakenFrequencies → TakenDescription
    hopping d =
        record {
          done = true;
          description = record { channel = c; hopping = true; shortlist = d.shortlist; length = d.length; frequencies = d.frequencies };
          at = d.at;
        }

    pub hops-taken : d.done ≡ true → hopping d ≡ description_taken (taken description s p)
    hops-taken z = go (taken frequencies s (p + 25)) t ∙ sym (ap description_taken hops)
      where
        go : (x : Took ((ℕ × ℕ) ⊎ ℕ)) → d ≡ frequencies_taken x → hopping d ≡ description_taken (x on λ v r. took ((c, 1), some v) r)
        go unmet t = absurd (let y : false ≡ true = sym (ap (λ (y : TakenFrequencies). y.done) t) ∙ z in let x : ◌≡◌ {A = ℕ} 0 1 = cc in omega arith)
        go (took (inl a) r) t = ap hopping t
        go (took (inr l) r) t = ap hopping t

-- ## A call

module _ (s : List ℕ) (p : ℕ) where
  -- behind the numbers x of the 36 bits
  abbrev from : List ℕ → Took CallValue
  from x = pick (low_reference x) (took x (p + 36)) unmet on λ a q. taken (flagged description) s q on λ d r. took (a, d) r

  module _ (h : ℕ) (e : h ≡ field s p 36) where
    head-taken : taken call_grammar s p ≡ from (cuts widths h)
    head-taken = ap from (fields_cut widths s p ∙ ap (cuts widths) (sym e))

    pub reference-high : 99999999 < h / 512 → none_taken ≡ taken_of s (taken call_grammar s p)
    reference-high l =
        let k : taken call_grammar s p ≡ unmet = head-taken ∙ rw (lt-leb (h / 512) 99999999 l) refl in
        sym (ap (taken_of s) k)

    -- the call that the 36 bits and a description tell
    told-from : (d : Option DescriptionValue) → call_from_head h (is_there d) (description_of d) ≡ call_of (cuts widths h, d)
    told-from d = ap (λ (c : CallAt). c.call) (call-told h d 0)

    module _ (l : h / 512 ≤ 99999999) (f : ℕ) (g : f ≡ field s (p + 36) 1) where
      pub plain-taken : f ≡ 0 → (c : Call) → c ≡ call_from_head h false no_description → (x : ℕ) → x ≡ field s (p + 37) 64
          → record { done = true; call = c; at = p + 37; next = x } ≡ taken_of s (taken call_grammar s p)
      plain-taken z c i x j =
          let n : p + 36 + 1 ≡ p + 37 = omega arith in
          let k : taken call_grammar s p ≡ took (cuts widths h, none) (p + 37) = head-taken ∙ rw (le-leb (h / 512) 99999999 l, ← g, eq-eqb f 0 z, n) refl in
          rw (i ∙ told-from none, j) (sym (ap (taken_of s) k))

      module _ (n : f ≡ 0 → ⊥) (d : TakenDescription) (t : d ≡ description_taken (taken description s (p + 37))) where
        described : taken call_grammar s p ≡ taken description s (p + 37) on (λ v q. took (cuts widths h, some v) q)
        described =
            let m : p + 36 + 1 ≡ p + 37 = omega arith in
            head-taken ∙ rw (le-leb (h / 512) 99999999 l, ← g, ne_eqb f 0 n, m) (changed (taken description s (p + 37)) (λ v. some v) (λ v. (cuts widths h, v)))

        pub described-unmet : d.done ≡ false → none_taken ≡ taken_of s (taken call_grammar s p)
        described-unmet z = go (taken description s (p + 37)) t ∙ sym (ap (taken_of s) described)
          where
            go : (x : Took DescriptionValue) → d ≡ description_taken x → none_taken ≡ taken_of s (x on λ v q. took (cuts widths h, some v) q)
            go unmet t = refl
            go (took v q) t = absurd (let y : true ≡ false = sym (ap (λ (y : TakenDescription). y.done) t) ∙ z in let x : ◌≡◌ {A = ℕ} 0 1 = cc in omega arith)

        pub described-taken : d.done ≡ true → (c : Call) → c ≡ call_from_head h true d.description → (x : ℕ) → x ≡ field s d.at 64
            → record { done = true; call = c; at = d.at; next = x } ≡ taken_of s (taken call_grammar s p)
        described-taken z c i x j = rw (i, j) (go (taken description s (p + 37)) t ∙ sym (ap (taken_of s) described))
          where
            go : (y : Took DescriptionValue) → d ≡ description_taken y
                → record { done = true; call = call_from_head h true d.description; at = d.at; next = field s d.at 64 } ≡ taken_of s (y on λ v q. took (cuts widths h, some v) q)
            go unmet t = absurd (let y : false ≡ true = sym (ap (λ (y : TakenDescription). y.done) t) ∙ z in let x : ◌≡◌ {A = ℕ} 0 1 = cc in omega arith)
            go (took v q) t =
                ap (λ (y : TakenDescription). record { done = true; call = call_from_head h true y.description; at = y.at; next = field s y.at 64 }) t
                ∙ ap (λ (c : Call). record { done = true; call = c; at = q; next = field s q 64 }) (told-from (some v))

-- ## Octets and places, in words and not

pub too_short : (s : List ℕ) (p : ℕ) → length s < 9 → none_taken ≡ taken_at s p
too_short s p h = rw (lt-leb 9 (length s) h) refl

pub too_long : (s : List ℕ) (p : ℕ) → 24 < length s → none_taken ≡ taken_at s p
too_long s p h = rw (le-leb 9 (length s) (omega arith), lt-leb (length s) 24 h) refl

module _ (s : List ℕ) (p : ℕ) (h : 9 ≤ length s) (l : length s ≤ 24) where
  pub too_far : 192 < p → none_taken ≡ taken_at s p
  too_far m = rw (le-leb 9 (length s) h, le-leb (length s) 24 l, lt-leb p 192 m) refl

  pub in_words : p ≤ 192 → taken_of s (taken call_grammar s p) ≡ taken_at s p
  in_words m = rw (le-leb 9 (length s) h, le-leb (length s) 24 l, le-leb p 192 m) refl

-- what was done says
pub record Done (s : List ℕ) (p : ℕ) (c : TakenCall) : Type 0 where
  pub long : 9 ≤ length s
  pub value : CallValue
  pub is : taken call_grammar s p ≡ took value c.at
  pub told : c.call ≡ call_of value
  pub next : c.next ≡ field s c.at 64

pub done-says : (s : List ℕ) (p : ℕ) (c : TakenCall) → c ≡ taken_at s p → c.done ≡ true → Done s p c
done-says s p c e d = go (leb 9 (length s)) (leb (length s) 24) (leb p 192) refl e
  where
    none_done : c ≡ none_taken → Done s p c
    none_done e = absurd (let y : false ≡ true = sym (ap (λ (x : TakenCall). x.done) e) ∙ d in let z : ◌≡◌ {A = ℕ} 0 1 = cc in omega arith)

    some-done : 9 ≤ length s → (x : Took CallValue) → taken call_grammar s p ≡ x → c ≡ taken_of s x → Done s p c
    some-done l unmet f e = none_done e
    some-done l (took v q) f e =
        let at : c.at ≡ q = ap (λ (x : TakenCall). x.at) e in
        record {
          long = l;
          value = v;
          is = f ∙ ap (λ z. took v z) (sym at);
          told = ap (λ (x : TakenCall). x.call) e;
          next = ap (λ (x : TakenCall). x.next) e ∙ ap (λ z. field s z 64) (sym at);
        }

    go : (t u v : Bool) → leb 9 (length s) ≡ t → c ≡ pick (both t (both u v)) (taken_of s (taken call_grammar s p)) none_taken → Done s p c
    go false u v k e = none_done e
    go true false v k e = none_done e
    go true true false k e = none_done e
    go true true true k e = some-done (leb-true 9 (length s) k) (taken call_grammar s p) refl e
