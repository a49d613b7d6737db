-- What the reader of a call goes by: from what its fetches found to what the grammar reads. Assumes nothing.
use mathlib.Core.Path.{◌≡◌, refl, sym, ap, ◌∙◌}
use mathlib.Core.List.{List, [], ◌∷◌}
use mathlib.Core.Bool.{true, false}
use mathlib.Core.Option.{Option, none, some}
use mathlib.Core.Logic.{◌⊎◌, inl, inr}
use Prim.Native.Nat.{ℕ, ◌+◌, ◌*◌, ◌/◌, ◌%◌, ◌≤◌, ◌<◌}
use native.Mathlib.Omega.{arith}
use borrow.Author.Tests.{le-leb, lt-leb, eq-eqb, ne_eqb}
use Rattle.bits.specs.Field.{fetched}
use Rattle.bits.specs.declared.Got.TheVariants.{Bits, Short}
use Rattle.csn1.specs.Format.{Res, ok, bad, ◌then◌, ran_out, ground, no_refusal, num, opt}
use Rattle.csn1.specs.Grammar.{format}
use Rattle.csn1.specs.Promises.{Grounded}
use Rattle.csn1.specs.Told.{is_there}
use Rattle.csn1.proofs.Promises.{lawful}
use Rattle.csn1.proofs.Reading.{Halves, halves, found_lt, num-got, num-short, cuts, row-got, row-short, opt-short, opt_none, opt-some, either-short, either_left, either-right}
use Rattle.call.proofs.Numbering.{frequencies-numbered, description-numbered}
use Rattle.call.specs.declared.CallAt.{CallAt}
use Rattle.call.specs.declared.DescriptionAt.{DescriptionAt}
use Rattle.call.specs.declared.FrequenciesAt.{FrequenciesAt}
use Rattle.call.specs.declared.Quick.{Quick}
use Rattle.call.specs.Call.{allocation, frequencies, description, DescriptionValue, CallValue, group_call, description_of}
use Rattle.call.specs.Told.{call_at_of}
use Rattle.call.specs.Inner.{description_at_of, frequencies_at_of, call_from_head, gathered, flat_from, not_quick, Quickly}

-- a value changed twice on its way out is changed once
changed : {A B C : Type 0} (x : Res A) (f : A → B) (g : B → C)
    → x then (λ a q. ok (f a) q) then (λ b q. ok (g b) q) ≡ x then (λ a q. ok (g (f a)) q)
changed (ok a q) f g = refl
changed (bad r) f g = refl

-- ## Frequencies: a Mobile Allocation or a Frequency Short List

-- the branch bit ran out
pub frequencies-short : (s : List ℕ) (p : ℕ) → Short ≡ fetched s p 1 → (format frequencies).read s p ≡ bad (ran_out p)
frequencies-short s p e = either-short (format allocation) (num 64) s p e

-- behind the branch bit b
module _ (s : List ℕ) (p b : ℕ) (e : Bits b ≡ fetched s p 1) where
  pub list-short : (b ≡ 0 → ⊥) → Short ≡ fetched s (p + 1) 64 → (format frequencies).read s p ≡ bad (ran_out (p + 1))
  list-short n g = either-right (format allocation) (num 64) s p b e n ∙ rw (num-short s (p + 1) 64 (omega arith) g)

  pub list_read : (b ≡ 0 → ⊥) → (l : ℕ) → Bits l ≡ fetched s (p + 1) 64 → (format frequencies).read s p ≡ ok (inr l) (p + 65)
  list_read n l g =
      either-right (format allocation) (num 64) s p b e n ∙ rw (num-got s (p + 1) 64 l g) (ap (λ q. ok (inr l) q) (omega arith))

  -- the length octet ran out
  pub length-short : b ≡ 0 → Short ≡ fetched s (p + 1) 8 → (format frequencies).read s p ≡ bad (ran_out (p + 1))
  length-short z g = either_left (format allocation) (num 64) s p b e z ∙ rw (num-short s (p + 1) 8 (omega arith) g)

  -- behind the length octet n
  module _ (z : b ≡ 0) (n : ℕ) (g : Bits n ≡ fetched s (p + 1) 8) where
    pub length-low : n < 1 → (format frequencies).read s p ≡ bad (ground 3)
    length-low l = either_left (format allocation) (num 64) s p b e z ∙ rw (num-got s (p + 1) 8 n g, lt-leb 1 n l)

    pub length_high : 8 < n → (format frequencies).read s p ≡ bad (ground 3)
    length_high l = either_left (format allocation) (num 64) s p b e z ∙ rw (num-got s (p + 1) 8 n g, le-leb 1 n (omega arith), lt-leb n 8 l)

    module _ (l : 1 ≤ n) (h : n ≤ 8) where
      octets-next : (format frequencies).read s p ≡ (num (8 * n)).read s (p + 9) then (λ o q. ok (inl (n, o)) q)
      octets-next =
          let k : p + 1 + 8 ≡ p + 9 = omega arith in
          either_left (format allocation) (num 64) s p b e z ∙ rw (num-got s (p + 1) 8 n g, le-leb 1 n l, le-leb n 8 h, k)
          (changed ((num (8 * n)).read s (p + 9)) (λ o. (n, o)) (λ a. inl a))

      pub octets-short : Short ≡ fetched s (p + 9) (8 * n) → (format frequencies).read s p ≡ bad (ran_out (p + 9))
      octets-short x = octets-next ∙ rw (num-short s (p + 9) (8 * n) (omega arith) x)

      pub octets-read : (o : ℕ) → Bits o ≡ fetched s (p + 9) (8 * n) → (format frequencies).read s p ≡ ok (inl (n, o)) (p + 9 + 8 * n)
      octets-read o x = octets-next ∙ rw (num-got s (p + 9) (8 * n) o x)

-- ## A description

-- the channel's bits ran out
pub description-short : (s : List ℕ) (p : ℕ) → Short ≡ fetched s p 24 → (format description).read s p ≡ bad (ran_out p)
description-short s p e = rw (num-short s p 24 (omega arith) e)

-- behind the channel c
module _ (s : List ℕ) (p c : ℕ) (e : Bits c ≡ fetched s p 24) where
  pub hopping-short : Short ≡ fetched s (p + 24) 1 → (format description).read s p ≡ bad (ran_out (p + 24))
  hopping-short g = rw (num-got s p 24 c e, num-short s (p + 24) 1 (omega arith) g)

  -- behind the hopping flag f
  module _ (f : ℕ) (g : Bits f ≡ fetched s (p + 24) 1) where
    pub hopping-refused : (c / 4096 % 2 ≡ f → ⊥) → (format description).read s p ≡ bad (ground 5)
    hopping-refused n = rw (num-got s p 24 c e, num-got s (p + 24) 1 f g, ne_eqb (c / 4096 % 2) f n)

    pub description_fixed : c / 4096 % 2 ≡ f → f ≡ 0 → (format description).read s p ≡ ok ((c, 0), none) (p + 25)
    description_fixed h z =
        rw (num-got s p 24 c e, num-got s (p + 24) 1 f g, eq-eqb (c / 4096 % 2) f h, z) (ap (λ q. ok ((c, 0), none) q) (omega arith))

    pub description-hops : c / 4096 % 2 ≡ f → (f ≡ 0 → ⊥) → (format description).read s p ≡ (format frequencies).read s (p + 25) then (λ v q. ok ((c, 1), some v) q)
    description-hops h n =
        let k : p + 24 + 1 ≡ p + 25 = omega arith in
        let o : f ≡ 1 = omega (arith, found_lt s (p + 24) 1 f g) in
        rw (num-got s p 24 c e, num-got s (p + 24) 1 f g, eq-eqb (c / 4096 % 2) f h, o, k)
        (changed ((format frequencies).read s (p + 25)) (λ v. some v) (λ v. ((c, 1), v)))

-- a description told from its channel and its frequencies
abbrev pub hopping : ℕ → FrequenciesAt → DescriptionAt
hopping c d =
    record {
      refusal = no_refusal;
      description = record { channel = c; hopping = true; shortlist = d.shortlist; length = d.length; frequencies = d.frequencies };
      at = d.at;
    }

-- a description whose frequencies x were refused, and one that has them
module _ (c : ℕ) (d : FrequenciesAt) where
  pub hops-refused : (x : Res ((ℕ × ℕ) ⊎ ℕ)) → d ≡ frequencies_at_of x → (d.refusal.number ≡ 0 → ⊥)
      → description_at_of (bad d.refusal) ≡ description_at_of (x then λ v q. ok ((c, 1), some v) q)
  hops-refused (bad r) e n = ap (λ (y : FrequenciesAt). description_at_of (bad y.refusal)) e
  hops-refused (ok (inl a) q) e n = absurd (n (ap (λ (y : FrequenciesAt). y.refusal.number) e))
  hops-refused (ok (inr l) q) e n = absurd (n (ap (λ (y : FrequenciesAt). y.refusal.number) e))

  pub hops-told : (x : Res ((ℕ × ℕ) ⊎ ℕ)) → Grounded x → d ≡ frequencies_at_of x → d.refusal.number ≡ 0
      → hopping c d ≡ description_at_of (x then λ v q. ok ((c, 1), some v) q)
  hops-told (bad r) g e z = absurd (omega (arith, ap (λ (y : FrequenciesAt). y.refusal.number) e))
  hops-told (ok (inl a) q) g e z = ap (hopping c) e
  hops-told (ok (inr l) q) g e z = ap (hopping c) e

pub frequencies-grounded : (s : List ℕ) (p : ℕ) → Grounded ((format frequencies).read s p)
frequencies-grounded s p = (lawful frequencies frequencies-numbered).grounds s p

-- ## A call

-- its 36 bits: reference, service flag, acknowledgement flag, priority, cipher key number
abbrev pub widths : List ℕ
widths = 27 ∷ 1 ∷ 1 ∷ 3 ∷ 4 ∷ []

-- the bits of the reference ran out
pub call-short : (s : List ℕ) (p : ℕ) → Short ≡ fetched s p 36 → group_call.read s p ≡ bad (ran_out p)
unfolding group_call
call-short s p e = rw (row-short widths s p (omega arith) e)

-- behind the 36 bits h
module _ (s : List ℕ) (p h : ℕ) (e : Bits h ≡ fetched s p 36) where
  pub reference-refused : 99999999 < h / 512 → group_call.read s p ≡ bad (ground 4)
  unfolding group_call
  reference-refused l = rw (row-got widths s p h e, lt-leb (h / 512) 99999999 l)

  module _ (l : h / 512 ≤ 99999999) where
    head_read : group_call.read s p ≡ (opt (format description)).read s (p + 36) then (λ d q. ok (cuts widths h, d) q)
    unfolding group_call
    head_read = rw (row-got widths s p h e, le-leb (h / 512) 99999999 l)

    pub described-short : Short ≡ fetched s (p + 36) 1 → group_call.read s p ≡ bad (ran_out (p + 36))
    described-short g = head_read ∙ rw (opt-short (format description) s (p + 36) g)

    pub call_plain : (f : ℕ) → Bits f ≡ fetched s (p + 36) 1 → f ≡ 0 → group_call.read s p ≡ ok (cuts widths h, none) (p + 37)
    call_plain f g z = head_read ∙ rw (opt_none (format description) s (p + 36) f g z) (ap (λ q. ok (cuts widths h, none) q) (omega arith))

    pub call-described : (f : ℕ) → Bits f ≡ fetched s (p + 36) 1 → (f ≡ 0 → ⊥)
        → group_call.read s p ≡ (format description).read s (p + 37) then (λ d q. ok (cuts widths h, some d) q)
    call-described f g n =
        let k : p + 36 + 1 ≡ p + 37 = omega arith in
        head_read ∙ rw (opt-some (format description) s (p + 36) f g n, k)
        (changed ((format description).read s (p + 37)) (λ d. some d) (λ d. (cuts widths h, d)))

-- the 36 bits cut into their numbers are the call's
pub call-told : (h : ℕ) (d : Option DescriptionValue) (q : ℕ)
    → record { refusal = no_refusal; call = call_from_head h (is_there d) (description_of d); at = q } ≡ call_at_of (ok (cuts widths h, d) q)
call-told h d q =
    let service : h % 512 / 256 ≡ h / 256 % 2 = omega arith in
    let acknowledgement : h % 512 % 256 / 128 ≡ h / 128 % 2 = omega arith in
    let priority : h % 512 % 256 % 128 / 16 ≡ h / 16 % 8 = omega arith in
    let cipher : h % 512 % 256 % 128 % 16 / 1 ≡ h % 16 = omega arith in
    rw (service, acknowledgement, priority, cipher)

-- a call told from its 36 bits and its description
abbrev pub called : ℕ → DescriptionAt → CallAt
called h d = record { refusal = no_refusal; call = call_from_head h true d.description; at = d.at }

-- a call whose description x was refused, and one that has it
module _ (h : ℕ) (d : DescriptionAt) where
  pub described-refused : (x : Res DescriptionValue) → d ≡ description_at_of x → (d.refusal.number ≡ 0 → ⊥)
      → call_at_of (bad d.refusal) ≡ call_at_of (x then λ v q. ok (cuts widths h, some v) q)
  described-refused (bad r) e n = ap (λ (y : DescriptionAt). call_at_of (bad y.refusal)) e
  described-refused (ok v q) e n = absurd (n (ap (λ (y : DescriptionAt). y.refusal.number) e))

  pub described-told : (x : Res DescriptionValue) → Grounded x → d ≡ description_at_of x → d.refusal.number ≡ 0
      → called h d ≡ call_at_of (x then λ v q. ok (cuts widths h, some v) q)
  described-told (bad r) g e z = absurd (omega (arith, ap (λ (y : DescriptionAt). y.refusal.number) e))
  described-told (ok v q) g e z = ap (called h) e ∙ call-told h (some v) q

pub description-grounded : (s : List ℕ) (p : ℕ) → Grounded ((format description).read s p)
description-grounded s p = (lawful description description-numbered).grounds s p

-- ## A call by one or two fetches

-- the call that a number of 37 bits tells, with a channel
flat_told : (led channel q : ℕ) (d : Option DescriptionValue)
    → description_of d ≡ record { channel = channel; hopping = false; shortlist = false; length = 0; frequencies = 0 }
    → gathered (flat_from led (is_there d) channel q) ≡ call_at_of (ok (cuts widths (led / 2), d) q)
flat_told led channel q d e =
    let reference : led / 1024 ≡ led / 2 / 512 = omega arith in
    let service : led / 512 % 2 ≡ led / 2 / 256 % 2 = omega arith in
    let acknowledgement : led / 256 % 2 ≡ led / 2 / 128 % 2 = omega arith in
    let priority : led / 32 % 8 ≡ led / 2 / 16 % 8 = omega arith in
    rw (reference, service, acknowledgement, priority, ← e) (call-told (led / 2) d q)

-- behind the 36 bits and the flag
module _ (s : List ℕ) (p led : ℕ) (e : Bits led ≡ fetched s p 37) (l : led / 1024 ≤ 99999999) where
  led-parts : Halves s p 36 1 led
  led-parts = halves s p 36 1 led (omega arith) e

  pub plain_told : led % 2 ≡ 0 → gathered (flat_from led false 0 (p + 37)) ≡ call_at_of (group_call.read s p)
  plain_told z =
      flat_told led 0 (p + 37) none refl
      ∙ sym (ap call_at_of (call_plain s p (led / 2) led-parts.first (omega arith) (led % 2) led-parts.second z))

  pub fixed_told : (led % 2 ≡ 0 → ⊥) → (c : ℕ) → Bits c ≡ fetched s (p + 37) 25 → c % 2 ≡ 0 → c / 8192 % 2 ≡ 0
      → gathered (flat_from led true (c / 2) (p + 62)) ≡ call_at_of (group_call.read s p)
  fixed_told n c g z y =
      let h : Halves s (p + 37) 24 1 c = halves s (p + 37) 24 1 c (omega arith) g in
      let q : p + 37 + 25 ≡ p + 62 = omega arith in
      let k : group_call.read s p ≡ ok (cuts widths (led / 2), some ((c / 2, 0), none)) (p + 62) =
      call-described s p (led / 2) led-parts.first (omega arith) (led % 2) led-parts.second n
      ∙ rw (description_fixed s (p + 37) (c / 2) h.first (c % 2) h.second (omega arith) z, q) in
      flat_told led (c / 2) (p + 62) (some ((c / 2, 0), none)) refl ∙ sym (ap call_at_of k)

-- nothing is said of what was not done
pub not_quickly : (q : Quick) (x : Res CallValue) → q ≡ not_quick → Quickly q x
not_quickly q x e =
    record {
      small = omega (arith, ap (λ (y : Quick). y.led) e);
      right = λ d. absurd (let f : q.done ≡ false = ap (λ (y : Quick). y.done) e in let z : ◌≡◌ {A = ℕ} 0 1 = cc in omega arith);
    }
