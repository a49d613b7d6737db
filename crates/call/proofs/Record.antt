-- A call as record and as value: each says the other, and what writers ask of the record is what the grammar asks of the value. Assumes nothing.
use mathlib.Core.Path.{◌≡◌, refl, sym, ap, ap₂}
use mathlib.Core.List.{List, [], ◌∷◌}
use mathlib.Core.Bool.{Bool, true, false, not}
use mathlib.Core.Option.{Option, none, some}
use mathlib.Core.Logic.{inl, inr}
use Prim.Native.Nat.{ℕ, zero, suc, ◌*◌, ◌^◌, ◌≤◌, ◌<◌}
use native.Mathlib.Omega.{arith}
use lib.ListN.{length}
use lib.Dec.{leb, ltb, eqb}
use borrow.Author.Tests.{ltb-true, leb-true, eqb-true, lt-ltb, not-true}
use Rattle.bits.specs.Field.{both, pick}
use Rattle.csn1.specs.Format.{RowFits, OptFits, WhenFits}
use Rattle.csn1.specs.Grammar.{format}
use Rattle.csn1.specs.Told.{is_there, there, is_one, as_bit}
use Rattle.bits.proofs.Answers.{both_true}
use Rattle.csn1.proofs.Writing.{fits-length, bit-back, flag-back, flag_lt, there_back}
use Rattle.call.specs.declared.Call.{Call}
use Rattle.call.specs.declared.Description.{Description}
use Rattle.call.specs.Call.{CallValue, DescriptionValue, group_call, description, frequencies, call_of, call_value}
use Rattle.call.specs.Call.{description_of, description_value, with_frequencies, no_call, no_description, one_to_eight, hopping_bit}
use Rattle.call.specs.Write.{call_in_range, call_is_zero, call_is_low, call_length_right, call_hops_right, frequencies_in_range, description_in_range, description_is_zero, head_in_range}
use Rattle.call.proofs.Laws.{widths, value-size}

-- ## The five numbers of the 36 bits

-- what holds of five numbers within their bits holds of each list that fits
five : (P : List ℕ → Type 0) → ((a b c d e : ℕ) → a < 2 ^ 27 → b < 2 → c < 2 → d < 8 → e < 16 → P (a ∷ b ∷ c ∷ d ∷ e ∷ [])) → (l : List ℕ)
    → RowFits widths l → P l
five P f [] h = absurd h
five P f (a ∷ []) h = absurd h.1
five P f (a ∷ b ∷ []) h = absurd h.1.1
five P f (a ∷ b ∷ c ∷ []) h = absurd h.1.1.1
five P f (a ∷ b ∷ c ∷ d ∷ []) h = absurd h.1.1.1.1
five P f (a ∷ b ∷ c ∷ d ∷ e ∷ []) h = f a b c d e h.0 h.1.0 h.1.1.0 h.1.1.1.0 h.1.1.1.1.0
five P f (a ∷ b ∷ c ∷ d ∷ e ∷ g ∷ l) h = absurd h.1.1.1.1.1

-- ## The three kinds of description

module _ (P : DescriptionValue → Type 0)
    (still : (ch : ℕ) → ch < 2 ^ 24 → eqb (hopping_bit ch) 0 ≡ true → P ((ch, 0), none))
    (over : (ch n f : ℕ) → ch < 2 ^ 24 → eqb (hopping_bit ch) 1 ≡ true → one_to_eight n ≡ true → f < 2 ^ (8 * n) → P ((ch, 1), some (inl (n, f))))
    (short : (ch f : ℕ) → ch < 2 ^ 24 → eqb (hopping_bit ch) 1 ≡ true → f < 2 ^ 64 → P ((ch, 1), some (inr f)))
  where
    -- what holds of each of them holds of each description that fits
    kinds : (d : DescriptionValue) → (format description).fits d → P d
    kinds ((ch, zero), none) h = still ch h.0.0.0 h.0.1
    kinds ((ch, zero), some x) h = absurd h.1
    kinds ((ch, suc zero), none) h = absurd h.1
    kinds ((ch, suc zero), some (inl (n, f))) h = over ch n f h.0.0.0 h.0.1 h.1.0.1 h.1.1
    kinds ((ch, suc zero), some (inr f)) h = short ch f h.0.0.0 h.0.1 h.1
    kinds ((ch, suc (suc b)), x) h = absurd (let l : suc (suc b) < 2 = h.0.0.1 in omega arith)

-- ## What writers ask makes a value that fits

head-fits : (c : Call) → head_in_range c ≡ true → RowFits widths (call_value c).0
head-fits c e =
    let r = both_true (ltb c.reference (2 ^ 27)) (both (ltb c.priority 8) (ltb c.cipher 16)) e in
    let q = both_true (ltb c.priority 8) (ltb c.cipher 16) r.1 in (
      ltb-true c.reference (2 ^ 27) r.0,
      (flag_lt c.vgcs, (flag_lt c.acknowledged, (ltb-true c.priority 8 q.0, (ltb-true c.cipher 16 q.1, tt)))),
    )

pub description-fits : (ch : ℕ) (h s : Bool) (n f : ℕ) → both (ltb ch (2 ^ 24)) (frequencies_in_range h s n f) ≡ true
    → pick (both h (not s)) (one_to_eight n) true ≡ true → eqb (hopping_bit ch) (as_bit h) ≡ true
    → (format description).fits ((ch, as_bit h), there h (pick s (inr f) (inl (n, f))))
description-fits ch h s n f r l e =
    let t = both_true (ltb ch (2 ^ 24)) (frequencies_in_range h s n f) r in
    (((ltb-true ch (2 ^ 24) t.0, flag_lt h), e), behind h s t.1 l)
  where
    behind : (h s : Bool) → frequencies_in_range h s n f ≡ true → pick (both h (not s)) (one_to_eight n) true ≡ true
        → WhenFits (is_one (as_bit h)) (format frequencies) (there h (pick s (inr f) (inl (n, f))))
    behind false s r l = tt
    behind true true r l = ltb-true f (2 ^ 64) (both_true (ltb f (2 ^ 64)) (eqb n 0) r).0
    behind true false r l =
        let k = leb-true n 8 (both_true (leb 1 n) (leb n 8) l).1 in
        ((omega arith, l), ltb-true f (2 ^ (8 * n)) r)

pub call_fits : (c : Call) → call_in_range c ≡ true → call_is_low c ≡ true → call_length_right c ≡ true → call_hops_right c ≡ true → group_call.fits (call_value c)
unfolding group_call call_in_range call_is_low call_length_right call_hops_right
call_fits c r w l h =
    let d : Description = c.description in
    let t = both_true (head_in_range c) (pick c.hasDescription (description_in_range d) (description_is_zero d)) r in
    ((head-fits c t.0, w), part c.hasDescription t.1 l h)
  where
    part : (t : Bool) → pick t (description_in_range c.description) (description_is_zero c.description) ≡ true
        → pick (both t (both c.description.hopping (not c.description.shortlist))) (one_to_eight c.description.length) true ≡ true
        → pick t (eqb (hopping_bit c.description.channel) (as_bit c.description.hopping)) true ≡ true
        → OptFits (format description) (there t (description_value c.description))
    part false r l h = tt
    part true r l h = description-fits c.description.channel c.description.hopping c.description.shortlist c.description.length c.description.frequencies r l h

-- ## From the record to the value and back

zero-back : (ch : ℕ) (h s : Bool) (n f : ℕ) → both (eqb ch 0) (both (not h) (both (not s) (both (eqb n 0) (eqb f 0)))) ≡ true
    → no_description ≡ record { channel = ch; hopping = h; shortlist = s; length = n; frequencies = f }
zero-back ch h s n f e =
    let a = both_true (eqb ch 0) _ e in
    let b = both_true (not h) _ a.1 in
    let c = both_true (not s) _ b.1 in
    let d = both_true (eqb n 0) (eqb f 0) c.1 in
    rw (eqb-true ch 0 a.0, not-true h b.0, not-true s c.0, eqb-true n 0 d.0, eqb-true f 0 d.1)

description-back : (ch : ℕ) (h s : Bool) (n f : ℕ) → frequencies_in_range h s n f ≡ true
    → with_frequencies ch (is_one (as_bit h)) (there h (pick s (inr f) (inl (n, f)))) ≡ record { channel = ch; hopping = h; shortlist = s; length = n; frequencies = f }
description-back ch false s n f e =
    let a = both_true (not s) (both (eqb n 0) (eqb f 0)) e in
    let b = both_true (eqb n 0) (eqb f 0) a.1 in
    rw (not-true s a.0, eqb-true n 0 b.0, eqb-true f 0 b.1)
description-back ch true true n f e = rw (eqb-true n 0 (both_true (ltb f (2 ^ 64)) (eqb n 0) e).1)
description-back ch true false n f e = refl

pub call_back : (c : Call) → call_in_range c ≡ true → call_of (call_value c) ≡ c
unfolding call_in_range
call_back c r =
    rw (
      flag-back c.vgcs,
      flag-back c.acknowledged,
      there_back c.hasDescription (description_value c.description),
      part c.hasDescription (both_true (head_in_range c) (pick c.hasDescription (description_in_range c.description) (description_is_zero c.description)) r).1,
    )
  where
    part : (t : Bool) → pick t (description_in_range c.description) (description_is_zero c.description) ≡ true
        → description_of (there t (description_value c.description)) ≡ c.description
    part false e = zero-back c.description.channel c.description.hopping c.description.shortlist c.description.length c.description.frequencies e
    part true e =
        description-back c.description.channel c.description.hopping c.description.shortlist c.description.length c.description.frequencies
        (both_true (ltb c.description.channel (2 ^ 24)) _ e).1

pub value-back : (v : CallValue) → group_call.fits v → call_value (call_of v) ≡ v
unfolding group_call
value-back (l, o) h = ap₂ (λ (x : List ℕ) (y : Option DescriptionValue). (x, y)) (head l h.0.0) (part o h.1)
  where
    head : (l : List ℕ) → RowFits widths l → (call_value (call_of (l, none))).0 ≡ l
    head = five (λ l. (call_value (call_of (l, none))).0 ≡ l) (λ a b c d e ha hb hc hd he. rw (bit-back b hb, bit-back c hc))

    part : (o : Option DescriptionValue) → OptFits (format description) o → there (is_there o) (description_value (description_of o)) ≡ o
    part none h = refl
    part (some d) h = ap some (kinds (λ d. description_value (description_of (some d)) ≡ d) (λ ch l e. refl) (λ ch n f l e q k. refl) (λ ch f l e k. refl) d h)

-- ## A value that fits passes what writers ask

module _ (v : CallValue) (h : group_call.fits v) where
  pub value-in_range : call_in_range (call_of v) ≡ true
  unfolding group_call call_in_range
  value-in_range = rw (head v.0 h.0.0) (part v.1 h.1)
    where
      head : (l : List ℕ) → RowFits widths l → head_in_range (call_of (l, none)) ≡ true
      head = five (λ l. head_in_range (call_of (l, none)) ≡ true) (λ a b c d e ha hb hc hd he. rw (lt-ltb a (2 ^ 27) ha, lt-ltb d 8 hd, lt-ltb e 16 he))

      part : (o : Option DescriptionValue) → OptFits (format description) o
          → pick (is_there o) (description_in_range (description_of o)) (description_is_zero (description_of o)) ≡ true
      part none h = refl
      part (some d) h =
          kinds (λ d. description_in_range (description_of (some d)) ≡ true) (λ ch l e. rw (lt-ltb ch (2 ^ 24) l))
          (λ ch n f l e q k. rw (lt-ltb ch (2 ^ 24) l) (lt-ltb f (2 ^ (8 * n)) k)) (λ ch f l e k. rw (lt-ltb ch (2 ^ 24) l, lt-ltb f (2 ^ 64) k)) d h

  pub value_low : call_is_low (call_of v) ≡ true
  unfolding group_call call_is_low
  value_low = h.0.1

  pub value-length : call_length_right (call_of v) ≡ true
  unfolding group_call call_length_right
  value-length = part v.1 h.1
    where
      part : (o : Option DescriptionValue) → OptFits (format description) o
          → pick (both (is_there o) (both (description_of o).hopping (not (description_of o).shortlist))) (one_to_eight (description_of o).length) true ≡ true
      part none h = refl
      part (some d) h =
          kinds
          (λ d. pick (both (description_of (some d)).hopping (not (description_of (some d)).shortlist)) (one_to_eight (description_of (some d)).length) true ≡ true)
          (λ ch l e. refl) (λ ch n f l e q k. q) (λ ch f l e k. refl) d h

  pub value-hops : call_hops_right (call_of v) ≡ true
  unfolding group_call call_hops_right
  value-hops = part v.1 h.1
    where
      part : (o : Option DescriptionValue) → OptFits (format description) o
          → pick (is_there o) (eqb (hopping_bit (description_of o).channel) (as_bit (description_of o).hopping)) true ≡ true
      part none h = refl
      part (some d) h =
          kinds (λ d. eqb (hopping_bit (description_of (some d)).channel) (as_bit (description_of (some d)).hopping) ≡ true)
          (λ ch l e. e) (λ ch n f l e q k. e) (λ ch f l e k. e) d h

  -- a call has 37 bits at least
  pub call_long : (n p : ℕ) → 37 ≤ length (group_call.bits n p v)
  unfolding group_call
  call_long n p = omega (arith, value-size n p v (fits-length widths v.0 h.0.0))

-- ## What others ask of a value

pub call-described : (v : CallValue) → (call_of v).hasDescription ≡ is_there v.1
call-described v = refl

-- ## The unused place

pub zero_is : (c : Call) → call_is_zero c ≡ true → c ≡ no_call
unfolding call_is_zero
zero_is c e = all c.reference c.vgcs c.acknowledged c.priority c.cipher c.hasDescription c.description e
  where
    all : (r : ℕ) (v a : Bool) (p k : ℕ) (t : Bool) (d : Description)
        → both (eqb r 0) (both (not v) (both (not a) (both (eqb p 0) (both (eqb k 0) (both (not t) (description_is_zero d)))))) ≡ true
        → record { reference = r; vgcs = v; acknowledged = a; priority = p; cipher = k; hasDescription = t; description = d } ≡ no_call
    all r v a p k t d e =
        let e1 = both_true (eqb r 0) _ e in
        let e2 = both_true (not v) _ e1.1 in
        let e3 = both_true (not a) _ e2.1 in
        let e4 = both_true (eqb p 0) _ e3.1 in
        let e5 = both_true (eqb k 0) _ e4.1 in
        let e6 = both_true (not t) _ e5.1 in
        let z : d ≡ no_description = sym (zero-back d.channel d.hopping d.shortlist d.length d.frequencies e6.1) in
        rw (eqb-true r 0 e1.0, not-true v e2.0, not-true a e3.0, eqb-true p 0 e4.0, eqb-true k 0 e5.0, not-true t e6.0, z)

pub no_call-zero : call_is_zero no_call ≡ true
unfolding call_is_zero
no_call-zero = refl
