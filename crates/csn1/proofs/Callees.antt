-- What a caller goes by: from the struct that `read_flagged` or `read_lead` gave back to what the format reads. Assumes nothing.
use mathlib.Core.Path.{◌≡◌, refl, sym, ap, ◌∙◌}
use mathlib.Core.List.{List}
use mathlib.Core.Bool.{Bool, true, false, not}
use mathlib.Core.Option.{Option, none, some}
use Prim.Native.Nat.{ℕ, ◌+◌, ◌*◌, ◌^◌, ◌≤◌, ◌<◌}
use native.Mathlib.Omega.{arith}
use lib.ListN.{length}
use lib.Dec.{leb, eqb}
use lib.Pow.{pow_pos}
use borrow.Author.Tests.{leb-true}
use Rattle.bits.specs.Field.{field, pick}
use Rattle.csn1.specs.declared.Flagged.{Flagged}
use Rattle.csn1.specs.declared.Lead.{Lead}
use Rattle.csn1.specs.Format.{Res, ok, bad, ◌then◌, ran_out, Format, num, opt_bits, OptFits, opt, release, pad_bit}
use Rattle.csn1.specs.Promises.{Grounded}
use Rattle.csn1.specs.Told.{is_there, or_zero, flagged_at, flagged_of, lead, lead_at, lead_of}
use Rattle.csn1.proofs.Lawful.{num-lawful, opt_lawful}
use Rattle.csn1.proofs.Reading.{flagged-at, lead-at, release-led}

-- ## A number led by a flag

-- what was read is in the struct
pub record Flag (r : Flagged) (x : Res (Option ℕ)) : Type 0 where
  pub number : Option ℕ
  pub is : x ≡ ok number r.at
  pub there : r.hasValue ≡ is_there number
  pub value : r.value ≡ or_zero number

pub flagged-ok : (r : Flagged) (x : Res (Option ℕ)) → r ≡ flagged_of x → Grounded x → r.refusal.number ≡ 0 → Flag r x
flagged-ok r (ok v q) e g z =
    record {
      number = v;
      is = ap (λ (n : ℕ). ok v n) (sym (ap (λ (f : Flagged). f.at) e));
      there = ap (λ (f : Flagged). f.hasValue) e;
      value = ap (λ (f : Flagged). f.value) e;
    }
flagged-ok r (bad w) e g z = absurd (let n : r.refusal.number ≡ w.number = ap (λ (f : Flagged). f.refusal.number) e in omega arith)

pub flagged-bad : (r : Flagged) (x : Res (Option ℕ)) → r ≡ flagged_of x → (r.refusal.number ≡ 0 → ⊥) → x ≡ bad r.refusal
flagged-bad r (ok v q) e n = absurd (n (ap (λ (f : Flagged). f.refusal.number) e))
flagged-bad r (bad w) e n = ap bad (sym (ap (λ (f : Flagged). f.refusal) e))

-- a number of w bits led by a flag: where its place is, and how large it can be
pub record Reached (s : List ℕ) (p w : ℕ) (v : Option ℕ) (q : ℕ) : Type 0 where
  pub past : p + 1 ≤ q
  pub within : q ≤ length s * 8
  pub small : or_zero v < 2 ^ w

pub flagged_reached : (s : List ℕ) (p w : ℕ) (v : Option ℕ) (q : ℕ) → (opt (num w)).read s p ≡ ok v q → Reached s p w v q
flagged_reached s p w v q e =
    let b = begun (leb (p + 1) (length s * 8)) refl e in
    let u = (opt_lawful (num w) (num-lawful w)).stands s p v q (omega arith) e in
    let l = long v in
    record { past = omega (arith, u.next); within = u.within; small = fit v u.fitting }
  where
    begun : (t : Bool) → leb (p + 1) (length s * 8) ≡ t
        → pick t (ok (field s p 1) (p + 1)) (bad (ran_out p)) then (λ f m. pick (eqb f 0) (ok none m) ((num w).read s m then λ a r. ok (some a) r)) ≡ ok v q
        → p + 1 ≤ length s * 8
    begun true l e = leb-true (p + 1) (length s * 8) l
    begun false l e = absurd (let z : ◌≡◌ {A = ℕ} 0 1 = cc in omega arith)

    long : (v : Option ℕ) → 1 ≤ length (opt_bits (num w) (length s * 8) p v)
    long none = omega arith
    long (some a) = omega arith

    fit : (v : Option ℕ) → OptFits (num w) v → or_zero v < 2 ^ w
    fit none f = pow_pos w
    fit (some a) f = f

-- `read_flagged` was called
module _ (s : List ℕ) (p w : ℕ) (h : w ≤ 64) (l : length s ≤ 4096) (r : Flagged) (e : r ≡ flagged_of (flagged_at s p w)) where
  pub flagged-read : r.refusal.number ≡ 0 → Flag r ((opt (num w)).read s p)
  flagged-read z =
      flagged-ok r ((opt (num w)).read s p) (e ∙ ap flagged_of (flagged-at s p w h l)) ((opt_lawful (num w) (num-lawful w)).grounds s p) z

  pub flagged-refused : (r.refusal.number ≡ 0 → ⊥) → (opt (num w)).read s p ≡ bad r.refusal
  flagged-refused n = flagged-bad r ((opt (num w)).read s p) (e ∙ ap flagged_of (flagged-at s p w h l)) n

-- ## What leads a later release's part

pub lead-ok : (r : Lead) (x : Res Bool) → r ≡ lead_of x → Grounded x → r.refusal.number ≡ 0 → x ≡ ok r.high r.at
lead-ok r (ok b q) e g z = sym (ap (λ (f : Lead). ok f.high f.at) e)
lead-ok r (bad w) e g z = absurd (let n : r.refusal.number ≡ w.number = ap (λ (f : Lead). f.refusal.number) e in omega arith)

pub lead-bad : (r : Lead) (x : Res Bool) → r ≡ lead_of x → (r.refusal.number ≡ 0 → ⊥) → x ≡ bad r.refusal
lead-bad r (ok b q) e n = absurd (n (ap (λ (f : Lead). f.refusal.number) e))
lead-bad r (bad w) e n = ap bad (sym (ap (λ (f : Lead). f.refusal) e))

lead-grounds : (s : List ℕ) (p : ℕ) → Grounded (lead s p)
unfolding lead
lead-grounds s p = go (eqb p (length s * 8)) ((num 1).read s p) ((num-lawful 1).grounds s p)
  where
    go : (t : Bool) (x : Res ℕ) → Grounded x → Grounded (pick t (ok false p) (x then λ b q. ok (not (eqb b (pad_bit p))) q))
    go true x g = tt
    go false (ok b q) g = tt
    go false (bad w) g = g

-- `read_lead` was called before a release's part F
module _ {A : Type 0} (F : Format A) (s : List ℕ) (p : ℕ) (l : length s ≤ 4096) (r : Lead) (e : r ≡ lead_of (lead_at s p)) where
  led : r ≡ lead_of (lead s p)
  led = e ∙ ap lead_of (lead-at s p l)

  lead-read : r.refusal.number ≡ 0 → (release F).read s p ≡ pick r.high (F.read s r.at then λ a q. ok (some a) q) (ok none r.at)
  lead-read z =
      release-led F s p
      ∙ ap (λ (x : Res Bool). x then λ h q. pick h (F.read s q then λ a t. ok (some a) t) (ok none q)) (lead-ok r (lead s p) led (lead-grounds s p) z)

  pub release-refused : (r.refusal.number ≡ 0 → ⊥) → (release F).read s p ≡ bad r.refusal
  release-refused n =
      release-led F s p
      ∙ ap (λ (x : Res Bool). x then λ h q. pick h (F.read s q then λ a t. ok (some a) t) (ok none q)) (lead-bad r (lead s p) led n)

  pub release-absent : r.refusal.number ≡ 0 → r.high ≡ false → (release F).read s p ≡ ok none r.at
  release-absent z h = lead-read z ∙ rw h

  pub release-there : r.refusal.number ≡ 0 → r.high ≡ true → (release F).read s p ≡ F.read s r.at then λ a q. ok (some a) q
  release-there z h = lead-read z ∙ rw h
