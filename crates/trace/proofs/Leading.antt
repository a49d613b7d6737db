-- What leads a later release, listed: from what the bit's reader left to what is said of the lead. Assumes nothing.
use mathlib.Core.Path.{◌≡◌, refl, sym, ◌∙◌}
use mathlib.Core.List.{List}
use mathlib.Core.Bool.{Bool, true, false, not}
use Prim.Native.Nat.{ℕ, ◌*◌}
use native.Mathlib.Omega.{arith}
use lib.ListN.{length}
use lib.Dec.{eqb}
use borrow.Author.Tests.{eq-eqb, ne_eqb}
use Rattle.csn1.specs.Format.{Res, ok, bad, ◌then◌, num, pad_bit}
use Rattle.csn1.specs.Grammar.{number}
use Rattle.csn1.specs.Told.{as_bit, lead}
use Rattle.trace.specs.declared.fields.Trace.{Trace}
use Rattle.trace.specs.declared.fields.Noted.{Noted}
use Rattle.trace.specs.Fields.{one, one_met, met_of}
use Rattle.trace.specs.Inner.{Bound, is_ok, number_in, Noting, Leading}
use Rattle.trace.proofs.Steps.{ok-map, stepped_as, on_none, idle-same}

never : {A : Type 0} (b : Bool) → b ≡ true → b ≡ false → A
never b f g = absurd (let z : true ≡ false = sym f ∙ g in let w : ◌≡◌ {A = ℕ} 0 1 = cc in omega arith)

-- all bits are used
pub leading_used : {k : ℕ} {s : List ℕ} {t : Trace} {l : List ℕ} → Bound s t → t.at ≡ length s * 8 → Leading k s t l (record { trace = t; value = 0 }) l
unfolding lead
leading_used {s = s} {t = t} {l = l} b e =
    let d : eqb t.at (length s * 8) ≡ true = eq-eqb t.at (length s * 8) e in
    record {
      step = rw d (record { on = λ y. on_none false t.at t l y; idle = λ y. idle-same t l y; bound = b });
      value = λ y. rw d;
      nothing = λ y. refl;
    }

module _ {k : ℕ} {s : List ℕ} {t : Trace} {l : List ℕ} {n : Noted} {m : List ℕ} (h : Noting (λ v. v) (number 1) (one k) s t l n m) (f : t.at ≡ length s * 8 → ⊥) where
  abbrev high : Res ℕ → Res Bool
  high x = x then λ b q. ok (not (eqb b (pad_bit t.at))) q

  left : eqb t.at (length s * 8) ≡ false
  left = ne_eqb t.at (length s * 8) f

  led : (v : ℕ) → (t.good ≡ true → v ≡ number_in as_bit (high ((num 1).read s t.at))) → (t.good ≡ false → v ≡ 0) → Leading k s t l (record { trace = n.trace; value = v }) m
  unfolding lead met_of
  led v x y =
      record {
        step =
            rw left
            (stepped_as (one_met k 1 s t.at) ((num 1).read s t.at) (high ((num 1).read s t.at)) s t l n.trace m
            (ok-map (λ b. not (eqb b (pad_bit t.at))) ((num 1).read s t.at)) h.step);
        value = λ g. rw left (x g);
        nothing = y;
      }

  -- the bit is not there, or reading had ended
  pub leading_stopped : n.trace.good ≡ false → Leading k s t l (record { trace = n.trace; value = 0 }) m
  leading_stopped e = led 0 (λ g. go ((num 1).read s t.at) (sym (h.step.on g).good ∙ e)) (λ g. refl)
    where
      go : (x : Res ℕ) → is_ok x ≡ false → 0 ≡ number_in as_bit (high x)
      go (ok a q) o = never true refl o
      go (bad r) o = refl

  module _ (y : n.trace.good ≡ true) where
    going : t.good ≡ false → ⊥
    going g = never n.trace.good y (h.step.idle g).good

    pub leading_low : n.value ≡ pad_bit t.at → Leading k s t l (record { trace = n.trace; value = 0 }) m
    leading_low e = led 0 (λ g. go ((num 1).read s t.at) (sym e ∙ h.value g)) (λ g. refl)
      where
        go : (x : Res ℕ) → pad_bit t.at ≡ number_in (λ v. v) x → 0 ≡ number_in as_bit (high x)
        go (ok a q) o = rw (eq-eqb a (pad_bit t.at) (sym o))
        go (bad r) o = refl

    pub leading_high : (n.value ≡ pad_bit t.at → ⊥) → Leading k s t l (record { trace = n.trace; value = 1 }) m
    leading_high e = led 1 (λ g. go ((num 1).read s t.at) (h.value g) (sym (h.step.on g).good ∙ y)) (λ g. absurd (going g))
      where
        go : (x : Res ℕ) → n.value ≡ number_in (λ v. v) x → is_ok x ≡ true → 1 ≡ number_in as_bit (high x)
        go (ok a q) o i = rw (ne_eqb a (pad_bit t.at) (λ w. e (o ∙ w)))
        go (bad r) o i = never false i refl
