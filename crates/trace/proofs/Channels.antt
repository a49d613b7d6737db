-- A channel and its hopping flag, listed and tested. Assumes nothing.
use mathlib.Core.Path.{◌≡◌, refl, sym, ap, ◌∙◌}
use mathlib.Core.List.{List}
use mathlib.Core.Bool.{true, false}
use Prim.Native.Nat.{ℕ, ◌/◌, ◌%◌, ◌^◌}
use native.Mathlib.Omega.{arith}
use borrow.Author.Tests.{eq-eqb, ne_eqb}
use Rattle.bits.specs.Field.{pick}
use Rattle.csn1.specs.Format.{Res, ok, bad, ◌then◌, ground, num}
use Rattle.csn1.specs.Grammar.{number, ◌and◌, format}
use Rattle.call.specs.Call.{hopping_bit, hopping_flag, agrees, channel}
use Rattle.trace.specs.declared.fields.Trace.{Trace}
use Rattle.trace.specs.declared.fields.Noted.{Noted}
use Rattle.trace.specs.Fields.{one, pair}
use Rattle.trace.specs.Inner.{Bound, stopped, is_ok, number_in, Traced, Noting}
use Rattle.trace.proofs.Tracing.{reads, traced_noted, traced_and, traced_passed, traced_refused}

module _ {j k : ℕ} {s : List ℕ} {t : Trace} {l : List ℕ} {n : Noted} {m : List ℕ} {h : Noted} {o : List ℕ} (b : Bound s t)
    (f : Noting (λ v. v) (number 24) (one j) s t l n m) (g : Noting (λ v. v) (number 1) (one k) s n.trace m h o) where
  both-listed : Traced (number 24 and number 1) (pair (one j) (one k)) s t l h.trace o
  both-listed = traced_and b (traced_noted f) (traced_noted g)

  -- the two numbers that came back are those that were read; and the flag is 0 where not both were
  numbers-read : t.good ≡ true
      → ((a : ℕ × ℕ) (q : ℕ) → (format (number 24 and number 1)).read s t.at ≡ ok a q → (n.value ≡ a.0) × (h.value ≡ a.1))
      × (is_ok ((format (number 24 and number 1)).read s t.at) ≡ false → h.value ≡ 0)
  numbers-read y = go ((num 24).read s t.at) (f.value y) (f.step.on y).good ends
    where
      ends : (a q : ℕ) → (num 24).read s t.at ≡ ok a q → n.trace.at ≡ q
      ends a q e = (f.step.on y).at ∙ reads (number 24) (one j) s t b a q e

      second : (a : ℕ) (x : Res ℕ) → h.value ≡ number_in (λ v. v) x
          → ((v : ℕ × ℕ) (q : ℕ) → x then (λ w p. ok (a, w) p) ≡ ok v q → (a ≡ v.0) × (h.value ≡ v.1)) × (is_ok {A = ℕ × ℕ} (x then λ w p. ok (a, w) p) ≡ false → h.value ≡ 0)
      second a (ok w p) e = (
        λ v q d. let z : (a, w) ≡ v = cc in (ap (λ (u : ℕ × ℕ). u.0) z, e ∙ ap (λ (u : ℕ × ℕ). u.1) z),
        λ d. absurd (let w : ◌≡◌ {A = ℕ} 0 1 = cc in omega arith),
      )
      second a (bad r) e = (λ v q d. absurd (let w : ◌≡◌ {A = ℕ} 0 1 = cc in omega arith), λ d. e)

      go : (x : Res ℕ) → n.value ≡ number_in (λ v. v) x → n.trace.good ≡ is_ok x → ((a q : ℕ) → x ≡ ok a q → n.trace.at ≡ q)
          → ((v : ℕ × ℕ) (q : ℕ) → x then (λ a p. (num 1).read s p then λ w p. ok (a, w) p) ≡ ok v q → (n.value ≡ v.0) × (h.value ≡ v.1))
          × (is_ok {A = ℕ × ℕ} (x then λ a p. (num 1).read s p then λ w p. ok (a, w) p) ≡ false → h.value ≡ 0)
      go (ok a p) e i d =
          let z = second a ((num 1).read s p) (rw (d a p refl) at (g.value i)) in
          (λ v q c. (e ∙ (z.0 v q c).0, (z.0 v q c).1), z.1)
      go (bad r) e i d = (λ v q c. absurd (let w : ◌≡◌ {A = ℕ} 0 1 = cc in omega arith), λ c. g.nothing i)

  pub channel_wrong : (n.value / 2 ^ 12 % 2 ≡ h.value → ⊥) → {u : Trace} → u ≡ stopped h.trace
      → Noting hopping_flag channel (pair (one j) (one k)) s t l (record { trace = u; value = 0 }) o
  channel_wrong e d =
      record {
        step =
            (traced_refused both-listed 5 agrees
            (λ y a q c. ne_eqb (hopping_bit a.0) a.1 (λ w. let z = (numbers-read y).0 a q c in e (ap hopping_bit z.0 ∙ w ∙ sym z.1))) d).step;
        value = λ y. go ((format (number 24 and number 1)).read s t.at) (numbers-read y).0;
        nothing = λ y. refl;
      }
    where
      go : (x : Res (ℕ × ℕ)) → ((a : ℕ × ℕ) (q : ℕ) → x ≡ ok a q → (n.value ≡ a.0) × (h.value ≡ a.1))
          → 0 ≡ number_in hopping_flag (x then λ a q. pick (agrees a) (ok a q) (bad (ground 5)))
      go (ok a q) i = rw (ne_eqb (hopping_bit a.0) a.1 (λ w. let z = i a q refl in e (ap hopping_bit z.0 ∙ w ∙ sym z.1)))
      go (bad r) i = refl

  pub channel-right : n.value / 2 ^ 12 % 2 ≡ h.value → Noting hopping_flag channel (pair (one j) (one k)) s t l (record { trace = h.trace; value = h.value }) o
  channel-right e =
      record {
        step =
            (traced_passed both-listed 5 agrees
            (λ y a q c. let z = (numbers-read y).0 a q c in eq-eqb (hopping_bit a.0) a.1 (sym (ap hopping_bit z.0) ∙ e ∙ z.1))).step;
        value = λ y. go ((format (number 24 and number 1)).read s t.at) (numbers-read y).0 (numbers-read y).1;
        nothing = λ y. g.nothing (f.step.idle y).good;
      }
    where
      go : (x : Res (ℕ × ℕ)) → ((a : ℕ × ℕ) (q : ℕ) → x ≡ ok a q → (n.value ≡ a.0) × (h.value ≡ a.1)) → (is_ok x ≡ false → h.value ≡ 0)
          → h.value ≡ number_in hopping_flag (x then λ a q. pick (agrees a) (ok a q) (bad (ground 5)))
      go (ok a q) i c =
          let z = i a q refl in rw (eq-eqb (hopping_bit a.0) a.1 (sym (ap hopping_bit z.0) ∙ e ∙ z.1)) z.1
      go (bad r) i c = c refl
