-- What a loop over a list's parts goes by. Assumes nothing.
use mathlib.Core.Path.{◌≡◌, refl, sym, ap, ◌∙◌, subst}
use mathlib.Core.List.{List, [], ◌∷◌, ◌++◌}
use mathlib.Core.Bool.{Bool, true, false}
use Prim.Native.Nat.{ℕ, suc, ◌+◌, ◌-◌, ◌*◌, ◌≤◌}
use native.Mathlib.Numerals.{add-one}
use native.Mathlib.Omega.{arith}
use lib.ListN.{length}
use lib.Dec.{eqb}
use borrow.Author.Tests.{eq-eqb, ne_eqb}
use Rattle.bits.specs.Field.{pick}
use Rattle.csn1.specs.Format.{Res, ok, bad, ◌then◌, num, read_items}
use Rattle.csn1.specs.Grammar.{Grammar, number, listed, format}
use Rattle.csn1.proofs.Lawful.{flag-stands}
use Rattle.trace.specs.declared.fields.Trace.{Trace}
use Rattle.trace.specs.declared.fields.Noted.{Noted}
use Rattle.trace.specs.Fields.{Met, Kinds, one, led, one_met, behind, met_items, met_of}
use Rattle.trace.specs.Inner.{Bound, number_in, On, Stepped, Traced, Noting}
use Rattle.trace.proofs.Steps.{ok-map, on_as, on_none, idle-same, stepped_bind}
use Rattle.trace.proofs.Tracing.{reads, forward, flag_is}

module _ {A : Type 0} (f : Grammar A) (j : Kinds) (k : ℕ) (s : List ℕ) where
  -- the list's fields from p on, of n parts at most
  abbrev items : ℕ → ℕ → List Met
  items n p = met_items (format f) (λ q. met_of f j s q) k n s p

  abbrev rest : ℕ → ℕ → Res (List A)
  rest n p = read_items (format f) n s p

  -- at the head of the loop: what lists the parts from here on lists them from the start on
  pub record Going (t : Trace) (l : List ℕ) (u : Trace) (m : List ℕ) : Type 0 where
    pub fuel : ℕ
    pub enough : length s * 8 ≤ fuel + u.at
    pub bound : Bound s u
    pub on : (r : Trace) (o : List ℕ) → Stepped (items (suc fuel) u.at) (rest (suc fuel) u.at) s u m r o → Traced (listed f) (led k j) s t l r o

  pub going_begin : {t : Trace} {l : List ℕ} → Bound s t → Going t l t l
  unfolding met_of
  going_begin b =
      record {
        fuel = length s * 8;
        enough = omega arith;
        bound = b;
        on = λ r o h. record { step = rw (add-one (length s * 8)) h };
      }

  -- a flag was listed
  module _ {u : Trace} {m : List ℕ} {n : Noted} {o : List ℕ} (b : Bound s u) (h : Noting (λ v. v) (number 1) (one k) s u m n o) where
    flagged : Stepped (one_met k 1 s u.at) ((num 1).read s u.at) s u m n.trace o
    unfolding met_of
    flagged = h.step

    items-end : (i : ℕ) → n.value ≡ 0 → Stepped (items (suc i) u.at) (rest (suc i) u.at) s u m n.trace o
    unfolding met_items read_items met_of
    items-end i z =
        stepped_bind (one_met k 1 s u.at) ((num 1).read s u.at) (λ a q. pick (eqb a 0) [] (met_of f j s q ++ behind ((format f).read s q) (λ v p. items i p)))
        (λ a q. pick (eqb a 0) (ok [] q) ((format f).read s q then λ v p. rest i p then λ w p. ok (v ∷ w) p)) s u n.trace n.trace m o o flagged
        (reads (number 1) (one k) s u b)
        (λ x a q e y d. rw (eq-eqb a 0 (sym (flag_is b h x a q e) ∙ z)) (on_none [] q n.trace o y)) (λ y. idle-same n.trace o y) h.step.bound

    items_more : (i : ℕ) (w : Trace) (p : List ℕ) (r : Trace) (g : List ℕ) → (n.value ≡ 0 → ⊥) → Traced f j s n.trace o w p
        → Stepped (items i w.at) (rest i w.at) s w p r g → Stepped (items (suc i) u.at) (rest (suc i) u.at) s u m r g
    unfolding met_items read_items met_of
    items_more i w p r g z c v =
        stepped_bind (one_met k 1 s u.at) ((num 1).read s u.at) (λ a q. pick (eqb a 0) [] (met_of f j s q ++ behind ((format f).read s q) (λ v p. items i p)))
        (λ a q. pick (eqb a 0) (ok [] q) ((format f).read s q then λ v p. rest i p then λ w p. ok (v ∷ w) p)) s u n.trace r m o g flagged
        (reads (number 1) (one k) s u b)
        (λ x a q e y d.
        rw (ne_eqb a 0 (λ w. z (flag_is b h x a q e ∙ w)))
        (subst (λ (q : ℕ). On (met_of f j s q ++ behind ((format f).read s q) (λ v p. items i p)) ((format f).read s q then λ v p. rest i p then λ w p. ok (v ∷ w) p) n.trace o r g) d
        (part.on y)))
        part.idle v.bound
      where
        part : Stepped (met_of f j s n.trace.at ++ behind ((format f).read s n.trace.at) (λ v p. items i p))
            ((format f).read s n.trace.at then λ v p. rest i p then λ w p. ok (v ∷ w) p) s n.trace o r g
        part =
            stepped_bind (met_of f j s n.trace.at) ((format f).read s n.trace.at) (λ v p. items i p) (λ v p. rest i p then λ w p. ok (v ∷ w) p) s n.trace w r o p g
            c.step (reads f j s n.trace h.step.bound)
            (λ x a q e y d.
            on_as (items i q) (rest i q) (rest i q then λ w p. ok (a ∷ w) p) w p r g (ok-map (λ w. a ∷ w) (rest i q))
            (subst (λ (q : ℕ). On (items i q) (rest i q) w p r g) d (v.on y)))
            v.idle v.bound

  module _ {t : Trace} {l : List ℕ} {u : Trace} {m : List ℕ} {n : Noted} {o : List ℕ} (c : Going t l u m) (h : Noting (λ v. v) (number 1) (one k) s u m n o) where
    -- the 0 that closes the list
    pub going_end : n.value ≡ 0 → Traced (listed f) (led k j) s t l n.trace o
    going_end z = c.on n.trace o (items-end c.bound h c.fuel z)

    -- a flag that is not 0 was there
    flag-there : (n.value ≡ 0 → ⊥) → (n.trace.at ≡ u.at + 1) × (u.at + 1 ≤ length s * 8)
    unfolding met_of
    flag-there z = go u.good refl
      where
        read : (x : Res ℕ) → u.good ≡ true → (num 1).read s u.at ≡ x → (n.trace.at ≡ u.at + 1) × (u.at + 1 ≤ length s * 8)
        read (ok a q) y e =
            let v = flag-stands s u.at a q e in
            ((h.step.on y).at ∙ reads (number 1) (one k) s u c.bound a q e ∙ v.next, omega (arith, v.next, v.within))
        read (bad w) y e = absurd (z (h.value y ∙ ap (number_in (λ v. v)) e))

        go : (x : Bool) → u.good ≡ x → (n.trace.at ≡ u.at + 1) × (u.at + 1 ≤ length s * 8)
        go true y = read ((num 1).read s u.at) y refl
        go false y = absurd (z (h.nothing y))

    pub going_less : (n.value ≡ 0 → ⊥) → {w : Trace} {p : List ℕ} → Traced f j s n.trace o w p → (u.at + 1 ≤ w.at) × (w.at ≤ length s * 8)
    going_less z i =
        (omega (arith, (flag-there z).0, forward h.step.bound i), i.step.bound.within)

    -- a part behind its flag
    pub going_more : (n.value ≡ 0 → ⊥) → {w : Trace} {p : List ℕ} → Traced f j s n.trace o w p → Going t l w p
    going_more z {w} {p} i =
        let y = (flag-there z).1 in
        let d : c.fuel ≡ suc (c.fuel - 1) = omega (arith, c.enough) in
        record {
          fuel = c.fuel - 1;
          enough = omega (arith, c.enough, (going_less z i).0);
          bound = i.step.bound;
          on =
              λ r g v.
              c.on r g
              (items_more c.bound h c.fuel w p r g z i
              (subst (λ (x : ℕ). Stepped (items x w.at) (rest x w.at) s w p r g) (sym d) v));
        }
