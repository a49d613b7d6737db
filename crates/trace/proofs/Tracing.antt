-- A law for each way to make a grammar: what its parts left is what it leaves. Assumes nothing.
use mathlib.Core.Path.{◌≡◌, refl, sym, ap, ◌∙◌, subst}
use mathlib.Core.List.{List, []}
use mathlib.Core.Bool.{Bool, true, false}
use mathlib.Core.Option.{none, some}
use mathlib.Core.Logic.{inl, inr}
use Prim.Native.Nat.{ℕ, ◌+◌, ◌*◌, ◌≤◌, ◌<◌}
use native.Mathlib.Omega.{arith}
use lib.ListN.{length}
use lib.Dec.{leb, eqb}
use borrow.Author.Tests.{le-leb, lt-leb, eq-eqb, ne_eqb}
use Rattle.bits.specs.Field.{field, both, pick}
use Rattle.csn1.specs.Format.{Res, ok, bad, ◌then◌, ground, num, pad_bit}
use Rattle.csn1.specs.Grammar.{Grammar, number, low-high, ◌and◌, ◌then_by◌, flagged, later, one_of, only_if, refuse, inside, format, Numbered}
use Rattle.csn1.specs.Told.{is_one, as_bit, lead}
use Rattle.csn1.proofs.Reading.{release-led}
use Rattle.trace.specs.declared.fields.Trace.{Trace}
use Rattle.trace.specs.declared.fields.Noted.{Noted}
use Rattle.trace.specs.Fields.{Kinds, one, pair, led, choice, met_at, one_met, lead_met, met_of, put_met, listing}
use Rattle.trace.specs.Promises.{end_of}
use Rattle.trace.specs.Inner.{Bound, stopped, is_ok, number_in, On, Idle, Stepped, Traced, Noting, Leading}
use Rattle.trace.proofs.Fair.{Ends, within, fair-lead}
use Rattle.trace.proofs.Promises.{fair}
use Rattle.trace.proofs.Steps.{listing-long, ok-map, ok-inside, on_as, stepped_as, on_none, idle-same, idle_stop, bound_stop, stepped_bind}

-- where a grammar's fields end
pub reads : {A : Type 0} (g : Grammar A) (k : Kinds) (s : List ℕ) (t : Trace) → Bound s t → (a : A) (q : ℕ) → (format g).read s t.at ≡ ok a q
    → end_of t.at (met_of g k s t.at) ≡ q
reads {A} g k s t b a q e = subst (λ (x : Res A). Ends (Numbered g) t.at (met_of g k s t.at) x) e (fair g k s t.at b.within).ends

leads : (k : ℕ) (s : List ℕ) (t : Trace) → (h : Bool) (q : ℕ) → lead s t.at ≡ ok h q → end_of t.at (lead_met k s t.at) ≡ q
leads k s t h q e = subst (λ (x : Res Bool). Ends (Unit {0}) t.at (lead_met k s t.at) x) e (fair-lead k s t.at).ends

-- a trace does not go back
pub forward : {A : Type 0} {g : Grammar A} {k : Kinds} {s : List ℕ} {t : Trace} {l : List ℕ} {r : Trace} {m : List ℕ} → Bound s t → Traced g k s t l r m → t.at ≤ r.at
forward {g = g} {k = k} {s = s} {t = t} {r = r} b h = go t.good refl
  where
    go : (x : Bool) → t.good ≡ x → t.at ≤ r.at
    go true e = let f = fair g k s t.at b.within in omega (arith, (h.step.on e).at, (within s t.at (met_of g k s t.at) b.within f.gapless f.standing).0)
    go false e = omega (arith, (h.step.idle e).at)

-- and the array keeps its length
pub traced_long : {A : Type 0} {g : Grammar A} {k : Kinds} {s : List ℕ} {t : Trace} {l : List ℕ} {r : Trace} {m : List ℕ} → Traced g k s t l r m → length m ≡ length l
traced_long {g = g} {k = k} {s = s} {t = t} {l = l} {m = m} h = go t.good refl
  where
    go : (x : Bool) → t.good ≡ x → length m ≡ length l
    go true e = ap length (h.step.on e).list ∙ listing-long l t.met (met_of g k s t.at)
    go false e = ap length (h.step.idle e).list

-- the same at the place reached
on-at : {A : Type 0} {g : Grammar A} {k : Kinds} {s : List ℕ} {t : Trace} {l : List ℕ} {r : Trace} {m : List ℕ} {q : ℕ} → t.at ≡ q → Traced g k s t l r m → t.good ≡ true
    → On (met_of g k s q) ((format g).read s q) t l r m
on-at {g = g} {k = k} {s = s} {t = t} {l = l} {r = r} {m = m} e h y = subst (λ (z : ℕ). On (met_of g k s z) ((format g).read s z) t l r m) e (h.step.on y)

-- ## A number

module _ {s : List ℕ} {t : Trace} {l : List ℕ} {k w : ℕ} (b : Bound s t) where
  pub noted_idle : t.good ≡ false → Noting (λ v. v) (number w) (one k) s t l (record { trace = t; value = 0 }) l
  noted_idle e =
      record {
        step = record { on = λ g. absurd (never g e); idle = λ g. idle-same t l g; bound = b };
        value = λ g. absurd (never g e);
        nothing = λ g. refl;
      }
    where
      never : {x : Bool} → x ≡ true → x ≡ false → ⊥
      never f g = let z : true ≡ false = sym f ∙ g in let w : ◌≡◌ {A = ℕ} 0 1 = cc in omega arith

  pub noted_short : length s * 8 < t.at + w → {r : Trace} → r ≡ stopped t → Noting (λ v. v) (number w) (one k) s t l (record { trace = r; value = 0 }) l
  unfolding met_of listing
  noted_short h e =
      rw e
      (let f : leb (t.at + w) (length s * 8) ≡ false = lt-leb (t.at + w) (length s * 8) h in
      record {
        step =
            record {
              on = λ g. rw f (record { at = refl; met = omega arith; good = refl; list = refl });
              idle = λ g. idle_stop t l;
              bound = bound_stop s t b;
            };
        value = λ g. rw f;
        nothing = λ g. refl;
      })

  pub noted_here : t.good ≡ true → t.at + w ≤ length s * 8 → 1 ≤ w → {v : ℕ} {m : List ℕ} → v ≡ field s t.at w → m ≡ put_met l t.met (met_at k w s t.at)
      → Noting (λ v. v) (number w) (one k) s t l (record { trace = record { at = t.at + w; met = t.met + 1; good = true }; value = v }) m
  unfolding met_of listing
  noted_here e h p i j =
      let f : leb (t.at + w) (length s * 8) ≡ true = le-leb (t.at + w) (length s * 8) h in
      record {
        step =
            record {
              on = λ g. rw f (record { at = refl; met = refl; good = refl; list = j });
              idle = λ g. absurd (let z : true ≡ false = sym e ∙ g in let w : ◌≡◌ {A = ℕ} 0 1 = cc in omega arith);
              bound = record { short = b.short; less = omega (arith, b.less); within = h };
            };
        value = λ g. rw f i;
        nothing = λ g. absurd (let z : true ≡ false = sym e ∙ g in let w : ◌≡◌ {A = ℕ} 0 1 = cc in omega arith);
      }

-- the trace alone
pub traced_noted : {A : Type 0} {v : A → ℕ} {g : Grammar A} {k : Kinds} {s : List ℕ} {t : Trace} {l : List ℕ} {n : Noted} {m : List ℕ} → Noting v g k s t l n m
    → Traced g k s t l n.trace m
traced_noted h = record { step = h.step }

-- an L/H bit is listed as it stands
pub traced_bit : {k : ℕ} {s : List ℕ} {t : Trace} {l : List ℕ} {n : Noted} {m : List ℕ} → Noting (λ v. v) (number 1) (one k) s t l n m → Traced low-high (one k) s t l n.trace m
unfolding met_of
traced_bit {k = k} {s = s} {t = t} {l = l} {n = n} {m = m} h =
    record {
      step =
          stepped_as (one_met k 1 s t.at) ((num 1).read s t.at) ((format low-high).read s t.at) s t l n.trace m
          (ok-map (λ b. pick (eqb b (pad_bit t.at)) 0 1) ((num 1).read s t.at)) h.step;
    }

-- what a number that came back says of what was read
pub is-value : {A : Type 0} {v : A → ℕ} {g : Grammar A} {k : Kinds} {s : List ℕ} {t : Trace} {l : List ℕ} {n : Noted} {m : List ℕ} → Noting v g k s t l n m
    → t.good ≡ true → (a : A) (q : ℕ) → (format g).read s t.at ≡ ok a q → n.value ≡ v a
is-value {v = v} h y a q e = h.value y ∙ ap (number_in v) e

-- ## One after the other

module _ {s : List ℕ} {t r u : Trace} {l m n : List ℕ} (b : Bound s t) where
  pub traced_and : {A B : Type 0} {f : Grammar A} {g : Grammar B} {j k : Kinds} → Traced f j s t l r m → Traced g k s r m u n → Traced (f and g) (pair j k) s t l u n
  unfolding met_of
  traced_and {f = f} {g = g} {j = j} {k = k} h i =
      record {
        step =
            stepped_bind (met_of f j s t.at) ((format f).read s t.at) (λ a q. met_of g k s q) (λ a q. (format g).read s q then λ v p. ok (a, v) p) s t r u l m n h.step
            (reads f j s t b)
            (λ x a q e y d.
            on_as (met_of g k s q) ((format g).read s q) ((format g).read s q then λ v p. ok (a, v) p) r m u n (ok-map (λ v. (a, v)) ((format g).read s q))
            (on-at d i y))
            i.step.idle i.step.bound;
      }

  pub traced_by : {A B : Type 0} (f : Grammar A) (g : A → Grammar B) (j k : Kinds) → Traced f j s t l r m
      → (t.good ≡ true → (a : A) (q : ℕ) → (format f).read s t.at ≡ ok a q → r.good ≡ true → Traced (g a) k s r m u n) → (r.good ≡ false → Idle r m u n) → Bound s u
      → Traced (f then_by g) (pair j k) s t l u n
  unfolding met_of
  traced_by f g j k h i c d =
      record {
        step =
            stepped_bind (met_of f j s t.at) ((format f).read s t.at) (λ a q. met_of (g a) k s q) (λ a q. (format (g a)).read s q then λ v p. ok (a, v) p) s t r u l m n h.step
            (reads f j s t b)
            (λ x a q e y z.
            on_as (met_of (g a) k s q) ((format (g a)).read s q) ((format (g a)).read s q then λ v p. ok (a, v) p) r m u n (ok-map (λ v. (a, v)) ((format (g a)).read s q))
            (on-at z (i x a q e y) y))
            c d;
      }

-- ## Led parts

module _ {k : ℕ} {s : List ℕ} {t : Trace} {l : List ℕ} {n : Noted} {m : List ℕ} (b : Bound s t) (h : Noting (λ v. v) (number 1) (one k) s t l n m) where
  flag-reads : (a q : ℕ) → (num 1).read s t.at ≡ ok a q → end_of t.at (one_met k 1 s t.at) ≡ q
  unfolding met_of
  flag-reads = reads (number 1) (one k) s t b

  flag-step : Stepped (one_met k 1 s t.at) ((num 1).read s t.at) s t l n.trace m
  unfolding met_of
  flag-step = h.step

  pub flag_is : t.good ≡ true → (a q : ℕ) → (num 1).read s t.at ≡ ok a q → n.value ≡ a
  flag_is = is-value h

  pub traced_flag-none : {A : Type 0} {f : Grammar A} {j : Kinds} → n.value ≡ 0 → Traced (flagged f) (led k j) s t l n.trace m
  unfolding met_of
  traced_flag-none {f = f} {j = j} z =
      record {
        step =
            stepped_bind (one_met k 1 s t.at) ((num 1).read s t.at) (λ a q. pick (eqb a 0) [] (met_of f j s q))
            (λ a q. pick (eqb a 0) (ok none q) ((format f).read s q then λ v p. ok (some v) p)) s t n.trace n.trace l m m flag-step flag-reads
            (λ x a q e y d. rw (eq-eqb a 0 (sym (flag_is x a q e) ∙ z)) (on_none none q n.trace m y)) (λ y. idle-same n.trace m y) h.step.bound;
      }

  pub traced_flag-some : {A : Type 0} {f : Grammar A} {j : Kinds} {u : Trace} {o : List ℕ} → (n.value ≡ 0 → ⊥) → Traced f j s n.trace m u o → Traced (flagged f) (led k j) s t l u o
  unfolding met_of
  traced_flag-some {f = f} {j = j} {u = u} {o = o} z i =
      record {
        step =
            stepped_bind (one_met k 1 s t.at) ((num 1).read s t.at) (λ a q. pick (eqb a 0) [] (met_of f j s q))
            (λ a q. pick (eqb a 0) (ok none q) ((format f).read s q then λ v p. ok (some v) p)) s t n.trace u l m o flag-step flag-reads
            (λ x a q e y d.
            rw (ne_eqb a 0 (λ w. z (flag_is x a q e ∙ w)))
            (on_as (met_of f j s q) ((format f).read s q) ((format f).read s q then λ v p. ok (some v) p) n.trace m u o (ok-map (λ v. some v) ((format f).read s q))
            (on-at d i y)))
            i.step.idle i.step.bound;
      }

  pub traced_left : {A B : Type 0} {f : Grammar A} {g : Grammar B} {i j : Kinds} {u : Trace} {o : List ℕ} → n.value ≡ 0 → Traced f i s n.trace m u o
      → Traced (one_of f g) (choice k i j) s t l u o
  unfolding met_of
  traced_left {f = f} {g = g} {i = i} {j = j} {u = u} {o = o} z p =
      record {
        step =
            stepped_bind (one_met k 1 s t.at) ((num 1).read s t.at) (λ a q. pick (eqb a 0) (met_of f i s q) (met_of g j s q))
            (λ a q. pick (eqb a 0) ((format f).read s q then λ v p. ok (inl v) p) ((format g).read s q then λ v p. ok (inr v) p)) s t n.trace u l m o flag-step flag-reads
            (λ x a q e y d.
            rw (eq-eqb a 0 (sym (flag_is x a q e) ∙ z))
            (on_as (met_of f i s q) ((format f).read s q) ((format f).read s q then λ v p. ok (inl v) p) n.trace m u o (ok-map (λ v. inl v) ((format f).read s q))
            (on-at d p y)))
            p.step.idle p.step.bound;
      }

  pub traced_right : {A B : Type 0} {f : Grammar A} {g : Grammar B} {i j : Kinds} {u : Trace} {o : List ℕ} → (n.value ≡ 0 → ⊥) → Traced g j s n.trace m u o
      → Traced (one_of f g) (choice k i j) s t l u o
  unfolding met_of
  traced_right {f = f} {g = g} {i = i} {j = j} {u = u} {o = o} z p =
      record {
        step =
            stepped_bind (one_met k 1 s t.at) ((num 1).read s t.at) (λ a q. pick (eqb a 0) (met_of f i s q) (met_of g j s q))
            (λ a q. pick (eqb a 0) ((format f).read s q then λ v p. ok (inl v) p) ((format g).read s q then λ v p. ok (inr v) p)) s t n.trace u l m o flag-step flag-reads
            (λ x a q e y d.
            rw (ne_eqb a 0 (λ w. z (flag_is x a q e ∙ w)))
            (on_as (met_of g j s q) ((format g).read s q) ((format g).read s q then λ v p. ok (inr v) p) n.trace m u o (ok-map (λ v. inr v) ((format g).read s q))
            (on-at d p y)))
            p.step.idle p.step.bound;
      }

-- ## A later release

module _ {k : ℕ} {s : List ℕ} {t : Trace} {l : List ℕ} {n : Noted} {m : List ℕ} (h : Leading k s t l n m) where
  lead_is : t.good ≡ true → (a : Bool) (q : ℕ) → lead s t.at ≡ ok a q → n.value ≡ as_bit a
  lead_is y a q e = h.value y ∙ ap (number_in as_bit) e

  pub traced_later-none : {A : Type 0} {f : Grammar A} {j : Kinds} → n.value ≡ 0 → Traced (later f) (led k j) s t l n.trace m
  unfolding met_of
  traced_later-none {f = f} {j = j} z =
      record {
        step =
            stepped_as (met_of (later f) (led k j) s t.at) (lead s t.at then λ a q. pick a ((format f).read s q then λ v p. ok (some v) p) (ok none q))
            ((format (later f)).read s t.at) s t l n.trace m (ap is_ok (release-led (format f) s t.at))
            (stepped_bind (lead_met k s t.at) (lead s t.at) (λ a q. pick a (met_of f j s q) []) (λ a q. pick a ((format f).read s q then λ v p. ok (some v) p) (ok none q)) s t
            n.trace n.trace l m m h.step (leads k s t) (λ x a q e y d. go a q (lead_is x a q e) y) (λ y. idle-same n.trace m y) h.step.bound);
      }
    where
      go : (a : Bool) (q : ℕ) → n.value ≡ as_bit a → n.trace.good ≡ true
          → On (pick a (met_of f j s q) []) (pick a ((format f).read s q then λ v p. ok (some v) p) (ok none q)) n.trace m n.trace m
      go true q e y = absurd (omega arith)
      go false q e y = on_none none q n.trace m y

  pub traced_later-some : {A : Type 0} {f : Grammar A} {j : Kinds} {u : Trace} {o : List ℕ} → (n.value ≡ 0 → ⊥) → Traced f j s n.trace m u o → Traced (later f) (led k j) s t l u o
  unfolding met_of
  traced_later-some {f = f} {j = j} {u = u} {o = o} z i =
      record {
        step =
            stepped_as (met_of (later f) (led k j) s t.at) (lead s t.at then λ a q. pick a ((format f).read s q then λ v p. ok (some v) p) (ok none q))
            ((format (later f)).read s t.at) s t l u o (ap is_ok (release-led (format f) s t.at))
            (stepped_bind (lead_met k s t.at) (lead s t.at) (λ a q. pick a (met_of f j s q) []) (λ a q. pick a ((format f).read s q then λ v p. ok (some v) p) (ok none q)) s t
            n.trace u l m o h.step (leads k s t) (λ x a q e y d. go a q (lead_is x a q e) d y) i.step.idle i.step.bound);
      }
    where
      go : (a : Bool) (q : ℕ) → n.value ≡ as_bit a → n.trace.at ≡ q → n.trace.good ≡ true
          → On (pick a (met_of f j s q) []) (pick a ((format f).read s q then λ v p. ok (some v) p) (ok none q)) n.trace m u o
      go true q e d y =
          on_as (met_of f j s q) ((format f).read s q) ((format f).read s q then λ v p. ok (some v) p) n.trace m u o (ok-map (λ v. some v) ((format f).read s q))
          (on-at d i y)
      go false q e d y = absurd (z e)

-- ## Parts that are chosen or tested

module _ {A : Type 0} {f : Grammar A} {k : Kinds} {s : List ℕ} {t : Trace} {l : List ℕ} where
  pub traced_absent : {c : Bool} → c ≡ false → Bound s t → Traced (only_if c f) k s t l t l
  unfolding met_of
  traced_absent e b = record { step = rw e (record { on = λ y. on_none none t.at t l y; idle = λ y. idle-same t l y; bound = b }) }

  module _ {r : Trace} {m : List ℕ} (h : Traced f k s t l r m) where
    pub traced_present : {c : Bool} → c ≡ true → Traced (only_if c f) k s t l r m
    unfolding met_of
    traced_present e =
        record {
          step =
              rw e
              (stepped_as (met_of f k s t.at) ((format f).read s t.at) ((format f).read s t.at then λ a q. ok (some a) q) s t l r m
              (ok-map (λ a. some a) ((format f).read s t.at)) h.step);
        }

    pub traced_inside : {n : ℕ} → Traced (inside n f) k s t l r m
    unfolding met_of
    traced_inside {n = n} =
        record {
          step =
              stepped_as (met_of f k s t.at) ((format f).read s t.at) ((format (inside n f)).read s t.at) s t l r m (ok-inside n ((format f).read s t.at))
              h.step;
        }

    pub traced_passed : (n : ℕ) (c : A → Bool) → (t.good ≡ true → (a : A) (q : ℕ) → (format f).read s t.at ≡ ok a q → c a ≡ true) → Traced (refuse n c f) k s t l r m
    unfolding met_of
    traced_passed n c p =
        record {
          step =
              record {
                on = λ y. on_as (met_of f k s t.at) ((format f).read s t.at) ((format (refuse n c f)).read s t.at) t l r m (go ((format f).read s t.at) (p y)) (h.step.on y);
                idle = h.step.idle;
                bound = h.step.bound;
              };
        }
      where
        go : (x : Res A) → ((a : A) (q : ℕ) → x ≡ ok a q → c a ≡ true) → is_ok (x then λ a q. pick (c a) (ok a q) (bad (ground n))) ≡ is_ok x
        go (ok a q) e = rw (e a q refl)
        go (bad w) e = refl

    pub traced_refused : (n : ℕ) (c : A → Bool) → (t.good ≡ true → (a : A) (q : ℕ) → (format f).read s t.at ≡ ok a q → c a ≡ false) → {u : Trace} → u ≡ stopped r
        → Traced (refuse n c f) k s t l u m
    unfolding met_of
    traced_refused n c p d =
        rw d
        (record {
          step =
              record {
                on = λ y. let v = h.step.on y in record { at = v.at; met = v.met; good = sym (go ((format f).read s t.at) (p y)); list = v.list };
                idle = λ y. let v = h.step.idle y in record { at = v.at; met = v.met; good = refl; list = v.list };
                bound = bound_stop s r h.step.bound;
              };
        })
      where
        go : (x : Res A) → ((a : A) (q : ℕ) → x ≡ ok a q → c a ≡ false) → is_ok (x then λ a q. pick (c a) (ok a q) (bad (ground n))) ≡ false
        go (ok a q) e = rw (e a q refl)
        go (bad w) e = refl

-- ## A length octet, and what it says the length of

-- what passed a test was read
pub checked-ok : {A : Type 0} (c : A → Bool) (m : ℕ) (x : Res A) (a : A) (q : ℕ) → x then (λ a q. pick (c a) (ok a q) (bad (ground m))) ≡ ok a q → (x ≡ ok a q) × (c a ≡ true)
checked-ok {A} c m (ok b p) a q e = go (c b) refl e
  where
    go : (y : Bool) → c b ≡ y → pick y (ok b p) (bad (ground m)) ≡ ok a q → (ok b p ≡ ok a q) × (c a ≡ true)
    go true f e = let d : b ≡ a = cc in (e, ap c (sym d) ∙ f)
    go false f e = absurd (let z : ◌≡◌ {A = ℕ} 0 1 = cc in omega arith)
checked-ok c m (bad r) a q e = absurd (let z : ◌≡◌ {A = ℕ} 0 1 = cc in omega arith)

pub one-to-low : (v m : ℕ) → v < 1 → both (leb 1 v) (leb v m) ≡ false
one-to-low v m h = rw (lt-leb 1 v h)

pub one-to-high : (v m : ℕ) → 1 ≤ v → m < v → both (leb 1 v) (leb v m) ≡ false
one-to-high v m g h = rw (le-leb 1 v g, lt-leb v m h)

pub one-to-right : (v m : ℕ) → 1 ≤ v → v ≤ m → both (leb 1 v) (leb v m) ≡ true
one-to-right v m g h = rw (le-leb 1 v g, le-leb v m h)

module _ {B : Type 0} {w i k : ℕ} (c : ℕ → Bool) (g : ℕ → Grammar B) {j : Kinds} {s : List ℕ} {t : Trace} {l : List ℕ} {n : Noted} {m : List ℕ} (b : Bound s t)
    (h : Noting (λ v. v) (number w) (one k) s t l n m) where
  pub length_wrong : c n.value ≡ false → {u : Trace} → u ≡ stopped n.trace → Traced (refuse i c (number w) then_by g) (pair (one k) j) s t l u m
  length_wrong e {u} d =
      let r = traced_refused (traced_noted h) i c
      (λ y a q f. ap c (sym (is-value h y a q f)) ∙ e) d in
      traced_by b (refuse i c (number w)) g (one k) j r
      (λ y a q f z. absurd (let v : u.good ≡ false = ap (λ (x : Trace). x.good) d in let o : true ≡ false = sym z ∙ v in let w : ◌≡◌ {A = ℕ} 0 1 = cc in omega arith))
      (λ z. idle-same u m z) r.step.bound

  pub length-right : c n.value ≡ true → {u : Trace} {o : List ℕ} → Traced (g n.value) j s n.trace m u o
      → Traced (refuse i c (number w) then_by g) (pair (one k) j) s t l u o
  length-right e {u} {o} p =
      traced_by b (refuse i c (number w)) g (one k) j
      (traced_passed (traced_noted h) i c
      (λ y a q f. ap c (sym (is-value h y a q f)) ∙ e))
      (λ y a q f z.
      let d : n.value ≡ a = is-value h y a q (checked-ok c i ((num w).read s t.at) a q f).0 in
      subst (λ (v : ℕ). Traced (g v) j s n.trace m u o) d p)
      p.step.idle p.step.bound

-- ## A part that is there only if a number is 1

module _ {A B : Type 0} {v : A → ℕ} {f : Grammar A} {g : Grammar B} {j k : Kinds} {s : List ℕ} {t : Trace} {l : List ℕ} {n : Noted} {m : List ℕ} (b : Bound s t)
    (h : Noting v f j s t l n m) where
  pub if_one_not : (n.value ≡ 1 → ⊥) → Traced (f then_by λ a. only_if (is_one (v a)) g) (pair j k) s t l n.trace m
  if_one_not z =
      traced_by b f (λ a. only_if (is_one (v a)) g) j k (traced_noted h)
      (λ y a q e x. traced_absent (ne_eqb (v a) 1 (λ w. z (is-value h y a q e ∙ w))) h.step.bound)
      (λ x. idle-same n.trace m x) h.step.bound

  pub if_one : n.value ≡ 1 → {u : Trace} {o : List ℕ} → Traced g k s n.trace m u o → Traced (f then_by λ a. only_if (is_one (v a)) g) (pair j k) s t l u o
  if_one z p =
      traced_by b f (λ a. only_if (is_one (v a)) g) j k (traced_noted h)
      (λ y a q e x. traced_present p (eq-eqb (v a) 1 (sym (is-value h y a q e) ∙ z)))
      p.step.idle p.step.bound
