-- Fields side by side, one by one, and what a row leaves. Assumes nothing.
use mathlib.Core.Path.{◌≡◌, refl, sym, ap, ap₂, ◌∙◌}
use mathlib.Core.List.{List, [], ◌∷◌}
use mathlib.Core.Bool.{Bool, true, false}
use Prim.Native.Nat.{ℕ, zero, suc, ◌+◌, ◌*◌, ◌≤◌, ◌<◌}
use native.Mathlib.Numerals.{add-one}
use native.Mathlib.Omega.{arith}
use lib.ListN.{length, get_or, drop, drop_of_length-le}
use lib.Seq.{drop-cons}
use lib.Dec.{leb}
use borrow.Author.Tests.{leb-true, le-leb, lt-leb}
use Rattle.bits.specs.Field.{field, fetched, pick}
use Rattle.bits.specs.declared.Got.TheVariants.{Bits, Short}
use Rattle.csn1.specs.Format.{ok, bad, ran_out, total, fields_at}
use Rattle.csn1.specs.Grammar.{numbers, refuse, format}
use Rattle.csn1.proofs.Reading.{found, missing}
use Rattle.call.specs.Call.{low_reference}
use Rattle.arrays.specs.Runs.{stored}
use Rattle.trace.specs.declared.fields.Trace.{Trace}
use Rattle.trace.specs.Fields.{row, met_at, side_by_side, put_met, met_of, listing}
use Rattle.trace.specs.Promises.{end_of}
use Rattle.trace.specs.Inner.{Bound, stopped, low_from, Traced, Narrow, Whole}
use Rattle.trace.proofs.Steps.{idle-same, idle_stop, bound_stop}
use Rattle.trace.proofs.Tracing.{traced_passed, traced_refused}

pub narrow_at : (ws : List ℕ) (i : ℕ) → Narrow ws → get_or ws i 0 ≤ 64
narrow_at [] i n = omega arith
narrow_at (w ∷ ws) zero n = n.0
narrow_at (w ∷ ws) (suc i) n = narrow_at ws i n.1

-- four numbers in an array, the last of them named otherwise
pub put_value : (l : List ℕ) (n k p w v u : ℕ) → v ≡ u
    → pick (leb (4 * n + 4) (length l)) (stored l (4 * n) (k ∷ p ∷ w ∷ v ∷ [])) l ≡ pick (leb (4 * n + 4) (length l)) (stored l (4 * n) (k ∷ p ∷ w ∷ u ∷ [])) l
put_value l n k p w v u e = rw e

-- at the head of the loop over them: what is left lists the same
pub record Side (ks ws s : List ℕ) (first from : ℕ) (l m : List ℕ) (i at : ℕ) : Type 0 where
  pub upto : i ≤ length ws
  pub here : from + total ws ≡ at + total (drop i ws)
  pub same : listing l first (side_by_side ks ws s from) ≡ listing m (first + i) (side_by_side (drop i ks) (drop i ws) s at)

module _ {ks ws s : List ℕ} {first from : ℕ} {l : List ℕ} where
  pub side_begin : Side ks ws s first from l l 0 from
  side_begin = record { upto = omega arith; here = refl; same = ap (λ (n : ℕ). listing l n (side_by_side ks ws s from)) (omega arith) }

  module _ {m : List ℕ} {i at : ℕ} (h : Side ks ws s first from l m i at) where
    -- its bits are there
    pub side_there : i < length ws → from + total ws ≤ length s * 8 → at + get_or ws i 0 ≤ length s * 8
    side_there x y = omega (arith, h.here, ap total (drop-cons ws i 0 x))

    pub side_next : i < length ws → length ks ≡ length ws → {n : List ℕ} → n ≡ put_met m (first + i) (met_at (get_or ks i 0) (get_or ws i 0) s at)
        → Side ks ws s first from l n (i + 1) (at + get_or ws i 0)
    unfolding listing
    side_next x y e =
        let w : ℕ = get_or ws i 0 in
        let d : drop i ws ≡ w ∷ drop (suc i) ws = drop-cons ws i 0 x in
        let k : drop i ks ≡ get_or ks i 0 ∷ drop (suc i) ks = drop-cons ks i 0 (omega arith) in
        let c : first + i + 1 ≡ first + (i + 1) = omega arith in
        record {
          upto = omega arith;
          here = h.here ∙ ap (λ t. at + total t) d ∙ rw (add-one i) (omega arith);
          same =
              h.same ∙ ap₂ (λ a b. listing m (first + i) (side_by_side a b s at)) k d
              ∙ ap₂ (λ a b. listing a b (side_by_side (drop (suc i) ks) (drop (suc i) ws) s (at + w))) (sym e) c
              ∙ rw (add-one i);
        }

    pub side_end : length ws ≤ i → m ≡ listing l first (side_by_side ks ws s from)
    unfolding listing
    side_end x =
        let d : drop i ws ≡ [] = drop_of_length-le ws {i = i} x in
        sym (h.same ∙ ap (λ t. listing m (first + i) (side_by_side (drop i ks) t s at)) d ∙ no_more (drop i ks))
      where
        no_more : (t : List ℕ) → listing m (first + i) (side_by_side t [] s at) ≡ m
        no_more t = refl

-- ## A row

pub side_length : (ks ws s : List ℕ) (p : ℕ) → length (side_by_side ks ws s p) ≡ length ws
side_length ks [] s p = refl
side_length [] (w ∷ ws) s p = ap suc (side_length [] ws s (p + w))
side_length (k ∷ ks) (w ∷ ws) s p = ap suc (side_length ks ws s (p + w))

side_ends : (ks ws s : List ℕ) (p : ℕ) → end_of p (side_by_side ks ws s p) ≡ p + total ws
side_ends ks [] s p = omega arith
side_ends [] (w ∷ ws) s p = side_ends [] ws s (p + w) ∙ omega arith
side_ends (k ∷ ks) (w ∷ ws) s p = side_ends ks ws s (p + w) ∙ omega arith

module _ {ks ws s : List ℕ} {t : Trace} {l : List ℕ} {n : ℕ} (b : Bound s t) (a : Whole ks ws n) where
  pub row-idle : t.good ≡ false → Traced (numbers ws) (row ks) s t l t l
  row-idle e =
      record {
        step =
            record {
              on = λ g. absurd (let z : true ≡ false = sym g ∙ e in let w : ◌≡◌ {A = ℕ} 0 1 = cc in omega arith);
              idle = λ g. idle-same t l g;
              bound = b;
            };
      }

  pub row-short : length s * 8 < t.at + n → {r : Trace} → r ≡ stopped t → Traced (numbers ws) (row ks) s t l r l
  unfolding met_of listing
  row-short h e =
      rw e
      (let f : leb (t.at + total ws) (length s * 8) ≡ false = lt-leb (t.at + total ws) (length s * 8) (omega (arith, a.all)) in
      record {
        step =
            record {
              on = λ g. rw f (record { at = refl; met = omega arith; good = refl; list = refl });
              idle = λ g. idle_stop t l;
              bound = bound_stop s t b;
            };
      })

  pub row_here : t.good ≡ true → t.at + n ≤ length s * 8 → {m : List ℕ} → m ≡ listing l t.met (side_by_side ks ws s t.at)
      → Traced (numbers ws) (row ks) s t l (record { at = t.at + n; met = t.met + length ws; good = true }) m
  unfolding met_of
  row_here e h j =
      let f : leb (t.at + total ws) (length s * 8) ≡ true = le-leb (t.at + total ws) (length s * 8) (omega (arith, a.all)) in
      record {
        step =
            record {
              on =
                  λ g.
                  rw f
                  (record {
                    at = omega (arith, side_ends ks ws s t.at, a.all);
                    met = omega (arith, side_length ks ws s t.at);
                    good = refl;
                    list = j;
                  });
              idle = λ g. absurd (let z : true ≡ false = sym e ∙ g in let w : ◌≡◌ {A = ℕ} 0 1 = cc in omega arith);
              bound = record { short = b.short; less = omega (arith, b.less, a.few); within = h };
            };
      }

-- ## A reference that is tested

module _ (s : List ℕ) (p : ℕ) (t : Trace) where
  pub low-short : Short ≡ fetched s p 27 → t ≡ low_from s p t
  low-short e = rw (lt-leb (p + 27) (length s * 8) (missing s p 27 (omega arith) e))

  pub low-high : {v : ℕ} → Bits v ≡ fetched s p 27 → 99999999 < v → {u : Trace} → u ≡ stopped t → u ≡ low_from s p t
  low-high {v} e h d =
      let f = found s p 27 v e in
      rw (le-leb (p + 27) (length s * 8) f.within, lt-leb (field s p 27) 99999999 (omega (arith, f.is))) d

  pub low-fine : {v : ℕ} → Bits v ≡ fetched s p 27 → v ≤ 99999999 → t ≡ low_from s p t
  low-fine {v} e h =
      let f = found s p 27 v e in
      rw (le-leb (p + 27) (length s * 8) f.within, le-leb (field s p 27) 99999999 (omega (arith, f.is)))

pub traced_low : {ks ws s : List ℕ} {t : Trace} {l : List ℕ} {r : Trace} {m : List ℕ} {u : Trace} → Traced (numbers (27 ∷ ws)) (row ks) s t l r m → u ≡ low_from s t.at r
    → Traced (refuse 4 low_reference (numbers (27 ∷ ws))) (row ks) s t l u m
traced_low {ks} {ws} {s} {t} {l} {r} {m} h e = rw e (go (leb (t.at + 27) (length s * 8)) (leb (field s t.at 27) 99999999) refl refl)
  where
    -- the row is there only where its first number is
    first : (a : List ℕ) (q : ℕ) → (format (numbers (27 ∷ ws))).read s t.at ≡ ok a q → (leb (t.at + 27) (length s * 8) ≡ true) × (low_reference a ≡ leb (field s t.at 27) 99999999)
    first a q x = by (leb (t.at + (27 + total ws)) (length s * 8)) refl x
      where
        by : (c : Bool) → leb (t.at + (27 + total ws)) (length s * 8) ≡ c
            → pick c (ok (fields_at (27 ∷ ws) s t.at) (t.at + (27 + total ws))) (bad (ran_out t.at)) ≡ ok a q
            → (leb (t.at + 27) (length s * 8) ≡ true) × (low_reference a ≡ leb (field s t.at 27) 99999999)
        by true y x = let d : fields_at (27 ∷ ws) s t.at ≡ a = cc in (le-leb (t.at + 27) (length s * 8) (omega (arith, leb-true (t.at + (27 + total ws)) (length s * 8) y)), rw (← d))
        by false y x = absurd (let z : ◌≡◌ {A = ℕ} 0 1 = cc in omega arith)

    go : (c d : Bool) → leb (t.at + 27) (length s * 8) ≡ c → leb (field s t.at 27) 99999999 ≡ d
        → Traced (refuse 4 low_reference (numbers (27 ∷ ws))) (row ks) s t l (pick c (pick d r (stopped r)) r) m
    go true true x y = traced_passed h 4 low_reference (λ g a q v. (first a q v).1 ∙ y)
    go true false x y = traced_refused h 4 low_reference (λ g a q v. (first a q v).1 ∙ y) refl
    go false d x y =
        traced_passed h 4 low_reference
        (λ g a q v. absurd (let z : true ≡ false = sym (first a q v).0 ∙ x in let w : ◌≡◌ {A = ℕ} 0 1 = cc in omega arith))
