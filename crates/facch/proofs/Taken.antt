-- What the taker of a message goes by: from what its parts say to what the grammar takes. Assumes nothing.
use mathlib.Core.Path.{◌≡◌, refl, sym, ap, ap₂, ◌∙◌, subst}
use mathlib.Core.List.{List}
use mathlib.Core.Bool.{Bool, true, false, not}
use mathlib.Core.Option.{Option, none, some}
use mathlib.Core.Logic.{inl}
use Prim.Native.Nat.{ℕ, ◌+◌, ◌*◌, ◌≤◌}
use native.Mathlib.Omega.{arith}
use lib.ListN.{length}
use lib.Dec.{eqb}
use borrow.Author.Tests.{le-leb, eq-eqb, ne_eqb}
use Rattle.bits.specs.Field.{field, pick}
use Rattle.csn1.specs.Format.{ok, pad_bit}
use Rattle.csn1.specs.Grammar.{Grammar, number, low-high, ◌and◌, flagged, later}
use Rattle.csn1.specs.Told.{or_zero, is_one, or_false}
use Rattle.call.specs.Call.{CallValue, call_grammar}
use Rattle.words.specs.declared.TakenCall.{TakenCall}
use Rattle.words.specs.Unasked.{Took, took, ◌on◌, taken}
use Rattle.words.proofs.Unasked.{ends-inside}
use Rattle.words.proofs.Taken.{was_false, was_true, Done}
use Rattle.facch.specs.Message.{counts, Release6Value, Release7Value, release6, release7, Value, message, notification, read_octets}
use Rattle.facch.specs.Told.{release6_of, release7_of, reading_of, read_of}
use Rattle.csn1.specs.declared.Refusal.{Refusal}
use Rattle.facch.specs.declared.Page.{Page}
use Rattle.facch.specs.declared.Reading.{Reading}
use Rattle.facch.specs.declared.taking.TakenCount.{TakenCount}
use Rattle.facch.specs.declared.taking.TakenFlag.{TakenFlag}
use Rattle.facch.specs.declared.taking.TakenSix.{TakenSix}
use Rattle.facch.specs.declared.taking.TakenSeven.{TakenSeven}
use Rattle.facch.specs.declared.taking.Quick.{Quick}
use Rattle.facch.specs.Inner.{CountTold, FlagTold, Coded, SixTold, SevenTold, Quickly}

-- ## A count, a number behind a flag, a coded bit

module _ (s : List ℕ) (p b : ℕ) (e : b ≡ field s (p + 1) 1) where
  pub count_none : b ≡ 0 → CountTold (record { hasCount = false; cellcount = 0; b22 = false; next = 2 }) p (taken (flagged counts) s (p + 1))
  count_none z =
      let k : p + 1 + 1 ≡ p + 2 = omega arith in
      record { value = none; is = rw (← e, eq-eqb b 0 z, k) refl; there = refl; cells = refl; b22 = refl }

  pub count-some : (b ≡ 0 → ⊥) → (c d : ℕ) → c ≡ field s (p + 2) 2 → d ≡ field s (p + 4) 1
      → CountTold (record { hasCount = true; cellcount = c; b22 = is_one d; next = 5 }) p (taken (flagged counts) s (p + 1))
  count-some n c d f g =
      let k : p + 1 + 1 ≡ p + 2 = omega arith in
      let l : p + 2 + 2 ≡ p + 4 = omega arith in
      let m : p + 4 + 1 ≡ p + 5 = omega arith in
      record { value = some (c, d); is = rw (← e, ne_eqb b 0 n, k, l, m, ← f, ← g) refl; there = refl; cells = refl; b22 = refl }

module _ (s : List ℕ) (p from w b : ℕ) (e : b ≡ field s (p + from) 1) where
  pub flag-none : b ≡ 0 → FlagTold (record { hasValue = false; value = 0; next = from + 1 }) p (taken (flagged (number w)) s (p + from))
  flag-none z =
      let k : p + from + 1 ≡ p + (from + 1) = omega arith in
      record { value = none; is = rw (← e, eq-eqb b 0 z) (ap (λ q. took none q) k); there = refl; number = refl }

  pub flag-some : (b ≡ 0 → ⊥) → (v : ℕ) → v ≡ field s (p + (from + 1)) w
      → FlagTold (record { hasValue = true; value = v; next = from + 1 + w }) p (taken (flagged (number w)) s (p + from))
  flag-some n v f =
      let k : p + from + 1 ≡ p + (from + 1) = omega arith in
      let l : p + (from + 1) + w ≡ p + (from + 1 + w) = omega arith in
      record {
        value = some v;
        is = rw (← e, ne_eqb b 0 n) (ap (λ q. took (some (field s q w)) (q + w)) k ∙ ap₂ (λ x q. took (some x) q) (sym f) l);
        there = refl;
        number = refl;
      }

pub coded-told : (s : List ℕ) (p b : ℕ) → b ≡ field s p 1 → (h : Bool) → h ≡ not (eqb b (pad_bit p)) → Coded h p (taken low-high s p)
coded-told s p b e h k = record { value = pick (eqb b (pad_bit p)) 0 1; is = rw (← e) refl; told = k ∙ go (eqb b (pad_bit p)) }
  where
    go : (t : Bool) → not t ≡ is_one (pick t 0 1)
    go true = refl
    go false = refl

-- it is L
low_bit : (s : List ℕ) (p : ℕ) → Coded false p (taken low-high s p) → eqb (field s p 1) (pad_bit p) ≡ true
low_bit s p h = go (eqb (field s p 1) (pad_bit p)) h.value h.is h.told
  where
    go : (t : Bool) (v : ℕ) → took (pick t 0 1) (p + 1) ≡ took v (p + 1) → false ≡ is_one v → t ≡ true
    go true v i k = refl
    go false v i k = absurd (let z : 1 ≡ v = cc in let y : false ≡ true = k ∙ ap is_one (sym z) in let x : ◌≡◌ {A = ℕ} 0 1 = cc in omega arith)

-- it is H
high_bit : (s : List ℕ) (p : ℕ) → Coded true p (taken low-high s p) → eqb (field s p 1) (pad_bit p) ≡ false
high_bit s p h = go (eqb (field s p 1) (pad_bit p)) h.value h.is h.told
  where
    go : (t : Bool) (v : ℕ) → took (pick t 0 1) (p + 1) ≡ took v (p + 1) → true ≡ is_one v → t ≡ false
    go true v i k = absurd (let z : 0 ≡ v = cc in let y : true ≡ false = k ∙ ap is_one (sym z) in let x : ◌≡◌ {A = ℕ} 0 1 = cc in omega arith)
    go false v i k = refl

-- what a test of it says, at a place under another name
pub as_low : (s : List ℕ) (q p : ℕ) (h : Bool) → q ≡ p → not h ≡ true → Coded h q (taken low-high s q) → Coded false p (taken low-high s p)
as_low s q p h e n k =
    subst (λ (x : ℕ). Coded false x (taken low-high s x)) e (subst (λ (x : Bool). Coded x q (taken low-high s q)) (was_false h n) k)

pub as_high : (s : List ℕ) (q p : ℕ) (h : Bool) → q ≡ p → not h ≡ false → Coded h q (taken low-high s q) → Coded true p (taken low-high s p)
as_high s q p h e n k =
    subst (λ (x : ℕ). Coded true x (taken low-high s x)) e (subst (λ (x : Bool). Coded x q (taken low-high s q)) (was_true h n) k)

-- ## Release 6

abbrev whole6 : TakenCount → TakenFlag → TakenSix
whole6 c v =
    record {
      release = record { hasRelease = true; hasCount = c.hasCount; cellcount = c.cellcount; b22 = c.b22; hasRandom = v.hasValue; rand = v.value };
      next = v.next;
    }

module _ (s : List ℕ) (p n : ℕ) (l : length s * 8 ≡ n) where
  pub six-end : p ≡ n → (r : TakenSix) → r.release ≡ release6_of none → r.next ≡ 0 → SixTold r p (taken (later release6) s p)
  six-end e r i j = record { value = none; is = rw (eq-eqb p (length s * 8) (omega arith)) (ap (λ q. took none q) (omega arith)); told = i }

  module _ (d : p ≡ n → ⊥) where
    differs : p ≡ length s * 8 → ⊥
    differs e = d (e ∙ l)

    pub six_low : Coded false p (taken low-high s p) → (r : TakenSix) → r.release ≡ release6_of none → r.next ≡ 1 → SixTold r p (taken (later release6) s p)
    six_low h r i j =
        record { value = none; is = rw (ne_eqb p (length s * 8) differs, low_bit s p h) (ap (λ q. took none q) (omega arith)); told = i }

    pub six-told : Coded true p (taken low-high s p) → (c : TakenCount) → CountTold c p (taken (flagged counts) s (p + 1))
        → (v : TakenFlag) → FlagTold v p (taken (flagged (number 36)) s (p + c.next)) → SixTold (whole6 c v) p (taken (later release6) s p)
    six-told h c k v f =
        let body : taken release6 s (p + 1) ≡ took (k.value, f.value) (p + v.next) =
        ap (λ z. z on λ a q. taken (flagged (number 36)) s q on λ b r. took (a, b) r) k.is ∙ ap (λ z. z on λ b r. took (k.value, b) r) f.is in
        record {
          value = some (k.value, f.value);
          is = rw (ne_eqb p (length s * 8) differs, high_bit s p h) (ap (λ z. z on λ a r. took (some a) r) body);
          told = rw (k.there, k.cells, k.b22, f.there, f.number) refl;
        }

-- ## Release 7

abbrev whole7 : Bool → Bool → TakenFlag → TakenSeven
whole7 u e v = record { release = record { hasRelease = true; uplink = u; emergency = e; hasCause = v.hasValue; cause = is_one v.value }; next = v.next }

-- a Paging Cause that is absent is 0
cause-bit : (v : Option ℕ) → is_one (or_zero v) ≡ or_false v
cause-bit none = refl
cause-bit (some b) = refl

module _ (s : List ℕ) (p n : ℕ) (l : length s * 8 ≡ n) (from : ℕ) where
  pub seven-end : p + from ≡ n → (r : TakenSeven) → r.release ≡ release7_of none → r.next ≡ from → SevenTold r p (taken (later release7) s (p + from))
  seven-end e r i j =
      record { value = none; is = rw (eq-eqb (p + from) (length s * 8) (omega arith)) (ap (λ q. took none q) (omega arith)); told = i }

  module _ (d : p + from ≡ n → ⊥) where
    differs7 : p + from ≡ length s * 8 → ⊥
    differs7 e = d (e ∙ l)

    pub seven-low : Coded false (p + from) (taken low-high s (p + from)) → (r : TakenSeven) → r.release ≡ release7_of none → r.next ≡ from + 1
        → SevenTold r p (taken (later release7) s (p + from))
    seven-low h r i j =
        record { value = none; is = rw (ne_eqb (p + from) (length s * 8) differs7, low_bit s (p + from) h) (ap (λ q. took none q) (omega arith)); told = i }

    pub seven-told : Coded true (p + from) (taken low-high s (p + from)) → (u e : Bool)
        → Coded u (p + (from + 1)) (taken low-high s (p + (from + 1))) → Coded e (p + (from + 2)) (taken low-high s (p + (from + 2)))
        → (v : TakenFlag) → FlagTold v p (taken (flagged (number 1)) s (p + (from + 3)))
        → SevenTold (whole7 u e v) p (taken (later release7) s (p + from))
    seven-told h u e cu ce v f =
        let a : p + from + 1 ≡ p + (from + 1) = omega arith in
        let b : p + (from + 1) + 1 ≡ p + (from + 2) = omega arith in
        let c : p + (from + 2) + 1 ≡ p + (from + 3) = omega arith in
        let rest : Took (ℕ × Option ℕ) = took (ce.value, f.value) (p + v.next) in
        let last : taken (low-high and flagged (number 1)) s (p + (from + 2)) ≡ rest =
        ap (λ z. z on λ x q. taken (flagged (number 1)) s q on λ y r. took (x, y) r) (ce.is ∙ ap (λ q. took ce.value q) c)
        ∙ ap (λ z. z on λ y r. took (ce.value, y) r) f.is in
        let body : taken release7 s (p + (from + 1)) ≡ took (cu.value, (ce.value, f.value)) (p + v.next) =
        ap (λ z. z on λ x q. taken (low-high and flagged (number 1)) s q on λ y r. took (x, y) r) (cu.is ∙ ap (λ q. took cu.value q) b)
        ∙ ap (λ z. z on λ y r. took (cu.value, y) r) last in
        record {
          value = some (cu.value, (ce.value, f.value));
          is =
              rw (ne_eqb (p + from) (length s * 8) differs7, high_bit s (p + from) h)
              (ap (λ q. taken release7 s q on λ x r. took (some x) r) a ∙ ap (λ z. z on λ x r. took (some x) r) body);
          told = rw (cu.told, ce.told, f.there, f.number, cause-bit f.value) refl;
        }

-- ## The message

-- nothing is said of what was not done
pub not_quickly : (s : List ℕ) (q : Quick) → q.done ≡ false → Quickly q (read_of s)
not_quickly s q e d = absurd (let f : false ≡ true = sym e ∙ d in let z : ◌≡◌ {A = ℕ} 0 1 = cc in omega arith)

-- the reading of a message that was done
abbrev pub whole_reading : Quick → Refusal → Page → Reading
whole_reading q r p =
    record {
      refusal = r;
      used = q.used;
      «record» = record { paging = false; call = q.call; page = p; release6 = q.release6; release7 = q.release7 };
    }

abbrev added : Grammar (Option Release6Value × Option Release7Value)
added = later release6 and later release7

abbrev whole : TakenCall → TakenSix → TakenSeven → Quick
whole c x y = record { done = true; used = c.at + y.next; call = c.call; release6 = x.release; release7 = y.release }

module _ (s : List ℕ) (l : length s ≤ 23) (b : ℕ) (e : b ≡ field s 8 1) (z : b ≡ 0) (c : TakenCall) (t : Done s 9 c) where
  -- what follows the call
  abbrev after : Took CallValue → Took Value
  after y = y on (λ a r. took (inl a) r) on (λ b r. taken added s r on λ c t. took (b, c) t) on (λ b r. took (field s 0 8, b) r)

  head : taken message s 0 ≡ after (taken call_grammar s 9)
  head = rw (← e, eq-eqb b 0 z) refl

  module _ (x : TakenSix) (tx : SixTold x c.at (taken (later release6) s c.at))
      (y : TakenSeven) (ty : SevenTold y c.at (taken (later release7) s (c.at + x.next))) where
    all : taken message s 0 ≡ took (field s 0 8, (inl t.value, (tx.value, ty.value))) (c.at + y.next)
    all =
        let v : CallValue = t.value in
        head
        ∙ ap after t.is
        ∙ ap (λ u. u on (λ a q. taken (later release7) s q on λ b t. took (a, b) t) on (λ c t. took (inl v, c) t) on (λ b r. took (field s 0 8, b) r)) tx.is
        ∙ ap (λ u. u on (λ b t. took (tx.value, b) t) on (λ c t. took (inl v, c) t) on (λ b r. took (field s 0 8, b) r)) ty.is

    pub quickly : c.at + y.next ≤ length s * 8 → Quickly (whole c x y) (read_of s)
    unfolding notification
    quickly g d =
        let v : Value = (field s 0 8, (inl t.value, (tx.value, ty.value))) in
        let read : read_octets s ≡ ok v (c.at + y.next) =
        rw (le-leb 2 (length s) (omega (arith, t.long)), le-leb (length s) 23 l) (ends-inside message s 0 v (c.at + y.next) all g) in
        rw (t.told, tx.told, ty.told) (sym (ap reading_of read))
