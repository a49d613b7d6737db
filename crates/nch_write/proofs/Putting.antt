-- What the writer's functions put: a part at a time, an item of each list behind its 1, and the numbers that are put as one. Assumes nothing.
use mathlib.Core.Path.{◌≡◌, refl, sym, ap, ◌∙◌, subst}
use mathlib.Core.List.{List, [], ◌∷◌, ◌++◌, append_assoc}
use mathlib.Core.Bool.{Bool, true, false}
use Prim.Native.Nat.{ℕ, zero, suc, ◌+◌, ◌-◌, ◌*◌, ◌^◌, ◌≤◌, ◌<◌}
use native.Mathlib.Nat.{mod-eq_of_lt}
use native.Mathlib.Omega.{arith}
use lib.ListN.{length, get_or, take, drop, replicate, length-append}
use lib.Dec.{leb, eqb}
use borrow.Author.Tests.{le-leb, lt-leb, eq-eqb, ne_eqb}
use Rattle.bits.specs.Field.{pick}
use Rattle.csn1.specs.Format.{Format, num, num_bits, ◌⨟◌, opt, items_bits, list, pad_bit, release, total, row_bits, RowFits, put_bits}
use Rattle.csn1.specs.Grammar.{format}
use Rattle.csn1.specs.Told.{there, as_bit}
use Rattle.bits.proofs.Answers.{both_true}
use Rattle.csn1.proofs.Writing.{flag_lt, glued, row-glued, led-join}
use Rattle.call.specs.declared.Call.{Call}
use Rattle.call.specs.Call.{group_call, call_value}
use Rattle.call.specs.Write.{call_size}
use Rattle.call.proofs.Laws.{call_anywhere}
use Rattle.pen.specs.declared.Words.{Words}
use Rattle.pen.specs.Words.{no_words, whole, stored_in, Adds}
use Rattle.pen.proofs.Adding.{adds_none, adds_then, stored-bits}
use Rattle.nch.specs.declared.Reduced.{Reduced}
use Rattle.nch.specs.declared.Random.{Random}
use Rattle.nch.specs.declared.Notification.{Notification}
use Rattle.nch.specs.Octets.{reduced, random}
use Rattle.nch.specs.Told.{reduced_value, random_value}
use Rattle.nch.specs.Write.{all, record_refusal, form, form_fits, write_number, written, after_write}
use Rattle.nch.proofs.Record.{one_more}
use Rattle.nch_write.specs.declared.Pen.{Pen}
use Rattle.nch_write.specs.Inner.{no_pen, Inks}

-- ## What the places say

pub all-at : {A : Type 0} (t : A → Bool) (z : A) (xs : List A) (n i : ℕ) → all t (take n xs) ≡ true → i < n → n ≤ length xs → t (get_or xs i z) ≡ true
unfolding all
all-at t z [] n i e h l = absurd (omega arith)
all-at t z (x ∷ xs) zero i e h l = absurd (omega arith)
all-at t z (x ∷ xs) (suc n) zero e h l = (both_true (t x) (all t (take n xs)) e).0
all-at t z (x ∷ xs) (suc n) (suc i) e h l = all-at t z xs n i (both_true (t x) (all t (take n xs)) e).1 (omega arith) (omega arith)

-- ## Bits behind bits

pub inks_as : {p q : Pen} {xs ys : List ℕ} → xs ≡ ys → Inks p xs q → Inks p ys q
inks_as {p} {q} e f = subst (λ (bs : List ℕ). Inks p bs q) e f

pub inks-none : {p : Pen} → Inks p [] p
inks-none = record { next = omega arith; adds = adds_none }

pub inks-then : {p q r : Pen} {xs ys : List ℕ} → Inks p xs q → Inks q ys r → Inks p (xs ++ ys) r
inks-then {p} {q} {r} {xs} {ys} f g = record { next = omega (arith, f.next, g.next, length-append xs ys); adds = adds_then f.adds g.adds }

-- one bit
pub one_bit : {p q : Pen} (v : ℕ) → v < 2 → Inks p (num_bits 1 v) q → Inks p (v ∷ []) q
unfolding num_bits
one_bit v h f = inks_as (ap (λ (k : ℕ). k ∷ []) (mod-eq_of_lt h)) f

-- from words that hold nothing
pub inks-from : {w : Words} {bs : List ℕ} {q : Pen} → w ≡ no_words → Inks (record { words = w; at = 0 }) bs q → Inks no_pen bs q
inks-from {w} {bs} {q} e f = subst (λ (x : Words). Inks (record { words = x; at = 0 }) bs q) e f

-- one part after the other
pub inks-both : {A B : Type 0} (F : Format A) (G : Format B) {p q r : Pen} (a : A) (b : B) → Inks p (F.bits 160 p.at a) q → Inks q (G.bits 160 q.at b) r
    → Inks p ((F ⨟ G).bits 160 p.at (a, b)) r
inks-both F G {p} {q} {r} a b f g = inks_as (ap (λ (k : ℕ). F.bits 160 p.at a ++ G.bits 160 k b) f.next) (inks-then f g)

-- numbers side by side, put as one
pub inks-row : {p q : Pen} (ws l : List ℕ) (v : ℕ) → v ≡ glued ws l → RowFits ws l → Inks p (num_bits (total ws) v) q → Inks p (row_bits ws l) q
inks-row ws l v e f g = inks_as (ap (num_bits (total ws)) e ∙ sym (row-glued ws l f)) g

-- ## A flag, and an L or H

module _ {A : Type 0} (F : Format A) {p q : Pen} (t : Bool) (a : A) where
  pub inks_no : t ≡ false → Inks p (num_bits 1 0) q → Inks p ((opt F).bits 160 p.at (there t a)) q
  unfolding num_bits
  inks_no e f = rw e f

  -- q has the leading bit
  behind : {r : Pen} (v : ℕ) → Inks p (v ∷ []) q → Inks q (F.bits 160 q.at a) r → Inks p (v ∷ F.bits 160 (p.at + 1) a) r
  behind v f g = inks_as (ap (λ (k : ℕ). v ∷ F.bits 160 k a) f.next) (inks-then f g)

  pub inks_yes : {r : Pen} → t ≡ true → Inks p (num_bits 1 1) q → Inks q (F.bits 160 q.at a) r → Inks p ((opt F).bits 160 p.at (there t a)) r
  unfolding num_bits
  inks_yes e f g = rw e (behind 1 f g)

  pub inks-high : {r : Pen} → t ≡ true → Inks p ((1 - pad_bit p.at) ∷ []) q → Inks q (F.bits 160 q.at a) r → Inks p ((release F).bits 160 p.at (there t a)) r
  inks-high e f g = rw e (behind (1 - pad_bit p.at) f g)

  pub inks-low : t ≡ false → Inks p (pick (eqb p.at 160) [] (pad_bit p.at ∷ [])) q → Inks p ((release F).bits 160 p.at (there t a)) q
  inks-low e f = rw e f

-- a flag and its number, put as one
pub inks-flagged : {p q : Pen} (t : Bool) (w v : ℕ) → t ≡ true → v < 2 ^ w → Inks p (num_bits (1 + w) (2 ^ w + v)) q → Inks p ((opt (num w)).bits 160 p.at (there t v)) q
inks-flagged t w v e h f =
    let k : 1 * 2 ^ w + v ≡ 2 ^ w + v = omega arith in
    rw e (inks_as (sym (led-join w 1 v (omega arith) h ∙ ap (num_bits (1 + w)) k)) f)

-- ## Numbers put as one, behind the leading 1

module _ {p q : Pen} where
  pub mark_put : (m : Bool) (v : ℕ) → v ≡ 2 + as_bit m → Inks p (num_bits 2 v) q → Inks p (1 ∷ num_bits 1 (as_bit m)) q
  unfolding num_bits
  mark_put m v x f = inks-row (1 ∷ 1 ∷ []) (1 ∷ as_bit m ∷ []) v (omega arith) ((omega arith, (flag_lt m, tt))) f

  pub reduced_put : (r : Reduced) (v : ℕ) → r.reference < 2 ^ 27 → v ≡ 268435456 + r.reference * 2 + as_bit r.vgcs → Inks p (num_bits 29 v) q
      → Inks p (1 ∷ (format reduced).bits 160 (p.at + 1) (reduced_value r)) q
  unfolding num_bits
  reduced_put r v h x f = inks-row (1 ∷ 27 ∷ 1 ∷ []) (1 ∷ reduced_value r) v (omega arith) ((omega arith, (h, (flag_lt r.vgcs, tt)))) f

  pub sms_put : (t x y : Bool) (v : ℕ) → t ≡ true → v ≡ 4 + 2 * as_bit x + as_bit y → Inks p (num_bits 3 v) q → Inks p ((opt (num 1 ⨟ num 1)).bits 160 p.at (there t (as_bit x, as_bit y))) q
  unfolding num_bits
  sms_put t x y v h k f = rw h (inks-row (1 ∷ 1 ∷ 1 ∷ []) (1 ∷ as_bit x ∷ as_bit y ∷ []) v (omega arith) ((omega arith, (flag_lt x, (flag_lt y, tt)))) f)

  -- a random entry's flag and number go behind
  pub random_put : {s : Pen} (r : Random) (v : ℕ) → v ≡ 2 + as_bit r.segment → Inks p (num_bits 2 v) q → Inks q ((opt (num 36)).bits 160 q.at (there r.hasRandom r.rand)) s
      → Inks p (1 ∷ (format random).bits 160 (p.at + 1) (random_value r)) s
  unfolding num_bits
  random_put r v x f g =
      let k : q.at ≡ p.at + 1 + 1 = omega (arith, f.next) in
      inks_as (ap (λ (n : ℕ). 1 ∷ (num_bits 1 (as_bit r.segment) ++ (opt (num 36)).bits 160 n (there r.hasRandom r.rand))) k) (inks-then (mark_put r.segment v x f) g)

  -- and a call
  pub call_put : {s : Pen} (c : Call) → Inks p (num_bits 1 1) q → s.at ≡ q.at + call_size c → Adds (whole q.words) (whole s.words) (group_call.bits 0 0 (call_value c))
      → Inks p (1 ∷ group_call.bits 160 (p.at + 1) (call_value c)) s
  unfolding num_bits call_size
  call_put c f e g =
      inks_as (ap (λ (l : List ℕ). 1 ∷ l) (sym (call_anywhere 160 (p.at + 1) (call_value c)))) (inks-then f (record { next = e; adds = g }))

-- ## A list

-- in a loop over the values vs: i of them were put, and the others go behind what q has
pub record Items {A : Type 0} (F : Format A) (p : Pen) (vs : List A) (i : ℕ) (q : Pen) : Type 0 where
  pub done : List ℕ
  pub split : items_bits F 160 p.at vs ≡ done ++ items_bits F 160 q.at (drop i vs)
  pub inks : Inks p done q

module _ {A : Type 0} (F : Format A) {p : Pen} {vs : List A} where
  pub items_begin : Items F p vs 0 p
  items_begin = record { done = []; split = refl; inks = inks-none }

  -- a, the i-th, was put behind its 1
  pub items-next : {i : ℕ} {q r : Pen} (a : A) → Items F p vs i q → drop i vs ≡ a ∷ drop (i + 1) vs → Inks q (1 ∷ F.bits 160 (q.at + 1) a) r → Items F p vs (i + 1) r
  items-next {i} {q} {r} a f e g =
      let xs : List ℕ = 1 ∷ F.bits 160 (q.at + 1) a in
      let o : q.at + 1 + length (F.bits 160 (q.at + 1) a) ≡ r.at = omega (arith, g.next) in
      let s : items_bits F 160 q.at (drop i vs) ≡ xs ++ items_bits F 160 r.at (drop (i + 1) vs) = rw (e, o) in
      record {
        done = f.done ++ xs;
        split = f.split ∙ ap (λ (l : List ℕ). f.done ++ l) s ∙ sym (append_assoc f.done xs (items_bits F 160 r.at (drop (i + 1) vs)));
        inks = inks-then f.inks g;
      }

  -- all were put, and the 0 that closes the list
  pub items-end : {i : ℕ} {q r : Pen} → Items F p vs i q → drop i vs ≡ [] → Inks q (num_bits 1 0) r → Inks p ((list F).bits 160 p.at vs) r
  unfolding num_bits
  items-end {i} {q} {r} f e g =
      let s : items_bits F 160 p.at vs ≡ f.done ++ (0 ∷ []) = rw e at f.split in
      inks_as (sym s) (inks-then f.inks g)

-- ## What `write` answers

-- r is the refusal of the record, and b the buffer
module _ (m : Notification) (b : List ℕ) (r : ℕ) (x : r ≡ record_refusal m) where
  pub write_refused : (r ≡ 0 → ⊥) → (r ≡ write_number m (length b)) × (b ≡ after_write m b)
  unfolding after_write
  write_refused h =
      let e = ne_eqb (record_refusal m) 0 (λ z. h (x ∙ z)) in
      let w : write_number m (length b) ≡ record_refusal m = one_more m (length b) ∙ rw e in
      (x ∙ sym w, rw (w, e))

  -- nothing is refused, and p has the form
  module _ (o : r ≡ 0) (p : Pen) (f : Inks no_pen (form m) p) where
    accepted : eqb (record_refusal m) 0 ≡ true
    accepted = eq-eqb (record_refusal m) 0 (sym x ∙ o)

    size_is : p.at ≡ length (form m)
    size_is = f.next ∙ omega arith

    -- and the form is not put into the buffer
    refused : form_fits m (length b) ≡ false → (11 ≡ write_number m (length b)) × (b ≡ after_write m b)
    unfolding after_write
    refused e =
        let w : write_number m (length b) ≡ 11 = one_more m (length b) ∙ rw (accepted, e) in
        (sym w, rw w)

    pub write_long : 160 < p.at → (11 ≡ write_number m (length b)) × (b ≡ after_write m b)
    write_long h = refused (rw (lt-leb (length (form m)) 160 (omega (arith, size_is))))

    module _ (h : p.at ≤ 160) where
      short : leb (length (form m)) 160 ≡ true
      short = le-leb (length (form m)) 160 (omega (arith, size_is))

      pub write-elsewhere : (length b ≡ 20 → ⊥) → (11 ≡ write_number m (length b)) × (b ≡ after_write m b)
      write-elsewhere n = refused (rw (short, ne_eqb (length b) 20 n))

      pub write_done : length b ≡ 20 → (d : List ℕ) → d ≡ stored_in p.words p.at b → (0 ≡ write_number m (length b)) × (d ≡ after_write m b)
      unfolding after_write written
      write_done n d e =
          let w : write_number m (length b) ≡ 0 = one_more m (length b) ∙ rw (accepted, short, eq-eqb (length b) 20 n) in
          let g = stored-bits p.words p.at b (form m) f.adds size_is (omega arith) (omega arith) ∙ ap (λ (k : ℕ). put_bits (replicate k 43) 0 (form m)) n in
          (sym w, rw w (e ∙ g))
