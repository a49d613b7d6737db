-- Where the parts of the written form stand, what the writer's functions leave there, and what `write` answers. Assumes nothing.
use mathlib.Core.Path.{◌≡◌, refl, sym, ap, ap₂, ◌∙◌}
use mathlib.Core.List.{List, [], ◌∷◌, ◌++◌, append_assoc, append-nil}
use mathlib.Core.Bool.{Bool, true, false}
use mathlib.Core.Option.{Option, none, some}
use mathlib.Core.Logic.{◌⊎◌, inl, inr}
use Prim.Native.Nat.{ℕ, ◌+◌, ◌-◌, ◌*◌, ◌^◌, ◌≤◌, ◌<◌}
use native.Mathlib.Omega.{arith}
use lib.ListN.{length, replicate, length-append}
use lib.Dec.{eqb}
use borrow.Author.Tests.{le-leb, lt-leb, eq-eqb, ne_eqb}
use mir.Val.{bool_byte}
use Rattle.bits.specs.Field.{pick}
use Rattle.csn1.specs.Format.{num, num_bits, row_bits, opt, either_bits, release, put_bits, ◌⨟◌}
use Rattle.csn1.specs.Grammar.{format}
use Rattle.csn1.specs.Told.{there, as_bit}
use Rattle.csn1.proofs.Holding.{length-num_bits}
use Rattle.csn1.proofs.Writing.{flag_byte, flag_lt}
use Rattle.call.specs.Call.{CallValue, call_grammar, group_call, call_value}
use Rattle.call.specs.Write.{call_size}
use Rattle.call.proofs.Laws.{call_anywhere}
use Rattle.pen.specs.declared.Words.{Words}
use Rattle.pen.specs.Words.{whole, whole_after, stored_in, Adds}
use Rattle.pen.proofs.Adding.{adds_as, adds-number, adds-row, adds_then, stored-bits}
use Rattle.facch.specs.declared.Page.{Page}
use Rattle.facch.specs.declared.Notification.{Notification}
use Rattle.facch.specs.Message.{PagingValue, identity, paging, release6, release7, notification}
use Rattle.facch.specs.Back.{paging_value, notified_value, release6_value, release7_value}
use Rattle.facch_write.specs.declared.strips.Strip.{Strip}
use Rattle.facch_write.specs.Write.{record_refusal, form, form_fits, write_number, answer_of, written, after_write}
use Rattle.facch_write.specs.Inner.{Says, head_bits}
use Rattle.facch_write.proofs.Records.{one_more}

-- a strip is as wide as its bits are many
pub width_is : {s : Strip} {bs : List ℕ} → Says s bs → s.width ≡ length bs
width_is {s} f = sym (length-num_bits s.width s.value) ∙ ap length f.bits

-- ## Parts whose bits are the same at every place

tail_anywhere : (n q c : ℕ) (o : Option ℕ) → (num 2 ⨟ opt (num 3)).bits n q (c, o) ≡ (num 2 ⨟ opt (num 3)).bits 0 0 (c, o)
tail_anywhere n q c none = refl
tail_anywhere n q c (some v) = refl

page_anywhere : (n q : ℕ) (v : PagingValue) → (format paging).bits n q v ≡ (format paging).bits 0 0 v
page_anywhere n q (i, (c, none)) = refl
page_anywhere n q (i, (c, some v)) = refl

either_anywhere : (n q : ℕ) (x : CallValue ⊎ PagingValue) → either_bits (format call_grammar) (format paging) n q x ≡ either_bits (format call_grammar) (format paging) 0 q x
unfolding group_call
either_anywhere n q (inl c) = ap (λ (y : List ℕ). 0 ∷ y) (call_anywhere n (q + 1) c ∙ sym (call_anywhere 0 (q + 1) c))
either_anywhere n q (inr p) = ap (λ (y : List ℕ). 1 ∷ y) (page_anywhere n (q + 1) p ∙ sym (page_anywhere 0 (q + 1) p))

pub head_anywhere : (m : Notification) (n : ℕ) → head_bits m n ≡ head_bits m 0
head_anywhere m n = ap (λ (y : List ℕ). num_bits 8 0 ++ y) (either_anywhere n (0 + length (num_bits 8 0)) (notified_value m))

-- ## How many bits they have

page_size : (p : Page) → length ((format paging).bits 0 0 (paging_value p)) ≡ 19 + 8 * (p.identityLength - 1) + pick p.hasPriority 3 0
page_size p = go p.hasPriority
  where
    go : (h : Bool) → length ((format paging).bits 0 0 ((p.identityLength, p.identityFirst ∷ p.identityRest ∷ []), (p.channelFirst, there h p.priority)))
        ≡ 19 + 8 * (p.identityLength - 1) + pick h 3 0
    go true = simp (length-append, length-num_bits) (omega arith)
    go false = simp (length-append, length-num_bits) (omega arith)

module _ (m : Notification) where
  head-long : (x : CallValue ⊎ PagingValue) → notified_value m ≡ x → length (head_bits m 0) ≡ 8 + length (either_bits (format call_grammar) (format paging) 0 8 x)
  unfolding num_bits
  head-long x e = rw e (omega arith)

  pub head-call : m.paging ≡ false → length (head_bits m 0) ≡ 9 + call_size m.call
  unfolding call_size group_call
  head-call e = head-long (inl (call_value m.call)) (rw e) ∙ omega (arith, ap length (call_anywhere 0 9 (call_value m.call)))

  head_page : m.paging ≡ true → length (head_bits m 0) ≡ 9 + length ((format paging).bits 0 0 (paging_value m.page))
  head_page e = head-long (inr (paging_value m.page)) (rw e) ∙ omega (arith, ap length (page_anywhere 0 9 (paging_value m.page)))

  pub head-paged : m.paging ≡ true → 1 ≤ m.page.identityLength → length (head_bits m 0) ≡ 20 + 8 * m.page.identityLength + pick m.page.hasPriority 3 0
  head-paged e h = head_page e ∙ omega (arith, page_size m.page)

-- ## What `put_page` leaves

regrouped : (a b c d : List ℕ) → (a ++ (b ++ [])) ++ (c ++ d) ≡ (a ++ (b ++ (c ++ []))) ++ d
regrouped a b c d = simp (append_assoc, append-nil)

-- the length and the first octet, the other octets, and what stands behind them
module _ (p : Page) (a b c d : ℕ) (some-octets : 1 ≤ p.identityLength) (few : p.identityLength ≤ 9) (first : p.identityFirst < 2 ^ 8)
    (rest : p.identityRest < 2 ^ (8 * (p.identityLength - 1)))
    (x : b ≡ whole_after a 16 (p.identityLength * 256 + p.identityFirst)) (y : c ≡ whole_after b (8 * (p.identityLength - 1)) p.identityRest)
    (s : Strip) (f : Says s ((num 2 ⨟ opt (num 3)).bits 0 0 (p.channelFirst, there p.hasPriority p.priority)))
    (z : d ≡ whole_after c s.width s.value)
  where
    abbrev octets : List ℕ
    octets = num_bits (8 * (p.identityLength - 1)) p.identityRest

    abbrev last : List ℕ
    last = (num 2 ⨟ opt (num 3)).bits 0 0 (p.channelFirst, there p.hasPriority p.priority)

    one : Adds a b (row_bits (8 ∷ 8 ∷ []) (p.identityLength ∷ p.identityFirst ∷ []))
    one =
        adds-row (8 ∷ 8 ∷ []) (p.identityLength ∷ p.identityFirst ∷ []) (p.identityLength * 256 + p.identityFirst) x (omega arith) (omega arith)
        ((omega arith, (first, tt)))

    two : Adds b c octets
    two = adds-number (8 * (p.identityLength - 1)) p.identityRest y (omega arith) rest

    three : Adds c d last
    three = adds_as f.bits (adds-number s.width s.value z (omega (arith, f.few)) f.small)

    tails : last ≡ (num 2 ⨟ opt (num 3)).bits 0 (0 + length ((format identity).bits 0 0 (paging_value p).0)) (p.channelFirst, there p.hasPriority p.priority)
    tails = sym (tail_anywhere 0 (0 + length ((format identity).bits 0 0 (paging_value p).0)) p.channelFirst (there p.hasPriority p.priority))

    joined : row_bits (8 ∷ 8 ∷ []) (p.identityLength ∷ p.identityFirst ∷ []) ++ (octets ++ last) ≡ (format paging).bits 0 0 (paging_value p)
    joined =
        regrouped (num_bits 8 p.identityLength) (num_bits 8 p.identityFirst) octets last
        ∙ ap (λ (t : List ℕ). (num_bits 8 p.identityLength ++ (num_bits 8 p.identityFirst ++ (octets ++ []))) ++ t) tails

    pub page_put : Adds a d ((format paging).bits 0 0 (paging_value p))
    page_put = adds_as joined (adds_then one (adds_then two three))

-- ## What `put_head` leaves

-- y is what is there after the first octet and the bit that says which of the two follows
module _ (m : Notification) (y z : ℕ) (x : y ≡ whole_after 0 9 (bool_byte m.paging)) where
  led : Adds 0 y (row_bits (8 ∷ 1 ∷ []) (0 ∷ as_bit m.paging ∷ []))
  led =
      adds-row (8 ∷ 1 ∷ []) (0 ∷ as_bit m.paging ∷ []) (bool_byte m.paging) x (omega (arith, flag_byte m.paging)) (omega arith)
      ((omega arith, (flag_lt m.paging, tt)))

  pub call_put : m.paging ≡ false → Adds y z (group_call.bits 0 0 (call_value m.call)) → Adds 0 z (head_bits m 0)
  unfolding num_bits group_call
  call_put f g = rw f (adds_then (rw f at led) (adds_as (sym (call_anywhere 0 9 (call_value m.call))) g))

  pub paged_put : m.paging ≡ true → Adds y z ((format paging).bits 0 0 (paging_value m.page)) → Adds 0 z (head_bits m 0)
  unfolding num_bits
  paged_put f g = rw f (adds_then (rw f at led) (adds_as (sym (page_anywhere 0 9 (paging_value m.page))) g))

-- ## The whole form

module _ (m : Notification) (n : ℕ) where
  abbrev six : ℕ → List ℕ
  six p = (release (format release6)).bits (n * 8) p (there m.release6.hasRelease (release6_value m.release6))

  abbrev seven : ℕ → List ℕ
  seven p = (release (format release7)).bits (n * 8) p (there m.release7.hasRelease (release7_value m.release7))

  form-parts : (a b : ℕ) → a ≡ length (head_bits m (n * 8)) → b ≡ a + length (six a) → form m n ≡ head_bits m (n * 8) ++ (six a ++ seven b)
  unfolding form notification
  form-parts a b ea eb =
      let h : List ℕ = num_bits 8 0 in
      let x : List ℕ = either_bits (format call_grammar) (format paging) (n * 8) (0 + length h) (notified_value m) in
      let e6 : 0 + length h + length x ≡ a = omega (arith, length-append h x) in
      let e7 : 0 + length h + length x + length (six (0 + length h + length x)) ≡ b = ap (λ (k : ℕ). k + length (six k)) e6 ∙ sym eb in
      ap₂ (λ (k l : ℕ). h ++ (x ++ (six k ++ seven l))) e6 e7 ∙ sym (append_assoc h x (six a ++ seven b))

  -- a is the place behind the head, and x and y are the two releases as strips
  module _ (a : ℕ) (x y : Strip) (ea : a ≡ length (head_bits m 0)) (ex : Says x (six a)) (ey : Says y (seven (a + x.width))) where
    head-end : a ≡ length (head_bits m (n * 8))
    head-end = ea ∙ sym (ap length (head_anywhere m (n * 8)))

    parts : form m n ≡ head_bits m (n * 8) ++ (six a ++ seven (a + x.width))
    parts = form-parts a (a + x.width) head-end (ap (λ (k : ℕ). a + k) (width_is ex))

    pub used-is : a + x.width + y.width ≡ length (form m n)
    used-is =
        sym (ap length parts ∙ length-append (head_bits m (n * 8)) (six a ++ seven (a + x.width))
        ∙ omega (arith, length-append (six a) (seven (a + x.width)), head-end, width_is ex, width_is ey))

    -- the head, Release 6 and Release 7 were put, and stored
    pub all_put : (w : Words) (h g : ℕ) (s d : List ℕ) → length s ≡ n → n ≤ 23 → Adds 0 h (head_bits m 0) → g ≡ whole_after h x.width x.value → whole w ≡ whole_after g y.width y.value
        → a + x.width + y.width ≤ n * 8 → d ≡ stored_in w (a + x.width + y.width) s → d ≡ written m n
    unfolding written
    all_put w h g s d size few hd hx hy fit e =
        let one : Adds 0 h (head_bits m (n * 8)) = adds_as (sym (head_anywhere m (n * 8))) hd in
        let two : Adds h g (six a) = adds_as ex.bits (adds-number x.width x.value hx (omega (arith, ex.few)) ex.small) in
        let three : Adds g (whole w) (seven (a + x.width)) = adds_as ey.bits (adds-number y.width y.value hy (omega (arith, ey.few)) ey.small) in
        let all : Adds 0 (whole w) (form m n) = adds_as (sym parts) (adds_then one (adds_then two three)) in
        e ∙ stored-bits w (a + x.width + y.width) s (form m n) all used-is (omega arith) (omega arith) ∙ ap (λ (k : ℕ). put_bits (replicate k 43) 0 (form m n)) size

-- ## What `write` answers

-- r is the refusal of the record, and b the buffer
module _ (m : Notification) (b : List ℕ) (r : ℕ) (x : r ≡ record_refusal m) where
  pub write_refused : (r ≡ 0 → ⊥) → (record { refusal = r; used = 0 } ≡ answer_of m (length b)) × (b ≡ after_write m b)
  unfolding answer_of after_write
  write_refused h =
      let e = ne_eqb (record_refusal m) 0 (λ z. h (x ∙ z)) in
      let w : write_number m (length b) ≡ record_refusal m = one_more m (length b) ∙ rw e in
      (rw (w, e, ← x), rw (w, e))

  module _ (o : r ≡ 0) where
    accepted : eqb (record_refusal m) 0 ≡ true
    accepted = eq-eqb (record_refusal m) 0 (sym x ∙ o)

    unfit : form_fits m (length b) ≡ false → (record { refusal = 11; used = 0 } ≡ answer_of m (length b)) × (b ≡ after_write m b)
    unfolding answer_of after_write
    unfit e =
        let w : write_number m (length b) ≡ 11 = one_more m (length b) ∙ rw (accepted, e) in
        (rw w, rw w)

    pub write_small : length b < 2 → (record { refusal = 11; used = 0 } ≡ answer_of m (length b)) × (b ≡ after_write m b)
    write_small h = unfit (rw (lt-leb 2 (length b) h))

    pub write_large : 23 < length b → (record { refusal = 11; used = 0 } ≡ answer_of m (length b)) × (b ≡ after_write m b)
    write_large h = unfit (rw (le-leb 2 (length b) (omega arith), lt-leb (length b) 23 h))

    module _ (two : 2 ≤ length b) (most : length b ≤ 23) (used : ℕ) (u : used ≡ length (form m (length b))) where
      pub write_long : length b * 8 < used → (record { refusal = 11; used = 0 } ≡ answer_of m (length b)) × (b ≡ after_write m b)
      write_long h =
          unfit (rw (le-leb 2 (length b) two, le-leb (length b) 23 most, lt-leb (length (form m (length b))) (length b * 8) (omega arith)))

      pub write_done : used ≤ length b * 8 → (d : List ℕ) → d ≡ written m (length b) → (record { refusal = 0; used = used } ≡ answer_of m (length b)) × (d ≡ after_write m b)
      unfolding answer_of after_write
      write_done h d e =
          let w : write_number m (length b) ≡ 0 =
          one_more m (length b)
          ∙ rw (accepted, le-leb 2 (length b) two, le-leb (length b) 23 most, le-leb (length (form m (length b))) (length b * 8) (omega arith)) in
          (rw (w, u), rw w e)
