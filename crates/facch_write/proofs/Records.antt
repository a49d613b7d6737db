-- A notification as record and as value: each says the other, and what the writer asks of the record is what the grammar asks of the value. Assumes nothing.
use mathlib.Core.Path.{◌≡◌, refl, sym, ◌∙◌}
use mathlib.Core.List.{List, [], ◌∷◌}
use mathlib.Core.Bool.{Bool, true, false, not}
use mathlib.Core.Option.{Option, none, some}
use mathlib.Core.Logic.{◌⊎◌, inl, inr}
use Prim.Native.Nat.{ℕ, zero, suc, ◌-◌, ◌*◌, ◌^◌, ◌≤◌, ◌<◌}
use native.Mathlib.Omega.{arith}
use lib.ListN.{get_or}
use lib.Dec.{leb, ltb, eqb}
use borrow.Author.Tests.{ltb-true, leb-true, eqb-true, lt-ltb, le-ltb, ne_eqb, not-true}
use Rattle.bits.specs.Field.{both, pick}
use Rattle.csn1.specs.Format.{num, RowFits, OptFits, EitherFits, ◌⨟◌}
use Rattle.csn1.specs.Grammar.{format}
use Rattle.csn1.specs.Told.{there, as_bit}
use Rattle.csn1.specs.Write.{flagged_right, behind}
use Rattle.bits.proofs.Answers.{both_true}
use Rattle.csn1.proofs.Flags.{flag-fits, fits-flag, flag-zero, flag-none, bit-fits, behind-none, behind-bit, bit-behind}
use Rattle.csn1.proofs.Telling.{true-both, picked, due-last}
use Rattle.csn1.proofs.Writing.{flag-back, flag_lt, there_back}
use Rattle.call.specs.declared.Call.{Call}
use Rattle.call.specs.Call.{CallValue, call_grammar, group_call, no_call, call_of, call_value}
use Rattle.call.specs.Write.{call_in_range, call_is_zero, call_is_low, call_length_right, call_hops_right}
use Rattle.call.proofs.Record.{call_fits, call_back, value-in_range, value_low, value-length, value-hops, zero_is, no_call-zero}
use Rattle.facch.specs.declared.Page.{Page}
use Rattle.facch.specs.declared.Release6.{Release6}
use Rattle.facch.specs.declared.Release7.{Release7}
use Rattle.facch.specs.declared.Notification.{Notification}
use Rattle.facch.specs.Message.{one_to_nine, PagingValue, paging, Release6Value, release6, Release7Value, release7, Value, notification}
use Rattle.facch.specs.Told.{no_page, page_of, cell_count_in, b22_count_in, release6_of, release7_of, is_paging, call_in, page_in, record_of}
use Rattle.facch.specs.Back.{paging_value, release6_value, release7_value, value_of}
use Rattle.facch_write.specs.Write.{identity_in_range, page_in_range, page_is_zero, notified_in_range, release6_in_range, release7_in_range}
use Rattle.facch_write.specs.Write.{in_range, identity_right, record_tests, record_refusal, form_fits, write_number}

-- only 0 is below 1
pub below_one : (n : ℕ) → eqb n 0 ≡ ltb n 1
below_one zero = refl
below_one (suc n) = ne_eqb (suc n) 0 (λ e. omega arith) ∙ sym (le-ltb (suc n) 1 (omega arith))

-- ## A page

-- 1 to 9 octets
pub nine : (n : ℕ) → one_to_nine n ≡ true → (1 ≤ n) × (n ≤ 9)
nine n e =
    let a = both_true (leb 1 n) (leb n 9) e in
    (leb-true 1 n a.0, leb-true n 9 a.1)

-- what the writer asks of one
pub record RightPage (p : Page) : Type 0 where
  pub identity : identity_in_range p.identityLength p.identityFirst p.identityRest ≡ true
  pub channel : p.channelFirst < 4
  pub priority : flagged_right p.hasPriority p.priority 8 ≡ true

pub right_page : (p : Page) → page_in_range p ≡ true → RightPage p
unfolding page_in_range
right_page p e =
    let a = both_true (identity_in_range p.identityLength p.identityFirst p.identityRest) _ e in
    let b = both_true (ltb p.channelFirst 4) _ a.1 in
    record { identity = a.0; channel = ltb-true p.channelFirst 4 b.0; priority = b.1 }

-- the octets of an identity that has some
pub octets-right : (n f r : ℕ) → identity_in_range n f r ≡ true → 1 ≤ n → (f < 2 ^ 8) × (r < 2 ^ (8 * (n - 1)))
octets-right n f r e h =
    let a = both_true (pick (eqb n 0) (eqb f 0) (ltb f (2 ^ 8))) (ltb r (2 ^ (8 * (n - 1)))) e in
    let b : ltb f (2 ^ 8) ≡ true = rw (ne_eqb n 0 (λ z. omega arith)) at a.0 in
    (ltb-true f (2 ^ 8) b, ltb-true r (2 ^ (8 * (n - 1))) a.1)

pub page_fits : (p : Page) → page_in_range p ≡ true → one_to_nine p.identityLength ≡ true → (format paging).fits (paging_value p)
page_fits p e o =
    let t = right_page p e in
    let k = nine p.identityLength o in
    let q = octets-right p.identityLength p.identityFirst p.identityRest t.identity k.0 in
    (((omega (arith, k.1), o), (q.0, (q.1, tt))), (t.channel, flag-fits p.hasPriority p.priority 3 t.priority))

page_back : (p : Page) → page_in_range p ≡ true → page_of (paging_value p) ≡ p
page_back p e =
    λ i.
    record {
      identityLength = p.identityLength;
      identityFirst = p.identityFirst;
      identityRest = p.identityRest;
      channelFirst = p.channelFirst;
      hasPriority = there_back p.hasPriority p.priority i;
      priority = flag-zero p.hasPriority p.priority 8 (right_page p e).priority i;
    }

pub zero_page : (p : Page) → page_is_zero p ≡ true → no_page ≡ p
unfolding page_is_zero
zero_page p e =
    let a = both_true (eqb p.identityLength 0) _ e in
    let b = both_true (eqb p.identityFirst 0) _ a.1 in
    let c = both_true (eqb p.identityRest 0) _ b.1 in
    let d = both_true (eqb p.channelFirst 0) _ c.1 in
    let g = both_true (not p.hasPriority) (eqb p.priority 0) d.1 in
    λ i.
    record {
      identityLength = sym (eqb-true p.identityLength 0 a.0) i;
      identityFirst = sym (eqb-true p.identityFirst 0 b.0) i;
      identityRest = sym (eqb-true p.identityRest 0 c.0) i;
      channelFirst = sym (eqb-true p.channelFirst 0 d.0) i;
      hasPriority = sym (not-true p.hasPriority g.0) i;
      priority = sym (eqb-true p.priority 0 g.1) i;
    }

value_page : (v : PagingValue) → (format paging).fits v → (page_in_range (page_of v) ≡ true) × (one_to_nine (page_of v).identityLength ≡ true)
unfolding page_in_range
value_page ((n, l), (c, o)) h =
    let k = nine n h.0.0.1 in
    (true-both (octets l h.0.1 k.0) (true-both (lt-ltb c 4 h.1.0) (fits-flag o 3 h.1.1)), h.0.0.1)
  where
    octets : (l : List ℕ) → RowFits (8 ∷ 8 * (n - 1) ∷ []) l → 1 ≤ n → identity_in_range n (get_or l 0 0) (get_or l 1 0) ≡ true
    octets [] f k = absurd f
    octets (a ∷ []) f k = absurd f.1
    octets (a ∷ b ∷ []) f k = rw (ne_eqb n 0 (λ z. omega arith)) (true-both (lt-ltb a (2 ^ 8) f.0) (lt-ltb b (2 ^ (8 * (n - 1))) f.1.0))
    octets (a ∷ b ∷ d ∷ l) f k = absurd f.1.1

-- ## A call or a page

module _ (c : Call) (p : Page) where
  abbrev either-value : Bool → CallValue ⊎ PagingValue
  either-value b = pick b (inr (paging_value p)) (inl (call_value c))

  module _ (low : call_is_low c ≡ true) (lengths : call_length_right c ≡ true) (hops : call_hops_right c ≡ true) where
    notified-fits : (b : Bool) → pick b (both (call_is_zero c) (page_in_range p)) (both (call_in_range c) (page_is_zero p)) ≡ true
        → pick b (one_to_nine p.identityLength) true ≡ true → EitherFits (format call_grammar) (format paging) (either-value b)
    unfolding group_call
    notified-fits true e o = page_fits p (both_true (call_is_zero c) (page_in_range p) e).1 o
    notified-fits false e o = call_fits c (both_true (call_in_range c) (page_is_zero p) e).0 low lengths hops

  paging-back : (b : Bool) → is_paging (either-value b) ≡ b
  paging-back true = refl
  paging-back false = refl

  call-again : (b : Bool) → pick b (both (call_is_zero c) (page_in_range p)) (both (call_in_range c) (page_is_zero p)) ≡ true → call_in (either-value b) ≡ c
  call-again true e = sym (zero_is c (both_true (call_is_zero c) (page_in_range p) e).0)
  call-again false e = call_back c (both_true (call_in_range c) (page_is_zero p) e).0

  page_again : (b : Bool) → pick b (both (call_is_zero c) (page_in_range p)) (both (call_in_range c) (page_is_zero p)) ≡ true → page_in (either-value b) ≡ p
  page_again true e = page_back p (both_true (call_is_zero c) (page_in_range p) e).1
  page_again false e = zero_page p (both_true (call_in_range c) (page_is_zero p) e).1

-- ## Release 6

pub record Right6 (r : Release6) : Type 0 where
  pub counted : behind r.hasRelease r.hasCount ≡ true
  pub given : behind r.hasRelease r.hasRandom ≡ true
  pub count : flagged_right r.hasCount r.cellcount 4 ≡ true
  pub b22 : behind r.hasCount r.b22 ≡ true
  pub rand : flagged_right r.hasRandom r.rand (2 ^ 36) ≡ true

pub right6 : (r : Release6) → release6_in_range r ≡ true → Right6 r
unfolding release6_in_range
right6 r e =
    let a = both_true (behind r.hasRelease r.hasCount) _ e in
    let b = both_true (behind r.hasRelease r.hasRandom) _ a.1 in
    let c = both_true (flagged_right r.hasCount r.cellcount 4) _ b.1 in
    let d = both_true (behind r.hasCount r.b22) _ c.1 in
    record { counted = a.0; given = b.0; count = c.0; b22 = d.0; rand = d.1 }

fits6 : (r : Release6) → release6_in_range r ≡ true → OptFits (format release6) (there r.hasRelease (release6_value r))
fits6 r e = go r.hasRelease
  where
    t : Right6 r
    t = right6 r e

    counts : (h : Bool) → flagged_right h r.cellcount 4 ≡ true → OptFits (num 2 ⨟ num 1) (there h (r.cellcount, as_bit r.b22))
    counts true k = (ltb-true r.cellcount 4 k, flag_lt r.b22)
    counts false k = tt

    go : (h : Bool) → OptFits (format release6) (there h (release6_value r))
    go true = (counts r.hasCount t.count, flag-fits r.hasRandom r.rand 36 t.rand)
    go false = tt

first_count : (h : Bool) (c y : ℕ) → flagged_right h c 4 ≡ true → cell_count_in (there h (c, y)) ≡ c
first_count true c y e = refl
first_count false c y e = sym (eqb-true c 0 e)

second-count : (h b : Bool) (x : ℕ) → behind h b ≡ true → b22_count_in (there h (x, as_bit b)) ≡ b
second-count true b x e = flag-back b
second-count false b x e = sym (not-true b e)

back6 : (r : Release6) → release6_in_range r ≡ true → release6_of (there r.hasRelease (release6_value r)) ≡ r
back6 r e = go r.hasRelease refl
  where
    t : Right6 r
    t = right6 r e

    go : (h : Bool) → r.hasRelease ≡ h → release6_of (there h (release6_value r)) ≡ r
    go true o =
        λ i.
        record {
          hasRelease = sym o i;
          hasCount = there_back {A = ℕ × ℕ} r.hasCount (r.cellcount, as_bit r.b22) i;
          cellcount = first_count r.hasCount r.cellcount (as_bit r.b22) t.count i;
          b22 = second-count r.hasCount r.b22 r.cellcount t.b22 i;
          hasRandom = there_back r.hasRandom r.rand i;
          rand = flag-zero r.hasRandom r.rand (2 ^ 36) t.rand i;
        }
    go false o =
        let c = behind-none r.hasRelease r.hasCount o t.counted in
        let g = behind-none r.hasRelease r.hasRandom o t.given in
        λ i.
        record {
          hasRelease = sym o i;
          hasCount = sym c i;
          cellcount = flag-none r.hasCount r.cellcount 4 c t.count i;
          b22 = sym (behind-none r.hasCount r.b22 c t.b22) i;
          hasRandom = sym g i;
          rand = flag-none r.hasRandom r.rand (2 ^ 36) g t.rand i;
        }

value6 : (o : Option Release6Value) → OptFits (format release6) o → release6_in_range (release6_of o) ≡ true
unfolding release6_in_range
value6 none f = refl
value6 (some (none, r)) f = fits-flag r 36 f.1
value6 (some (some (c, b), r)) f = true-both (lt-ltb c 4 f.0.0) (fits-flag r 36 f.1)

-- ## Release 7

fits7 : (r : Release7) → OptFits (format release7) (there r.hasRelease (release7_value r))
fits7 r = go r.hasRelease
  where
    go : (h : Bool) → OptFits (format release7) (there h (release7_value r))
    go true = (flag_lt r.uplink, (flag_lt r.emergency, bit-fits r.hasCause r.cause))
    go false = tt

module _ (r : Release7) (u : behind r.hasRelease r.uplink ≡ true) (m : behind r.hasRelease r.emergency ≡ true)
    (k : behind r.hasRelease r.hasCause ≡ true) (z : behind r.hasCause r.cause ≡ true)
  where
    made7 : (h : Bool) → r.hasRelease ≡ h → release7_of (there h (release7_value r)) ≡ r
    made7 true o =
        λ i.
        record {
          hasRelease = sym o i;
          uplink = flag-back r.uplink i;
          emergency = flag-back r.emergency i;
          hasCause = there_back r.hasCause (as_bit r.cause) i;
          cause = behind-bit r.hasCause r.cause z i;
        }
    made7 false o =
        let n = behind-none r.hasRelease r.hasCause o k in
        λ i.
        record {
          hasRelease = sym o i;
          uplink = sym (behind-none r.hasRelease r.uplink o u) i;
          emergency = sym (behind-none r.hasRelease r.emergency o m) i;
          hasCause = sym n i;
          cause = sym (behind-none r.hasCause r.cause n z) i;
        }

back7 : (r : Release7) → release7_in_range r ≡ true → release7_of (there r.hasRelease (release7_value r)) ≡ r
unfolding release7_in_range
back7 r e =
    let a = both_true (behind r.hasRelease r.uplink) _ e in
    let b = both_true (behind r.hasRelease r.emergency) _ a.1 in
    let c = both_true (behind r.hasRelease r.hasCause) (behind r.hasCause r.cause) b.1 in
    made7 r a.0 b.0 c.0 c.1 r.hasRelease refl

value7 : (o : Option Release7Value) → release7_in_range (release7_of o) ≡ true
unfolding release7_in_range
value7 none = refl
value7 (some (u, (e, c))) = bit-behind c

-- ## The whole

-- what the writer asks of a record, but for the length of its written form
pub record Right (m : Notification) : Type 0 where
  pub notified : notified_in_range m ≡ true
  pub six : release6_in_range m.release6 ≡ true
  pub seven : release7_in_range m.release7 ≡ true
  pub low : call_is_low m.call ≡ true
  pub lengths : call_length_right m.call ≡ true
  pub identity : pick m.paging (one_to_nine m.page.identityLength) true ≡ true
  pub hops : call_hops_right m.call ≡ true

-- the writer makes one test more
pub one_more : (m : Notification) (n : ℕ) → write_number m n ≡ pick (eqb (record_refusal m) 0) (pick (form_fits m n) 0 11) (record_refusal m)
unfolding record_refusal write_number
one_more m n = due-last (record_tests m) ((form_fits m n, 11) ∷ []) ((omega arith, (omega arith, (omega arith, (omega arith, (omega arith, tt))))))

pub right : (m : Notification) → record_refusal m ≡ 0 → Right m
unfolding record_refusal in_range identity_right
right m e =
    let a = picked (in_range m) _ 12 (omega arith) e in
    let b = picked (call_is_low m.call) _ 4 (omega arith) a.1 in
    let c = picked (call_length_right m.call) _ 3 (omega arith) b.1 in
    let d = picked (identity_right m) _ 8 (omega arith) c.1 in
    let g = picked (call_hops_right m.call) 0 5 (omega arith) d.1 in
    let j = both_true (notified_in_range m) _ a.0 in
    let k = both_true (release6_in_range m.release6) (release7_in_range m.release7) j.1 in
    record { notified = j.0; six = k.0; seven = k.1; low = b.0; lengths = c.0; identity = d.0; hops = g.0 }

pub right-all : (m : Notification) → Right m → record_refusal m ≡ 0
unfolding record_refusal in_range identity_right
right-all m t =
    rw (true-both t.notified (true-both t.six t.seven), t.low, t.lengths, t.identity, t.hops)

module _ (m : Notification) (t : Right m) where
  pub record_fits : notification.fits (value_of 0 m)
  unfolding notification notified_in_range
  record_fits = (
    omega arith,
    (
      notified-fits m.call m.page t.low t.lengths t.hops m.paging t.notified t.identity,
      (fits6 m.release6 t.six, fits7 m.release7),
    ),
  )

  pub record_back : record_of (value_of 0 m) ≡ m
  unfolding notified_in_range
  record_back =
      λ i.
      record {
        paging = paging-back m.call m.page m.paging i;
        call = call-again m.call m.page m.paging t.notified i;
        page = page_again m.call m.page m.paging t.notified i;
        release6 = back6 m.release6 t.six i;
        release7 = back7 m.release7 t.seven i;
      }

-- what holds of a call that fits, and of none
module _ (c : CallValue) (h : (format call_grammar).fits c) where
  in-range : call_in_range (call_of c) ≡ true
  unfolding group_call
  in-range = value-in_range c h

  low-call : call_is_low (call_of c) ≡ true
  unfolding group_call
  low-call = value_low c h

  length-call : call_length_right (call_of c) ≡ true
  unfolding group_call
  length-call = value-length c h

  hops-call : call_hops_right (call_of c) ≡ true
  unfolding group_call
  hops-call = value-hops c h

no_page-zero : page_is_zero no_page ≡ true
unfolding page_is_zero
no_page-zero = refl

no_call-low : call_is_low no_call ≡ true
unfolding call_is_low
no_call-low = refl

no_call-length : call_length_right no_call ≡ true
unfolding call_length_right
no_call-length = refl

no_call-hops : call_hops_right no_call ≡ true
unfolding call_hops_right
no_call-hops = refl

-- from a value that fits
module _ (v : Value) (f : notification.fits v) where
  parts : EitherFits (format call_grammar) (format paging) v.1.0 × OptFits (format release6) v.1.1.0
  unfolding notification
  parts = (f.1.0, f.1.1.0)

  pub value-right : Right (record_of v)
  unfolding notified_in_range
  value-right =
      record {
        notified = range v.1.0 parts.0;
        six = value6 v.1.1.0 parts.1;
        seven = value7 v.1.1.1;
        low = is-low v.1.0 parts.0;
        lengths = has-length v.1.0 parts.0;
        identity = is-identity v.1.0 parts.0;
        hops = does-hop v.1.0 parts.0;
      }
    where
      range : (x : CallValue ⊎ PagingValue) → EitherFits (format call_grammar) (format paging) x
          → pick (is_paging x) (both (call_is_zero (call_in x)) (page_in_range (page_in x))) (both (call_in_range (call_in x)) (page_is_zero (page_in x))) ≡ true
      range (inl c) h = true-both (in-range c h) no_page-zero
      range (inr p) h = true-both no_call-zero (value_page p h).0

      is-low : (x : CallValue ⊎ PagingValue) → EitherFits (format call_grammar) (format paging) x → call_is_low (call_in x) ≡ true
      is-low (inl c) h = low-call c h
      is-low (inr p) h = no_call-low

      has-length : (x : CallValue ⊎ PagingValue) → EitherFits (format call_grammar) (format paging) x → call_length_right (call_in x) ≡ true
      has-length (inl c) h = length-call c h
      has-length (inr p) h = no_call-length

      is-identity : (x : CallValue ⊎ PagingValue) → EitherFits (format call_grammar) (format paging) x → pick (is_paging x) (one_to_nine (page_in x).identityLength) true ≡ true
      is-identity (inl c) h = refl
      is-identity (inr p) h = (value_page p h).1

      does-hop : (x : CallValue ⊎ PagingValue) → EitherFits (format call_grammar) (format paging) x → call_hops_right (call_in x) ≡ true
      does-hop (inl c) h = hops-call c h
      does-hop (inr p) h = no_call-hops

-- ## What a right record says of its one branch

pub call-right : (m : Notification) → Right m → m.paging ≡ false
    → both (call_in_range m.call) (both (call_is_low m.call) (both (call_length_right m.call) (call_hops_right m.call))) ≡ true
unfolding notified_in_range
call-right m t f =
    let e : both (call_in_range m.call) (page_is_zero m.page) ≡ true = rw f at t.notified in
    true-both (both_true (call_in_range m.call) (page_is_zero m.page) e).0 (true-both t.low (true-both t.lengths t.hops))

pub page_right : (m : Notification) → Right m → m.paging ≡ true → (page_in_range m.page ≡ true) × (one_to_nine m.page.identityLength ≡ true)
unfolding notified_in_range
page_right m t f =
    let e : both (call_is_zero m.call) (page_in_range m.page) ≡ true = rw f at t.notified in
    let o : one_to_nine m.page.identityLength ≡ true = rw f at t.identity in
    ((both_true (call_is_zero m.call) (page_in_range m.page) e).1, o)

pub page_nine : (m : Notification) → Right m → m.paging ≡ true → (1 ≤ m.page.identityLength) × (m.page.identityLength ≤ 9)
page_nine m t f = nine m.page.identityLength (page_right m t f).1
