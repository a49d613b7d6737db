-- Parts of a message as the one number that their bits make. Assumes nothing.
use mathlib.Core.Path.{◌≡◌, refl, sym, ap, ap₂, ◌∙◌}
use mathlib.Core.List.{List, [], ◌∷◌, ◌++◌}
use mathlib.Core.Bool.{Bool, true, false}
use Prim.Native.Nat.{ℕ, ◌+◌, ◌*◌, ◌%◌, ◌^◌, ◌≤◌, ◌<◌}
use native.Mathlib.Nat.{mod-eq_of_lt, lt_of_lt_of_le}
use native.Mathlib.Omega.{arith}
use lib.Arith.{digits_lt}
use lib.Dec.{eqb}
use lib.Pow.{pow-add, pow_mono, shl_exact}
use mir.Val.{bool_byte}
use Rattle.bits.specs.Field.{pick}
use Rattle.csn1.specs.Format.{Format, num, num_bits, opt, pad_bit, coded_bit, coded, release, ◌⨟◌}
use Rattle.csn1.specs.Grammar.{format}
use Rattle.csn1.specs.Told.{there, as_bit}
use Rattle.csn1.specs.Write.{flagged_right, behind}
use Rattle.bits.proofs.Answers.{both_true}
use Rattle.csn1.proofs.Flags.{flag_limit}
use Rattle.csn1.proofs.Lawful.{pad_lt}
use Rattle.csn1.proofs.Writing.{flag_byte, flag_lt, num-join, led-join}
use Rattle.facch.specs.declared.Page.{Page}
use Rattle.facch.specs.declared.Release6.{Release6}
use Rattle.facch.specs.declared.Release7.{Release7}
use Rattle.facch.specs.Message.{release6, release7}
use Rattle.facch.specs.Back.{release6_value, release7_value}
use Rattle.facch_write.specs.declared.strips.Strip.{Strip}
use Rattle.facch_write.specs.Write.{release6_in_range}
use Rattle.facch_write.specs.Inner.{coded_strip, flagged_strip, absent_strip, beside_strip, Says}

-- ## One bit, a number behind a flag, and strips side by side

coded_lt : (at : ℕ) (h : Bool) → coded_bit at (as_bit h) < 2
coded_lt at true = omega arith
coded_lt at false = pad_lt at

pub says-coded : (at : ℕ) (h : Bool) → Says (coded_strip at h) (coded_bit at (as_bit h) ∷ [])
unfolding num_bits
says-coded at h = record { bits = ap (λ (k : ℕ). k ∷ []) (mod-eq_of_lt (coded_lt at h)); small = coded_lt at h; few = omega arith }

pub flagged-few : (h : Bool) (w v : ℕ) → (flagged_strip h w v).width ≤ 1 + w
flagged-few true w v = omega arith
flagged-few false w v = omega arith

pub says-flagged : (n p : ℕ) (h : Bool) (w v : ℕ) → w ≤ 41 → v < 2 ^ w → Says (flagged_strip h w v) ((opt (num w)).bits n p (there h v))
unfolding num_bits
says-flagged n p true w v l f =
    let e : 1 * 2 ^ w + v ≡ 2 ^ w + v = omega arith in
    record {
      bits = sym (led-join w 1 v (omega arith) f ∙ ap (num_bits (1 + w)) e);
      small = rw (pow-add 2 1 w) (omega arith);
      few = omega arith;
    }
says-flagged n p false w v l f = record { bits = refl; small = omega arith; few = omega arith }

-- two that have place
pub beside_right : {a b : Strip} {xs ys : List ℕ} → Says a xs → Says b ys → a.width + b.width ≤ 42
    → (a.width + b.width ≤ 42) × ((a.value < 2 ^ a.width) × (b.value < 2 ^ b.width))
beside_right f g l = (l, (f.small, g.small))

pub says_beside : {a b : Strip} {xs ys : List ℕ} → Says a xs → Says b ys → a.width + b.width ≤ 42 → Says (beside_strip a b) (xs ++ ys)
says_beside {a} {b} f g l =
    record {
      bits = num-join a.width b.width a.value b.value g.small ∙ ap₂ (λ (x y : List ℕ). x ++ y) f.bits g.bits;
      small = rw (pow-add 2 a.width b.width) (digits_lt f.small g.small);
      few = l;
    }

-- ## A release

module _ {A : Type 0} (F : Format A) (at end : ℕ) (h : Bool) (a : A) where
  pub says-absent : h ≡ false → Says (absent_strip at end) ((release F).bits end at (there h a))
  unfolding num_bits
  says-absent e = rw e (go (eqb at end))
    where
      go : (b : Bool) → Says (pick b (record { width = 0; value = 0 }) (coded_strip at false)) (pick b [] (pad_bit at ∷ []))
      go true = record { bits = refl; small = omega arith; few = omega arith }
      go false = says-coded at false

  pub says_there : h ≡ true → {s : Strip} → Says s (F.bits end (at + 1) a) → 1 + s.width ≤ 42
      → Says (beside_strip (coded_strip at true) s) ((release F).bits end at (there h a))
  says_there e f l = rw e (says_beside (says-coded at true) f l)

-- ## Release 6: the counts, then VSTK_RAND

module _ (r : Release6) (e : release6_in_range r ≡ true) where
  abbrev count : Strip
  count = flagged_strip r.hasCount 3 (r.cellcount * 2 + bool_byte r.b22)

  abbrev random : Strip
  random = flagged_strip r.hasRandom 36 r.rand

  in-range : (flagged_right r.hasCount r.cellcount 4 ≡ true) × (flagged_right r.hasRandom r.rand (2 ^ 36) ≡ true)
  unfolding release6_in_range
  in-range =
      let a = both_true (behind r.hasRelease r.hasCount) _ e in
      let b = both_true (behind r.hasRelease r.hasRandom) _ a.1 in
      let c = both_true (flagged_right r.hasCount r.cellcount 4) _ b.1 in
      (c.0, (both_true (behind r.hasCount r.b22) _ c.1).1)

  pub counts_lt : r.cellcount * 2 + bool_byte r.b22 < 2 ^ 3
  counts_lt = omega (arith, flag_limit r.hasCount r.cellcount 4 in-range.0 (omega arith), flag_byte r.b22, flag_lt r.b22)

  pub rand_lt : r.rand < 2 ^ 36
  rand_lt = flag_limit r.hasRandom r.rand (2 ^ 36) in-range.1 (omega arith)

  pub count-said : (n p : ℕ) → Says count ((opt (num 2 ⨟ num 1)).bits n p (there r.hasCount (r.cellcount, as_bit r.b22)))
  count-said n p =
      let s = says-flagged n p r.hasCount 3 (r.cellcount * 2 + bool_byte r.b22) (omega arith) counts_lt in
      record { bits = s.bits ∙ go r.hasCount; small = s.small; few = s.few }
    where
      go : (h : Bool) → (opt (num 3)).bits n p (there h (r.cellcount * 2 + bool_byte r.b22)) ≡ (opt (num 2 ⨟ num 1)).bits n p (there h (r.cellcount, as_bit r.b22))
      go true = ap (λ (x : List ℕ). 1 ∷ x) (ap (λ (k : ℕ). num_bits 3 (r.cellcount * 2 + k)) (flag_byte r.b22) ∙ num-join 2 1 r.cellcount (as_bit r.b22) (flag_lt r.b22))
      go false = refl

  pub random-said : (n p : ℕ) → Says random ((opt (num 36)).bits n p (there r.hasRandom r.rand))
  random-said n p = says-flagged n p r.hasRandom 36 r.rand (omega arith) rand_lt

  few : count.width + random.width ≤ 41
  few = omega (arith, flagged-few r.hasCount 3 (r.cellcount * 2 + bool_byte r.b22), flagged-few r.hasRandom 36 r.rand)

  -- what the calls gave back
  module _ (at end : ℕ) (x y z : Strip) (ex : x ≡ count) (ey : y ≡ random) (ez : z ≡ coded_strip at true) where
    pub counts_beside : (x.width + y.width ≤ 42) × ((x.value < 2 ^ x.width) × (y.value < 2 ^ y.width))
    counts_beside = rw (ex, ey) (beside_right (count-said 0 0) (random-said 0 0) (omega (arith, few)))

    module _ (u : Strip) (eu : u ≡ beside_strip x y) where
      parts : u ≡ beside_strip count random
      parts = eu ∙ ap₂ beside_strip ex ey

      parts_said : Says (beside_strip count random) ((format release6).bits end (at + 1) (release6_value r))
      parts_said = says_beside (count-said end (at + 1)) (random-said end 0) (omega (arith, few))

      pub six-beside : (z.width + u.width ≤ 42) × ((z.value < 2 ^ z.width) × (u.value < 2 ^ u.width))
      six-beside = rw (ez, parts) (beside_right (says-coded at true) parts_said (omega (arith, few)))

      pub six-said : r.hasRelease ≡ true → (v : Strip) → v ≡ beside_strip z u → Says v ((release (format release6)).bits end at (there r.hasRelease (release6_value r)))
      six-said h v ev =
          let k : v ≡ beside_strip (coded_strip at true) (beside_strip count random) = ev ∙ ap₂ beside_strip ez parts in
          rw k (says_there (format release6) at end r.hasRelease (release6_value r) h parts_said (omega (arith, few)))

-- ## Release 7: Priority Uplink Access, Emergency_Ind, Paging Cause

module _ (r : Release7) (at end : ℕ) where
  abbrev cause : Strip
  cause = flagged_strip r.hasCause 1 (bool_byte r.cause)

  pub cause_lt : bool_byte r.cause < 2 ^ 1
  cause_lt = omega (arith, flag_byte r.cause, flag_lt r.cause)

  cause-said : (n p : ℕ) → Says cause ((opt (num 1)).bits n p (there r.hasCause (as_bit r.cause)))
  cause-said n p = rw (← flag_byte r.cause) (says-flagged n p r.hasCause 1 (bool_byte r.cause) (omega arith) cause_lt)

  few_bits : cause.width ≤ 2
  few_bits = flagged-few r.hasCause 1 (bool_byte r.cause)

  -- what the calls gave back
  module _ (x y z c : Strip) (ex : x ≡ coded_strip (at + 1) r.uplink) (ey : y ≡ coded_strip (at + 2) r.emergency) (ez : z ≡ coded_strip at true) (ec : c ≡ cause) where
    pub cause_beside : (y.width + c.width ≤ 42) × ((y.value < 2 ^ y.width) × (c.value < 2 ^ c.width))
    cause_beside = rw (ey, ec) (beside_right (says-coded (at + 2) r.emergency) (cause-said 0 0) (omega (arith, few_bits)))

    module _ (u : Strip) (eu : u ≡ beside_strip y c) where
      abbrev second : Strip
      second = beside_strip (coded_strip (at + 2) r.emergency) cause

      second_is : u ≡ second
      second_is = eu ∙ ap₂ beside_strip ey ec

      second-said : Says second ((coded ⨟ opt (num 1)).bits end (at + 1 + 1) (as_bit r.emergency, there r.hasCause (as_bit r.cause)))
      second-said =
          let k : at + 2 ≡ at + 1 + 1 = omega arith in
          rw k (says_beside (says-coded (at + 1 + 1) r.emergency) (cause-said end 0) (omega (arith, few_bits)))

      pub emergency-beside : (x.width + u.width ≤ 42) × ((x.value < 2 ^ x.width) × (u.value < 2 ^ u.width))
      emergency-beside = rw (ex, second_is) (beside_right (says-coded (at + 1) r.uplink) second-said (omega (arith, few_bits)))

      module _ (v : Strip) (ev : v ≡ beside_strip x u) where
        abbrev parts7 : Strip
        parts7 = beside_strip (coded_strip (at + 1) r.uplink) second

        parts7-is : v ≡ parts7
        parts7-is = ev ∙ ap₂ beside_strip ex second_is

        parts7-said : Says parts7 ((format release7).bits end (at + 1) (release7_value r))
        parts7-said = says_beside (says-coded (at + 1) r.uplink) second-said (omega (arith, few_bits))

        pub seven-beside : (z.width + v.width ≤ 42) × ((z.value < 2 ^ z.width) × (v.value < 2 ^ v.width))
        seven-beside = rw (ez, parts7-is) (beside_right (says-coded at true) parts7-said (omega (arith, few_bits)))

        pub seven-said : r.hasRelease ≡ true → (w : Strip) → w ≡ beside_strip z v → Says w ((release (format release7)).bits end at (there r.hasRelease (release7_value r)))
        seven-said h w ew =
            let k : w ≡ beside_strip (coded_strip at true) parts7 = ew ∙ ap₂ beside_strip ez parts7-is in
            rw k (says_there (format release7) at end r.hasRelease (release7_value r) h parts7-said (omega (arith, few_bits)))

-- ## Behind a mobile identity: channel first, the priority

module _ (p : Page) (hc : p.channelFirst < 4) (hp : p.priority < 8) where
  abbrev first : Strip
  first = record { width = 2; value = p.channelFirst }

  first_said : Says first (num_bits 2 p.channelFirst)
  first_said = record { bits = refl; small = hc; few = omega arith }

  priority-said : (n q : ℕ) → Says (flagged_strip p.hasPriority 3 p.priority) ((opt (num 3)).bits n q (there p.hasPriority p.priority))
  priority-said n q = says-flagged n q p.hasPriority 3 p.priority (omega arith) hp

  module _ (x : Strip) (ex : x ≡ flagged_strip p.hasPriority 3 p.priority) where
    few-both : first.width + x.width ≤ 42
    few-both = omega (arith, flagged-few p.hasPriority 3 p.priority, ap (λ (s : Strip). s.width) ex)

    pub priority_beside : (2 + x.width ≤ 42) × ((p.channelFirst < 2 ^ 2) × (x.value < 2 ^ x.width))
    priority_beside = (few-both, (hc, rw ex (priority-said 0 0).small))

    pub channel-said : (y : Strip) → y ≡ beside_strip first x → Says y ((num 2 ⨟ opt (num 3)).bits 0 0 (p.channelFirst, there p.hasPriority p.priority))
    channel-said y ey =
        let k : y ≡ beside_strip first (flagged_strip p.hasPriority 3 p.priority) = ey ∙ ap (beside_strip first) ex in
        rw k (says_beside first_said (priority-said 0 0) (omega (arith, flagged-few p.hasPriority 3 p.priority)))

-- ## What shifting and adding gives

module _ (a b : Strip) (h : (a.width + b.width ≤ 42) × ((a.value < 2 ^ a.width) × (b.value < 2 ^ b.width))) where
  pub shifted : (a.value * 2 ^ b.width) % 2 ^ 64 ≡ a.value * 2 ^ b.width
  shifted = shl_exact a.width b.width 64 h.1.0 (omega (arith, h.0))

  pub shifted_lt : a.value * 2 ^ b.width + b.value < 2 ^ 42
  shifted_lt = lt_of_lt_of_le (rw (pow-add 2 a.width b.width) (digits_lt h.1.0 h.1.1)) (pow_mono {i = a.width + b.width} {j = 42} h.0)
