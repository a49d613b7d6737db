-- What the readers of NOTIFICATION/FACCH go by: from the structs that the callees gave back to what the grammar reads. Assumes nothing.
use mathlib.Core.Path.{◌≡◌, refl, sym, ap, ap₂, ◌∙◌}
use mathlib.Core.List.{List}
use mathlib.Core.Bool.{Bool, true}
use mathlib.Core.Option.{Option, none, some}
use mathlib.Core.Logic.{◌⊎◌}
use Prim.Native.Nat.{ℕ, ◌*◌, ◌≤◌, ◌<◌}
use native.Mathlib.Omega.{arith}
use lib.ListN.{length}
use borrow.Author.Tests.{le-leb, lt-leb}
use Rattle.bits.specs.Field.{field}
use Rattle.csn1.specs.declared.Refusal.{Refusal}
use Rattle.csn1.specs.declared.Flagged.{Flagged}
use Rattle.csn1.specs.declared.Lead.{Lead}
use Rattle.csn1.specs.Format.{Res, ok, bad, ◌then◌, ground, no_refusal, renumbered, numbered_as, Format, num, opt, coded, release, ◌⨟◌}
use Rattle.csn1.specs.Grammar.{number, ◌and◌, flagged, later, one_of, format}
use Rattle.csn1.specs.Told.{is_one, or_zero, or_false, read_at_of, flagged_at, flagged_of, coded_of}
use Rattle.csn1.proofs.Promises.{lawful}
use Rattle.csn1.proofs.Reading.{read_at}
use Rattle.csn1.proofs.Callees.{flagged-refused}
use Rattle.csn1.proofs.Answers.{Telling, Answer, answered, unanswered, flag-answered, codes, coded-answered, coded-refused, first-bad, then-bad, then_ok}
use Rattle.call.specs.Call.{CallValue, call_grammar}
use Rattle.facch.specs.declared.Reading.{Reading}
use Rattle.facch.specs.declared.NotifiedAt.{NotifiedAt}
use Rattle.facch.specs.declared.additions.CountAt.{CountAt}
use Rattle.facch.specs.declared.additions.Release6At.{Release6At}
use Rattle.facch.specs.declared.additions.Release7At.{Release7At}
use Rattle.facch.specs.Message.{PagingValue, Release6Value, Release7Value, release6, release7, paging, notification, read_octets}
use Rattle.facch.specs.Told.{reading_of}
use Rattle.facch.specs.Parts.{release6_at_of, release7_at_of}
use Rattle.facch.specs.Inner.{notified_at_of, count_at_of}
use Rattle.facch.proofs.Numbering.{notified-numbered, numbered6, numbered7}
use Rattle.facch.proofs.Notices.{notified}

-- behind a release's H
abbrev behind : {A : Type 0} → ℕ → Res A → Res (Option A)
behind m x = numbered_as m x then λ v q. ok (some v) q

-- ## Release 6: the counts, then VSTK_RAND

abbrev counts : Telling (Option (ℕ × ℕ)) CountAt
counts = record { of = count_at_of; refusal = λ c. c.refusal; at = λ c. c.at; fine = λ a q. refl; place = λ a q. refl; why = λ r. refl }

abbrev whole6 : Refusal → CountAt → Flagged → Release6At
whole6 r c v =
    record {
      refusal = r;
      release = record { hasRelease = true; hasCount = c.hasCount; cellcount = c.cellcount; b22 = c.b22; hasRandom = v.hasValue; rand = v.value };
      at = v.at;
    }

abbrev all6 : Format Release6Value
all6 = opt (num 2 ⨟ num 1) ⨟ opt (num 36)

-- what each call gave, one after the other
module _ (s : List ℕ) (p : ℕ) (l : length s ≤ 4096) (c : CountAt) (ec : c ≡ count_at_of ((opt (num 2 ⨟ num 1)).read s p)) where
  bad6 : (r : Refusal) → all6.read s p ≡ bad r → release6_at_of (bad (renumbered 14 r)) ≡ release6_at_of (behind 14 (all6.read s p))
  bad6 r e = sym (ap (λ (x : Res Release6Value). release6_at_of (behind 14 x)) e)

  pub count-bad : (c.refusal.number ≡ 0 → ⊥) → release6_at_of (bad (renumbered 14 c.refusal)) ≡ release6_at_of (behind 14 (all6.read s p))
  count-bad n = bad6 _ (first-bad (opt (num 2 ⨟ num 1)) (opt (num 36)) s p _ (unanswered counts c _ ec n))

  module _ (zc : c.refusal.number ≡ 0) (v : Flagged) (ev : v ≡ flagged_of (flagged_at s c.at 36)) where
    counted : Answer counts c ((opt (num 2 ⨟ num 1)).read s p)
    counted = answered counts c ((opt (num 2 ⨟ num 1)).read s p) ec ((lawful (flagged (number 2 and number 1)) (tt, tt)).grounds s p) zc

    pub rand-bad : (v.refusal.number ≡ 0 → ⊥) → release6_at_of (bad (renumbered 14 v.refusal)) ≡ release6_at_of (behind 14 (all6.read s p))
    rand-bad n =
        bad6 _ (then-bad (opt (num 2 ⨟ num 1)) (opt (num 36)) s p _ _ _ counted.is (flagged-refused s c.at 36 (omega arith) l v ev n))

    pub parts6-told : v.refusal.number ≡ 0 → (r : Refusal) → r ≡ no_refusal → whole6 r c v ≡ release6_at_of (behind 14 (all6.read s p))
    parts6-told zv r e =
        let given = flag-answered s c.at 36 (omega arith) l v ev zv in
        let all : all6.read s p ≡ ok (counted.value, given.value) v.at =
        then_ok (opt (num 2 ⨟ num 1)) (opt (num 36)) s p _ _ _ _ counted.is given.is in
        ap (λ (x : Refusal). whole6 x c v) e ∙ ap₂ (whole6 no_refusal) counted.told given.told
        ∙ sym (ap (λ (x : Res Release6Value). release6_at_of (behind 14 x)) all)

-- ## Release 7: Priority Uplink Access, Emergency_Ind, Paging Cause

abbrev caused7 : Refusal → Lead → Lead → Flagged → Bool → Release7At
caused7 r u e p b =
    record { refusal = r; release = record { hasRelease = true; uplink = u.high; emergency = e.high; hasCause = p.hasValue; cause = b }; at = p.at }

abbrev whole7 : Refusal → Lead → Lead → Flagged → Release7At
whole7 r u e p = caused7 r u e p (is_one p.value)

-- a bit that may be missing is a number that may be
cause-told : (o : Option ℕ) → is_one (or_zero o) ≡ or_false o
cause-told none = refl
cause-told (some b) = refl

-- what stands behind Priority Uplink Access
abbrev rest7 : Format (ℕ × Option ℕ)
rest7 = coded ⨟ opt (num 1)

abbrev all7 : Format Release7Value
all7 = coded ⨟ rest7

module _ (s : List ℕ) (p : ℕ) (l : length s ≤ 4096) (u : Lead) (eu : u ≡ coded_of (read_at_of coded s p)) where
  bad7 : (r : Refusal) → all7.read s p ≡ bad r → release7_at_of (bad (renumbered 15 r)) ≡ release7_at_of (behind 15 (all7.read s p))
  bad7 r e = sym (ap (λ (x : Res Release7Value). release7_at_of (behind 15 x)) e)

  pub uplink-bad : (u.refusal.number ≡ 0 → ⊥) → release7_at_of (bad (renumbered 15 u.refusal)) ≡ release7_at_of (behind 15 (all7.read s p))
  uplink-bad n = bad7 _ (first-bad coded rest7 s p _ (coded-refused s p l u eu n))

  module _ (zu : u.refusal.number ≡ 0) (e : Lead) (ee : e ≡ coded_of (read_at_of coded s u.at)) where
    linked : Answer codes u (coded.read s p)
    linked = coded-answered s p l u eu zu

    pub emergency-bad : (e.refusal.number ≡ 0 → ⊥) → release7_at_of (bad (renumbered 15 e.refusal)) ≡ release7_at_of (behind 15 (all7.read s p))
    emergency-bad n =
        bad7 _ (then-bad coded rest7 s p _ _ _ linked.is (first-bad coded (opt (num 1)) s u.at _ (coded-refused s u.at l e ee n)))

    module _ (ze : e.refusal.number ≡ 0) (c : Flagged) (ec : c ≡ flagged_of (flagged_at s e.at 1)) where
      marked : Answer codes e (coded.read s u.at)
      marked = coded-answered s u.at l e ee ze

      pub cause-bad : (c.refusal.number ≡ 0 → ⊥) → release7_at_of (bad (renumbered 15 c.refusal)) ≡ release7_at_of (behind 15 (all7.read s p))
      cause-bad n =
          bad7 _
          (then-bad coded rest7 s p _ _ _ linked.is
          (then-bad coded (opt (num 1)) s u.at _ _ _ marked.is (flagged-refused s e.at 1 (omega arith) l c ec n)))

      pub parts7-told : c.refusal.number ≡ 0 → (r : Refusal) → r ≡ no_refusal → whole7 r u e c ≡ release7_at_of (behind 15 (all7.read s p))
      parts7-told zc r z =
          let caused = flag-answered s e.at 1 (omega arith) l c ec zc in
          let all : all7.read s p ≡ ok (linked.value, (marked.value, caused.value)) c.at =
          then_ok coded rest7 s p _ _ _ _ linked.is (then_ok coded (opt (num 1)) s u.at _ _ _ _ marked.is caused.is) in
          let first = coded_of (ok linked.value u.at) in
          let second = coded_of (ok marked.value e.at) in
          ap (λ (x : Refusal). whole7 x u e c) z ∙ ap (λ (x : Lead). whole7 no_refusal x e c) linked.told ∙ ap₂ (whole7 no_refusal first) marked.told caused.told
          ∙ ap (caused7 no_refusal first second (flagged_of (ok caused.value c.at))) (cause-told caused.value)
          ∙ sym (ap (λ (x : Res Release7Value). release7_at_of (behind 15 x)) all)

-- ## The message

abbrev notices : Telling (CallValue ⊎ PagingValue) NotifiedAt
notices = record { of = notified_at_of; refusal = λ c. c.refusal; at = λ c. c.at; fine = λ a q. refl; place = λ a q. refl; why = λ r. refl }

abbrev sixes : Telling (Option Release6Value) Release6At
sixes = record { of = release6_at_of; refusal = λ c. c.refusal; at = λ c. c.at; fine = λ a q. refl; place = λ a q. refl; why = λ r. refl }

abbrev sevens : Telling (Option Release7Value) Release7At
sevens = record { of = release7_at_of; refusal = λ c. c.refusal; at = λ c. c.at; fine = λ a q. refl; place = λ a q. refl; why = λ r. refl }

abbrev whole : Refusal → NotifiedAt → Release6At → Release7At → Reading
whole r n x y =
    record {
      refusal = r;
      used = y.at;
      «record» = record { paging = n.paging; call = n.call; page = n.page; release6 = x.release; release7 = y.release };
    }

-- the parts behind what is notified
abbrev added6 : Format (Option Release6Value)
added6 = release (format release6)

abbrev added7 : Format (Option Release7Value)
added7 = release (format release7)

-- the message has not 2 to 23 octets
pub too_short : (s : List ℕ) → length s < 2 → read_octets s ≡ bad (ground 1)
too_short s h = rw (lt-leb 2 (length s) h)

pub too_long : (s : List ℕ) → 23 < length s → read_octets s ≡ bad (ground 1)
too_long s h = rw (le-leb 2 (length s) (omega arith), lt-leb (length s) 23 h)

module _ (s : List ℕ) (h : 2 ≤ length s) (l : length s ≤ 23) where
  -- the first octet is not looked at
  content-bad : (r : Refusal) → (notified ⨟ added6 ⨟ added7).read s 8 ≡ bad r → read_octets s ≡ bad r
  unfolding notification
  content-bad r e = rw (le-leb 2 (length s) h, le-leb (length s) 23 l, le-leb 8 (length s * 8) (omega arith), e)

  content-ok : (v : (CallValue ⊎ PagingValue) × (Option Release6Value × Option Release7Value)) (q : ℕ) → (notified ⨟ added6 ⨟ added7).read s 8 ≡ ok v q
      → read_octets s ≡ ok (field s 0 8, v) q
  unfolding notification
  content-ok v q e = rw (le-leb 2 (length s) h, le-leb (length s) 23 l, le-leb 8 (length s * 8) (omega arith), e)

  module _ (n : NotifiedAt) (en : n ≡ notified_at_of (notified.read s 8)) where
    pub notified-refused : (n.refusal.number ≡ 0 → ⊥) → read_octets s ≡ bad n.refusal
    notified-refused z = content-bad _ (first-bad notified (added6 ⨟ added7) s 8 _ (unanswered notices n (notified.read s 8) en z))

    module _ (zn : n.refusal.number ≡ 0) (x : Release6At) (ex : x ≡ release6_at_of (read_at_of added6 s n.at)) where
      notice : Answer notices n (notified.read s 8)
      notice = answered notices n (notified.read s 8) en ((lawful (one_of call_grammar paging) notified-numbered).grounds s 8) zn

      six : x ≡ release6_at_of (added6.read s n.at)
      six = ex ∙ ap release6_at_of (read_at added6 s n.at (omega arith))

      pub release6-refused : (x.refusal.number ≡ 0 → ⊥) → read_octets s ≡ bad x.refusal
      release6-refused z =
          content-bad _
          (then-bad notified (added6 ⨟ added7) s 8 _ _ _ notice.is
          (first-bad added6 added7 s n.at _ (unanswered sixes x (added6.read s n.at) six z)))

      module _ (zx : x.refusal.number ≡ 0) (y : Release7At) (ey : y ≡ release7_at_of (read_at_of added7 s x.at)) where
        sixth : Answer sixes x (added6.read s n.at)
        sixth = answered sixes x (added6.read s n.at) six ((lawful (later release6) numbered6).grounds s n.at) zx

        seven : y ≡ release7_at_of (added7.read s x.at)
        seven = ey ∙ ap release7_at_of (read_at added7 s x.at (omega arith))

        pub release7-refused : (y.refusal.number ≡ 0 → ⊥) → read_octets s ≡ bad y.refusal
        release7-refused z =
            content-bad _
            (then-bad notified (added6 ⨟ added7) s 8 _ _ _ notice.is
            (then-bad added6 added7 s n.at _ _ _ sixth.is (unanswered sevens y (added7.read s x.at) seven z)))

        pub message-told : y.refusal.number ≡ 0 → (r : Refusal) → r ≡ no_refusal → whole r n x y ≡ reading_of (read_octets s)
        message-told zy r er =
            let seventh = answered sevens y (added7.read s x.at) seven ((lawful (later release7) numbered7).grounds s x.at) zy in
            let all : read_octets s ≡ ok (field s 0 8, (notice.value, (sixth.value, seventh.value))) y.at =
            content-ok _ _
            (then_ok notified (added6 ⨟ added7) s 8 _ _ _ _ notice.is (then_ok added6 added7 s n.at _ _ _ _ sixth.is seventh.is)) in
            ap (λ (w : Refusal). whole w n x y) er ∙ ap (λ (w : NotifiedAt). whole no_refusal w x y) notice.told
            ∙ ap₂ (whole no_refusal (notified_at_of (ok notice.value n.at))) sixth.told seventh.told ∙ sym (ap reading_of all)
