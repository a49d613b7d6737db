-- What the reader of the whole goes by: the four parts in a row, and what is counted behind them. Assumes nothing.
use mathlib.Core.Path.{◌≡◌, refl, ap, ap₂, ◌∙◌}
use mathlib.Core.List.{List}
use mathlib.Core.Bool.{Bool, true, false}
use mathlib.Core.Option.{Option, none, some}
use Prim.Native.Nat.{ℕ, ◌+◌, ◌*◌, ◌≤◌, ◌<◌}
use native.Mathlib.Omega.{arith}
use lib.ListN.{length}
use lib.Dec.{eqb}
use borrow.Author.Tests.{le-leb, lt-leb, eq-eqb, ne_eqb}
use Rattle.bits.specs.Field.{field, pick}
use Rattle.csn1.specs.declared.Refusal.{Refusal}
use Rattle.csn1.specs.declared.Flagged.{Flagged}
use Rattle.csn1.specs.Format.{Res, ok, bad, ◌then◌, ground, Format, num, opt, list, release, ◌⨟◌}
use Rattle.csn1.specs.Grammar.{format, later}
use Rattle.csn1.specs.Promises.{Lawful}
use Rattle.csn1.specs.Told.{flagged_at, flagged_of}
use Rattle.csn1.proofs.Promises.{lawful}
use Rattle.csn1.proofs.Lawful.{list_lawful}
use Rattle.csn1.proofs.Reading.{flagged-at}
use Rattle.csn1.proofs.Answers.{Answer, answered, unanswered, flags, flag-answered, first-bad, then-bad, then_ok}
use Rattle.call.specs.Call.{group_call}
use Rattle.nch.specs.declared.lists.CallsPassed.{CallsPassed}
use Rattle.nch.specs.declared.lists.ListPassed.{ListPassed}
use Rattle.nch.specs.declared.additions.Release6Passed.{Release6Passed}
use Rattle.nch.specs.Octets.{Value, Release6Value, Release7Value, rest_parts, notification, release6, release7, count}
use Rattle.nch.specs.Octets.{ciphered_value, described_value, reduceds_in, randoms_in, marks_in, randoms_fit, marks_fit, read_octets}
use Rattle.nch.specs.Inner.{calls_passed, release6_passed, release7_passed}
use Rattle.nch.proofs.Numbering.{numbered6, numbered7, parts-numbered}
use Rattle.nch.proofs.Passed.{calls, six, seven}
use Rattle.nch.proofs.InPlaces.{count_le}
use Rattle.nch.proofs.Round.{four-calls, five-reduced}
use Rattle.nch.proofs.CallsKept.{call-lawful}

-- ## The whole, and what is counted behind its parts

pub not_twenty : (s : List ℕ) → (length s ≡ 20 → ⊥) → read_octets s ≡ bad (ground 1)
not_twenty s n = rw (ne_eqb (length s) 20 n)

-- twenty octets: the parts, then refusal 6, then refusal 7
abbrev tests : Res Value → Res Value
tests x = (x then λ v q. pick (randoms_fit v) (ok v q) (bad (ground 6))) then λ v q. pick (marks_fit v) (ok v q) (bad (ground 7))

twenty : (s : List ℕ) → length s ≡ 20 → read_octets s ≡ tests ((format rest_parts).read s 0)
unfolding notification
twenty s l = rw (eq-eqb (length s) 20 l)

-- ## The four parts in a row

abbrev F3 : Format (Option Release6Value)
F3 = release (format release6)

abbrev F4 : Format (Option Release7Value)
F4 = release (format release7)

abbrev row : Format Value
row = opt (num 2) ⨟ list group_call ⨟ F3 ⨟ F4

row_is : (s : List ℕ) → (format rest_parts).read s 0 ≡ row.read s 0
unfolding group_call
row_is s = refl

parts-lawful : Lawful (format rest_parts)
parts-lawful = lawful rest_parts parts-numbered

module _ (s : List ℕ) (t : length s ≡ 20) (n : Flagged) (en : n ≡ flagged_of (flagged_at s 0 2)) where
  bad-told : (r : Refusal) → row.read s 0 ≡ bad r → read_octets s ≡ bad r
  bad-told r e = twenty s t ∙ ap tests (row_is s ∙ e)

  -- its three bits at most are there
  nln-there : n.refusal.number ≡ 0
  nln-there =
      ap (λ (x : Flagged). x.refusal.number) (en ∙ ap flagged_of (flagged-at s 0 2 (omega arith) (omega arith)))
      ∙ rw (le-leb 1 (length s * 8) (omega arith), le-leb 3 (length s * 8) (omega arith)) (go (eqb (field s 0 1) 0))
    where
      go : (b : Bool) → (flagged_of (pick b (ok none 1) (ok (some (field s 1 2)) 3))).refusal.number ≡ 0
      go true = refl
      go false = refl

  pub led : Answer flags n ((opt (num 2)).read s 0)
  led = flag-answered s 0 2 (omega arith) (omega arith) n en nln-there

  behind-nln : (r : Refusal) → (list group_call ⨟ F3 ⨟ F4).read s n.at ≡ bad r → read_octets s ≡ bad r
  behind-nln r e = bad-told r (then-bad (opt (num 2)) (list group_call ⨟ F3 ⨟ F4) s 0 _ _ r led.is e)

  module _ (c : CallsPassed) (ec : c ≡ calls_passed ((list group_call).read s n.at)) where
    pub calls-bad : (c.refusal.number ≡ 0 → ⊥) → read_octets s ≡ bad c.refusal
    calls-bad z = behind-nln _ (first-bad (list group_call) (F3 ⨟ F4) s n.at _ (unanswered calls c _ ec z))

    module _ (zc : c.refusal.number ≡ 0) where
      pub called : Answer calls c ((list group_call).read s n.at)
      called = answered calls c ((list group_call).read s n.at) ec ((list_lawful group_call call-lawful).grounds s n.at) zc

      behind-calls : (r : Refusal) → (F3 ⨟ F4).read s c.at ≡ bad r → read_octets s ≡ bad r
      behind-calls r e = behind-nln r (then-bad (list group_call) (F3 ⨟ F4) s n.at _ _ r called.is e)

      module _ (a : Release6Passed) (ea : a ≡ release6_passed (F3.read s c.at)) where
        pub six-bad : (a.refusal.number ≡ 0 → ⊥) → read_octets s ≡ bad a.refusal
        six-bad z = behind-calls _ (first-bad F3 F4 s c.at _ (unanswered six a _ ea z))

        module _ (za : a.refusal.number ≡ 0) where
          pub sixth : Answer six a (F3.read s c.at)
          sixth = answered six a (F3.read s c.at) ea ((lawful (later release6) numbered6).grounds s c.at) za

          module _ (b : ListPassed) (eb : b ≡ release7_passed (F4.read s a.at)) where
            pub seven-bad : (b.refusal.number ≡ 0 → ⊥) → read_octets s ≡ bad b.refusal
            seven-bad z = behind-calls _ (then-bad F3 F4 s c.at _ _ _ sixth.is (unanswered seven b _ eb z))

            -- all parts were read: what they say
            module _ (zb : b.refusal.number ≡ 0) where
              pub seventh : Answer seven b (F4.read s a.at)
              seventh = answered seven b (F4.read s a.at) eb ((lawful (later release7) numbered7).grounds s a.at) zb

              abbrev pub said : Value
              said = (led.value, (called.value, (sixth.value, seventh.value)))

              read_all : (format rest_parts).read s 0 ≡ ok said b.at
              read_all =
                  row_is s
                  ∙ then_ok (opt (num 2)) (list group_call ⨟ F3 ⨟ F4) s 0 _ _ _ _ led.is
                  (then_ok (list group_call) (F3 ⨟ F4) s n.at _ _ _ _ called.is (then_ok F3 F4 s c.at _ _ _ _ sixth.is seventh.is))

              -- in 160 bits there are places for all calls and reduced references
              places : (length called.value ≤ 4) × (length (reduceds_in sixth.value) ≤ 5)
              unfolding notification group_call
              places =
                  let m : length s * 8 ≡ 160 = omega arith in
                  let u = parts-lawful.stands s 0 said b.at (omega arith) read_all in
                  let next : b.at ≡ 0 + length ((format rest_parts).bits 160 0 said) = rw m at u.next in
                  (four-calls said u.fitting.1.0 (omega (arith, u.within)), five-reduced said u.fitting.1.1.0 (omega (arith, u.within)))

              ciphered-count : c.ciphered ≡ count ciphered_value called.value
              ciphered-count = ap (λ (x : CallsPassed). x.ciphered) called.told

              described-count : c.described ≡ count described_value called.value
              described-count = ap (λ (x : CallsPassed). x.described) called.told

              reduced-count : a.reduced ≡ length (reduceds_in sixth.value)
              reduced-count = ap (λ (x : Release6Passed). x.reduced) sixth.told

              random-count : a.randoms ≡ length (randoms_in sixth.value)
              random-count = ap (λ (x : Release6Passed). x.randoms) sixth.told

              mark-count : b.count ≡ length (marks_in seventh.value)
              mark-count = ap (λ (x : ListPassed). x.count) seventh.told

              -- what refusal 6 adds up is small
              pub few : c.ciphered + a.reduced ≤ 9
              few = omega (arith, ciphered-count, count_le ciphered_value called.value, places, reduced-count)

              -- what the two tests leave
              tested : (x y : Bool) → randoms_fit said ≡ x → marks_fit said ≡ y → read_octets s ≡ pick x (pick y (ok said b.at) (bad (ground 7))) (bad (ground 6))
              tested x y e f =
                  twenty s t ∙ ap tests read_all ∙ go (randoms_fit said) (marks_fit said) refl refl
                  ∙ ap₂ (λ (p q : Bool). pick p (pick q (ok said b.at) (bad (ground 7))) (bad (ground 6))) e f
                where
                  go : (p q : Bool) → randoms_fit said ≡ p → marks_fit said ≡ q
                      → (pick p (ok said b.at) (bad (ground 6)) then λ v k. pick (marks_fit v) (ok v k) (bad (ground 7)))
                      ≡ pick p (pick q (ok said b.at) (bad (ground 7))) (bad (ground 6))
                  go false q g h = refl
                  go true q g h = ap (λ (z : Bool). pick z (ok said b.at) (bad (ground 7))) h

              pub six-due : c.ciphered + a.reduced < a.randoms → read_octets s ≡ bad (ground 6)
              six-due h =
                  tested false (marks_fit said)
                  (lt-leb (length (randoms_in sixth.value)) (count ciphered_value called.value + length (reduceds_in sixth.value))
                  (omega (arith, ciphered-count, reduced-count, random-count))) refl

              module _ (h : a.randoms ≤ c.ciphered + a.reduced) where
                fit : randoms_fit said ≡ true
                fit = le-leb (length (randoms_in sixth.value)) (count ciphered_value called.value + length (reduceds_in sixth.value)) (omega (arith, ciphered-count, reduced-count, random-count))

                pub seven-due : c.described < b.count → read_octets s ≡ bad (ground 7)
                seven-due k = tested true false fit (lt-leb (length (marks_in seventh.value)) (count described_value called.value) (omega (arith, described-count, mark-count)))

                pub none-due : b.count ≤ c.described → read_octets s ≡ ok said b.at
                none-due k = tested true true fit (le-leb (length (marks_in seventh.value)) (count described_value called.value) (omega (arith, described-count, mark-count)))
