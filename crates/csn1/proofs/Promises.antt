-- The promises of specs/Promises, each from the law of every way to make a format. Assumes nothing.
use mathlib.Core.Path.{◌≡◌, refl, subst}
use mathlib.Core.List.{List}
use Prim.Native.Nat.{ℕ, ◌+◌, ◌*◌, ◌≤◌}
use native.Mathlib.Omega.{arith}
use lib.ListN.{length}
use Rattle.csn1.specs.Format.{Format, ok, put_bits, Holds}
use Rattle.csn1.specs.Grammar.{Grammar, number, numbers, low-high, ◌and◌, ◌then_by◌, flagged, listed, later, one_of, only_if, refuse, inside, format, Numbered}
use Rattle.csn1.specs.Promises.{Lawful, EveryGrammarIsLawful, WhatWasWrittenIsRead}
use Rattle.csn1.proofs.Holding.{length_put, holds_put}
use Rattle.csn1.proofs.Lawful.{num-lawful, row_lawful, coded-lawful, after-lawful, seq_lawful, opt_lawful}
use Rattle.csn1.proofs.Lawful.{list_lawful, release-lawful, checked-lawful, clip_not_zero, inside-lawful, either_lawful, when-lawful}

pub lawful : {A : Type 0} (f : Grammar A) → Numbered f → Lawful (format f)
lawful (number w) n = num-lawful w
lawful (numbers ws) n = row_lawful ws
lawful low-high n = coded-lawful
lawful (◌and◌ f g) n = seq_lawful (format f) (format g) (lawful f n.0) (lawful g n.1)
lawful (◌then_by◌ f g) n = after-lawful (format f) (λ a. format (g a)) (lawful f n.0) (λ a. lawful (g a) (n.1 a))
lawful (flagged f) n = opt_lawful (format f) (lawful f n)
lawful (listed f) n = list_lawful (format f) (lawful f n)
lawful (later f) n = release-lawful (format f) (lawful f n)
lawful (one_of f g) n = either_lawful (format f) (format g) (lawful f n.0) (lawful g n.1)
lawful (only_if t f) n = when-lawful (format f) (lawful f n) t
lawful (refuse m t f) n = checked-lawful t m n.0 (format f) (lawful f n.3)
lawful (inside m f) n = inside-lawful m (clip_not_zero m n.0) (format f) (lawful f n.1)

pub every_grammar_is_lawful : EveryGrammarIsLawful
every_grammar_is_lawful A g n = lawful g n

-- the first law at a number of bits m
pub back_at : {A : Type 0} (F : Format A) → Lawful F → (t : List ℕ) (p : ℕ) (a : A) (m : ℕ) → length t * 8 ≡ m → F.fits a
    → p + length (F.bits m p a) ≤ m → Holds t p (F.bits m p a) → F.read t p ≡ ok a (p + length (F.bits m p a))
back_at F f t p a m e =
    subst (λ (m : ℕ). F.fits a → p + length (F.bits m p a) ≤ m → Holds t p (F.bits m p a) → F.read t p ≡ ok a (p + length (F.bits m p a))) e
    (f.back t p a)

-- reading what was written gives it back
pub round : {A : Type 0} (F : Format A) → Lawful F → (s : List ℕ) (p : ℕ) (a : A) (m : ℕ) → length s * 8 ≡ m → F.fits a → p + length (F.bits m p a) ≤ m
    → F.read (put_bits s p (F.bits m p a)) p ≡ ok a (p + length (F.bits m p a))
round F f s p a m e k l =
    let bs : List ℕ = F.bits m p a in
    back_at F f (put_bits s p bs) p a m (omega (arith, length_put s p bs)) k l (holds_put s p bs (f.binary m p a) (omega arith))

pub what_was_written_is_read : WhatWasWrittenIsRead
what_was_written_is_read A g n s p a f l = round (format g) (lawful g n) s p a (length s * 8) refl f l
