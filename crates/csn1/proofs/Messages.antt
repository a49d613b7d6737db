-- What a whole message is refused for, its length or its grammar, and what its refusal then tells. Assumes nothing.
use mathlib.Core.Path.{◌≡◌, sym, ap, ◌∙◌, subst}
use mathlib.Core.List.{List}
use mathlib.Core.Bool.{Bool, true, false}
use Prim.Native.Nat.{ℕ, ◌/◌, ◌%◌, ◌≤◌}
use native.Mathlib.Omega.{arith}
use lib.ListN.{length}
use Rattle.csn1.specs.declared.Refusal.{Refusal}
use Rattle.csn1.specs.Format.{bad, no_refusal, ground, is_clip}
use Rattle.csn1.specs.Grammar.{Grammar, format, Numbered}
use Rattle.csn1.specs.Told.{code_of}
use Rattle.csn1.specs.Promises.{Grounded}
use Rattle.csn1.specs.Clip.{Clipped}
use Rattle.csn1.proofs.Promises.{lawful}
use Rattle.csn1.proofs.Clipped.{a_clip_is_told_where_it_is, a_result_tells_number_and_bit}

-- a message of a length Q is read by its grammar, and one of another is refusal 1
pub data Why {A : Type 0} (g : Grammar A) (Q : Type 0) (s : List ℕ) (r : Refusal) : Type 0 where
  by_grammar : Q → (format g).read s 0 ≡ bad r → Why g Q s r
  by_length : r ≡ ground 1 → Why g Q s r
  not_refused : r ≡ no_refusal → Why g Q s r

not_both : (b : Bool) → b ≡ true → b ≡ false → ⊥
not_both b x y = let z : true ≡ false = sym x ∙ y in let w : ◌≡◌ {A = ℕ} 0 1 = cc in omega arith

module _ {A : Type 0} (g : Grammar A) (n : Numbered g) (Q : Type 0) (s : List ℕ) (r : Refusal) where
  pub clip_in : Why g Q s r → is_clip r.number ≡ true → Q × Clipped g s 0 r
  unfolding ground
  clip_in (by_grammar q e) c = (q, (a_clip_is_told_where_it_is A g n s 0 r (omega arith) e).0 c)
  clip_in (by_length e) c = absurd (not_both (is_clip r.number) c (ap (λ (x : Refusal). is_clip x.number) e))
  clip_in (not_refused e) c = absurd (not_both (is_clip r.number) c (ap (λ (x : Refusal). is_clip x.number) e))

  pub clip-refused : Why g Q s r → is_clip r.number ≡ true → (format g).read s 0 ≡ bad r
  unfolding ground
  clip-refused (by_grammar q e) c = e
  clip-refused (by_length e) c = absurd (not_both (is_clip r.number) c (ap (λ (x : Refusal). is_clip x.number) e))
  clip-refused (not_refused e) c = absurd (not_both (is_clip r.number) c (ap (λ (x : Refusal). is_clip x.number) e))

  pub no_place : Why g Q s r → is_clip r.number ≡ false → r.bit ≡ 0
  unfolding ground
  no_place (by_grammar q e) c = (a_clip_is_told_where_it_is A g n s 0 r (omega arith) e).1 c
  no_place (by_length e) c = ap (λ (x : Refusal). x.bit) e
  no_place (not_refused e) c = ap (λ (x : Refusal). x.bit) e

  -- number 0 is no refusal
  pub none-refused : Why g Q s r → r.number ≡ 0 → r ≡ no_refusal
  unfolding ground
  none-refused (by_grammar q e) z = absurd (omega (arith, z, subst Grounded e ((lawful g n).grounds s 0)))
  none-refused (by_length e) z = absurd (omega (arith, ap (λ (x : Refusal). x.number) e))
  none-refused (not_refused e) z = e

  -- and what a C function returns tells number and bit
  pub result_tells : (Q → length s ≤ 4096) → Why g Q s r → (code_of r % 256 ≡ r.number) × (code_of r / 256 ≡ r.bit)
  unfolding ground code_of
  result_tells f (by_grammar q e) = a_result_tells_number_and_bit A g n s 0 r (f q) (omega arith) e
  result_tells f (by_length e) = rw e (omega arith, omega arith)
  result_tells f (not_refused e) = rw e (omega arith, omega arith)
