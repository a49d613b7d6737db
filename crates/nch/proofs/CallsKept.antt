-- The calls of a list as they come: as numbers in an array of zeros, and how many of them are ciphered and described. Assumes nothing.
use mathlib.Core.Path.{◌≡◌, refl, sym, ap, ap₂, ◌∙◌}
use mathlib.Core.List.{List, [], ◌∷◌, ◌++◌}
use mathlib.Core.Bool.{Bool, true, false}
use Prim.Native.Nat.{ℕ, ◌+◌, ◌*◌, ◌≤◌, ◌<◌}
use native.Mathlib.Omega.{arith}
use lib.ListN.{length, set}
use lib.Dec.{leb}
use mir.Val.{bool_byte}
use Rattle.bits.specs.Field.{fetched, pick}
use Rattle.bits.specs.declared.Got.TheVariants.{Bits}
use Rattle.csn1.specs.declared.Refusal.{Refusal}
use Rattle.csn1.specs.Format.{bad, no_refusal, list}
use Rattle.csn1.specs.Promises.{Lawful}
use Rattle.csn1.specs.Told.{read_at_of, as_bit}
use Rattle.csn1.proofs.Promises.{lawful}
use Rattle.csn1.proofs.Reading.{read_at}
use Rattle.csn1.proofs.Writing.{flag_byte}
use Rattle.csn1.proofs.Lists.{entries-end}
use Rattle.csn1.proofs.Answers.{Telling, Answer, answered, unanswered}
use Rattle.arrays.specs.Runs.{stored}
use Rattle.arrays.specs.Inner.{Zeros, Left}
use Rattle.arrays.proofs.Zeroed.{zeros-later, left-bad, left-ok, Kept, kept_begin, begin_acc, kept-one, one-acc, kept_more, more_acc, kept-filled}
use Rattle.call.specs.declared.CallAt.{CallAt}
use Rattle.call.specs.declared.Call.{Call}
use Rattle.call.specs.Call.{CallValue, call_grammar, group_call, call_of, no_call}
use Rattle.call.specs.Told.{call_at_of}
use Rattle.call.proofs.Numbering.{call-numbered}
use Rattle.nch.specs.declared.lists.CallsPassed.{CallsPassed}
use Rattle.nch.specs.Octets.{count, ciphered_value, described_value}
use Rattle.nch.specs.Places.{calls_at, first_call, call_length, most_calls}
use Rattle.nch.specs.CallNumbers.{call_numbers}
use Rattle.nch.specs.Inner.{calls_run, calls_passed}
use Rattle.nch.proofs.InPlaces.{count_le}
use Rattle.nch.proofs.Lengths.{length-call}

-- ## One call

pub call-lawful : Lawful group_call
unfolding group_call
call-lawful = lawful call_grammar call-numbered

abbrev pub one : Telling CallValue CallAt
one = record { of = call_at_of; refusal = λ c. c.refusal; at = λ c. c.at; fine = λ a q. refl; place = λ a q. refl; why = λ r. refl }

-- `call::read` was called
module _ (s : List ℕ) (p : ℕ) (l : length s ≤ 4096) (c : CallAt) (e : c ≡ call_at_of (read_at_of group_call s p)) where
  at_place : c ≡ call_at_of (group_call.read s p)
  at_place = e ∙ ap call_at_of (read_at group_call s p l)

  pub call-bad : (c.refusal.number ≡ 0 → ⊥) → group_call.read s p ≡ bad c.refusal
  call-bad n = unanswered one c (group_call.read s p) at_place n

  pub call-read : c.refusal.number ≡ 0 → Answer one c (group_call.read s p)
  call-read z = answered one c (group_call.read s p) at_place (call-lawful.grounds s p) z

  -- its place is not before the one that it was read at
  pub call-past : p ≤ length s * 8 → c.refusal.number ≡ 0 → p ≤ c.at
  call-past h z =
      let a = call-read z in
      omega (arith, (call-lawful.stands s p a.value c.at h a.is).next)

-- ## How many pass a test

-- one more value at the end of a list
count-more : {A : Type 0} (t : A → Bool) (l : List A) (a : A) → count t (l ++ (a ∷ [])) ≡ count t l + as_bit (t a)
count-more t [] a = go (t a)
  where
    go : (b : Bool) → pick b (1 + 0) 0 ≡ 0 + as_bit b
    go true = refl
    go false = refl
count-more t (c ∷ l) a = go (t c) (count t (l ++ (a ∷ []))) (count t l) (as_bit (t a)) (count-more t l a)
  where
    go : (b : Bool) (m n k : ℕ) → m ≡ n + k → pick b (1 + m) m ≡ pick b (1 + n) n + k
    go true m n k e = omega arith
    go false m n k e = e

counted-one : {A : Type 0} (t : A → Bool) (l l' : List A) (a : A) (m : ℕ) (b : Bool) → m ≡ count t l → b ≡ t a → l' ≡ l ++ (a ∷ []) → m + bool_byte b ≡ count t l'
counted-one t l l' a m b p q r = ap₂ ◌+◌ p (flag_byte b ∙ ap as_bit q) ∙ sym (ap (count t) r ∙ count-more t l a)

-- ## The list

-- at the head of the loop over it: the first of the calls that were read, n in all, stand as numbers in their places
pub record CallsKept (s : List ℕ) (start : ℕ) (old numbers : List ℕ) (n ciphered described at : ℕ) : Type 0 where
  pub kept : Kept call_numbers call_length length-call group_call call_of no_call most_calls s start old first_call numbers n at
  pub ciphers : ciphered ≡ count ciphered_value kept.entries.acc
  pub describes : described ≡ count described_value kept.entries.acc

module _ (s : List ℕ) (start : ℕ) (old : List ℕ) where
  pub calls_begin : Zeros old calls_at → CallsKept s start old old 0 0 0 start
  unfolding call_numbers
  calls_begin z =
      let y : Zeros old first_call = zeros-later old calls_at first_call (omega arith) z in
      let a = begin_acc call_numbers call_length length-call group_call call_of no_call most_calls s start old first_call refl y in
      record {
        kept = kept_begin call_numbers call_length length-call group_call call_of no_call most_calls s start old first_call refl y;
        ciphers = sym (ap (count ciphered_value) a);
        describes = sym (ap (count described_value) a);
      }

  -- the list is refused
  pub calls-refused : (after : List ℕ) (w v : Refusal) (r : CallsPassed) → r ≡ calls_passed (bad w) → w ≡ v → (list group_call).read s start ≡ bad v
      → Left calls_passed calls_run calls_at ((list group_call).read s start) r old after
  calls-refused = left-bad calls_passed calls_run calls_at ((list group_call).read s start) old

  module _ (numbers : List ℕ) (n ciphered described at : ℕ) (i : CallsKept s start old numbers n ciphered described at) where
    pub few-ciphered : ciphered ≤ at
    few-ciphered = omega (arith, i.ciphers, count_le ciphered_value i.kept.entries.acc, i.kept.entries.many, i.kept.entries.bound)

    pub few-described : described ≤ at
    few-described = omega (arith, i.describes, count_le described_value i.kept.entries.acc, i.kept.entries.many, i.kept.entries.bound)

    -- a call more, c
    module _ (f : ℕ) (c : CallAt) (e : Bits f ≡ fetched s at 1) (z : f ≡ 0 → ⊥) (g : Answer one c (group_call.read s (at + 1))) (l : at + 1 ≤ c.at) where
      call-is : c.call ≡ call_of g.value
      call-is = ap (λ (k : CallAt). k.call) g.told

      added : (new : List ℕ) (k : Kept call_numbers call_length length-call group_call call_of no_call most_calls s start old first_call new (n + 1) c.at)
          → k.entries.acc ≡ i.kept.entries.acc ++ (g.value ∷ [])
          → CallsKept s start old new (n + 1) (ciphered + bool_byte (leb 1 c.call.cipher)) (described + bool_byte c.call.hasDescription) c.at
      added new k a =
          record {
            kept = k;
            ciphers = counted-one ciphered_value i.kept.entries.acc k.entries.acc g.value ciphered (leb 1 c.call.cipher) i.ciphers (ap (λ (w : Call). leb 1 w.cipher) call-is) a;
            describes = counted-one described_value i.kept.entries.acc k.entries.acc g.value described c.call.hasDescription i.describes (ap (λ (w : Call). w.hasDescription) call-is) a;
          }

      -- one that has a place, and one that has none
      pub calls-one : (vs new : List ℕ) → n < most_calls → vs ≡ call_numbers c.call → new ≡ stored numbers (first_call + call_length * n) vs
          → CallsKept s start old new (n + 1) (ciphered + bool_byte (leb 1 c.call.cipher)) (described + bool_byte c.call.hasDescription) c.at
      calls-one vs new h v m =
          let o : new ≡ stored numbers (first_call + call_length * n) (call_numbers c.call) = m ∙ ap (stored numbers (first_call + call_length * n)) v in
          added new (kept-one i.kept f g.value c.at c.call new e z g.is l h call-is o)
          (one-acc i.kept f g.value c.at c.call new e z g.is l h call-is o)

      pub calls-more : most_calls ≤ n
          → CallsKept s start old numbers (n + 1) (ciphered + bool_byte (leb 1 c.call.cipher)) (described + bool_byte c.call.hasDescription) c.at
      calls-more h = added numbers (kept_more i.kept f g.value c.at e z g.is l h) (more_acc i.kept f g.value c.at e z g.is l h)

    -- the loop has met the 0 that closes the list
    pub calls-end : (f : ℕ) → Bits f ≡ fetched s at 1 → f ≡ 0 → (r : Refusal) → r ≡ no_refusal
        → Left calls_passed calls_run calls_at ((list group_call).read s start) (record { refusal = r; ciphered = ciphered; described = described; at = at + 1 }) old (set numbers calls_at n)
    calls-end f e z r x =
        left-ok calls_passed calls_run calls_at ((list group_call).read s start) old (set numbers calls_at n) i.kept.entries.acc (at + 1)
        (record { refusal = r; ciphered = ciphered; described = described; at = at + 1 })
        (λ k. record { refusal = x k; ciphered = i.ciphers k; described = i.describes k; at = at + 1 })
        (entries-end group_call call_of no_call most_calls s start i.kept.items n at i.kept.entries f e z)
        (kept-filled i.kept calls_at refl f e z)
