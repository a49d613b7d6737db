-- What the lists' takers go by: the bits of twenty octets as the reader of a list finds them, and entries that were taken and end inside. Assumes nothing.
use mathlib.Core.Path.{◌≡◌, refl, sym, ap, ◌∙◌}
use mathlib.Core.List.{List, [], ◌∷◌}
use mathlib.Core.Bool.{Bool, true, false}
use Prim.Native.Nat.{ℕ, ◌+◌, ◌*◌, ◌≤◌, ◌<◌}
use native.Mathlib.Omega.{arith}
use mir.Val.{bool_byte}
use lib.ListN.{length}
use borrow.Author.Tests.{le-leb}
use Rattle.bits.specs.Field.{field, fetched}
use Rattle.bits.specs.declared.Got.TheVariants.{Bits}
use Rattle.bits.proofs.Laws.{field_lt}
use Rattle.bits.proofs.Answers.{fetched-here}
use Rattle.csn1.specs.Format.{ok, no_refusal, num, row}
use Rattle.csn1.specs.Grammar.{number, flagged, format}
use Rattle.csn1.specs.Told.{is_there, or_zero}
use Rattle.csn1.proofs.Reading.{num-got}
use Rattle.csn1.proofs.Answers.{Answer}
use Rattle.arrays.specs.Runs.{stored}
use Rattle.arrays.specs.Inner.{Zeros}
use Rattle.arrays.proofs.Zeroed.{zeros-behind}
use Rattle.call.specs.declared.CallAt.{CallAt}
use Rattle.call.specs.Call.{CallValue, call_grammar, group_call, call_of}
use Rattle.nch.specs.Octets.{random, ciphered_value, described_value}
use Rattle.nch.specs.Places.{first_call, call_length, most_calls, first_random, random_length, most_randoms}
use Rattle.nch.specs.CallNumbers.{call_numbers}
use Rattle.nch.proofs.Reading6.{widths, random-ok}
use Rattle.nch.proofs.Lengths.{length-call}
use Rattle.nch.proofs.CallsKept.{one, call-lawful, CallsKept, calls-one}
use Rattle.nch.proofs.RandomsKept.{KeptRandoms, randoms-one}
use Rattle.words.specs.Unasked.{Took, took, unmet, taken}
use Rattle.words.proofs.Promises.{what_ends_inside_is_read}
use Rattle.nch_words.specs.declared.parts.TakenPart.{TakenPart}
use Rattle.nch_words.specs.declared.calls.TakenOne.{TakenOne}
use Rattle.nch_words.specs.declared.calls.TakenCalls.{TakenCalls}
use Rattle.nch_words.specs.declared.lists.TakenList.{TakenList}
use Rattle.nch_words.specs.declared.additions.TakenSix.{TakenSix}
use Rattle.nch_words.specs.Inner.{Put, call_run, call_taken, no_calls_taken, no_list_taken, no_six_taken, no_part_taken, RandomPut}
use Rattle.nch_words.proofs.Puts.{zeros-three}

-- ## Not taken

pub not_true : (b : Bool) → b ≡ false → b ≡ true → ⊥
not_true b e f = let y : false ≡ true = sym e ∙ f in let z : ◌≡◌ {A = ℕ} 0 1 = cc in omega arith

pub calls_untaken : {X : Type 0} (r : TakenCalls) → r ≡ no_calls_taken → (r.at ≤ 160) × (r.done ≡ true → X)
calls_untaken r e = (omega (arith, ap (λ (y : TakenCalls). y.at) e), λ d. absurd (not_true r.done (ap (λ (y : TakenCalls). y.done) e) d))

pub list_untaken : {X : Type 0} (r : TakenList) → r ≡ no_list_taken → (r.at ≤ 160) × (r.done ≡ true → X)
list_untaken r e = (omega (arith, ap (λ (y : TakenList). y.at) e), λ d. absurd (not_true r.done (ap (λ (y : TakenList). y.done) e) d))

pub six_untaken : {X : Type 0} (r : TakenSix) → r ≡ no_six_taken → (r.at ≤ 160) × (r.done ≡ true → X)
six_untaken r e = (omega (arith, ap (λ (y : TakenSix). y.at) e), λ d. absurd (not_true r.done (ap (λ (y : TakenSix). y.done) e) d))

pub part_untaken : {X : Type 0} (r : TakenPart) → r ≡ no_part_taken → r.done ≡ true → X
part_untaken r e d = absurd (not_true r.done (ap (λ (y : TakenPart). y.done) e) d)

-- ## Bits that are there

module _ (s : List ℕ) (t : length s ≡ 20) (p : ℕ) where
  pub bit-here : p ≤ 159 → (f : ℕ) → f ≡ field s p 1 → Bits f ≡ fetched s p 1
  bit-here h f e = fetched-here s p 1 f (omega arith) (omega arith) e

  pub mark_here : p ≤ 157 → (v : ℕ) → v ≡ field s (p + 1) 1 → (num 1).read s (p + 1) ≡ ok v (p + 2)
  mark_here h v e = num-got s (p + 1) 1 v (fetched-here s (p + 1) 1 v (omega arith) (omega arith) e) ∙ ap (ok v) (omega arith)

  pub reduced-here : p ≤ 130 → (a b : ℕ) → a ≡ field s (p + 1) 27 → b ≡ field s (p + 28) 1 → (row widths).read s (p + 1) ≡ ok (a ∷ b ∷ []) (p + 29)
  reduced-here h a b e f =
      let k : p + 1 + 27 ≡ p + 28 = omega arith in
      let n : p + 1 + 28 ≡ p + 29 = omega arith in
      rw (le-leb (p + 1 + 28) (length s * 8) (omega arith), n, k, ← e, ← f) refl

  -- a random entry that was taken and ends inside
  pub random-here : (place r : ℕ) (before after : List ℕ) (o : RandomPut s p place r before after) → 2 < r → p + r ≤ 159 → (format random).read s (p + 1) ≡ ok (o.segment, o.value) (p + r)
  random-here place r before after o m h =
      random-ok s (p + 1) o.segment (p + 2) (fetched-here s (p + 1) 1 o.segment (omega arith) (omega arith) o.first) (omega arith) o.value (p + r)
      (what_ends_inside_is_read _ (flagged (number 36)) s (p + 2) o.value (p + r) o.is (omega arith))

-- ## Random entries

-- at the head of the loop
pub record Randoms (s : List ℕ) (start : ℕ) (old numbers : List ℕ) (count at : ℕ) : Type 0 where
  pub inside : at ≤ 159
  pub kept : KeptRandoms s start old numbers count at
  pub zeros : Zeros numbers (first_random + random_length * count)

pub randoms-next : (s : List ℕ) (start : ℕ) (old numbers : List ℕ) (count at : ℕ) → Randoms s start old numbers count at → length s ≡ 20
    → (f : ℕ) → f ≡ field s at 1 → (f ≡ 0 → ⊥) → count < most_randoms
    → (r : ℕ) (after : List ℕ) → RandomPut s at (first_random + random_length * count) r numbers after → 2 < r → at + r ≤ 159
    → Randoms s start old after (count + 1) (at + r)
randoms-next s start old numbers count at i t f e y c r after o m h =
    record {
      inside = h;
      kept =
          randoms-one s start old numbers count at i.kept f o.segment (record { refusal = no_refusal; hasValue = is_there o.value; value = or_zero o.value; at = at + r }) o.value after
          (bit-here s t at i.inside f e) y (omega (arith, o.first, field_lt s (at + 1) 1)) (random-here s t at place r numbers after o m h) (omega arith) refl refl c o.left;
      zeros = rw (n, o.left) (zeros-three numbers place o.segment (bool_byte (is_there o.value)) (or_zero o.value) i.zeros);
    }
  where
    place : ℕ
    place = first_random + random_length * count

    n : first_random + random_length * (count + 1) ≡ place + 3
    n = omega arith

-- ## Calls

-- a call that was taken
pub record CallDone (s : List ℕ) (p place : ℕ) (r : TakenOne) (before after : List ℕ) : Type 0 where
  pub value : CallValue
  pub is : taken call_grammar s p ≡ took value r.at
  pub ciphers : r.ciphered ≡ ciphered_value value
  pub describes : r.described ≡ described_value value
  pub left : after ≡ stored before place (call_numbers (call_of value))

pub call-done : (s : List ℕ) (p place : ℕ) (r : TakenOne) (before after : List ℕ) → (r ≡ call_taken (taken call_grammar s p)) × Put call_run place (taken call_grammar s p) before after → r.done ≡ true
    → CallDone s p place r before after
call-done s p place r before after e d = go (taken call_grammar s p) refl e.0 e.1
  where
    go : (x : Took CallValue) → taken call_grammar s p ≡ x → r ≡ call_taken x → Put call_run place x before after → CallDone s p place r before after
    go unmet f g m = absurd (not_true r.done (ap (λ (y : TakenOne). y.done) g) d)
    go (took v q) f g m =
        record {
          value = v;
          is = f ∙ ap (took v) (sym (ap (λ (y : TakenOne). y.at) g));
          ciphers = ap (λ (y : TakenOne). y.ciphered) g;
          describes = ap (λ (y : TakenOne). y.described) g;
          left = m;
        }

-- what was taken and ends inside is read
call-read : (s : List ℕ) (p q : ℕ) (v : CallValue) → taken call_grammar s p ≡ took v q → q ≤ length s * 8 → group_call.read s p ≡ ok v q
unfolding group_call
call-read s p q v e h = what_ends_inside_is_read _ call_grammar s p v q e h

-- and its place is behind the one it was taken at
pub call_grows : (s : List ℕ) (p place : ℕ) (r : TakenOne) (before after : List ℕ) → CallDone s p place r before after → length s ≡ 20 → p ≤ 160 → r.at ≤ 159 → p ≤ r.at
call_grows s p place r before after o t h m =
    let q : r.at ≤ length s * 8 = omega arith in
    omega (arith, (call-lawful.stands s p o.value r.at (omega arith) (call-read s p r.at o.value o.is q)).next)

-- at the head of the loop
pub record Calls (s : List ℕ) (start : ℕ) (old numbers : List ℕ) (count ciphered described at : ℕ) : Type 0 where
  pub inside : at ≤ 159
  pub few : count ≤ 4
  pub kept : CallsKept s start old numbers count ciphered described at
  pub zeros : Zeros numbers (first_call + call_length * count)

pub calls-next : (s : List ℕ) (start : ℕ) (old numbers : List ℕ) (count ciphered described at : ℕ) → Calls s start old numbers count ciphered described at → length s ≡ 20
    → (f : ℕ) → f ≡ field s at 1 → (f ≡ 0 → ⊥) → count < most_calls
    → (r : TakenOne) (after : List ℕ) → CallDone s (at + 1) (first_call + call_length * count) r numbers after → r.at ≤ 159
    → Calls s start old after (count + 1) (ciphered + bool_byte r.ciphered) (described + bool_byte r.described) r.at
calls-next s start old numbers count ciphered described at i t f e y c r after o h =
    record {
      inside = h;
      few = omega arith;
      kept =
          rw (o.ciphers, o.describes)
          (calls-one s start old numbers count ciphered described at i.kept f call (bit-here s t at i.inside f e) y answer behind (call_numbers (call_of o.value)) after c refl o.left);
      zeros = rw n (zeros-behind numbers after place call_length (call_numbers (call_of o.value)) i.zeros o.left (length-call (call_of o.value)));
    }
  where
    place : ℕ
    place = first_call + call_length * count

    n : first_call + call_length * (count + 1) ≡ place + call_length
    n = omega arith

    behind : at + 1 ≤ r.at
    behind = call_grows s (at + 1) place r numbers after o t (omega (arith, i.inside)) h

    call : CallAt
    call = record { refusal = no_refusal; call = call_of o.value; at = r.at }

    answer : Answer one call (group_call.read s (at + 1))
    answer = record { value = o.value; is = call-read s (at + 1) r.at o.value o.is (omega arith); told = refl }
