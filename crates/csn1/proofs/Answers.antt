-- What a caller goes by, whatever the struct: what was read is in it with the place behind it, or why not; and parts in a row. Assumes nothing.
use mathlib.Core.Path.{◌≡◌, refl, sym, ap, ap₂, ◌∙◌}
use mathlib.Core.List.{List, map}
use mathlib.Core.Option.{Option, some}
use Prim.Native.Nat.{ℕ, ◌+◌, ◌≤◌}
use native.Mathlib.Omega.{arith}
use lib.ListN.{length}
use Rattle.bits.specs.Field.{fetched}
use Rattle.bits.specs.declared.Got.TheVariants.{Bits}
use Rattle.csn1.specs.declared.Refusal.{Refusal}
use Rattle.csn1.specs.declared.Flagged.{Flagged}
use Rattle.csn1.specs.declared.Lead.{Lead}
use Rattle.csn1.specs.Format.{Res, ok, bad, no_refusal, Format, num, opt, list, coded, ◌⨟◌}
use Rattle.csn1.specs.Promises.{Grounded}
use Rattle.csn1.specs.Told.{padded, read_at_of, flagged_at, flagged_of, coded_of}
use Rattle.csn1.proofs.Lawful.{num-lawful, opt_lawful, coded-lawful}
use Rattle.csn1.proofs.Reading.{opt-some, read_at, flagged-at}
use Rattle.csn1.proofs.Lists.{Entries, entries-end}

-- ## What a struct says

-- how a struct tells what was read
pub record Telling (A S : Type 0) : Type 0 where
  pub of : Res A → S
  pub refusal : S → Refusal
  pub at : S → ℕ
  pub fine : (a : A) (q : ℕ) → refusal (of (ok a q)) ≡ no_refusal
  pub place : (a : A) (q : ℕ) → at (of (ok a q)) ≡ q
  pub why : (r : Refusal) → refusal (of (bad r)) ≡ r

-- what was read is in the struct
pub record Answer {A S : Type 0} (T : Telling A S) (r : S) (x : Res A) : Type 0 where
  pub value : A
  pub is : x ≡ ok value (T.at r)
  pub told : r ≡ T.of (ok value (T.at r))

module _ {A S : Type 0} (T : Telling A S) (r : S) where
  pub answered : (x : Res A) → r ≡ T.of x → Grounded x → (T.refusal r).number ≡ 0 → Answer T r x
  answered (ok a q) e g z =
      let p : q ≡ T.at r = sym (ap T.at e ∙ T.place a q) in
      record { value = a; is = ap (ok a) p; told = e ∙ ap (λ (n : ℕ). T.of (ok a n)) p }
  answered (bad w) e g z =
      absurd (let n : (T.refusal r).number ≡ w.number = ap (λ (f : S). (T.refusal f).number) e ∙ ap (λ (y : Refusal). y.number) (T.why w) in omega arith)

  pub unanswered : (x : Res A) → r ≡ T.of x → ((T.refusal r).number ≡ 0 → ⊥) → x ≡ bad (T.refusal r)
  unanswered (ok a q) e n = absurd (n (ap (λ (f : S). (T.refusal f).number) e ∙ ap (λ (y : Refusal). y.number) (T.fine a q)))
  unanswered (bad w) e n = ap bad (sym (ap T.refusal e ∙ T.why w))

-- ## A list

-- the loop over its entries has met the 0 that closes it
pub entries-told : {A B S : Type 0} (of : Res (List A) → S) (made : Refusal → ℕ → List B → ℕ → S) (F : Format A) (told : A → B) (z : B) (n : ℕ)
    → ((l : List A) (q : ℕ) → made no_refusal (length l) (padded z n (map told l)) q ≡ of (ok l q))
    → (s : List ℕ) (start : ℕ) (items : List B) (count at : ℕ) → Entries F told z n s start items count at
    → (f : ℕ) → Bits f ≡ fetched s at 1 → f ≡ 0 → (r : Refusal) → r ≡ no_refusal
    → made r count items (at + 1) ≡ of ((list F).read s start)
entries-told {B = B} of made F told z n m s start items count at i f e y r x =
    ap (λ (w : Refusal). made w count items (at + 1)) x
    ∙ ap₂ (λ (k : ℕ) (l : List B). made no_refusal k l (at + 1)) (sym i.many) i.kept ∙ m i.acc (at + 1)
    ∙ sym (ap of (entries-end F told z n s start items count at i f e y))

-- ## A number led by a flag

abbrev pub flags : Telling (Option ℕ) Flagged
flags = record { of = flagged_of; refusal = λ f. f.refusal; at = λ f. f.at; fine = λ a q. refl; place = λ a q. refl; why = λ r. refl }

-- `read_flagged` was called
module _ (s : List ℕ) (p w : ℕ) (h : w ≤ 64) (l : length s ≤ 4096) (r : Flagged) (e : r ≡ flagged_of (flagged_at s p w)) where
  pub flag-answered : r.refusal.number ≡ 0 → Answer flags r ((opt (num w)).read s p)
  flag-answered z =
      answered flags r ((opt (num w)).read s p) (e ∙ ap flagged_of (flagged-at s p w h l)) ((opt_lawful (num w) (num-lawful w)).grounds s p) z

-- ## An L/H-coded bit

abbrev pub codes : Telling ℕ Lead
codes = record { of = coded_of; refusal = λ l. l.refusal; at = λ l. l.at; fine = λ a q. refl; place = λ a q. refl; why = λ r. refl }

-- `read_coded` was called
module _ (s : List ℕ) (p : ℕ) (l : length s ≤ 4096) (r : Lead) (e : r ≡ coded_of (read_at_of coded s p)) where
  coded-is : r ≡ coded_of (coded.read s p)
  coded-is = e ∙ ap coded_of (read_at coded s p l)

  pub coded-answered : r.refusal.number ≡ 0 → Answer codes r (coded.read s p)
  coded-answered z = answered codes r (coded.read s p) coded-is (coded-lawful.grounds s p) z

  pub coded-refused : (r.refusal.number ≡ 0 → ⊥) → coded.read s p ≡ bad r.refusal
  coded-refused n = unanswered codes r (coded.read s p) coded-is n

-- ## Parts in a row

-- the part behind a flag that is 1
module _ {A : Type 0} (F : Format A) (s : List ℕ) (p f : ℕ) (e : Bits f ≡ fetched s p 1) (n : f ≡ 0 → ⊥) where
  pub opt-bad : (r : Refusal) → F.read s (p + 1) ≡ bad r → (opt F).read s p ≡ bad r
  opt-bad r x = opt-some F s p f e n ∙ rw x

  pub opt-ok : (a : A) (q : ℕ) → F.read s (p + 1) ≡ ok a q → (opt F).read s p ≡ ok (some a) q
  opt-ok a q x = opt-some F s p f e n ∙ rw x

-- one part and then another
module _ {A B : Type 0} (F : Format A) (G : Format B) (s : List ℕ) (p : ℕ) where
  pub first-bad : (r : Refusal) → F.read s p ≡ bad r → (F ⨟ G).read s p ≡ bad r
  first-bad r x = rw x

  pub then-bad : (a : A) (q : ℕ) (r : Refusal) → F.read s p ≡ ok a q → G.read s q ≡ bad r → (F ⨟ G).read s p ≡ bad r
  then-bad a q r x y = rw (x, y)

  pub then_ok : (a : A) (q : ℕ) (b : B) (t : ℕ) → F.read s p ≡ ok a q → G.read s q ≡ ok b t → (F ⨟ G).read s p ≡ ok (a, b) t
  then_ok a q b t x y = rw (x, y)
