-- One step of a trace behind another, over plain lists of fields. Assumes nothing.
use mathlib.Core.Path.{◌≡◌, refl, sym, ap, ap₂, ◌∙◌}
use mathlib.Core.List.{List, [], ◌∷◌, ◌++◌, append-nil}
use mathlib.Core.Bool.{Bool, true, false}
use Prim.Native.Nat.{ℕ, ◌+◌, ◌*◌}
use native.Mathlib.Omega.{arith}
use lib.ListN.{length, length-append}
use lib.Dec.{leb}
use Rattle.bits.specs.Field.{pick}
use Rattle.arrays.specs.Runs.{stored}
use Rattle.arrays.proofs.Running.{length-stored}
use Rattle.csn1.specs.Format.{Res, ok, bad, ◌then◌, numbered_as}
use Rattle.trace.specs.declared.fields.Trace.{Trace}
use Rattle.trace.specs.Fields.{Met, behind, put_met, listing}
use Rattle.trace.specs.Promises.{end_of}
use Rattle.trace.specs.Inner.{Bound, stopped, is_ok, On, Idle, Stepped}
use Rattle.trace.proofs.Fair.{end-append}

-- ## Fields behind fields in an array

pub listing-append : (l : List ℕ) (n : ℕ) (xs ys : List Met) → listing l n (xs ++ ys) ≡ listing (listing l n xs) (n + length xs) ys
unfolding listing
listing-append l n [] ys = ap (λ (k : ℕ). listing l k ys) (omega arith)
listing-append l n (m ∷ xs) ys =
    listing-append (put_met l n m) (n + 1) xs ys
    ∙ ap (λ (k : ℕ). listing (listing (put_met l n m) (n + 1) xs) k ys) (omega arith)

-- the array keeps its length
pub listing-long : (l : List ℕ) (n : ℕ) (xs : List Met) → length (listing l n xs) ≡ length l
unfolding listing
listing-long l n [] = refl
listing-long l n (m ∷ xs) = listing-long (put_met l n m) (n + 1) xs ∙ go (leb (4 * n + 4) (length l))
  where
    go : (t : Bool) → length (pick t (stored l (4 * n) (m.kind ∷ m.place ∷ m.width ∷ m.value ∷ [])) l) ≡ length l
    go true = length-stored l (4 * n) (m.kind ∷ m.place ∷ m.width ∷ m.value ∷ [])
    go false = refl

-- ## Whether reading gave a value

pub ok-map : {A B : Type 0} (f : A → B) (x : Res A) → is_ok (x then λ a q. ok (f a) q) ≡ is_ok x
ok-map f (ok a q) = refl
ok-map f (bad r) = refl

pub ok-inside : {A : Type 0} (m : ℕ) (x : Res A) → is_ok (numbered_as m x) ≡ is_ok x
ok-inside m (ok a q) = refl
ok-inside m (bad r) = refl

-- ## Steps

-- what was read named otherwise
pub on_as : {A B : Type 0} (xs : List Met) (x : Res A) (y : Res B) (t : Trace) (l : List ℕ) (r : Trace) (m : List ℕ) → is_ok y ≡ is_ok x → On xs x t l r m → On xs y t l r m
on_as xs x y t l r m e h = record { at = h.at; met = h.met; good = h.good ∙ sym e; list = h.list }

pub stepped_as : {A B : Type 0} (xs : List Met) (x : Res A) (y : Res B) (s : List ℕ) (t : Trace) (l : List ℕ) (r : Trace) (m : List ℕ) → is_ok y ≡ is_ok x
    → Stepped xs x s t l r m → Stepped xs y s t l r m
stepped_as xs x y s t l r m e h = record { on = λ g. on_as xs x y t l r m e (h.on g); idle = h.idle; bound = h.bound }

-- nothing was met
pub on_none : {A : Type 0} (a : A) (q : ℕ) (t : Trace) (l : List ℕ) → t.good ≡ true → On [] (ok a q) t l t l
unfolding listing
on_none a q t l g = record { at = refl; met = omega arith; good = g; list = refl }

pub idle-same : (t : Trace) (l : List ℕ) → t.good ≡ false → Idle t l t l
idle-same t l g = record { at = refl; met = refl; good = g; list = refl }

pub idle_stop : (t : Trace) (l : List ℕ) → Idle t l (stopped t) l
idle_stop t l = record { at = refl; met = refl; good = refl; list = refl }

idle-more : (t r u : Trace) (l m n : List ℕ) → Idle t l r m → Idle r m u n → Idle t l u n
idle-more t r u l m n h g = record { at = g.at ∙ h.at; met = g.met ∙ h.met; good = g.good; list = g.list ∙ h.list }

pub bound_stop : (s : List ℕ) (t : Trace) → Bound s t → Bound s (stopped t)
bound_stop s t b = record { short = b.short; less = b.less; within = b.within }

-- one step behind another
bind_on : {A B : Type 0} (xs : List Met) (x : Res A) (ys : A → ℕ → List Met) (k : A → ℕ → Res B) (t r u : Trace) (l m n : List ℕ) → On xs x t l r m
    → ((a : A) (q : ℕ) → x ≡ ok a q → end_of t.at xs ≡ q) → ((a : A) (q : ℕ) → x ≡ ok a q → r.good ≡ true → r.at ≡ q → On (ys a q) (k a q) r m u n)
    → (r.good ≡ false → Idle r m u n) → On (xs ++ behind x ys) (x then k) t l u n
bind_on xs (ok a q) ys k t r u l m n h e g i =
    let d : r.at ≡ q = h.at ∙ e a q refl in
    let v = g a q refl h.good d in
    let y : length (xs ++ ys a q) ≡ length xs + length (ys a q) = length-append xs (ys a q) in
    record {
      at = v.at ∙ ap (λ (z : ℕ). end_of z (ys a q)) h.at ∙ sym (end-append t.at xs (ys a q));
      met = v.met ∙ omega (arith, h.met);
      good = v.good;
      list =
          v.list ∙ ap₂ (λ (z : List ℕ) (w : ℕ). listing z w (ys a q)) h.list h.met
          ∙ sym (listing-append l t.met xs (ys a q));
    }
bind_on xs (bad w) ys k t r u l m n h e g i =
    let v = i h.good in
    rw (append-nil xs) (record { at = v.at ∙ h.at; met = v.met ∙ h.met; good = v.good; list = v.list ∙ h.list })

pub stepped_bind : {A B : Type 0} (xs : List Met) (x : Res A) (ys : A → ℕ → List Met) (k : A → ℕ → Res B) (s : List ℕ) (t r u : Trace) (l m n : List ℕ)
    → Stepped xs x s t l r m → ((a : A) (q : ℕ) → x ≡ ok a q → end_of t.at xs ≡ q)
    → (t.good ≡ true → (a : A) (q : ℕ) → x ≡ ok a q → r.good ≡ true → r.at ≡ q → On (ys a q) (k a q) r m u n)
    → (r.good ≡ false → Idle r m u n) → Bound s u → Stepped (xs ++ behind x ys) (x then k) s t l u n
stepped_bind xs x ys k s t r u l m n h e g i b =
    record {
      on = λ y. bind_on xs x ys k t r u l m n (h.on y) e (g y) i;
      idle = λ y. let v = h.idle y in idle-more t r u l m n v (i v.good);
      bound = b;
    }
