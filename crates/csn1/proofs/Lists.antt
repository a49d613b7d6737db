-- What a reading loop goes by: the entries of a list one by one, and the fields of a row one by one. Assumes nothing.
use mathlib.Core.Path.{◌≡◌, refl, sym, ap, ap₂, ◌∙◌}
use mathlib.Core.List.{List, [], ◌∷◌, ◌++◌, append_assoc, append-nil, map}
use Prim.Native.Nat.{ℕ, zero, suc, ◌+◌, ◌-◌, ◌*◌, ◌≤◌, ◌<◌}
use native.Mathlib.Numerals.{add-one}
use native.Mathlib.Nat.{suc-mul}
use native.Mathlib.Omega.{arith}
use lib.ListN.{length, get_or, set, take, drop, replicate, length-append, length-set, drop_of_length-le}
use lib.Seq.{drop-cons, take-suc-set, take_all}
use borrow.Author.Tests.{le-leb, lt-leb}
use Rattle.bits.specs.Field.{fetched}
use Rattle.bits.specs.declared.Got.TheVariants.{Bits, Short}
use Rattle.csn1.specs.declared.Refusal.{Refusal}
use Rattle.csn1.specs.Format.{ok, bad, ran_out, Format, row, total, fields_at, read_items, items_bits, ItemsFit, list}
use Rattle.csn1.specs.Told.{padded}
use Rattle.csn1.proofs.Reading.{found, missing, prepend, prepend-nil, items-short, items-end, items-bad, items-next}

-- ## Places

pub padded-none : {A : Type 0} (z : A) (n : ℕ) → padded z n [] ≡ replicate n z
padded-none z zero = refl
padded-none z (suc n) = ap (λ l. z ∷ l) (padded-none z n)

pub length-padded : {A : Type 0} (z : A) (n : ℕ) (l : List A) → length (padded z n l) ≡ n
length-padded z zero l = refl
length-padded z (suc n) [] = ap suc (length-padded z n [])
length-padded z (suc n) (a ∷ l) = ap suc (length-padded z n l)

-- one more value, where there is a place for it
pub padded-more : {A B : Type 0} (told : A → B) (z : B) (n : ℕ) (l : List A) (a : A) → length l < n
    → padded z n (map told (l ++ (a ∷ []))) ≡ set (padded z n (map told l)) (length l) (told a)
padded-more told z zero l a h = absurd (omega arith)
padded-more told z (suc n) [] a h = refl
padded-more told z (suc n) (b ∷ l) a h = ap (λ t. told b ∷ t) (padded-more told z n l a (omega arith))

-- and where there is none
pub padded-full : {A B : Type 0} (told : A → B) (z : B) (n : ℕ) (l : List A) (a : A) → n ≤ length l
    → padded z n (map told (l ++ (a ∷ []))) ≡ padded z n (map told l)
padded-full told z zero l a h = refl
padded-full told z (suc n) [] a h = absurd (omega arith)
padded-full told z (suc n) (b ∷ l) a h = ap (λ t. told b ∷ t) (padded-full told z n l a (omega arith))

-- ## Entries

-- at the head of a loop over a list's entries: acc were read, count in all, and the first n of them are kept in items
pub record Entries {A B : Type 0} (F : Format A) (told : A → B) (z : B) (n : ℕ) (s : List ℕ) (start : ℕ) (items : List B) (count at : ℕ) : Type 0 where
  pub acc : List A
  pub fuel : ℕ
  pub many : length acc ≡ count
  pub kept : items ≡ padded z n (map told acc)
  pub rest : (list F).read s start ≡ prepend acc (read_items F (suc fuel) s at)
  pub enough : length s * 8 ≤ fuel + at
  pub bound : count ≤ at

module _ {A B : Type 0} (F : Format A) (told : A → B) (z : B) (n : ℕ) (s : List ℕ) (start : ℕ) where
  pub entries_begin : (items : List B) → items ≡ replicate n z → Entries F told z n s start items 0 start
  entries_begin items e =
      record {
        acc = [];
        fuel = length s * 8;
        many = refl;
        kept = e ∙ sym (padded-none z n);
        rest = ap (λ k. read_items F k s start) (add-one (length s * 8)) ∙ sym (prepend-nil (read_items F (suc (length s * 8)) s start));
        enough = omega arith;
        bound = omega arith;
      }

  -- none were read
  pub entries_none : (items : List B) (e : items ≡ replicate n z) → (entries_begin items e).acc ≡ []
  unfolding entries_begin
  entries_none items e = refl

  module _ (items : List B) (count at : ℕ) (i : Entries F told z n s start items count at) where
    pub entries-short : Short ≡ fetched s at 1 → (list F).read s start ≡ bad (ran_out at)
    entries-short e = i.rest ∙ items-short F s at i.fuel i.acc e

    pub entries-end : (f : ℕ) → Bits f ≡ fetched s at 1 → f ≡ 0 → (list F).read s start ≡ ok i.acc (at + 1)
    entries-end f e y = i.rest ∙ items-end F s at i.fuel i.acc f e y ∙ simp append-nil

    pub entries-bad : (f : ℕ) (r : Refusal) → Bits f ≡ fetched s at 1 → (f ≡ 0 → ⊥) → F.read s (at + 1) ≡ bad r → (list F).read s start ≡ bad r
    entries-bad f r e y x = i.rest ∙ items-bad F s at i.fuel i.acc f r e y x

    -- the list goes on behind an entry
    on : (f : ℕ) (a : A) (q : ℕ) (new : List B) → Bits f ≡ fetched s at 1 → (f ≡ 0 → ⊥) → F.read s (at + 1) ≡ ok a q → at + 1 ≤ q
        → new ≡ padded z n (map told (i.acc ++ (a ∷ []))) → Entries F told z n s start new (count + 1) q
    on f a q new e y x l k =
        let w = (found s at 1 f e).within in
        let c : i.fuel ≡ suc (i.fuel - 1) = omega (arith, i.enough) in
        record {
          acc = i.acc ++ (a ∷ []);
          fuel = i.fuel - 1;
          many = length-append i.acc (a ∷ []) ∙ omega (arith, i.many);
          kept = k;
          rest =
              i.rest ∙ items-next F s at i.fuel i.acc f a q e y x
              ∙ ap (λ m. prepend (i.acc ++ (a ∷ [])) (read_items F m s q)) c;
          enough = omega (arith, i.enough);
          bound = omega (arith, i.bound);
        }

    -- an entry that has a place, and one that has none
    pub entries-kept : (f : ℕ) (a : A) (q : ℕ) (b : B) → Bits f ≡ fetched s at 1 → (f ≡ 0 → ⊥) → F.read s (at + 1) ≡ ok a q → at + 1 ≤ q
        → count < n → b ≡ told a → Entries F told z n s start (set items count b) (count + 1) q
    entries-kept f a q b e y x l h g =
        on f a q (set items count b) e y x l
        (ap₂ (λ t j. set t j b) i.kept (sym i.many) ∙ ap (set (padded z n (map told i.acc)) (length i.acc)) g
        ∙ sym (padded-more told z n i.acc a (omega (arith, i.many))))

    pub entries-counted : (f : ℕ) (a : A) (q : ℕ) → Bits f ≡ fetched s at 1 → (f ≡ 0 → ⊥) → F.read s (at + 1) ≡ ok a q → at + 1 ≤ q
        → n ≤ count → Entries F told z n s start items (count + 1) q
    entries-counted f a q e y x l h = on f a q items e y x l (i.kept ∙ sym (padded-full told z n i.acc a (omega (arith, i.many))))

    -- and what was read then
    pub kept-acc : (f : ℕ) (a : A) (q : ℕ) (b : B) (e : Bits f ≡ fetched s at 1) (y : f ≡ 0 → ⊥) (x : F.read s (at + 1) ≡ ok a q) (l : at + 1 ≤ q) (h : count < n)
        (g : b ≡ told a) → (entries-kept f a q b e y x l h g).acc ≡ i.acc ++ (a ∷ [])
    unfolding entries-kept on
    kept-acc f a q b e y x l h g = refl

    pub counted-acc : (f : ℕ) (a : A) (q : ℕ) (e : Bits f ≡ fetched s at 1) (y : f ≡ 0 → ⊥) (x : F.read s (at + 1) ≡ ok a q) (l : at + 1 ≤ q) (h : n ≤ count)
        → (entries-counted f a q e y x l h).acc ≡ i.acc ++ (a ∷ [])
    unfolding entries-counted on
    counted-acc f a q e y x l h = refl

-- ## How many entries fit

-- a list whose every entry takes w bits at least, and a bit that leads it
pub items-many : {A : Type 0} (F : Format A) (w : ℕ) → ((n p : ℕ) (a : A) → F.fits a → w ≤ length (F.bits n p a))
    → (n p : ℕ) (l : List A) → ItemsFit F l → length l * (w + 1) < length (items_bits F n p l)
items-many F w long n p [] f = omega arith
items-many F w long n p (a ∷ l) f =
    let xs : List ℕ = F.bits n (p + 1) a in
    let q : ℕ = p + 1 + length xs in
    rw (suc-mul (length l) (w + 1), length-append xs (items_bits F n q l)) (omega (arith, long n (p + 1) a f.0, items-many F w long n q l f.1))

-- ## Fields

-- at the head of a loop over a row's fields: the first k stand in parts
pub record Fields (ws s : List ℕ) (start : ℕ) (parts : List ℕ) (k at : ℕ) : Type 0 where
  pub upto : k ≤ length ws
  pub long : length parts ≡ length ws
  pub here : start + total ws ≡ at + total (drop k ws)
  pub within : at ≤ length s * 8
  pub rest : fields_at ws s start ≡ take k parts ++ fields_at (drop k ws) s at

module _ (ws s : List ℕ) (start : ℕ) where
  pub fields_begin : (parts : List ℕ) → length parts ≡ length ws → start ≤ length s * 8 → Fields ws s start parts 0 start
  fields_begin parts e l = record { upto = omega arith; long = e; here = refl; within = l; rest = refl }

  module _ (parts : List ℕ) (k at : ℕ) (i : Fields ws s start parts k at) where
    pub fields_next : (v : ℕ) → k < length ws → Bits v ≡ fetched s at (get_or ws k 0) → Fields ws s start (set parts k v) (k + 1) (at + get_or ws k 0)
    fields_next v h e =
        let w : ℕ = get_or ws k 0 in
        let f = found s at w v e in
        let d : drop k ws ≡ w ∷ drop (suc k) ws = drop-cons ws k 0 h in
        record {
          upto = omega arith;
          long = length-set parts k v ∙ i.long;
          here = i.here ∙ ap (λ t. at + total t) d ∙ rw (add-one k) (omega arith);
          within = f.within;
          rest =
              i.rest ∙ ap (λ t. take k parts ++ fields_at t s at) d
              ∙ ap (λ x. take k parts ++ (x ∷ fields_at (drop (suc k) ws) s (at + w))) (sym f.is)
              ∙ sym (append_assoc (take k parts) (v ∷ []) (fields_at (drop (suc k) ws) s (at + w)))
              ∙ rw (add-one k, take-suc-set parts k v (omega (arith, i.long)));
        }

    pub fields_short : k < length ws → get_or ws k 0 ≤ 64 → Short ≡ fetched s at (get_or ws k 0) → (row ws).read s start ≡ bad (ran_out start)
    fields_short h w e =
        let d : total (drop k ws) ≡ get_or ws k 0 + total (drop (suc k) ws) = ap total (drop-cons ws k 0 h) in
        rw (lt-leb (start + total ws) (length s * 8) (omega (arith, i.here, missing s at (get_or ws k 0) w e)))

    pub fields_end : length ws ≤ k → (row ws).read s start ≡ ok parts at
    fields_end h =
        let d : drop k ws ≡ [] = drop_of_length-le ws {i = k} h in
        let n : start + total ws ≡ at = i.here ∙ ap (λ t. at + total t) d ∙ omega arith in
        let p : fields_at ws s start ≡ parts =
        i.rest ∙ ap (λ t. take k parts ++ fields_at t s at) d ∙ append-nil (take k parts) ∙ take_all k parts (omega (arith, i.long)) in
        rw (le-leb (start + total ws) (length s * 8) (omega (arith, i.within))) (ap₂ (λ x y. ok x y) p n)
