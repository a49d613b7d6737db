-- The fields that reading meets, in order: each number, flag and L/H bit of a grammar that is there. Assumes nothing.
use Rattle.std.specs.Prelude.{List, [], ◌∷◌, ◌++◌, ℕ, zero, suc, ◌+◌, ◌*◌, length, leb, eqb}
use Rattle.bits.specs.Field.{field, pick}
use Rattle.csn1.specs.Format.{Res, ok, bad, Format, num, total}
use Rattle.csn1.specs.Grammar.{Grammar, number, numbers, low-high, ◌and◌, ◌then_by◌, flagged, listed, later, one_of, only_if, refuse, inside, format}
use Rattle.csn1.specs.Told.{lead}
use Rattle.arrays.specs.Runs.{stored}

-- a field that was met: what it is, the number of its first bit, how many bits it has, and the number in them
pub record Met : Type 0 where
  pub kind : ℕ
  pub place : ℕ
  pub width : ℕ
  pub value : ℕ

-- ## The kinds of a grammar's fields, laid out as the grammar is

pub data Kinds : Type 0 where
  -- of number and low-high
  one : ℕ → Kinds
  -- of numbers
  row : List ℕ → Kinds
  -- of _and_ and _then-by_
  pair : Kinds → Kinds → Kinds
  -- of flagged, listed and later: the flag's, and the part's
  led : ℕ → Kinds → Kinds
  -- of one_of: the bit's, and those of the two
  choice : ℕ → Kinds → Kinds → Kinds

abbrev pub kind_of : Kinds → ℕ
kind_of (one k) = k
kind_of (row ks) = 0
kind_of (pair a b) = 0
kind_of (led k a) = k
kind_of (choice k a b) = k

abbrev pub row_of : Kinds → List ℕ
row_of (one k) = []
row_of (row ks) = ks
row_of (pair a b) = []
row_of (led k a) = []
row_of (choice k a b) = []

abbrev pub first_of : Kinds → Kinds
first_of (one k) = one k
first_of (row ks) = row ks
first_of (pair a b) = a
first_of (led k a) = led k a
first_of (choice k a b) = a

abbrev pub second_of : Kinds → Kinds
second_of (one k) = one k
second_of (row ks) = row ks
second_of (pair a b) = b
second_of (led k a) = led k a
second_of (choice k a b) = b

abbrev pub part_of : Kinds → Kinds
part_of (one k) = one k
part_of (row ks) = row ks
part_of (pair a b) = pair a b
part_of (led k a) = a
part_of (choice k a b) = choice k a b

-- ## What is met of a format

abbrev pub met_at : ℕ → ℕ → List ℕ → ℕ → Met
met_at k w s p = record { kind = k; place = p; width = w; value = field s p w }

-- the one field of w bits at p, where they are there
abbrev pub one_met : ℕ → ℕ → List ℕ → ℕ → List Met
one_met k w s p = pick (leb (p + w) (length s * 8)) (met_at k w s p ∷ []) []

-- fields side by side, from p on
abbrev pub side_by_side : List ℕ → List ℕ → List ℕ → ℕ → List Met
side_by_side ks [] s p = []
side_by_side [] (w ∷ ws) s p = met_at 0 w s p ∷ side_by_side [] ws s (p + w)
side_by_side (k ∷ ks) (w ∷ ws) s p = met_at k w s p ∷ side_by_side ks ws s (p + w)

-- where the bits of all of them are there
abbrev pub row_met : List ℕ → List ℕ → List ℕ → ℕ → List Met
row_met ks ws s p = pick (leb (p + total ws) (length s * 8)) (side_by_side ks ws s p) []

-- behind what was read; nothing behind what was refused
abbrev pub behind : {A : Type 0} → Res A → (A → ℕ → List Met) → List Met
behind (ok a q) f = f a q
behind (bad r) f = []

-- the flag of a list's part and the part, again and again, and the 0 that closes the list; n bounds how many there are
unfoldable pub met_items : {A : Type 0} → Format A → (ℕ → List Met) → ℕ → ℕ → List ℕ → ℕ → List Met
met_items F part k zero s p = []
met_items F part k (suc n) s p =
    one_met k 1 s p
    ++ behind ((num 1).read s p) (λ b q. pick (eqb b 0) [] (part q ++ behind (F.read s q) (λ a m. met_items F part k n s m)))

-- the L/H bit of a later release, where bits are left
abbrev pub lead_met : ℕ → List ℕ → ℕ → List Met
lead_met k s p = pick (eqb p (length s * 8)) [] (one_met k 1 s p)

-- ## What is met of a grammar

-- the fields that reading at p of the octets s meets; a part that is tested is listed whole, whatever the test says
unfoldable pub met_of : {A : Type 0} → Grammar A → Kinds → List ℕ → ℕ → List Met
met_of (number w) k s p = one_met (kind_of k) w s p
met_of (numbers ws) k s p = row_met (row_of k) ws s p
met_of low-high k s p = one_met (kind_of k) 1 s p
met_of (◌and◌ f g) k s p = met_of f (first_of k) s p ++ behind ((format f).read s p) (λ a q. met_of g (second_of k) s q)
met_of (◌then_by◌ f g) k s p = met_of f (first_of k) s p ++ behind ((format f).read s p) (λ a q. met_of (g a) (second_of k) s q)
met_of (flagged f) k s p = one_met (kind_of k) 1 s p ++ behind ((num 1).read s p) (λ b q. pick (eqb b 0) [] (met_of f (part_of k) s q))
met_of (listed f) k s p = met_items (format f) (λ q. met_of f (part_of k) s q) (kind_of k) (length s * 8 + 1) s p
met_of (later f) k s p = lead_met (kind_of k) s p ++ behind (lead s p) (λ h q. pick h (met_of f (part_of k) s q) [])
met_of (one_of f g) k s p =
    one_met (kind_of k) 1 s p
    ++ behind ((num 1).read s p) (λ b q. pick (eqb b 0) (met_of f (first_of k) s q) (met_of g (second_of k) s q))
met_of (only_if t f) k s p = pick t (met_of f k s p) []
met_of (refuse m t f) k s p = met_of f k s p
met_of (inside m f) k s p = met_of f k s p

-- ## An array that lists fields

-- the n-th field's four numbers in an array, where it has all four places; else the array as it was
abbrev pub put_met : List ℕ → ℕ → Met → List ℕ
put_met l n m = pick (leb (4 * n + 4) (length l)) (stored l (4 * n) (m.kind ∷ m.place ∷ m.width ∷ m.value ∷ [])) l

-- the array with these fields put in, the first of them the n-th
unfoldable pub listing : List ℕ → ℕ → List Met → List ℕ
listing l n [] = l
listing l n (m ∷ ms) = listing (put_met l n m) (n + 1) ms
